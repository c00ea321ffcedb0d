-- Lawful entries and lawful histories. This project's own.
use Rattle.std.specs.Prelude.{ℕ, ◌==◌, ◌≡◌, Bool, ◌&&◌, not, List, [], ◌∷◌, Option, Some, None, is_none, IsTrue, if◌then◌else◌}
use Rattle.std.specs.List.{list_any, list_all}
use Rattle.mz_base.specs.declared.profile.Profile.{Profile}
use Rattle.mz_events.specs.declared.entry.Entry.{Entry}
use Rattle.mz_events.specs.State.{State, opening}
use Rattle.mz_base.specs.Lists.{insert_by}
use Rattle.mz_events.specs.Rules.{Rule, in_turn, duty_first, Fits, first_broken}
use Rattle.mz_events.specs.Effect.{after}

-- an entry is lawful on a state where its ticket is the number of entries before it, and its event fits
pub record IsLawful (p : Profile) (s : State) (e : Entry) : Type 0 where
  pub in_turn : e.ticket ≡ s.entries
  pub fits : Fits p s e.caller e.event

-- the state that an entry leaves
abbrev pub after_entry : Profile → State → Entry → State
after_entry p s e = after p s e.caller e.event

-- the state that entries leave, one after another
unfoldable pub after_all : Profile → State → List Entry → State
after_all p s [] = s
after_all p s (e ∷ es) = after_all p (after_entry p s e) es

-- each entry is lawful on the state that those before it leave
unfoldable pub AreLawful : Profile → State → List Entry → Type 0
AreLawful p s [] = Unit {0}
AreLawful p s (e ∷ es) = IsLawful p s e × AreLawful p (after_entry p s e) es

-- no duty stands anywhere
abbrev pub owes_nothing : State → Bool
owes_nothing s = list_all (λ pair. is_none pair.1.duty) s.values

-- the entries in order of their tickets
unfoldable pub by_ticket : List Entry → List Entry
by_ticket [] = []
by_ticket (e ∷ es) = insert_by (λ d. d.ticket) e (by_ticket es)

-- the state that entries leave from the opening state, by ticket
abbrev pub state_of : Profile → List Entry → State
state_of p es = after_all p opening (by_ticket es)

-- A lawful history: by ticket, each entry is lawful on the state that those before it leave, from the
-- opening state, and no duty stands after the last.
pub record IsLawfulHistory (p : Profile) (es : List Entry) : Type 0 where
  pub each : AreLawful p opening (by_ticket es)
  pub settled : IsTrue (owes_nothing (state_of p es))

-- A breach: the first bad ticket, and the first rule that is broken there.
pub record Breach : Type 0 where
  pub ticket : ℕ
  pub rule : Rule

-- whether the entry's ticket is the number of entries so far, and stands only once
abbrev pub is_in_turn : State → Entry → List Entry → Bool
is_in_turn s e es = (e.ticket == s.entries) && not (list_any (λ d. d.ticket == e.ticket) es)

-- the first breach of these entries, which stand in order of their tickets; a duty that stands at the end is
-- one behind the last
unfoldable pub first_breach : Profile → State → List Entry → Option Breach
first_breach p s [] = if owes_nothing s then None else Some (record { ticket = s.entries; rule = duty_first })
first_breach p s (e ∷ es) =
    if is_in_turn s e es
    then elim (first_broken p s e.caller e.event) [
      | None ↦ first_breach p (after_entry p s e) es
      | Some rule ↦ Some (record { ticket = s.entries; rule = rule })
    ]
    else Some (record { ticket = s.entries; rule = in_turn })

-- the first breach of a list of entries as a history
abbrev pub breach_of : Profile → List Entry → Option Breach
breach_of p es = first_breach p opening (by_ticket es)
