-- What an audit finds, as numbers.
use Rattle.std.specs.Prelude.{ℕ, ◌==◌, Bool, false, not, ◌&&◌, List, [], ◌∷◌, Option}
use Rattle.std.specs.List.{list_any}
use Rattle.std.specs.Option.{option_map}
use Rattle.mz_base.specs.declared.profile.Profile.{Profile}
use Rattle.mz_events.specs.declared.entry.Entry.{Entry}
use Rattle.mz_events.specs.State.{State}
use Rattle.mz_events.specs.Rules.{number_of, first_broken}
use Rattle.mz_events.specs.History.{Breach}

-- the bad ticket, and the number of the rule that is broken
abbrev pub numbers_of : Breach → ℕ × ℕ
numbers_of b = (b.ticket, number_of b.rule)

-- the number of the first rule that the entry's event breaks
abbrev pub why_of_event : Profile → State → Entry → Option ℕ
why_of_event p s e = option_map number_of (first_broken p s e.caller e.event)

-- the entry has this ticket, and none of those behind it has
abbrev pub has_turn : ℕ → Entry → List Entry → Bool
has_turn ticket e es = (e.ticket == ticket) && not (list_any (λ d. d.ticket == e.ticket) es)

-- the first of the entries has this ticket
abbrev pub heads_with : ℕ → List Entry → Bool
heads_with ticket [] = false
heads_with ticket (d ∷ ds) = d.ticket == ticket
