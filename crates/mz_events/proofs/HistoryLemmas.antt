-- A list of entries has no first breach exactly where it is a lawful history.
use Rattle.std.proofs.Common.{◌≡◌, ℕ, ◌+◌, ◌<◌, true, false, cond, not, List, [], ◌∷◌, Option, Some, None, refl, ap, sym, ◌∙◌, arith}
use Rattle.std.specs.Prelude.{IsTrue, ◌==◌}
use Rattle.std.specs.List.{list_any}
use Rattle.std.proofs.lemmas.Bool.{and_parts, and_from, eqb-true, eq-eqb, ne_eqb}
use Rattle.mz_base.specs.declared.profile.Profile.{Profile}
use Rattle.mz_events.specs.declared.entry.Entry.{Entry}
use Rattle.mz_events.specs.declared.event.Event.{Event}
use Rattle.mz_events.specs.State.{State, opening}
use Rattle.mz_events.specs.Effect.{after}
use Rattle.mz_events.specs.Rules.{Rule, duty_first, in_turn, first_broken}
use Rattle.mz_events.specs.History.{IsLawful, AreLawful, IsLawfulHistory, Breach, after_entry, after_all, owes_nothing, is_in_turn, first_breach, breach_of, by_ticket}
use Rattle.mz_events.proofs.RuleLemmas.{none_broken, fits_by_none}

abbrev breach : State → Rule → Breach
breach s rule = record { ticket = s.entries; rule = rule }

none≢some : (x : Breach) → ◌≡◌ {A = Option Breach} (Some x) None → ⊥
none≢some x h = cc

-- each entry counts
pub entries-after : (p : Profile) (s : State) (c : ℕ) (e : Event) → (after p s c e).entries ≡ s.entries + 1
unfolding after
entries-after p s c e = refl

module _ (p : Profile) where
  step : (s : State) (e : Entry) (es : List Entry) → is_in_turn s e es ≡ true → first_broken p s e.caller e.event ≡ None → first_breach p s (e ∷ es) ≡ first_breach p (after_entry p s e) es
  unfolding first_breach
  step s e es turn fits = rw (turn, fits) refl

  abbrev by_rule : State → Entry → List Entry → Option Breach
  by_rule s e es = elim (first_broken p s e.caller e.event) [ None ↦ first_breach p (after_entry p s e) es | Some rule ↦ Some (record { ticket = s.entries; rule = rule }) ]

  no_rule : (s : State) (e : Entry) (es : List Entry) → by_rule s e es ≡ None → first_broken p s e.caller e.event ≡ None
  no_rule s e es h =
      elim (first_broken p s e.caller e.event) as (λ o. elim o [ None ↦ first_breach p (after_entry p s e) es | Some rule ↦ Some (breach s rule) ] ≡ None → o ≡ None) [
        | None ↦ λ g. refl
        | Some rule ↦ λ g. absurd (none≢some (breach s rule) g)
      ] h

  -- no breach: the entry stands in its turn, and breaks no rule
  no_breach_first : (s : State) (e : Entry) (es : List Entry) → first_breach p s (e ∷ es) ≡ None → (is_in_turn s e es ≡ true) × (first_broken p s e.caller e.event ≡ None)
  unfolding first_breach
  no_breach_first s e es h =
      elim (is_in_turn s e es) as (λ b. cond b (by_rule s e es) (Some (breach s in_turn)) ≡ None → (b ≡ true) × (first_broken p s e.caller e.event ≡ None)) [
        | true ↦ λ g. (refl, no_rule s e es g)
        | false ↦ λ g. absurd (none≢some (breach s in_turn) g)
      ] h

  no_breach_last : (s : State) → first_breach p s [] ≡ None → IsTrue (owes_nothing s)
  unfolding first_breach
  no_breach_last s h = elim (owes_nothing s) as (λ b. cond b None (Some (breach s duty_first)) ≡ None → b ≡ true) [ true ↦ λ g. refl | false ↦ λ g. absurd (none≢some (breach s duty_first) g) ] h

  pub lawful_by_none : (s : State) (es : List Entry) → first_breach p s es ≡ None → AreLawful p s es × IsTrue (owes_nothing (after_all p s es))
  unfolding AreLawful after_all
  lawful_by_none s [] h = (tt, no_breach_last s h)
  lawful_by_none s (e ∷ es) h =
      let first = no_breach_first s e es h in
      let rest = lawful_by_none (after_entry p s e) es (sym (step s e es first.0 first.1) ∙ h) in
      let turn = and_parts (e.ticket == s.entries) (not (list_any (λ d. d.ticket == e.ticket) es)) first.0 in
      let now : IsLawful p s e = record { in_turn = eqb-true e.ticket s.entries turn.0; fits = fits_by_none p s e.caller e.event first.1 } in
      ((now, rest.0), rest.1)

  -- the tickets of later entries are greater
  not_again : (s : State) (t : ℕ) (es : List Entry) → t < s.entries → AreLawful p s es → list_any (λ d. d.ticket == t) es ≡ false
  unfolding AreLawful
  not_again s t [] below lawful = refl
  not_again s t (e ∷ es) below lawful =
      let counted = entries-after p s e.caller e.event in
      let other : (e.ticket == t) ≡ false = ne_eqb e.ticket t (λ same. omega (arith, lawful.0.in_turn)) in
      rw other (not_again (after_entry p s e) t es (omega arith) lawful.1)

  pub none_by_lawful : (s : State) (es : List Entry) → AreLawful p s es → IsTrue (owes_nothing (after_all p s es)) → first_breach p s es ≡ None
  unfolding AreLawful after_all first_breach
  none_by_lawful s [] lawful settled = rw settled refl
  none_by_lawful s (e ∷ es) lawful settled =
      let counted = entries-after p s e.caller e.event in
      let again = not_again (after_entry p s e) e.ticket es (omega (arith, lawful.0.in_turn)) lawful.1 in
      let turn : is_in_turn s e es ≡ true = and_from (e.ticket == s.entries) (not (list_any (λ d. d.ticket == e.ticket) es)) (eq-eqb e.ticket s.entries lawful.0.in_turn) (ap not again) in
      step s e es turn (none_broken p s e.caller e.event lawful.0.fits) ∙ none_by_lawful (after_entry p s e) es lawful.1 settled

  pub lawful_history_by_none : (es : List Entry) → breach_of p es ≡ None → IsLawfulHistory p es
  lawful_history_by_none es h =
      let both = lawful_by_none opening (by_ticket es) h in
      record { each = both.0; settled = both.1 }

  pub none_by_lawful_history : (es : List Entry) → IsLawfulHistory p es → breach_of p es ≡ None
  none_by_lawful_history es h = none_by_lawful opening (by_ticket es) h.each h.settled
