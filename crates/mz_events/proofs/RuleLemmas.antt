-- The first broken rule, and the rules that are kept.
use Rattle.std.proofs.Common.{◌≡◌, ℕ, zero, suc, ◌<◌, Bool, true, false, cond, not, List, [], ◌∷◌, length, get_or, Some, None, refl, arith, lit<}
use Rattle.std.specs.Prelude.{find, IsTrue, ◌&&◌}
use Rattle.std.specs.List.{list_all}
use Rattle.std.proofs.lemmas.Bool.{and_parts, false≢true}
use Rattle.mz_base.specs.declared.profile.Profile.{Profile}
use Rattle.mz_events.specs.declared.event.Event.{Event}
use Rattle.mz_events.specs.State.{State}
use Rattle.mz_events.specs.Rules.{in_turn, duty_first, existing, takes_lowest, takes_claimed, backs_unused, backs_allowed, moves_in_by_duty, moves_out_claimed, fits_apart, placed, live_there, no_room, zone_changes, keeps, event_rules, Fits, first_broken}

-- where nothing is found, each element fails the test
all_by_none : {A : Type 0} (test : A → Bool) (xs : List A) → find (λ x. not (test x)) xs ≡ None → list_all test xs ≡ true
all_by_none test [] h = refl
all_by_none test (x ∷ xs) h =
    elim (test x) as (λ b. cond (not b) (Some x) (find (λ y. not (test y)) xs) ≡ None → (b && list_all test xs) ≡ true) [
      | true ↦ λ g. all_by_none test xs g
      | false ↦ λ g. cc
    ] h

none_by_all : {A : Type 0} (test : A → Bool) (xs : List A) → list_all test xs ≡ true → find (λ x. not (test x)) xs ≡ None
none_by_all test [] h = refl
none_by_all test (x ∷ xs) h =
    elim (test x) as (λ b. (b && list_all test xs) ≡ true → cond (not b) (Some x) (find (λ y. not (test y)) xs) ≡ None) [
      | true ↦ λ g. none_by_all test xs g
      | false ↦ λ g. absurd (false≢true g)
    ] h

-- where each element passes, the one at an index does
all_at : {A : Type 0} (test : A → Bool) (xs : List A) (i : ℕ) (d : A) → i < length xs → list_all test xs ≡ true → test (get_or xs i d) ≡ true
all_at test [] i d below h = absurd (omega arith)
all_at test (x ∷ xs) zero d below h = (and_parts (test x) (list_all test xs) h).0
all_at test (x ∷ xs) (suc i) d below h = all_at test xs i d (omega arith) (and_parts (test x) (list_all test xs) h).1

module _ (p : Profile) (s : State) (c : ℕ) (e : Event) where
  all_kept : Fits p s c e → list_all (λ r. keeps r p s c e) event_rules ≡ true
  all_kept fits = Prim.search (fits duty_first, fits existing, fits takes_lowest, fits takes_claimed, fits backs_unused, fits backs_allowed, fits moves_in_by_duty, fits moves_out_claimed, fits fits_apart, fits placed, fits live_there, fits no_room, fits zone_changes)

  -- an event that fits breaks no rule
  pub none_broken : Fits p s c e → first_broken p s c e ≡ None
  none_broken fits = none_by_all (λ r. keeps r p s c e) event_rules (all_kept fits)

  kept_at_index : (i : ℕ) → i < length event_rules → list_all (λ r. keeps r p s c e) event_rules ≡ true → IsTrue (keeps (get_or event_rules i in_turn) p s c e)
  kept_at_index i below h = all_at (λ r. keeps r p s c e) event_rules i in_turn below h

  first_kept : IsTrue (keeps in_turn p s c e)
  unfolding keeps
  first_kept = refl

  each_kept : list_all (λ r. keeps r p s c e) event_rules ≡ true → Fits p s c e
  each_kept h in_turn = first_kept
  each_kept h duty_first = kept_at_index 0 (lit< tt) h
  each_kept h existing = kept_at_index 1 (lit< tt) h
  each_kept h takes_lowest = kept_at_index 2 (lit< tt) h
  each_kept h takes_claimed = kept_at_index 3 (lit< tt) h
  each_kept h backs_unused = kept_at_index 4 (lit< tt) h
  each_kept h backs_allowed = kept_at_index 5 (lit< tt) h
  each_kept h moves_in_by_duty = kept_at_index 6 (lit< tt) h
  each_kept h moves_out_claimed = kept_at_index 7 (lit< tt) h
  each_kept h fits_apart = kept_at_index 8 (lit< tt) h
  each_kept h placed = kept_at_index 9 (lit< tt) h
  each_kept h live_there = kept_at_index 10 (lit< tt) h
  each_kept h no_room = kept_at_index 11 (lit< tt) h
  each_kept h zone_changes = kept_at_index 12 (lit< tt) h

  -- and one that breaks none fits
  pub fits_by_none : first_broken p s c e ≡ None → Fits p s c e
  fits_by_none h = each_kept (all_by_none (λ r. keeps r p s c e) event_rules h)
