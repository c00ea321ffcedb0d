-- The first rule that an event breaks, by the few rules that speak of it.
use Rattle.std.proofs.Common.{◌≡◌, ℕ, Bool, true, false, cond, List, [], ◌∷◌, refl, sym, subst, not}
use Rattle.std.specs.Prelude.{nat_lt, Option, Some, None, ◌&&◌, ◌||◌}
use Rattle.std.specs.Option.{option_map}
use Rattle.std.proofs.lemmas.Bool.{false≢true, true≢false, and_parts}
use Rattle.mz_base.specs.declared.profile.Profile.{Profile}
use Rattle.mz_events.specs.declared.place.Place.{Place}
use Rattle.mz_events.specs.declared.place.Place.TheVariants.{Pages, Tiny, TinyDepot, Small, SmallDepot, Large, Nano}
use Rattle.mz_events.specs.declared.event.Event.{Event}
use Rattle.mz_events.specs.declared.event.Event.TheVariants.{Take, Back, Move, New, End, Size, Full, Dry, No, Open, Shut}
use Rattle.mz_events.specs.Places.{is_magazine, is_depot, is_large, is_nano, is_pages, are_pair, exists_in}
use Rattle.mz_events.specs.State.{State}
use Rattle.mz_events.specs.Placement.{fits_apart_there, is_placed}
use Rattle.mz_events.specs.Rules.{stands, zone_stands, meets_duties, places_exist, is_lowest_taken, is_claimed_taken, is_unused_back, is_allowed_back, is_owed_move, is_claimed_move, is_live_there, has_no_room, is_zone_change, Rule, duty_first, existing, takes_lowest, takes_claimed, backs_unused, backs_allowed, moves_in_by_duty, moves_out_claimed, fits_apart, placed, live_there, no_room, zone_changes, number_of, keeps, first_broken}
use Rattle.mz_history.specs.Booked.{first_of_two}

-- the number of the first of these rules that is broken
abbrev first_in : List (Rule × Bool) → Option Rule
first_in [] = None
first_in (r ∷ rs) = cond (not r.1) (Some r.0) (first_in rs)

abbrev pub why_of : Profile → State → ℕ → Event → Option ℕ
why_of p s c e = option_map number_of (first_broken p s c e)

two : (d x a b : Bool) (r q : Rule) → d ≡ true → x ≡ true → option_map number_of (first_in ((duty_first, d) ∷ (existing, x) ∷ (r, a) ∷ (q, b) ∷ [])) ≡ first_of_two (number_of r) a (number_of q) b
two true true true true r q e f = refl
two true true true false r q e f = refl
two true true false b r q e f = refl
two true false a b r q e f = absurd (false≢true f)
two false x a b r q e f = absurd (false≢true e)

one : (d x a : Bool) (r : Rule) (n : ℕ) → d ≡ true → x ≡ true → option_map number_of (first_in ((duty_first, d) ∷ (existing, x) ∷ (r, a) ∷ [])) ≡ first_of_two (number_of r) a n true
one true true true r n e f = refl
one true true false r n e f = refl
one true false a r n e f = absurd (false≢true f)
one false x a r n e f = absurd (false≢true e)

first_false : (d : Bool) (rest : Option Rule) → d ≡ false → option_map number_of (cond (not d) (Some duty_first) rest) ≡ Some 2
first_false false rest e = refl
first_false true rest e = absurd (true≢false e)

second_false : (d x : Bool) (rest : Option Rule) → d ≡ true → x ≡ false → option_map number_of (cond (not d) (Some duty_first) (cond (not x) (Some existing) rest)) ≡ Some 3
second_false true false rest e f = refl
second_false true true rest e f = absurd (true≢false f)
second_false false x rest e f = absurd (false≢true e)

pub owes : (p : Profile) (s : State) (c : ℕ) (e : Event) → meets_duties p s e ≡ false → why_of p s c e ≡ Some 2
unfolding keeps
owes p s c e d = first_false _ _ d

pub missing : (p : Profile) (s : State) (c : ℕ) (e : Event) → meets_duties p s e ≡ true → (nat_lt c p.callers && places_exist p s e) ≡ false → why_of p s c e ≡ Some 3
unfolding keeps
missing p s c e d x = second_false _ _ _ d x

-- rules 2 and 3 are kept
abbrev pub Stand : Profile → State → ℕ → Event → Type 0
Stand p s c e = (meets_duties p s e ≡ true) × ((nat_lt c p.callers && places_exist p s e) ≡ true)

-- a law of one event, for an event that is it
of_it : (P : Event → Type 0) (e d : Event) → e ≡ d → P d → P e
of_it P e d is h = subst P (sym is) h

module _ (p : Profile) (s : State) (c : ℕ) (e : Event) where
  pub of_take : (k : Place) (f w : ℕ) → e ≡ Take k f w → Stand p s c e → why_of p s c e ≡ first_of_two 4 (is_lowest_taken p s (Take k f w)) 5 (is_claimed_taken s c (Take k f w))
  unfolding keeps
  of_take k f w is h = of_it (λ d. Stand p s c d → why_of p s c d ≡ first_of_two 4 (is_lowest_taken p s (Take k f w)) 5 (is_claimed_taken s c (Take k f w))) e (Take k f w) is (λ g. two _ _ _ _ takes_lowest takes_claimed g.0 g.1) h

  pub of_back : (k : Place) (f w : ℕ) → e ≡ Back k f w → Stand p s c e → why_of p s c e ≡ first_of_two 6 (is_unused_back s (Back k f w)) 7 (is_allowed_back s (Back k f w))
  unfolding keeps
  of_back k f w is h = of_it (λ d. Stand p s c d → why_of p s c d ≡ first_of_two 6 (is_unused_back s (Back k f w)) 7 (is_allowed_back s (Back k f w))) e (Back k f w) is (λ g. two _ _ _ _ backs_unused backs_allowed g.0 g.1) h

  pub of_move : (f : ℕ) (j k : Place) → e ≡ Move f j k → Stand p s c e → why_of p s c e ≡ first_of_two 8 (is_owed_move s (Move f j k)) 9 (is_claimed_move s c (Move f j k))
  unfolding keeps
  of_move f j k is h = of_it (λ d. Stand p s c d → why_of p s c d ≡ first_of_two 8 (is_owed_move s (Move f j k)) 9 (is_claimed_move s c (Move f j k))) e (Move f j k) is (λ g. two _ _ _ _ moves_in_by_duty moves_out_claimed g.0 g.1) h

  pub of_new : (k : Place) (a n al : ℕ) → e ≡ New k a n al → Stand p s c e → why_of p s c e ≡ first_of_two 10 (fits_apart_there p s (New k a n al)) 11 (is_placed s (New k a n al))
  unfolding keeps
  of_new k a n al is h = of_it (λ d. Stand p s c d → why_of p s c d ≡ first_of_two 10 (fits_apart_there p s (New k a n al)) 11 (is_placed s (New k a n al))) e (New k a n al) is (λ g. two _ _ _ _ fits_apart placed g.0 g.1) h

  pub of_end : (k : Place) (a n : ℕ) → e ≡ End k a n → Stand p s c e → why_of p s c e ≡ first_of_two 12 (is_live_there s (End k a n)) 12 true
  unfolding keeps
  of_end k a n is h = of_it (λ d. Stand p s c d → why_of p s c d ≡ first_of_two 12 (is_live_there s (End k a n)) 12 true) e (End k a n) is (λ g. one _ _ _ live_there 12 g.0 g.1) h

  pub of_size : (k : Place) (a n m : ℕ) → e ≡ Size k a n m → Stand p s c e → why_of p s c e ≡ first_of_two 10 (fits_apart_there p s (Size k a n m)) 12 (is_live_there s (Size k a n m))
  unfolding keeps
  of_size k a n m is h = of_it (λ d. Stand p s c d → why_of p s c d ≡ first_of_two 10 (fits_apart_there p s (Size k a n m)) 12 (is_live_there s (Size k a n m))) e (Size k a n m) is (λ g. two _ _ _ _ fits_apart live_there g.0 g.1) h

  pub of_full : (k : Place) (n al : ℕ) → e ≡ Full k n al → Stand p s c e → why_of p s c e ≡ first_of_two 13 (has_no_room p s (Full k n al)) 13 true
  unfolding keeps
  of_full k n al is h = of_it (λ d. Stand p s c d → why_of p s c d ≡ first_of_two 13 (has_no_room p s (Full k n al)) 13 true) e (Full k n al) is (λ g. one _ _ _ no_room 13 g.0 g.1) h

  pub of_dry : (z w al : ℕ) → e ≡ Dry z w al → Stand p s c e → why_of p s c e ≡ first_of_two 13 (has_no_room p s (Dry z w al)) 13 true
  unfolding keeps
  of_dry z w al is h = of_it (λ d. Stand p s c d → why_of p s c d ≡ first_of_two 13 (has_no_room p s (Dry z w al)) 13 true) e (Dry z w al) is (λ g. one _ _ _ no_room 13 g.0 g.1) h

  pub of_no : (k : Place) (z a n : ℕ) → e ≡ No k z a n → Stand p s c e → why_of p s c e ≡ first_of_two 12 (is_live_there s (No k z a n)) 12 true
  unfolding keeps
  of_no k z a n is h = of_it (λ d. Stand p s c d → why_of p s c d ≡ first_of_two 12 (is_live_there s (No k z a n)) 12 true) e (No k z a n) is (λ g. one _ _ _ live_there 12 g.0 g.1) h

  pub of_open : (z : ℕ) → e ≡ Open z → Stand p s c e → why_of p s c e ≡ first_of_two 14 (is_zone_change p s (Open z)) 14 true
  unfolding keeps
  of_open z is h = of_it (λ d. Stand p s c d → why_of p s c d ≡ first_of_two 14 (is_zone_change p s (Open z)) 14 true) e (Open z) is (λ g. one _ _ _ zone_changes 14 g.0 g.1) h

  pub of_shut : (z : ℕ) → e ≡ Shut z → Stand p s c e → why_of p s c e ≡ first_of_two 14 (is_zone_change p s (Shut z)) 14 true
  unfolding keeps
  of_shut z is h = of_it (λ d. Stand p s c d → why_of p s c d ≡ first_of_two 14 (is_zone_change p s (Shut z)) 14 true) e (Shut z) is (λ g. one _ _ _ zone_changes 14 g.0 g.1) h

-- ---- which places they name

kind_of : (a b : Bool) → (a && b) ≡ true → a ≡ true
kind_of a b h = (and_parts a b h).0

exists_of : (a b : Bool) → (a && b) ≡ true → b ≡ true
exists_of a b h = (and_parts a b h).1

module _ (p : Profile) (s : State) (c : ℕ) (e : Event) (h : Stand p s c e) where
  there : (d : Event) → e ≡ d → places_exist p s d ≡ true
  there d is = subst (λ x. places_exist p s x ≡ true) is (exists_of (nat_lt c p.callers) (places_exist p s e) h.1)

  pub kind_take : (k : Place) (f w : ℕ) → e ≡ Take k f w → (is_magazine k || is_large k) ≡ true
  kind_take k f w is = kind_of (is_magazine k || is_large k) (stands p s k) (there (Take k f w) is)

  pub kind_back : (k : Place) (f w : ℕ) → e ≡ Back k f w → (is_magazine k || is_depot k || is_large k) ≡ true
  kind_back k f w is = kind_of (is_magazine k || is_depot k || is_large k) (exists_in p k) (there (Back k f w) is)

  pub kind_move : (f : ℕ) (j k : Place) → e ≡ Move f j k → are_pair j k ≡ true
  kind_move f j k is = kind_of (are_pair j k) (stands p s j) (kind_of (are_pair j k && stands p s j) (stands p s k) (there (Move f j k) is))

  pub kind_new : (k : Place) (a n al : ℕ) → e ≡ New k a n al → (is_magazine k || is_large k || is_nano k) ≡ true
  kind_new k a n al is = kind_of (is_magazine k || is_large k || is_nano k) (stands p s k) (there (New k a n al) is)

  not_pages : (b : Bool) → not b ≡ true → b ≡ false
  not_pages false g = refl
  not_pages true g = absurd (false≢true g)

  pub kind_end : (k : Place) (a n : ℕ) → e ≡ End k a n → is_pages k ≡ false
  kind_end k a n is = not_pages (is_pages k) (kind_of (not (is_pages k)) (stands p s k) (there (End k a n) is))

  pub kind_no : (k : Place) (z a n : ℕ) → e ≡ No k z a n → is_pages k ≡ false
  kind_no k z a n is = not_pages (is_pages k) (kind_of (not (is_pages k)) (stands p s k) (kind_of (not (is_pages k) && stands p s k) (zone_stands p s z) (there (No k z a n) is)))

  pub kind_size : (k : Place) (a n m : ℕ) → e ≡ Size k a n m → (is_magazine k || is_depot k) ≡ true
  kind_size k a n m is = kind_of (is_magazine k || is_depot k) (stands p s k) (there (Size k a n m) is)

  pub kind_full : (k : Place) (n al : ℕ) → e ≡ Full k n al → (is_magazine k || is_depot k || is_large k) ≡ true
  kind_full k n al is = kind_of (is_magazine k || is_depot k || is_large k) (stands p s k) (there (Full k n al) is)

-- ---- kinds of a new block's place

pub nano_is : (k : Place) → is_nano k ≡ true → k ≡ Nano
nano_is Nano h = refl
nano_is Pages h = absurd (false≢true h)
nano_is (Tiny z m) h = absurd (false≢true h)
nano_is (TinyDepot z) h = absurd (false≢true h)
nano_is (Small z m) h = absurd (false≢true h)
nano_is (SmallDepot z) h = absurd (false≢true h)
nano_is (Large z) h = absurd (false≢true h)

pub held_kind : (k : Place) → (is_magazine k || is_large k || is_nano k) ≡ true → is_nano k ≡ false → ((is_magazine k || is_large k) ≡ true) × (is_pages k ≡ false)
held_kind Pages h g = absurd (false≢true h)
held_kind (Tiny z m) h g = (refl, refl)
held_kind (TinyDepot z) h g = absurd (false≢true h)
held_kind (Small z m) h g = (refl, refl)
held_kind (SmallDepot z) h g = absurd (false≢true h)
held_kind (Large z) h g = (refl, refl)
held_kind Nano h g = absurd (true≢false g)
