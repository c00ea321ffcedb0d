-- Where duties can stand: at places that have a keeper, and never at a page of nano.
use Rattle.std.proofs.Common.{◌≡◌, ℕ, Bool, true, false, ◌<◌, List, [], ◌∷◌, arith, subst, refl, ap, sym, ◌∙◌, inl, inr, None, is_none}
use Rattle.std.specs.Prelude.{◌||◌, ◌⊎◌, nat_lt}
use Rattle.std.proofs.lemmas.Bool.{cases_Bool, and_parts, false≢true}
use Rattle.std.proofs.lemmas.Bool.Decides.{nat_tests}
use Rattle.mz_base.specs.declared.profile.Profile.{Profile}
use Rattle.mz_events.specs.declared.place.Place.{Place}
use Rattle.mz_events.specs.declared.place.Place.TheVariants.{Pages, Tiny, TinyDepot, Small, SmallDepot, Large, Nano}
use Rattle.mz_events.specs.declared.entry.Entry.{Entry}
use Rattle.mz_events.specs.declared.event.Event.{Event}
use Rattle.mz_events.specs.declared.event.Event.TheVariants.{Take, Back, Move, New, End, Size, Full, Dry, No, Open, Shut}
use Rattle.mz_events.specs.Places.{is_magazine, is_nano, depot_of, exists_in, Spot, keeper_at, nano_page, same_spot, spot_of, spot_at}
use Rattle.mz_events.specs.State.{State, opening, value_at, look_up}
use Rattle.mz_events.specs.Effect.{touches, after}
use Rattle.mz_events.specs.Rules.{Fits}
use Rattle.mz_events.specs.History.{AreLawful, after_entry, after_all}
use Rattle.mz_book.specs.HistoryLaws.{HistoryLaws}
use Rattle.mz_book.specs.Keepers.{keeper_count, keeper_of, keeper_spot}
use Rattle.mz_book.proofs.ListLemmas.{or_elim}
use Rattle.mz_book.proofs.HomeLemmas.{none_duty}
use Rattle.mz_book.proofs.NumberLemmas.{number_below, place_number}

-- the spot is that of a place with a keeper
abbrev HasKeeper : Profile → Spot → Type 0
HasKeeper p j = (q : Place) × ((j ≡ spot_of q) × ((is_nano q ≡ false) × (exists_in p q ≡ true)))

abbrev pub IsOwedByKeepers : Profile → State → Type 0
IsOwedByKeepers p s = (j : Spot) → ((value_at s j).duty ≡ None) ⊎ HasKeeper p j

at_first : (p : Profile) → IsOwedByKeepers p opening
unfolding look_up
at_first p j = inl refl

depot_there : (p : Profile) (m : Place) → is_magazine m ≡ true → exists_in p m ≡ true → (is_nano m ≡ false) × ((is_nano (depot_of m) ≡ false) × (exists_in p (depot_of m) ≡ true))
depot_there p (Tiny z m) h e = (refl, (refl, (and_parts (nat_lt z p.zones) (nat_lt m p.magazines) e).0))
depot_there p (Small z m) h e = (refl, (refl, (and_parts (nat_lt z p.zones) (nat_lt m p.magazines) e).0))
depot_there p Pages h e = absurd (false≢true h)
depot_there p (TinyDepot z) h e = absurd (false≢true h)
depot_there p (SmallDepot z) h e = absurd (false≢true h)
depot_there p (Large z) h e = absurd (false≢true h)
depot_there p Nano h e = absurd (false≢true h)

module _ (L : HistoryLaws) (p : Profile) (s : State) (c : ℕ) where
  one_of : (i j : Spot) → (same_spot j i || false) ≡ true → j ≡ i
  one_of i j h = (L.spots j i).0 (or_elim (same_spot j i) false (λ y. y) (λ y. absurd (false≢true y)) h)

  two_of : (i k j : Spot) → (same_spot j i || (same_spot j k || false)) ≡ true → (j ≡ i) ⊎ (j ≡ k)
  two_of i k j h = or_elim (same_spot j i) (same_spot j k || false) (λ y. inl ((L.spots j i).0 y)) (λ y. inr (one_of k j y)) h

  -- what an end leaves
  ended : (k : Place) (a n : ℕ) (j : Spot) → Fits p s c (End k a n) → j ≡ spot_at k a → touches p (End k a n) j ≡ true → ((value_at (after p s c (End k a n)) j).duty ≡ None) ⊎ HasKeeper p j
  ended Pages a n j f e y = inr (Pages, (e, (refl, refl)))
  ended (Tiny z m) a n j f e y = inr (Tiny z m, (e, (refl, (((L.fits p s c).ends (Tiny z m) a n).0 f).standing.exists)))
  ended (TinyDepot z) a n j f e y = inr (TinyDepot z, (e, (refl, (((L.fits p s c).ends (TinyDepot z) a n).0 f).standing.exists)))
  ended (Small z m) a n j f e y = inr (Small z m, (e, (refl, (((L.fits p s c).ends (Small z m) a n).0 f).standing.exists)))
  ended (SmallDepot z) a n j f e y = inr (SmallDepot z, (e, (refl, (((L.fits p s c).ends (SmallDepot z) a n).0 f).standing.exists)))
  ended (Large z) a n j f e y = inr (Large z, (e, (refl, (((L.fits p s c).ends (Large z) a n).0 f).standing.exists)))
  ended Nano a n j f e y = inl (ap (λ v. v.duty) (L.touched p s c (End Nano a n) j y))

  of_pair : (f : ℕ) (from to : Place) (j : Spot) → Fits p s c (Move f from to) → (j ≡ spot_of from) ⊎ (j ≡ spot_of to) → HasKeeper p j
  of_pair f from to j fit at = elim ((L.fits p s c).move_kind f from to fit) [
    | inl h ↦
        let may = ((L.fits p s c).put_aside from f h.0).0 (subst (λ (q : Place). Fits p s c (Move f from q)) h.1 fit) in
        let d = depot_there p from h.0 may.standing.exists in
        elim at [ inl e ↦ (from, (e, (d.0, may.standing.exists))) | inr e ↦ (depot_of from, (e ∙ ap spot_of h.1, (d.1.0, d.1.1))) ]
    | inr h ↦
        let may = ((L.fits p s c).take_out to f h.0).0 (subst (λ (q : Place). Fits p s c (Move f q to)) h.1 fit) in
        let d = depot_there p to h.0 may.standing.exists in
        elim at [ inl e ↦ (depot_of to, (e ∙ ap spot_of h.1, (d.1.0, d.1.1))) | inr e ↦ (to, (e, (d.0, may.standing.exists))) ]
  ]

  of_dry : (z w al : ℕ) (j : Spot) → Fits p s c (Dry z w al) → (j ≡ spot_of Pages) ⊎ (j ≡ spot_of (Large z)) → HasKeeper p j
  of_dry z w al j fit at =
      let may = ((L.fits p s c).dry z w al).0 fit in
      let l : nat_lt z p.zones ≡ true = grind (arith, nat_tests, may.zone) in
      elim at [ inl e ↦ (Pages, (e, (refl, refl))) | inr e ↦ (Large z, (e, (refl, l))) ]

  touched_duty : (e : Event) (j : Spot) → Fits p s c e → touches p e j ≡ true → ((value_at (after p s c e) j).duty ≡ None) ⊎ HasKeeper p j
  touched_duty (End k a n) j f y = ended k a n j f (one_of (spot_at k a) j y) y
  touched_duty (Move g from to) j f y = inr (of_pair g from to j f (two_of (spot_of from) (spot_of to) j y))
  touched_duty (Dry z w al) j f y = inr (of_dry z w al j f (two_of (spot_of Pages) (spot_of (Large z)) j y))
  touched_duty (Take k g w) j f y = inl (ap (λ v. v.duty) (L.touched p s c (Take k g w) j y))
  touched_duty (Back k g w) j f y = inl (ap (λ v. v.duty) (L.touched p s c (Back k g w) j y))
  touched_duty (New k a n al) j f y = inl (ap (λ v. v.duty) (L.touched p s c (New k a n al) j y))
  touched_duty (Size k a n m) j f y = inl (ap (λ v. v.duty) (L.touched p s c (Size k a n m) j y))
  touched_duty (Full k n al) j f y = inl (ap (λ v. v.duty) (L.touched p s c (Full k n al) j y))
  touched_duty (No k z a n) j f y = inl (ap (λ v. v.duty) (L.touched p s c (No k z a n) j y))
  touched_duty (Open z) j f y = inl (ap (λ v. v.duty) (L.touched p s c (Open z) j y))
  touched_duty (Shut z) j f y = inl (ap (λ v. v.duty) (L.touched p s c (Shut z) j y))

  one_more : (e : Event) → Fits p s c e → IsOwedByKeepers p s → IsOwedByKeepers p (after p s c e)
  one_more e f d j = elim (cases_Bool (touches p e j)) [
    | inl y ↦ touched_duty e j f y
    | inr n ↦ elim (d j) [
      | inl h ↦ inl (ap (λ v. v.duty) (L.untouched p s c e j n) ∙ h)
      | inr h ↦ inr h
    ]
  ]

all_more : (L : HistoryLaws) (p : Profile) (s : State) (es : List Entry) → AreLawful p s es → IsOwedByKeepers p s → IsOwedByKeepers p (after_all p s es)
unfolding after_all AreLawful
all_more L p s [] ok d = d
all_more L p s (e ∷ es) ok d = all_more L p (after_entry p s e) es ok.1 (one_more L p s e.caller e.event ok.0.fits d)

pub owed_by_keepers : (L : HistoryLaws) (p : Profile) (es : List Entry) → AreLawful p opening es → IsOwedByKeepers p (after_all p opening es)
owed_by_keepers L p es ok = all_more L p opening es ok (at_first p)

abbrev is_page : Spot → Bool
is_page (keeper_at k) = false
is_page (nano_page i) = true

no_page : (q : Place) → is_nano q ≡ false → is_page (spot_of q) ≡ false
no_page Pages n = refl
no_page (Tiny z m) n = refl
no_page (TinyDepot z) n = refl
no_page (Small z m) n = refl
no_page (SmallDepot z) n = refl
no_page (Large z) n = refl
no_page Nano n = absurd (false≢true (sym n))

pub page_is_no_place : (i : ℕ) (q : Place) → is_nano q ≡ false → nano_page i ≡ spot_of q → ⊥
page_is_no_place i q n e = false≢true (sym (no_page q n) ∙ sym (ap is_page e))

-- a page of nano owes nothing
pub page_is_calm : (L : HistoryLaws) (p : Profile) (es : List Entry) (i : ℕ) → AreLawful p opening es → (value_at (after_all p opening es) (nano_page i)).duty ≡ None
page_is_calm L p es i ok = elim (owed_by_keepers L p es ok (nano_page i)) [
  | inl h ↦ h
  | inr h ↦ absurd (page_is_no_place i h.0 h.1.1.0 h.1.0)
]

-- where no keeper's place owes anything, none does
pub all_calm : (L : HistoryLaws) (p : Profile) (es : List Entry) → AreLawful p opening es → ((k : ℕ) → k < keeper_count p → is_none (value_at (after_all p opening es) (keeper_spot p k)).duty ≡ true) → (j : Spot) → (value_at (after_all p opening es) j).duty ≡ None
all_calm L p es ok calm j = elim (owed_by_keepers L p es ok j) [
  | inl h ↦ h
  | inr h ↦
      let q = h.0 in
      let l = number_below p q h.1.1.0 h.1.1.1 in
      let at : keeper_spot p (keeper_of p q) ≡ j = ap spot_of (place_number p q h.1.1.0 h.1.1.1) ∙ sym h.1.0 in
      none_duty _ (ap (λ i. is_none (value_at (after_all p opening es) i).duty) (sym at) ∙ calm (keeper_of p q) l)
]
