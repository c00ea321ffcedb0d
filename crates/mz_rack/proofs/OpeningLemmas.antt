-- The keepers of all numbers stand for the places of the opening state.
use Rattle.std.proofs.Common.{◌≡◌, ℕ, ◌+◌, ◌-◌, ◌*◌, ◌/◌, ◌%◌, ◌<◌, ◌≤◌, true, not, List, [], ◌∷◌, ◌++◌, length, get_or, replicate, Some, refl, ap, sym, subst, ◌∙◌, inl, inr, arith, length-append}
use Rattle.std.specs.Prelude.{nat_lt, slice_get}
use Rattle.std.specs.List.{list_any}
use Rattle.std.proofs.lemmas.Bool.{cases_lt, cond-true, cond-false, lt-ltb, le-ltb}
use Rattle.std.proofs.lemmas.List.{length-replicate, get_or-replicate, get_or_append_left, get_or-append_right}
use Rattle.std.proofs.lemmas.List.FromFn.{fill_by_all}
use Rattle.std.proofs.lemmas.Option.{slice_get-get_or}
use Rattle.mz_base.specs.declared.profile.Profile.{Profile}
use Rattle.mz_base.specs.Site.{Site}
use Rattle.mz_base.specs.Space.{Run}
use Rattle.mz_events.specs.declared.place.Place.TheVariants.{Pages}
use Rattle.mz_events.specs.Places.{nano_start}
use Rattle.mz_events.specs.State.{nothing_kept}
use Rattle.mz_events.specs.Separation.{has_page}
use Rattle.mz_events.specs.Standing.{Keeping, of_pages, PagesKept, Stands, StandsForPages, free_pages}
use Rattle.mz_book.specs.Keepers.{zone_keepers, place_in_zone, place_at}
use Rattle.mz_book.specs.Plain.{site_of, last_site, StandAtFirst}
use Rattle.mz_book.specs.Rule.{IsThere}

pub last_is : (vs : List Keeping) (v : Keeping) → last_site (vs ++ v ∷ []) ≡ site_of v
last_is [] v = refl
last_is (w ∷ []) v = refl
last_is (w ∷ u ∷ vs) v = last_is (u ∷ vs) v

-- they stand for the places of zones, one zone after another, whichever their space is
abbrev pub AreOfZones : Profile → List Keeping → Type 0
AreOfZones p vs = (i : ℕ) (d : Keeping) → i < length vs → (x : Site) (z : ℕ) → Stands (get_or vs i d) x p (place_in_zone p z (i % zone_keepers p)) nothing_kept

pub none_yet : (p : Profile) (vs : List Keeping) → length vs ≡ 0 → AreOfZones p vs
none_yet p vs none i d below x z = absurd (omega (arith, none, below))

read_last : (vs : List Keeping) (v d : Keeping) → get_or (vs ++ v ∷ []) (length vs) d ≡ v
read_last vs v d = get_or-append_right vs (v ∷ []) (length vs) (length vs) d refl (omega arith) ∙ ap (λ j. get_or (v ∷ []) j d) (nothing (length vs))
  where
    nothing : (n : ℕ) → n - n ≡ 0
    nothing n = omega arith

pub one_more : (p : Profile) (vs : List Keeping) (v : Keeping) → AreOfZones p vs → ((x : Site) (z : ℕ) → Stands v x p (place_in_zone p z (length vs % zone_keepers p)) nothing_kept) → AreOfZones p (vs ++ v ∷ [])
one_more p vs v all here i d below x z =
    let count = length-append vs (v ∷ []) in
    elim (cases_lt i (length vs)) [
      | inl less ↦ subst (λ w. Stands w x p (place_in_zone p z (i % zone_keepers p)) nothing_kept) (sym (get_or_append_left vs (v ∷ []) d i less)) (all i d less x z)
      | inr more ↦
          let same : i ≡ length vs = omega (arith, count, below, more) in
          subst (λ j. Stands (get_or (vs ++ v ∷ []) j d) x p (place_in_zone p z (j % zone_keepers p)) nothing_kept) (sym same)
          (subst (λ w. Stands w x p (place_in_zone p z (length vs % zone_keepers p)) nothing_kept) (sym (read_last vs v d)) (here x z))
    ]

place_below : (p : Profile) (k : ℕ) → k < p.zones * zone_keepers p → place_at p k ≡ place_in_zone p (k / zone_keepers p) (k % zone_keepers p)
unfolding place_at
place_below p k h = cond-true (nat_lt k (p.zones * zone_keepers p)) (place_in_zone p (k / zone_keepers p) (k % zone_keepers p)) Pages (lt-ltb k (p.zones * zone_keepers p) h)

place_last : (p : Profile) (k : ℕ) → p.zones * zone_keepers p ≤ k → place_at p k ≡ Pages
unfolding place_at
place_last p k h = cond-false (nat_lt k (p.zones * zone_keepers p)) (place_in_zone p (k / zone_keepers p) (k % zone_keepers p)) Pages (le-ltb k (p.zones * zone_keepers p) h)

pub first_pages : (p : Profile) (v : PagesKept) (x : Site) (n : ℕ) → n ≡ nano_start p → v ≡ record { space = x; free = replicate n true; tiny_blanks = n / 64; small_blanks = n / 512 } → StandsForPages v x p Pages nothing_kept
first_pages p v x n count is =
    let tiny : n / 64 + 0 ≡ nano_start p / 64 = ap (λ y. y / 64 + 0) count ∙ plus (nano_start p / 64) in
    let small : n / 512 + 0 ≡ nano_start p / 512 = ap (λ y. y / 512 + 0) count ∙ plus (nano_start p / 512) in
    let free : replicate n true ≡ free_pages p [] =
    ap (λ y. replicate y true) count ∙ fill_by_all (λ i. not (list_any (λ (r : Run). has_page r i) [])) (replicate (nano_start p) true) (nano_start p) true (length-replicate (nano_start p) true) (λ k h. get_or-replicate (nano_start p) k true true h) in
    subst (λ w. StandsForPages w x p Pages nothing_kept) (sym is) (record { kind = refl; space = refl; free = free; tiny = tiny; small = small })
  where
    plus : (m : ℕ) → m + 0 ≡ m
    plus m = omega arith

pub all_stand : (p : Profile) (vs : List Keeping) (v : PagesKept) → AreOfZones p vs → length vs ≡ p.zones * zone_keepers p → StandsForPages v v.space p Pages nothing_kept → StandAtFirst p (vs ++ of_pages v ∷ [])
all_stand p vs v all count pages =
    let ks = vs ++ of_pages v ∷ [] in
    let more = length-append vs (of_pages v ∷ []) in
    record {
      count = more ∙ ap (λ n. n + 1) count;
      each = λ k below.
          let there : slice_get ks k ≡ Some (get_or ks k (of_pages v)) = slice_get-get_or ks k (of_pages v) (omega (arith, more, count, below)) in
          subst (λ o. IsThere (λ w. Stands w (last_site ks) p (place_at p k) nothing_kept) o) (sym there) (elim (cases_lt k (length vs)) [
            | inl less ↦
                subst (λ q. Stands (get_or ks k (of_pages v)) (last_site ks) p q nothing_kept) (sym (place_below p k (omega (arith, count, less))))
                (subst (λ w. Stands w (last_site ks) p (place_in_zone p (k / zone_keepers p) (k % zone_keepers p)) nothing_kept) (sym (get_or_append_left vs (of_pages v ∷ []) (of_pages v) k less)) (all k (of_pages v) less (last_site ks) (k / zone_keepers p)))
            | inr past ↦
                let same : k ≡ length vs = omega (arith, count, below, past) in
                subst (λ q. Stands (get_or ks k (of_pages v)) (last_site ks) p q nothing_kept) (sym (place_last p k (omega (arith, count, past))))
                (subst (λ w. Stands w (last_site ks) p Pages nothing_kept) (sym (ap (λ j. get_or ks j (of_pages v)) same ∙ read_last vs (of_pages v) (of_pages v)))
                (subst (λ x. StandsForPages v x p Pages nothing_kept) (sym (last_is vs (of_pages v))) pages))
          ]);
    }
