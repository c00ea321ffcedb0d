-- What the calls of a book do to the keepers at home.
use Rattle.std.proofs.Common.{◌≡◌, ℕ, ◌-◌, ◌<◌, ◌==◌, true, false, not, List, [], ◌∷◌, ◌++◌, length, get_or, set, Option, Some, None, is_none, refl, ap, sym, subst, ◌∙◌, arith, eq-eqb, inl, inr, zero, suc}
use Rattle.std.specs.Prelude.{◌&&◌, ◌||◌, map, slice_get}
use Rattle.std.proofs.lemmas.List.{get_or-set_same, get_or-set_other}
use Rattle.std.proofs.lemmas.Bool.{false≢true, cases_Bool, eqb-true}
use Rattle.mz_base.specs.declared.profile.Profile.{Profile}
use Rattle.mz_base.specs.Site.{Site}
use Rattle.mz_events.specs.declared.event.Event.{Event}
use Rattle.mz_events.specs.Places.{Spot}
use Rattle.mz_events.specs.State.{Value, State, value_at, kept_at, opening, look_up}
use Rattle.mz_events.specs.Standing.{Keeping, Stands}
use Rattle.mz_events.specs.History.{AreLawful, after_all}
use Rattle.mz_book.specs.Keepers.{keeper_count, place_at, keeper_spot, is_among}
use Rattle.mz_book.specs.Calls.{without}
use Rattle.mz_book.specs.Rule.{IsThere, AreHome, AreInOneHand}
use Rattle.mz_book.specs.Plain.{site_of, last_site, StandAtFirst}
use Rattle.mz_book.proofs.HeldLemmas.{or_none, or_true, among_snoc, among_without}

module _ {V : Type 0} (keeping : V → Keeping) (x : Site) (p : Profile) where
  abbrev pub Fit : State → ℕ → V → Type 0
  Fit st k v = Stands (keeping v) x p (place_at p k) (value_at st (keeper_spot p k)).kept

  pub hold_home : (st : State) (held : List ℕ) (ks : List (Option V)) (k : ℕ) → length ks ≡ keeper_count p → k < keeper_count p → AreHome keeping x p st held ks → AreHome keeping x p st (held ++ k ∷ []) (set ks k None)
  hold_home st held ks k sized lt h j l = elim (cases_Bool (k == j)) [
    | inl y ↦
        let g : get_or (set ks k None) j None ≡ None = ap (λ i. get_or (set ks k None) i None) (sym (eqb-true k j y)) ∙ get_or-set_same ks k None None (omega arith) in
        let a : is_among (held ++ k ∷ []) j ≡ true = among_snoc j k held ∙ (ap (λ b. is_among held j || b) y ∙ or_true (is_among held j)) in
        ((λ f. absurd (false≢true (sym f ∙ a))), (λ t. ap is_none g))
    | inr n ↦
        let g : get_or (set ks k None) j None ≡ get_or ks j None = get_or-set_other ks k j None None (λ e. false≢true (sym n ∙ eq-eqb k j (sym e))) in
        let a : is_among (held ++ k ∷ []) j ≡ is_among held j = among_snoc j k held ∙ (ap (λ b. is_among held j || b) n ∙ or_none (is_among held j)) in
        let old = h j l in (
          (λ f. let o = old.0 (sym a ∙ f) in (subst (IsThere (Fit st j)) (sym g) o.0, o.1)),
          (λ t. ap is_none g ∙ old.1 (sym a ∙ t)),
        )
  ]

  pub release_home : (st : State) (held : List ℕ) (ks : List (Option V)) (k : ℕ) (v : V) → length ks ≡ keeper_count p → k < keeper_count p → Fit st k v → is_none (value_at st (keeper_spot p k)).duty ≡ true
      → AreHome keeping x p st held ks → AreHome keeping x p st (without k held) (set ks k (Some v))
  release_home st held ks k v sized lt here calm h j l = elim (cases_Bool (j == k)) [
    | inl y ↦
        let same : j ≡ k = eqb-true j k y in
        let g : get_or (set ks k (Some v)) j None ≡ Some v = ap (λ i. get_or (set ks k (Some v)) i None) same ∙ get_or-set_same ks k (Some v) None (omega arith) in
        let a : is_among (without k held) j ≡ false = among_without j k held ∙ ap (λ b. not b && is_among held j) y in
        let P : ℕ → Type 0 = λ i. Fit st i v in (
          (λ f. (subst (IsThere (Fit st j)) (sym g) (subst P (sym same) here), ap (λ i. is_none (value_at st (keeper_spot p i)).duty) same ∙ calm)),
          (λ t. absurd (false≢true (sym a ∙ t))),
        )
    | inr n ↦
        let g : get_or (set ks k (Some v)) j None ≡ get_or ks j None = get_or-set_other ks k j (Some v) None (λ e. false≢true (sym n ∙ eq-eqb j k e)) in
        let a : is_among (without k held) j ≡ is_among held j = among_without j k held ∙ ap (λ b. not b && is_among held j) n in
        let old = h j l in (
          (λ f. let o = old.0 (sym a ∙ f) in (subst (IsThere (Fit st j)) (sym g) o.0, o.1)),
          (λ t. ap is_none g ∙ old.1 (sym a ∙ t)),
        )
  ]

  -- what isn't held stays where the values of its spots stay
  pub note_home : (st st' : State) (held : List ℕ) (ks : List (Option V)) → ((k : ℕ) → k < keeper_count p → is_among held k ≡ false → value_at st (keeper_spot p k) ≡ value_at st' (keeper_spot p k))
      → AreHome keeping x p st held ks → AreHome keeping x p st' held ks
  note_home st st' held ks same h j l =
      let old = h j l in (
        (λ f. let o = old.0 f in
            let P : Value → Type 0 = λ u. IsThere (λ v. Stands (keeping v) x p (place_at p j) u.kept) (get_or ks j None) × (is_none u.duty ≡ true) in
            subst P (same j l f) o),
        old.1,
      )

pub not_none : {A : Type 0} (P : A → Type 0) (o : Option A) → IsThere P o → o ≡ None → ⊥
not_none P o h e = subst (IsThere P) e h

pub some_at : {A : Type 0} (P : A → Type 0) (o : Option A) (v : A) → IsThere P o → o ≡ Some v → P v
some_at P o v h e = subst (IsThere P) e h

pub none_some : {A : Type 0} (o : Option A) (v : A) → is_none o ≡ true → o ≡ Some v → ⊥
none_some o v h e = false≢true (ap is_none (sym e) ∙ h)

pub none_duty : (d : Option Event) → is_none d ≡ true → d ≡ None
none_duty None h = refl
none_duty (Some e) h = absurd (false≢true h)

pub get_or_any : {A : Type 0} (xs : List A) (k : ℕ) (a b : A) → k < length xs → get_or xs k a ≡ get_or xs k b
get_or_any [] k a b h = absurd (omega arith)
get_or_any (x ∷ xs) zero a b h = refl
get_or_any (x ∷ xs) (suc k) a b h = get_or_any xs k a b (omega arith)

-- the opening state

at_same : {V : Type 0} (keeping : V → Keeping) (P : Keeping → Type 0) (vs : List V) (k : ℕ) → IsThere P (slice_get (map keeping vs) k) → IsThere (λ v. P (keeping v)) (get_or (map Some vs) k None)
at_same keeping P [] k h = absurd h
at_same keeping P (v ∷ vs) zero h = h
at_same keeping P (v ∷ vs) (suc k) h = at_same keeping P vs k h

pub open_home : {V : Type 0} (keeping : V → Keeping) (p : Profile) (vs : List V) → StandAtFirst p (map keeping vs) → AreHome keeping (last_site (map keeping vs)) p (after_all p opening []) [] (map Some vs)
unfolding after_all look_up
open_home keeping p vs h k l = ((λ f. (at_same keeping _ vs k (h.each k l), refl)), (λ t. absurd (false≢true t)))

pub last_site_is : {V : Type 0} (keeping : V → Keeping) (vs : List V) (d : V) → 0 < length vs → last_site (map keeping vs) ≡ site_of (keeping (get_or vs (length vs - 1) d))
last_site_is keeping [] d h = absurd (omega arith)
last_site_is keeping (v ∷ []) d h = refl
last_site_is keeping (v ∷ w ∷ vs) d h =
    let e : length (v ∷ w ∷ vs) - 1 ≡ suc (length (w ∷ vs) - 1) = omega arith in
    last_site_is keeping (w ∷ vs) d (omega arith) ∙ sym (ap (λ i. site_of (keeping (get_or (v ∷ w ∷ vs) i d))) e)

pub lawful_none : (p : Profile) → AreLawful p opening []
unfolding AreLawful
lawful_none p = tt

pub open_live : (p : Profile) (j : Spot) → (kept_at (after_all p opening []) j).live ≡ []
unfolding after_all look_up
open_live p j = refl

pub open_hands : (p : Profile) → AreInOneHand (after_all p opening []) []
unfolding after_all
open_hands p b = refl
