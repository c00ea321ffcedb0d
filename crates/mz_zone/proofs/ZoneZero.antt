-- Zone 0 is open after all lawful entries.
use Rattle.std.proofs.Common.{◌≡◌, ℕ, ◌==◌, true, false, not, List, [], ◌∷◌, refl, ap, sym, ◌∙◌, inl, inr, eqb-true}
use Rattle.std.specs.Prelude.{◌&&◌, ◌||◌}
use Rattle.std.proofs.lemmas.Bool.{cases_Bool, or_right}
use Rattle.mz_base.specs.declared.profile.Profile.{Profile}
use Rattle.mz_events.specs.declared.entry.Entry.{Entry}
use Rattle.mz_events.specs.declared.event.Event.{Event}
use Rattle.mz_events.specs.declared.event.Event.TheVariants.{Take, Back, Move, New, End, Size, Full, Dry, No, Open, Shut}
use Rattle.mz_events.specs.State.{State, opening, is_open}
use Rattle.mz_events.specs.Effect.{after}
use Rattle.mz_events.specs.Rules.{Fits}
use Rattle.mz_events.specs.Fitting.{FitsByEvent}
use Rattle.mz_events.specs.Holding.{changes_zones}
use Rattle.mz_events.specs.History.{AreLawful, after_entry, after_all}

-- the laws on which this rests
pub record OpenLaws : Type 0 where
  pub fits : (p : Profile) (s : State) (c : ℕ) → FitsByEvent p s c
  pub others : (p : Profile) (s : State) (c : ℕ) (e : Event) → changes_zones e ≡ false → (z : ℕ) → is_open (after p s c e) z ≡ is_open s z
  pub opened : (p : Profile) (s : State) (c z y : ℕ) → is_open (after p s c (Open z)) y ≡ ((z == y) || is_open s y)
  pub shut : (p : Profile) (s : State) (c z y : ℕ) → is_open (after p s c (Shut z)) y ≡ (not (y == z) && is_open s y)

module _ (L : OpenLaws) (p : Profile) where
  after_event : (s : State) (c : ℕ) (e : Event) → Fits p s c e → is_open s 0 ≡ true → is_open (after p s c e) 0 ≡ true
  after_event s c (Take k f w) fits was = L.others p s c (Take k f w) refl 0 ∙ was
  after_event s c (Back k f w) fits was = L.others p s c (Back k f w) refl 0 ∙ was
  after_event s c (Move f from to) fits was = L.others p s c (Move f from to) refl 0 ∙ was
  after_event s c (New k a n al) fits was = L.others p s c (New k a n al) refl 0 ∙ was
  after_event s c (End k a n) fits was = L.others p s c (End k a n) refl 0 ∙ was
  after_event s c (Size k a n m) fits was = L.others p s c (Size k a n m) refl 0 ∙ was
  after_event s c (Full k n al) fits was = L.others p s c (Full k n al) refl 0 ∙ was
  after_event s c (Dry z w al) fits was = L.others p s c (Dry z w al) refl 0 ∙ was
  after_event s c (No k z a n) fits was = L.others p s c (No k z a n) refl 0 ∙ was
  after_event s c (Open z) fits was = L.opened p s c z 0 ∙ or_right (z == 0) (is_open s 0) was
  after_event s c (Shut z) fits was = elim (cases_Bool (0 == z)) [
    | inl y ↦ absurd ((((L.fits p s c).shuts z).0 fits).not_first (sym (eqb-true 0 z y)))
    | inr n ↦ L.shut p s c z 0 ∙ (ap (λ x. not x && is_open s 0) n ∙ was)
  ]

  through : (s : State) (es : List Entry) → AreLawful p s es → is_open s 0 ≡ true → is_open (after_all p s es) 0 ≡ true
  unfolding AreLawful after_all
  through s [] lawful was = was
  through s (e ∷ es) lawful was = through (after_entry p s e) es lawful.1 (after_event s e.caller e.event lawful.0.fits was)

  pub zero_open : (es : List Entry) → AreLawful p opening es → is_open (after_all p opening es) 0 ≡ true
  zero_open es lawful = through opening es lawful refl
