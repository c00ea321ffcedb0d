-- The laws of histories on which this crate stands, together.
use Rattle.std.specs.Prelude.{◌≡◌, ℕ, ◌+◌, ◌==◌, Bool, true, false, ◌&&◌, ◌||◌, not, List, [], ◌∷◌, ◌++◌, length, IsTrue, ◌↔◌}
use Rattle.mz_base.specs.declared.profile.Profile.{Profile}
use Rattle.mz_base.specs.Space.{Block}
use Rattle.mz_base.specs.Lists.{has_block}
use Rattle.mz_events.specs.declared.entry.Entry.{Entry}
use Rattle.mz_events.specs.declared.event.Event.{Event}
use Rattle.mz_events.specs.declared.event.Event.TheVariants.{Open, Shut}
use Rattle.mz_events.specs.Places.{Spot, same_spot}
use Rattle.mz_events.specs.State.{State, opening, value_at, kept_at, is_open}
use Rattle.mz_events.specs.Effect.{touches, value_after, after}
use Rattle.mz_events.specs.History.{IsLawful, AreLawful, after_entry, after_all, owes_nothing, IsLawfulHistory}
use Rattle.mz_events.specs.Locality.{reads}
use Rattle.mz_events.specs.Sameness.{IsOnce, IsBySpot}
use Rattle.mz_events.specs.Separation.{IsSeparate, IsAscending}
use Rattle.mz_events.specs.Bounds.{RunsFit}
use Rattle.mz_events.specs.Forms.{HasForm}
use Rattle.mz_events.specs.Fitting.{FitsByEvent}
use Rattle.mz_events.specs.Holding.{changes_zones, AreAway, IsKnownThrough}

pub record HistoryLaws : Type 0 where
  pub touched : (p : Profile) (s : State) (c : ℕ) (e : Event) (j : Spot) → touches p e j ≡ true → value_at (after p s c e) j ≡ value_after s c e j
  pub untouched : (p : Profile) (s : State) (c : ℕ) (e : Event) (j : Spot) → touches p e j ≡ false → value_at (after p s c e) j ≡ value_at s j
  pub touched_is_read : (p : Profile) (e : Event) (j : Spot) → touches p e j ≡ true → reads p e j ≡ true
  pub spots : (j k : Spot) → (same_spot j k ≡ true) ↔ (j ≡ k)
  pub none : (p : Profile) (s : State) → AreLawful p s []
  pub one : (p : Profile) (s : State) (e : Entry) → AreLawful p s (e ∷ []) ↔ IsLawful p s e
  pub joined : (p : Profile) (s : State) (xs ys : List Entry) → AreLawful p s (xs ++ ys) ↔ (AreLawful p s xs × AreLawful p (after_all p s xs) ys)
  pub after_none : (p : Profile) (s : State) → after_all p s [] ≡ s
  pub after_one : (p : Profile) (s : State) (e : Entry) → after_all p s (e ∷ []) ≡ after_entry p s e
  pub after_joined : (p : Profile) (s : State) (xs ys : List Entry) → after_all p s (xs ++ ys) ≡ after_all p (after_all p s xs) ys
  pub counted : (p : Profile) (s : State) (xs : List Entry) → (after_all p s xs).entries ≡ s.entries + length xs
  pub zones : (p : Profile) (s : State) (c : ℕ) (e : Event) → changes_zones e ≡ false → (z : ℕ) → is_open (after p s c e) z ≡ is_open s z
  pub opened : (p : Profile) (s : State) (c z y : ℕ) → is_open (after p s c (Open z)) y ≡ ((z == y) || is_open s y)
  pub shut : (p : Profile) (s : State) (c z y : ℕ) → is_open (after p s c (Shut z)) y ≡ (not (y == z) && is_open s y)
  pub separate : (p : Profile) (es : List Entry) → AreLawful p opening es → IsSeparate p (after_all p opening es)
  pub ascending : (p : Profile) (es : List Entry) → AreLawful p opening es → IsAscending p (after_all p opening es)
  pub runs_fit : (p : Profile) (es : List Entry) → AreLawful p opening es → RunsFit p (after_all p opening es)
  pub forms : (p : Profile) (es : List Entry) (j : Spot) (b : Block) → AreLawful p opening es → IsTrue (has_block (kept_at (after_all p opening es) j).live b) → HasForm (after_all p opening es) j b
  pub once_first : IsOnce opening
  pub once : (p : Profile) (s : State) (es : List Entry) → IsOnce s → IsOnce (after_all p s es)
  pub by_spot : (s : State) → IsOnce s → IsBySpot s
  pub fits : (p : Profile) (s : State) (c : ℕ) → FitsByEvent p s c
  pub history : (p : Profile) (es : List Entry) → AreLawful p opening es → IsTrue (owes_nothing (after_all p opening es)) → IsLawfulHistory p es
  pub known_through : (p : Profile) (c : ℕ) (held : Spot → Bool) (s : State) (es : List Entry) → AreAway p c held es → IsKnownThrough p c held s es
