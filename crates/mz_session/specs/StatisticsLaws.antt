-- The laws of histories on which the statistics rest, together.
use Rattle.std.specs.Prelude.{◌≡◌, ℕ, true, false, List, [], ◌∷◌, ◌++◌, max, ◌↔◌}
use Rattle.mz_base.specs.declared.profile.Profile.{Profile}
use Rattle.mz_events.specs.declared.entry.Entry.{Entry}
use Rattle.mz_events.specs.declared.event.Event.{Event}
use Rattle.mz_events.specs.Places.{Spot}
use Rattle.mz_events.specs.State.{State, opening, value_at, live_size}
use Rattle.mz_events.specs.Effect.{touches, value_after, after}
use Rattle.mz_events.specs.Rules.{Fits}
use Rattle.mz_events.specs.History.{IsLawful, AreLawful, after_entry, after_all}
use Rattle.mz_events.specs.Fitting.{FitsByEvent}
use Rattle.mz_events.specs.Sameness.{IsOnce, IsBySpot}
use Rattle.mz_events.specs.Separation.{IsSeparate, IsAscending}
use Rattle.mz_events.specs.Bounds.{LiveBytesFit, RunsFit}
use Rattle.mz_book.specs.Living.{SumsAfter}

pub record StatisticsLaws : Type 0 where
  pub joined : (p : Profile) (s : State) (xs ys : List Entry) → AreLawful p s (xs ++ ys) ↔ (AreLawful p s xs × AreLawful p (after_all p s xs) ys)
  pub one : (p : Profile) (s : State) (e : Entry) → AreLawful p s (e ∷ []) ↔ IsLawful p s e
  pub after_one : (p : Profile) (s : State) (e : Entry) → after_all p s (e ∷ []) ≡ after_entry p s e
  pub after_joined : (p : Profile) (s : State) (xs ys : List Entry) → after_all p s (xs ++ ys) ≡ after_all p (after_all p s xs) ys
  pub sums : (p : Profile) (es : List Entry) (c : ℕ) (e : Event) → AreLawful p opening es → Fits p (after_all p opening es) c e → SumsAfter e (after_all p opening es) (after p (after_all p opening es) c e)
  pub greatest : (p : Profile) (s : State) (c : ℕ) (e : Event) → (after p s c e).greatest ≡ max s.greatest (live_size (after p s c e).values)
  pub fits : (p : Profile) (s : State) (c : ℕ) → FitsByEvent p s c
  pub touched : (p : Profile) (s : State) (c : ℕ) (e : Event) (j : Spot) → touches p e j ≡ true → value_at (after p s c e) j ≡ value_after s c e j
  pub untouched : (p : Profile) (s : State) (c : ℕ) (e : Event) (j : Spot) → touches p e j ≡ false → value_at (after p s c e) j ≡ value_at s j
  pub separate : (p : Profile) (es : List Entry) → AreLawful p opening es → IsSeparate p (after_all p opening es)
  pub ascending : (p : Profile) (es : List Entry) → AreLawful p opening es → IsAscending p (after_all p opening es)
  pub bytes_fit : (p : Profile) (es : List Entry) → AreLawful p opening es → LiveBytesFit p (after_all p opening es)
  pub runs_fit : (p : Profile) (es : List Entry) → AreLawful p opening es → RunsFit p (after_all p opening es)
  pub after_none : (p : Profile) (s : State) → after_all p s [] ≡ s
  pub once : (p : Profile) (es : List Entry) → IsOnce (after_all p opening es)
  pub by_spot : (s : State) → IsOnce s → IsBySpot s
