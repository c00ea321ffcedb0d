-- The laws of books and histories on which a request rests, together.
use Rattle.std.specs.Prelude.{◌≡◌, ℕ, ◌+◌, ◌<◌, ◌≤◌, Bool, true, false, ◌||◌, List, [], ◌∷◌, ◌++◌, length, Option, Some, None, slice_get, IsTrue, ◌↔◌}
use Rattle.mz_base.specs.declared.profile.Profile.{Profile}
use Rattle.mz_base.specs.Space.{Block, Run}
use Rattle.mz_base.specs.IdleRuns.{IsIdle}
use Rattle.mz_base.specs.Room.{has_room_within}
use Rattle.mz_base.specs.Lists.{has_run, has_block}
use Rattle.mz_events.specs.declared.place.Place.{Place}
use Rattle.mz_events.specs.declared.place.Place.TheVariants.{Large}
use Rattle.mz_events.specs.declared.event.Event.{Event}
use Rattle.mz_events.specs.declared.event.Event.TheVariants.{Full}
use Rattle.mz_events.specs.declared.entry.Entry.{Entry}
use Rattle.mz_events.specs.Places.{is_magazine, is_depot, is_nano, exists_in, zone_of, Spot, same_spot, spot_of, place_of}
use Rattle.mz_events.specs.State.{Kept, State, value_at, kept_at, opening, is_open}
use Rattle.mz_events.specs.Effect.{touched, touches}
use Rattle.mz_events.specs.Duties.{is_unused}
use Rattle.mz_events.specs.History.{AreLawful, after_all}
use Rattle.mz_events.specs.Holding.{changes_zones, read_spots, ReadsHeld}
use Rattle.mz_events.specs.Separation.{IsSeparate, IsAscending}
use Rattle.mz_events.specs.Sameness.{IsOnce, IsBySpot}
use Rattle.mz_events.specs.Bounds.{RunsFit, RegionsFit}
use Rattle.mz_events.specs.Magazines.{IsOfRegions, HasDepot}
use Rattle.mz_events.specs.Fitting.{FoundFull, FitsByEvent}
use Rattle.mz_events.specs.Leaving.{left_by, LeavesByEvent}
use Rattle.std.specs.List.{All, Contains}
use Rattle.mz_book.specs.Keepers.{keeper_count, keeper_of, place_at, is_among, is_held}
use Rattle.mz_book.specs.Account.{Account, IsOrderly, known, hand, entry_at}
use Rattle.mz_book.specs.Calls.{Holds, CanNote, Notes, Releases}
use Rattle.mz_book.specs.Growth.{Grows, GrowsHolding}

-- where all that is idle among some blocks is idle among others too, there is room among the others where there is among the first
abbrev pub RoomStays : Type 0
RoomStays = (start end : ℕ) (these others : List Block) (n al : ℕ) → 1 ≤ n → 1 ≤ al
    → ((x y : ℕ) → IsIdle start end these x y → IsIdle start end others x y)
    → IsTrue (has_room_within start end these n al) → IsTrue (has_room_within start end others n al)

pub record BookLaws : Type 0 where
  pub room : RoomStays
  pub nothing : (s : Account) → GrowsHolding s [] 0 s
  pub hold : (s t : Account) (k : ℕ) → Holds s k t → GrowsHolding s [] 1 t
  pub note : (s t : Account) (e : Event) (n : ℕ) → CanNote s e → changes_zones e ≡ false → Notes s e n t → GrowsHolding s (entry_at n s.caller e ∷ []) 0 t
  pub joined : (s t u : Account) (xs ys : List Entry) (m n : ℕ) → GrowsHolding s xs m t → GrowsHolding t ys n u → GrowsHolding s (xs ++ ys) (m + n) u
  pub ended : (s t u : Account) (xs ys : List Entry) (m n : ℕ) → GrowsHolding s xs m t → Grows t ys n u → Grows s (xs ++ ys) (m + n) u
  pub looked : (s t : Account) (n : ℕ) → s.held ≡ [] → Grows s [] n t → GrowsHolding s [] n t
  pub release : (s t u : Account) (xs : List Entry) (n k : ℕ) → Grows s xs n t → Releases t k u → Grows s xs n u
  pub number : (p : Profile) (q : Place) → is_nano q ≡ false → IsTrue (exists_in p q) → keeper_of p q < keeper_count p
  pub place : (p : Profile) (q : Place) → is_nano q ≡ false → IsTrue (exists_in p q) → place_at p (keeper_of p q) ≡ q
  pub held : (p : Profile) (held : List ℕ) (q : Place) → is_nano q ≡ false → is_held p held (spot_of q) ≡ is_among held (keeper_of p q)
  pub fits : (p : Profile) (s : State) (c : ℕ) → FitsByEvent p s c
  pub leaves : (s : State) (c : ℕ) → LeavesByEvent s c
  pub found : (s : State) (c : ℕ) (k : Place) (n al : ℕ) (kept : Kept) (duty : Option Event) → value_at s (spot_of k) ≡ left_by c (Full k n al) kept duty → FoundFull s c k (n, al)
  pub touched_are : (p : Profile) (e : Event) (j : Spot) → (touches p e j ≡ true) ↔ Contains (touched p e) j
  pub reads_held : (p : Profile) (held : Spot → Bool) (e : Event) → ReadsHeld p held e ↔ All (λ j. held j ≡ true) (read_spots p e)
  pub spots : (j k : Spot) → (same_spot j k ≡ true) ↔ (j ≡ k)
  pub regions : (k : Place) → IsTrue (is_magazine k || is_depot k) → IsOfRegions k
  pub depot : (p : Profile) (m : Place) → IsTrue (is_magazine m) → HasDepot p m
  pub separate : (p : Profile) (es : List Entry) → AreLawful p opening es → IsSeparate p (after_all p opening es)
  pub ascending : (p : Profile) (es : List Entry) → AreLawful p opening es → IsAscending p (after_all p opening es)
  pub runs_fit : (p : Profile) (es : List Entry) → AreLawful p opening es → RunsFit p (after_all p opening es)
  pub regions_fit : (p : Profile) (es : List Entry) → AreLawful p opening es → RegionsFit p (after_all p opening es)
  pub none_unused : (p : Profile) (es : List Entry) (d : Place) (r : Run) → AreLawful p opening es → IsTrue (is_depot d) → (value_at (after_all p opening es) (spot_of d)).duty ≡ None → IsTrue (has_run (kept_at (after_all p opening es) (spot_of d)).runs r) → is_unused (kept_at (after_all p opening es) (spot_of d)).live r ≡ false
  pub index : (p : Profile) (s : State) (es : List Entry) → AreLawful p s es → (i : ℕ) (e : Entry) → slice_get es i ≡ Some e → e.ticket ≡ s.entries + i
  pub once_first : IsOnce opening
  pub once : (p : Profile) (s : State) (es : List Entry) → IsOnce s → IsOnce (after_all p s es)
  pub by_spot : (s : State) → IsOnce s → IsBySpot s
  pub somewhere : (s : Account) (b : Block) → IsOrderly s → IsTrue (has_block (hand s) b) → (j : Spot) × IsTrue (has_block (known s j).kept.live b)
  pub in_open : (p : Profile) (es : List Entry) (j : Spot) (b : Block) → AreLawful p opening es → IsTrue (has_block (kept_at (after_all p opening es) j).live b) → IsTrue (is_open (after_all p opening es) (zone_of (place_of j)))
  pub few_cached : (p : Profile) (es : List Entry) (z : ℕ) → AreLawful p opening es → (value_at (after_all p opening es) (spot_of (Large z))).duty ≡ None → length (kept_at (after_all p opening es) (spot_of (Large z))).cached ≤ 16
