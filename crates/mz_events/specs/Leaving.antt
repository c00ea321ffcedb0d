-- What an event leaves at each spot that it touches, in the words of `Changes`.
use Rattle.std.specs.Prelude.{◌≡◌, ℕ, false, [], ◌∷◌, ◌++◌, Option, Some, None, IsTrue}
use Rattle.mz_base.specs.Space.{block_at, run_at}
use Rattle.mz_base.specs.Lists.{drop_block, blocks_in}
use Rattle.mz_events.specs.declared.place.Place.{Place}
use Rattle.mz_events.specs.declared.place.Place.TheVariants.{Pages, Large, Nano}
use Rattle.mz_events.specs.declared.event.Event.{Event}
use Rattle.mz_events.specs.declared.event.Event.TheVariants.{Take, Back, Move, New, End, Size, Full, Dry, No, Open, Shut}
use Rattle.mz_events.specs.Places.{is_magazine, is_depot, is_pages, depot_of, Spot, spot_at, spot_of}
use Rattle.mz_events.specs.State.{Kept, Value, State, kept_at}
use Rattle.mz_events.specs.Changes.{run_of, with_block, without_block, resized, with_run, without_run, with_region, pages_without, pages_with, region_at}
use Rattle.mz_events.specs.Duties.{recirculation, empty_depot_region, back_of_oldest, death_row, duty_of_end}
use Rattle.mz_events.specs.Effect.{value_after}

-- the value that an event of caller c leaves, by what the spot keeps and the duty that stands there then
abbrev pub left_by : ℕ → Event → Kept → Option Event → Value
left_by c e kept duty = record { kept = kept; duty = duty; last = Some (record { caller = c; event = e }) }

-- an event of caller c leaves this at the spot
abbrev pub Leaves : State → ℕ → Event → Spot → Kept → Option Event → Type 0
Leaves s c e j kept duty = value_after s c e j ≡ left_by c e kept duty

-- For each event, what it leaves at each spot that it touches. The end of a block is said in general, and for each kind of
-- place.
pub record LeavesByEvent (s : State) (c : ℕ) : Type 0 where
  pub take : (k : Place) (f w : ℕ) → is_pages k ≡ false →
      Leaves s c (Take k f w) (spot_of k) (with_run (run_at f w) (kept_at s (spot_of k))) None
  pub take_pages : (k : Place) (f w : ℕ) →
      Leaves s c (Take k f w) (spot_of Pages) (pages_without k (run_at f w) (kept_at s (spot_of Pages))) None
  pub give_back : (k : Place) (f w : ℕ) → is_pages k ≡ false →
      Leaves s c (Back k f w) (spot_of k) (without_run (run_at f w) (kept_at s (spot_of k))) None
  pub give_back_pages : (k : Place) (f w : ℕ) →
      Leaves s c (Back k f w) (spot_of Pages) (pages_with k (run_at f w) (kept_at s (spot_of Pages))) None
  pub put_aside : (m : Place) (f : ℕ) → IsTrue (is_magazine m) → let kept = kept_at s (spot_of m) in
      Leaves s c (Move f m (depot_of m)) (spot_of m) (without_run (region_at kept.runs f) kept) None
  pub put_aside_depot : (m : Place) (f : ℕ) → IsTrue (is_magazine m) → let kept = kept_at s (spot_of m) in
      let region = region_at kept.runs f in
      let now = with_region region (blocks_in kept.live region) (kept_at s (spot_of (depot_of m))) in
      Leaves s c (Move f m (depot_of m)) (spot_of (depot_of m)) now (empty_depot_region (depot_of m) now)
  pub take_out : (m : Place) (f : ℕ) → IsTrue (is_magazine m) → let kept = kept_at s (spot_of (depot_of m)) in
      let region = region_at kept.runs f in
      Leaves s c (Move f (depot_of m) m) (spot_of m) (with_region region (blocks_in kept.live region) (kept_at s (spot_of m))) None
  pub take_out_depot : (m : Place) (f : ℕ) → IsTrue (is_magazine m) → let kept = kept_at s (spot_of (depot_of m)) in
      let now = without_run (region_at kept.runs f) kept in
      Leaves s c (Move f (depot_of m) m) (spot_of (depot_of m)) now (empty_depot_region (depot_of m) now)
  pub make : (k : Place) (a n al : ℕ) →
      Leaves s c (New k a n al) (spot_at k a) (with_block (block_at a n) (kept_at s (spot_at k a))) None
  pub ends : (k : Place) (a n : ℕ) → let now = without_block k (block_at a n) (kept_at s (spot_at k a)) in
      Leaves s c (End k a n) (spot_at k a) now (duty_of_end k now)
  pub ends_in_magazine : (m : Place) (a n : ℕ) → IsTrue (is_magazine m) → let kept = kept_at s (spot_of m) in
      let now = record kept { live = drop_block (block_at a n) kept.live; last_freed = Some (block_at a n) } in
      Leaves s c (End m a n) (spot_at m a) now (recirculation m now)
  pub ends_in_depot : (d : Place) (a n : ℕ) → IsTrue (is_depot d) → let kept = kept_at s (spot_of d) in
      let now = record kept { live = drop_block (block_at a n) kept.live; last_freed = None } in
      Leaves s c (End d a n) (spot_at d a) now (empty_depot_region d now)
  pub ends_in_large : (z a n : ℕ) → let kept = kept_at s (spot_of (Large z)) in
      let now = record kept { live = drop_block (block_at a n) kept.live; last_freed = None; cached = kept.cached ++ run_of (block_at a n) ∷ [] } in
      Leaves s c (End (Large z) a n) (spot_of (Large z)) now (death_row (Large z) now)
  pub ends_in_nano : (a n : ℕ) → let kept = kept_at s (spot_at Nano a) in
      Leaves s c (End Nano a n) (spot_at Nano a) (record kept { live = drop_block (block_at a n) kept.live; last_freed = None }) None
  pub resize : (k : Place) (a n m : ℕ) →
      Leaves s c (Size k a n m) (spot_at k a) (resized (block_at a n) (block_at a m) (kept_at s (spot_at k a))) None
  pub full : (k : Place) (n al : ℕ) → Leaves s c (Full k n al) (spot_of k) (kept_at s (spot_of k)) None
  pub dry : (z w al : ℕ) (j : Spot) →
      Leaves s c (Dry z w al) j (kept_at s j) (back_of_oldest (Large z) (kept_at s (spot_of (Large z))).cached)
  pub deny : (k : Place) (z a n : ℕ) → Leaves s c (No k z a n) (spot_at k a) (kept_at s (spot_at k a)) None
  pub opens : (z : ℕ) (j : Spot) → Leaves s c (Open z) j (kept_at s j) None
  pub shuts : (z : ℕ) (j : Spot) → Leaves s c (Shut z) j (kept_at s j) None
