-- What has to stand in the slots for an event to be done there.
use Rattle.std.specs.Prelude.{ℕ, ◌+◌, ◌≡◌, ◌≤◌, ◌==◌, false, List, IsTrue}
use Rattle.std.specs.List.{list_any, list_all}
use Rattle.mz_base.specs.Space.{Run, block_at, run_at, runs_apart}
use Rattle.mz_base.specs.Lists.{has_block}
use Rattle.mz_events.specs.declared.place.Place.{Place}
use Rattle.mz_events.specs.declared.place.Place.TheVariants.{Pages}
use Rattle.mz_events.specs.declared.event.Event.{Event}
use Rattle.mz_events.specs.declared.event.Event.TheVariants.{Take, Back, Move, New, End, Size, Full, Dry, No, Open, Shut}
use Rattle.mz_events.specs.Places.{Spot, keeper_at, same_spot, spot_at, spot_of, is_pages}
use Rattle.mz_events.specs.State.{Kept, Value, look_up}
use Rattle.mz_events.specs.Changes.{region_at}
use Rattle.mz_holding.specs.LiveBlocks.{page_limit}
use Rattle.mz_holding.specs.HeldRuns.{IsRoomBut}
use Rattle.mz_spots.specs.SlotKinds.{IsOfRuns, HasRoomFor}

-- what a spot keeps
abbrev pub kept_in_slots : List (Spot × Value) → Spot → Kept
kept_in_slots slots j = (look_up slots j).kept

-- the run has some pages within the limit, and is apart from these
pub record CanCome (r : Run) (runs : List Run) : Type 0 where
  pub some : 1 ≤ r.pages
  pub fits : r.first + r.pages ≤ page_limit
  pub apart : IsTrue (list_all (λ t. runs_apart t r) runs)

-- the place can take the run from the free pages
pub record CanTake (slots : List (Spot × Value)) (k : Place) (r : Run) : Type 0 where
  pub kind : IsOfRuns (spot_of k)
  pub comes : CanCome r (kept_in_slots slots (spot_of k)).runs
  pub untaken : IsTrue (list_all (λ t. runs_apart t r) (kept_in_slots slots (keeper_at Pages)).taken)

-- the place can give the run back
pub record CanGive (slots : List (Spot × Value)) (k : Place) (r : Run) : Type 0 where
  pub kind : IsOfRuns (spot_of k)
  pub there : IsTrue (list_any (λ t. t.first == r.first) (kept_in_slots slots (spot_of k)).runs)
  pub is : region_at (kept_in_slots slots (spot_of k)).runs r.first ≡ r

-- the region at page f can go from one place to the other
pub record CanMove (slots : List (Spot × Value)) (f : ℕ) (j k : Place) : Type 0 where
  pub from : IsOfRuns (spot_of j)
  pub to : IsOfRuns (spot_of k)
  pub differ : same_spot (spot_of k) (spot_of j) ≡ false
  pub there : IsTrue (list_any (λ t. t.first == f) (kept_in_slots slots (spot_of j)).runs)
  pub comes : CanCome (region_at (kept_in_slots slots (spot_of j)).runs f) (kept_in_slots slots (spot_of k)).runs

-- a block can become live
pub record CanMake (slots : List (Spot × Value)) (k : Place) (a n : ℕ) : Type 0 where
  pub kind : is_pages k ≡ false
  pub room : HasRoomFor (spot_at k a) (kept_in_slots slots (spot_at k a)) a n

-- a block can end
pub record CanEnd (slots : List (Spot × Value)) (k : Place) (a n : ℕ) : Type 0 where
  pub kind : is_pages k ≡ false
  pub live : IsTrue (has_block (kept_in_slots slots (spot_at k a)).live (block_at a n))

-- a block can have another size
pub record CanResize (slots : List (Spot × Value)) (k : Place) (a n m : ℕ) : Type 0 where
  pub kind : IsOfRuns (spot_at k a)
  pub live : IsTrue (has_block (kept_in_slots slots (spot_at k a)).live (block_at a n))
  pub room : IsRoomBut (kept_in_slots slots (spot_at k a)) a m

-- a place can be found full
pub record CanBeFull (k : Place) (n : ℕ) : Type 0 where
  pub kind : IsOfRuns (spot_of k)
  pub some : 1 ≤ n

-- the event can be done
abbrev pub IsReady : List (Spot × Value) → Event → Type 0
IsReady slots (Take k f w) = CanTake slots k (run_at f w)
IsReady slots (Back k f w) = CanGive slots k (run_at f w)
IsReady slots (Move f j k) = CanMove slots f j k
IsReady slots (New k a n al) = CanMake slots k a n
IsReady slots (End k a n) = CanEnd slots k a n
IsReady slots (Size k a n m) = CanResize slots k a n m
IsReady slots (Full k n al) = CanBeFull k n
IsReady slots (Dry z w al) = Unit {0}
IsReady slots (No k z a n) = Unit {0}
IsReady slots (Open z) = Unit {0}
IsReady slots (Shut z) = Unit {0}
