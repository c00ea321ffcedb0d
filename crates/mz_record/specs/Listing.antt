-- The live blocks of a state by address, and its statistics. The statistics are libmalloc's.
use Rattle.std.specs.Prelude.{ℕ, ◌+◌, ◌*◌, List, length, sum_by}
use Rattle.mz_base.specs.declared.profile.Profile.{Profile}
use Rattle.mz_base.specs.declared.range.TheConstants.{PAGE}
use Rattle.mz_base.specs.declared.range.Range.{Range}
use Rattle.mz_base.specs.declared.range.Range.TheVariants as range
use Rattle.mz_base.specs.Space.{Block}
use Rattle.mz_events.specs.declared.place.Place.{Place}
use Rattle.mz_events.specs.declared.place.Place.TheVariants.{Pages, Tiny, TinyDepot, Small, SmallDepot, Large, Nano}
use Rattle.mz_events.specs.Places.{Spot, spot_of}
use Rattle.mz_events.specs.State.{State, live_blocks, live_size, kept_at}
use Rattle.mz_events.specs.Separation.{by_address}

-- the range of a place's blocks; none live in the free pages, of which this says nothing
abbrev pub range_of : Place → Range
range_of Pages = range.Large
range_of (Tiny z m) = range.Tiny
range_of (TinyDepot z) = range.Tiny
range_of (Small z m) = range.Small
range_of (SmallDepot z) = range.Small
range_of (Large z) = range.Large
range_of Nano = range.Nano

-- the live blocks of a state in ascending order of addresses, each with its spot
abbrev pub blocks_by_address : State → List (Spot × Block)
blocks_by_address s = by_address (live_blocks s)

-- how many blocks are live
abbrev pub blocks_in_use : State → ℕ
blocks_in_use s = length (live_blocks s)

-- their bytes
abbrev pub size_in_use : State → ℕ
size_in_use s = live_size s.values

-- the most bytes that were ever live
abbrev pub max_size_in_use : State → ℕ
max_size_in_use s = s.greatest

-- the bytes of all pages that aren't free, nano's among them
abbrev pub size_allocated : Profile → State → ℕ
size_allocated p s = (sum_by (λ r. r.pages) (kept_at s (spot_of Pages)).taken + p.nano) * PAGE
