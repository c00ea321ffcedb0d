-- What stands behind a printed run: the live blocks of its last state, and the statistics. The names of the statistics are
-- libmalloc's.
use Rattle.std.specs.Prelude.{List, map}
use Rattle.mz_base.specs.declared.profile.Profile.{Profile}
use Rattle.mz_base.specs.Space.{Block}
use Rattle.mz_events.specs.Places.{Spot, place_of}
use Rattle.mz_events.specs.State.{State}
use Rattle.mz_events.specs.History.{state_of}
use Rattle.mz_trace.specs.declared.run.Run.{Run}
use Rattle.mz_trace.specs.declared.tail.Listed.{Listed}
use Rattle.mz_trace.specs.declared.tail.Figures.{Figures}
use Rattle.mz_trace.specs.declared.tail.Statistics.{Statistics}
use Rattle.mz_record.specs.Listing.{range_of, blocks_by_address, blocks_in_use, size_in_use, max_size_in_use, size_allocated}
use Rattle.mz_record.specs.Zones.{zone_at}
use Rattle.mz_lawful.specs.Records.{entries_of}
use Rattle.mz_lawful.specs.Standing.{Standing, zone_name}
use Rattle.mz_lawful.specs.LawfulRun.{last_standing}

-- a live block of a spot, as it is listed
abbrev pub listed : Standing → Spot × Block → Listed
listed v x = record { a = x.1.first; s = x.1.size; range = range_of (place_of x.0); zone = zone_name v (zone_at x.0) }

-- the live blocks of a state, by address
abbrev pub listing_of : Standing → State → List Listed
listing_of v s = map (listed v) (blocks_by_address s)

abbrev pub statistics_of : Profile → State → Statistics
statistics_of p s = record {
  blocks_in_use = blocks_in_use s;
  size_in_use = size_in_use s;
  max_size_in_use = max_size_in_use s;
  size_allocated = size_allocated p s;
}

-- what stands behind a run, by the state that its entries leave and the names of the zones that are open then
abbrev pub tail_of : Run → Figures
tail_of r =
    let s = state_of r.profile (entries_of r) in
    record { listing = listing_of (last_standing r) s; statistics = statistics_of r.profile s }
