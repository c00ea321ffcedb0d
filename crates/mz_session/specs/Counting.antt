-- The statistics after one more event, and when they can be counted. This project's own.
use Rattle.std.specs.Prelude.{ℕ, ◌+◌, ◌-◌, ◌*◌, ◌<◌, ◌≤◌, ◌^◌, max, length}
use Rattle.mz_base.specs.declared.range.TheConstants.{PAGE}
use Rattle.mz_base.specs.Lists.{size_sum}
use Rattle.mz_events.specs.declared.event.Event.{Event}
use Rattle.mz_events.specs.declared.event.Event.TheVariants.{Take, Back}
use Rattle.mz_trace.specs.declared.tail.Statistics.{Statistics}
use Rattle.mz_book.specs.Living.{made_by, ended_by}

-- the pages that an event takes from the free ones, and those that it gives back
abbrev pub pages_taken : Event → ℕ
pages_taken (Take k f w) = w
pages_taken _ = 0

abbrev pub pages_given : Event → ℕ
pages_given (Back k f w) = w
pages_given _ = 0

-- the bytes that are live after the event
abbrev pub size_with : Statistics → Event → ℕ
size_with v e = v.size_in_use + size_sum (made_by e) - size_sum (ended_by e)

-- the statistics after the event
abbrev pub statistics_with : Statistics → Event → Statistics
statistics_with v e = record {
  blocks_in_use = v.blocks_in_use + length (made_by e) - length (ended_by e);
  size_in_use = size_with v e;
  max_size_in_use = max v.max_size_in_use (size_with v e);
  size_allocated = v.size_allocated + pages_taken e * PAGE - pages_given e * PAGE;
}

-- each number has room for what is added, and has what is taken away
pub record CanCount (v : Statistics) (e : Event) : Type 0 where
  pub blocks : v.blocks_in_use + length (made_by e) < 2 ^ 64
  pub blocks_are_there : length (ended_by e) ≤ v.blocks_in_use + length (made_by e)
  pub bytes : v.size_in_use + size_sum (made_by e) < 2 ^ 64
  pub bytes_are_there : size_sum (ended_by e) ≤ v.size_in_use + size_sum (made_by e)
  pub pages : v.size_allocated + pages_taken e * PAGE < 2 ^ 64
  pub pages_are_there : pages_given e * PAGE ≤ v.size_allocated + pages_taken e * PAGE
