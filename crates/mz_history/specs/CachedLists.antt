-- The cached runs of each zone, listed.
use Rattle.std.specs.Prelude.{ℕ, ◌≡◌, List, map}
use Rattle.std.specs.List.{range_with_len}
use Rattle.mz_history.specs.Booked.{Booked}
use Rattle.mz_history.specs.Listed.{cached_pages}

-- for each zone of the profile the first pages of the cached runs of its large
abbrev pub AreCached : Booked → List (List ℕ) → Type 0
AreCached b lists = lists ≡ map (cached_pages b.state) (range_with_len 0 b.profile.zones)
