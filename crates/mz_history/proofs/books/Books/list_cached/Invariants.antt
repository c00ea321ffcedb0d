use Rattle.std.proofs.Common.{◌≡◌, map}
use Rattle.std.specs.List.{range_with_len}
use Rattle.mz_history.specs.Listed.{cached_pages}
use Rattle.mz_history.proofs.books.Books.list_cached.Given as goal

abbrev pub invariant-loop-zone : goal.invariant-loop-zone
invariant-loop-zone l = map (λ v. v.items) l.list.items ≡ map (cached_pages l.self.state) (range_with_len 0 l.zone)
