use Rattle.std.proofs.Common.{length}
use Rattle.mz_rack.specs.Seeking.{cached_in}
use Rattle.mz_rack.proofs.flush.+seek.Given as goal

-- each flush leaves one cached run fewer
abbrev pub decreases-seek : goal.decreases-seek
decreases-seek g l = length (cached_in (g.B.Book.account l.book.now) l.zone)
