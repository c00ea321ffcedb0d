use Rattle.mz_rack.proofs.Looking.{none_passed}
use Rattle.mz_rack.proofs.home.look_around.Goals as goal

pub returns-then-zone-p : goal.returns-then-zone-p
returns-then-zone-p g c = none_passed c.of_books.ensures (g.B.Book.account c.args.book.now) c.requires.nothing_held
