use Rattle.mz_rack.specs.Freeing.{block_of}
use Rattle.mz_rack.proofs.Looking.{none_passed, passed_on, can_look, found_later}
use Rattle.mz_rack.proofs.home.find_home.Goals as goal

pub loop-init : goal.loop-init
loop-init g c = none_passed c.of_books.ensures (g.B.Book.account c.args.book.now) c.requires.nothing_held

pub look_around-requires : goal.look_around-requires
look_around-requires g c = can_look c.of_books.ensures (g.B.Book.account c.args.book.now) (g.B.Book.account c.loop.book) c.args.p.now c.args.lot.now c.requires c.loop.invariant

pub returns-in-Some-look_around : goal.returns-in-Some-look_around
returns-in-Some-look_around g c =
    found_later c.of_books.ensures (g.B.Book.account c.args.book.now) (g.B.Book.account c.loop.book) (g.B.Book.account c.look_around.new.book) c.args.lot.now.zone (block_of c.args.lot.now) c.in-Some-look_around.home c.requires.nothing_held c.loop.invariant c.in-Some-look_around.ensures

pub loop-preserved : goal.loop-preserved
loop-preserved g c = passed_on c.of_books.ensures (g.B.Book.account c.args.book.now) (g.B.Book.account c.loop.book) (g.B.Book.account c.look_around.new.book) c.requires.nothing_held c.loop.invariant c.in_default.ensures
