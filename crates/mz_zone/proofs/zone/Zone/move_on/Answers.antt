use Rattle.std.proofs.Common.{refl}
use Rattle.mz_zone.proofs.Enough.{served_holds}
use Rattle.mz_zone.specs.Calling.{AtView, seen}
use Rattle.mz_zone.proofs.Moved.{stays_so, still_handed, can_then, room_after, moved_on}
use Rattle.mz_zone.proofs.zone.Zone.move_on.Goals as goal

pub copy-requires : goal.copy-requires
copy-requires g c = served_holds c.of_zones.ensures _ _ _ _ _ c.in-Ok.ensures.answers.serves.served

pub take_back-requires : goal.take_back-requires
take_back-requires g c =
    let v : AtView = seen g.B.Book.account c.args.at.now in
    let u : AtView = seen g.B.Book.account c.malloc.new.at in
    record {
      can = can_then v u c.args.self.now.profile c.args.self.now.zone 40 3 c.in-Ok.ensures.answers.mine c.requires.can c.in-Ok.ensures.answers.goes
          (room_after v u c.in-Ok.ensures.answers.mine c.requires.can.serve.room c.in-Ok.ensures.answers.few c.in-Ok.ensures.answers.goes);
      block = still_handed c.of_zones.ensures v u c.args.self.now.zone c.args.n 16 c.in-Ok.new c.args.b c.in-Ok.ensures.answers c.requires.block;
    }

pub returns-in-Err-clause-moves : goal.returns-in-Err-clause-moves
returns-in-Err-clause-moves g c = (
  refl,
  stays_so c.of_zones.ensures (seen g.B.Book.account c.args.at.now) (seen g.B.Book.account c.malloc.new.at) c.args.self.now.zone c.args.n c.args.b c.in-Err.null
      c.of_book.ensures c.in-Err.ensures.answers c.requires.moves,
)

pub returns-clause-moves : goal.returns-clause-moves
returns-clause-moves g c =
    moved_on c.of_zones.ensures (seen g.B.Book.account c.args.at.now) (seen g.B.Book.account c.malloc.new.at) (seen g.B.Book.account c.take_back.new.at)
    c.args.self.now.zone c.args.n c.args.b c.in-Ok.new c.requires.block c.in-Ok.ensures.answers c.in-Ok-take_back.ensures.frees
    c.of_book-2.ensures c.of_book-in-Ok-take_back.ensures c.requires.moves c.copy.new.to
    (served_holds c.of_zones.ensures _ _ _ _ _ c.in-Ok.ensures.answers.serves.served) c.copy.ensures

pub unreachable-requires : goal.unreachable-requires
unreachable-requires g c = c.in-Err-take_back.ensures.frees.freed.0 c.requires.of_zone
