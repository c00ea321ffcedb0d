use Rattle.mz_zone.proofs.Trying.{units_small, can_take}
use Rattle.mz_zone.proofs.nano.try_nano.Goals as goal

pub take_block-requires : goal.take_block-requires
take_block-requires g c = record {
  can = can_take (g.B.Book.account c.args.at.now.book.now) c.args.at.now.nano c.in-Some.both c.args.zone c.in-Some.is c.if-zone-ne0.false c.requires.can;
  class = rw c.units.ensures (units_small c.args.n c.if-n-gt-MOST.false);
}
