use Rattle.std.proofs.Common.{lit≤}
use Rattle.mz_zone.specs.Calling.{seen}
use Rattle.mz_zone.proofs.Freed.{can_fewer}
use Rattle.mz_zone.proofs.zone.Zone.free.Goals as goal

pub take_back-requires-clause-can : goal.take_back-requires-clause-can
take_back-requires-clause-can g c = can_fewer (seen g.B.Book.account c.args.at.now) c.args.self.now.profile c.args.self.now.zone 40 3 (lit≤ tt) c.requires.can
