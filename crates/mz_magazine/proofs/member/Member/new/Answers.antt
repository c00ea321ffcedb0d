use Rattle.std.proofs.Common.{arith}
use Rattle.mz_magazine.proofs.Rooms.{none_beyond, power_some, few_quanta}
use Rattle.mz_magazine.proofs.member.Member.new.Goals as goal

pub overflow_add-result : goal.overflow_add-result
overflow_add-result g c = let few = few_quanta g.row.Q g.row.N c.args.region c.first-first.ensures.is in omega arith

pub invariant_of-result : goal.invariant_of-result
invariant_of-result g c = (omega arith, none_beyond g.row.Q g.row.N c.args.region.first c.args.region.live (power_some g.row.Q (c.first-first.ensures.is).power))
