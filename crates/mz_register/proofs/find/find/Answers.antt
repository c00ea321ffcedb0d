use Rattle.std.proofs.Common.{arith}
use Rattle.mz_register.proofs.Carried.{found_in}
use Rattle.mz_register.proofs.find.find.Goals as goal

pub unreachable-requires : goal.unreachable-requires
unreachable-requires c = found_in c.args.k c.args.held.now c.requires (λ j l. c.loop-i.invariant j (omega arith))
