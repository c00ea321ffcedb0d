use Rattle.std.proofs.Common.{arith}
use Rattle.mz_io.proofs.TakesLemmas.{Takes-more}
use Rattle.mz_io.proofs.sink.write_all.Goals as goal

pub loop-at-preserved : goal.loop-at-preserved
loop-at-preserved g c =
    record {
      taken = Takes-more _ _ _ c.args.output.now c.loop-at.at c.in_ok-at.field-0 c.loop-at.invariant.taken c.in_ok-at.ensures.bytes;
      count = omega (arith, c.in_ok-at.ensures.bound);
      kept = omega (arith, c.loop-at.invariant.kept, c.write.ensures.cause.kept);
    }
