use Rattle.std.proofs.Common.{rules}
use Rattle.mz_holding.proofs.TakeLemmas.{same_all, same_set}
use Rattle.mz_holding.proofs.runs.learn.Goals as goal

pub loop-i-init : goal.loop-i-init
loop-i-init c = same_all c.args.runs.now.items

pub loop-i-preserved : goal.loop-i-preserved
loop-i-preserved c =
    same_set c.loop-i.runs.items c.args.runs.now.items c.loop-i.i c.index_mut.result.now c.learn.new.self c.loop-i.invariant
    (search rules) c.index_mut.ensures.value c.learn.ensures.run c.learn.ensures.blocks c.learn.ensures.used
