use Rattle.std.proofs.Common.{◌+◌, drop, subst, sym}
use Rattle.mz_holding.proofs.TakeLemmas.{IsCopy, copy_more}
use Rattle.mz_holding.proofs.runs.copy_runs.Goals as goal

pub loop-held-preserved : goal.loop-held-preserved
loop-held-preserved c =
    subst (λ xs. IsCopy xs (drop (c.loop-held.held-index + 1) c.args.runs.now) c.args.runs.now) (sym (c.in_ok-push.ensures.items))
    (copy_more c.loop-held.list.items c.args.runs.now c.held-item.result c.in_ok-copy.field-0 c.loop-held.held-index c.loop-held.invariant c.loop-held-test.true c.held-item.is c.in_ok-copy.ensures.run c.in_ok-copy.ensures.blocks c.in_ok-copy.ensures.used)
