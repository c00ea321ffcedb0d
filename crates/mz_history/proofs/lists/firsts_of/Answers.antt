use Rattle.std.proofs.Common.{map, arith}
use Rattle.mz_holding.specs.declared.extent.Extent.{Extent}
use Rattle.mz_history.proofs.ListLemmas.{more_mapped, all_mapped_here}
use Rattle.mz_history.proofs.lists.firsts_of.Goals as goal

pub loop-i-preserved : goal.loop-i-preserved
loop-i-preserved c = more_mapped (λ (e : Extent). e.first) c.args.runs.now c.loop-i.i _ (map (λ (e : Extent). e.first) c.args.runs.now) c.loop-i.list.items c.push.new.self.items c.loop-i-test.true c.loop-i.invariant c.in_ok-push.ensures.items

pub returns : goal.returns
returns c = all_mapped_here (λ (e : Extent). e.first) c.args.runs.now c.loop-i.i (map (λ (e : Extent). e.first) c.args.runs.now) c.loop-i.list.items (let over = c.loop-i-test.false in omega arith) c.loop-i.invariant
