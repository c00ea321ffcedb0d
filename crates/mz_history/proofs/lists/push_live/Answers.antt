use Rattle.std.proofs.Common.{◌++◌, map, arith}
use Rattle.mz_history.specs.Listed.{block_at_place}
use Rattle.mz_history.proofs.ListLemmas.{more_mapped, all_mapped_here}
use Rattle.mz_history.proofs.lists.push_live.Goals as goal

pub loop-i-preserved : goal.loop-i-preserved
loop-i-preserved c = more_mapped (block_at_place c.args.k) c.args.blocks.now c.loop-i.i _ (c.args.list.now.items ++ map (block_at_place c.args.k) c.args.blocks.now) c.loop-i.list.items c.push.new.self.items c.loop-i-test.true c.loop-i.invariant c.in_ok-push.ensures.items

pub returns : goal.returns
returns c = all_mapped_here (block_at_place c.args.k) c.args.blocks.now c.loop-i.i (c.args.list.now.items ++ map (block_at_place c.args.k) c.args.blocks.now) c.loop-i.list.items (let over = c.loop-i-test.false in omega arith) c.loop-i.invariant
