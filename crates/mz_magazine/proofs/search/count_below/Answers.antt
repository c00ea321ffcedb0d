use Rattle.std.proofs.Common.{◌+◌, ◌-◌, ◌/◌, arith}
use Rattle.mz_magazine.proofs.Searches.{upto_middle, from_middle}
use Rattle.mz_magazine.proofs.search.count_below.Goals as goal

pub loop-low-preserved-then-first-a : goal.loop-low-preserved-then-first-a
loop-low-preserved-then-first-a g c =
    let kept = c.loop-low.invariant in
    let order = kept.order in
    let within = kept.within in
    let more = c.loop-low-test.true in
    let first = c.first.ensures.value in
    let low = c.if-first-a.true in
    record {
      order = omega arith;
      within = within;
      below = upto_middle g.row.Q g.row.N c.args.members.now c.args.a (c.loop-low.low + (c.loop-low.high - c.loop-low.low) / 2) c.index-members-middle.result c.requires (omega arith) c.index-members-middle.is (omega arith);
      above = kept.above;
    }

pub loop-low-preserved : goal.loop-low-preserved
loop-low-preserved g c =
    let kept = c.loop-low.invariant in
    let order = kept.order in
    let within = kept.within in
    let more = c.loop-low-test.true in
    let first = c.first.ensures.value in
    let high = c.if-first-a.false in
    record {
      order = omega arith;
      within = omega arith;
      below = kept.below;
      above = from_middle g.row.Q g.row.N c.args.members.now c.args.a (c.loop-low.low + (c.loop-low.high - c.loop-low.low) / 2) c.index-members-middle.result c.requires (omega arith) c.index-members-middle.is (omega arith);
    }
