use Rattle.std.proofs.Common.{◌+◌, ◌-◌, ◌<◌, inr, arith}
use Rattle.mz_region.proofs.Fronts.{front_found, less_left, none_before}
use Rattle.mz_region.proofs.search.front_of_room.Goals as goal

pub returns-then-idle-wanted : goal.returns-then-idle-wanted
returns-then-idle-wanted c =
    front_found c.args.in_use.now c.args.base c.args.step c.args.n c.loop-start.from c.in-Some.start c.front_behind-front.result c.run_at-idle.result c.requires.step c.requires.some
    c.loop-start.invariant.from c.in-Some.ensures c.front_behind-front.ensures.value c.front_behind-front.ensures.above c.run_at-idle.ensures c.if-idle-wanted.true

pub loop-start-smaller : goal.loop-start-smaller
loop-start-smaller c = less_left c.args.in_use.now c.loop-start.from c.in-Some.start (c.front_behind-front.result - c.in-Some.start + c.args.n) c.run_at-idle.result (omega arith) c.in-Some.ensures c.run_at-idle.ensures

pub loop-start-preserved : goal.loop-start-preserved
loop-start-preserved c =
    let other = c.if-idle-wanted.false in
    let limit = c.run_at-idle.ensures.limit in
    let less : c.run_at-idle.result < c.front_behind-front.result - c.in-Some.start + c.args.n = omega arith in
    record {
      none = none_before c.args.in_use.now c.args.base c.args.step c.args.n c.loop-start.from c.in-Some.start c.front_behind-front.result c.run_at-idle.result c.requires.step c.requires.some
          c.loop-start.invariant.none c.in-Some.ensures c.front_behind-front.ensures.value c.front_behind-front.ensures.above c.run_at-idle.ensures less;
      from = inr (c.run_at-idle.ensures.ends less);
    }
