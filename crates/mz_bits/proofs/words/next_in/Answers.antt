use Rattle.std.proofs.Common.{◌+◌, ◌*◌, ◌/◌, ◌<◌, arith}
use Rattle.mz_bits.proofs.ViewLemmas.{found, no_rest, none_more, none_fewer}
use Rattle.mz_bits.proofs.words.next_in.Goals as goal

pub returns-then-place-end : goal.returns-then-place-end
returns-then-place-end c =
    let v = c.args.value in
    let words = c.args.words.now in
    let from = c.loop-from.from in
    let some : 0 < c.rest_of-rest.result = omega arith in
    let f = found v words from c.from.result c.rest_of-rest.result c.rest_of-rest.ensures some c.from.ensures in
    record {
      above = omega arith;
      below = c.if-place-end.true;
      there = f.1;
      before = none_more v words c.args.i from (from + c.from.result) c.loop-from.invariant.none f.2;
    }

pub returns-else-place-end : goal.returns-else-place-end
returns-else-place-end c =
    let v = c.args.value in
    let words = c.args.words.now in
    let from = c.loop-from.from in
    let some : 0 < c.rest_of-rest.result = omega arith in
    let f = found v words from c.from.result c.rest_of-rest.result c.rest_of-rest.ensures some c.from.ensures in
    let none = none_more v words c.args.i from (from + c.from.result) c.loop-from.invariant.none f.2 in
    none_fewer v words c.args.i (from + c.from.result) c.args.end c.if-place-end.false none

pub loop-from-preserved : goal.loop-from-preserved
loop-from-preserved c =
    let v = c.args.value in
    let words = c.args.words.now in
    let from = c.loop-from.from in
    record {
      above = omega arith;
      none = none_more v words c.args.i from ((from / 64 + 1) * 64) c.loop-from.invariant.none (no_rest v words from c.rest_of-rest.result c.rest_of-rest.ensures (omega arith));
    }
