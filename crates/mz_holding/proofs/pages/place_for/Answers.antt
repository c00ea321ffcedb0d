use Rattle.std.proofs.Common.{arith}
use Rattle.mz_holding.proofs.TakenLemmas.{insert_on, insert_here, insert_last}
use Rattle.mz_holding.proofs.pages.place_for.Goals as goal

pub loop-i-preserved : goal.loop-i-preserved
loop-i-preserved c = record {
  within = omega arith;
  before = λ w. insert_on (record { first = c.args.first; pages = w }) c.args.taken.now c.loop-i.i c.loop-i-test.true c.if-taken-i.true (c.loop-i.invariant.before w);
}

pub returns-else-taken-i-clause-is : goal.returns-else-taken-i-clause-is
returns-else-taken-i-clause-is c = λ w. insert_here (record { first = c.args.first; pages = w }) c.args.taken.now c.loop-i.i c.loop-i-test.true (let f = c.if-taken-i.false in omega arith) (c.loop-i.invariant.before w)

pub returns-after-loop-i-clause-is : goal.returns-after-loop-i-clause-is
returns-after-loop-i-clause-is c = λ w. insert_last (record { first = c.args.first; pages = w }) c.args.taken.now c.loop-i.i (let f = c.loop-i-test.false in omega arith) (c.loop-i.invariant.before w)
