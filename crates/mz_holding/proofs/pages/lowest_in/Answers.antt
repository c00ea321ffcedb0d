use Rattle.std.proofs.Common.{sym, ◌∙◌, arith}
use Rattle.mz_holding.proofs.TakenLemmas.{next_parts, search_here, search_on, search_end}
use Rattle.mz_holding.proofs.pages.lowest_in.Goals as goal

pub overflow_add-x : goal.overflow_add-x
overflow_add-x c =
    let low = (next_parts c.loop-run.x c.loop-run.run-index c.args.taken.now c.loop-run-test.true c.loop-run.invariant.orderly).0 in
    omega arith

pub returns-in-Some : goal.returns-in-Some
returns-in-Some c =
    let a = c.args in
    sym (c.loop-run.invariant.rest ∙ search_here a.top a.w a.al c.loop-run.x c.loop-run.run-index c.min.result c.in-Some.first a.taken.now c.loop-run-test.true c.min.ensures (sym c.front_in.ensures ∙ c.in-Some.is))

pub loop-run-preserved : goal.loop-run-preserved
loop-run-preserved c =
    let a = c.args in
    record {
      orderly = (next_parts c.loop-run.x c.loop-run.run-index a.taken.now c.loop-run-test.true c.loop-run.invariant.orderly).1;
      rest = c.loop-run.invariant.rest ∙ search_on a.top a.w a.al c.loop-run.x c.loop-run.run-index c.min.result a.taken.now c.loop-run-test.true c.min.ensures (sym c.front_in.ensures ∙ c.in_default.is);
    }

pub returns : goal.returns
returns c =
    let a = c.args in
    c.front_in-2.ensures ∙ search_end a.top a.w a.al c.loop-run.x c.loop-run.run-index a.taken.now (let over = c.loop-run-test.false in omega arith) ∙ sym c.loop-run.invariant.rest
