use Rattle.std.proofs.Common.{sym, arith}
use Rattle.std.proofs.lemmas.Result.{err_from_is_err_and}
use Rattle.mz_trace.specs.Rounds.{round_lines}
use Rattle.mz_run.proofs.PassLemmas.{passed_count, rounds_count, rounds_passed, rounds_stopped}
use Rattle.mz_run.proofs.built.pass_rounds.Goals as goal

pub returns-in_err-line : goal.returns-in_err-line
returns-in_err-line c =
    let p = err_from_is_err_and c.from_residual.result c.from_residual.ensures.1 in
    rw (p.1, p.2) (sym (rounds_stopped c.args.rounds.now c.loop-round.round-index c.loop-round.line c.in_err-line.field-0.0 c.round-item.result _
    c.loop-round-test.true c.round-item.is c.loop-round.invariant.same (sym c.in_err-line.ensures)))

pub loop-round-preserved : goal.loop-round-preserved
loop-round-preserved c =
    let i = c.loop-round.round-index in
    let count = rounds_count c.args.rounds.now i c.round-item.result c.loop-round-test.true c.round-item.is in
    let passed_here = passed_count c.loop-round.line c.in_ok-line.line (round_lines c.round-item.result) (sym c.in_ok-line.ensures) in
    record {
      same = rounds_passed c.args.rounds.now i c.loop-round.line c.in_ok-line.line c.round-item.result _
          c.loop-round-test.true c.round-item.is c.loop-round.invariant.same (sym c.in_ok-line.ensures);
      fits = omega (arith, count, passed_here, c.loop-round.invariant.fits);
    }
