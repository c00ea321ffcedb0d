use Rattle.std.proofs.Common.{◌∙◌, sym, ap, arith, map}
use Rattle.std.proofs.lemmas.List.{length-map}
use Rattle.std.proofs.lemmas.Result.{err_from_is_err_and}
use Rattle.mz_lines.specs.declared.line.Line.TheVariants as line
use Rattle.mz_run.specs.Passing.{passed}
use Rattle.mz_run.proofs.PassLemmas.{passed_count, lists_count, lists_passed, lists_stopped}
use Rattle.mz_run.proofs.built.pass_lists.Goals as goal

pub returns-in_err-line : goal.returns-in_err-line
returns-in_err-line c =
    let p = err_from_is_err_and c.from_residual.result c.from_residual.ensures.1 in
    let i = c.loop-commands.commands-index in
    let here = ap (λ cs. passed c.loop-commands.line (map (line.Call i) cs)) (sym c.as_slice.ensures) ∙ sym (c.in_err-line.ensures i) in
    rw (p.1, p.2) (sym (lists_stopped c.args.lists.now i c.loop-commands.line c.in_err-line.field-0.0 c.commands-item.result _
    c.loop-commands-test.true c.commands-item.is c.loop-commands.invariant.same here))

pub loop-commands-preserved : goal.loop-commands-preserved
loop-commands-preserved c =
    let i = c.loop-commands.commands-index in
    let here = ap (λ cs. passed c.loop-commands.line (map (line.Call i) cs)) (sym c.as_slice.ensures) ∙ sym (c.in_ok-line.ensures i) in
    let passed_here = passed_count c.loop-commands.line c.in_ok-line.line (map (line.Call i) c.commands-item.result) here in
    let many = length-map c.commands-item.result (line.Call i) in
    let count = lists_count c.args.lists.now i c.commands-item.result c.loop-commands-test.true c.commands-item.is in
    record {
      same = lists_passed c.args.lists.now i c.loop-commands.line c.in_ok-line.line c.commands-item.result _
          c.loop-commands-test.true c.commands-item.is c.loop-commands.invariant.same here;
      fits = omega (arith, count, passed_here, many, c.loop-commands.invariant.fits);
    }
