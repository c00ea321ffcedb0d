use Rattle.std.proofs.Common.{◌∙◌, sym, ap}
use Rattle.mz_trace.specs.Rounds.{lines_of_rounds}
use Rattle.mz_run.specs.Passing.{passed}
use Rattle.mz_run.proofs.BuiltTexts.{unbuilt_passed}
use Rattle.mz_run.proofs.built.unbuilt_line.Goals as goal

pub returns-in-Ok : goal.returns-in-Ok
returns-in-Ok c =
    unbuilt_passed c.args.trace.now.profile (lines_of_rounds c.args.trace.now.rounds) _ (sym c.if-not-is_built_space.ensures)
    (c.in-Ok.ensures ∙ ap (λ rs. passed 3 (lines_of_rounds rs)) c.as_slice.ensures)

pub returns-in-Err : goal.returns-in-Err
returns-in-Err c =
    unbuilt_passed c.args.trace.now.profile (lines_of_rounds c.args.trace.now.rounds) _ (sym c.if-not-is_built_space.ensures)
    (c.in-Err.ensures ∙ ap (λ rs. passed 3 (lines_of_rounds rs)) c.as_slice.ensures)
