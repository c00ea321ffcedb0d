use Rattle.std.proofs.Common.{◌∙◌, ◌++◌, ap, sym, subst}
use Rattle.mz_trace.specs.declared.tail.Figures.{Figures}
use Rattle.mz_trace.specs.RunForms.{IsTail}
use Rattle.mz_trace.specs.RunTexts.{run_text}
use Rattle.mz_trace.specs.TailTexts.{tail_text}
use Rattle.mz_run.proofs.BuiltTexts.{lines_fit, same_unbuilt, text_built}
use Rattle.mz_run.proofs.ReplyLemmas.{unbuilt_said}
use Rattle.mz_run.proofs.top.run_bytes.Goals as goal

pub unbuilt_line-requires : goal.unbuilt_line-requires
unbuilt_line-requires g c = lines_fit c.args.bytes.now c.in-Ok.trace c.in-Ok.ensures.found c.requires

pub returns-in-Some : goal.returns-in-Some
returns-in-Some g c =
    let text = c.in-Ok.ensures.found in
    unbuilt_said c.args.bytes.now c.in-Some.line c.bad_trace-in-Some.result (record {
      trace = c.in-Ok.trace;
      text = text;
      first = same_unbuilt c.args.bytes.now c.in-Ok.trace text ∙ sym c.in-Some.ensures;
    }) c.bad_trace-in-Some.ensures

pub serve-requires-clause-trace : goal.serve-requires-clause-trace
serve-requires-clause-trace g c κs within = c.in-Ok.ensures.trace

pub serve-requires-clause-built : goal.serve-requires-clause-built
serve-requires-clause-built g c κs within = text_built c.args.bytes.now c.in-Ok.trace c.in-Ok.ensures.found (sym c.in_default.ensures)

pub returns : goal.returns
returns g c =
    let text = c.in-Ok.ensures.found in
    record {
      trace = c.in-Ok.trace;
      run = c.in_ok-run.run';
      text = text;
      built = same_unbuilt c.args.bytes.now c.in-Ok.trace text ∙ sym c.in_default.ensures;
      lawful = c.in_ok-run.ensures.lawful;
      printed = record {
        run = c.in_ok-run.ensures.has_text.0;
        tail = subst (λ (f : Figures). IsTail f) c.in_ok-run.ensures.tail c.in_ok-run.ensures.has_text.1;
        spelled = c.in_ok-output.ensures ∙ ap (λ figures. run_text c.in_ok-run.run' ++ tail_text figures) c.in_ok-run.ensures.tail;
      };
    }
