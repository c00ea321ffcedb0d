use Rattle.std.proofs.Common.{string_bytes, ap, ◌∙◌, ◌++◌}
use Rattle.std.specs.List.{flat_map}
use Rattle.mz_words.specs.Lines.{line_text}
use Rattle.mz_trace.specs.RunTexts.{section_lines}
use Rattle.mz_trace.proofs.PrintedSections.{appended_section}
use Rattle.mz_trace.proofs.run_printer.print_sections.Goals as goal

pub loop-caller-preserved : goal.loop-caller-preserved
loop-caller-preserved c =
    appended_section c.args.callers.now c.loop-caller.caller c.index-callers-caller.result (string_bytes c.args.out.now)
    (string_bytes c.loop-caller.out) (string_bytes c.print_section.new.out) c.loop-caller-test.true c.index-callers-caller.is c.loop-caller.invariant
    (c.in_ok-print_section.ensures ∙ ap (λ calls. string_bytes c.loop-caller.out ++ flat_map line_text (section_lines c.loop-caller.caller calls)) c.as_slice.ensures)
