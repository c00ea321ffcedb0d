use Rattle.std.specs.Prelude.{string_bytes}
use Rattle.mz_trace.proofs.PrintedLines.{callers_more}
use Rattle.mz_trace.proofs.printer.print_callers.Goals as goal

pub loop-caller-preserved : goal.loop-caller-preserved
loop-caller-preserved c =
    callers_more c.args.lists.now c.loop-caller.caller c.index-lists-caller.result (string_bytes c.args.out.now) (string_bytes c.loop-caller.out) (string_bytes c.print_calls.new.out) c.loop-caller-test.true c.index-lists-caller.is c.loop-caller.invariant (rw c.as_slice.ensures at c.in_ok-print_calls.ensures)
