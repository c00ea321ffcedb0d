use Rattle.std.specs.Prelude.{string_bytes}
use Rattle.mz_trace.proofs.PrintedLines.{rounds_more}
use Rattle.mz_trace.proofs.printer.print_rounds.Goals as goal

pub loop-round-preserved : goal.loop-round-preserved
loop-round-preserved c =
    rounds_more c.args.rounds.now c.loop-round.round-index c.round-item.result (string_bytes c.args.out.now) (string_bytes c.loop-round.out) (string_bytes c.print_round.new.out) c.loop-round-test.true c.round-item.is c.loop-round.invariant c.in_ok-print_round.ensures
