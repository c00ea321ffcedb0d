use Rattle.std.proofs.Common.{◌≡◌, map, take, drop}
use Rattle.mz_trace.specs.RunTexts.{round_of}
use Rattle.mz_session.specs.Sessions.{IsKept}
use Rattle.mz_run.specs.Coming.{CanCome, commands_in_rounds}
use Rattle.mz_run.specs.Turns.{RoundsTurn}
use Rattle.mz_run.proofs.allocator.serve_rounds.Given as goal

abbrev pub invariant-loop-round : goal.invariant-loop-round
invariant-loop-round g l = record {
  turns : RoundsTurn l.fn.session l.served.items l.session;
  kept : IsKept l.session;
  can : CanCome l.session (commands_in_rounds (drop l.round-index l.rounds));
  rounds : map round_of l.served.items ≡ take l.round-index l.rounds;
}
