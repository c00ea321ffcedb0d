use Rattle.std.proofs.Common.{◌≡◌, map, take, drop}
use Rattle.mz_session.specs.Sessions.{IsKept}
use Rattle.mz_run.specs.Coming.{CanCome}
use Rattle.mz_run.specs.Turns.{Turns}
use Rattle.mz_run.proofs.allocator.serve_commands.Given as goal

abbrev pub invariant-loop-index : goal.invariant-loop-index
invariant-loop-index g l = record {
  turns : Turns l.fn.session l.records.items l.session;
  kept : IsKept l.session;
  can : CanCome l.session (drop l.index l.commands);
  commands : map (λ d. d.command) l.records.items ≡ take l.index l.commands;
}
