use Rattle.std.proofs.Common.{◌≡◌, drop}
use Rattle.std.specs.Prelude.{find}
use Rattle.mz_base.specs.Room.{has_room}
use Rattle.mz_holding.specs.HeldRuns.{run_of_held, live_of_held}
use Rattle.mz_holding.proofs.runs.lowest_with_room.Given as goal

abbrev pub invariant-loop-held : goal.invariant-loop-held
invariant-loop-held l = find (λ h. has_room (run_of_held h) (live_of_held h) l.n l.al) l.runs ≡ find (λ h. has_room (run_of_held h) (live_of_held h) l.n l.al) (drop l.held-index l.runs)
