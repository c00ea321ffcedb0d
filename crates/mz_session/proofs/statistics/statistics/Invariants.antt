use Rattle.std.proofs.Common.{◌≡◌, take}
use Rattle.mz_events.specs.State.{opening}
use Rattle.mz_events.specs.History.{after_all}
use Rattle.mz_lawful.specs.Tail.{statistics_of}
use Rattle.mz_session.proofs.statistics.statistics.Given as goal

abbrev pub invariant-loop-entry : goal.invariant-loop-entry
invariant-loop-entry l = l.statistics ≡ statistics_of l.p (after_all l.p opening (take l.entry-index l.history))
