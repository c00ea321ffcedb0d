use Rattle.std.proofs.Common.{length}
use Rattle.mz_zone.specs.Calling.{seen, KeepsReferences}
use Rattle.mz_zone.proofs.Ended.{Begun}
use Rattle.mz_zone.proofs.zone.Zone.batch_free.Given as goal

-- some were freed, and there is room for the others
abbrev pub invariant-loop-b : goal.invariant-loop-b
invariant-loop-b g l = record {
  begun : Begun (seen g.B.Book.account l.fn.at) (seen g.B.Book.account l.at) l.self.profile l.self.zone l.fn.all.items l.all.items;
  references : KeepsReferences l.fn.at l.at;
}

abbrev pub decreases-loop-b : goal.decreases-loop-b
decreases-loop-b g l = length l.all.items
