use Rattle.std.proofs.Common.{◌+◌, ◌-◌, ◌≤◌, vec_len}
use Rattle.std.specs.Vec.{vec_capacity}
use Rattle.mz_zone.specs.Calling.{seen, KeepsReferences}
use Rattle.mz_zone.proofs.Batched.{Begun}
use Rattle.mz_zone.proofs.zone.Zone.batch_malloc.Given as goal

-- so many requests brought blocks, and there is room for the others
abbrev pub invariant-loop : goal.invariant-loop
invariant-loop g l = record {
  begun : Begun (seen g.B.Book.account l.fn.at) (seen g.B.Book.account l.at) l.self.profile l.self.zone l.n l.counter (l.count - l.counter) l.fn.out.items l.out.items;
  references : KeepsReferences l.fn.at l.at;
  room : vec_len l.out + (l.count - l.counter) ≤ vec_capacity l.out;
  within : l.counter ≤ l.count;
}
