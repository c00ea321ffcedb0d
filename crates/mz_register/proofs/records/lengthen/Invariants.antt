use Rattle.std.proofs.Common.{◌≡◌, ℕ, ◌+◌, length}
use Rattle.std.specs.Prelude.{slice_get, Some}
use Rattle.std.specs.Vec.{vec_capacity}
use Rattle.mz_events.specs.declared.entry.Entry.{Entry}
use Rattle.mz_register.proofs.records.lengthen.Given as goal

abbrev pub invariant-loop : goal.invariant-loop
invariant-loop l = record {
  before : (i : ℕ) (e : Entry) → slice_get l.initial.history.items i ≡ Some e → slice_get l.history.items i ≡ Some e;
  len : length l.history.items ≡ length l.initial.history.items + l.counter;
  capacity : vec_capacity l.history ≡ vec_capacity l.initial.history;
}
