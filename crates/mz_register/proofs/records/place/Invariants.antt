use Rattle.std.proofs.Common.{◌≡◌, ℕ, ◌<◌, List, length}
use Rattle.std.specs.Vec.{vec_capacity}
use Rattle.std.specs.Prelude.{slice_get, Some}
use Rattle.mz_events.specs.declared.entry.Entry.{Entry}
use Rattle.mz_register.specs.Merged.{IsPart}
use Rattle.mz_register.proofs.records.place.Given as goal

abbrev pub invariant-loop-e : goal.invariant-loop-e
invariant-loop-e l = record {
  placed : (i : ℕ) (e : Entry) → i < l.e-index → slice_get l.noted i ≡ Some e → slice_get l.history.items e.ticket ≡ Some e;
  kept : (all : List Entry) (i : ℕ) (e : Entry) → IsPart all l.initial.history.items l.noted → slice_get all i ≡ Some e → slice_get l.initial.history.items i ≡ Some e → slice_get l.history.items i ≡ Some e;
  len : length l.history.items ≡ length l.initial.history.items;
  capacity : vec_capacity l.history ≡ vec_capacity l.initial.history;
}
