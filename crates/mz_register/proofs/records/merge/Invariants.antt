use Rattle.std.proofs.Common.{◌≡◌, ℕ, ◌<◌, List, length, Vec}
use Rattle.std.specs.declared.alloc.Global.{Global}
use Rattle.std.specs.Vec.{vec_capacity}
use Rattle.std.specs.Prelude.{slice_get, Some}
use Rattle.mz_events.specs.declared.entry.Entry.{Entry}
use Rattle.mz_register.specs.Merged.{IsMerge}
use Rattle.mz_register.proofs.records.merge.Given as goal

abbrev pub invariant-loop-noted : goal.invariant-loop-noted
invariant-loop-noted l = record {
  placed : (k : ℕ) (r : Vec Entry Global) (i : ℕ) (e : Entry) → k < l.noted-index → slice_get l.records k ≡ Some r → slice_get r.items i ≡ Some e → slice_get l.history.items e.ticket ≡ Some e;
  kept : (all : List Entry) (i : ℕ) (e : Entry) → IsMerge all l.initial.history.items l.records → slice_get all i ≡ Some e → slice_get l.initial.history.items i ≡ Some e → slice_get l.history.items i ≡ Some e;
  len : length l.history.items ≡ length l.initial.history.items;
  capacity : vec_capacity l.history ≡ vec_capacity l.initial.history;
}
