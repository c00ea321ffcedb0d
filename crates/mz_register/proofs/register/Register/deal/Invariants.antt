use Rattle.std.proofs.Common.{◌≡◌, ◌+◌, ◌≤◌, length}
use Rattle.std.specs.Vec.{vec_capacity}
use Rattle.mz_book.specs.Keepers.{keeper_count}
use Rattle.mz_desk.specs.Keys.{opened_as}
use Rattle.mz_register.specs.Opened.{AreDealt, AreBlank}
use Rattle.mz_register.proofs.register.Register.deal.Given as goal

abbrev pub invariant-loop-caller : goal.invariant-loop-caller
invariant-loop-caller g l = record {
  dealt : AreDealt l.self.table.shared.table_id (opened_as g.V.Keep.keeping l.self.table.shared.key) l.caller l.passes.items;
  capacity : l.self.opening.profile.callers ≤ vec_capacity l.passes;
  blank : AreBlank (keeper_count l.self.opening.profile) l.blanks.items;
  left : length l.blanks.items + l.caller ≡ l.self.opening.profile.callers;
}
