use Rattle.std.proofs.Common.{◌≡◌, length}
use Rattle.mz_register.specs.Opened.{AreBlank}
use Rattle.mz_register.proofs.open.blanks.Given as goal

abbrev pub invariant-loop : goal.invariant-loop
invariant-loop l = record {
  count : length l.blanks.items ≡ l.counter;
  blank : AreBlank l.keepers l.blanks.items;
}
