use Rattle.std.proofs.Common.{◌≡◌, ◌+◌, ◌≤◌, drop}
use Rattle.mz_register.specs.Merged.{count_noted}
use Rattle.mz_register.proofs.records.count_noted.Given as goal

abbrev pub invariant-loop-pass : goal.invariant-loop-pass
invariant-loop-pass g l = record {
  all : l.count + count_noted (drop l.pass-index l.passes) ≡ count_noted l.passes;
  most : l.count ≤ l.most;
}
