use Rattle.std.proofs.Common.{◌≡◌, ℕ, ◌-◌, ◌≤◌, ◌++◌, length, take, drop}
use Rattle.mz_holding.specs.TakenPages.{insert_taken}
use Rattle.mz_holding.proofs.pages.place_for.Given as goal

abbrev pub invariant-loop-i : goal.invariant-loop-i
invariant-loop-i l = record {
  within : l.i ≤ length l.taken;
  before : (pages : ℕ) → insert_taken (record { first = l.first; pages = pages }) l.taken ≡ take l.i l.taken ++ insert_taken (record { first = l.first; pages = pages }) (drop l.i l.taken);
}

abbrev pub decreases-loop-i : goal.decreases-loop-i
decreases-loop-i l = length l.taken - l.i
