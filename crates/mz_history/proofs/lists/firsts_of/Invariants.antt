use Rattle.std.proofs.Common.{◌≡◌, ◌++◌, map, drop}
use Rattle.mz_holding.specs.declared.extent.Extent.{Extent}
use Rattle.mz_history.proofs.lists.firsts_of.Given as goal

abbrev pub invariant-loop-i : goal.invariant-loop-i
invariant-loop-i l = l.list.items ++ map (λ (e : Extent). e.first) (drop l.i l.runs) ≡ map (λ (e : Extent). e.first) l.runs
