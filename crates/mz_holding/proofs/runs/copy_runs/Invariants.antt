use Rattle.std.proofs.Common.{drop}
use Rattle.mz_holding.proofs.TakeLemmas.{IsCopy}
use Rattle.mz_holding.proofs.runs.copy_runs.Given as goal

abbrev pub invariant-loop-held : goal.invariant-loop-held
invariant-loop-held l = IsCopy l.list.items (drop l.held-index l.runs) l.runs
