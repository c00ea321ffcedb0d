use Rattle.mz_keeper_tests.proofs.CutRuns.{IsCutUp}
use Rattle.mz_keeper_tests.proofs.large.bench.Bench.of_runs.Given as goal

-- all runs were cut from what is left
abbrev pub invariant-loop-pages : goal.invariant-loop-pages
invariant-loop-pages l = IsCutUp l.large l.spans.items l.rest
