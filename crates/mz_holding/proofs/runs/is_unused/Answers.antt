use Rattle.std.proofs.Common.{sym, ◌∙◌}
use Rattle.std.specs.List.{list_all}
use Rattle.mz_base.specs.Space.{run_at, bytes_of, blocks_apart}
use Rattle.mz_holding.specs.HeldRuns.{live_in_runs}
use Rattle.mz_holding.proofs.RunLemmas.{contains_in}
use Rattle.mz_holding.proofs.QueryLemmas.{unused_here, unused_other, unused_nowhere}
use Rattle.mz_holding.proofs.runs.is_unused.Goals as goal

pub returns-then-is_run : goal.returns-then-is_run
returns-then-is_run c =
    let has = c.in-Some.ensures in
    let isin = contains_in c.args.runs.now c.in-Some.held.now has.0 in
    c.is_empty.ensures ∙ unused_here c.args.runs.now c.in-Some.held.now c.args.first c.args.pages c.requires isin has.1 has.2 (sym c.is_run.ensures ∙ c.if-is_run.true)

pub returns-else-is_run : goal.returns-else-is_run
returns-else-is_run c =
    let has = c.in-Some.ensures in
    let isin = contains_in c.args.runs.now c.in-Some.held.now has.0 in
    unused_other c.args.runs.now c.in-Some.held.now c.args.first c.args.pages (list_all (λ b. blocks_apart b (bytes_of (run_at c.args.first c.args.pages))) (live_in_runs c.args.runs.now)) c.requires isin has.1 has.2 (sym c.is_run.ensures ∙ c.if-is_run.false)

pub returns-in-None : goal.returns-in-None
returns-in-None c = unused_nowhere c.args.runs.now c.args.first c.args.pages (list_all (λ b. blocks_apart b (bytes_of (run_at c.args.first c.args.pages))) (live_in_runs c.args.runs.now)) c.in-None.ensures
