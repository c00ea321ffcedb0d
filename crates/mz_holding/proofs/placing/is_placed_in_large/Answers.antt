use Rattle.std.proofs.Common.{◌/◌, map, not, sym, ap, ◌∙◌}
use Rattle.std.specs.Prelude.{◌&&◌}
use Rattle.std.specs.Option.{option_map}
use Rattle.mz_base.specs.Space.{block_at, bytes_of, same_block}
use Rattle.mz_base.specs.Lists.{has_run, has_block}
use Rattle.mz_events.specs.Changes.{run_of}
use Rattle.mz_holding.specs.HeldRuns.{run_of_extent, run_of_held, live_in_runs}
use Rattle.mz_holding.proofs.QueryLemmas.{large_fits, large_spare}
use Rattle.mz_holding.proofs.placing.is_placed_in_large.Goals as goal

pub returns-in-Some : goal.returns-in-Some
returns-in-Some c = λ freed.
    let b = block_at c.args.a c.args.n in
    c.is_run.ensures.is ∙ large_fits (same_block b (bytes_of (run_of b))) (has_run (map run_of_held c.args.runs.now) (run_of b) && not (has_run (map run_of_extent c.args.cached.now) (run_of b)) && not (has_block (live_in_runs c.args.runs.now) b)) (map run_of_extent c.args.cached.now) (run_of_extent c.in-Some.best) (run_of b) (c.args.n / 16384) (c.best_fits.ensures.none (map run_of_extent c.args.cached.now) (c.args.n / 16384)) (sym c.is_whole_run.ensures ∙ c.if-not-is_whole_run.false) (sym c.best_fit.ensures ∙ ap (option_map run_of_extent) c.in-Some.is)

pub returns-in-None : goal.returns-in-None
returns-in-None c = λ freed.
    let b = block_at c.args.a c.args.n in
    c.is_spare.ensures ∙ large_spare (same_block b (bytes_of (run_of b))) (has_run (map run_of_held c.args.runs.now) (run_of b) && not (has_run (map run_of_extent c.args.cached.now) (run_of b)) && not (has_block (live_in_runs c.args.runs.now) b)) (map run_of_extent c.args.cached.now) (run_of b) (c.args.n / 16384) (c.best_fits.ensures.none (map run_of_extent c.args.cached.now) (c.args.n / 16384)) (sym c.is_whole_run.ensures ∙ c.if-not-is_whole_run.false) (sym c.best_fit.ensures ∙ ap (option_map run_of_extent) c.in-None.is)
