use Rattle.std.proofs.Common.{rules, not, ap, ◌∙◌}
use Rattle.std.specs.Prelude.{map}
use Rattle.std.proofs.lemmas.Fn.{filter_same}
use Rattle.mz_base.specs.Space.{run_at, same_run}
use Rattle.mz_holding.specs.HeldRuns.{run_of_extent}
use Rattle.mz_holding.proofs.KeptLemmas.{map_filter}
use Rattle.mz_holding.proofs.holding.forget_run.Goals as goal

pub returns : goal.returns
returns c =
    ap (map run_of_extent) (filter_same _ (λ e. not (same_run (run_at c.args.first c.args.pages) (run_of_extent e))) _ (λ x b q k. (search rules, search rules)) c.args.cached.now.items _ c.retain.ensures.filtered)
    ∙ map_filter (λ r. not (same_run (run_at c.args.first c.args.pages) r)) c.args.cached.now.items
