use Rattle.std.proofs.Common.{rules, not}
use Rattle.std.proofs.lemmas.Fn.{filter_same}
use Rattle.mz_base.specs.Space.{block_at, bytes_of, same_block}
use Rattle.mz_holding.specs.HeldRuns.{run_of_extent}
use Rattle.mz_holding.proofs.holding.forget_bytes.Goals as goal

pub returns : goal.returns
returns c = filter_same _ (λ e. not (same_block (block_at c.args.a c.args.n) (bytes_of (run_of_extent e)))) _ (λ x b q k. (search rules, search rules)) c.args.cached.now.items _ c.retain.ensures.filtered
