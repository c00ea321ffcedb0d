use Rattle.std.proofs.Common.{ap, ◌∙◌}
use Rattle.std.specs.List.{list_all}
use Rattle.mz_base.specs.Space.{block_at, blocks_apart}
use Rattle.mz_events.specs.State.{Kept}
use Rattle.mz_holding.specs.LiveBlocks.{live_of}
use Rattle.mz_holding.proofs.NanoLemmas.{apart_between}
use Rattle.mz_holding.proofs.nano.NanoPage.is_apart.Goals as goal

pub returns : goal.returns
returns c = c.lies_between.ensures ∙ apart_between (live_of c.self.inside.blocks) c.args.a c.args.n c.gap-low.result.0 c.gap-low.result.1 c.gap-low.ensures c.self.inside.blocks.spread c.requires.some c.requires.fits
    ∙ ap (λ (k : Kept). list_all (λ b. blocks_apart b (block_at c.args.a c.args.n)) k.live) c.self.view_is
