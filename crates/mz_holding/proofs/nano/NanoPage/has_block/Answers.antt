use Rattle.std.proofs.Common.{ap, sym, ◌∙◌}
use Rattle.mz_base.specs.Space.{block_at}
use Rattle.mz_base.specs.Lists.{has_block}
use Rattle.mz_events.specs.State.{Kept}
use Rattle.mz_holding.specs.LiveBlocks.{live_of}
use Rattle.mz_holding.proofs.WalkLemmas.{has_is_found, is_found}
use Rattle.mz_holding.proofs.nano.NanoPage.has_block.Goals as goal

pub returns-in-Some : goal.returns-in-Some
returns-in-Some c =
    let live = live_of c.self.inside.blocks in
    sym (has_is_found live c.args.a c.args.n c.self.inside.blocks.spread ∙ ap (λ o. is_found o c.args.n) (sym c.find.ensures ∙ c.in-Some.is))
    ∙ ap (λ (k : Kept). has_block k.live (block_at c.args.a c.args.n)) c.self.view_is

pub returns-in-None : goal.returns-in-None
returns-in-None c =
    let live = live_of c.self.inside.blocks in
    sym (has_is_found live c.args.a c.args.n c.self.inside.blocks.spread ∙ ap (λ o. is_found o c.args.n) (sym c.find.ensures ∙ c.in-None.is))
    ∙ ap (λ (k : Kept). has_block k.live (block_at c.args.a c.args.n)) c.self.view_is
