use Rattle.std.proofs.Common.{◌∙◌}
use Rattle.mz_holding.proofs.NeighbourLemmas.{lookup_is_size}
use Rattle.mz_holding.proofs.blocks.Blocks.find.Goals as goal

pub returns : goal.returns
returns c = c.copied.ensures ∙ c.get.ensures.value ∙ lookup_is_size c.args.self.now.sizes.entries c.args.a
