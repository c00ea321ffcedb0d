use Rattle.std.proofs.Common.{◌++◌, ap, ◌∙◌, map}
use Rattle.mz_zone.specs.Blocks.{block_of}
use Rattle.mz_session.specs.Names.{blocks_named}
use Rattle.mz_session.proofs.NameLemmas.{blocks-of-views}
use Rattle.mz_session.proofs.blocks.Blocks.listed.Goals as goal

pub loop-block-init : goal.loop-block-init
loop-block-init c =
    ap (λ xs. xs ++ map block_of c.into_iter-block-iterator.result) c.new-listed.ensures.items
    ∙ ap (map block_of) (c.into_iter-block-iterator.ensures.into_iter_gives ∙ c.values-block-items.ensures.rest)
    ∙ blocks-of-views c.self.inside.map.entries ∙ ap blocks_named c.self.view_is
