use Rattle.std.proofs.Common.{ap, ◌∙◌}
use Rattle.mz_session.specs.Names.{block_with}
use Rattle.mz_session.proofs.NameLemmas.{lookup-block}
use Rattle.mz_session.proofs.blocks.Blocks.get.Goals as goal

pub returns : goal.returns
returns c = c.get.ensures.value ∙ lookup-block c.self.inside.map.entries c.args.name.now ∙ ap (λ es. block_with es c.args.name.now) c.self.view_is
