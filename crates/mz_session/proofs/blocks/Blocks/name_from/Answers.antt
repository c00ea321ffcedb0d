use Rattle.std.proofs.Common.{subst, ◌∙◌}
use Rattle.std.specs.Prelude.{IfSome}
use Rattle.mz_session.specs.Names.{BeginsAt}
use Rattle.mz_session.proofs.StartLemmas.{begins-if}
use Rattle.mz_session.proofs.blocks.Blocks.name_from.Goals as goal

pub returns-clause-begins : goal.returns-clause-begins
returns-clause-begins c =
    subst (λ es. IfSome c.copied.result (BeginsAt es c.args.address)) c.self.view_is
    (begins-if c.self.inside.map.entries c.args.address c.copied.result c.self.invariant.apart
    (c.copied.ensures ∙ c.get.ensures.value ∙ c.self.invariant.found c.args.address))
