use Rattle.std.proofs.Common.{[], ◌∷◌, subst}
use Rattle.mz_run.specs.Coming.{CanCome}
use Rattle.mz_run.proofs.ComingLemmas.{give_to_one, give_is_new}
use Rattle.mz_run.proofs.allocator.answer_to.Goals as goal

pub give-requires-clause-to : goal.give-requires-clause-to
give-requires-clause-to g c =
    give_to_one c.args.session.now c.in-Give.name c.in-Give.to c.in-Give.given (subst (λ x. CanCome c.args.session.now (x ∷ [])) c.in-Give.is c.requires.can)

pub give-requires-clause-new : goal.give-requires-clause-new
give-requires-clause-new g c =
    give_is_new c.args.session.now c.in-Give.name c.in-Give.to c.in-Give.given (subst (λ x. CanCome c.args.session.now (x ∷ [])) c.in-Give.is c.requires.can)
