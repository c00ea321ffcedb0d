use Rattle.mz_events.specs.declared.place.Place.TheVariants.{Large}
use Rattle.mz_rack.proofs.LargeLemmas.{of_large, entered}
use Rattle.mz_rack.proofs.keeper.Keeper.enter.Goals as goal

pub returns : goal.returns
returns c = λ x p z k s.
    entered c.in-Large.large c.enter.new.self c.args.run.now x p z k (of_large c.self.inside.kind c.in-Large.large c.args.self.now c.self.view_is c.in-Large.is x p (Large z) k s) c.enter.ensures
