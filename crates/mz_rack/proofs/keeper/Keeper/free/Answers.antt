use Rattle.mz_rack.proofs.LargeLemmas.{of_large, ended_there}
use Rattle.mz_rack.proofs.keeper.Keeper.free.Goals as goal

pub returns-in-Ok-free-2 : goal.returns-in-Ok-free-2
returns-in-Ok-free-2 c = λ x p q k s blocks of_x.
    let here = of_large c.self.inside.kind c.in-Large.large c.args.self.now c.self.view_is c.in-Large.is x p q k s in
    ended_there c.in-Large.large c.free-in-Large.new.self c.args.span c.in-Ok-free-2.pushed x p q k here of_x c.in-Ok-free-2.ensures.1
