use Rattle.std.proofs.Common.{refl}
use Rattle.mz_examples.proofs.runs.rows.limits.Goals as goal

pub returns-clause-below_least : goal.returns-clause-below_least
returns-clause-below_least c = refl

pub returns-clause-least : goal.returns-clause-least
returns-clause-least c = refl

pub returns-clause-greatest : goal.returns-clause-greatest
returns-clause-greatest c = refl

pub returns-clause-above_greatest : goal.returns-clause-above_greatest
returns-clause-above_greatest c = refl

pub returns-clause-other_range : goal.returns-clause-other_range
returns-clause-other_range c = refl

pub returns-clause-own_range : goal.returns-clause-own_range
returns-clause-own_range c = refl

pub returns-clause-overflow : goal.returns-clause-overflow
returns-clause-overflow c = refl

pub returns-clause-no_overflow : goal.returns-clause-no_overflow
returns-clause-no_overflow c = refl
