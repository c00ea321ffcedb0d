use Rattle.mz_events.proofs.MagazineLemmas.{of_regions, has_depot}
use Rattle.mz_events.proofs.laws.places.magazines_and_depots.Goals as goal

pub returns-clause-regions : goal.returns-clause-regions
returns-clause-regions c = of_regions

pub returns-clause-depot : goal.returns-clause-depot
returns-clause-depot c = has_depot
