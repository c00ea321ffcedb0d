use Rattle.std.proofs.Common.{refl}
use Rattle.std.proofs.lemmas.Bool.{false≢true}
use Rattle.std.specs.Prelude.{IsTrue, ◌||◌}
use Rattle.mz_base.specs.Space.{block_at}
use Rattle.mz_events.specs.declared.place.Place.{Place}
use Rattle.mz_events.specs.declared.place.Place.TheVariants.{Pages, Tiny, TinyDepot, Small, SmallDepot, Large, Nano}
use Rattle.mz_events.specs.Places.{is_magazine, is_depot, spot_of}
use Rattle.mz_events.specs.State.{look_up, kept_at}
use Rattle.mz_base.specs.Lists.{has_block}
use Rattle.mz_examples.specs.Examples.{magazine, depot}
use Rattle.mz_examples.specs.RunsResized.{live_in}
use Rattle.mz_examples.proofs.ResizedTests.{not_hemmed}
use Rattle.mz_examples.proofs.runs.resized.at_region_end.Goals as goal

-- a block in large is live in no magazine and no depot
only_in_large : (k : Place) → IsTrue (is_magazine k || is_depot k) → IsTrue (has_block (kept_at (live_in (Large 0) (block_at 0 1048576)) (spot_of k)).live (block_at 0 1048576)) → ⊥
unfolding look_up
only_in_large Pages kind live = false≢true kind
only_in_large (Tiny z m) kind live = false≢true live
only_in_large (TinyDepot z) kind live = false≢true live
only_in_large (Small z m) kind live = false≢true live
only_in_large (SmallDepot z) kind live = false≢true live
only_in_large (Large z) kind live = false≢true kind
only_in_large Nano kind live = false≢true kind

pub returns-clause-last : goal.returns-clause-last
unfolding look_up
returns-clause-last c = (magazine, refl, refl, refl)

pub returns-clause-in_depot : goal.returns-clause-in_depot
unfolding look_up
returns-clause-in_depot c = (depot, refl, refl, refl)

pub returns-clause-last_but_one : goal.returns-clause-last_but_one
returns-clause-last_but_one c = not_hemmed (live_in magazine (block_at 1048544 16)) (block_at 1048544 16) 32 refl

pub returns-clause-not_live : goal.returns-clause-not_live
returns-clause-not_live c = not_hemmed (live_in magazine (block_at 1048560 16)) (block_at 0 16) 32 refl

pub returns-clause-in_large : goal.returns-clause-in_large
returns-clause-in_large c = λ hemmed. only_in_large hemmed.0 hemmed.1 hemmed.2
