use Rattle.std.proofs.Common.{refl, ap, ◌∙◌}
use Rattle.mz_events.specs.declared.place.Place.TheVariants.{Small}
use Rattle.mz_events.specs.Places.{keeper_at}
use Rattle.mz_spots.specs.Keys.{spots_of}
use Rattle.mz_spots.proofs.KeyLemmas.{spots_more}
use Rattle.mz_spots.proofs.key.push_small.Goals as goal

pub loop-mag-preserved : goal.loop-mag-preserved
loop-mag-preserved c = ap spots_of c.in_ok-push.ensures.items ∙ spots_more (λ m. keeper_at (Small c.args.zone m)) _ c.loop-mag.keys.items _ c.loop-mag.mag c.loop-mag.invariant refl
