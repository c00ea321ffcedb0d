use Rattle.mz_spots.proofs.KeyLemmas.{zone_built}
use Rattle.mz_spots.proofs.key.spots_of_zone.Goals as goal

pub returns : goal.returns
returns c = zone_built c.args.p.now c.args.zone _ _ _ _ _ _ c.new-keys.ensures.items c.in_ok-push_tiny.ensures c.in_ok-push.ensures.items c.in_ok-push_small.ensures c.in_ok-push-2.ensures.items c.in_ok-push-3.ensures.items
