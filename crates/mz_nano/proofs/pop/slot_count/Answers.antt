use Rattle.std.proofs.Common.{refl}
use Rattle.mz_nano.specs.Rule.{slots}
use Rattle.mz_nano.proofs.ClaimSteps.{slots_whole, slots_least}
use Rattle.mz_nano.proofs.SlotSteps.{slots_most}
use Rattle.mz_nano.proofs.pop.slot_count.Goals as goal

pub returns : goal.returns
unfolding slots
returns c = record { count = refl; most = slots_most c.args.class; least = slots_least c.args.class c.requires.0 c.requires.1; whole = slots_whole c.args.class }
