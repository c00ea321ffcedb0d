use Rattle.std.proofs.Common.{◌≡◌, take}
use Rattle.mz_spots.proofs.slots.copies.Given as goal

abbrev pub invariant-loop-slot : goal.invariant-loop-slot
invariant-loop-slot l = l.list.items ≡ take l.slot-index l.slots
