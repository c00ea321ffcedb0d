use Rattle.std.proofs.Common.{◌≡◌, length}
use Rattle.mz_rack.proofs.OpeningLemmas.{AreOfZones}
use Rattle.mz_rack.proofs.keeper.Keeper.all.Given as goal

-- those so far stand for the places of their numbers
abbrev pub invariant-loop-k : goal.invariant-loop-k
invariant-loop-k l = (length l.keepers.items ≡ l.k) × AreOfZones l.p l.keepers.items
