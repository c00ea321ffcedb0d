use Rattle.std.proofs.Common.{refl}
use Rattle.mz_zone_tests.proofs.StillMine.{still_with, still_served, served_lot}
use Rattle.mz_zone_tests.proofs.rack.lot_of.Goals as goal

pub alloc-requires-clause-power : goal.alloc-requires-clause-power
alloc-requires-clause-power g c = (4, refl)

pub returns-in-Ok-clause-lot : goal.returns-in-Ok-clause-lot
returns-in-Ok-clause-lot g c =
    let laws = c.of_hands.ensures in
    served_lot laws _ _ c.args.rack.now.zone c.args.n 16 c.in-Ok.lot c.in-Ok.ensures

pub returns-in-Ok-clause-others : goal.returns-in-Ok-clause-others
returns-in-Ok-clause-others g c = λ o h.
    let laws = c.of_hands.ensures in
    still_served laws _ _ c.args.rack.now.zone c.args.n 16 _ o c.in-Ok.ensures (still_with _ _ 36 o h c.in_ok-reserve.ensures.ok)
