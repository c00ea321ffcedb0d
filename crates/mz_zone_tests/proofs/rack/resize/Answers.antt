use Rattle.mz_zone_tests.proofs.StillMine.{still_with, still_resized}
use Rattle.mz_zone_tests.proofs.rack.resize.Goals as goal

pub returns-clause-lot : goal.returns-clause-lot
returns-clause-lot g c =
    let laws = c.of_hands.ensures in
    still_resized laws _ _ c.args.lot.now c.resize.new.lot c.args.n c.resize.result c.resize.ensures (still_with _ _ 1 c.args.lot.now c.requires.lot c.in_ok-reserve.ensures.ok)
