use Rattle.mz_zone_tests.proofs.rack.ask_both.Goals as goal

pub loop-caller-preserved : goal.loop-caller-preserved
loop-caller-preserved g c =
    let i = c.loop-caller.invariant in
    (c.in_ok-there.ensures _ _ (c.in_ok-here.ensures _ _ i.0), c.in_ok-there.ensures _ _ (c.in_ok-here.ensures _ _ i.1))
