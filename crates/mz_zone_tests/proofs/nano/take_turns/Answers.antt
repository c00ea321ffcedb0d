use Rattle.mz_zone_tests.proofs.Tested.{other_seat, still_sits}
use Rattle.mz_zone_tests.proofs.nano.take_turns.Goals as goal

pub take_turn-requires-2-clause-ready : goal.take_turn-requires-2-clause-ready
take_turn-requires-2-clause-ready g c = other_seat _ _ _ _ _ _ c.in_ok-a.ensures c.requires.second

pub take_turn-requires-3-clause-ready : goal.take_turn-requires-3-clause-ready
take_turn-requires-3-clause-ready g c = other_seat _ _ _ _ _ _ c.in_ok-b.ensures (still_sits _ _ _ c.args.zone.now c.in_ok-a.ensures)

pub take_turn-requires-4-clause-ready : goal.take_turn-requires-4-clause-ready
take_turn-requires-4-clause-ready g c = other_seat _ _ _ _ _ _ c.in_ok-c.ensures (still_sits _ _ _ c.args.zone.now c.in_ok-b.ensures)
