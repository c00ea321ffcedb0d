use Rattle.std.proofs.Common.{ap, ◌∙◌, arith}
use Rattle.mz_base.specs.declared.profile.Profile.{Profile}
use Rattle.mz_zone_tests.proofs.Tested.{ready_same}
use Rattle.mz_zone_tests.proofs.nano.two_seats_in_turn.Goals as goal

pub take_turns-requires-clause-callers : goal.take_turns-requires-clause-callers
take_turns-requires-clause-callers g c = let e = ap (λ (p : Profile). p.callers) (c.in_ok-zone.ensures.profile ∙ c.profile-p.ensures.same) in omega arith

pub take_turns-requires-clause-ready : goal.take_turns-requires-clause-ready
take_turns-requires-clause-ready g c = ready_same _ _ _ 0 (c.in_ok-zone.ensures.profile ∙ c.profile-p.ensures.same) c.in_ok-book.ensures.ready

pub take_turns-requires-clause-second : goal.take_turns-requires-clause-second
take_turns-requires-clause-second g c = c.in_ok-book.ensures.second
