use Rattle.std.proofs.Common.{ap, ◌∙◌, arith}
use Rattle.mz_base.specs.declared.profile.Profile.{Profile}
use Rattle.mz_zone_tests.proofs.Tested.{serve_same}
use Rattle.mz_zone_tests.proofs.rack.racks.Goals as goal

pub returns-clause-first : goal.returns-clause-first
returns-clause-first g c =
    serve_same _ _ _ _ 0 0 (c.in_ok-first.ensures.profile ∙ c.profile-p.ensures.same) c.in_ok-first.ensures.zone (c.in_ok-book.ensures.ready.each 0 (omega arith)).serve

pub returns-clause-second : goal.returns-clause-second
returns-clause-second g c =
    serve_same _ _ _ _ 1 0 (c.in_ok-second.ensures.profile ∙ c.profile-p.ensures.same) c.in_ok-second.ensures.zone (c.in_ok-book.ensures.ready.each 1 (omega arith)).serve

pub returns-clause-first_callers : goal.returns-clause-first_callers
returns-clause-first_callers g c = ap (λ (p : Profile). p.callers) (c.in_ok-first.ensures.profile ∙ c.profile-p.ensures.same)

pub returns-clause-second_callers : goal.returns-clause-second_callers
returns-clause-second_callers g c = ap (λ (p : Profile). p.callers) (c.in_ok-second.ensures.profile ∙ c.profile-p.ensures.same)
