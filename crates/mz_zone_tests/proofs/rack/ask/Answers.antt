use Rattle.std.proofs.Common.{sym, subst, refl, ◌<◌}
use Rattle.mz_base.specs.declared.profile.Profile.{Profile}
use Rattle.mz_zone_tests.proofs.Asked.{can_as, can_with, can_again}
use Rattle.mz_zone_tests.proofs.rack.ask.Goals as goal

pub act_as-requires-clause-nothing_held : goal.act_as-requires-clause-nothing_held
act_as-requires-clause-nothing_held g c = c.requires.can.nothing_held

pub act_as-requires-clause-caller : goal.act_as-requires-clause-caller
act_as-requires-clause-caller g c = subst (λ (p : Profile). c.args.caller < p.callers) (sym c.requires.can.profile) c.requires.caller

pub alloc-requires-clause-can : goal.alloc-requires-clause-can
alloc-requires-clause-can g c =
    let p = c.args.rack.now.profile in
    let z = c.args.rack.now.zone in
    can_with _ _ p z 36 (can_as _ _ p z c.args.caller c.requires.can c.act_as.ensures) c.in_ok-reserve.ensures.ok

pub alloc-requires-clause-power : goal.alloc-requires-clause-power
alloc-requires-clause-power g c = (4, refl)

pub returns : goal.returns
returns g c = λ p z can.
    let acts = can_as _ _ p z c.args.caller can c.act_as.ensures in
    let more = can_with _ _ p z 36 acts c.in_ok-reserve.ensures.ok in
    can_again _ _ p c.args.rack.now.zone z 36 c.args.n 16 c.alloc.result more c.alloc.ensures
