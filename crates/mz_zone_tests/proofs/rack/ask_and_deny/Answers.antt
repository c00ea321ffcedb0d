use Rattle.std.proofs.Common.{◌<◌, sym, subst, refl}
use Rattle.mz_base.specs.declared.profile.Profile.{Profile}
use Rattle.mz_zone_tests.proofs.Asked.{can_as, can_with, can_again, freeable}
use Rattle.mz_zone_tests.proofs.rack.ask_and_deny.Goals as goal

pub act_as-requires-clause-nothing_held : goal.act_as-requires-clause-nothing_held
act_as-requires-clause-nothing_held g c = c.requires.owner.nothing_held

pub act_as-requires-clause-caller : goal.act_as-requires-clause-caller
act_as-requires-clause-caller g c = subst (λ (p : Profile). 0 < p.callers) (sym c.requires.owner.profile) c.requires.caller

pub alloc-requires-clause-power : goal.alloc-requires-clause-power
alloc-requires-clause-power g c = (4, refl)

pub free-requires-clause-can : goal.free-requires-clause-can
free-requires-clause-can g c =
    let p = c.args.other.now.profile in
    let y = c.args.other.now.zone in
    let acts = can_as _ _ p y 0 c.requires.other c.act_as.ensures in
    let more = can_with _ _ p y 36 acts c.in_ok-reserve.ensures.ok in
    can_with _ _ p y 3 (can_again _ _ p c.args.owner.now.zone y 36 c.args.n 16 _ more c.in-Ok.ensures) c.in_ok-reserve-2.ensures.ok

pub free-requires-clause-lot : goal.free-requires-clause-lot
free-requires-clause-lot g c =
    let laws = c.of_hands.ensures in
    freeable _ _ _ c.args.owner.now.zone c.args.n 16 3 c.in-Ok.lot laws c.in-Ok.ensures c.in_ok-reserve-2.ensures.ok
