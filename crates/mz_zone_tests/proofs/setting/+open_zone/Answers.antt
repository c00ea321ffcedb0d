use Rattle.std.proofs.Common.{rules, subst, arith}
use Rattle.mz_zone_tests.specs.TwoZones.{HoldsFirst}
use Rattle.mz_zone_tests.proofs.TwoZones.{can_open, has_opened, can_take, holds_one_more, can_give_back, stands_then, has_opened_then}
use Rattle.mz_zone_tests.proofs.setting.+open_zone.Goals as goal

pub note-requires : goal.note-requires
note-requires g t c =
    let s = g.B.Book.account c.args.book.now in
    let ord = g.met.B.Book.orderly c.args.book.now in
    can_open c.when_an_event_fits.ensures c.what_an_event_reads.ensures.held c.states_split.ensures.none s (subst (HoldsFirst s) c.if-n-eq7.true c.requires.holds) ord.caller

pub returns-then-n-eq7 : goal.returns-then-n-eq7
returns-then-n-eq7 g t c =
    let s = g.B.Book.account c.args.book.now in
    has_opened s _ c.note.result (subst (HoldsFirst s) c.if-n-eq7.true c.requires.holds) c.note.ensures

pub hold-keeper-requires : goal.hold-keeper-requires
hold-keeper-requires g t c = can_take _ c.args.n c.requires.holds (let most = c.requires.most in let n = c.if-n-eq7.false in omega arith)

pub open_zone-requires : goal.open_zone-requires
open_zone-requires g t c κs within =
    let more = holds_one_more _ _ c.args.n c.requires.holds c.hold-keeper.ensures.holds in
    let most = c.requires.most in
    let n = c.if-n-eq7.false in
    (search rules, (within.0, (within.1, (omega arith, more))))

pub release-requires-clause-can : goal.release-requires-clause-can
release-requires-clause-can g t c =
    can_give_back c.what_an_event_leaves.ensures.either c.states_split.ensures.one c.states_split.ensures.none _ _ _ c.args.n c.requires.holds c.hold-keeper.ensures.holds c.open_zone.ensures

pub release-requires-clause-stands : goal.release-requires-clause-stands
release-requires-clause-stands g t c =
    stands_then c.what_an_event_leaves.ensures.either c.states_split.ensures.one c.states_split.ensures.none _ _ _ c.args.n c.requires.holds c.hold-keeper.ensures.holds c.open_zone.ensures c.hold-keeper.result c.hold-keeper.ensures.stands

pub returns : goal.returns
returns g t c =
    has_opened_then c.what_an_event_leaves.ensures.either c.states_split.ensures.one c.states_split.ensures.none _ _ _ c.args.n c.requires.holds c.hold-keeper.ensures.holds c.open_zone.ensures _ c.release.ensures
