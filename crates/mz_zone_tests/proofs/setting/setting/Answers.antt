use Rattle.std.proofs.Common.{◌≡◌, ap, sym, ◌∙◌, refl, arith}
use Rattle.std.proofs.lemmas.List.{map-id}
use Rattle.mz_base.specs.declared.profile.Profile.{Profile}
use Rattle.mz_book.specs.Plain.{last_site}
use Rattle.mz_zone_tests.proofs.Tested.{last_sits, others_new}
use Rattle.mz_zone_tests.proofs.TwoZones.{as_tested, holds_none, two_ready}
use Rattle.mz_zone_tests.proofs.setting.setting.Goals as goal

pub open_zone-requires-clause-holds : goal.open_zone-requires-clause-holds
open_zone-requires-clause-holds g c = holds_none _ _ _ (as_tested _ _ _ c.in_ok-book.ensures c.profile-p.ensures.same) c.in_ok-reserve.ensures.ok

pub open-requires-clause-whole : goal.open-requires-clause-whole
open-requires-clause-whole g c =
    let nano : c.profile-p.result.nano ≡ 2 = ap (λ (p : Profile). p.nano) c.profile-p.ensures.same in
    let pages : c.profile-p.result.pages ≡ 258 = ap (λ (p : Profile). p.pages) c.profile-p.ensures.same in
    let whole = c.in_ok-span.ensures.len in
    let back = c.split-low.ensures.back_len in
    (2, omega arith, omega arith)

pub returns-clause-ready : goal.returns-clause-ready
returns-clause-ready g c =
    let nano : c.profile-p.result.nano ≡ 2 = ap (λ (p : Profile). p.nano) c.profile-p.ensures.same in
    let pages : c.profile-p.result.pages ≡ 258 = ap (λ (p : Profile). p.pages) c.profile-p.ensures.same in
    let whole = c.in_ok-span.ensures.len in
    let start = c.in_ok-span.ensures.first in
    let split = c.split-low.ensures in
    let back = split.back_len in
    let begins = split.back_first in
    let opened = c.in_ok-nano.ensures.nano in
    let blocks = opened.1 in
    let first = opened.3 in
    two_ready c.zones_after_an_event.ensures.opened c.states_split.ensures.one _ _ _ _ _ c.in_ok-nano.nano c.in-Some-pop.first (as_tested _ _ _ c.in_ok-book.ensures c.profile-p.ensures.same)
    c.in_ok-reserve.ensures.ok c.open_zone.ensures refl
    (last_sits c.in_ok-nano.nano _ _ c.in-Some-pop.first c.in-Some-pop.ensures.items
    (others_new c.in_ok-nano.nano _ _ c.in-Some.second c.in-Some.ensures.items c.in_ok-nano.ensures.seats.1)) (omega arith) (omega arith)
    (opened.2 ∙ (split.back_space ∙ (sym split.front_space ∙ (sym c.in_ok-keepers.ensures.space ∙ sym (ap last_site (map-id c.in_ok-keepers.keepers.items))))))

pub returns-clause-second : goal.returns-clause-second
returns-clause-second g c = last_sits c.in_ok-nano.nano _ _ c.in-Some.second c.in-Some.ensures.items c.in_ok-nano.ensures.seats.1
