use Rattle.std.proofs.Common.{ap, sym, ◌∙◌, arith}
use Rattle.mz_base.specs.declared.profile.Profile.{Profile}
use Rattle.mz_zone_tests.proofs.Tested.{ready_same}
use Rattle.mz_zone_tests.proofs.nano.a_slot_of_another_class_goes_back.Goals as goal

pub settle_first-requires-clause-pages : goal.settle_first-requires-clause-pages
settle_first-requires-clause-pages g c =
    let can = c.in_ok-book.ensures.ready.each 0 (omega arith) in
    let e = ap (λ (p : Profile). p.nano) can.serve.profile in
    omega arith

pub settle_first-requires-clause-callers : goal.settle_first-requires-clause-callers
settle_first-requires-clause-callers g c =
    let can = c.in_ok-book.ensures.ready.each 0 (omega arith) in
    let e = ap (λ (p : Profile). p.callers) can.serve.profile in
    omega arith

pub settle_first-requires-clause-nothing_held : goal.settle_first-requires-clause-nothing_held
settle_first-requires-clause-nothing_held g c = (c.in_ok-book.ensures.ready.each 0 (omega arith)).serve.nothing_held

pub go_on-requires-clause-same : goal.go_on-requires-clause-same
go_on-requires-clause-same g c = c.in_ok-second.ensures.profile ∙ sym c.in_ok-first.ensures.profile

pub go_on-requires-clause-left : goal.go_on-requires-clause-left
go_on-requires-clause-left g c = record {
  ready = ready_same _ _ _ 0 (c.in_ok-first.ensures.profile ∙ c.profile-p.ensures.same) (c.settle_first.ensures _ _ c.in_ok-book.ensures.ready);
  held = tt;
}
