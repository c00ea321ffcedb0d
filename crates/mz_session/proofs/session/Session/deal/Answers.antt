use Rattle.std.proofs.Common.{◌≡◌, ◌∙◌, ◌-◌, List, [], ◌∷◌, length, slice_index_or, vec_len, Some, map, ap, sym, subst, arith}
use Rattle.mz_nano.specs.declared.seat.NanoSeat.{NanoSeat}
use Rattle.mz_nano.specs.SeatLists.{hand_of}
use Rattle.mz_nano.specs.Deals.{CanDeal, dealt, hands_of}
use Rattle.mz_zone.specs.Calling.{Seated}
use Rattle.mz_session.specs.Seats.{seat_of, deal_of}
use Rattle.mz_session.specs.Sessions.{SessionView, IsKept}
use Rattle.mz_session.specs.Giving.{slots_of}
use Rattle.mz_session.specs.Serving.{AreAtRest}
use Rattle.mz_session.specs.contracts.session.Session.{the_view}
use Rattle.mz_session.proofs.DealLemmas.{can-deal-parcels, with_nano, rests-dealt}
use Rattle.mz_session.proofs.session.Session.deal.Goals as goal

pub deal-requires-clause-can : goal.deal-requires-clause-can
deal-requires-clause-can c =
    let old : SessionView = the_view c.self.inside in
    let kept : IsKept old = subst IsKept (sym c.self.view_is) c.requires in
    let x : Seated = record { nano = c.in-Some-nano.nano; seat = c.in-Some.seat } in
    let seat : c.self.inside.seat ≡ Some c.in-Some.seat = sym c.take.ensures.value ∙ c.in-Some.is in
    let nano : c.self.inside.nano ≡ Some c.in-Some-nano.nano = c.in-Some-nano.is in
    let is : old.at.nano ≡ Some x = ap (λ n. seat_of n c.self.inside.seat) nano ∙ ap (seat_of (Some x.nano)) seat in
    let deals : c.deref-2.result.now ≡ map deal_of (slots_of old.parcels) = c.deref-2.ensures.value ∙ c.in_ok-deals.ensures ∙ ap (λ l. map deal_of (slots_of l)) c.deref.ensures.value in
    subst (λ ds. CanDeal ds (hands_of c.in_ok-seats.seats.items)) (sym deals)
    (subst (λ ss. CanDeal (map deal_of (slots_of old.parcels)) (hands_of ss)) (sym c.in_ok-seats.ensures.items) (can-deal-parcels c.of_sessions.ensures old kept c.of_book.ensures x is))

pub returns : goal.returns
returns c =
    let old : SessionView = the_view c.self.inside in
    let kept : IsKept old = subst IsKept (sym c.self.view_is) c.requires in
    let x : Seated = record { nano = c.in-Some-nano.nano; seat = c.in-Some.seat } in
    let seat : c.self.inside.seat ≡ Some c.in-Some.seat = sym c.take.ensures.value ∙ c.in-Some.is in
    let nano : c.self.inside.nano ≡ Some c.in-Some-nano.nano = c.in-Some-nano.is in
    let is : old.at.nano ≡ Some x = ap (λ n. seat_of n c.self.inside.seat) nano ∙ ap (seat_of (Some x.nano)) seat in
    let deals : c.deref-2.result.now ≡ map deal_of (slots_of old.parcels) = c.deref-2.ensures.value ∙ c.in_ok-deals.ensures ∙ ap (λ l. map deal_of (slots_of l)) c.deref.ensures.value in
    let items : List NanoSeat = c.deal.new.seats.items in
    let hands : hands_of items ≡ dealt (map deal_of (slots_of old.parcels)) (hand_of x.seat ∷ []) =
    c.in_ok-deal.ensures.hands
    ∙ ap (λ ds. dealt ds (hands_of c.in_ok-seats.seats.items)) deals
    ∙ ap (λ ss. dealt (map deal_of (slots_of old.parcels)) (hands_of ss)) c.in_ok-seats.ensures.items in
    let len : vec_len c.deal.new.seats ≡ length items = c.deal.new.seats.ok.0 in
    let new : SessionView = with_nano old (seat_of (Some c.deal.new.self) c.pop.result) in
    subst (λ y. AreAtRest y new) c.self.view_is
    (rests-dealt old x c.deal.new.self items c.pop.result kept is c.in-Some.seat.once c.in_ok-deal.ensures.same c.in_ok-deal.ensures.all hands
    (λ d some. c.pop.ensures.value d (omega (arith, len, some)) ∙ ap (λ n. Some (slice_index_or items (n - 1) d)) len))
