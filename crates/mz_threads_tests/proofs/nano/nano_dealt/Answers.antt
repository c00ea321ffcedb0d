use Rattle.std.proofs.Common.{◌≡◌, ℕ, List, [], ◌∷◌, length, set, refl, sym, ap, ◌∙◌, subst, arith, inl, length-set, get_or-set_same}
use Rattle.mz_nano.specs.declared.nano.Nano.{Nano}
use Rattle.mz_nano.specs.declared.deal.Deal.{Deal}
use Rattle.mz_nano.specs.declared.seat.NanoSeat.{NanoSeat}
use Rattle.mz_nano.specs.declared.view.Held.{Held}
use Rattle.mz_nano.specs.Lists.{In}
use Rattle.mz_nano.specs.Rule.{held}
use Rattle.mz_nano.specs.SeatLists.{AreAllOf, hand_of, seats_of}
use Rattle.mz_nano.specs.Deals.{hands_of, hand_at, moved, dealt, CanDeal}
use Rattle.mz_nano.proofs.CountLemmas.{index_in}
use Rattle.mz_nano.proofs.DealLemmas.{map_length}
use Rattle.mz_nano.proofs.AllLemmas.{new_all, all_set, can_one, hand_there, moved_there}
use Rattle.mz_threads_tests.proofs.nano.nano_dealt.Goals as goal

pub deal-requires-clause-all : goal.deal-requires-clause-all
deal-requires-clause-all g c =
    let nano = c.in_ok-nano.nano in
    let id = nano.table.shared.table_id in
    let key = nano.table.shared.key in
    let ss = c.in_ok-nano.seats.items in
    let news = c.in_ok-nano.ensures.seats in
    let len = news.0 in
    let all = new_all id key 0 ss news.1 in
    let o = c.index_mut.result.now in
    let there = subst (λ (x : NanoSeat). In x ss) (sym c.index_mut.ensures.value) (index_in ss 0 o (omega arith)) in
    let parts : c.pop.new.seat.seat.me.0.parts ≡ 2 = c.in-Ok.ensures.ok.0.same.parts ∙ (all o there).1 in
    (length-set ss 0 c.pop.new.seat ∙ (len ∙ sym c.in_ok-nano.ensures.nano.4), all_set id key ss 0 c.pop.new.seat all c.in-Ok.ensures.one.0 parts)

pub deal-requires-clause-can : goal.deal-requires-clause-can
deal-requires-clause-can g c =
    let ss = c.in_ok-nano.seats.items in
    let len = c.in_ok-nano.ensures.seats.0 in
    let new = c.pop.new.seat in
    let s = c.in-Ok.s in
    let hs : List (List Held) = hands_of (set ss 0 new) in
    let d : Deal = record { block = c.block.result; slot = c.slot.result; from = 0; to = 1 } in
    let wide = length-set ss 0 new in
    let count = map_length hand_of (set ss 0 new) in
    let first = hand_there (set ss 0 new) 0 new (omega arith) (get_or-set_same ss 0 new new (omega arith)) ∙ c.in-Ok.ensures.ok.0.hand in
    let mine : In (held s.block s.slot 16) (hand_at hs 0) = subst (In (held s.block s.slot 16)) (sym first) (inl refl) in
    let named : In (held c.block.result c.slot.result 16) (hand_at hs 0) =
    subst (λ (b : ℕ). In (held b c.slot.result 16) (hand_at hs 0)) (sym c.block.ensures) (subst (λ (j : ℕ). In (held s.block j 16) (hand_at hs 0)) (sym c.slot.ensures) mine) in
    let can : CanDeal (d ∷ []) hs = can_one d hs record { from = omega arith; to = omega arith; class_ = 16; mine = named } in
    subst (λ (ds : List Deal). CanDeal ds hs) (sym c.as_slice.ensures) can

pub push-requires-clause-one : goal.push-requires-clause-one
push-requires-clause-one g c =
    let x = c.in-Err.ensures.err in
    let s = c.index_mut-2.result.now in
    let items : c.in-Err.both.1.items ≡ c.deal.new.seats.items = λ i. (x.2 i).items in
    let all : AreAllOf c.in-Err.both.0 c.in-Err.both.1.items = subst (AreAllOf c.in-Err.both.0) (sym items) (subst (λ (n : Nano). AreAllOf n c.deal.new.seats.items) (sym x.1) c.deal.ensures.all) in
    let n1 = ap seats_of x.1 in let n2 = ap seats_of c.deal.ensures.same in let n3 = c.in_ok-nano.ensures.nano.4 in let n4 = all.0 in
    let there = subst (λ (y : NanoSeat). In y c.in-Err.both.1.items) (sym c.index_mut-2.ensures.value) (index_in c.in-Err.both.1.items 1 s (omega arith)) in
    all.1 s there

pub push-requires-clause-mine : goal.push-requires-clause-mine
push-requires-clause-mine g c =
    let ss = c.in_ok-nano.seats.items in
    let len = c.in_ok-nano.ensures.seats.0 in
    let new = c.pop.new.seat in
    let p = c.in-Ok.s in
    let hs : List (List Held) = hands_of (set ss 0 new) in
    let d : Deal = record { block = c.block.result; slot = c.slot.result; from = 0; to = 1 } in
    let wide = length-set ss 0 new in
    let count = map_length hand_of (set ss 0 new) in
    let o = c.index_mut.result.now in
    let first : hand_at hs 0 ≡ held p.block p.slot 16 ∷ hand_of o = hand_there (set ss 0 new) 0 new (omega arith) (get_or-set_same ss 0 new new (omega arith)) ∙ c.in-Ok.ensures.ok.0.hand in
    let eb : c.block.result ≡ p.block = c.block.ensures in
    let ej : c.slot.result ≡ p.slot = c.slot.ensures in
    let ec : p.class ≡ 16 = c.in-Ok.ensures.ok.1 in
    let named : hand_at hs 0 ≡ held d.block d.slot 16 ∷ hand_of o = first ∙ (λ i. held (sym eb i) (sym ej i) 16 ∷ hand_of o) in
    let there : In (held d.block d.slot 16) (hand_at (moved d hs) 1) = moved_there d hs 16 (hand_of o) (omega arith) named in
    let x = c.in-Err.ensures.err in
    let s = c.index_mut-2.result.now in
    let items : c.in-Err.both.1.items ≡ c.deal.new.seats.items = λ i. (x.2 i).items in
    let n1 = ap seats_of x.1 in let n2 = ap seats_of c.deal.ensures.same in let n3 = c.in_ok-nano.ensures.nano.4 in let n4 = c.deal.ensures.all.0 in let n5 = ap length items in
    let hands : hands_of c.in-Err.both.1.items ≡ moved d hs = ap hands_of items ∙ (c.in_ok-deal.ensures.hands ∙ ap (λ (ds : List Deal). dealt ds hs) c.as_slice.ensures) in
    let hand : hand_at (moved d hs) 1 ≡ hand_of s = ap (λ (h : List (List Held)). hand_at h 1) (sym hands) ∙ hand_there c.in-Err.both.1.items 1 s (omega arith) (sym c.index_mut-2.ensures.value) in
    subst (λ (h : Held). In h (hand_of s)) (λ i. held (eb i) (ej i) (sym ec i)) (subst (In (held d.block d.slot 16)) hand there)

pub close-requires-2 : goal.close-requires-2
close-requires-2 g c =
    let x = c.in-Err.ensures.err in
    let s = c.index_mut-2.result.now in
    let nano = c.in-Err.both.0 in
    let items : c.in-Err.both.1.items ≡ c.deal.new.seats.items = λ i. (x.2 i).items in
    let all : AreAllOf nano c.in-Err.both.1.items = subst (AreAllOf nano) (sym items) (subst (λ (n : Nano). AreAllOf n c.deal.new.seats.items) (sym x.1) c.deal.ensures.all) in
    let n1 = ap seats_of x.1 in let n2 = ap seats_of c.deal.ensures.same in let n3 = c.in_ok-nano.ensures.nano.4 in let n4 = all.0 in
    let there = subst (λ (y : NanoSeat). In y c.in-Err.both.1.items) (sym c.index_mut-2.ensures.value) (index_in c.in-Err.both.1.items 1 s (omega arith)) in
    record {
      all = (
        length-set c.in-Err.both.1.items 1 c.push.new.seat ∙ all.0,
        all_set nano.table.shared.table_id nano.table.shared.key c.in-Err.both.1.items 1 c.push.new.seat all.1 c.in-Ok-push.ensures.one.0 (c.in-Ok-push.ensures.ok.same.parts ∙ (all.1 s there).1),
      );
    }
