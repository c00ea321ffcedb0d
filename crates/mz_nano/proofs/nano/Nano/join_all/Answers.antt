use Rattle.std.proofs.Common.{◌≡◌, ◌+◌, ◌-◌, ◌*◌, ◌++◌, List, [], ◌∷◌, length, refl, sym, ap, ◌∙◌, subst, arith, inl, length-append}
use Rattle.atomic_table.specs.declared.shared.Seat.{Seat}
use Rattle.mz_ground.specs.Views.{SpanView}
use Rattle.std.proofs.Common.{Option}
use Rattle.mz_nano.specs.declared.view.View.{View}
use Rattle.mz_nano.specs.declared.view.Held.{Held}
use Rattle.mz_nano.specs.declared.seat.NanoSeat.{NanoSeat}
use Rattle.mz_nano.specs.Lists.{In}
use Rattle.mz_nano.specs.StepEffects.{Standing}
use Rattle.mz_nano.specs.CallEffects.{hand_ok, empty}
use Rattle.mz_nano.specs.SeatMoves.{joined}
use Rattle.mz_nano.specs.SeatLists.{Alone}
use Rattle.mz_nano.proofs.SeatSteps.{joins, in_left, in_right}
use Rattle.mz_nano.proofs.HandLemmas.{is_empty}
use Rattle.mz_nano.proofs.nano.Nano.join_all.Goals as goal

pub loop-other-init : goal.loop-other-init
loop-other-init c =
    let r = c.args.self.now in
    let old : List NanoSeat = c.args.seats.items in
    let new : List NanoSeat = c.pop.new.self.items in
    let e : old ≡ new ++ c.in-Some.last ∷ [] = c.in-Some.ensures.items in
    let l : length old ≡ length new + 1 = ap length e ∙ omega (arith, length-append new (c.in-Some.last ∷ [])) in
    let one = c.requires.idle c.in-Some.last (subst (In c.in-Some.last) (sym e) (in_right c.in-Some.last new (c.in-Some.last ∷ []) (inl refl))) in
    record {
      idle = λ s h. c.requires.idle s (subst (In s) (sym e) (in_left s new (c.in-Some.last ∷ []) h));
      fewer = omega arith;
      alone = subst (Alone r.table.shared.table_id r.table.shared.key (2 * length old - 2 * length new)) (sym c.into_seat-all.ensures.seat) record { one = one.0; hand = one.1; parts = one.2 ∙ omega arith; at_rest = c.in-Some.last.at_rest };
    }

pub join_seat-requires : goal.join_seat-requires
join_seat-requires c =
    let r = c.args.self.now in
    let inv = c.loop-other.invariant in
    let a = inv.alone in
    let old : List NanoSeat = c.loop-other.seats.items in
    let new : List NanoSeat = c.pop-in-loop-other.new.self.items in
    let x = c.in-Some-pop.other in
    let e : old ≡ new ++ x ∷ [] = c.in-Some-pop.ensures.items in
    let one = inv.idle x (subst (In x) (sym e) (in_right x new (x ∷ []) (inl refl))) in
    let bt = c.into_seat.ensures.at_rest in
    let same = c.into_seat.ensures.seat in
    let fw = r.few.0 in (
      a.one.0,
      ap (λ (s : Seat (Option SpanView) View). s.table_id) same ∙ one.0.0,
      is_empty c.into_seat.result.me.1 bt.carried,
      omega arith,
      joins r.table.shared.key c.loop-other.all.id c.loop-other.all.me.0 c.into_seat.result.id c.into_seat.result.me.0 a.at_rest.live bt.live (is_empty c.into_seat.result.me.0.claim bt.claims) (is_empty c.loop-other.all.me.0.vacant a.at_rest.outs) (is_empty c.into_seat.result.me.0.vacant bt.outs),
    )

pub loop-other-preserved : goal.loop-other-preserved
loop-other-preserved c =
    let r = c.args.self.now in
    let inv = c.loop-other.invariant in
    let a = inv.alone in
    let old : List NanoSeat = c.loop-other.seats.items in
    let new : List NanoSeat = c.pop-in-loop-other.new.self.items in
    let x = c.in-Some-pop.other in
    let e : old ≡ new ++ x ∷ [] = c.in-Some-pop.ensures.items in
    let l : length old ≡ length new + 1 = ap length e ∙ omega (arith, length-append new (x ∷ [])) in
    let one = inv.idle x (subst (In x) (sym e) (in_right x new (x ∷ []) (inl refl))) in
    let same = c.into_seat.ensures.seat in
    let w : View = c.into_seat.result.me.0 in
    let hand : w.hand ≡ [] = ap (λ (s : Seat (Option SpanView) View). s.me.0.hand) same ∙ one.1 in
    let parts : w.parts ≡ 2 = ap (λ (s : Seat (Option SpanView) View). s.me.0.parts) same ∙ one.2 in
    let j = c.join_seat.ensures in
    let view : c.join_seat.new.seat.me.0 ≡ joined c.loop-other.all.me.0 w = ap (λ (m : Standing). m.0) j.2 in
    let hands : c.join_seat.new.seat.me.0.hand ≡ [] = ap (λ (v : View). v.hand) view ∙ (ap (λ (hs : List Held). hs ++ c.loop-other.all.me.0.hand) hand ∙ a.hand) in
    let fw = inv.fewer in
    let ap2 = a.parts in
    record {
      idle = λ s h. inv.idle s (subst (In s) (sym e) (in_left s new (x ∷ []) h));
      fewer = omega arith;
      alone = record {
        one = (j.0 ∙ a.one.0, ap (λ (v : View). v.geometry) view ∙ a.one.1);
        hand = hands;
        parts = ap (λ (v : View). v.parts) view ∙ omega arith;
        at_rest = record {
          live = ap (λ (v : View). v.live) view ∙ a.at_rest.live;
          outs = ap (λ (v : View). empty v.vacant) view ∙ a.at_rest.outs;
          claims = ap (λ (v : View). empty v.claim) view ∙ a.at_rest.claims;
          carried = ap (λ (m : Standing). empty m.1) j.2 ∙ a.at_rest.carried;
          hand = ap (hand_ok c.join_seat.new.seat.me.0.geometry.blocks) hands;
        };
      };
    }
