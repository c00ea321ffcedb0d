use Rattle.std.proofs.Common.{◌≡◌, Option, ℕ, ◌+◌, ◌-◌, ◌*◌, length, sym, ap, ◌∙◌, subst, arith, length-append}
use Rattle.atomic_table.specs.declared.shared.Seat.{Seat}
use Rattle.mz_ground.specs.Views.{SpanView}
use Rattle.mz_nano.specs.declared.view.View.{View}
use Rattle.mz_nano.specs.Rule.{first_view}
use Rattle.mz_nano.specs.StepEffects.{Standing}
use Rattle.mz_nano.specs.SeatMoves.{giver, given_view}
use Rattle.mz_nano.specs.SeatLists.{AllNew}
use Rattle.mz_nano.proofs.SeatSteps.{splits}
use Rattle.mz_nano.proofs.RepeatLemmas.{all_new_more}
use Rattle.mz_nano.proofs.nano.Nano.make_seats.Goals as goal

pub split_seat-other-requires : goal.split_seat-other-requires
split_seat-other-requires c =
    let r = c.args.self.now in
    let inv = c.loop-i.invariant in
    let w = r.words in
    let q = c.requires.count in
    let lt = c.loop-i-test.true in
    let parts : c.loop-i.seat.me.0.parts ≡ 2 * c.args.seats + 2 - 2 * c.loop-i.i = ap (λ (v : View). v.parts) inv.view in
    (inv.one.0, (let fw = r.few.0 in omega arith), splits r.table.shared.key c.loop-i.seat.id c.loop-i.seat.me.0 (ap (λ (v : View). v.live) inv.view) (omega arith))

pub loop-i-preserved : goal.loop-i-preserved
loop-i-preserved c =
    let r = c.args.self.now in
    let key = r.table.shared.key in
    let inv = c.loop-i.invariant in
    let lt = c.loop-i-test.true in
    let x = c.split_seat-other.ensures in
    let i : ℕ = c.loop-i.i in
    let n = c.new.ensures in
    let left : c.split_seat-other.new.seat.me.0 ≡ giver c.loop-i.seat.me.0 = ap (λ (m : Standing). m.0) x.2 in
    let view : c.split_seat-other.new.seat.me.0 ≡ record (first_view key) { parts = 2 * c.args.seats + 2 - 2 * i - 2 } = left ∙ ap giver inv.view in
    let right : c.split_seat-other.result.me.0 ≡ given_view (record (first_view key) { parts = 2 * c.args.seats + 2 - 2 * i }) = ap (λ (m : Standing). m.0) x.4 ∙ ap given_view inv.view in
    record {
      one = (x.0 ∙ inv.one.0, ap (λ (v : View). v.geometry) view);
      view = view ∙ ap (λ (n : ℕ). record (first_view key) { parts = n }) (omega arith);
      carried = ap (λ (m : Standing). m.1) x.2 ∙ inv.carried;
      list = subst (AllNew r.table.shared.table_id key 1) (sym c.in_ok-push.ensures.items) (all_new_more r.table.shared.table_id key 1 i c.loop-i.list.items c.new.result inv.list (let l = inv.len in omega arith) record {
        one = (ap (λ (s : Seat (Option SpanView) View). s.table_id) n.seat ∙ (x.3 ∙ inv.one.0), ap (λ (s : Seat (Option SpanView) View). s.me.0.geometry) n.seat ∙ ap (λ (v : View). v.geometry) right);
        number = n.number;
        hand = ap (λ (s : Seat (Option SpanView) View). s.me.0.hand) n.seat ∙ ap (λ (v : View). v.hand) right;
        parts = ap (λ (s : Seat (Option SpanView) View). s.me.0.parts) n.seat ∙ ap (λ (v : View). v.parts) right;
        counts = n.counts;
      });
      len = let l = inv.len in let e = ap length c.in_ok-push.ensures.items in omega (arith, length-append c.loop-i.list.items, e);
    }
