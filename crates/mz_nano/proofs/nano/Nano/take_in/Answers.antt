use Rattle.std.proofs.Common.{◌≡◌, ◌++◌, length, sym, ap, ◌∙◌, subst, arith, length-append}
use Rattle.mz_nano.specs.declared.view.View.{View}
use Rattle.mz_nano.specs.declared.view.Geometry.{Geometry}
use Rattle.mz_nano.specs.Rule.{Once}
use Rattle.mz_nano.specs.StepEffects.{Standing, word_loaded}
use Rattle.mz_nano.specs.SeatMoves.{joined}
use Rattle.mz_nano.specs.CallEffects.{empty, hand_ok}
use Rattle.mz_nano.proofs.SeatSteps.{joins}
use Rattle.mz_nano.proofs.HandLemmas.{hand_both, is_empty}
use Rattle.mz_nano.proofs.nano.Nano.take_in.Goals as goal

pub join_seat-requires : goal.join_seat-requires
join_seat-requires c =
    let r = c.args.self.now in
    let s = c.args.s.now in
    let t = c.args.temp in
    let bt = c.requires.at_rest in
    let fw = r.few.0 in let w = r.words in (
      c.requires.one.0,
      c.requires.two.0,
      is_empty t.me.1 bt.carried,
      omega arith,
      joins r.table.shared.key s.seat.id s.seat.me.0 t.id t.me.0 s.at_rest.live bt.live (is_empty t.me.0.claim bt.claims) (is_empty s.seat.me.0.vacant s.at_rest.outs) (is_empty t.me.0.vacant bt.outs),
    )

pub invariant_of-s : goal.invariant_of-s
invariant_of-s c =
    let s = c.args.s.now in
    let t = c.args.temp in
    let l = c.load_block-word.ensures in
    let j = c.join_seat.ensures in
    let view : c.load_block-word.new.seat.me.0 ≡ word_loaded (joined s.seat.me.0 t.me.0) 0 c.load_block-word.result = l.view ∙ ap (λ (m : Standing). word_loaded m.0 0 c.load_block-word.result) j.2 in
    let e : length c.load_block-word.new.seat.me.0.hand ≡ length (t.me.0.hand ++ s.seat.me.0.hand) = ap (λ (v : View). length v.hand) view in
    let ct = s.count in let cn = c.requires.count in
    let plans : t.me.0.geometry ≡ s.seat.me.0.geometry = c.requires.two.1 ∙ sym c.requires.one.1 in
    record {
      count = omega (arith, length-append t.me.0.hand s.seat.me.0.hand);
      at_rest = record {
        live = ap (λ (v : View). v.live) view ∙ s.at_rest.live;
        outs = ap (λ (v : View). empty v.vacant) view ∙ s.at_rest.outs;
        claims = ap (λ (v : View). empty v.claim) view ∙ s.at_rest.claims;
        carried = ap empty l.carried ∙ (ap (λ (m : Standing). empty m.1) j.2 ∙ s.at_rest.carried);
        hand = ap (λ (v : View). hand_ok v.geometry.blocks v.hand) view ∙ hand_both s.seat.me.0.geometry.blocks t.me.0.hand s.seat.me.0.hand (ap (λ (p : Geometry). hand_ok p.blocks t.me.0.hand) (sym plans) ∙ c.requires.at_rest.hand) s.at_rest.hand;
      };
      once = subst (λ (v : View). Once v.hand) (sym l.view) l.once;
    }
