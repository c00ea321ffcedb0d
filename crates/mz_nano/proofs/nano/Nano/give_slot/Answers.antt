use Rattle.std.proofs.Common.{◌≡◌, ℕ, [], length, refl, sym, ap, ◌∙◌, subst, arith}
use Rattle.mz_nano.specs.declared.view.View.{View}
use Rattle.mz_nano.specs.Lists.{without}
use Rattle.mz_nano.specs.Rule.{Once, held}
use Rattle.mz_nano.specs.StepEffects.{Standing, word_loaded}
use Rattle.mz_nano.specs.SeatMoves.{without_slot, bring, class_in}
use Rattle.mz_nano.specs.CallEffects.{empty, hand_ok}
use Rattle.mz_nano.proofs.HandLemmas.{hand_without, hand_in, hand_more}
use Rattle.mz_nano.proofs.OnceLemmas.{length_without, once_without}
use Rattle.mz_nano.proofs.nano.Nano.give_slot.Goals as goal

pub invariant_of-s : goal.invariant_of-s
invariant_of-s c =
    let s = c.args.s.now in
    let b : ℕ = c.args.block in let j : ℕ = c.args.slot in
    let l = c.load_block-word.ensures in
    let view : c.part-temp.new.seat.me.0 ≡ without_slot b j (word_loaded s.seat.me.0 0 c.load_block-word.result) = ap (λ (m : Standing). m.0) c.part-temp.ensures.left ∙ ap (without_slot b j) l.view in
    let n = length_without b j c.requires.mine.0 s.seat.me.0.hand l.once c.requires.mine.1 in
    let e : length c.part-temp.new.seat.me.0.hand ≡ length (without b j s.seat.me.0.hand) = ap (λ (v : View). length v.hand) view in
    let ct = s.count in
    record {
      count = omega arith;
      at_rest = record {
        live = ap (λ (v : View). v.live) view ∙ s.at_rest.live;
        outs = ap (λ (v : View). empty v.vacant) view ∙ s.at_rest.outs;
        claims = ap (λ (v : View). empty v.claim) view ∙ s.at_rest.claims;
        carried = ap (λ (m : Standing). empty m.1) c.part-temp.ensures.left ∙ (ap empty l.carried ∙ s.at_rest.carried);
        hand = ap (λ (v : View). hand_ok v.geometry.blocks v.hand) view ∙ hand_without s.seat.me.0.geometry.blocks b j s.seat.me.0.hand s.at_rest.hand;
      };
      once = subst (λ (v : View). Once v.hand) (sym view) (once_without b j s.seat.me.0.hand l.once);
    }

pub returns-clause-at_rest : goal.returns-clause-at_rest
returns-clause-at_rest c =
    let s = c.args.s.now in
    let b : ℕ = c.args.block in let j : ℕ = c.args.slot in
    let l = c.load_block-word.ensures in
    let is : c.part-temp.result.me ≡ (bring b j c.load_block-word.new.seat.me.0, []) = c.part-temp.ensures.right in
    let plans : c.load_block-word.new.seat.me.0.geometry.blocks ≡ s.seat.me.0.geometry.blocks = ap (λ (v : View). v.geometry.blocks) l.view in
    let h = hand_in s.seat.me.0.geometry.blocks (held b j c.requires.mine.0) s.seat.me.0.hand s.at_rest.hand c.requires.mine.1 in
    let lt = h.0 in
    record {
      live = ap (λ (m : Standing). m.0.live) is;
      outs = ap (λ (m : Standing). empty m.0.vacant) is;
      claims = ap (λ (m : Standing). empty m.0.claim) is;
      carried = ap (λ (m : Standing). empty m.1) is;
      hand = ap (λ (m : Standing). hand_ok m.0.geometry.blocks m.0.hand) is ∙ hand_more c.load_block-word.new.seat.me.0.geometry.blocks b j (class_in b j c.load_block-word.new.seat.me.0.hand) [] (omega arith) h.1 refl;
    }
