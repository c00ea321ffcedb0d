use Rattle.std.proofs.Common.{◌≡◌, ℕ, ◌+◌, ◌*◌, ◌<◌, if◌then◌else◌, nat_lt, arith, subst, sym, ap, ◌∙◌}
use Rattle.atomic_table.specs.Table.{rest}
use Rattle.mz_nano.specs.declared.view.Geometry.{Geometry}
use Rattle.mz_nano.specs.declared.view.View.{View}
use Rattle.mz_nano.specs.Rule.{IsPiece, slots}
use Rattle.mz_nano.specs.StepEffects.{Standing}
use Rattle.mz_nano.specs.CallEffects.{cut_view}
use Rattle.mz_nano.proofs.nano.Nano.cut_all.Goals as goal

pub cut-requires-clause-can : goal.cut-requires-clause-can
cut-requires-clause-can c =
    let inv = c.loop-k.invariant in
    let old = c.args.seat.now.me in
    let x = c.exchange-place.ensures in
    let k : ℕ = c.loop-k.k in
    let b : ℕ = c.args.b in
    let cl : ℕ = c.args.class in
    let q = c.requires.class in
    let lt = c.loop-k-test.true in
    let view : c.exchange-place.new.seat.me.0 ≡ cut_view old.0 b cl k = ap (λ (m : Standing). m.0) x.3 ∙ inv.view in
    let kb : old.0.geometry.blocks ≡ c.args.self.now.blocks = (λ i. (c.requires.geometry i).blocks) ∙ c.args.self.now.geometry.0 in
    let ex = c.requires.exists in
    let few : k < slots cl = let e = q.2 in omega arith in (
      cl,
      record {
        live = ap (λ (v : View). v.live) view ∙ c.requires.live;
        block = let e : c.exchange-place.new.seat.me.0.geometry.blocks ≡ old.0.geometry.blocks = ap (λ (v : View). v.geometry.blocks) view in omega arith;
        claim = ap (λ (v : View). v.claim) view;
        outs = ap (λ (v : View). v.vacant) view;
        more = few;
        span = c.replace-front.result;
        others = rest c.loop-k.seat.me.1;
        carried = ap (λ (m : Standing). m.1) x.3;
        piece = subst (λ (p : Geometry). IsPiece p b (16 * cl * k) (16 * cl) c.replace-front.result) (sym (ap (λ (v : View). v.geometry) view))
            (subst (IsPiece old.0.geometry b (16 * cl * k) (16 * cl)) (sym c.replace-front.ensures.value)
            record { space = c.cut_off-next.ensures.space ∙ inv.left.space; first = c.cut_off-next.ensures.first ∙ inv.left.first; len = c.cut_off-next.ensures.len });
      },
      c.next_of.ensures ∙ ap (λ (n : ℕ). if nat_lt (k + 1) n then k + 2 else 0) q.2,
    )
