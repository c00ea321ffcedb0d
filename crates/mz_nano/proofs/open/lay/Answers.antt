use Rattle.std.proofs.Common.{◌≡◌, ℕ, ◌+◌, ◌++◌, List, [], ◌∷◌, length, replicate, Option, Some, None, sym, ap, ◌∙◌, subst, arith}
use Rattle.mz_ground.specs.Views.{SpanView}
use Rattle.mz_nano.specs.Rule.{IsPiece}
use Rattle.mz_nano.specs.Laid.{Laid}
use Rattle.mz_nano.proofs.OpenLemmas.{laid_more}
use Rattle.mz_nano.proofs.open.lay.Goals as goal

pub loop-b-preserved : goal.loop-b-preserved
loop-b-preserved c =
    let inv = c.loop-b.invariant in
    let b : ℕ = c.loop-b.b in
    let key = c.args.geometry.now in
    let cut = c.cut_off-next.ensures in
    let page : SpanView = c.replace-page.result in
    let piece : IsPiece key b 0 16384 page = subst (IsPiece key b 0 16384) (sym c.replace-page.ensures.value) record { space = cut.space ∙ inv.space; first = cut.first ∙ (inv.first ∙ omega arith); len = cut.len } in
    let items : c.add_nones.new.places.items ≡ (c.loop-b.places.items ++ Some page ∷ []) ++ replicate 1024 None = c.in_ok-add_nones.ensures ∙ ap (λ (xs : List (Option SpanView)). xs ++ replicate 1024 None) c.in_ok-push.ensures.items in
    let after = c.replace-page.ensures.after in
    record {
      laid = subst (Laid key (b + 1)) (sym items) (laid_more key b c.loop-b.places.items page inv.laid piece);
      space = ap (λ (s : SpanView). s.space) after ∙ (cut.cut_space ∙ inv.space);
      first = ap (λ (s : SpanView). s.first) after ∙ (cut.cut_first ∙ (let e = inv.first in omega arith));
      len = let e = ap (λ (s : SpanView). length s.bytes) after in let f = cut.cut_len in let g = inv.len in omega arith;
    }
