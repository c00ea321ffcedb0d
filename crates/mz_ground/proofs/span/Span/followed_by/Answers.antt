use Rattle.std.proofs.Common.{◌+◌, length, sym, ap, ◌∙◌}
use Rattle.mz_ground.proofs.Spans.{span_of_both}
use Rattle.mz_ground.proofs.span.Span.followed_by.Goals as goal

pub invariant_of-result : goal.invariant_of-result
invariant_of-result c =
    let a = c.self.inside in
    let b = c.next.inside in
    let space = ap (λ v. v.space) c.next.view_is ∙ c.requires.space ∙ sym (ap (λ v. v.space) c.self.view_is) in
    let next = ap (λ v. v.first) c.next.view_is ∙ c.requires.adjacent ∙ sym (ap (λ v. v.first + length v.bytes) c.self.view_is) in
    span_of_both a.bytes b.bytes a.first b.first a.deed b.deed a.root b.root c.or.result c.unite-bytes.result c.self.invariant c.next.invariant space next c.unite-bytes.ensures c.or.ensures
