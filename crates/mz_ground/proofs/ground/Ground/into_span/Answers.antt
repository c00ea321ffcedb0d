use Rattle.std.proofs.Common.{refl, ◌∙◌, arith}
use Rattle.mz_ground.proofs.Marked.{none_set}
use Rattle.mz_ground.proofs.Grounds.{may_take, span_of_ground}
use Rattle.mz_ground.proofs.ground.Ground.into_span.Goals as goal

pub take-rest-requires : goal.take-rest-requires
take-rest-requires g c =
    let i = c.self.inside in
    let all = c.len.ensures ∙ i.lent.ok.0 in
    let out = none_set _ i.lent.items c.len.result c.as_slice.ensures.value all c.if-contains.ensures.cases in
    may_take g.row.Q i.base.ptr i.first i.lent.items i.root i.kept i.kept 0 c.len.result c.self.invariant refl (omega arith) out

pub of_parts-requires : goal.of_parts-requires
of_parts-requires g c =
    let i = c.self.inside in
    let all = c.len.ensures ∙ i.lent.ok.0 in
    let out = none_set _ i.lent.items c.len.result c.as_slice.ensures.value all c.if-contains.ensures.cases in
    span_of_ground g.row.Q i.base.ptr i.first i.lent.items i.root i.kept c.lay_behind-bytes.result c.take-rest.result.1 c.len.result c.self.invariant all out c.take-rest.ensures.1 c.lay_behind-bytes.ensures
