use Rattle.std.proofs.Common.{false, length, replicate, sym, ap, ◌∙◌, subst}
use denote.RawPtr.{Ptr}
use Rattle.mz_ground.specs.Parts.{KeptOf}
use Rattle.mz_ground.specs.Held.{IsGround}
use Rattle.mz_ground.proofs.Grounds.{ground_of}
use Rattle.mz_ground.proofs.ground.Ground.of.Goals as goal

pub invariant_of-result : goal.invariant_of-result
invariant_of-result g c =
    let p = c.into_parts-bytes.result in
    let k = c.of-kept.ensures in
    let kept : KeptOf c.of-kept.result p.2.space p.2.first g.row.Q (replicate (length c.args.lent.items) false) p.0.items = record {
      space = k.space ∙ c.lift.ensures.space;
      first = k.first ∙ c.lift.ensures.first;
      quantum = k.quantum;
      lent = k.lent ∙ ap (λ n. replicate n false) (c.len.ensures ∙ c.args.lent.ok.0);
      bytes = k.bytes ∙ c.lift.ensures.bytes ∙ ap (λ v. v.items) c.of-base.ensures.unchanged;
    } in
    let F = λ (b : Ptr). IsGround g.row.Q b p.1 c.args.lent.items p.3 c.of-kept.result in
    subst F (sym c.of-base.ensures.value) (ground_of g.row.Q p.0 p.1 p.2 c.args.lent.items p.3 c.of-kept.result c.into_parts-bytes.ensures.held c.requires.filled
    (ap length c.into_parts-bytes.ensures.bytes ∙ c.requires.whole) c.requires.none_lent kept)
