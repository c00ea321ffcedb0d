use Rattle.std.proofs.Common.{◌≡◌, ℕ, ◌+◌, ◌*◌, ◌<◌, ◌==◌, true, false, Option, length, refl, sym, ap, ◌∙◌, subst, arith}
use Rattle.std.proofs.lemmas.Bool.{eqb-true, eqb-false}
use Rattle.mz_ground.specs.declared.raw.Root.{Root}
use Rattle.mz_ground.specs.Held.{HasItsRoot, KeepsItsRoot}
use Rattle.mz_ground.specs.Marks.{marked}
use Rattle.mz_ground.proofs.Grounds.{ready, may_take, took, long_plot, root_goes, root_stays, ground_after, span_of_quanta}
use Rattle.mz_ground.proofs.ground.Ground.lend.Goals as goal

-- a number that isn't 0 is above it
above : (q : ℕ) → (q == 0) ≡ false → 0 < q
above q e = let no = eqb-false q 0 e in omega (arith, no)

pub take-kept-requires : goal.take-kept-requires
take-kept-requires g c =
    let i = c.self.inside in
    let w = ready false _ i.lent.items c.args.q c.args.n (ap (λ v. v.lent) c.self.view_is) c.requires.within c.requires.not_lent in
    may_take g.row.Q i.base.ptr i.first i.lent.items i.root i.kept c.replace.result c.args.q c.args.n c.self.invariant c.replace.ensures.value w.0 w.1

pub lay_behind-bytes-requires-clause-len : goal.lay_behind-bytes-requires-clause-len
lay_behind-bytes-requires-clause-len g c =
    let i = c.self.inside in
    let w = ready false _ i.lent.items c.args.q c.args.n (ap (λ v. v.lent) c.self.view_is) c.requires.within c.requires.not_lent in
    let t = took i.kept c.replace.result c.take-kept.result.0 c.take-kept.result.1 c.args.q c.args.n c.replace.ensures.value c.take-kept.ensures in
    long_plot g.row.Q i.base.ptr i.first i.lent.items i.root i.kept c.take-kept.result.1 c.args.q c.args.n c.self.invariant w.0 t.1

pub of_parts-requires : goal.of_parts-requires
of_parts-requires g c =
    let i = c.self.inside in
    let q = c.args.q in
    let w = ready false _ i.lent.items q c.args.n (ap (λ v. v.lent) c.self.view_is) c.requires.within c.requires.not_lent in
    let t = took i.kept c.replace.result c.take-kept.result.0 c.take-kept.result.1 q c.args.n c.replace.ensures.value c.take-kept.ensures in
    let F = λ (r : Option Root). HasItsRoot i.kept.space (i.first + g.row.Q * q) (g.row.Q * c.args.n) r in
    let rooted = root_goes (q == 0) i.kept.space i.first g.row.Q i.lent.items i.root q c.args.n (g.row.Q * c.args.n) (eqb-true q 0) (above q) c.self.invariant.filled c.requires.some w.0 w.1 c.self.invariant.rooted refl in
    span_of_quanta g.row.Q i.base.ptr i.first i.lent.items i.root c.take_if-root.result i.kept c.lay_behind-bytes.result c.take-kept.result.1 q c.args.n c.self.invariant w.0 t.1 c.lay_behind-bytes.ensures (subst F (sym c.take_if-root.ensures.0) rooted)

pub invariant_of-self : goal.invariant_of-self
invariant_of-self g c =
    let i = c.self.inside in
    let q = c.args.q in
    let w = ready false _ i.lent.items q c.args.n (ap (λ v. v.lent) c.self.view_is) c.requires.within c.requires.not_lent in
    let t = took i.kept c.replace.result c.take-kept.result.0 c.take-kept.result.1 q c.args.n c.replace.ensures.value c.take-kept.ensures in
    let F = λ (r : Option Root). KeepsItsRoot i.kept.space i.first (marked i.lent.items q c.args.n true) r in
    let rooted = root_stays (q == 0) i.kept.space i.first i.lent.items i.root q c.args.n (eqb-true q 0) (above q) c.requires.some w.0 c.self.invariant.rooted in
    ground_after g.row.Q i.base.ptr i.first i.lent.items c.mark.new.flags.items i.root c.take_if-root.new.root i.kept c.take-kept.result.0 i.kept.bytes q c.args.n true c.self.invariant w.0 t.0 refl c.mark.ensures (subst F (sym c.take_if-root.ensures.1) rooted)

pub returns-clause-span_len : goal.returns-clause-span_len
returns-clause-span_len g c =
    let i = c.self.inside in
    let w = ready false _ i.lent.items c.args.q c.args.n (ap (λ v. v.lent) c.self.view_is) c.requires.within c.requires.not_lent in
    let t = took i.kept c.replace.result c.take-kept.result.0 c.take-kept.result.1 c.args.q c.args.n c.replace.ensures.value c.take-kept.ensures in
    ap length c.of_parts.ensures.bytes ∙ ap length c.lay_behind-bytes.ensures.items ∙ long_plot g.row.Q i.base.ptr i.first i.lent.items i.root i.kept c.take-kept.result.1 c.args.q c.args.n c.self.invariant w.0 t.1
