use Rattle.std.proofs.Common.{◌≡◌, ℕ, ◌<◌, ◌+◌, Some, ⊎_elim, arith, sym, ap, ◌∙◌}
use Rattle.std.specs.Prelude.{slice_get}
use Rattle.std.proofs.lemmas.Bool.{cases_eq}
use Rattle.mz_register.specs.declared.pass.Pass.{Pass}
use Rattle.mz_register.proofs.MergeLemmas.{some_is, at_length, at_index}
use Rattle.mz_register.proofs.PassLists.{found_of}
use Rattle.mz_register.proofs.hand_in.first_of.Goals as goal

pub returns-then-pass-eq0 : goal.returns-then-pass-eq0
returns-then-pass-eq0 g c =
    let x = c.index-passes-i.result in
    record {
      pass = x;
      at = at_index c.args.passes.now c.loop-i.i x (let t = c.loop-i-test.true in omega arith) c.index-passes-i.is;
      caller = x.rested.caller ∙ c.if-pass-eq0.true;
    }

pub loop-i-preserved : goal.loop-i-preserved
loop-i-preserved g c j x l h o =
    let y = c.index-passes-i.result in
    let ps = c.args.passes.now in
    let i = c.loop-i.i in
    ⊎_elim
    (λ (e : j ≡ i).
    let here : slice_get ps i ≡ Some y = at_index ps i y (let t = c.loop-i-test.true in omega arith) c.index-passes-i.is in
    c.if-pass-eq0.false (ap (λ (q : Pass g.row.V.Denot). q.caller) (some_is y x (sym here ∙ (ap (λ (k : ℕ). slice_get ps k) (sym e) ∙ h))) ∙ o))
    (λ (n : j ≡ i → ⊥). c.loop-i.invariant j x (omega arith) h o)
    (cases_eq j i)

pub unreachable-requires : goal.unreachable-requires
unreachable-requires g c =
    let t = found_of 0 c.args.passes.now (let n = c.requires in omega arith) in
    let w = at_length c.args.passes.now t.0 t.1 t.2 in
    c.loop-i.invariant t.0 t.1 (let k = c.loop-i-test.false in omega arith) t.2 (sym t.1.rested.caller ∙ t.3)
