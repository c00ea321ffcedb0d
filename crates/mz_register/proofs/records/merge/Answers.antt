use Rattle.std.proofs.Common.{◌≡◌, List, Vec, arith, ap, sym, ◌∙◌, subst, ⊎_elim}
use Rattle.std.specs.Prelude.{slice_get}
use Rattle.std.specs.declared.alloc.Global.{Global}
use Rattle.std.proofs.lemmas.Bool.{cases_eq}
use Rattle.mz_events.specs.declared.entry.Entry.{Entry}
use Rattle.mz_register.specs.Merged.{IsPart}
use Rattle.mz_register.proofs.MergeLemmas.{some_is, at_length, at_index, part_of, merged}
use Rattle.mz_register.proofs.records.merge.Goals as goal

pub loop-noted-preserved : goal.loop-noted-preserved
loop-noted-preserved c =
    let inv = c.loop-noted.invariant in
    let records = c.args.records.now in
    let this = c.noted-item.result in
    let out = c.args.history.now.items in
    let now = c.loop-noted.history.items in
    let here = at_index records c.loop-noted.noted-index this c.loop-noted-test.true c.noted-item.is in
    let slice = c.as_slice.ensures.value in
    record {
      placed = λ k r i e lt at in_r.
          let all = c.requires.0 in
          let part : IsPart all now c.as_slice.result.now = subst (IsPart all now) (sym slice) (part_of all out now records c.loop-noted.noted-index this c.requires.1 inv.len here) in
          let there = part_of all out now records k r c.requires.1 inv.len at in
          ⊎_elim
          (λ (y : k ≡ c.loop-noted.noted-index).
          let same : r ≡ this = some_is r this (sym at ∙ (ap (slice_get records) y ∙ here)) in
          c.place.ensures.placed i e (ap (λ (es : List Entry). slice_get es i) slice ∙ (ap (λ (z : Vec Entry Global). slice_get z.items i) (sym same) ∙ in_r)))
          (λ (y : k ≡ c.loop-noted.noted-index → ⊥). c.place.ensures.kept all e.ticket e part (there.stands i e in_r) (inv.placed k r i e (omega arith) at in_r))
          (cases_eq k c.loop-noted.noted-index);
      kept = λ all i e mg at old. c.place.ensures.kept all i e (subst (IsPart all now) (sym slice) (part_of all out now records c.loop-noted.noted-index this mg inv.len here)) at (inv.kept all i e mg at old);
      len = let a = c.place.ensures.len in let b = inv.len in omega (arith, c.place.new.history.ok.0, c.loop-noted.history.ok.0);
      capacity = c.place.ensures.capacity ∙ inv.capacity;
    }

pub returns-clause-items : goal.returns-clause-items
returns-clause-items c all mg =
    let inv = c.loop-noted.invariant in
    merged all c.args.history.now.items c.loop-noted.history.items c.args.records.now mg inv.len (λ i e at old. inv.kept all i e mg at old)
    (λ k r i e at in_r. inv.placed k r i e (let l = at_length c.args.records.now k r at in let t = c.loop-noted-test.false in omega arith) at in_r)
