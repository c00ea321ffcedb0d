use Rattle.std.proofs.Common.{◌≡◌, List, [], ◌∷◌, ◌++◌, length, set, get_or, arith, refl, sym, ap, ◌∙◌, subst, length-append}
use Rattle.std.specs.Prelude.{option_to_list}
use Rattle.mz_book.specs.Keepers.{keeper_count}
use Rattle.mz_desk.specs.Keys.{opened_as}
use Rattle.mz_register.specs.declared.pass.Pass.{Pass}
use Rattle.mz_register.specs.Opened.{IsFirst, AreBlank}
use Rattle.mz_register.proofs.OpenLemmas.{new_more, blank_last}
use Rattle.mz_register.proofs.register.Register.deal.Goals as goal

pub loop-caller-init : goal.loop-caller-init
loop-caller-init g c = record {
  dealt = record { first = c.args.first; others = []; all = c.push_reserved.ensures.items ∙ ap (λ (ps : List (Pass g.row.V.Denot)). ps ++ c.args.first ∷ []) c.requires.room.0; gives = c.requires.first; new = tt; count = refl };
  capacity = let k = c.push_reserved.ensures.capacity in let r = c.requires.room.1 in omega arith;
  blank = c.requires.blanks.0;
  left = c.requires.blanks.1;
}

pub another-pass-requires-clause-first : goal.another-pass-requires-clause-first
another-pass-requires-clause-first g c =
    let r = c.args.self.now in
    let d = c.loop-caller.invariant.dealt in
    let e : c.index_mut.result.now ≡ d.first = c.index_mut.ensures.value ∙ ap (λ (ps : List (Pass g.row.V.Denot)). get_or ps 0 c.index_mut.result.now) d.all in
    subst (IsFirst r.table.shared.table_id (opened_as g.V.Keep.keeping r.table.shared.key) c.loop-caller.caller) (sym e) d.gives

pub another-pass-requires-clause-held : goal.another-pass-requires-clause-held
another-pass-requires-clause-held g c =
    let n = keeper_count c.args.self.now.opening.profile in
    (blank_last n c.pop.new.self.items c.in-Some.held (subst (AreBlank n) (c.pop.ensures.items ∙ ap (λ o. c.pop.new.self.items ++ option_to_list o) c.in-Some.is) c.loop-caller.invariant.blank)).1

pub loop-caller-preserved : goal.loop-caller-preserved
loop-caller-preserved g c =
    let r = c.args.self.now in
    let z = r.table.shared.table_id in
    let key = opened_as g.V.Keep.keeping r.table.shared.key in
    let inv = c.loop-caller.invariant in
    let d = inv.dealt in
    let n = keeper_count r.opening.profile in
    let x = c.another-pass.result in
    let f = c.another-pass.new.first in
    let u : c.loop-caller.blanks.items ≡ c.pop.new.self.items ++ c.in-Some.held ∷ [] = c.pop.ensures.items ∙ ap (λ o. c.pop.new.self.items ++ option_to_list o) c.in-Some.is in
    record {
      dealt = record {
        first = f;
        others = d.others ++ x ∷ [];
        all = c.push_reserved-in-loop-caller.ensures.items ∙ ap (λ (ps : List (Pass g.row.V.Denot)). set ps 0 f ++ x ∷ []) d.all;
        gives = c.another-pass.ensures.first;
        new = new_more z key 1 c.loop-caller.caller d.others x d.new (let k = d.count in omega arith) c.another-pass.ensures.new;
        count = let k = d.count in let l = length-append d.others (x ∷ []) in omega arith;
      };
      capacity = let k = c.push_reserved-in-loop-caller.ensures.capacity in let i = inv.capacity in omega arith;
      blank = (blank_last n c.pop.new.self.items c.in-Some.held (subst (AreBlank n) u inv.blank)).0;
      left = let k = ap length u in let l = length-append c.pop.new.self.items (c.in-Some.held ∷ []) in let i = inv.left in omega arith;
    }
