use Rattle.std.proofs.Common.{sym, ◌∙◌, arith}
use Rattle.mz_rack.proofs.ShelfLemmas.{some_is, none_is, found_so, found_not, found_far}
use Rattle.mz_rack.proofs.shelf.Shelf.run_of.Goals as goal

pub overflow_mul-pages : goal.overflow_mul-pages
overflow_mul-pages g c = let few = c.self.invariant.shape.few in omega arith

pub nonzero_rem-first : goal.nonzero_rem-first
nonzero_rem-first g c = c.self.invariant.shape.some

pub returns-in-Some : goal.returns-in-Some
returns-in-Some g c =
    let i = c.self.invariant in
    let v = c.self.inside.magazine in
    let some = i.shape.some in
    let at = some_is _ _ c.checked_mul.ensures c.in-Some.is in
    let there = sym (c.has.ensures (i.shape.whole, omega arith)) ∙ c.if-has.true in
    rw (← c.self.view_is) (found_so v.pages _ c.args.page c.in-Some.a v.kept.runs some i.pages i.formed at there)

pub returns-in_default : goal.returns-in_default
returns-in_default g c =
    let i = c.self.invariant in
    let v = c.self.inside.magazine in
    let some = i.shape.some in
    let at = some_is _ _ c.checked_mul.ensures c.in-Some.is in
    let there = sym (c.has.ensures (i.shape.whole, omega arith)) ∙ c.if-has.false in
    rw (← c.self.view_is) (found_not v.pages _ c.args.page c.in-Some.a v.kept.runs some i.pages i.formed at there)

pub returns-in_default-2 : goal.returns-in_default-2
returns-in_default-2 g c =
    let i = c.self.invariant in
    let v = c.self.inside.magazine in
    let far = none_is _ _ c.checked_mul.ensures c.in_default.is in
    rw (← c.self.view_is) (found_far v.pages _ c.args.page v.kept.runs i.shape.some i.pages i.formed far)
