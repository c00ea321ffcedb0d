use Rattle.std.proofs.Common.{◌<◌, ◌≤◌, ◌++◌, length, arith, sym, ap, ◌∙◌, subst, length-append}
use Rattle.std.specs.List.{All}
use Rattle.mz_events.specs.declared.entry.Entry.{Entry}
use Rattle.mz_book.specs.Owners.{BeginsWithin}
use Rattle.mz_book.specs.Handed.{quanta_since}
use Rattle.mz_register.proofs.MergeLemmas.{can_merge, end_of}
use Rattle.mz_register.proofs.hand_in.write.Goals as goal

pub merge-requires : goal.merge-requires
merge-requires c =
    let before = c.args.history.now in
    let quanta = c.args.quanta.now.items in
    let r = c.requires.can in (
      before.items ++ r.0,
      can_merge before.items quanta r.0 c.lengthen.new.history.items c.args.records.now r.1 (let l = c.lengthen.ensures.len in let a = length-append before.items r.0 in let m = r.2 in omega (arith, c.lengthen.new.history.ok.0, before.ok.0)) c.lengthen.ensures.before,
    )

pub slice_bounds-own_all-count : goal.slice_bounds-own_all-count
slice_bounds-own_all-count c =
    let before = c.args.history.now in
    let quanta = c.args.quanta.now.items in
    let r = c.requires.can in
    let mg = can_merge before.items quanta r.0 c.lengthen.new.history.items c.args.records.now r.1 (let l = c.lengthen.ensures.len in let a = length-append before.items r.0 in let m = r.2 in omega (arith, c.lengthen.new.history.ok.0, before.ok.0)) c.lengthen.ensures.before in
    let e = c.deref.ensures.value ∙ c.merge.ensures.items (before.items ++ r.0) mg in
    let n = ap length e in
    let a = length-append before.items r.0 in
    omega (arith, c.len-len.ensures, before.ok.0)

pub slice_bounds-own_all-start : goal.slice_bounds-own_all-start
slice_bounds-own_all-start c =
    let before = c.args.history.now in
    let quanta = c.args.quanta.now.items in
    let r = c.requires.can in
    let mg = can_merge before.items quanta r.0 c.lengthen.new.history.items c.args.records.now r.1 (let l = c.lengthen.ensures.len in let a = length-append before.items r.0 in let m = r.2 in omega (arith, c.lengthen.new.history.ok.0, before.ok.0)) c.lengthen.ensures.before in
    let e = c.deref.ensures.value ∙ c.merge.ensures.items (before.items ++ r.0) mg in
    let n = ap length e in
    let a = length-append before.items r.0 in
    let b : c.len-len.result ≤ length c.deref.result.now = omega (arith, c.len-len.ensures, before.ok.0) in
    b

pub own_all-requires-clause-within : goal.own_all-requires-clause-within
own_all-requires-clause-within c =
    let before = c.args.history.now in
    let quanta = c.args.quanta.now.items in
    let r = c.requires.can in
    let mg = can_merge before.items quanta r.0 c.lengthen.new.history.items c.args.records.now r.1 (let l = c.lengthen.ensures.len in let a = length-append before.items r.0 in let m = r.2 in omega (arith, c.lengthen.new.history.ok.0, before.ok.0)) c.lengthen.ensures.before in
    let e = c.deref.ensures.value ∙ c.merge.ensures.items (before.items ++ r.0) mg in
    subst (All (λ (x : Entry). BeginsWithin quanta x.event)) (sym (end_of c.deref.result.now before.items r.0 c.len-len.result e (c.len-len.ensures ∙ before.ok.0))) r.1.within

pub own_all-requires-clause-callers : goal.own_all-requires-clause-callers
own_all-requires-clause-callers c =
    let before = c.args.history.now in
    let quanta = c.args.quanta.now.items in
    let r = c.requires.can in
    let mg = can_merge before.items quanta r.0 c.lengthen.new.history.items c.args.records.now r.1 (let l = c.lengthen.ensures.len in let a = length-append before.items r.0 in let m = r.2 in omega (arith, c.lengthen.new.history.ok.0, before.ok.0)) c.lengthen.ensures.before in
    let e = c.deref.ensures.value ∙ c.merge.ensures.items (before.items ++ r.0) mg in
    subst (All (λ (x : Entry). x.caller < 256)) (sym (end_of c.deref.result.now before.items r.0 c.len-len.result e (c.len-len.ensures ∙ before.ok.0))) r.1.callers

pub returns-clause-written : goal.returns-clause-written
returns-clause-written c later can m =
    let before = c.args.history.now in
    let quanta = c.args.quanta.now.items in
    let mg = can_merge before.items quanta later c.lengthen.new.history.items c.args.records.now can (let l = c.lengthen.ensures.len in let a = length-append before.items later in omega (arith, c.lengthen.new.history.ok.0, before.ok.0)) c.lengthen.ensures.before in
    let items = c.merge.ensures.items (before.items ++ later) mg in
    (items, c.own_all.ensures.items ∙ ap (quanta_since quanta) (end_of c.deref.result.now before.items later c.len-len.result (c.deref.ensures.value ∙ items) (c.len-len.ensures ∙ before.ok.0)))

pub offset_bounds-deref-len : goal.offset_bounds-deref-len
offset_bounds-deref-len c =
    let before = c.args.history.now in
    let quanta = c.args.quanta.now.items in
    let r = c.requires.can in
    let mg = can_merge before.items quanta r.0 c.lengthen.new.history.items c.args.records.now r.1 (let l = c.lengthen.ensures.len in let a = length-append before.items r.0 in let m = r.2 in omega (arith, c.lengthen.new.history.ok.0, before.ok.0)) c.lengthen.ensures.before in
    let e = c.deref.ensures.value ∙ c.merge.ensures.items (before.items ++ r.0) mg in
    let n = ap length e in
    let a = length-append before.items r.0 in
    let t = c.deref.type_inv.1 in
    let l = c.len-len.ensures ∙ before.ok.0 in
    omega arith
