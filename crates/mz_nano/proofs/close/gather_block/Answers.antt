use Rattle.std.proofs.Common.{◌≡◌, ℕ, ◌+◌, ◌*◌, List, length, Option, Some, None, sym, ap, ◌∙◌, subst, arith}
use mathlib.Core.Option.{some, some-injective}
use lib.ListN.{get_elem?}
use Rattle.core.specs.Mem.Slots.{slots_items, slots_len, slots_filled}
use Rattle.mz_ground.specs.Views.{SpanView}
use Rattle.mz_nano.specs.Ended.{TakenTo}
use Rattle.mz_nano.proofs.close.gather_block.Goals as goal

-- what is taken is what stands there
taken_is : (items now : List (Option SpanView)) (i : ℕ) (a : SpanView) (x : Option SpanView) → now ≡ items → get_elem? items i ≡ some (Some a) → get_elem? now i ≡ some x → Some a ≡ x
taken_is items now i a x e h g = some-injective (Some a) x (sym h ∙ (ap (λ (l : List (Option SpanView)). get_elem? l i) (sym e) ∙ g))

somes : (a b : SpanView) → Some a ≡ Some b → a ≡ b
somes a b e = cc

pub extend-requires-clause-space : goal.extend-requires-clause-space
extend-requires-clause-space c =
    let k = c.requires.block in
    let j : ℕ = c.loop-j.j in
    let lt = c.loop-j-test.true in
    let e = k.2 in
    let p = k.1.each j (omega arith) in
    let same : p.span ≡ c.in-Some.parcel = somes p.span c.in-Some.parcel (taken_is (slots_items c.args.closed.now.slots) (slots_items c.loop-j.closed.slots) (c.args.b * 1025 + j) p.span c.take_next.result c.loop-j.invariant.same.items p.here c.take_next.ensures.value ∙ c.in-Some.is) in
    ap (λ (s : SpanView). s.space) (sym same) ∙ (p.piece.space ∙ (sym k.3 ∙ sym c.loop-j.invariant.space))

pub extend-requires-clause-adjacent : goal.extend-requires-clause-adjacent
extend-requires-clause-adjacent c =
    let k = c.requires.block in
    let j : ℕ = c.loop-j.j in
    let lt = c.loop-j-test.true in
    let e = k.2 in
    let p = k.1.each j (omega arith) in
    let same : p.span ≡ c.in-Some.parcel = somes p.span c.in-Some.parcel (taken_is (slots_items c.args.closed.now.slots) (slots_items c.loop-j.closed.slots) (c.args.b * 1025 + j) p.span c.take_next.result c.loop-j.invariant.same.items p.here c.take_next.ensures.value ∙ c.in-Some.is) in
    let sf : p.span.first ≡ c.in-Some.parcel.first = ap (λ (s : SpanView). s.first) same in
    let pf = p.piece.first in let kf = k.4 in let kl = k.5 in let f = c.loop-j.invariant.first in let l = c.loop-j.invariant.len in
    omega arith

pub unreachable-requires : goal.unreachable-requires
unreachable-requires c =
    let k = c.requires.block in
    let j : ℕ = c.loop-j.j in
    let lt = c.loop-j-test.true in
    let e = k.2 in
    let p = k.1.each j (omega arith) in
    let bad : Some p.span ≡ None = taken_is (slots_items c.args.closed.now.slots) (slots_items c.loop-j.closed.slots) (c.args.b * 1025 + j) p.span c.take_next.result c.loop-j.invariant.same.items p.here c.take_next.ensures.value ∙ c.in-None.is in
    cc

pub loop-j-preserved : goal.loop-j-preserved
loop-j-preserved c =
    let k = c.requires.block in
    let j : ℕ = c.loop-j.j in
    let lt = c.loop-j-test.true in
    let e = k.2 in
    let p = k.1.each j (omega arith) in
    let same : p.span ≡ c.in-Some.parcel = somes p.span c.in-Some.parcel (taken_is (slots_items c.args.closed.now.slots) (slots_items c.loop-j.closed.slots) (c.args.b * 1025 + j) p.span c.take_next.result c.loop-j.invariant.same.items p.here c.take_next.ensures.value ∙ c.in-Some.is) in
    let sl : length p.span.bytes ≡ length c.in-Some.parcel.bytes = ap (λ (s : SpanView). length s.bytes) same in
    let pl = p.piece.len in let ri = p.rises in let l = c.loop-j.invariant.len in let el = c.extend.ensures.len in
    let t = c.take_next.ensures.same in let s = c.loop-j.invariant.same in
    record {
      same = record { items = t.items ∙ s.items; len = t.len ∙ s.len; words = t.words ∙ s.words };
      taken = subst (λ (n : ℕ). TakenTo n (slots_len c.take_next.new.closed.slots) (slots_filled c.take_next.new.closed.slots)) (omega arith) c.take_next.ensures.taken;
      space = c.extend.ensures.space ∙ c.loop-j.invariant.space;
      first = c.extend.ensures.first ∙ c.loop-j.invariant.first;
      len = omega arith;
    }
