use Rattle.std.proofs.Common.{◌≡◌, ℕ, zero, suc, List, [], ◌∷◌, get_or, sym, ap, ◌∙◌, subst, arith}
use mathlib.Core.Option.{some, some-injective, some-ne-none}
use lib.ListN.{get_elem?}
use Rattle.core.specs.Mem.Slots.{slots_items}
use Rattle.core.specs.declared.slots.Slots.{Slots}
use Rattle.mz_nanoword.specs.declared.word.NanoWord.{NanoWord}
use Rattle.mz_nanoword.specs.Words.{word_of}
use Rattle.mz_nano.specs.Ended.{pieces, EndedBlock}
use Rattle.mz_nano.proofs.close.gather.Goals as goal

read : (l : List ℕ) (i a : ℕ) → get_elem? l i ≡ some a → get_or l i 0 ≡ a
read [] i a e = absurd (some-ne-none a (sym e))
read (x ∷ xs) zero a e = some-injective x a e
read (x ∷ xs) (suc i) a e = read xs i a e

word_is : (a b : Slots ℕ) (i w : ℕ) → b ≡ a → get_elem? (slots_items b) i ≡ some w → get_or (slots_items a) i 0 ≡ w
word_is a b i w e h = ap (λ (s : Slots ℕ). get_or (slots_items s) i 0) (sym e) ∙ read (slots_items b) i w h

pub unreachable-requires : goal.unreachable-requires
unreachable-requires c =
    let k = c.requires.ended in
    let b : ℕ = c.loop-b.b in
    let lt = c.loop-b-test.true in let kb = k.2 in
    let e = word_is c.args.closed.words c.loop-b.closed.words b c.word-w.result c.loop-b.invariant.same.words c.word-w.ensures in
    let s = (k.1 b (omega arith)).small in
    let bad = c.in_default.ensures in omega (arith, bad)

pub count_pieces-n-requires : goal.count_pieces-n-requires
count_pieces-n-requires c =
    let k = c.requires.ended in
    let b : ℕ = c.loop-b.b in
    let lt = c.loop-b-test.true in let kb = k.2 in
    let e = word_is c.args.closed.words c.loop-b.closed.words b c.word-w.result c.loop-b.invariant.same.words c.word-w.ensures in
    let s = (k.1 b (omega arith)).state in
    let w : c.in-Some.word.state ≡ (word_of c.word-w.result).state = ap (λ (x : NanoWord). x.state) c.in-Some.ensures.1 in
    let e' : (word_of (get_or (slots_items c.args.closed.words) b 0)).state ≡ (word_of c.word-w.result).state = ap (λ (n : ℕ). (word_of n).state) e in
    omega arith

pub gather_block-whole-requires-clause-block : goal.gather_block-whole-requires-clause-block
gather_block-whole-requires-clause-block c =
    let k = c.requires.ended in
    let b : ℕ = c.loop-b.b in
    let lt = c.loop-b-test.true in let kb = k.2 in
    let e = word_is c.args.closed.words c.loop-b.closed.words b c.word-w.result c.loop-b.invariant.same.words c.word-w.ensures in
    let eb = k.1 b (omega arith) in
    let inv = c.loop-b.invariant in (
      k.0,
      subst (EndedBlock k.0 b c.word-w.result) (sym inv.same.items) (subst (λ (w : ℕ). EndedBlock k.0 b w (slots_items c.args.closed.slots)) e eb),
      c.count_pieces-n.ensures c.word-w.result c.in-Some.ensures.1,
      inv.space ∙ k.3,
      inv.first ∙ k.4,
      inv.len,
    )

pub gather_block-whole-requires-clause-within : goal.gather_block-whole-requires-clause-within
gather_block-whole-requires-clause-within c =
    let k = c.requires.ended in
    let b : ℕ = c.loop-b.b in
    let lt = c.loop-b-test.true in let kb = k.2 in
    let e = word_is c.args.closed.words c.loop-b.closed.words b c.word-w.result c.loop-b.invariant.same.words c.word-w.ensures in
    let f = (k.1 b (omega arith)).few in
    let n = c.count_pieces-n.ensures c.word-w.result c.in-Some.ensures.1 in
    let e' : pieces (get_or (slots_items c.args.closed.words) b 0) ≡ pieces c.word-w.result = ap pieces e in
    let cn = c.requires.counts in let sl = c.loop-b.invariant.same.len in
    (omega arith, omega arith, omega arith)
