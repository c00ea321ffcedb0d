use Rattle.std.proofs.Common.{◌≡◌, ℕ, ◌+◌, ◌-◌, ◌*◌, ◌<◌, List, [], ◌∷◌, Option, Some, None, arith, subst, sym, ap, ◌∙◌, refl, inl}
use Rattle.atomic_table.specs.Table.{rest}
use Rattle.mz_ground.specs.Views.{SpanView}
use Rattle.mz_nanoword.specs.declared.word.NanoWord.{NanoWord}
use Rattle.mz_nanoword.specs.Words.{word_of}
use Rattle.mz_nano.specs.declared.view.View.{View}
use Rattle.mz_nano.specs.Lists.{In}
use Rattle.mz_nano.specs.Rule.{IsReady, IsPiece, slots, held}
use Rattle.mz_nano.specs.StepEffects.{Standing, slot_of, popped, place_given}
use Rattle.mz_nano.proofs.nano.Nano.take_first.Goals as goal

pub pop_exchange-found-requires-clause-can : goal.pop_exchange-found-requires-clause-can
pop_exchange-found-requires-clause-can c =
    let r = c.args.self.now in
    let q = c.requires in
    let w = c.args.word in
    let f1 = q.free in let f2 = q.first in let f3 = q.ready in let f4 = q.below in let f5 = q.small in let f6 = r.least in
    let new : NanoWord = record { next = c.args.link; free = w.free - 1; state = w.state; generation = w.generation + 1 } in
    let is : word_of c.pack.result ≡ new = c.pack.ensures.fields in
    let old : word_of c.args.old ≡ w = sym q.word in
    let kb : c.args.seat.now.me.0.geometry.blocks ≡ r.blocks = (λ k. (q.geometry k).blocks) ∙ r.geometry.0 in
    let kg : c.args.seat.now.me.0.geometry.most_gen ≡ r.most_gen = (λ k. (q.geometry k).most_gen) ∙ r.geometry.1 in
    let e1 : (word_of c.args.old).next ≡ w.next = ap (λ (x : NanoWord). x.next) old in
    let e2 : (word_of c.args.old).free ≡ w.free = ap (λ (x : NanoWord). x.free) old in
    let e3 : (word_of c.args.old).state ≡ w.state = ap (λ (x : NanoWord). x.state) old in
    let e4 : (word_of c.args.old).generation ≡ w.generation = ap (λ (x : NanoWord). x.generation) old in
    let ex = q.exists in (
      c.args.link,
      record {
        live = q.live;
        block = omega arith;
        known = q.known;
        first_links = q.first_links;
        ready = subst IsReady q.word q.ready;
        first = omega arith;
        below = omega arith;
        none = q.outs;
        next = ap (λ (x : NanoWord). x.next) is;
        free = ap (λ (x : NanoWord). x.free) is ∙ ap (λ (n : ℕ). n - 1) (sym e2);
        state = ap (λ (x : NanoWord). x.state) is ∙ sym e3;
        gen = ap (λ (x : NanoWord). x.generation) is ∙ ap (λ (n : ℕ). n + 1) (sym e4);
      },
    )

pub exchange-requires : goal.exchange-requires
exchange-requires c =
    let me = c.args.seat.now.me in
    let b : ℕ = c.args.b in
    let t = c.pop_exchange-found.ensures.pops.hit c.if-found-old.false in
    let es : slot_of c.args.old ≡ c.args.word.next - 1 = ap (λ (x : NanoWord). x.next - 1) (sym c.requires.word) in
    let car : c.pop_exchange-found.new.seat.me.1 ≡ (b * 1025 + (c.args.word.next - 1), Some t.span) ∷ me.1 = t.carried ∙ ap (λ (j : ℕ). (b * 1025 + j, Some t.span) ∷ me.1) es in
    (c.pop_exchange-found.ensures.table ∙ c.requires.table, (Some t.span, car ∙ ap (λ (r : List (ℕ × Option SpanView)). (b * 1025 + (c.args.word.next - 1), Some t.span) ∷ r) (sym (ap rest car))))

pub give_place-requires-clause-mine : goal.give_place-requires-clause-mine
give_place-requires-clause-mine c =
    let b : ℕ = c.args.b in
    let old : ℕ = c.args.old in
    let t = c.pop_exchange-found.ensures.pops.hit c.if-found-old.false in
    let es : c.args.word.next - 1 ≡ slot_of old = ap (λ (x : NanoWord). x.next - 1) c.requires.word in
    let x = c.exchange.ensures in
    let v : c.exchange.new.seat.me.0 ≡ c.pop_exchange-found.new.seat.me.0 = ap (λ m. m.0) x.3 in
    let view = v ∙ t.view in
    let car = ap (λ m. m.1) x.3 in (
      slot_of old,
      (word_of old).state,
      subst (In (held b (slot_of old) (word_of old).state)) (sym (ap (λ (u : View). u.hand) view)) (inl refl),
      ap (λ (u : View). u.vacant) view,
      (let R : List (ℕ × Option SpanView) = rest c.pop_exchange-found.new.seat.me.1 in
          car ∙ (ap (λ (j : ℕ). (b * 1025 + j, None) ∷ R) es ∙ ap (λ (r : List (ℕ × Option SpanView)). (b * 1025 + slot_of old, None) ∷ r) (sym (ap rest car)))),
    )

head_of : List (ℕ × Option SpanView) → Option SpanView
head_of [] = None
head_of (x ∷ xs) = x.1

heads : (k l : ℕ) (a b : Option SpanView) (xs ys : List (ℕ × Option SpanView)) → (k, a) ∷ xs ≡ (l, b) ∷ ys → a ≡ b
unfolding head_of
heads k l a b xs ys e = ap head_of e

somes : (a b : SpanView) → Some a ≡ Some b → a ≡ b
somes a b e = cc

pub returns-clause-ok : goal.returns-clause-ok
returns-clause-ok c =
    let q = c.requires in
    let me = c.args.seat.now.me in
    let b : ℕ = c.args.b in
    let old : ℕ = c.args.old in
    let new : ℕ = c.pack.result in
    let t = c.pop_exchange-found.ensures.pops.hit c.if-found-old.false in
    let es : c.args.word.next - 1 ≡ slot_of old = ap (λ (x : NanoWord). x.next - 1) q.word in
    let state : c.args.word.state ≡ (word_of old).state = ap (λ (x : NanoWord). x.state) q.word in
    let x = c.exchange.ensures in
    let view : c.exchange.new.seat.me.0 ≡ popped me.0 b (slot_of old) (word_of old).state old new = ap (λ (m : Standing). m.0) x.3 ∙ t.view in
    let view' : c.exchange.new.seat.me.0 ≡ popped me.0 b (slot_of old) c.args.word.state old new = view ∙ ap (λ (k : ℕ). popped me.0 b (slot_of old) k old new) (sym state) in
    let car1 : c.pop_exchange-found.new.seat.me.1 ≡ (b * 1025 + slot_of old, Some t.span) ∷ me.1 = t.carried in
    let span : t.span ≡ c.in-Some.parcel = somes t.span c.in-Some.parcel (heads (b * 1025 + slot_of old) (b * 1025 + (c.args.word.next - 1)) (Some t.span) c.exchange.result me.1 (rest c.pop_exchange-found.new.seat.me.1) (sym car1 ∙ x.2) ∙ c.in-Some.is) in
    let car : c.give_place.new.seat.me.1 ≡ me.1 = c.give_place.ensures.carried ∙ (ap (λ (m : Standing). rest m.1) x.3 ∙ ap rest car1) in
    let f = q.free in
    let w = q.word in
    let is = c.pack.ensures.fields in
    record {
      found = c.give_place.result;
      to = new;
      taken = record {
        state = ap (λ (y : NanoWord). y.state) is ∙ state;
        free = let e1 = ap (λ (y : NanoWord). y.free) is in let e2 = ap (λ (y : NanoWord). y.free) w in omega arith;
        generation = ap (λ (y : NanoWord). y.generation) is ∙ ap (λ (y : NanoWord). y.generation + 1) w;
      };
      next = ap (λ (y : NanoWord). y.next) is;
      inside = subst (λ (k : ℕ). slot_of old < slots k) (sym state) (c.pop_exchange-found.ensures.pops.inside c.if-found-old.false);
      fresh = c.pop_exchange-found.ensures.pops.fresh c.if-found-old.false;
      view = c.give_place.ensures.view ∙ ap (λ (v : View). place_given v b c.give_place.result) view';
      carried = car;
      piece = subst (λ (y : SpanView). IsPiece me.0.geometry b (16 * c.args.word.state * slot_of old) (16 * c.args.word.state) y) span (subst (λ (k : ℕ). IsPiece me.0.geometry b (16 * k * slot_of old) (16 * k) t.span) (sym state) t.piece);
      room = c.pop_exchange-found.ensures.pops.room;
    }
