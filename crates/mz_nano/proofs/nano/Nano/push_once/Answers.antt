use Rattle.std.proofs.Common.{◌≡◌, if◌then◌else◌, nat_lt, ℕ, ◌+◌, ◌*◌, List, [], ◌∷◌, length, Option, Some, None, arith, subst, sym, ap, ◌∙◌, inl}
use Rattle.atomic_table.specs.Table.{rest}
use Rattle.mz_ground.specs.Views.{SpanView}
use Rattle.mz_nanoword.specs.declared.word.NanoWord.{NanoWord}
use Rattle.mz_nanoword.specs.Words.{word_of}
use Rattle.mz_nano.specs.declared.view.Geometry.{Geometry}
use Rattle.mz_nano.specs.declared.view.View.{View}
use Rattle.mz_nano.specs.Lists.{In}
use Rattle.mz_nano.specs.Rule.{IsPiece, held, stored}
use Rattle.mz_nano.specs.StepEffects.{Standing, word_loaded, link_stored, pushed, clash_noted, place_given, slot_of}
use Rattle.mz_nano.proofs.HandLemmas.{pushed_ends, kept_ends}
use Rattle.mz_nano.proofs.nano.Nano.push_once.Goals as goal

pub store_link-requires-clause-mine : goal.store_link-requires-clause-mine
store_link-requires-clause-mine c = (c.args.class, subst (In (held c.args.block c.args.slot c.args.class)) (sym (ap (λ (v : View). v.hand) c.load_block-old.ensures.view)) c.requires.mine)

pub store_link-requires-clause-small : goal.store_link-requires-clause-small
store_link-requires-clause-small c =
    let m = c.load_block-old.ensures.mine c.args.slot c.args.class c.requires.mine in
    let e : c.in-Some.word.next ≡ (word_of c.load_block-old.result).next = ap (λ (x : NanoWord). x.next) c.in-Some.ensures.1 in
    let l = c.load_block-old.ensures.sound.next m.1 in omega arith

pub pack-requires : goal.pack-requires
pack-requires c =
    let m = c.load_block-old.ensures.mine c.args.slot c.args.class c.requires.mine in
    let w = c.in-Some.ensures.1 in
    let e1 : c.in-Some.word.free ≡ (word_of c.load_block-old.result).free = ap (λ (x : NanoWord). x.free) w in
    let e2 : c.in-Some.word.state ≡ (word_of c.load_block-old.result).state = ap (λ (x : NanoWord). x.state) w in
    let l = c.load_block-old.ensures.sound.free m.1 in let t = m.1.1 in
    let x = c.requires.within in let g = c.next_generation.ensures.most in let k = c.args.self.now.least in
    record { next = omega arith; free = omega arith; state = omega arith; generation = omega arith }

pub push_exchange-found-requires-clause-can : goal.push_exchange-found-requires-clause-can
push_exchange-found-requires-clause-can c =
    let q = c.requires in
    let me = c.args.seat.now.me in
    let b : ℕ = c.args.block in let j : ℕ = c.args.slot in let k : ℕ = c.args.class in
    let n : ℕ = c.load_block-old.result in
    let m = c.load_block-old.ensures.mine j k q.mine in
    let w = c.in-Some.ensures.1 in
    let e0 : c.in-Some.word.next ≡ (word_of n).next = ap (λ (x : NanoWord). x.next) w in
    let e1 : c.in-Some.word.free ≡ (word_of n).free = ap (λ (x : NanoWord). x.free) w in
    let e2 : c.in-Some.word.state ≡ (word_of n).state = ap (λ (x : NanoWord). x.state) w in
    let e3 : c.in-Some.word.generation ≡ (word_of n).generation = ap (λ (x : NanoWord). x.generation) w in
    let l = c.load_block-old.ensures.sound.free m.1 in let t = m.1.1 in
    let x = q.within in let g = c.next_generation.ensures in let gm = g.most in let gl = g.least in let ls = c.args.self.now.least in
    let is = c.pack.ensures.fields in
    let view : c.exchange-empty.new.seat.me.0 ≡ link_stored (word_loaded me.0 b n) b j c.in-Some.word.next = ap (λ (y : Standing). y.0) c.exchange-empty.ensures.3 ∙ (ap (λ (y : Standing). y.0) c.store_link.ensures.me ∙ ap (λ (v : View). link_stored v b j c.in-Some.word.next) c.load_block-old.ensures.view) in
    let kg : c.exchange-empty.new.seat.me.0.geometry.most_gen ≡ c.args.self.now.most_gen = ap (λ (v : View). v.geometry.most_gen) view ∙ ((λ i. (q.geometry i).most_gen) ∙ c.args.self.now.geometry.1) in
    let ng : (word_of c.pack.result).generation ≡ c.next_generation.result = ap (λ (y : NanoWord). y.generation) is in (
      j,
      k,
      record {
        live = ap (λ (v : View). v.live) view ∙ q.live;
        mine = subst (In (held b j k)) (sym (ap (λ (v : View). v.hand) view)) q.mine;
        stored = subst (In (stored b j (word_of n).next)) (sym (ap (λ (v : View). v.stored) view)) (inl (ap (stored b j) (sym e0)));
        outs = ap (λ (v : View). v.vacant) view;
        span = c.args.parcel;
        others = rest c.store_link.new.seat.me.1;
        carried = ap (λ (y : Standing). y.1) c.exchange-empty.ensures.3;
        piece = subst (λ (p : Geometry). IsPiece p b (16 * k * j) (16 * k) c.args.parcel) (sym (ap (λ (v : View). v.geometry) view)) q.piece;
        next = ap (λ (y : NanoWord). y.next) is;
        free = ap (λ (y : NanoWord). y.free) is ∙ ap (λ (i : ℕ). i + 1) e1;
        state = ap (λ (y : NanoWord). y.state) is ∙ e2;
        gen = omega arith;
        most = omega arith;
        rises = λ h. let r = g.rises (omega arith) in omega arith;
      },
    )

pub returns-then-found-old-clause-ok : goal.returns-then-found-old-clause-ok
returns-then-found-old-clause-ok c =
    let q = c.requires in
    let me = c.args.seat.now.me in
    let b : ℕ = c.args.block in let j : ℕ = c.args.slot in
    let n : ℕ = c.load_block-old.result in
    let m = c.load_block-old.ensures.mine j c.args.class q.mine in
    let w = c.in-Some.ensures.1 in
    let e1 : c.in-Some.word.free ≡ (word_of n).free = ap (λ (x : NanoWord). x.free) w in
    let e2 : c.in-Some.word.state ≡ (word_of n).state = ap (λ (x : NanoWord). x.state) w in
    let e3 : c.in-Some.word.generation ≡ (word_of n).generation = ap (λ (x : NanoWord). x.generation) w in
    let kg : me.0.geometry.most_gen ≡ c.args.self.now.most_gen = (λ i. (q.geometry i).most_gen) ∙ c.args.self.now.geometry.1 in
    let l = c.load_block-old.ensures.sound.free m.1 in let t = m.1.1 in
    let x = q.within in let gm = c.next_generation.ensures.most in let ls = c.args.self.now.least in
    let is = c.pack.ensures.fields in
    let ej : slot_of c.pack.result ≡ j = let e = ap (λ (y : NanoWord). y.next) is in omega arith in
    let view : c.exchange-empty.new.seat.me.0 ≡ link_stored (word_loaded me.0 b n) b j c.in-Some.word.next = ap (λ (y : Standing). y.0) c.exchange-empty.ensures.3 ∙ (ap (λ (y : Standing). y.0) c.store_link.ensures.me ∙ ap (λ (v : View). link_stored v b j c.in-Some.word.next) c.load_block-old.ensures.view) in
    let hit = c.push_exchange-found.ensures.pushes.hit c.if-found-old.true in
    let last : c.push_exchange-found.new.seat.me.0 ≡ pushed (link_stored (word_loaded me.0 b n) b j c.in-Some.word.next) b j n c.pack.result = ap (λ (y : Standing). y.0) hit ∙ (ap (λ (i : ℕ). pushed c.exchange-empty.new.seat.me.0 b i n c.pack.result) ej ∙ ap (λ (v : View). pushed v b j n c.pack.result) view) in
    let car : c.push_exchange-found.new.seat.me.1 ≡ [] = ap (λ (y : Standing). y.1) hit ∙ (ap (λ (y : Standing). rest y.1) c.exchange-empty.ensures.3 ∙ (ap (λ (y : Standing). rest y.1) c.store_link.ensures.me ∙ (c.load_block-old.ensures.carried ∙ q.at_rest.2))) in
    record {
      same = record { live = ap (λ (v : View). v.live) last ∙ q.live; geometry = ap (λ (v : View). v.geometry) last; parts = ap (λ (v : View). v.parts) last; outs = ap (λ (v : View). v.vacant) last; claims = ap (λ (v : View). v.claim) last ∙ q.at_rest.1; carried = car };
      hand = ap (λ (v : View). v.hand) last;
      count = let e4 = ap (λ (v : View). length v.hand) view in
          let cn = c.push_exchange-found.ensures.pushes.count c.args.class (subst (In (held b (slot_of c.pack.result) c.args.class)) (sym (ap (λ (v : View). v.hand) view)) (subst (λ (i : ℕ). In (held b i c.args.class) me.0.hand) (sym ej) q.mine)) in
          let e5 = ap (λ (y : Standing). length y.0.hand) hit in omega arith;
      clashes = ap (λ (v : View). v.clashes) last;
      from = n;
      to = c.pack.result;
      class_ = m.0;
      put = record {
        next = ap (λ (y : NanoWord). y.next) is;
        free = ap (λ (y : NanoWord). y.free) is ∙ ap (λ (i : ℕ). i + 1) e1;
        state = ap (λ (y : NanoWord). y.state) is ∙ e2;
        generation = ap (λ (y : NanoWord). y.generation) is ∙ (c.next_generation.ensures.value ∙ (ap (λ (i : ℕ). if nat_lt i c.args.self.now.most_gen then i + 1 else i) e3 ∙ ap (λ (i : ℕ). if nat_lt (word_of n).generation i then (word_of n).generation + 1 else (word_of n).generation) (sym kg)));
      };
      loads = ap (λ (v : View). v.loads) last;
      wins = ap (λ (v : View). v.wins) last;
      claimed = ap (λ (v : View). v.claimed) last;
    }

pub exchange-requires : goal.exchange-requires
exchange-requires c =
    let miss = c.push_exchange-found.ensures.pushes.miss c.if-found-old.false in
    let p : ℕ = c.args.block * 1025 + c.args.slot in
    let car : c.push_exchange-found.new.seat.me.1 ≡ (p, Some c.args.parcel) ∷ rest c.store_link.new.seat.me.1 = ap (λ (y : Standing). y.1) miss ∙ ap (λ (y : Standing). y.1) c.exchange-empty.ensures.3 in
    (c.push_exchange-found.ensures.table ∙ (c.exchange-empty.ensures.0 ∙ (c.store_link.ensures.table ∙ (c.load_block-old.ensures.table ∙ c.requires.table))), (Some c.args.parcel, car ∙ ap (λ (r : List (ℕ × Option SpanView)). (p, Some c.args.parcel) ∷ r) (sym (ap rest car))))

pub give_place-requires-clause-mine : goal.give_place-requires-clause-mine
give_place-requires-clause-mine c =
    let me = c.args.seat.now.me in
    let b : ℕ = c.args.block in let j : ℕ = c.args.slot in
    let n : ℕ = c.load_block-old.result in
    let miss = c.push_exchange-found.ensures.pushes.miss c.if-found-old.false in
    let view : c.exchange-empty.new.seat.me.0 ≡ link_stored (word_loaded me.0 b n) b j c.in-Some.word.next = ap (λ (y : Standing). y.0) c.exchange-empty.ensures.3 ∙ (ap (λ (y : Standing). y.0) c.store_link.ensures.me ∙ ap (λ (v : View). link_stored v b j c.in-Some.word.next) c.load_block-old.ensures.view) in
    let last : c.exchange.new.seat.me.0 ≡ clash_noted (link_stored (word_loaded me.0 b n) b j c.in-Some.word.next) b n c.push_exchange-found.result = ap (λ (y : Standing). y.0) c.exchange.ensures.3 ∙ (ap (λ (y : Standing). y.0) miss ∙ ap (λ (v : View). clash_noted v b n c.push_exchange-found.result) view) in
    let car = ap (λ (y : Standing). y.1) c.exchange.ensures.3 in (
      j,
      c.args.class,
      subst (In (held b j c.args.class)) (sym (ap (λ (v : View). v.hand) last)) c.requires.mine,
      ap (λ (v : View). v.vacant) last,
      car ∙ ap (λ (r : List (ℕ × Option SpanView)). (b * 1025 + j, None) ∷ r) (sym (ap rest car)),
    )

head_of : List (ℕ × Option SpanView) → Option SpanView
head_of [] = None
head_of (x ∷ xs) = x.1

heads : (k : ℕ) (a b : Option SpanView) (xs ys : List (ℕ × Option SpanView)) → (k, a) ∷ xs ≡ (k, b) ∷ ys → a ≡ b
unfolding head_of
heads k a b xs ys e = ap head_of e

somes : (a b : SpanView) → Some a ≡ Some b → a ≡ b
somes a b e = cc

pub returns-clause-err : goal.returns-clause-err
returns-clause-err c =
    let q = c.requires in
    let me = c.args.seat.now.me in
    let b : ℕ = c.args.block in let j : ℕ = c.args.slot in
    let n : ℕ = c.load_block-old.result in
    let x : ℕ = c.push_exchange-found.result in
    let p : ℕ = b * 1025 + j in
    let miss = c.push_exchange-found.ensures.pushes.miss c.if-found-old.false in
    let view : c.exchange-empty.new.seat.me.0 ≡ link_stored (word_loaded me.0 b n) b j c.in-Some.word.next = ap (λ (y : Standing). y.0) c.exchange-empty.ensures.3 ∙ (ap (λ (y : Standing). y.0) c.store_link.ensures.me ∙ ap (λ (v : View). link_stored v b j c.in-Some.word.next) c.load_block-old.ensures.view) in
    let last : c.exchange.new.seat.me.0 ≡ clash_noted (link_stored (word_loaded me.0 b n) b j c.in-Some.word.next) b n x = ap (λ (y : Standing). y.0) c.exchange.ensures.3 ∙ (ap (λ (y : Standing). y.0) miss ∙ ap (λ (v : View). clash_noted v b n x) view) in
    let f : ℕ = c.give_place.result in
    let e : c.give_place.new.seat.me.0 ≡ place_given (clash_noted (link_stored (word_loaded me.0 b n) b j c.in-Some.word.next) b n x) b f = c.give_place.ensures.view ∙ ap (λ (v : View). place_given v b f) last in
    let car1 : c.push_exchange-found.new.seat.me.1 ≡ (p, Some c.args.parcel) ∷ rest c.store_link.new.seat.me.1 = ap (λ (y : Standing). y.1) miss ∙ ap (λ (y : Standing). y.1) c.exchange-empty.ensures.3 in
    let span : c.args.parcel ≡ c.in-Some-exchange.parcel = somes c.args.parcel c.in-Some-exchange.parcel (heads p (Some c.args.parcel) c.exchange.result (rest c.store_link.new.seat.me.1) (rest c.push_exchange-found.new.seat.me.1) (sym car1 ∙ c.exchange.ensures.2) ∙ c.in-Some-exchange.is) in
    let car : c.give_place.new.seat.me.1 ≡ [] = c.give_place.ensures.carried ∙ (ap (λ (y : Standing). rest y.1) c.exchange.ensures.3 ∙ (ap rest car1 ∙ (ap (λ (y : Standing). rest y.1) c.store_link.ensures.me ∙ (c.load_block-old.ensures.carried ∙ q.at_rest.2)))) in (
      sym span,
      record {
        same = record { live = ap (λ (v : View). v.live) e ∙ q.live; geometry = ap (λ (v : View). v.geometry) e; parts = ap (λ (v : View). v.parts) e; outs = ap (λ (v : View). v.vacant) e; claims = ap (λ (v : View). v.claim) e ∙ q.at_rest.1; carried = car };
        hand = ap (λ (v : View). v.hand) e;
        clashes = ap (λ (v : View). v.clashes) e;
        other = c.if-found-old.false;
        wins = ap (λ (v : View). v.wins) e;
        claimed = ap (λ (v : View). v.claimed) e;
        later = f;
        loads = ap (λ (v : View). v.loads) e;
      },
    )

pub returns-then-found-old-clause-ends : goal.returns-then-found-old-clause-ends
returns-then-found-old-clause-ends c = pushed_ends c.args.seat.now.me c.push_exchange-found.new.seat.me c.args.block c.args.slot c.args.class (returns-then-found-old-clause-ok c)

pub returns-clause-ends : goal.returns-clause-ends
returns-clause-ends c = kept_ends c.args.seat.now.me c.give_place.new.seat.me c.args.block c.load_block-old.result c.push_exchange-found.result (returns-clause-err c).1
