use Rattle.std.proofs.Common.{◌≡◌, ℕ, ◌+◌, ◌-◌, ◌*◌, List, [], ◌∷◌, Option, Some, arith, subst, sym, ap, ◌∙◌, inl, add-zero}
use Rattle.atomic_table.specs.Table.{rest}
use Rattle.mz_ground.specs.Views.{SpanView}
use Rattle.mz_nanoword.specs.declared.word.NanoWord.{NanoWord}
use Rattle.mz_nanoword.specs.Words.{word_of}
use Rattle.mz_nano.specs.declared.view.Geometry.{Geometry}
use Rattle.mz_nano.specs.declared.view.View.{View}
use Rattle.mz_nano.specs.Lists.{In}
use Rattle.mz_nano.specs.Rule.{IsPiece, slots, claim, vacant, known_link, fresh_link}
use Rattle.mz_nano.specs.StepEffects.{Standing, block_claimed, made_ready, slot_of}
use Rattle.mz_nano.specs.CallEffects.{cut_view, TookFirst, IsNewlyReady}
use Rattle.mz_nano.proofs.SlotSteps.{zero_state}
use Rattle.mz_nano.proofs.ClaimSteps.{fresh_more, slots_least}
use Rattle.mz_nano.proofs.PopEffects.{made_view, took_claimed, lost_claimed}
use Rattle.mz_nano.proofs.nano.Nano.claim.Goals as goal

pub claim_exchange-found-requires-clause-can : goal.claim_exchange-found-requires-clause-can
claim_exchange-found-requires-clause-can c =
    let q = c.requires in let cl = q.class in let ex = q.exists in
    let is = c.pack.ensures.fields in
    let kb : c.args.seat.now.me.0.geometry.blocks ≡ c.args.self.now.blocks = (λ k. (q.geometry k).blocks) ∙ c.args.self.now.geometry.0 in (
      c.args.class,
      record {
        live = q.live;
        block = omega arith;
        old_state = zero_state;
        none = q.at_rest.0;
        no_claim = q.at_rest.1;
        least = cl.0;
        most = cl.1;
        next = ap (λ (x : NanoWord). x.next) is;
        state = ap (λ (x : NanoWord). x.state) is;
        gen = ap (λ (x : NanoWord). x.generation) is;
      },
    )

pub exchange-requires : goal.exchange-requires
exchange-requires c =
    let t = c.claim_exchange-found.ensures.claims.hit c.if-found-ne0.false in
    let b : ℕ = c.args.b in
    let me = c.args.seat.now.me in
    let car : c.claim_exchange-found.new.seat.me.1 ≡ (b * 1025, Some t.span) ∷ me.1 = t.carried ∙ ap (λ (i : ℕ). (i, Some t.span) ∷ me.1) (add-zero (b * 1025)) in
    (c.claim_exchange-found.ensures.table ∙ c.requires.table, (Some t.span, car ∙ ap (λ (r : List (ℕ × Option SpanView)). (b * 1025, Some t.span) ∷ r) (sym (ap rest car))))

pub cut_all-left-requires-clause-claimed : goal.cut_all-left-requires-clause-claimed
cut_all-left-requires-clause-claimed c =
    let t = c.claim_exchange-found.ensures.claims.hit c.if-found-ne0.false in
    let q = c.requires in let cl = q.class in
    let is = c.pack.ensures.fields in
    let view : c.exchange.new.seat.me.0 ≡ block_claimed c.args.seat.now.me.0 c.args.b c.args.class 0 c.pack.result = ap (λ (m : Standing). m.0) c.exchange.ensures.3 ∙ (t.view ∙ ap (λ (x : NanoWord). block_claimed c.args.seat.now.me.0 c.args.b x.next 0 c.pack.result) is) in
    (ap (λ (v : View). v.claim) view, ap (λ (v : View). v.vacant) view, ap (λ (v : View). v.stored) view)

pub make_ready-requires-clause-can : goal.make_ready-requires-clause-can
make_ready-requires-clause-can c =
    let q = c.requires in let cl = q.class in let ex = q.exists in
    let me = c.args.seat.now.me in
    let b : ℕ = c.args.b in
    let k : ℕ = c.args.class in
    let n : ℕ = c.slot_count-n.result in
    let nm = c.slot_count-n.ensures.most in
    let en : n ≡ slots k = c.slot_count-n.ensures.count in
    let t = c.claim_exchange-found.ensures.claims.hit c.if-found-ne0.false in
    let is = c.pack.ensures.fields in
    let view1 : c.exchange.new.seat.me.0 ≡ block_claimed me.0 b k 0 c.pack.result = ap (λ (m : Standing). m.0) c.exchange.ensures.3 ∙ (t.view ∙ ap (λ (x : NanoWord). block_claimed me.0 b x.next 0 c.pack.result) is) in
    let view2 : c.exchange-place.new.seat.me.0 ≡ cut_view (block_claimed me.0 b k 0 c.pack.result) b k n = ap (λ (m : Standing). m.0) c.exchange-place.ensures.3 ∙ (c.cut_all-left.ensures.view ∙ ap (λ (v : View). cut_view v b k n) view1) in
    let kb : me.0.geometry.blocks ≡ c.args.self.now.blocks = (λ i. (q.geometry i).blocks) ∙ c.args.self.now.geometry.0 in
    let kb2 : c.exchange-place.new.seat.me.0.geometry.blocks ≡ me.0.geometry.blocks = ap (λ (v : View). v.geometry.blocks) view2 in
    let ready = c.pack-word.ensures.fields in
    let plan2 : c.exchange.new.seat.me.0.geometry ≡ c.exchange-place.new.seat.me.0.geometry = ap (λ (v : View). v.geometry) view1 ∙ sym (ap (λ (v : View). v.geometry) view2) in (
      k,
      record {
        live = ap (λ (v : View). v.live) view2 ∙ q.live;
        block = omega arith;
        claim = ap (λ (v : View). v.claim) view2 ∙ ap (λ (m : ℕ). claim b k m ∷ []) en;
        outs = ap (λ (v : View). v.vacant) view2 ∙ ap (λ (m : ℕ). vacant b m ∷ []) en;
        span = c.cut_all-left.result;
        others = rest c.cut_all-left.new.seat.me.1;
        carried = ap (λ (m : Standing). m.1) c.exchange-place.ensures.3 ∙ ap (λ (m : ℕ). (b * 1025 + m, Some c.cut_all-left.result) ∷ rest c.cut_all-left.new.seat.me.1) en;
        piece = subst (λ (p : Geometry). IsPiece p b (16 * k * slots k) (16384 - 16 * k * slots k) c.cut_all-left.result) plan2 (subst (λ (m : ℕ). IsPiece c.exchange.new.seat.me.0.geometry b (16 * k * m) (16384 - 16 * k * m) c.cut_all-left.result) en c.cut_all-left.ensures.rest);
        next = ap (λ (x : NanoWord). x.next) ready;
        free = ap (λ (x : NanoWord). x.free) ready ∙ en;
        state = ap (λ (x : NanoWord). x.state) ready;
        gen = ap (λ (x : NanoWord). x.generation) ready;
      },
    )

pub take_first-requires-clause-word : goal.take_first-requires-clause-word
take_first-requires-clause-word c =
    let cl = c.requires.class in
    let nm = c.slot_count-n.ensures.most in
    sym (c.pack-word.ensures.fields)

pub take_first-requires-clause-first_links : goal.take_first-requires-clause-first_links
take_first-requires-clause-first_links c =
    let cl = c.requires.class in
    let k : ℕ = c.args.class in
    let w : ℕ = c.pack-word.result in
    let nm = c.slot_count-n.ensures.most in
    let ready = c.pack-word.ensures.fields in
    let l : fresh_link (word_of w).state 0 ≡ 2 = ap (λ (x : NanoWord). fresh_link x.state 0) ready ∙ fresh_more k 0 (let t = slots_least k cl.0 cl.1 in omega arith) in
    subst (In (known_link c.args.b w 2)) (sym (ap (λ (v : View). v.first_links) c.make_ready.ensures.opens.view)) (inl (ap (known_link c.args.b w) (sym l)))

pub take_first-requires-clause-below : goal.take_first-requires-clause-below
take_first-requires-clause-below c = let l = c.args.self.now.least in omega arith

pub returns-in-Ok-clause-ok : goal.returns-in-Ok-clause-ok
returns-in-Ok-clause-ok c =
    let q = c.requires in let cl = q.class in let ex = q.exists in
    let me = c.args.seat.now.me in
    let b : ℕ = c.args.b in
    let k : ℕ = c.args.class in
    let n : ℕ = c.slot_count-n.result in
    let w : ℕ = c.pack-word.result in
    let nm = c.slot_count-n.ensures.most in
    let t = c.claim_exchange-found.ensures.claims.hit c.if-found-ne0.false in
    let is = c.pack.ensures.fields in
    let view1 : c.exchange.new.seat.me.0 ≡ block_claimed me.0 b k 0 c.pack.result = ap (λ (m : Standing). m.0) c.exchange.ensures.3 ∙ (t.view ∙ ap (λ (x : NanoWord). block_claimed me.0 b x.next 0 c.pack.result) is) in
    let view2 : c.exchange-place.new.seat.me.0 ≡ cut_view (block_claimed me.0 b k 0 c.pack.result) b k n = ap (λ (m : Standing). m.0) c.exchange-place.ensures.3 ∙ (c.cut_all-left.ensures.view ∙ ap (λ (v : View). cut_view v b k n) view1) in
    let ready = c.pack-word.ensures.fields in
    let view3 : c.make_ready.new.seat.me.0 ≡ made_view me.0 b k n w c.pack.result = c.make_ready.ensures.opens.view ∙ (ap (λ (v : View). made_ready v b (word_of w).state w) view2 ∙ ap (λ (x : NanoWord). made_ready (cut_view (block_claimed me.0 b k 0 c.pack.result) b k n) b x.state w) ready) in
    let car : c.make_ready.new.seat.me.1 ≡ [] = c.make_ready.ensures.opens.carried ∙ (ap (λ (m : Standing). rest m.1) c.exchange-place.ensures.3 ∙ (ap rest c.cut_all-left.ensures.carried ∙ (ap (λ (m : Standing). rest m.1) c.exchange.ensures.3 ∙ (ap rest t.carried ∙ q.at_rest.2)))) in
    let kb : me.0.geometry.blocks ≡ c.args.self.now.blocks = (λ i. (q.geometry i).blocks) ∙ c.args.self.now.geometry.0 in
    let es : slot_of w ≡ 0 = ap (λ (x : NanoWord). x.next - 1) ready in
    let newly : IsNewlyReady k w = ready ∙ ap (λ (m : ℕ). record { next = 1; free = m; state = k; generation = 0 }) c.slot_count-n.ensures.count in
    took_claimed me c.make_ready.new.seat.me c.take_first.new.seat.me b k n w c.pack.result c.in-Ok.parcel q.live newly view3 car
    (subst (λ (j : ℕ). TookFirst c.make_ready.new.seat.me b j k w 2 c.in-Ok.parcel c.take_first.new.seat.me) es c.in-Ok.ensures.ok)

pub returns-in-Err-clause-err : goal.returns-in-Err-clause-err
returns-in-Err-clause-err c =
    let q = c.requires in let cl = q.class in let ex = q.exists in
    let me = c.args.seat.now.me in
    let b : ℕ = c.args.b in
    let k : ℕ = c.args.class in
    let n : ℕ = c.slot_count-n.result in
    let w : ℕ = c.pack-word.result in
    let nm = c.slot_count-n.ensures.most in
    let t = c.claim_exchange-found.ensures.claims.hit c.if-found-ne0.false in
    let is = c.pack.ensures.fields in
    let view1 : c.exchange.new.seat.me.0 ≡ block_claimed me.0 b k 0 c.pack.result = ap (λ (m : Standing). m.0) c.exchange.ensures.3 ∙ (t.view ∙ ap (λ (x : NanoWord). block_claimed me.0 b x.next 0 c.pack.result) is) in
    let view2 : c.exchange-place.new.seat.me.0 ≡ cut_view (block_claimed me.0 b k 0 c.pack.result) b k n = ap (λ (m : Standing). m.0) c.exchange-place.ensures.3 ∙ (c.cut_all-left.ensures.view ∙ ap (λ (v : View). cut_view v b k n) view1) in
    let ready = c.pack-word.ensures.fields in
    let view3 : c.make_ready.new.seat.me.0 ≡ made_view me.0 b k n w c.pack.result = c.make_ready.ensures.opens.view ∙ (ap (λ (v : View). made_ready v b (word_of w).state w) view2 ∙ ap (λ (x : NanoWord). made_ready (cut_view (block_claimed me.0 b k 0 c.pack.result) b k n) b x.state w) ready) in
    let car : c.make_ready.new.seat.me.1 ≡ [] = c.make_ready.ensures.opens.carried ∙ (ap (λ (m : Standing). rest m.1) c.exchange-place.ensures.3 ∙ (ap rest c.cut_all-left.ensures.carried ∙ (ap (λ (m : Standing). rest m.1) c.exchange.ensures.3 ∙ (ap rest t.carried ∙ q.at_rest.2)))) in
    let x = c.in-Err.ensures.err in
    let newly : IsNewlyReady k w = ready ∙ ap (λ (m : ℕ). record { next = 1; free = m; state = k; generation = 0 }) c.slot_count-n.ensures.count in
    lost_claimed me c.make_ready.new.seat.me c.take_first.new.seat.me b k n w c.pack.result c.in-Err.found cl.0 cl.1 q.live view3 car newly x.0 x.1 x.2
