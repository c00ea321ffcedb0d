use Rattle.std.proofs.Common.{◌≡◌, ◌≢◌, ℕ, [], ◌∷◌, refl, sym, ap, ◌∙◌, subst, arith, inl, ⊎_elim, IsTrue}
use Rattle.std.proofs.lemmas.Bool.{cases_eq}
use Rattle.mz_nanoword.specs.declared.word.NanoWord.{NanoWord}
use Rattle.mz_nanoword.specs.Words.{word_of}
use Rattle.mz_nano.specs.declared.view.Geometry.{Geometry}
use Rattle.mz_nano.specs.declared.view.View.{View}
use Rattle.mz_nano.specs.StepEffects.{load, IsSound}
use Rattle.mz_nano.specs.CallEffects.{IsUsable, InOrder}
use Rattle.mz_nano.proofs.ScanLemmas.{loaded_more, scan_more, none_usable}
use Rattle.mz_nano.proofs.nano.Nano.scan.Goals as goal

pub load_block-w-requires-clause-table : goal.load_block-w-requires-clause-table
load_block-w-requires-clause-table c = c.loop-b.invariant.table ∙ c.requires.table

pub load_block-w-requires-clause-geometry : goal.load_block-w-requires-clause-geometry
load_block-w-requires-clause-geometry c = ap (λ (v : View). v.geometry) c.loop-b.invariant.scan.loaded.view ∙ c.requires.geometry

pub load_block-w-requires-clause-live : goal.load_block-w-requires-clause-live
load_block-w-requires-clause-live c = ap (λ (v : View). v.live) c.loop-b.invariant.scan.loaded.view ∙ c.requires.live

pub returns-then-is_usable-clause-loaded : goal.returns-then-is_usable-clause-loaded
returns-then-is_usable-clause-loaded c =
    let s = c.loop-b.invariant.scan in
    let me = c.args.seat.now.me in
    let v1 = c.loop-b.seat.me.0 in
    let n : ℕ = c.load_block-w.result in
    let b : ℕ = c.loop-b.b in
    let sp : v1.geometry ≡ me.0.geometry = ap (λ (v : View). v.geometry) s.loaded.view in
    let kb : me.0.geometry.blocks ≡ c.args.self.now.blocks = (λ k. (c.requires.geometry k).blocks) ∙ c.args.self.now.geometry.0 in
    let kg : me.0.geometry.most_gen ≡ c.args.self.now.most_gen = (λ k. (c.requires.geometry k).most_gen) ∙ c.args.self.now.geometry.1 in
    let lt = c.loop-b-test.true in
    let w : c.in-Some.word ≡ word_of n = c.in-Some.ensures.1 in
    let u = c.is_usable.ensures.0 c.if-is_usable.true in
    let e1 : c.in-Some.word.state ≡ (word_of n).state = ap (λ (x : NanoWord). x.state) w in
    let e2 : c.in-Some.word.free ≡ (word_of n).free = ap (λ (x : NanoWord). x.free) w in
    let e3 : c.in-Some.word.generation ≡ (word_of n).generation = ap (λ (x : NanoWord). x.generation) w in (
      load b n ∷ s.more,
      loaded_more me.0 v1 c.load_block-w.new.seat.me.0 b n s.more s.loaded c.load_block-w.ensures.view,
      (
        omega arith,
        (v1.known, ap (λ (v : View). v.known) c.load_block-w.ensures.view),
        inl refl,
        w,
        record { class_ = sym e1 ∙ u.0; free = let t = u.1 in omega arith; generation = let t = u.2 in omega arith },
        subst (λ (p : Geometry). IsSound p n) sp c.load_block-w.ensures.sound,
        record { later = load b n ∷ []; scan = s.more; loads = refl; order = s.order; each = none_usable me.0.geometry c.args.class b c.loop-b.fresh s.more s.passed },
      ),
    )

pub loop-b-preserved : goal.loop-b-preserved
loop-b-preserved c =
    let s = c.loop-b.invariant.scan in
    let me = c.args.seat.now.me in
    let v1 = c.loop-b.seat.me.0 in
    let n : ℕ = c.load_block-w.result in
    let b : ℕ = c.loop-b.b in
    let sp : v1.geometry ≡ me.0.geometry = ap (λ (v : View). v.geometry) s.loaded.view in
    let kb : me.0.geometry.blocks ≡ c.args.self.now.blocks = (λ k. (c.requires.geometry k).blocks) ∙ c.args.self.now.geometry.0 in
    let kg : me.0.geometry.most_gen ≡ c.args.self.now.most_gen = (λ k. (c.requires.geometry k).most_gen) ∙ c.args.self.now.geometry.1 in
    let lt = c.loop-b-test.true in
    let most = c.loop-b.invariant.most in
    let w : c.in-Some.word ≡ word_of n = c.in-Some.ensures.1 in
    let e1 : c.in-Some.word.state ≡ (word_of n).state = ap (λ (x : NanoWord). x.state) w in
    let e2 : c.in-Some.word.free ≡ (word_of n).free = ap (λ (x : NanoWord). x.free) w in
    let e3 : c.in-Some.word.generation ≡ (word_of n).generation = ap (λ (x : NanoWord). x.generation) w in
    let p = c.pick-fresh.ensures in
    let nu : IsUsable me.0.geometry c.args.class n → ⊥ = λ u.
    let t : IsTrue c.is_usable.result = let uf = u.free in let ug = u.generation in c.is_usable.ensures.1 (e1 ∙ u.class_, omega arith, omega arith) in
    let f = c.if-is_usable.false in absurd (cc) in
    let sound : IsSound me.0.geometry n = subst (λ (p : Geometry). IsSound p n) sp c.load_block-w.ensures.sound in
    let here : (word_of n).state ≡ 0 → c.loop-b.fresh ≡ me.0.geometry.blocks → c.pick-fresh.result ≡ b = λ z q. p.here (e1 ∙ z) (q ∙ kb) in
    let assigned : (word_of n).state ≢ 0 → c.pick-fresh.result ≡ c.loop-b.fresh = λ z. p.assigned (λ q. z (sym e1 ∙ q)) in
    let later : c.loop-b.fresh ≢ me.0.geometry.blocks → c.pick-fresh.result ≡ c.loop-b.fresh = λ z. p.later (λ q. z (q ∙ sym kb)) in
    let next = scan_more me c.loop-b.seat.me c.load_block-w.new.seat.me c.args.class b n c.loop-b.fresh c.pick-fresh.result s c.load_block-w.ensures.view c.load_block-w.ensures.carried nu sound (omega arith) (omega arith) here assigned later in
    record {
      table = c.load_block-w.ensures.table ∙ c.loop-b.invariant.table;
      most = ⊎_elim
          (λ (t : c.loop-b.fresh ≡ me.0.geometry.blocks). ⊎_elim (λ (z : (word_of n).state ≡ 0). let q = here z t in omega arith) (λ (z : (word_of n).state ≡ 0 → ⊥). let q = assigned z in omega arith) (cases_eq (word_of n).state 0))
          (λ (t : c.loop-b.fresh ≡ me.0.geometry.blocks → ⊥). let q = later t in omega arith)
          (cases_eq c.loop-b.fresh me.0.geometry.blocks);
      scan = next;
    }

pub returns-then-fresh-self-clause-loaded : goal.returns-then-fresh-self-clause-loaded
returns-then-fresh-self-clause-loaded c =
    let s = c.loop-b.invariant.scan in
    let me = c.args.seat.now.me in
    let kb : me.0.geometry.blocks ≡ c.args.self.now.blocks = (λ k. (c.requires.geometry k).blocks) ∙ c.args.self.now.geometry.0 in
    let done = c.loop-b-test.false in let lt = c.if-fresh-self.true in
    let all : c.loop-b.b ≡ me.0.geometry.blocks = omega arith in
    (s.more, s.loaded, (omega arith, s.first (omega arith), record { later = []; scan = s.more; loads = refl; order = subst (λ (k : ℕ). InOrder k s.more) all s.order; each = λ b l. s.passed b (omega arith) }))

pub returns-else-fresh-self-clause-loaded : goal.returns-else-fresh-self-clause-loaded
returns-else-fresh-self-clause-loaded c =
    let s = c.loop-b.invariant.scan in
    let me = c.args.seat.now.me in
    let kb : me.0.geometry.blocks ≡ c.args.self.now.blocks = (λ k. (c.requires.geometry k).blocks) ∙ c.args.self.now.geometry.0 in
    let done = c.loop-b-test.false in let full = c.if-fresh-self.false in let most = c.loop-b.invariant.most in
    let all : c.loop-b.b ≡ me.0.geometry.blocks = omega arith in
    (s.more, s.loaded, (subst (λ (k : ℕ). InOrder k s.more) all s.order, λ b l. let t = s.passed b (omega arith) in (t.0, t.1, t.2, λ z. let q = t.3 z in omega arith)))
