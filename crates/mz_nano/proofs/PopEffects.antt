-- What a pop has done.
use Rattle.std.proofs.Common.{true, ◌≡◌, ◌≢◌, ℕ, ◌+◌, ◌*◌, ◌<◌, ◌≤◌, List, [], ◌∷◌, ◌++◌, length, sym, ap, ◌∙◌, subst, arith, inl, inr, ⊎_elim}
use Rattle.mz_ground.specs.Views.{SpanView}
use Rattle.mz_nanoword.specs.declared.word.NanoWord.{NanoWord}
use Rattle.mz_nanoword.specs.Words.{word_of}
use Rattle.mz_nano.specs.declared.view.Geometry.{Geometry}
use Rattle.mz_nano.specs.declared.view.View.{View}
use Rattle.mz_nano.specs.declared.view.Load.{Load}
use Rattle.mz_nano.specs.declared.view.Known.{Known}
use Rattle.mz_nano.specs.Lists.{In}
use Rattle.mz_nano.specs.Rule.{IsPiece, IsReady, KnownKeeps, held}
use Rattle.mz_nano.specs.StepEffects.{Standing, link_loaded, clash_noted, popped, place_given, block_claimed, made_ready, load, win, clash}
use Rattle.mz_nano.specs.CallEffects.{OnlyLoaded, IsUsable, IsNewlyReady, InOrder, NoneUsable, Skipped, TookFirst, Popped, ClaimPopped, ClaimLost, Exhausts, Contends, cut_view}
use Rattle.mz_nano.proofs.SlotSteps.{zero_state}
use Rattle.mz_nano.proofs.ClaimSteps.{slots_least}
use Rattle.mz_nano.proofs.ScanLemmas.{skipped_more}

-- the view of a seat that claimed a block by the word y and made it ready by the word w
abbrev pub made_view : View → ℕ → ℕ → ℕ → ℕ → ℕ → View
made_view v b c n w y = made_ready (cut_view (block_claimed v b c 0 y) b c n) b c w

-- the view of a seat that loaded words, and then the link l at i
abbrev after_loads : View → List Load → List Known → ℕ → ℕ → View
after_loads v more seen i l = link_loaded (record v { loads = more ++ v.loads; known = seen ++ v.known }) i l

pub took_claimed : (me me3 me4 : Standing) (b c n w y : ℕ) (s : SpanView) → (live : me.0.live ≡ true) → IsNewlyReady c w → me3.0 ≡ made_view me.0 b c n w y → me3.1 ≡ [] → TookFirst me3 b 0 c w 2 s me4 → ClaimPopped me b c s me4
took_claimed me me3 me4 b c n w y s live ready view car t =
    let e : me4.0 ≡ place_given (popped (made_view me.0 b c n w y) b 0 c w t.to) b t.found = t.view ∙ ap (λ (v : View). place_given (popped v b 0 c w t.to) b t.found) view in
    record {
      same = record { live = ap (λ (v : View). v.live) e ∙ live; geometry = ap (λ (v : View). v.geometry) e; parts = ap (λ (v : View). v.parts) e; outs = ap (λ (v : View). v.vacant) e; claims = ap (λ (v : View). v.claim) e; carried = t.carried ∙ car };
      hand = ap (λ (v : View). v.hand) e;
      clashes = ap (λ (v : View). v.clashes) e;
      from = w;
      to = t.to;
      ready = ready;
      taken = t.taken;
      next = t.next;
      fresh = λ c' h. t.fresh c' (subst (λ (v : View). In (held b 0 c') v.hand) (sym view) h);
      found = t.found;
      loads = ap (λ (v : View). v.loads) e;
      by = y;
      wins = ap (λ (v : View). v.wins) e;
      claimed = ap (λ (v : View). v.claimed) e;
      piece = subst (λ (p : Geometry). IsPiece p b (16 * c * 0) (16 * c) s) (ap (λ (v : View). v.geometry) view) t.piece;
      room = subst (λ (u : View). length u.hand ≤ u.geometry.blocks * 1024) view t.room;
    }

pub lost_claimed : (me me3 me4 : Standing) (b c n w y x : ℕ) → 1 ≤ c → c ≤ 16 → me.0.live ≡ true → me3.0 ≡ made_view me.0 b c n w y → me3.1 ≡ [] → IsNewlyReady c w → x ≢ w → me4 ≡ (clash_noted me3.0 b w x, me3.1) → KnownKeeps me3.0.geometry.most_gen (word_of x) (word_of w) → ClaimLost me b c w x me4
lost_claimed me me3 me4 b c n w y x least most live view car ready ne is k =
    let e : me4.0 ≡ clash_noted (made_view me.0 b c n w y) b w x = ap (λ (m : Standing). m.0) is ∙ ap (λ (v : View). clash_noted v b w x) view in
    let state : (word_of w).state ≡ c = ap (λ (q : NanoWord). q.state) ready in
    let r : IsReady (word_of w) = (omega arith, omega arith) in
    record {
      same = record { live = ap (λ (v : View). v.live) e ∙ live; geometry = ap (λ (v : View). v.geometry) e; parts = ap (λ (v : View). v.parts) e; outs = ap (λ (v : View). v.vacant) e; claims = ap (λ (v : View). v.claim) e; carried = ap (λ (m : Standing). m.1) is ∙ car };
      hand = ap (λ (v : View). v.hand) e;
      clashes = ap (λ (v : View). v.clashes) e;
      loads = ap (λ (v : View). v.loads) e;
      other = ne;
      won = inr (y, ap (λ (v : View). v.wins) e, ap (λ (v : View). v.claimed) e, ready, λ z. let q = k.class_ r in let t : (word_of x).state ≡ 0 = ap (λ (m : ℕ). (word_of m).state) z ∙ zero_state in omega arith);
    }

pub took_loaded : (me me1 me2 me3 : Standing) (more : List Load) (b j c w i l : ℕ) (s : SpanView) → b < me.0.geometry.blocks → j < 1024 → me.0.live ≡ true → me.0.vacant ≡ [] → me.0.claim ≡ [] → me.1 ≡ []
    → OnlyLoaded me.0 me1.0 more → In (load b w) more → IsUsable me.0.geometry c w → (word_of w).next ≡ j + 1 → Skipped me.0.geometry c b 0 more
    → me1.1 ≡ me.1 → me2.0 ≡ link_loaded me1.0 i l → me2.1 ≡ me1.1 → i ≡ me.0.geometry.blocks + b * 1024 + j → TookFirst me2 b j c w l s me3 → Popped me b j c s me3
took_loaded me me1 me2 me3 more b j c w i l s lt few live outs claims car ld has usable first skipped c1 v2 c2 ei t =
    let v2' : me2.0 ≡ after_loads me.0 more ld.seen i l = v2 ∙ ap (λ (v : View). link_loaded v i l) ld.view in
    let e : me3.0 ≡ place_given (popped (after_loads me.0 more ld.seen i l) b j c w t.to) b t.found = t.view ∙ ap (λ (v : View). place_given (popped v b j c w t.to) b t.found) v2' in
    record {
      same = record { live = ap (λ (v : View). v.live) e ∙ live; geometry = ap (λ (v : View). v.geometry) e; parts = ap (λ (v : View). v.parts) e; outs = ap (λ (v : View). v.vacant) e; claims = ap (λ (v : View). v.claim) e ∙ claims; carried = t.carried ∙ (c2 ∙ (c1 ∙ car)) };
      block = lt;
      slot = few;
      inside = t.inside;
      fresh = λ c' h. t.fresh c' (subst (λ (v : View). In (held b j c') v.hand) (sym v2') h);
      hand = ap (λ (v : View). v.hand) e;
      clashes = ap (λ (v : View). v.clashes) e;
      from = w;
      to = t.to;
      usable = usable;
      first = first;
      taken = t.taken;
      more = load b t.found ∷ load i l ∷ more;
      loads = ap (λ (v : View). v.loads) e;
      won = inl (ap (λ (v : View). v.wins) e, ap (λ (v : View). v.claimed) e, inr (inr has), skipped_more me.0.geometry c b 0 (load b t.found) (load i l ∷ more) (skipped_more me.0.geometry c b 0 (load i l) more skipped), inr (inl (ap (λ (k : ℕ). load k (word_of t.to).next) (sym ei) ∙ ap (λ (k : ℕ). load i k) t.next)));
      piece = subst (λ (p : Geometry). IsPiece p b (16 * c * j) (16 * c) s) (ap (λ (v : View). v.geometry) v2') t.piece;
      room = subst (λ (u : View). length u.hand ≤ u.geometry.blocks * 1024) v2' t.room;
    }

pub lost_loaded : (me me1 me2 me3 : Standing) (more : List Load) (b c w i l n : ℕ) → b < me.0.geometry.blocks → me.0.live ≡ true → me.0.vacant ≡ [] → me.0.claim ≡ [] → me.1 ≡ []
    → OnlyLoaded me.0 me1.0 more → In (load b w) more → IsUsable me.0.geometry c w → Skipped me.0.geometry c b 0 more → me1.1 ≡ me.1 → me2.0 ≡ link_loaded me1.0 i l → me2.1 ≡ me1.1 → n ≢ w → me3 ≡ (clash_noted me2.0 b w n, me2.1) → Contends me b c w n me3
lost_loaded me me1 me2 me3 more b c w i l n lt live outs claims car ld has usable skipped c1 v2 c2 ne is =
    let v2' : me2.0 ≡ after_loads me.0 more ld.seen i l = v2 ∙ ap (λ (v : View). link_loaded v i l) ld.view in
    let e : me3.0 ≡ clash_noted (after_loads me.0 more ld.seen i l) b w n = ap (λ (m : Standing). m.0) is ∙ ap (λ (v : View). clash_noted v b w n) v2' in
    record {
      same = record { live = ap (λ (v : View). v.live) e ∙ live; geometry = ap (λ (v : View). v.geometry) e; parts = ap (λ (v : View). v.parts) e; outs = ap (λ (v : View). v.vacant) e ∙ outs; claims = ap (λ (v : View). v.claim) e ∙ claims; carried = ap (λ (m : Standing). m.1) is ∙ (c2 ∙ (c1 ∙ car)) };
      hand = ap (λ (v : View). v.hand) e;
      block = lt;
      clashes = ap (λ (v : View). v.clashes) e;
      other = ne;
      more = load i l ∷ more;
      loads = ap (λ (v : View). v.loads) e;
      won = inl (ap (λ (v : View). v.wins) e, ap (λ (v : View). v.claimed) e, inr has, inl (usable, skipped_more me.0.geometry c b 0 (load i l) more skipped));
    }

pub none_loaded : (me me1 : Standing) (more : List Load) (c : ℕ) → me.0.live ≡ true → me.0.vacant ≡ [] → me.0.claim ≡ [] → me.1 ≡ [] → OnlyLoaded me.0 me1.0 more → me1.1 ≡ me.1
    → InOrder me.0.geometry.blocks more → NoneUsable me.0.geometry c me.0.geometry.blocks me.0.geometry.blocks more → Exhausts me c me1
none_loaded me me1 more c live outs claims car ld c1 order skipped =
    let e = ld.view in
    record {
      same = record { live = ap (λ (v : View). v.live) e ∙ live; geometry = ap (λ (v : View). v.geometry) e; parts = ap (λ (v : View). v.parts) e; outs = ap (λ (v : View). v.vacant) e ∙ outs; claims = ap (λ (v : View). v.claim) e ∙ claims; carried = c1 ∙ car };
      hand = ap (λ (v : View). v.hand) e;
      wins = ap (λ (v : View). v.wins) e;
      claimed = ap (λ (v : View). v.claimed) e;
      clashes = ap (λ (v : View). v.clashes) e;
      more = more;
      loads = ap (λ (v : View). v.loads) e;
      order = order;
      none = λ b l. let t = skipped b l in (t.0, t.1, t.2, λ z. let q = t.3 z in omega arith);
    }

pub popped_loaded : (me me1 me2 : Standing) (more : List Load) (b c : ℕ) (s : SpanView) → 1 ≤ c → c ≤ 16 → 1 ≤ me.0.geometry.most_gen → b < me.0.geometry.blocks
    → OnlyLoaded me.0 me1.0 more → In (load b 0) more → Skipped me.0.geometry c me.0.geometry.blocks b more → ClaimPopped me1 b c s me2 → Popped me b 0 c s me2
popped_loaded me me1 me2 more b c s least most last lt ld has skipped p =
    let e = ld.view in
    let pl : me1.0.geometry ≡ me.0.geometry = ap (λ (v : View). v.geometry) e in
    let wide = slots_least c least most in
    record {
      same = record { live = p.same.live; geometry = p.same.geometry ∙ pl; parts = p.same.parts ∙ ap (λ (v : View). v.parts) e; outs = p.same.outs; claims = p.same.claims; carried = p.same.carried };
      block = lt;
      slot = omega arith;
      inside = omega arith;
      fresh = λ c' h. p.fresh c' (subst (λ (v : View). In (held b 0 c') v.hand) (sym e) h);
      hand = p.hand ∙ ap (λ (v : View). held b 0 c ∷ v.hand) e;
      clashes = p.clashes ∙ ap (λ (v : View). v.clashes) e;
      from = p.from;
      to = p.to;
      usable = record {
        class_ = ap (λ (x : NanoWord). x.state) p.ready;
        free = let f = ap (λ (x : NanoWord). x.free) p.ready in omega arith;
        generation = let g = ap (λ (x : NanoWord). x.generation) p.ready in omega arith;
      };
      first = ap (λ (x : NanoWord). x.next) p.ready;
      taken = p.taken;
      more = load b p.found ∷ more;
      loads = p.loads ∙ ap (λ (v : View). load b p.found ∷ v.loads) e;
      won = inr (
        p.by,
        p.wins ∙ ap (λ (v : View). win b p.from p.to ∷ win b 0 p.by ∷ v.wins) e,
        p.claimed ∙ ap (λ (v : View). b ∷ v.claimed) e,
        p.ready,
        inr has,
        skipped_more me.0.geometry c me.0.geometry.blocks b (load b p.found) more skipped,
        p.next,
      );
      piece = subst (λ (q : Geometry). IsPiece q b (16 * c * 0) (16 * c) s) pl p.piece;
      room = subst (λ (u : View). length u.hand ≤ u.geometry.blocks * 1024) e p.room;
    }

pub lost_claim : (me me1 me2 : Standing) (more : List Load) (b c x n : ℕ) → b < me.0.geometry.blocks → OnlyLoaded me.0 me1.0 more → In (load b 0) more → Skipped me.0.geometry c me.0.geometry.blocks b more → ClaimLost me1 b c x n me2 → Contends me b c x n me2
lost_claim me me1 me2 more b c x n lt ld has skipped p =
    let e = ld.view in
    record {
      same = record { live = p.same.live; geometry = p.same.geometry ∙ ap (λ (v : View). v.geometry) e; parts = p.same.parts ∙ ap (λ (v : View). v.parts) e; outs = p.same.outs; claims = p.same.claims; carried = p.same.carried };
      hand = p.hand ∙ ap (λ (v : View). v.hand) e;
      block = lt;
      clashes = p.clashes ∙ ap (λ (v : View). clash b x n ∷ v.clashes) e;
      other = p.other;
      more = more;
      loads = p.loads ∙ ap (λ (v : View). v.loads) e;
      won = ⊎_elim
          (λ (t : (me2.0.wins ≡ me1.0.wins) × (me2.0.claimed ≡ me1.0.claimed) × (x ≡ 0)). inl (t.0 ∙ ap (λ (v : View). v.wins) e, t.1 ∙ ap (λ (v : View). v.claimed) e, subst (λ (y : ℕ). In (load b y) more) (sym t.2) has, inr (t.2, skipped)))
          (λ (t : (y : ℕ) × (me2.0.wins ≡ win b 0 y ∷ me1.0.wins) × (me2.0.claimed ≡ b ∷ me1.0.claimed) × IsNewlyReady c x × (n ≢ 0)). inr (t.0, t.1 ∙ ap (λ (v : View). win b 0 t.0 ∷ v.wins) e, t.2 ∙ ap (λ (v : View). b ∷ v.claimed) e, t.3, has, t.4, skipped))
          p.won;
    }

pub popped_as : (me me' : Standing) (b b' j j' c : ℕ) (s s' : SpanView) → b' ≡ b → j' ≡ j → s' ≡ s → Popped me b j c s me' → Popped me b' j' c s' me'
popped_as me me' b b' j j' c s s' eb ej es p = subst (λ (x : ℕ). Popped me x j' c s' me') (sym eb) (subst (λ (x : ℕ). Popped me b x c s' me') (sym ej) (subst (λ (x : SpanView). Popped me b j c x me') (sym es) p))
