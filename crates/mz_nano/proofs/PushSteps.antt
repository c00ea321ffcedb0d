-- A slot of a hand goes onto the chain.
use Rattle.std.proofs.Common.{◌≡◌, ◌≢◌, ℕ, ◌+◌, ◌<◌, ◌≤◌, List, [], ◌∷◌, refl, sym, ap, ◌∙◌, subst, arith, inl, inr, ⊎_elim}
use Rattle.std.proofs.lemmas.Bool.{cases_eq}
use Rattle.mz_nanoword.specs.declared.word.NanoWord.{NanoWord}
use Rattle.mz_nanoword.specs.Words.{word_of}
use Rattle.mz_nano.specs.declared.view.Geometry.{Geometry}
use Rattle.mz_nano.specs.declared.view.Vacant.{Vacant}
use Rattle.mz_nano.specs.declared.view.View.{View}
use Rattle.mz_nano.specs.declared.view.Win.{Win}
use Rattle.mz_nano.specs.Lists.{In, Chain, without}
use Rattle.mz_nano.specs.Rule.{Block, Home, slots, HasSlot, HasRest, Ready, BlockKeeps, KnownKeeps, FirstLinkKeeps, IsReady, SeatKeepsAt, held, vacant, claim}
use Rattle.mz_nano.proofs.MemberLemmas.{in_without, without_in}
use Rattle.mz_nano.proofs.RelyLemmas.{Rely}
use Rattle.mz_nano.proofs.SlotSteps.{ready_of}

module _ (key : Geometry) (b i j0 : ℕ) (z : Block) (x' : NanoWord) (h' : ℕ → Home) (w' : ℕ → ℕ)
    (y : IsReady z.word) (mine : z.who j0 ≡ i + 1)
    (next' : x'.next ≡ j0 + 1) (free' : x'.free ≡ z.word.free + 1) (state' : x'.state ≡ z.word.state)
    (gen' : z.word.generation ≤ x'.generation) (most' : x'.generation ≤ key.most_gen) (rises : x'.generation < key.most_gen → x'.generation ≡ z.word.generation + 1)
    (link : z.links j0 ≡ z.word.next) (home : HasSlot key b z.word.state j0 (h' j0))
    (hs : (j : ℕ) → j ≢ j0 → z.homes j ≡ h' j) (ws : (j : ℕ) → j ≢ j0 → z.who j ≡ w' j) (gone : w' j0 ≡ 0) (ok : BlockKeeps key b z) where
  abbrev pub push_z : Block
  push_z = record { word = x'; links = z.links; homes = h'; who = w' }

  not_gone : (x j : ℕ) → w' j ≡ x + 1 → j ≢ j0
  not_gone x j w e = let t : w' j ≡ w' j0 = ap w' e in absurd (omega arith)

  push_ready : Ready key b record { word = record x' { next = j0 + 1; state = z.word.state }; links = z.links; homes = h'; who = w' }
  push_ready =
      let r = ready_of key b z ok y in
      let lt : j0 < slots z.word.state = r.inside j0 (λ e. absurd (omega arith)) in
      let apart : (j : ℕ) → z.who j ≡ 0 → j ≢ j0 = λ j w e. let t : z.who j ≡ z.who j0 = ap z.who e in absurd (omega arith) in
      record {
        least = y.0;
        most = y.1;
        chain = j0 ∷ r.chain;
        links = (refl, subst (λ (k : ℕ). Chain z.links k r.chain) (sym link) r.links);
        free = let n = r.free in omega arith;
        distinct = ((λ h. apart j0 (r.here j0 h).1 refl), r.distinct);
        inside = λ j n. ⊎_elim (λ (q : j ≡ j0). omega arith) (λ (q : j ≡ j0 → ⊥). r.inside j (λ t. n (sym (ws j q) ∙ t))) (cases_eq j j0);
        here = λ j h. ⊎_elim
            (λ (q : j ≡ j0). (omega arith, ap w' q ∙ gone, subst (λ (k : ℕ). HasSlot key b z.word.state k (h' k)) (sym q) home))
            (λ (p : In j r.chain). let t = r.here j p in let q = apart j t.1 in (t.0, sym (ws j q) ∙ t.1, subst (HasSlot key b z.word.state j) (hs j q) t.2))
            h;
        full = λ j l w. ⊎_elim (λ (q : j ≡ j0). inl q) (λ (q : j ≡ j0 → ⊥). inr (r.full j l (ws j q ∙ w))) (cases_eq j j0);
        rest = subst (HasRest key b z.word.state) (hs (slots z.word.state) (λ q. absurd (omega arith))) r.rest;
      }

  pub push_block : BlockKeeps key b push_z
  push_block =
      let same : push_z ≡ record { word = record x' { next = j0 + 1; state = z.word.state }; links = z.links; homes = h'; who = w' } =
      λ k. record { word = record { next = next' k; free = x'.free; state = state' k; generation = x'.generation }; links = z.links; homes = h'; who = w' } in
      record { gen = most'; small = ok.small; kind = inr (inr (subst (Ready key b) (sym same) push_ready)) }

  pub push_knows : (k : NanoWord) → KnownKeeps key.most_gen z.word k → KnownKeeps key.most_gen x' k
  push_knows k t = let o = t.older in record { older = omega arith; class_ = λ r. state' ∙ t.class_ r; same = λ r g l. let u : x'.generation < key.most_gen = omega arith in let v = rises u in absurd (omega arith) }

  pub push_sure : (k : NanoWord) (l : ℕ) → FirstLinkKeeps key.most_gen z k l → FirstLinkKeeps key.most_gen push_z k l
  push_sure k l t = let o = t.known.older in record { known = push_knows k t.known; link = λ r n g lt. let u : x'.generation < key.most_gen = omega arith in let v = rises u in absurd (omega arith) }

  other : (x j : ℕ) → x ≢ i → z.who j ≡ x + 1 → j ≢ j0
  other x j n w e = let t : z.who j ≡ z.who j0 = ap z.who e in n (omega arith)

  pub push_rely : (x : ℕ) → x ≢ i → Rely key b x z push_z
  push_rely x n = record {
    who = λ j w. sym (ws j (other x j n w)) ∙ w;
    homes = λ j w. hs j (other x j n w);
    links = λ j w. refl;
    state = λ j w r. sym state';
    back = λ j w. ws j (not_gone x j w) ∙ w;
    knows = push_knows;
    first_links = push_sure;
    claim = λ c k t. let u = t.state in let v = y.1 in absurd (omega arith);
    ever = λ h e. h (sym state' ∙ e);
  }

  abbrev pub pushed : View → List Win → View
  pushed v wins = record v { hand = without b j0 v.hand; vacant = []; stored = []; wins = wins }

  pub push_seat : (v : View) (wins : List Win) → v.vacant ≡ vacant b j0 ∷ [] → SeatKeepsAt key i v b z → SeatKeepsAt key i (pushed v wins) b push_z
  push_seat v wins outs s =
      let ready' : IsReady x' = (let t = y.0 in omega arith, let t = y.1 in omega arith) in
      record {
        hand = λ j c h.
            let q = in_without b j0 (held b j c) v.hand h in
            let ne : j ≢ j0 = λ e. q.1 (refl, e) in
            let p = s.hand j c q.0 in
            record {
              who = sym (ws j ne) ∙ p.who;
              state = state' ∙ p.state;
              ready = ready';
              bare = λ t. sym (hs j ne) ∙ p.bare (λ u. let o : In (vacant b j) (vacant b j0 ∷ []) = subst (In (vacant b j)) outs u in ⊎_elim (λ (g : vacant b j ≡ vacant b j0). ne (ap (λ (o : Vacant). o.slot) g)) (λ (g : ⊥). g) o);
            };
        mine = λ j w. let ne = not_gone i j w in
            ⊎_elim (λ (t : (c : ℕ) × In (held b j c) v.hand). inl (t.0, without_in b j0 (held b j t.0) v.hand (λ e. ne e.1) t.1)) (λ (t : (c : ℕ) × (k : ℕ) × In (claim b c k) v.claim). inr t) (s.mine j (ws j ne ∙ w));
        knows = λ w h. push_knows (word_of w) (s.knows w h);
        first_links = λ w l h. push_sure (word_of w) l (s.first_links w l h);
        stored = λ j l h w. absurd h;
        claim = λ c k h. let u = (s.claim c k h).state in let t = y.1 in absurd (omega arith);
        ever = λ h e. s.ever h (sym state' ∙ e);
      }
