-- The first slot of a chain goes into a hand.
use Rattle.std.proofs.Common.{◌≡◌, ◌≢◌, ℕ, ◌+◌, ◌-◌, ◌<◌, ◌≤◌, List, [], ◌∷◌, length, refl, sym, ap, ◌∙◌, subst, arith, inl, inr, ⊎_elim}
use Rattle.std.proofs.lemmas.Bool.{cases_eq}
use Rattle.mz_nanoword.specs.declared.word.NanoWord.{NanoWord}
use Rattle.mz_nanoword.specs.Words.{word_of}
use Rattle.mz_nano.specs.declared.view.Geometry.{Geometry}
use Rattle.mz_nano.specs.declared.view.Held.{Held}
use Rattle.mz_nano.specs.declared.view.View.{View}
use Rattle.mz_nano.specs.declared.view.Win.{Win}
use Rattle.mz_nano.specs.Lists.{In, Distinct, Chain}
use Rattle.mz_nano.specs.Rule.{Block, Home, slots, HasSlot, HasRest, Ready, BlockKeeps, KnownKeeps, FirstLinkKeeps, IsReady, SeatKeepsAt, held, vacant, claim}
use Rattle.mz_nano.proofs.RelyLemmas.{Rely}
use Rattle.mz_nano.proofs.SlotSteps.{ready_of, first_in}

module _ (key : Geometry) (b i j0 : ℕ) (z : Block) (x' : NanoWord) (h' : ℕ → Home) (w' : ℕ → ℕ)
    (y : IsReady z.word) (some' : 1 ≤ z.word.next) (first : j0 ≡ z.word.next - 1) (below : z.word.generation < key.most_gen)
    (next' : x'.next ≡ z.links j0) (free' : x'.free ≡ z.word.free - 1) (state' : x'.state ≡ z.word.state) (gen' : x'.generation ≡ z.word.generation + 1)
    (hs : (j : ℕ) → j ≢ j0 → z.homes j ≡ h' j) (ws : (j : ℕ) → j ≢ j0 → z.who j ≡ w' j) (got : w' j0 ≡ i + 1) (ok : BlockKeeps key b z) where
  abbrev pub pop_z : Block
  pop_z = record { word = x'; links = z.links; homes = h'; who = w' }

  pub was_free : z.who j0 ≡ 0
  was_free = let r = ready_of key b z ok y in subst (λ (j : ℕ). z.who j ≡ 0) (sym first) (r.here (z.word.next - 1) (first_in z.links z.word.next r.chain r.links some')).1

  pub was_home : HasSlot key b z.word.state j0 (z.homes j0)
  was_home = let r = ready_of key b z ok y in subst (λ (j : ℕ). HasSlot key b z.word.state j (z.homes j)) (sym first) (r.here (z.word.next - 1) (first_in z.links z.word.next r.chain r.links some')).2

  pub was_inside : j0 < slots z.word.state
  was_inside = let r = ready_of key b z ok y in subst (λ (j : ℕ). j < slots z.word.state) (sym first) (r.here (z.word.next - 1) (first_in z.links z.word.next r.chain r.links some')).0

  other : (x j : ℕ) → z.who j ≡ x + 1 → j ≢ j0
  other x j w e = let t : z.who j ≡ z.who j0 = ap z.who e in let u = was_free in absurd (omega arith)

  not_got : (j : ℕ) → w' j ≡ 0 → j ≢ j0
  not_got j w e = let t : w' j ≡ w' j0 = ap w' e in absurd (omega arith)

  pop_ready : (chain : List ℕ) → Chain z.links z.word.next chain → z.word.free ≡ length chain → Distinct chain
      → ((j : ℕ) → z.who j ≢ 0 → j < slots z.word.state)
      → ((j : ℕ) → In j chain → (j < slots z.word.state) × (z.who j ≡ 0) × HasSlot key b z.word.state j (z.homes j))
      → ((j : ℕ) → j < slots z.word.state → z.who j ≡ 0 → In j chain)
      → HasRest key b z.word.state (z.homes (slots z.word.state))
      → Ready key b record { word = record x' { state = z.word.state }; links = z.links; homes = h'; who = w' }
  pop_ready [] c f d inside here full rest = absurd (omega arith)
  pop_ready (x ∷ xs) c f d inside here full rest =
      let e = c.0 in
      let same : x ≡ j0 = omega arith in
      let lt = was_inside in
      let apart : (j : ℕ) → In j xs → j ≢ j0 = λ j h q. d.0 (subst (λ (k : ℕ). In k xs) (q ∙ sym same) h) in
      record {
        least = y.0;
        most = y.1;
        chain = xs;
        links = subst (λ (k : ℕ). Chain z.links k xs) (ap z.links same ∙ sym next') c.1;
        free = let n = f in omega arith;
        distinct = d.1;
        inside = λ j n. ⊎_elim (λ (q : j ≡ j0). omega arith) (λ (q : j ≡ j0 → ⊥). inside j (λ t. n (sym (ws j q) ∙ t))) (cases_eq j j0);
        here = λ j h. let t = here j (inr h) in let q = apart j h in (t.0, sym (ws j q) ∙ t.1, subst (HasSlot key b z.word.state j) (hs j q) t.2);
        full = λ j l w. let q = not_got j w in ⊎_elim (λ (p : j ≡ x). absurd (q (p ∙ same))) (λ (p : In j xs). p) (full j l (ws j q ∙ w));
        rest = subst (HasRest key b z.word.state) (hs (slots z.word.state) (λ q. absurd (omega arith))) rest;
      }

  pub pop_block : BlockKeeps key b pop_z
  pop_block =
      let r = ready_of key b z ok y in
      let same : pop_z ≡ record { word = record x' { state = z.word.state }; links = z.links; homes = h'; who = w' } =
      λ k. record { word = record { next = x'.next; free = x'.free; state = state' k; generation = x'.generation }; links = z.links; homes = h'; who = w' } in
      record { gen = omega arith; small = ok.small; kind = inr (inr (subst (Ready key b) (sym same) (pop_ready r.chain r.links r.free r.distinct r.inside r.here r.full r.rest))) }

  pub pop_knows : (k : NanoWord) → KnownKeeps key.most_gen z.word k → KnownKeeps key.most_gen x' k
  pop_knows k t = let o = t.older in record { older = omega arith; class_ = λ r. state' ∙ t.class_ r; same = λ r g l. absurd (omega arith) }

  pub pop_sure : (k : NanoWord) (l : ℕ) → FirstLinkKeeps key.most_gen z k l → FirstLinkKeeps key.most_gen pop_z k l
  pop_sure k l t = let o = t.known.older in record { known = pop_knows k t.known; link = λ r n g lt. absurd (omega arith) }

  pub pop_rely : (x : ℕ) → x ≢ i → Rely key b x z pop_z
  pop_rely x n =
      let back : (j : ℕ) → w' j ≡ x + 1 → j ≢ j0 = λ j w e. let t : w' j ≡ w' j0 = ap w' e in n (omega arith) in
      record {
        who = λ j w. sym (ws j (other x j w)) ∙ w;
        homes = λ j w. hs j (other x j w);
        links = λ j w. refl;
        state = λ j w r. sym state';
        back = λ j w. ws j (back j w) ∙ w;
        knows = pop_knows;
        first_links = pop_sure;
        claim = λ c k t. let u = t.state in let v = y.1 in absurd (omega arith);
        ever = λ h e. h (sym state' ∙ e);
      }

  abbrev pub popped : View → List Win → View
  popped v wins = record v { hand = held b j0 z.word.state ∷ v.hand; vacant = vacant b j0 ∷ []; stored = []; wins = wins }

  pub pop_seat : (v : View) (wins : List Win) → v.vacant ≡ [] → SeatKeepsAt key i v b z → SeatKeepsAt key i (popped v wins) b pop_z
  pop_seat v wins outs s =
      let ready' : IsReady x' = (let t = y.0 in omega arith, let t = y.1 in omega arith) in
      record {
        hand = λ j c h. ⊎_elim
            (λ (q : held b j c ≡ held b j0 z.word.state).
            let qj : j ≡ j0 = ap (λ (o : Held). o.slot) q in
            record { who = ap w' qj ∙ got; state = state' ∙ ap (λ (o : Held). o.class) (sym q); ready = ready'; bare = λ t. absurd (t (inl (ap (vacant b) qj))) })
            (λ (q : In (held b j c) v.hand). let p = s.hand j c q in let ne = other i j p.who in
            record { who = sym (ws j ne) ∙ p.who; state = state' ∙ p.state; ready = ready'; bare = λ t. sym (hs j ne) ∙ p.bare (λ u. subst (In (vacant b j)) outs u) })
            h;
        mine = λ j w. ⊎_elim
            (λ (q : j ≡ j0). inl (z.word.state, inl (ap (λ (n : ℕ). held b n z.word.state) q)))
            (λ (q : j ≡ j0 → ⊥). ⊎_elim (λ (t : (c : ℕ) × In (held b j c) v.hand). inl (t.0, inr t.1)) (λ (t : (c : ℕ) × (k : ℕ) × In (claim b c k) v.claim). inr t) (s.mine j (ws j q ∙ w)))
            (cases_eq j j0);
        knows = λ w h. pop_knows (word_of w) (s.knows w h);
        first_links = λ w l h. pop_sure (word_of w) l (s.first_links w l h);
        stored = λ j l h w. absurd h;
        claim = λ c k h. let u = (s.claim c k h).state in let t = y.1 in absurd (omega arith);
        ever = λ h e. s.ever h (sym state' ∙ e);
      }
