-- What each step does to its block, to the seat that makes it and to the others.
use Rattle.std.proofs.Common.{◌≡◌, ◌≢◌, ℕ, ◌+◌, ◌-◌, ◌<◌, ◌≤◌, ◌⊎◌, List, [], ◌∷◌, refl, sym, ap, ◌∙◌, subst, arith, inl, inr, ⊎_elim, div-le_self}
use Rattle.std.proofs.lemmas.Bool.{cases_eq}
use Rattle.mz_nanoword.specs.declared.word.NanoWord.{NanoWord}
use Rattle.mz_nanoword.specs.Words.{word_of}
use Rattle.mz_nano.specs.declared.view.Geometry.{Geometry}
use Rattle.mz_nano.specs.declared.view.Vacant.{Vacant}
use Rattle.mz_nano.specs.declared.view.StoredLink.{StoredLink}
use Rattle.mz_nano.specs.declared.view.View.{View}
use Rattle.mz_nano.specs.Lists.{In, Chain}
use Rattle.mz_nano.specs.Rule.{Block, Home, slots, HasSlot, HasRest, IsBare, Unassigned, BeingClaimed, Ready, BlockKeeps, KnownKeeps, FirstLinkKeeps, IsReady, SeatKeepsAt, held, vacant, known, known_link, stored, claim}
use Rattle.mz_nano.proofs.MemberLemmas.{chain_frame}
use Rattle.mz_nano.proofs.RelyLemmas.{Rely}

pub zero_state : (word_of 0).state ≡ 0
unfolding word_of
zero_state = refl

pub zero_gen : (word_of 0).generation ≡ 0
unfolding word_of
zero_gen = refl

pub slots_most : (c : ℕ) → slots c ≤ 1024
unfolding slots
slots_most c = div-le_self 1024 c

pub ready_of : (key : Geometry) (b : ℕ) (z : Block) → BlockKeeps key b z → IsReady z.word → Ready key b z
ready_of key b z k y = ⊎_elim
    (λ (f : Unassigned key b z). let e : z.word.state ≡ 0 = ap (λ (w : NanoWord). w.state) f.word ∙ zero_state in let t = y.0 in absurd (omega arith))
    (λ (f : BeingClaimed z ⊎ Ready key b z). ⊎_elim (λ (g : BeingClaimed z). let e = g.state in let t = y.1 in absurd (omega arith)) (λ (g : Ready key b z). g) f)
    k.kind

pub first_in : (links : ℕ → ℕ) (n : ℕ) (xs : List ℕ) → Chain links n xs → 1 ≤ n → In (n - 1) xs
first_in links n [] c l = absurd (omega arith)
first_in links n (x ∷ xs) c l = let e = c.0 in inl (omega arith)

pub knows_present : (G : ℕ) (x y : NanoWord) → x ≡ y → KnownKeeps G x y
knows_present G x y e = record { older = let g : x.generation ≡ y.generation = ap (λ (w : NanoWord). w.generation) e in omega arith; class_ = λ r. ap (λ (w : NanoWord). w.state) e; same = λ r g l. e }

-- the first slot of a known word that is the present one is nobody's
pub first_free : (key : Geometry) (b : ℕ) (z : Block) (y : NanoWord) → BlockKeeps key b z → KnownKeeps key.most_gen z.word y → IsReady y → 1 ≤ y.next → y.generation ≡ z.word.generation → y.generation < key.most_gen → z.who (y.next - 1) ≡ 0
first_free key b z y ok k r n g l =
    let e : z.word ≡ y = k.same r g l in
    let r' : IsReady z.word = subst IsReady (sym e) r in
    let w = ready_of key b z ok r' in
    subst (λ (x : NanoWord). z.who (x.next - 1) ≡ 0) e (w.here (z.word.next - 1) (first_in z.links z.word.next w.chain w.links (subst (λ (x : NanoWord). 1 ≤ x.next) (sym e) n))).1

module _ (key : Geometry) (b i j0 : ℕ) (z : Block) (l' : ℕ → ℕ) (h' : ℕ → Home) (mine : z.who j0 ≡ i + 1)
    (ls : (j : ℕ) → j ≢ j0 → z.links j ≡ l' j) (hs : (j : ℕ) → j ≢ j0 → z.homes j ≡ h' j) (tiny : l' j0 ≤ 1024) (ok : BlockKeeps key b z) where
  abbrev pub slot_z : Block
  slot_z = record { word = z.word; links = l'; homes = h'; who = z.who }

  not_mine : (x j : ℕ) → x ≢ i → z.who j ≡ x + 1 → j ≢ j0
  not_mine x j n w e = let t : z.who j ≡ z.who j0 = ap z.who e in n (omega arith)

  free_not : (j : ℕ) → z.who j ≡ 0 → j ≢ j0
  free_not j w e = let t : z.who j ≡ z.who j0 = ap z.who e in absurd (omega arith)

  pub slot_block : IsReady z.word → BlockKeeps key b slot_z
  slot_block y =
      let r = ready_of key b z ok y in
      let inside : j0 < slots z.word.state = r.inside j0 (λ e. absurd (omega arith)) in
      record {
        gen = ok.gen;
        small = λ j. ⊎_elim (λ (e : j ≡ j0). subst (λ (x : ℕ). l' x ≤ 1024) (sym e) tiny) (λ (e : j ≡ j0 → ⊥). let t = ls j e in let u = ok.small j in omega arith) (cases_eq j j0);
        kind = inr (inr record {
          least = r.least;
          most = r.most;
          chain = r.chain;
          links = chain_frame z.links l' z.word.next r.chain (λ j h. ls j (free_not j (r.here j h).1)) r.links;
          free = r.free;
          distinct = r.distinct;
          inside = r.inside;
          here = λ j h. let t = r.here j h in (t.0, t.1, subst (HasSlot key b z.word.state j) (hs j (free_not j t.1)) t.2);
          full = r.full;
          rest = subst (HasRest key b z.word.state) (hs (slots z.word.state) (λ e. absurd (omega arith))) r.rest;
        });
      }

  pub slot_sure : (y : NanoWord) (l : ℕ) → FirstLinkKeeps key.most_gen z y l → FirstLinkKeeps key.most_gen slot_z y l
  slot_sure y l s = record { known = s.known; link = λ r n g lt. sym (ls (y.next - 1) (free_not (y.next - 1) (first_free key b z y ok s.known r n g lt))) ∙ s.link r n g lt }

  pub slot_rely : (x : ℕ) → x ≢ i → Rely key b x z slot_z
  slot_rely x n = record {
    who = λ j w. w;
    homes = λ j w. hs j (not_mine x j n w);
    links = λ j w. ls j (not_mine x j n w);
    state = λ j w r. refl;
    back = λ j w. w;
    knows = λ y k. k;
    first_links = slot_sure;
    claim = λ c k t. let w = t.who j0 in absurd (n (omega arith));
    ever = λ h. h;
  }

  -- the seat gives back its place
  pub settles_seat : (v : View) → IsReady z.word → v.vacant ≡ vacant b j0 ∷ [] → IsBare (h' j0) → ((j : ℕ) → z.links j ≡ l' j) → (v' : View) → v'.hand ≡ v.hand → v'.vacant ≡ [] → v'.known ≡ v.known → v'.first_links ≡ v.first_links → v'.stored ≡ v.stored → v'.claim ≡ v.claim → v'.claimed ≡ v.claimed
      → SeatKeepsAt key i v b z → SeatKeepsAt key i v' b slot_z
  settles_seat v y outs bare same v' e1 e2 e3 e4 e5 e6 e7 s = record {
    hand = λ j c h. let p = s.hand j c (subst (In (held b j c)) e1 h) in record {
      who = p.who;
      state = p.state;
      ready = p.ready;
      bare = λ n. ⊎_elim (λ (e : j ≡ j0). subst (λ (x : ℕ). IsBare (h' x)) (sym e) bare)
          (λ (e : j ≡ j0 → ⊥). sym (hs j e) ∙ p.bare (λ t. let u : In (vacant b j) (vacant b j0 ∷ []) = subst (In (vacant b j)) outs t in ⊎_elim (λ (q : vacant b j ≡ vacant b j0). e (ap (λ (o : Vacant). o.slot) q)) (λ (q : ⊥). q) u))
          (cases_eq j j0);
    };
    mine = λ j w. ⊎_elim (λ (t : (c : ℕ) × In (held b j c) v.hand). inl (t.0, subst (In (held b j t.0)) (sym e1) t.1)) (λ (t : (c : ℕ) × (k : ℕ) × In (claim b c k) v.claim). inr (t.0, t.1, subst (In (claim b t.0 t.1)) (sym e6) t.2)) (s.mine j w);
    knows = λ w h. s.knows w (subst (In (known b w)) e3 h);
    first_links = λ w l h. slot_sure (word_of w) l (s.first_links w l (subst (In (known_link b w l)) e4 h));
    stored = λ j l h w. sym (same j) ∙ s.stored j l (subst (In (stored b j l)) e5 h) w;
    claim = λ c k h. let t = (s.claim c k (subst (In (claim b c k)) e6 h)).state in let u = y.1 in absurd (omega arith);
    ever = λ h. s.ever (subst (In b) e7 h);
  }

  -- the seat stores the link of a slot in its hand, and takes its place
  pub link_seat : (v : View) (n : ℕ) → IsReady z.word → v.vacant ≡ [] → l' j0 ≡ n → SeatKeepsAt key i v b z → SeatKeepsAt key i record v { vacant = vacant b j0 ∷ []; stored = stored b j0 n ∷ [] } b slot_z
  link_seat v n y outs is s = record {
    hand = λ j c h. let p = s.hand j c h in record {
      who = p.who;
      state = p.state;
      ready = p.ready;
      bare = λ t. sym (hs j (λ e. t (inl (ap (vacant b) e)))) ∙ p.bare (λ q. subst (In (vacant b j)) outs q);
    };
    mine = s.mine;
    knows = s.knows;
    first_links = λ w l h. slot_sure (word_of w) l (s.first_links w l h);
    stored = λ j l h w. ⊎_elim (λ (q : stored b j l ≡ stored b j0 n). ap l' (ap (λ (o : StoredLink). o.slot) q) ∙ (is ∙ ap (λ (o : StoredLink). o.link) (sym q))) (λ (q : ⊥). absurd q) h;
    claim = λ c k h. let t = (s.claim c k h).state in let u = y.1 in absurd (omega arith);
    ever = s.ever;
  }
