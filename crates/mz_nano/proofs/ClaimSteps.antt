-- A block is claimed, cut into slots and made ready.
use Rattle.std.proofs.Common.{◌≡◌, ◌≢◌, ℕ, ◌+◌, ◌-◌, ◌*◌, ◌<◌, ◌≤◌, Bool, if◌then◌else◌, List, [], ◌∷◌, length, refl, sym, ap, ◌∙◌, subst, arith, inl, inr, ⊎_elim, zero, suc, lt-ltb, le-ltb, le-div_iff_mul-le, div-add-mod', mul_comm, ◌/◌}
use Rattle.std.proofs.lemmas.Bool.{cases_eq, cases_lt}
use Rattle.mz_nanoword.specs.declared.word.NanoWord.{NanoWord}
use Rattle.mz_nanoword.specs.Words.{word_of}
use Rattle.mz_nano.specs.declared.view.Geometry.{Geometry}
use Rattle.mz_nano.specs.declared.view.Known.{Known}
use Rattle.mz_nano.specs.declared.view.KnownLink.{KnownLink}
use Rattle.mz_nano.specs.declared.view.Claim.{Claim}
use Rattle.mz_nano.specs.declared.view.View.{View}
use Rattle.mz_nano.specs.declared.view.Win.{Win}
use Rattle.mz_nano.specs.Lists.{In, Distinct, Chain}
use Rattle.mz_nano.specs.Rule.{Block, Home, slots, HasSlot, HasRest, Unassigned, Ready, BlockKeeps, KnownKeeps, FirstLinkKeeps, ClaimKeeps, SeatKeepsAt, fresh_link, vacant, known, known_link, claim}
use Rattle.mz_nano.proofs.RelyLemmas.{Rely}
use Rattle.mz_nano.proofs.SlotSteps.{zero_state, zero_gen, knows_present, slots_most}

pub fresh_more : (c j : ℕ) → j + 1 < slots c → fresh_link c j ≡ j + 2
fresh_more c j l = ap (λ (t : Bool). if t then j + 2 else 0) (lt-ltb (j + 1) (slots c) l)

fresh_last : (c j : ℕ) → slots c ≤ j + 1 → fresh_link c j ≡ 0
fresh_last c j l = ap (λ (t : Bool). if t then j + 2 else 0) (le-ltb (j + 1) (slots c) l)

pub fresh_small : (c j : ℕ) → fresh_link c j ≤ 1024
fresh_small c j = let m = slots_most c in ⊎_elim
    (λ (l : j + 1 < slots c). let e = fresh_more c j l in omega arith)
    (λ (l : slots c ≤ j + 1). let e = fresh_last c j l in omega arith)
    (cases_lt (j + 1) (slots c))

-- the claim
module _ (key : Geometry) (b i c : ℕ) (z : Block) (x' : NanoWord) (h' : ℕ → Home) (w' : ℕ → ℕ)
    (tiny : (j : ℕ) → z.links j ≤ 1024) (fresh : Unassigned key b z) (least : 1 ≤ c) (most : c ≤ 16)
    (state' : x'.state ≡ 17) (gen' : x'.generation ≡ 0)
    (hs : (j : ℕ) → j ≢ 0 → z.homes j ≡ h' j) (ws : (j : ℕ) → w' j ≡ i + 1) where
  abbrev pub claim_z : Block
  claim_z = record { word = x'; links = z.links; homes = h'; who = w' }

  was_state : z.word.state ≡ 0
  was_state = ap (λ (w : NanoWord). w.state) fresh.word ∙ zero_state

  was_gen : z.word.generation ≡ 0
  was_gen = ap (λ (w : NanoWord). w.generation) fresh.word ∙ zero_gen

  pub claim_block : BlockKeeps key b claim_z
  claim_block = record { gen = omega arith; small = tiny; kind = inr (inl record { state = state'; by = i; who = ws }) }

  pub claim_knows : (k : NanoWord) → KnownKeeps key.most_gen z.word k → KnownKeeps key.most_gen x' k
  claim_knows k t =
      let o = t.older in let g = was_gen in let s = was_state in
      record { older = omega arith; class_ = λ r. let e = t.class_ r in let l = r.0 in absurd (omega arith); same = λ r g l. let e = t.class_ r in let l = r.0 in absurd (omega arith) }

  pub claim_sure : (k : NanoWord) (l : ℕ) → FirstLinkKeeps key.most_gen z k l → FirstLinkKeeps key.most_gen claim_z k l
  claim_sure k l t = let s = was_state in record { known = claim_knows k t.known; link = λ r n g lt. let e = t.known.class_ r in let u = r.0 in absurd (omega arith) }

  pub claim_rely : (x : ℕ) → x ≢ i → Rely key b x z claim_z
  claim_rely x n =
      let no : (j : ℕ) → z.who j ≡ x + 1 → ⊥ = λ j w. let t = fresh.who j in absurd (omega arith) in
      record {
        who = λ j w. absurd (no j w);
        homes = λ j w. absurd (no j w);
        links = λ j w. refl;
        state = λ j w r. absurd (no j w);
        back = λ j w. let t = ws j in absurd (n (omega arith));
        knows = claim_knows;
        first_links = claim_sure;
        claim = λ d k t. let u = t.state in let v = was_state in absurd (omega arith);
        ever = λ h. absurd (h was_state);
      }

  abbrev pub claims : View → List Win → View
  claims v wins = record v { claim = claim b c 0 ∷ []; claimed = b ∷ v.claimed; vacant = vacant b 0 ∷ []; stored = []; wins = wins }

  pub claim_seat : (v : View) (wins : List Win) → SeatKeepsAt key i v b z → SeatKeepsAt key i (claims v wins) b claim_z
  claim_seat v wins s =
      record {
        hand = λ j d h. let p = (s.hand j d h).who in let t = fresh.who j in absurd (omega arith);
        mine = λ j w. inr (c, 0, inl refl);
        knows = λ w h. claim_knows (word_of w) (s.knows w h);
        first_links = λ w l h. claim_sure (word_of w) l (s.first_links w l h);
        stored = λ j l h w. absurd h;
        claim = λ d k h. ⊎_elim
            (λ (q : claim b d k ≡ claim b c 0).
            let ed : d ≡ c = ap (λ (o : Claim). o.class) q in
            let ek : k ≡ 0 = ap (λ (o : Claim). o.cut) q in
            record {
              state = state';
              gen = gen';
              least = omega arith;
              most = omega arith;
              cut = omega arith;
              who = ws;
              done = λ j l. absurd (omega arith);
              bare = λ j l m. sym (hs j (λ e. omega arith)) ∙ fresh.bare j (omega arith) m;
            })
            (λ (q : ⊥). absurd q) h;
        ever = λ h e. absurd (omega arith);
      }

-- one more slot
module _ (key : Geometry) (b i c k : ℕ) (z : Block) (l' : ℕ → ℕ) (h' : ℕ → Home)
    (own : ClaimKeeps key i b c k z) (more : k < slots c)
    (link : l' k ≡ fresh_link c k) (home : HasSlot key b c k (h' k))
    (ls : (j : ℕ) → j ≢ k → z.links j ≡ l' j) (hs : (j : ℕ) → j ≢ k → j ≢ k + 1 → z.homes j ≡ h' j) (ok : BlockKeeps key b z) where
  abbrev pub cut_z : Block
  cut_z = record { word = z.word; links = l'; homes = h'; who = z.who }

  pub cut_block : BlockKeeps key b cut_z
  cut_block = record { gen = ok.gen; small = λ j. ⊎_elim (λ (e : j ≡ k). subst (λ (x : ℕ). l' x ≤ 1024) (sym e) (subst (λ (n : ℕ). n ≤ 1024) (sym link) (fresh_small c k))) (λ (e : j ≡ k → ⊥). let t = ls j e in let u = ok.small j in omega arith) (cases_eq j k); kind = inr (inl record { state = own.state; by = i; who = own.who }) }

  pub cut_sure : (y : NanoWord) (l : ℕ) → FirstLinkKeeps key.most_gen z y l → FirstLinkKeeps key.most_gen cut_z y l
  cut_sure y l t = let s = own.state in record { known = t.known; link = λ r n g lt. let e = t.known.class_ r in let u = r.1 in absurd (omega arith) }

  pub cut_rely : (x : ℕ) → x ≢ i → Rely key b x z cut_z
  cut_rely x n =
      let no : (j : ℕ) → z.who j ≡ x + 1 → ⊥ = λ j w. let t = own.who j in n (omega arith) in
      record {
        who = λ j w. w;
        homes = λ j w. absurd (no j w);
        links = λ j w. absurd (no j w);
        state = λ j w r. refl;
        back = λ j w. w;
        knows = λ y k. k;
        first_links = cut_sure;
        claim = λ d k t. absurd (no 0 (t.who 0));
        ever = λ h. h;
      }

  abbrev pub cuts : View → View
  cuts v = record v { claim = claim b c (k + 1) ∷ []; vacant = vacant b (k + 1) ∷ []; stored = [] }

  pub cut_seat : (v : View) → SeatKeepsAt key i v b z → SeatKeepsAt key i (cuts v) b cut_z
  cut_seat v s =
      let st = own.state in
      record {
        hand = λ j d h. let p = (s.hand j d h).ready in let t = p.1 in absurd (omega arith);
        mine = λ j w. inr (c, k + 1, inl refl);
        knows = s.knows;
        first_links = λ w l h. cut_sure (word_of w) l (s.first_links w l h);
        stored = λ j l h w. absurd h;
        claim = λ d m h. ⊎_elim
            (λ (q : claim b d m ≡ claim b c (k + 1)).
            let ed : c ≡ d = ap (λ (o : Claim). o.class) (sym q) in
            let em : k + 1 ≡ m = ap (λ (o : Claim). o.cut) (sym q) in
            subst (λ (x : ℕ). ClaimKeeps key i b x m cut_z) ed (subst (λ (x : ℕ). ClaimKeeps key i b c x cut_z) em record {
              state = own.state;
              gen = own.gen;
              least = own.least;
              most = own.most;
              cut = omega arith;
              who = own.who;
              done = λ j l. ⊎_elim
                  (λ (e : j ≡ k). subst (λ (x : ℕ). (l' x ≡ fresh_link c x) × HasSlot key b c x (h' x)) (sym e) (link, home))
                  (λ (e : j ≡ k → ⊥). let t = own.done j (omega arith) in (sym (ls j e) ∙ t.0, subst (HasSlot key b c j) (hs j e (λ y. absurd (omega arith))) t.1))
                  (cases_eq j k);
              bare = λ j l m'. sym (hs j (λ y. absurd (omega arith)) (λ y. absurd (omega arith))) ∙ own.bare j (omega arith) m';
            }))
            (λ (q : ⊥). absurd q) h;
        ever = s.ever;
      }

-- count numbers, from k on
ups : ℕ → ℕ → List ℕ
ups k zero = []
ups k (suc n) = k ∷ ups (k + 1) n

ups_in : (j k n : ℕ) → k ≤ j → j < k + n → In j (ups k n)
unfolding ups
ups_in j k zero l h = absurd (omega arith)
ups_in j k (suc n) l h = ⊎_elim (λ (e : j ≡ k). inl e) (λ (e : j ≡ k → ⊥). inr (ups_in j (k + 1) n (omega arith) (omega arith))) (cases_eq j k)

in_ups : (j k n : ℕ) → In j (ups k n) → (k ≤ j) × (j < k + n)
unfolding ups
in_ups j k zero h = absurd h
in_ups j k (suc n) h = ⊎_elim (λ (e : j ≡ k). (omega arith, omega arith)) (λ (t : In j (ups (k + 1) n)). let r = in_ups j (k + 1) n t in (let a = r.0 in omega arith, let a = r.1 in omega arith)) h

ups_distinct : (k n : ℕ) → Distinct (ups k n)
unfolding ups
ups_distinct k zero = tt
ups_distinct k (suc n) = ((λ h. let r = (in_ups k (k + 1) n h).0 in absurd (omega arith)), ups_distinct (k + 1) n)

ups_length : (k n : ℕ) → length (ups k n) ≡ n
unfolding ups
ups_length k zero = refl
ups_length k (suc n) = let e = ups_length (k + 1) n in omega arith

ups_chain : (links : ℕ → ℕ) (c k n : ℕ) → k + suc n ≡ slots c → ((j : ℕ) → j < slots c → links j ≡ fresh_link c j) → Chain links (k + 1) (ups k (suc n))
unfolding ups
ups_chain links c k zero e f = (refl, f k (omega arith) ∙ fresh_last c k (omega arith))
ups_chain links c k (suc n) e f = (refl, subst (λ (m : ℕ). Chain links m (ups (k + 1) (suc n))) (sym (f k (omega arith) ∙ (fresh_more c k (omega arith) ∙ omega arith))) (ups_chain links c (k + 1) n (omega arith) f))

pub slots_least : (c : ℕ) → 1 ≤ c → c ≤ 16 → 64 ≤ slots c
unfolding slots
slots_least c l m = let e : 64 * c ≤ 1024 = omega arith in (le-div_iff_mul-le {k = c} {x = 64} {y = 1024} l).1 e

pub slots_whole : (c : ℕ) → c * slots c ≤ 1024
unfolding slots
slots_whole c = let e = div-add-mod' 1024 c in omega (arith, mul_comm c (1024 / c))

-- the ready word
module _ (key : Geometry) (b i c : ℕ) (z : Block) (x' : NanoWord) (h' : ℕ → Home) (w' : ℕ → ℕ)
    (own : ClaimKeeps key i b c (slots c) z) (tiny : (j : ℕ) → z.links j ≤ 1024)
    (next' : x'.next ≡ 1) (free' : x'.free ≡ slots c) (state' : x'.state ≡ c) (gen' : x'.generation ≡ 0)
    (home : HasRest key b c (h' (slots c)))
    (hs : (j : ℕ) → j ≢ slots c → z.homes j ≡ h' j) (ws : (j : ℕ) → w' j ≡ 0) where
  abbrev pub open_z : Block
  open_z = record { word = x'; links = z.links; homes = h'; who = w' }

  open_ready : (n : ℕ) → suc n ≡ slots c → Ready key b record { word = record x' { next = 1; state = c }; links = z.links; homes = h'; who = w' }
  open_ready n e = record {
    least = own.least;
    most = own.most;
    chain = ups 0 (suc n);
    links = ups_chain z.links c 0 n (omega arith) (λ j l. (own.done j l).0);
    free = let t = ups_length 0 (suc n) in omega arith;
    distinct = ups_distinct 0 (suc n);
    inside = λ j t. absurd (t (ws j));
    here = λ j h. let r = (in_ups j 0 (suc n) h).1 in let lt : j < slots c = omega arith in (lt, ws j, subst (HasSlot key b c j) (hs j (λ y. absurd (omega arith))) (own.done j lt).1);
    full = λ j l w. ups_in j 0 (suc n) (omega arith) (omega arith);
    rest = home;
  }

  pub open_block : BlockKeeps key b open_z
  open_block =
      let t = slots_least c own.least own.most in
      let same : open_z ≡ record { word = record x' { next = 1; state = c }; links = z.links; homes = h'; who = w' } =
      λ k. record { word = record { next = next' k; free = x'.free; state = state' k; generation = x'.generation }; links = z.links; homes = h'; who = w' } in
      record { gen = omega arith; small = tiny; kind = inr (inr (subst (Ready key b) (sym same) (open_ready (slots c - 1) (omega arith)))) }

  pub open_knows : (k : NanoWord) → KnownKeeps key.most_gen z.word k → KnownKeeps key.most_gen x' k
  open_knows k t =
      let o = t.older in let g = own.gen in let s = own.state in
      record { older = omega arith; class_ = λ r. let e = t.class_ r in let l = r.1 in absurd (omega arith); same = λ r g l. let e = t.class_ r in let l = r.1 in absurd (omega arith) }

  pub open_sure : (k : NanoWord) (l : ℕ) → FirstLinkKeeps key.most_gen z k l → FirstLinkKeeps key.most_gen open_z k l
  open_sure k l t = let s = own.state in record { known = open_knows k t.known; link = λ r n g lt. let e = t.known.class_ r in let u = r.1 in absurd (omega arith) }

  pub open_rely : (x : ℕ) → x ≢ i → Rely key b x z open_z
  open_rely x n =
      let no : (j : ℕ) → z.who j ≡ x + 1 → ⊥ = λ j w. let t = own.who j in n (omega arith) in
      record {
        who = λ j w. absurd (no j w);
        homes = λ j w. absurd (no j w);
        links = λ j w. refl;
        state = λ j w r. absurd (no j w);
        back = λ j w. let t = ws j in absurd (omega arith);
        knows = open_knows;
        first_links = open_sure;
        claim = λ d k t. absurd (no 0 (t.who 0));
        ever = λ h e. let l = own.least in absurd (omega arith);
      }

  abbrev pub opens : View → ℕ → View
  opens v w = record v { claim = []; vacant = []; stored = []; known = known b w ∷ v.known; first_links = known_link b w (fresh_link c 0) ∷ v.first_links }

  pub open_seat : (v : View) (w : ℕ) → word_of w ≡ x' → SeatKeepsAt key i v b z → SeatKeepsAt key i (opens v w) b open_z
  open_seat v w is s =
      let st = own.state in
      let few = slots_least c own.least own.most in
      record {
        hand = λ j d h. let p = (s.hand j d h).ready in let t = p.1 in absurd (omega arith);
        mine = λ j t. let u = ws j in absurd (omega arith);
        knows = λ n h. ⊎_elim
            (λ (q : known b n ≡ known b w). knows_present key.most_gen x' (word_of n) (sym (ap word_of (ap (λ (o : Known). o.word) q) ∙ is)))
            (λ (q : In (known b n) v.known). open_knows (word_of n) (s.knows n q)) h;
        first_links = λ n l h. ⊎_elim
            (λ (q : known_link b n l ≡ known_link b w (fresh_link c 0)).
            let e : word_of n ≡ x' = ap word_of (ap (λ (o : KnownLink). o.word) q) ∙ is in
            let en : (word_of n).next - 1 ≡ 0 = ap (λ (y : NanoWord). y.next - 1) e ∙ ap (λ (m : ℕ). m - 1) next' in
            record {
              known = knows_present key.most_gen x' (word_of n) (sym e);
              link = λ r m g lt. ap z.links en ∙ ((own.done 0 (omega arith)).0 ∙ ap (λ (o : KnownLink). o.link) (sym q));
            })
            (λ (q : In (known_link b n l) v.first_links). open_sure (word_of n) l (s.first_links n l q)) h;
        stored = λ j l h t. absurd h;
        claim = λ d k h. absurd h;
        ever = λ h e. let l = own.least in absurd (omega arith);
      }
