-- Claims, the cut of a claimed page, and `make-ready`, as the table asks for them.
use Rattle.std.proofs.Common.{◌≡◌, ◌≢◌, ℕ, ◌+◌, ◌-◌, ◌*◌, ◌<◌, ◌≤◌, ◌==◌, ◌⊎◌, List, ◌∷◌, length, get_or, set, Option, Some, None, refl, sym, ap, ◌∙◌, subst, arith, inl, inr, ⊎_elim, length-set, get_or-set_same}
use mathlib.Core.Option as m
use lib.ListN.{get_elem?}
use prog.Atomic.{either}
use Rattle.atomic_table.specs.Table.{step, Act, keeps, takes, gives, chain, Allows, stepped, Valid, carried_after, put_back, rest}
use Rattle.atomic_table.proofs.Lists.{exchanged}
use Rattle.mz_ground.specs.Views.{SpanView}
use Rattle.mz_nanoword.specs.declared.word.NanoWord.{NanoWord}
use Rattle.mz_nanoword.specs.Words.{word_of}
use Rattle.mz_nano.specs.declared.view.Geometry.{Geometry}
use Rattle.mz_nano.specs.declared.view.Vacant.{Vacant}
use Rattle.mz_nano.specs.declared.view.Known.{Known}
use Rattle.mz_nano.specs.declared.view.KnownLink.{KnownLink}
use Rattle.mz_nano.specs.declared.view.Claim.{Claim}
use Rattle.mz_nano.specs.declared.view.View.{View}
use Rattle.mz_nano.specs.Lists.{In}
use Rattle.mz_nano.specs.Rule.{World, Block, block_of, Home, link_at, home_at, slots, IsPiece, HasSlot, HasRest, Unassigned, BeingClaimed, Ready, BlockKeeps, SeatKeepsAt, RuleWith, Rule, fresh_link, vacant, known, known_link, claim}
use Rattle.mz_nano.specs.StepEffects.{Standing, clash_noted, block_claimed, slot_cut, made_ready, TakesPlace, ClaimsBlock, CutsSlot, MakesReady, win}
use Rattle.mz_nano.specs.StepNeeds.{CanClaim, CanCut, CanMakeReady}
use Rattle.mz_nano.proofs.BlockLemmas.{same_block, link_word, word_word, word_link, link_other, link_same, home_other, home_same, home_there}
use Rattle.mz_nano.proofs.RelyLemmas.{Rely, moves}
use Rattle.mz_nano.proofs.SlotSteps.{slots_most}
use Rattle.mz_nano.proofs.Whole.{seat_else, block_to, block_to-same, block_to-block}
use Rattle.atomic_table.proofs.Lists.{set_else}
use Rattle.mz_nano.proofs.LoadSteps.{clashes}
use Rattle.mz_nano.proofs.ClaimSteps.{claim_z, claim_block, claim_rely, claim_seat, cut_z, cut_block, cut_rely, cut_seat, open_z, open_block, open_rely, open_seat}
use Rattle.mz_nano.proofs.PopAllowed.{nothing}
use Rattle.mz_nano.proofs.PushAllowed.{only}

fresh_of : (key : Geometry) (b : ℕ) (z : Block) → BlockKeeps key b z → z.word.state ≡ 0 → Unassigned key b z
fresh_of key b z ok e = ⊎_elim (λ (f : Unassigned key b z). f)
    (λ (f : BeingClaimed z ⊎ Ready key b z). ⊎_elim (λ (g : BeingClaimed z). let t = g.state in absurd (omega arith)) (λ (g : Ready key b z). let t = g.least in absurd (omega arith)) f) ok.kind

module _ (key : Geometry) (slots' id : ℕ) (me : Standing) where
  claims_hit : (b old new c : ℕ) → CanClaim me.0 b old new c → (s : World) (who : ℕ → ℕ → ℕ) → RuleWith key s who → get_elem? s.views id ≡ m.some me.0 → get_or s.words b 0 ≡ old
      → (w : View) × (a : Act (Option SpanView)) × Valid s.homes me.1 a × Rule key (stepped s b new id me.1 w a) × ClaimsBlock (step slots' b old new m.none) me old (w, carried_after me.1 a)
  claims_hit b old new c can s who kept at is =
      let f = kept.seats id me.0 at can.live in
      let pk : key ≡ me.0.geometry = sym f.geometry in
      let lt : b < key.blocks = subst (λ (p : Geometry). b < p.blocks) f.geometry can.block in
      let g = f.at b lt in
      let z : Block = block_of key s.words s.homes who b in
      let ok = kept.blocks b lt in
      let fresh = fresh_of key b z ok (ap (λ (x : ℕ). (word_of x).state) is ∙ can.old_state) in
      let home = fresh.page in
      let x' : NanoWord = word_of new in
      let words' : List ℕ = set s.words b new in
      let homes' : List (m.Option (Option SpanView)) = set s.homes (b * 1025 + 0) m.none in
      let who' : ℕ → ℕ → ℕ = block_to who b (id + 1) in
      let v' : View = block_claimed me.0 b c old new in
      let z' : Block = block_of key words' homes' who' b in
      let h' : ℕ → Home = home_at homes' b in
      let w' : ℕ → ℕ = who' b in
      let hs : (j : ℕ) → j ≢ 0 → z.homes j ≡ h' j = λ j n. sym (home_other s.homes b 0 m.none b j (omega arith) (λ _ e. n e)) in
      let ws : (j : ℕ) → w' j ≡ id + 1 = λ j. block_to-same who b (id + 1) j in
      let wide : b < length s.words = let e = kept.words in omega arith in
      let same : claim_z key b id c z x' h' w' ok.small fresh can.least can.most can.state can.gen hs ws ≡ z' =
      same_block (record { word = x'; links = z.links; homes = h'; who = w' }) z' (ap word_of (sym (get_or-set_same s.words b new 0 wide))) (λ j. sym (link_word key.blocks s.words b new b j lt)) (λ j. refl) (λ j. refl) in
      let kept' : RuleWith key record { words = words'; homes = homes'; views = set s.views id v' } who' =
      moves key s who who' id me.0 v' b words' homes' kept at can.live can.live (length-set s.words b new) (length-set s.homes (b * 1025 + 0) m.none) (refl, refl) (f.inside, f.once)
      (λ x l n. same_block (block_of key s.words s.homes who x) (block_of key words' homes' who' x) (ap word_of (sym (word_word s.words b new x n))) (λ j. sym (link_word key.blocks s.words b new x j lt))
      (λ j. sym (home_other s.homes b 0 m.none x j (omega arith) (λ e _. n e))) (λ j. block_to-block who b (id + 1) x j n))
      (subst (BlockKeeps key b) same (claim_block key b id c z x' h' w' ok.small fresh can.least can.most can.state can.gen hs ws))
      (λ x y n t. seat_else key id x y me.0 v' (λ j d h. h) (λ j d h. h) (λ j h. absurd (nothing me.0.vacant can.none (vacant x j) h)) (λ w h. h) (λ w l h. h) (λ j l h. absurd h)
      (λ d k h. ⊎_elim (λ (q : claim x d k ≡ claim b c 0). absurd (n (ap (λ (o : Claim). o.block) q))) (λ (q : ⊥). absurd q) h)
      (λ d k h. absurd (nothing me.0.claim can.no_claim (claim x d k) h))
      (λ h. ⊎_elim (λ (q : x ≡ b). absurd (n q)) (λ (q : In x me.0.claimed). q) h) t)
      (subst (SeatKeepsAt key id v' b) same (claim_seat key b id c z x' h' w' ok.small fresh can.least can.most can.state can.gen hs ws me.0 (win b old new ∷ me.0.wins) g))
      (λ x n. subst (Rely key b x z) same (claim_rely key b id c z x' h' w' ok.small fresh can.least can.most can.state can.gen hs ws x n))
      (λ j n. inr (ws j)) in
      let T : ℕ → Type 0 = λ d. TakesPlace me b 0 0 16384 (block_claimed me.0 b d old new) (v', (b * 1025 + 0, Some home.0) ∷ me.1) in (
        v',
        takes (b * 1025 + 0) (Some home.0),
        home_there s.homes b 0 (m.some (m.some (Some home.0))) (omega arith) home.1,
        (who', kept'),
        record {
          hit = λ _. subst T (sym can.next) record { span = home.0; view = refl; carried = refl; piece = subst (λ (q : Geometry). IsPiece q b 0 16384 home.0) pk home.2 };
          miss = λ n. absurd (n refl);
        },
      )

  -- the exchange that claims a block
  pub claims : (b old new c : ℕ) → CanClaim me.0 b old new c → Allows (Rule key) slots' id me b (λ n. either (n == old) new n) (ClaimsBlock (step slots' b old new m.none) me)
  claims b old new c can s (who, kept) sized at small =
      let n : ℕ = get_or s.words b 0 in
      let F : ℕ → Type 0 = λ x. (w : View) × (a : Act (Option SpanView)) × Valid s.homes me.1 a × Rule key (stepped s b x id me.1 w a) × ClaimsBlock (step slots' b old new m.none) me n (w, carried_after me.1 a) in
      exchanged n old new F
      (λ (e : n ≡ old). let h = claims_hit b old new c can s who kept at e in (h.0, h.1, h.2, h.3, subst (λ (x : ℕ). ClaimsBlock (step slots' b old new m.none) me x (h.0, carried_after me.1 h.1)) (sym e) h.4))
      (λ (e : n ≢ old). (clash_noted me.0 b old n, keeps, tt, clashes key slots' id me s who b old can.live kept at, record { hit = λ y. absurd (e y); miss = λ y. refl }))

module _ (key : Geometry) (slots' id : ℕ) (me : Standing) where
  -- the store of a link in a claimed block, which gives the slot's span and takes the next place
  pub cuts : (b c k : ℕ) → CanCut me b c k
      → Allows (Rule key) slots' id me (me.0.geometry.blocks + b * 1024 + k) (λ _. fresh_link c k) (λ _. CutsSlot (step slots' (me.0.geometry.blocks + b * 1024 + k) (fresh_link c k) 0 m.none) me (fresh_link c k))
  cuts b c k can s (who, kept) sized at small =
      let f = kept.seats id me.0 at can.live in
      let ib : key.blocks ≡ me.0.geometry.blocks = ap (λ (p : Geometry). p.blocks) (sym f.geometry) in
      let lt : b < key.blocks = subst (λ (p : Geometry). b < p.blocks) f.geometry can.block in
      let g = f.at b lt in
      let own = g.claim c k (subst (In (claim b c k)) (sym can.claim) (inl refl)) in
      let z : Block = block_of key s.words s.homes who b in
      let ok = kept.blocks b lt in
      let few' : k < 1024 = let l = can.more in let u = slots_most c in omega arith in
      let n : ℕ = fresh_link c k in
      let i : ℕ = key.blocks + b * 1024 + k in
      let words' : List ℕ = set s.words i n in
      let here : m.Option (Option SpanView) = m.some (Some can.span) in
      let homes1 : List (m.Option (Option SpanView)) = set s.homes (b * 1025 + k) here in
      let homes' : List (m.Option (Option SpanView)) = set homes1 (b * 1025 + (k + 1)) m.none in
      let len1 : length homes1 ≡ length s.homes = length-set s.homes (b * 1025 + k) here in
      let h' : ℕ → Home = home_at homes' b in
      let l' : ℕ → ℕ = link_at key.blocks words' b in
      let hs : (j : ℕ) → j ≢ k → j ≢ k + 1 → z.homes j ≡ h' j = λ j n o. sym (home_other homes1 b (k + 1) m.none b j (omega arith) (λ _ e. o e) ∙ home_other s.homes b k here b j (omega arith) (λ _ e. n e)) in
      let ls : (j : ℕ) → j ≢ k → z.links j ≡ l' j = λ j n'. sym (link_other key.blocks s.words b k n b j few' (λ _ e. n' e)) in
      let is : l' k ≡ n = link_same key.blocks s.words b k n few' lt kept.words in
      let home : HasSlot key b c k (h' k) = (
        can.span,
        home_other homes1 b (k + 1) m.none b k (omega arith) (λ _ e. omega arith) ∙ home_same s.homes b k here key.blocks (omega arith) lt kept.homes,
        subst (λ (q : Geometry). IsPiece q b (16 * c * k) (16 * c) can.span) f.geometry can.piece,
      ) in
      let v' : View = slot_cut me.0 b c k in
      let z' : Block = block_of key words' homes' who b in
      let same : cut_z key b id c k z l' h' own can.more is home ls hs ok ≡ z' = same_block (record { word = z.word; links = l'; homes = h'; who = z.who }) z' (ap word_of (sym (word_link key.blocks s.words b k n b lt))) (λ j. refl) (λ j. refl) (λ j. refl) in
      let kept' : RuleWith key record { words = words'; homes = homes'; views = set s.views id v' } who =
      moves key s who who id me.0 v' b words' homes' kept at can.live can.live (length-set s.words i n) (length-set homes1 (b * 1025 + (k + 1)) m.none ∙ len1) (refl, refl) (f.inside, f.once)
      (λ x l n'. same_block (block_of key s.words s.homes who x) (block_of key words' homes' who x) (ap word_of (sym (word_link key.blocks s.words b k n x l))) (λ j. sym (link_other key.blocks s.words b k n x j few' (λ e _. n' e)))
      (λ j. sym (home_other homes1 b (k + 1) m.none x j (omega arith) (λ e _. n' e) ∙ home_other s.homes b k here x j (omega arith) (λ e _. n' e))) (λ j. refl))
      (subst (BlockKeeps key b) same (cut_block key b id c k z l' h' own can.more is home ls hs ok))
      (λ x y n' t. seat_else key id x y me.0 v' (λ j d h. h) (λ j d h. h)
      (λ j h. absurd (n' (ap (λ (o : Vacant). o.block) (only me.0.vacant (vacant b k) (vacant x j) can.outs h))))
      (λ w h. h) (λ w l h. h) (λ j l h. absurd h)
      (λ d m' h. ⊎_elim (λ (q : claim x d m' ≡ claim b c (k + 1)). absurd (n' (ap (λ (o : Claim). o.block) q))) (λ (q : ⊥). absurd q) h)
      (λ d m' h. absurd (n' (ap (λ (o : Claim). o.block) (only me.0.claim (claim b c k) (claim x d m') can.claim h))))
      (λ h. h) t)
      (subst (SeatKeepsAt key id v' b) same (cut_seat key b id c k z l' h' own can.more is home ls hs ok me.0 g))
      (λ x n'. subst (Rely key b x z) same (cut_rely key b id c k z l' h' own can.more is home ls hs ok x n'))
      (λ j n'. inl refl) in
      let bare : get_elem? homes1 (b * 1025 + (k + 1)) ≡ m.some (m.some None) = set_else s.homes (b * 1025 + k) (b * 1025 + (k + 1)) here (λ e. omega arith) ∙ home_there s.homes b (k + 1) (m.some (m.some None)) (omega arith) (own.bare (k + 1) (omega arith) (omega arith)) in (
        v',
        chain gives (takes (b * 1025 + (k + 1)) None),
        (tt, subst (λ (ys : List (ℕ × Option SpanView)). get_elem? (put_back s.homes ys) (b * 1025 + (k + 1)) ≡ m.some (m.some None)) (sym can.carried) bare),
        (
          who,
          subst (λ (x : ℕ). RuleWith key record { words = set s.words (x + b * 1024 + k) n; homes = set (put_back s.homes me.1) (b * 1025 + (k + 1)) m.none; views = set s.views id v' } who) ib
              (subst (λ (ys : List (ℕ × Option SpanView)). RuleWith key record { words = words'; homes = set (put_back s.homes ys) (b * 1025 + (k + 1)) m.none; views = set s.views id v' } who) (sym can.carried) kept'),
        ),
        record {
          is = λ b' c' k' e.
              let q : claim b c k ≡ claim b' c' k' = sym (only me.0.claim (claim b c k) (claim b' c' k') can.claim (subst (In (claim b' c' k')) (sym e) (inl refl))) in
              let T : Standing → Type 0 = λ t. (v', (b * 1025 + (k + 1), None) ∷ rest me.1) ≡ t in
              subst (λ (o : Claim). T (slot_cut me.0 o.block o.class o.cut, (o.block * 1025 + (o.cut + 1), None) ∷ rest me.1)) q refl;
        },
      )

module _ (key : Geometry) (slots' id : ℕ) (me : Standing) where
  -- the store of the ready word, which gives the rest of the page
  pub opens : (b c new : ℕ) → CanMakeReady me b c new → Allows (Rule key) slots' id me b (λ _. new) (λ _. MakesReady (step slots' b new 0 m.none) me new)
  opens b c new can s (who, kept) sized at small =
      let f = kept.seats id me.0 at can.live in
      let lt : b < key.blocks = subst (λ (p : Geometry). b < p.blocks) f.geometry can.block in
      let g = f.at b lt in
      let own = g.claim c (slots c) (subst (In (claim b c (slots c))) (sym can.claim) (inl refl)) in
      let z : Block = block_of key s.words s.homes who b in
      let ok = kept.blocks b lt in
      let most : slots c ≤ 1024 = slots_most c in
      let x' : NanoWord = word_of new in
      let words' : List ℕ = set s.words b new in
      let here : m.Option (Option SpanView) = m.some (Some can.span) in
      let homes' : List (m.Option (Option SpanView)) = set s.homes (b * 1025 + slots c) here in
      let who' : ℕ → ℕ → ℕ = block_to who b 0 in
      let v' : View = made_ready me.0 b c new in
      let z' : Block = block_of key words' homes' who' b in
      let h' : ℕ → Home = home_at homes' b in
      let w' : ℕ → ℕ = who' b in
      let hs : (j : ℕ) → j ≢ slots c → z.homes j ≡ h' j = λ j n. sym (home_other s.homes b (slots c) here b j (omega arith) (λ _ e. n e)) in
      let ws : (j : ℕ) → w' j ≡ 0 = λ j. block_to-same who b 0 j in
      let home : HasRest key b c (h' (slots c)) = (
        can.span,
        home_same s.homes b (slots c) here key.blocks (omega arith) lt kept.homes,
        subst (λ (q : Geometry). IsPiece q b (16 * c * slots c) (16384 - 16 * c * slots c) can.span) f.geometry can.piece,
      ) in
      let wide : b < length s.words = let e = kept.words in omega arith in
      let is : word_of (get_or words' b 0) ≡ x' = ap word_of (get_or-set_same s.words b new 0 wide) in
      let same : open_z key b id c z x' h' w' own ok.small can.next can.free can.state can.gen home hs ws ≡ z' =
      same_block (record { word = x'; links = z.links; homes = h'; who = w' }) z' (sym is) (λ j. sym (link_word key.blocks s.words b new b j lt)) (λ j. refl) (λ j. refl) in
      let kept' : RuleWith key record { words = words'; homes = homes'; views = set s.views id v' } who' =
      moves key s who who' id me.0 v' b words' homes' kept at can.live can.live (length-set s.words b new) (length-set s.homes (b * 1025 + slots c) here) (refl, refl) (f.inside, f.once)
      (λ x l n. same_block (block_of key s.words s.homes who x) (block_of key words' homes' who' x) (ap word_of (sym (word_word s.words b new x n))) (λ j. sym (link_word key.blocks s.words b new x j lt))
      (λ j. sym (home_other s.homes b (slots c) here x j (omega arith) (λ e _. n e))) (λ j. block_to-block who b 0 x j n))
      (subst (BlockKeeps key b) same (open_block key b id c z x' h' w' own ok.small can.next can.free can.state can.gen home hs ws))
      (λ x y n t. seat_else key id x y me.0 v' (λ j d h. h) (λ j d h. h)
      (λ j h. absurd (n (ap (λ (o : Vacant). o.block) (only me.0.vacant (vacant b (slots c)) (vacant x j) can.outs h))))
      (λ w h. ⊎_elim (λ (q : known x w ≡ known b new). absurd (n (ap (λ (o : Known). o.block) q))) (λ (q : In (known x w) me.0.known). q) h)
      (λ w l h. ⊎_elim (λ (q : known_link x w l ≡ known_link b new (fresh_link c 0)). absurd (n (ap (λ (o : KnownLink). o.block) q))) (λ (q : In (known_link x w l) me.0.first_links). q) h)
      (λ j l h. absurd h) (λ d m' h. absurd h)
      (λ d m' h. absurd (n (ap (λ (o : Claim). o.block) (only me.0.claim (claim b c (slots c)) (claim x d m') can.claim h))))
      (λ h. h) t)
      (subst (SeatKeepsAt key id v' b) same (open_seat key b id c z x' h' w' own ok.small can.next can.free can.state can.gen home hs ws me.0 new refl g))
      (λ x n. subst (Rely key b x z) same (open_rely key b id c z x' h' w' own ok.small can.next can.free can.state can.gen home hs ws x n))
      (λ j n. absurd (n (ws j))) in (
        v',
        gives,
        tt,
        (who', subst (λ (ys : List (ℕ × Option SpanView)). RuleWith key record { words = words'; homes = put_back s.homes ys; views = set s.views id v' } who') (sym can.carried) kept'),
        record { view = ap (λ (d : ℕ). made_ready me.0 b d new) (sym can.state); carried = refl },
      )
