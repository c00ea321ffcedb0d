-- The steps that the table allows.
use Rattle.std.proofs.Common.{◌≡◌, ℕ, ◌+◌, ◌*◌, ◌<◌, ◌≤◌, true, nat_lt, List, ◌∷◌, ◌++◌, length, get_or, set, refl, sym, ap, ◌∙◌, subst, arith, inl, ⊎_elim, lt-ltb}
use Rattle.std.proofs.lemmas.List.{set-get_or}
use mathlib.Core.Option as m
use lib.ListN.{get_elem?}
use Rattle.atomic_table.specs.Table.{step, keeps, Allows, stepped}
use Rattle.mz_nanoword.specs.Words.{word_of}
use Rattle.mz_nano.specs.declared.view.Geometry.{Geometry}
use Rattle.mz_nano.specs.declared.view.Known.{Known}
use Rattle.mz_nano.specs.declared.view.KnownLink.{KnownLink}
use Rattle.mz_nano.specs.declared.view.View.{View}
use Rattle.mz_nano.specs.Lists.{In}
use Rattle.mz_nano.specs.Rule.{World, Block, block_of, link_at, SeatKeepsAt, RuleWith, Rule, known, known_link}
use Rattle.mz_nano.specs.StepEffects.{Standing, word_loaded, link_loaded, clash_noted, IsSound, LoadsBlock, LoadsLink, slot_of, first_links_of}
use Rattle.mz_nano.proofs.BlockLemmas.{open_}
use Rattle.mz_nano.proofs.SlotSteps.{knows_present, ready_of, slots_most}
use Rattle.mz_nano.proofs.OnceLemmas.{hand_few}
use Rattle.mz_nano.proofs.Whole.{noted, sounds}

pub hand_room : (key : Geometry) (id : ℕ) (me : Standing) (s : World) (who : ℕ → ℕ → ℕ) → RuleWith key s who → get_elem? s.views id ≡ m.some me.0 → me.0.live ≡ true → length me.0.hand ≤ me.0.geometry.blocks * 1024
hand_room key id me s who kept at live =
    let f = kept.seats id me.0 at live in
    let e : key.blocks ≡ me.0.geometry.blocks = ap (λ (p : Geometry). p.blocks) (sym f.geometry) in
    let t = hand_few key.blocks me.0.hand f.once (λ h i.
    let l = f.inside h.block h.slot h.class i in
    let p = (f.at h.block l).hand h.slot h.class i in
    let r = ready_of key h.block (block_of key s.words s.homes who h.block) (kept.blocks h.block l) p.ready in
    let q = r.inside h.slot (λ y. let w = p.who in absurd (omega arith)) in
    let m = slots_most (block_of key s.words s.homes who h.block).word.state in
    (l, omega arith)) in
    omega arith

-- a load of a block's word
module _ (key : Geometry) (slots' id : ℕ) (me : Standing) where
  pub looks_at : (n b b' : ℕ) (z : Block) → (b' ≡ b → z.word ≡ word_of n) → SeatKeepsAt key id me.0 b' z → SeatKeepsAt key id (word_loaded me.0 b n) b' z
  looks_at n b b' z e s = record {
    hand = s.hand;
    mine = s.mine;
    knows = λ w h. ⊎_elim
        (λ (q : known b' w ≡ known b n). knows_present key.most_gen z.word (word_of w) (e (ap (λ (o : Known). o.block) q) ∙ ap word_of (ap (λ (o : Known). o.word) (sym q))))
        (λ (q : In (known b' w) me.0.known). s.knows w q) h;
    first_links = s.first_links;
    stored = s.stored;
    claim = s.claim;
    ever = s.ever;
  }

  pub looks : (b : ℕ) → me.0.live ≡ true → b < me.0.geometry.blocks → Allows (Rule key) slots' id me b (λ n. n) (LoadsBlock (step slots' b 0 0 m.none) me)
  looks b live lt s (who, kept) sized at small =
      let f = kept.seats id me.0 at live in
      let n : ℕ = get_or s.words b 0 in
      let lt' : b < key.blocks = subst (λ (p : Geometry). b < p.blocks) f.geometry lt in
      let k = noted key s who id me.0 (word_loaded me.0 b n) kept at live live refl record {
        geometry = f.geometry;
        some_parts = f.some_parts;
        inside = f.inside;
        once = f.once;
        at = λ b' l. looks_at n b b' (block_of key s.words s.homes who b') (λ e. ap (λ (x : ℕ). word_of (get_or s.words x 0)) e) (f.at b' l);
      } in (
        word_loaded me.0 b n,
        keeps,
        tt,
        (who, subst (λ (ws : List ℕ). RuleWith key record { words = ws; homes = s.homes; views = set s.views id (word_loaded me.0 b n) } who) (sym (set-get_or s.words b 0)) k),
        record { view = refl; carried = refl; sound = subst (λ (p : Geometry). IsSound p n) (sym f.geometry) (sounds key b n (block_of key s.words s.homes who b) kept.gen refl (kept.blocks b lt')); mine = λ j c h. let ih = (f.at b lt').hand j c h in (ih.state, ih.ready); once = f.once; room = hand_room key id me s who kept at live },
      )

  follows_at : (w n b b' : ℕ) (z : Block) → In (known b w) me.0.known → (b' ≡ b → z.links (slot_of w) ≡ n) → (i : ℕ) → SeatKeepsAt key id me.0 b' z → SeatKeepsAt key id record me.0 { loads = (link_loaded me.0 i n).loads; first_links = known_link b w n ∷ me.0.first_links } b' z
  follows_at w n b b' z k e i s = record {
    hand = s.hand;
    mine = s.mine;
    knows = s.knows;
    first_links = λ w' l h. ⊎_elim
        (λ (q : known_link b' w' l ≡ known_link b w n).
        let eb : b' ≡ b = ap (λ (o : KnownLink). o.block) q in
        let ew : w' ≡ w = ap (λ (o : KnownLink). o.word) q in
        record {
          known = s.knows w' (subst (λ (x : ℕ). In (known x w') me.0.known) (sym eb) (subst (λ (x : ℕ). In (known b x) me.0.known) (sym ew) k));
          link = λ r m' g l'. ap (λ (x : ℕ). z.links (slot_of x)) ew ∙ (e eb ∙ ap (λ (o : KnownLink). o.link) (sym q));
        })
        (λ (q : In (known_link b' w' l) me.0.first_links). s.first_links w' l q) h;
    stored = s.stored;
    claim = s.claim;
    ever = s.ever;
  }

  -- a load of the link of the first slot of the word that the seat loaded last
  pub follows : (b w : ℕ) (ks : List Known) → me.0.live ≡ true → b < me.0.geometry.blocks → me.0.known ≡ known b w ∷ ks → slot_of w < 1024
      → Allows (Rule key) slots' id me (me.0.geometry.blocks + b * 1024 + slot_of w) (λ n. n) (LoadsLink (step slots' (me.0.geometry.blocks + b * 1024 + slot_of w) 0 0 m.none) me)
  follows b w ks live lt ks' few' s (who, kept) sized at small =
      let f = kept.seats id me.0 at live in
      let i : ℕ = me.0.geometry.blocks + b * 1024 + slot_of w in
      let n : ℕ = get_or s.words i 0 in
      let ib : key.blocks ≡ me.0.geometry.blocks = ap (λ (p : Geometry). p.blocks) (sym f.geometry) in
      let lt' : b < key.blocks = omega arith in
      let is : link_at key.blocks s.words b (slot_of w) ≡ n = open_ (nat_lt (slot_of w) 1024) (get_or s.words (key.blocks + b * 1024 + slot_of w) 0) 0 (lt-ltb (slot_of w) 1024 few') ∙ ap (λ (x : ℕ). get_or s.words (x + b * 1024 + slot_of w) 0) ib in
      let k : In (known b w) me.0.known = subst (In (known b w)) (sym ks') (inl refl) in
      let small' = (kept.blocks b lt').small (slot_of w) in
      let v1 : View = record me.0 { loads = (link_loaded me.0 i n).loads; first_links = known_link b w n ∷ me.0.first_links } in
      let same : v1 ≡ link_loaded me.0 i n = λ q. record (link_loaded me.0 i n) { first_links = first_links_of (sym ks' q) n ++ me.0.first_links } in
      let kept' : RuleWith key record { words = s.words; homes = s.homes; views = set s.views id v1 } who = noted key s who id me.0 v1 kept at live live refl record {
        geometry = f.geometry;
        some_parts = f.some_parts;
        inside = f.inside;
        once = f.once;
        at = λ b' l. follows_at w n b b' (block_of key s.words s.homes who b') k (λ e. ap (λ (x : ℕ). link_at key.blocks s.words x (slot_of w)) e ∙ is) i (f.at b' l);
      } in (
        link_loaded me.0 i n,
        keeps,
        tt,
        (
          who,
          subst (λ (ws : List ℕ). RuleWith key record { words = ws; homes = s.homes; views = set s.views id (link_loaded me.0 i n) } who) (sym (set-get_or s.words i 0))
              (subst (λ (u : View). RuleWith key record { words = s.words; homes = s.homes; views = set s.views id u } who) same kept'),
        ),
        record { view = refl; carried = refl; small = subst (λ (x : ℕ). x ≤ 1024) is small' },
      )

  clash_kept : (s : World) (who : ℕ → ℕ → ℕ) (b x n : ℕ) → me.0.live ≡ true → RuleWith key s who → get_elem? s.views id ≡ m.some me.0 → RuleWith key record { words = s.words; homes = s.homes; views = set s.views id (clash_noted me.0 b x n) } who
  clash_kept s who b x n live kept at = let f = kept.seats id me.0 at live in noted key s who id me.0 (clash_noted me.0 b x n) kept at live live refl record {
    geometry = f.geometry;
    some_parts = f.some_parts;
    inside = f.inside;
    once = f.once;
    at = λ b' l. let g = f.at b' l in record { hand = g.hand; mine = g.mine; knows = g.knows; first_links = g.first_links; stored = g.stored; claim = g.claim; ever = g.ever };
  }

  -- an exchange that found another word
  pub clashes : (s : World) (who : ℕ → ℕ → ℕ) (b x : ℕ) → me.0.live ≡ true → RuleWith key s who → get_elem? s.views id ≡ m.some me.0
      → Rule key (stepped s b (get_or s.words b 0) id me.1 (clash_noted me.0 b x (get_or s.words b 0)) keeps)
  clashes s who b x live kept at = (who, subst (λ (ws : List ℕ). RuleWith key record { words = ws; homes = s.homes; views = set s.views id (clash_noted me.0 b x (get_or s.words b 0)) } who) (sym (set-get_or s.words b 0)) (clash_kept s who b x (get_or s.words b 0) live kept at))
