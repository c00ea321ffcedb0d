-- A seat gives away a slot of its hand, by a seat that brings it.
use Rattle.std.proofs.Common.{◌≡◌, ◌≢◌, ℕ, ◌+◌, ◌<◌, ◌≤◌, Bool, true, false, if◌then◌else◌, List, [], ◌∷◌, ◌++◌, length, set, refl, sym, ap, ◌∙◌, subst, arith, inl, inr, ⊎_elim, length-set}
use Rattle.std.proofs.lemmas.Bool.{cases_eq}
use mathlib.Core.Option as m
use lib.ListN.{get_elem?}
use Rattle.atomic_table.specs.Table.{Splits}
use Rattle.atomic_table.proofs.Lists.{at_set, at_longer, at_last}
use Rattle.mz_nano.specs.declared.view.Geometry.{Geometry}
use Rattle.mz_nano.specs.declared.view.Held.{Held}
use Rattle.mz_nano.specs.declared.view.View.{View}
use Rattle.mz_nano.specs.Lists.{In, is_at}
use Rattle.mz_nano.specs.Rule.{World, Block, block_of, slots, BlockKeeps, SeatKeepsAt, SeatKeeps, HandKeeps, Owner, RuleWith, Rule, IsReady, held, vacant, claim}
use Rattle.mz_nano.specs.SeatMoves.{without_slot, bringer, bring, class_in}
use Rattle.mz_nano.proofs.MemberLemmas.{in_without, without_in, is_at-true, at_is}
use Rattle.mz_nano.proofs.BlockLemmas.{same_block}
use Rattle.mz_nano.proofs.RelyLemmas.{Rely, rely, still, total_set, parts_live}
use Rattle.mz_nano.proofs.SlotSteps.{ready_of}
use Rattle.mz_nano.proofs.Whole.{seat_else, slot_to, slot_to-same, slot_to-slot, slot_to-block}
use Rattle.mz_nano.proofs.SeatSteps.{snoc_at, at_length, total_append}
use Rattle.mz_nano.proofs.OnceLemmas.{once_without}
use Rattle.mz_nano.proofs.PopAllowed.{nothing}

module _ (key : Geometry) (b id n j0 c : ℕ) (z : Block) (w' : ℕ → ℕ) (ih : z.who j0 ≡ id + 1) (y : IsReady z.word) (apart : n ≢ id)
    (ws : (j : ℕ) → j ≢ j0 → z.who j ≡ w' j) (got : w' j0 ≡ n + 1) (ok : BlockKeeps key b z) where
  abbrev pub part_z : Block
  part_z = record z { who = w' }

  part_block : BlockKeeps key b part_z
  part_block = let r = ready_of key b z ok y in record {
    gen = ok.gen;
    small = ok.small;
    kind = inr (inr record {
      least = r.least;
      most = r.most;
      chain = r.chain;
      links = r.links;
      free = r.free;
      distinct = r.distinct;
      rest = r.rest;
      inside = λ j h. ⊎_elim (λ (e : j ≡ j0). subst (λ (x : ℕ). x < slots z.word.state) (sym e) (r.inside j0 (λ t. absurd (omega arith)))) (λ (e : j ≡ j0 → ⊥). r.inside j (λ t. h (sym (ws j e) ∙ t))) (cases_eq j j0);
      here = λ j h. let t = r.here j h in (t.0, sym (ws j (λ e. let q : z.who j ≡ z.who j0 = ap z.who e in let u = t.1 in absurd (omega arith))) ∙ t.1, t.2);
      full = λ j l w. r.full j l (ws j (λ e. let q : w' j ≡ w' j0 = ap w' e in absurd (omega arith)) ∙ w);
    });
  }

  part_rely : (x : ℕ) → x ≢ id → x ≢ n → Rely key b x z part_z
  part_rely x p q =
      let was : (j : ℕ) → z.who j ≡ x + 1 → j ≢ j0 = λ j w e. let t : z.who j ≡ z.who j0 = ap z.who e in p (omega arith) in
      record {
        who = λ j w. sym (ws j (was j w)) ∙ w;
        homes = λ j w. refl;
        links = λ j w. refl;
        state = λ j w r. refl;
        back = λ j w. ws j (λ e. let t : w' j ≡ w' j0 = ap w' e in q (omega arith)) ∙ w;
        knows = λ k t. t;
        first_links = λ k l s. record { known = s.known; link = s.link };
        claim = λ d k t. let u = t.state in let v = y.1 in absurd (omega arith);
        ever = λ h. h;
      }

  part_seat : (v : View) → SeatKeepsAt key id v b z → SeatKeepsAt key id (without_slot b j0 v) b part_z
  part_seat v g = record {
    hand = λ j d h. let q = in_without b j0 (held b j d) v.hand h in let p = g.hand j d q.0 in record { who = sym (ws j (λ e. q.1 (refl, e))) ∙ p.who; state = p.state; ready = p.ready; bare = p.bare };
    mine = λ j w. let ne : j ≢ j0 = (λ e. let t : w' j ≡ w' j0 = ap w' e in apart (omega arith)) in
        ⊎_elim (λ (t : (d : ℕ) × In (held b j d) v.hand). inl (t.0, without_in b j0 (held b j t.0) v.hand (λ e. ne e.1) t.1)) (λ (t : (d : ℕ) × (k : ℕ) × In (claim b d k) v.claim). inr t) (g.mine j (ws j ne ∙ w));
    knows = g.knows;
    first_links = λ w l h. let s = g.first_links w l h in record { known = s.known; link = s.link };
    stored = λ j l h. absurd h;
    claim = λ d k h. let u = (g.claim d k h).state in let t = y.1 in absurd (omega arith);
    ever = g.ever;
  }

module _ (key : Geometry) (id : ℕ) (v : View) (b j0 c : ℕ) where
  parts_kept : v.live ≡ true → 2 ≤ v.parts → v.vacant ≡ [] → In (held b j0 c) v.hand → (s : World) (who : ℕ → ℕ → ℕ) → RuleWith key s who → get_elem? s.views id ≡ m.some v
      → RuleWith key record { words = s.words; homes = s.homes; views = set s.views id (without_slot b j0 v) ++ bringer b j0 c v ∷ [] } (slot_to who b j0 (length s.views + 1))
  parts_kept live many outs mine s who kept at =
      let n : ℕ = length s.views in
      let f = kept.seats id v at live in
      let lt : b < key.blocks = f.inside b j0 c mine in
      let sc : ℕ → Block = block_of key s.words s.homes who in
      let who' : ℕ → ℕ → ℕ = slot_to who b j0 (n + 1) in
      let sc' : ℕ → Block = block_of key s.words s.homes who' in
      let ih = (f.at b lt).hand j0 c mine in
      let left : View = without_slot b j0 v in
      let right : View = bringer b j0 c v in
      let views1 : List View = set s.views id left in
      let len1 : length views1 ≡ n = length-set s.views id left in
      let apart : n ≢ id = (λ e. let t = at_length s.views id v at in absurd (omega arith)) in
      let ws : (j : ℕ) → j ≢ j0 → who b j ≡ who' b j = λ j e. slot_to-slot who b j0 (n + 1) b j e in
      let got : who' b j0 ≡ n + 1 = slot_to-same who b j0 (n + 1) in
      let ok = kept.blocks b lt in
      let else_ : (x : ℕ) → x ≢ b → sc x ≡ sc' x = λ x e. same_block (sc x) (sc' x) refl (λ j. refl) (λ j. refl) (λ j. slot_to-block who b j0 (n + 1) x j e) in
      let unborn : (x j : ℕ) → x < key.blocks → who x j ≡ n + 1 → ⊥ = λ x j l e. let o = kept.owner x j l (λ t. let q : n + 1 ≡ 0 = sym e ∙ t in omega arith) in let t = at_length s.views o.seat o.view o.at in let u = o.is in omega arith in
      record {
        words = kept.words;
        homes = kept.homes;
        gen = kept.gen;
        blocks = λ x l. ⊎_elim
            (λ (e : x ≡ b). subst (λ (i : ℕ). BlockKeeps key i (sc' i)) (sym e) (part_block key b id n j0 c (sc b) (who' b) ih.who ih.ready apart ws got ok))
            (λ (e : x ≡ b → ⊥). subst (BlockKeeps key x) (else_ x e) (kept.blocks x l)) (cases_eq x b);
        seats = λ x u e l. ⊎_elim
            (λ (t : get_elem? views1 x ≡ m.some u). ⊎_elim
            (λ (q : (x ≡ id) × (left ≡ u)). subst (λ (w : View). SeatKeeps key x w sc') q.1 (subst (λ (i : ℕ). SeatKeeps key i left sc') (sym q.0) record {
              geometry = f.geometry;
              some_parts = omega arith;
              inside = λ i j d h. f.inside i j d (in_without b j0 (held i j d) v.hand h).0;
              once = once_without b j0 v.hand f.once;
              at = λ i li. ⊎_elim
                  (λ (p : i ≡ b). subst (λ (k : ℕ). SeatKeepsAt key id left k (sc' k)) (sym p) (part_seat key b id n j0 c (sc b) (who' b) ih.who ih.ready apart ws got ok v (f.at b lt)))
                  (λ (p : i ≡ b → ⊥). subst (SeatKeepsAt key id left i) (else_ i p) (seat_else key id i (sc i) v left (λ j d h. (in_without b j0 (held i j d) v.hand h).0) (λ j d h. without_in b j0 (held i j d) v.hand (λ k. p k.0) h)
                  (λ j h. h) (λ w h. h) (λ w l' h. h) (λ j l' h. absurd h) (λ d k h. h) (λ d k h. h) (λ h. h) (f.at i li)))
                  (cases_eq i b);
            }))
            (λ (q : (x ≢ id) × (get_elem? s.views x ≡ m.some u)).
            let g = kept.seats x u q.1 l in
            let xn : x ≢ n = (λ y. let t' = at_length s.views x u q.1 in absurd (omega arith)) in record {
              geometry = g.geometry;
              some_parts = g.some_parts;
              inside = g.inside;
              once = g.once;
              at = λ i li. ⊎_elim
                  (λ (p : i ≡ b). subst (λ (k : ℕ). SeatKeepsAt key x u k (sc' k)) (sym p) (rely key b x u (sc b) (sc' b) (part_rely key b id n j0 c (sc b) (who' b) ih.who ih.ready apart ws got ok x q.0 xn) (g.at b lt)))
                  (λ (p : i ≡ b → ⊥). subst (SeatKeepsAt key x u i) (else_ i p) (g.at i li))
                  (cases_eq i b);
            })
            (at_set s.views id x left u t))
            (λ (t : (x ≡ length views1) × (right ≡ u)). subst (λ (w : View). SeatKeeps key x w sc') t.1 (subst (λ (i : ℕ). SeatKeeps key i right sc') (sym (t.0 ∙ len1)) record {
              geometry = f.geometry;
              some_parts = omega arith;
              inside = λ i j d h. ⊎_elim (λ (q : held i j d ≡ held b j0 c). subst (λ (k : ℕ). k < key.blocks) (ap (λ (o : Held). o.block) (sym q)) lt) (λ (q : ⊥). absurd q) h;
              once = ((λ d h. h), tt);
              at = λ i li. record {
                hand = λ j d h. ⊎_elim
                    (λ (q : held i j d ≡ held b j0 c). subst (λ (o : Held). HandKeeps n [] o.block o.slot o.class (sc' o.block)) (sym q) record { who = got; state = ih.state; ready = ih.ready; bare = λ _. ih.bare (nothing v.vacant outs (vacant b j0)) })
                    (λ (q : ⊥). absurd q) h;
                mine = λ j w. ⊎_elim
                    (λ (p : i ≡ b). ⊎_elim (λ (q : j ≡ j0). inl (c, inl (λ k. held (p k) (q k) c)))
                    (λ (q : j ≡ j0 → ⊥). absurd (unborn i j li (slot_to-slot who b j0 (n + 1) i j q ∙ w))) (cases_eq j j0))
                    (λ (p : i ≡ b → ⊥). absurd (unborn i j li (slot_to-block who b j0 (n + 1) i j p ∙ w)))
                    (cases_eq i b);
                knows = λ w h. absurd h;
                first_links = λ w l' h. absurd h;
                stored = λ j l' h. absurd h;
                claim = λ d k h. absurd h;
                ever = λ h. absurd h;
              };
            }))
            (snoc_at views1 right u x e);
        total = let p = total_set s.views id v left at in let q = parts_live v live in let r = parts_live left live in let d = total_append views1 right in let t = kept.total in omega arith;
        owner = λ x j l ne.
            let old : who x j ≡ who' x j → Owner (views1 ++ right ∷ []) (who' x j) = λ e. subst (Owner (views1 ++ right ∷ [])) e (let o = still s.views id v left (who x j) at live (kept.owner x j l (λ t. ne (sym e ∙ t))) in record { seat = o.seat; view = o.view; at = at_longer views1 (right ∷ []) o.seat o.view o.at; live = o.live; is = o.is }) in
            ⊎_elim
            (λ (p : x ≡ b). ⊎_elim
            (λ (q : j ≡ j0). record { seat = n; view = right; at = at_last views1 right n len1; live = refl; is = (λ k. who' (p k) (q k)) ∙ got })
            (λ (q : j ≡ j0 → ⊥). old (slot_to-slot who b j0 (n + 1) x j q)) (cases_eq j j0))
            (λ (p : x ≡ b → ⊥). old (slot_to-block who b j0 (n + 1) x j p))
            (cases_eq x b);
      }

  pub parts : v.live ≡ true → 2 ≤ v.parts → v.vacant ≡ [] → In (held b j0 c) v.hand → Splits (Rule key) id v (without_slot b j0 v) (bringer b j0 c v)
  parts live many outs mine s (who, kept) at = (slot_to who b j0 (length s.views + 1), parts_kept live many outs mine s who kept at)

class_step : (b j c : ℕ) (x : Held) (xs : List Held) (t : Bool) → is_at b j x ≡ t → In (held b j c) (x ∷ xs) → (In (held b j c) xs → In (held b j (class_in b j xs)) xs) → In (held b j (if t then x.class else class_in b j xs)) (x ∷ xs)
class_step b j c x xs true e h ih = let r = is_at-true b j x e in inl (λ k. held (sym r.0 k) (sym r.1 k) x.class)
class_step b j c x xs false e h ih = ⊎_elim
    (λ (q : held b j c ≡ x). let t : is_at b j x ≡ true = at_is b j x (ap (λ (y : Held). y.block) (sym q)) (ap (λ (y : Held). y.slot) (sym q)) in absurd (cc))
    (λ (q : In (held b j c) xs). inr (ih q)) h

pub in_class : (b j c : ℕ) (hs : List Held) → In (held b j c) hs → In (held b j (class_in b j hs)) hs
in_class b j c [] h = absurd h
in_class b j c (x ∷ xs) h = class_step b j c x xs (is_at b j x) refl h (in_class b j c xs)

pub brings : (key : Geometry) (id : ℕ) (v : View) (b j c : ℕ) → v.live ≡ true → 2 ≤ v.parts → v.vacant ≡ [] → In (held b j c) v.hand → Splits (Rule key) id v (without_slot b j v) (bring b j v)
brings key id v b j c live many outs mine = parts key id v b j (class_in b j v.hand) live many outs (in_class b j c v.hand mine)
