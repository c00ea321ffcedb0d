-- Seats are made, cut and joined.
use Rattle.std.proofs.Common.{◌≡◌, ◌≢◌, ℕ, zero, suc, ◌+◌, ◌-◌, ◌<◌, ◌≤◌, ◌==◌, ◌⊎◌, Bool, true, false, if◌then◌else◌, List, [], ◌∷◌, ◌++◌, length, set, refl, sym, ap, ◌∙◌, subst, arith, inl, inr, ⊎_elim, length-set, eq-eqb, ne_eqb}
use Rattle.std.proofs.lemmas.Bool.{cases_eq}
use mathlib.Core.Option as m
use mathlib.Core.Option.{some-ne-none, some-injective}
use lib.ListN.{get_elem?}
use Rattle.atomic_table.specs.Table.{Splits, Joins}
use Rattle.atomic_table.proofs.Lists.{at_set, set_else, at_longer}
use Rattle.mz_nano.specs.declared.view.Geometry.{Geometry}
use Rattle.mz_nano.specs.declared.view.View.{View}
use Rattle.mz_nano.specs.Lists.{In}
use Rattle.mz_nano.specs.Rule.{World, Block, block_of, Unassigned, BeingClaimed, Ready, BlockKeeps, SeatKeepsAt, SeatKeeps, RuleWith, Rule, parts_of, total, first_view, held, vacant, claim}
use Rattle.mz_nano.specs.SeatMoves.{giver, given_view, lender, lent_view, joined, spent_view}
use Rattle.mz_nano.proofs.RelyLemmas.{Rely, rely, still, set_there, total_set, parts_live}
use Rattle.mz_nano.proofs.OnceLemmas.{once_append}
use Rattle.mz_nano.proofs.PopAllowed.{nothing}

pub snoc_at : {A : Type 0} (l : List A) (a b : A) (j : ℕ) → get_elem? (l ++ a ∷ []) j ≡ m.some b → (get_elem? l j ≡ m.some b) ⊎ ((j ≡ length l) × (a ≡ b))
snoc_at [] a b zero e = inr (refl, some-injective a b e)
snoc_at [] a b (suc j) e = absurd (some-ne-none b (sym e))
snoc_at (x ∷ xs) a b zero e = inl e
snoc_at (x ∷ xs) a b (suc j) e = ⊎_elim (λ (t : get_elem? xs j ≡ m.some b). inl t) (λ (t : (j ≡ length xs) × (a ≡ b)). inr (ap suc t.0, t.1)) (snoc_at xs a b j e)

pub at_length : {A : Type 0} (l : List A) (i : ℕ) (a : A) → get_elem? l i ≡ m.some a → i < length l
at_length [] i a e = absurd (some-ne-none a (sym e))
at_length (x ∷ xs) zero a e = omega arith
at_length (x ∷ xs) (suc i) a e = let t = at_length xs i a e in omega arith

pub total_append : (xs : List View) (v : View) → total (xs ++ v ∷ []) ≡ total xs + parts_of v
total_append [] v = omega arith
total_append (x ∷ xs) v = let t = total_append xs v in omega arith

abbrev giver_by : ℕ → View → View
giver_by p v = record v { parts = v.parts - p }

abbrev given_by : ℕ → View → View
given_by p v = record (first_view v.geometry) { parts = p }

module _ (key : Geometry) (id : ℕ) (v : View) (p : ℕ) where
  splits_kept : v.live ≡ true → 1 ≤ p → p + 1 ≤ v.parts → (s : World) (who : ℕ → ℕ → ℕ) → RuleWith key s who → get_elem? s.views id ≡ m.some v
      → RuleWith key record { words = s.words; homes = s.homes; views = set s.views id (giver_by p v) ++ given_by p v ∷ [] } who
  splits_kept live least many s who kept at =
      let f = kept.seats id v at live in
      let sc : ℕ → Block = block_of key s.words s.homes who in
      let views1 : List View = set s.views id (giver_by p v) in
      let len1 : length views1 ≡ length s.views = length-set s.views id (giver_by p v) in
      record {
        words = kept.words;
        homes = kept.homes;
        gen = kept.gen;
        blocks = kept.blocks;
        seats = λ x u e l. ⊎_elim
            (λ (t : get_elem? views1 x ≡ m.some u). ⊎_elim
            (λ (y : (x ≡ id) × (giver_by p v ≡ u)). subst (λ (w : View). SeatKeeps key x w sc) y.1 (subst (λ (i : ℕ). SeatKeeps key i (giver_by p v) sc) (sym y.0) record {
              geometry = f.geometry;
              some_parts = omega arith;
              inside = f.inside;
              once = f.once;
              at = λ b lt. let g = f.at b lt in record { hand = g.hand; mine = g.mine; knows = g.knows; first_links = g.first_links; stored = g.stored; claim = g.claim; ever = g.ever };
            }))
            (λ (y : (x ≢ id) × (get_elem? s.views x ≡ m.some u)). kept.seats x u y.1 l)
            (at_set s.views id x (giver_by p v) u t))
            (λ (t : (x ≡ length views1) × (given_by p v ≡ u)). subst (λ (w : View). SeatKeeps key x w sc) t.1 record {
              geometry = f.geometry;
              some_parts = omega arith;
              inside = λ b j c h. absurd h;
              once = tt;
              at = λ b lt. record {
                hand = λ j c h. absurd h;
                mine = λ j w. let o = kept.owner b j lt (λ y. let n : x + 1 ≡ 0 = sym w ∙ y in omega arith) in let y = at_length s.views o.seat o.view o.at in let z = o.is in let q = t.0 in absurd (omega arith);
                knows = λ w h. absurd h;
                first_links = λ w l h. absurd h;
                stored = λ j l h. absurd h;
                claim = λ c k h. absurd h;
                ever = λ h. absurd h;
              };
            })
            (snoc_at views1 (given_by p v) u x e);
        total = let a = total_set s.views id v (giver_by p v) at in let b = parts_live v live in let c = parts_live (giver_by p v) live in let d = total_append views1 (given_by p v) in let t = kept.total in omega arith;
        owner = λ b j lt ne. let o = still s.views id v (giver_by p v) (who b j) at live (kept.owner b j lt ne) in record { seat = o.seat; view = o.view; at = at_longer views1 (given_by p v ∷ []) o.seat o.view o.at; live = o.live; is = o.is };
      }

pub splits : (key : Geometry) (id : ℕ) (v : View) → v.live ≡ true → 3 ≤ v.parts → Splits (Rule key) id v (giver v) (given_view v)
splits key id v live many s (who, kept) at = (who, splits_kept key id v 2 live (omega arith) (omega arith) s who kept at)

pub lends : (key : Geometry) (id : ℕ) (v : View) → v.live ≡ true → 2 ≤ v.parts → Splits (Rule key) id v (lender v) (lent_view v)
lends key id v live many s (who, kept) at = (who, splits_kept key id v 1 live (omega arith) (omega arith) s who kept at)

-- what n becomes where the seat id takes all that o has
abbrev pub taken_over : ℕ → ℕ → ℕ → ℕ
taken_over id o n = if n == o + 1 then id + 1 else n

over_hit : (id o n : ℕ) → n ≡ o + 1 → taken_over id o n ≡ id + 1
over_hit id o n e = ap (λ (t : Bool). if t then id + 1 else n) (eq-eqb n (o + 1) e)

over_miss : (id o n : ℕ) → n ≢ o + 1 → taken_over id o n ≡ n
over_miss id o n e = ap (λ (t : Bool). if t then id + 1 else n) (ne_eqb n (o + 1) e)

-- from what it became, what it was
over_back : (id o n x : ℕ) → taken_over id o n ≡ x → ((n ≡ o + 1) × (x ≡ id + 1)) ⊎ ((n ≢ o + 1) × (n ≡ x))
over_back id o n x e = ⊎_elim (λ (t : n ≡ o + 1). inl (t, sym e ∙ over_hit id o n t)) (λ (t : n ≡ o + 1 → ⊥). inr (t, sym (over_miss id o n t) ∙ e)) (cases_eq n (o + 1))

over_zero : (id o n : ℕ) → n ≡ 0 → taken_over id o n ≡ 0
over_zero id o n e = over_miss id o n (λ t. omega arith) ∙ e

zero_over : (id o n : ℕ) → taken_over id o n ≡ 0 → n ≡ 0
zero_over id o n e = ⊎_elim (λ (t : (n ≡ o + 1) × (0 ≡ id + 1)). let y = t.1 in absurd (omega arith)) (λ (t : (n ≢ o + 1) × (n ≡ 0)). t.1) (over_back id o n 0 e)

module _ (key : Geometry) (id o b : ℕ) (z : Block) where
  abbrev pub over_z : Block
  over_z = record z { who = λ j. taken_over id o (z.who j) }

  over_block : BlockKeeps key b z → BlockKeeps key b over_z
  over_block ok = record {
    gen = ok.gen;
    small = ok.small;
    kind = ⊎_elim
        (λ (f : Unassigned key b z). inl record { word = f.word; who = λ j. over_zero id o (z.who j) (f.who j); page = f.page; bare = f.bare })
        (λ (f : BeingClaimed z ⊎ Ready key b z). inr (⊎_elim
        (λ (g : BeingClaimed z). inl (⊎_elim
        (λ (t : g.by ≡ o). record { state = g.state; by = id; who = λ j. over_hit id o (z.who j) (g.who j ∙ ap (λ (n : ℕ). n + 1) t) })
        (λ (t : g.by ≡ o → ⊥). record { state = g.state; by = g.by; who = λ j. over_miss id o (z.who j) (λ y. let q = g.who j in t (omega arith)) ∙ g.who j })
        (cases_eq g.by o)))
        (λ (g : Ready key b z). inr record {
          least = g.least;
          most = g.most;
          chain = g.chain;
          links = g.links;
          free = g.free;
          distinct = g.distinct;
          inside = λ j n. g.inside j (λ y. n (over_zero id o (z.who j) y));
          here = λ j h. let t = g.here j h in (t.0, over_zero id o (z.who j) t.1, t.2);
          full = λ j l w. g.full j l (zero_over id o (z.who j) w);
          rest = g.rest;
        })
        f))
        ok.kind;
  }

  over_rely : (x : ℕ) → x ≢ id → x ≢ o → Rely key b x z over_z
  over_rely x n n' =
      let fwd : (j : ℕ) → z.who j ≡ x + 1 → taken_over id o (z.who j) ≡ x + 1 = λ j w. over_miss id o (z.who j) (λ y. n' (omega arith)) ∙ w in
      record {
        who = fwd;
        homes = λ j w. refl;
        links = λ j w. refl;
        state = λ j w r. refl;
        back = λ j w. ⊎_elim (λ (t : (z.who j ≡ o + 1) × (x + 1 ≡ id + 1)). let y = t.1 in absurd (n (omega arith))) (λ (t : (z.who j ≢ o + 1) × (z.who j ≡ x + 1)). t.1) (over_back id o (z.who j) (x + 1) w);
        knows = λ y k. k;
        first_links = λ y l s. record { known = s.known; link = s.link };
        claim = λ c k t. record { state = t.state; gen = t.gen; least = t.least; most = t.most; cut = t.cut; who = λ j. fwd j (t.who j); done = t.done; bare = t.bare };
        ever = λ h. h;
      }

in_both : {A : Type 0} (x : A) (xs ys : List A) → In x (xs ++ ys) → In x xs ⊎ In x ys
in_both x [] ys h = inr h
in_both x (y ∷ xs) ys h = ⊎_elim (λ (t : x ≡ y). inl (inl t)) (λ (t : In x (xs ++ ys)). ⊎_elim (λ (u : In x xs). inl (inr u)) (λ (u : In x ys). inr u) (in_both x xs ys t)) h

pub in_left : {A : Type 0} (x : A) (xs ys : List A) → In x xs → In x (xs ++ ys)
in_left x [] ys h = absurd h
in_left x (y ∷ xs) ys h = ⊎_elim (λ (t : x ≡ y). inl t) (λ (t : In x xs). inr (in_left x xs ys t)) h

pub in_right : {A : Type 0} (x : A) (xs ys : List A) → In x ys → In x (xs ++ ys)
in_right x [] ys h = h
in_right x (y ∷ xs) ys h = inr (in_right x xs ys h)

module _ (key : Geometry) (id : ℕ) (v : View) (o : ℕ) (w : View) where
  joined_seat : (b : ℕ) (z : Block) → w.claim ≡ [] → v.vacant ≡ [] → w.vacant ≡ [] → SeatKeepsAt key id v b z → SeatKeepsAt key o w b z → SeatKeepsAt key id (joined v w) b (over_z key id o b z)
  joined_seat b z none vout wout g h =
      let mine : (j : ℕ) → z.who j ≡ id + 1 → taken_over id o (z.who j) ≡ id + 1 = λ j e. ⊎_elim (λ (t : z.who j ≡ o + 1). over_hit id o (z.who j) t) (λ (t : z.who j ≡ o + 1 → ⊥). over_miss id o (z.who j) t ∙ e) (cases_eq (z.who j) (o + 1)) in
      record {
        hand = λ j c x. ⊎_elim
            (λ (t : In (held b j c) w.hand). let p = h.hand j c t in record { who = over_hit id o (z.who j) p.who; state = p.state; ready = p.ready; bare = λ _. p.bare (nothing w.vacant wout (vacant b j)) })
            (λ (t : In (held b j c) v.hand). let p = g.hand j c t in record { who = mine j p.who; state = p.state; ready = p.ready; bare = λ _. p.bare (nothing v.vacant vout (vacant b j)) })
            (in_both (held b j c) w.hand v.hand x);
        mine = λ j e. ⊎_elim
            (λ (t : (z.who j ≡ o + 1) × (id + 1 ≡ id + 1)). ⊎_elim (λ (y : (c : ℕ) × In (held b j c) w.hand). inl (y.0, in_left (held b j y.0) w.hand v.hand y.1))
            (λ (y : (c : ℕ) × (k : ℕ) × In (claim b c k) w.claim). absurd (nothing w.claim none (claim b y.0 y.1) y.2)) (h.mine j t.0))
            (λ (t : (z.who j ≢ o + 1) × (z.who j ≡ id + 1)). ⊎_elim (λ (y : (c : ℕ) × In (held b j c) v.hand). inl (y.0, in_right (held b j y.0) w.hand v.hand y.1))
            (λ (y : (c : ℕ) × (k : ℕ) × In (claim b c k) v.claim). inr y) (g.mine j t.1))
            (over_back id o (z.who j) (id + 1) e);
        knows = g.knows;
        first_links = λ n l x. let t = g.first_links n l x in record { known = t.known; link = t.link };
        stored = λ j l x. absurd x;
        claim = λ c k x. let t = g.claim c k x in record { state = t.state; gen = t.gen; least = t.least; most = t.most; cut = t.cut; who = λ j. mine j (t.who j); done = t.done; bare = t.bare };
        ever = g.ever;
      }

  joins_kept : v.live ≡ true → w.live ≡ true → w.claim ≡ [] → v.vacant ≡ [] → w.vacant ≡ [] → (s : World) (who : ℕ → ℕ → ℕ) → RuleWith key s who → get_elem? s.views id ≡ m.some v → o ≢ id → get_elem? s.views o ≡ m.some w
      → RuleWith key record { words = s.words; homes = s.homes; views = set (set s.views id (joined v w)) o spent_view } (λ b j. taken_over id o (who b j))
  joins_kept live live' none vout wout s who kept at ne at' =
      let f = kept.seats id v at live in
      let f' = kept.seats o w at' live' in
      let sc : ℕ → Block = block_of key s.words s.homes who in
      let who' : ℕ → ℕ → ℕ = λ b j. taken_over id o (who b j) in
      let sc' : ℕ → Block = block_of key s.words s.homes who' in
      let views1 : List View = set s.views id (joined v w) in
      let at1 : get_elem? views1 o ≡ m.some w = set_else s.views id o (joined v w) ne ∙ at' in
      let here : get_elem? (set views1 o spent_view) id ≡ m.some (joined v w) = set_else views1 o id spent_view (λ e. ne (sym e)) ∙ set_there s.views id v (joined v w) at in
      record {
        words = kept.words;
        homes = kept.homes;
        gen = kept.gen;
        blocks = λ b lt. over_block key id o b (sc b) (kept.blocks b lt);
        seats = λ x u e l. ⊎_elim
            (λ (t : (x ≡ o) × (spent_view ≡ u)). let y : u.live ≡ false = ap (λ (q : View). q.live) (sym t.1) in absurd (cc))
            (λ (t : (x ≢ o) × (get_elem? views1 x ≡ m.some u)). ⊎_elim
            (λ (y : (x ≡ id) × (joined v w ≡ u)). subst (λ (q : View). SeatKeeps key x q sc') y.1 (subst (λ (i : ℕ). SeatKeeps key i (joined v w) sc') (sym y.0) record {
              geometry = f.geometry;
              some_parts = let p = f.some_parts in omega arith;
              inside = λ b j c h. ⊎_elim (λ (q : In (held b j c) w.hand). f'.inside b j c q) (λ (q : In (held b j c) v.hand). f.inside b j c q) (in_both (held b j c) w.hand v.hand h);
              once = once_append w.hand v.hand f'.once f.once (λ b j c d h k. let l = f'.inside b j c h in let p = ((f'.at b l).hand j c h).who in let q = ((f.at b l).hand j d k).who in ne (omega arith));
              at = λ b lt. joined_seat b (sc b) none vout wout (f.at b lt) (f'.at b lt);
            }))
            (λ (y : (x ≢ id) × (get_elem? s.views x ≡ m.some u)). let g = kept.seats x u y.1 l in record {
              geometry = g.geometry;
              some_parts = g.some_parts;
              inside = g.inside;
              once = g.once;
              at = λ b lt. rely key b x u (sc b) (sc' b) (over_rely key id o b (sc b) x y.0 t.0) (g.at b lt);
            })
            (at_set s.views id x (joined v w) u t.1))
            (at_set views1 o x spent_view u e);
        total = let a = total_set s.views id v (joined v w) at in let b = total_set views1 o w spent_view at1 in let c = parts_live v live in let d = parts_live w live' in let e = parts_live (joined v w) live in let t = kept.total in omega arith;
        owner = λ b j lt ne0.
            let q = kept.owner b j lt (λ y. ne0 (over_zero id o (who b j) y)) in
            ⊎_elim
            (λ (t : q.seat ≡ o). record { seat = id; view = joined v w; at = here; live = live; is = over_hit id o (who b j) (q.is ∙ ap (λ (n : ℕ). n + 1) t) })
            (λ (t : q.seat ≡ o → ⊥).
            let is : taken_over id o (who b j) ≡ q.seat + 1 = over_miss id o (who b j) (λ y. let p = q.is in t (omega arith)) ∙ q.is in ⊎_elim
            (λ (y : q.seat ≡ id). record { seat = id; view = joined v w; at = here; live = live; is = is ∙ ap (λ (n : ℕ). n + 1) y })
            (λ (y : q.seat ≡ id → ⊥). record { seat = q.seat; view = q.view; at = set_else views1 o q.seat spent_view t ∙ (set_else s.views id q.seat (joined v w) y ∙ q.at); live = q.live; is = is })
            (cases_eq q.seat id))
            (cases_eq q.seat o);
      }

  pub joins : v.live ≡ true → w.live ≡ true → w.claim ≡ [] → v.vacant ≡ [] → w.vacant ≡ [] → Joins (Rule key) id v o w (joined v w) spent_view
  joins live live' none vout wout s (who, kept) at ne at1 = ((λ b j. taken_over id o (who b j)), joins_kept live live' none vout wout s who kept at ne (sym (set_else s.views id o (joined v w) ne) ∙ at1))
