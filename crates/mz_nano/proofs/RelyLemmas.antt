-- What a step of one seat leaves to the others.
use Rattle.std.proofs.Common.{◌≡◌, ◌≢◌, ℕ, ◌+◌, ◌<◌, ◌⊎◌, Bool, true, if◌then◌else◌, List, [], ◌∷◌, length, set, Option, refl, sym, ap, ◌∙◌, subst, arith, ⊎_elim, zero, suc}
use Rattle.std.proofs.lemmas.Bool.{cases_eq}
use mathlib.Core.Option as m
use mathlib.Core.Option.{some-ne-none, some-injective}
use lib.ListN.{get_elem?}
use Rattle.atomic_table.proofs.Lists.{at_set, set_else}
use Rattle.mz_ground.specs.Views.{SpanView}
use Rattle.mz_nanoword.specs.declared.word.NanoWord.{NanoWord}
use Rattle.mz_nanoword.specs.Words.{word_of}
use Rattle.mz_nano.specs.declared.view.Geometry.{Geometry}
use Rattle.mz_nano.specs.declared.view.View.{View}
use Rattle.mz_nano.specs.Lists.{In}
use Rattle.mz_nano.specs.Rule.{World, Block, block_of, BlockKeeps, KnownKeeps, FirstLinkKeeps, ClaimKeeps, IsReady, SeatKeepsAt, SeatKeeps, Owner, RuleWith, held, Once, parts_of, total}

pub set_there : {A : Type 0} (l : List A) (i : ℕ) (a b : A) → get_elem? l i ≡ m.some a → get_elem? (set l i b) i ≡ m.some b
set_there [] i a b e = absurd (some-ne-none a (sym e))
set_there (x ∷ xs) zero a b e = refl
set_there (x ∷ xs) (suc i) a b e = set_there xs i a b e

pub parts_live : (v : View) → v.live ≡ true → parts_of v ≡ v.parts
parts_live v e = ap (λ (t : Bool). if t then v.parts else 0) e

pub total_set : (views : List View) (i : ℕ) (v v' : View) → get_elem? views i ≡ m.some v → total (set views i v') + parts_of v ≡ total views + parts_of v'
total_set [] i v v' e = absurd (some-ne-none v (sym e))
total_set (x ∷ xs) zero v v' e = let t : parts_of x ≡ parts_of v = ap parts_of (some-injective x v e) in omega arith
total_set (x ∷ xs) (suc i) v v' e = let t = total_set xs i v v' e in omega arith

pub total_same : (views : List View) (i : ℕ) (v v' : View) → get_elem? views i ≡ m.some v → v.live ≡ true → v'.live ≡ true → v'.parts ≡ v.parts → total (set views i v') ≡ total views
total_same views i v v' at l l' e = let t = total_set views i v v' at in let a = parts_live v l in let b = parts_live v' l' in omega arith

-- what the seat i may count on when another steps
pub record Rely (key : Geometry) (b i : ℕ) (z z' : Block) : Type 0 where
  pub who : (j : ℕ) → z.who j ≡ i + 1 → z'.who j ≡ i + 1
  pub homes : (j : ℕ) → z.who j ≡ i + 1 → z.homes j ≡ z'.homes j
  pub links : (j : ℕ) → z.who j ≡ i + 1 → z.links j ≡ z'.links j
  pub state : (j : ℕ) → z.who j ≡ i + 1 → IsReady z.word → z.word.state ≡ z'.word.state
  pub back : (j : ℕ) → z'.who j ≡ i + 1 → z.who j ≡ i + 1
  pub knows : (y : NanoWord) → KnownKeeps key.most_gen z.word y → KnownKeeps key.most_gen z'.word y
  pub first_links : (y : NanoWord) (l : ℕ) → FirstLinkKeeps key.most_gen z y l → FirstLinkKeeps key.most_gen z' y l
  pub claim : (c k : ℕ) → ClaimKeeps key i b c k z → ClaimKeeps key i b c k z'
  pub ever : z.word.state ≢ 0 → z'.word.state ≢ 0

pub rely : (key : Geometry) (b i : ℕ) (v : View) (z z' : Block) → Rely key b i z z' → SeatKeepsAt key i v b z → SeatKeepsAt key i v b z'
rely key b i v z z' r s = record {
  hand = λ j c h. let p = s.hand j c h in let q = r.state j p.who p.ready in let y = p.ready in record {
    who = r.who j p.who;
    state = sym q ∙ p.state;
    ready = (omega arith, omega arith);
    bare = λ n. sym (r.homes j p.who) ∙ p.bare n;
  };
  mine = λ j w. s.mine j (r.back j w);
  knows = λ w h. r.knows (word_of w) (s.knows w h);
  first_links = λ w l h. r.first_links (word_of w) l (s.first_links w l h);
  stored = λ j l h w. sym (r.links j (r.back j w)) ∙ s.stored j l h (r.back j w);
  claim = λ c k h. r.claim c k (s.claim c k h);
  ever = λ h. r.ever (s.ever h);
}

pub still : (views : List View) (i : ℕ) (v v' : View) (n : ℕ) → get_elem? views i ≡ m.some v → v'.live ≡ true → Owner views n → Owner (set views i v') n
still views i v v' n at live o = ⊎_elim
    (λ (e : o.seat ≡ i). record { seat = i; view = v'; at = set_there views i v v' at; live = live; is = o.is ∙ ap (λ (x : ℕ). x + 1) e })
    (λ (e : o.seat ≡ i → ⊥). record { seat = o.seat; view = o.view; at = set_else views i o.seat v' e ∙ o.at; live = o.live; is = o.is })
    (cases_eq o.seat i)

-- a step of the seat i that touches the block b0 alone
pub moves : (key : Geometry) (s : World) (who who' : ℕ → ℕ → ℕ) (i : ℕ) (v v' : View) (b0 : ℕ) (words' : List ℕ) (homes' : List (m.Option (Option SpanView)))
    → RuleWith key s who → get_elem? s.views i ≡ m.some v → v.live ≡ true → v'.live ≡ true
    → length words' ≡ length s.words → length homes' ≡ length s.homes
    → (v'.geometry ≡ v.geometry) × (v'.parts ≡ v.parts) → ((b j c : ℕ) → In (held b j c) v'.hand → b < key.blocks) × Once v'.hand
    → ((b : ℕ) → b < key.blocks → b ≢ b0 → block_of key s.words s.homes who b ≡ block_of key words' homes' who' b)
    → BlockKeeps key b0 (block_of key words' homes' who' b0)
    → ((b : ℕ) (z : Block) → b ≢ b0 → SeatKeepsAt key i v b z → SeatKeepsAt key i v' b z)
    → SeatKeepsAt key i v' b0 (block_of key words' homes' who' b0)
    → ((x : ℕ) → x ≢ i → Rely key b0 x (block_of key s.words s.homes who b0) (block_of key words' homes' who' b0))
    → ((j : ℕ) → who' b0 j ≢ 0 → (who' b0 j ≡ who b0 j) ⊎ (who' b0 j ≡ i + 1))
    → RuleWith key record { words = words'; homes = homes'; views = set s.views i v' } who'
moves key s who who' i v v' b0 words' homes' kept at live live' lw lh geometry inside else_ block mine_else mine others owns =
    let f = kept.seats i v at live in
    let sc : ℕ → Block = block_of key s.words s.homes who in
    let sc' : ℕ → Block = block_of key words' homes' who' in
    record {
      words = lw ∙ kept.words;
      homes = lh ∙ kept.homes;
      gen = kept.gen;
      blocks = λ b lt. ⊎_elim
          (λ (e : b ≡ b0). subst (λ (x : ℕ). BlockKeeps key x (sc' x)) (sym e) block)
          (λ (e : b ≡ b0 → ⊥). subst (BlockKeeps key b) (else_ b lt e) (kept.blocks b lt))
          (cases_eq b b0);
      seats = λ x u ux ul. ⊎_elim
          (λ (t : (x ≡ i) × (v' ≡ u)). subst (λ (w : View). SeatKeeps key x w sc') t.1 (subst (λ (y : ℕ). SeatKeeps key y v' sc') (sym t.0) record {
            geometry = geometry.0 ∙ f.geometry;
            some_parts = let p = f.some_parts in let q = geometry.1 in omega arith;
            inside = inside.0;
            once = inside.1;
            at = λ b lt. ⊎_elim
                (λ (e : b ≡ b0). subst (λ (y : ℕ). SeatKeepsAt key i v' y (sc' y)) (sym e) mine)
                (λ (e : b ≡ b0 → ⊥). mine_else b (sc' b) e (subst (SeatKeepsAt key i v b) (else_ b lt e) (f.at b lt)))
                (cases_eq b b0);
          }))
          (λ (t : (x ≢ i) × (get_elem? s.views x ≡ m.some u)).
          let g = kept.seats x u t.1 ul in record {
            geometry = g.geometry;
            some_parts = g.some_parts;
            inside = g.inside;
            once = g.once;
            at = λ b lt. ⊎_elim
                (λ (e : b ≡ b0). subst (λ (y : ℕ). SeatKeepsAt key x u y (sc' y)) (sym e) (rely key b0 x u (sc b0) (sc' b0) (others x t.0) (subst (λ (y : ℕ). SeatKeepsAt key x u y (sc y)) e (g.at b lt))))
                (λ (e : b ≡ b0 → ⊥). subst (SeatKeepsAt key x u b) (else_ b lt e) (g.at b lt))
                (cases_eq b b0);
          })
          (at_set s.views i x v' u ux);
      total = total_same s.views i v v' at live live' geometry.1 ∙ kept.total;
      owner = λ b j lt ne.
          let old : who' b j ≡ who b j → Owner (set s.views i v') (who' b j) = λ e. subst (Owner (set s.views i v')) (sym e) (still s.views i v v' (who b j) at live' (kept.owner b j lt (λ y. ne (e ∙ y)))) in
          ⊎_elim
          (λ (e : b ≡ b0). ⊎_elim
          (λ (t : who' b0 j ≡ who b0 j). old (subst (λ (y : ℕ). who' y j ≡ who y j) (sym e) t))
          (λ (t : who' b0 j ≡ i + 1). record { seat = i; view = v'; at = set_there s.views i v v' at; live = live'; is = ap (λ (y : ℕ). who' y j) e ∙ t })
          (owns j (λ y. ne (ap (λ (x : ℕ). who' x j) e ∙ y))))
          (λ (e : b ≡ b0 → ⊥). old (ap (λ (z : Block). z.who j) (sym (else_ b lt e))))
          (cases_eq b b0);
    }
