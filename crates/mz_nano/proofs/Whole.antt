-- Changes of one seat's view, of who has a slot, and what a word shows.
use Rattle.std.proofs.Common.{◌≡◌, ◌≢◌, ℕ, ◌^◌, ◌<◌, ◌≤◌, ◌==◌, ◌&&◌, ◌⊎◌, Bool, true, false, if◌then◌else◌, List, [], ◌∷◌, length, set, refl, sym, ap, ◌∙◌, subst, arith, inl, inr, ⊎_elim, eq-eqb, ne_eqb}
use mathlib.Core.Option as m
use lib.ListN.{get_elem?}
use Rattle.atomic_table.proofs.Lists.{at_set}
use Rattle.mz_nanoword.specs.declared.word.NanoWord.{NanoWord}
use Rattle.mz_nanoword.specs.Words.{word_of}
use Rattle.mz_nano.specs.declared.view.Geometry.{Geometry}
use Rattle.mz_nano.specs.declared.view.View.{View}
use Rattle.mz_nano.specs.Lists.{In, Chain}
use Rattle.mz_nano.specs.Rule.{World, Block, block_of, slots, Unassigned, BeingClaimed, Ready, BlockKeeps, IsReady, SeatKeepsAt, SeatKeeps, RuleWith, held, vacant, known, known_link, stored, claim}
use Rattle.mz_nano.specs.StepEffects.{IsSound}
use Rattle.mz_nano.proofs.MemberLemmas.{few, chain_next}
use Rattle.mz_nano.proofs.RelyLemmas.{still, total_same}
use Rattle.mz_nano.proofs.SlotSteps.{ready_of, zero_state, slots_most}

-- the view of one seat changes, and nothing else
pub noted : (key : Geometry) (s : World) (who : ℕ → ℕ → ℕ) (i : ℕ) (v v' : View) → RuleWith key s who → get_elem? s.views i ≡ m.some v → v.live ≡ true → v'.live ≡ true → v'.parts ≡ v.parts
    → SeatKeeps key i v' (block_of key s.words s.homes who) → RuleWith key record { words = s.words; homes = s.homes; views = set s.views i v' } who
noted key s who i v v' kept at was live parts ok = record {
  words = kept.words;
  homes = kept.homes;
  gen = kept.gen;
  blocks = kept.blocks;
  seats = λ x u ux ul. ⊎_elim
      (λ (t : (x ≡ i) × (v' ≡ u)). subst (λ (w : View). SeatKeeps key x w (block_of key s.words s.homes who)) t.1 (subst (λ (y : ℕ). SeatKeeps key y v' (block_of key s.words s.homes who)) (sym t.0) ok))
      (λ (t : (x ≢ i) × (get_elem? s.views x ≡ m.some u)). kept.seats x u t.1 ul)
      (at_set s.views i x v' u ux);
  total = total_same s.views i v v' at was live parts ∙ kept.total;
  owner = λ b j lt ne. still s.views i v v' (who b j) at live (kept.owner b j lt ne);
}

-- what a view has of other blocks stays
pub seat_else : (key : Geometry) (i b : ℕ) (z : Block) (v v' : View)
    → ((j c : ℕ) → In (held b j c) v'.hand → In (held b j c) v.hand)
    → ((j c : ℕ) → In (held b j c) v.hand → In (held b j c) v'.hand)
    → ((j : ℕ) → In (vacant b j) v.vacant → In (vacant b j) v'.vacant)
    → ((w : ℕ) → In (known b w) v'.known → In (known b w) v.known)
    → ((w l : ℕ) → In (known_link b w l) v'.first_links → In (known_link b w l) v.first_links)
    → ((j l : ℕ) → In (stored b j l) v'.stored → In (stored b j l) v.stored)
    → ((c k : ℕ) → In (claim b c k) v'.claim → In (claim b c k) v.claim)
    → ((c k : ℕ) → In (claim b c k) v.claim → In (claim b c k) v'.claim)
    → (In b v'.claimed → In b v.claimed)
    → SeatKeepsAt key i v b z → SeatKeepsAt key i v' b z
seat_else key i b z v v' f1 f2 f3 f4 f5 f6 f7 f8 f9 s = record {
  hand = λ j c h. let p = s.hand j c (f1 j c h) in record { who = p.who; state = p.state; ready = p.ready; bare = λ n. p.bare (λ t. n (f3 j t)) };
  mine = λ j w. ⊎_elim (λ (t : (c : ℕ) × In (held b j c) v.hand). inl (t.0, f2 j t.0 t.1)) (λ (t : (c : ℕ) × (k : ℕ) × In (claim b c k) v.claim). inr (t.0, t.1, f8 t.0 t.1 t.2)) (s.mine j w);
  knows = λ w h. s.knows w (f4 w h);
  first_links = λ w l h. s.first_links w l (f5 w l h);
  stored = λ j l h w. s.stored j l (f6 j l h) w;
  claim = λ c k h. s.claim c k (f7 c k h);
  ever = λ h. s.ever (f9 h);
}

-- the slot j0 of b0 is n's
abbrev pub slot_to : (ℕ → ℕ → ℕ) → ℕ → ℕ → ℕ → ℕ → ℕ → ℕ
slot_to who b0 j0 n b j = if (b == b0) && (j == j0) then n else who b j

pub slot_to-same : (who : ℕ → ℕ → ℕ) (b0 j0 n : ℕ) → slot_to who b0 j0 n b0 j0 ≡ n
slot_to-same who b0 j0 n = ap (λ (t : Bool). if t && (j0 == j0) then n else who b0 j0) (eq-eqb b0 b0 refl) ∙ ap (λ (t : Bool). if t then n else who b0 j0) (eq-eqb j0 j0 refl)

and_false : (x y : Bool) → y ≡ false → (x && y) ≡ false
and_false true y e = e
and_false false y e = refl

pub slot_to-slot : (who : ℕ → ℕ → ℕ) (b0 j0 n b j : ℕ) → j ≢ j0 → who b j ≡ slot_to who b0 j0 n b j
slot_to-slot who b0 j0 n b j h = ap (λ (t : Bool). if t then n else who b j) (sym (and_false (b == b0) (j == j0) (ne_eqb j j0 h)))

pub slot_to-block : (who : ℕ → ℕ → ℕ) (b0 j0 n b j : ℕ) → b ≢ b0 → who b j ≡ slot_to who b0 j0 n b j
slot_to-block who b0 j0 n b j h = ap (λ (t : Bool). if t && (j == j0) then n else who b j) (sym (ne_eqb b b0 h))

-- all slots of b0 are n's
abbrev pub block_to : (ℕ → ℕ → ℕ) → ℕ → ℕ → ℕ → ℕ → ℕ
block_to who b0 n b j = if b == b0 then n else who b j

pub block_to-same : (who : ℕ → ℕ → ℕ) (b0 n j : ℕ) → block_to who b0 n b0 j ≡ n
block_to-same who b0 n j = ap (λ (t : Bool). if t then n else who b0 j) (eq-eqb b0 b0 refl)

pub block_to-block : (who : ℕ → ℕ → ℕ) (b0 n b j : ℕ) → b ≢ b0 → who b j ≡ block_to who b0 n b j
block_to-block who b0 n b j h = ap (λ (t : Bool). if t then n else who b j) (sym (ne_eqb b b0 h))

pub same_words : (a b : ℕ) → word_of a ≡ word_of b → a ≡ b
unfolding word_of
same_words a b e =
    let next = ap (λ (x : NanoWord). x.next) e in
    let free = ap (λ (x : NanoWord). x.free) e in
    let state = ap (λ (x : NanoWord). x.state) e in
    let generation = ap (λ (x : NanoWord). x.generation) e in
    omega arith

small_word : (n : ℕ) → (word_of n).generation < 68719476736 → n < 2 ^ 63
unfolding word_of
small_word n l = omega arith

chain_first : (links : ℕ → ℕ) (n : ℕ) (xs : List ℕ) → Chain links n xs → 1 ≤ length xs → 1 ≤ n
chain_first links n [] c l = absurd (omega arith)
chain_first links n (x ∷ xs) c l = let e = c.0 in omega arith

pub sounds : (key : Geometry) (b n : ℕ) (z : Block) → key.most_gen < 68719476736 → z.word ≡ word_of n → BlockKeeps key b z → IsSound key n
sounds key b n z few' e ok =
    let Q : NanoWord → Type 0 = λ x. (x.generation ≤ key.most_gen) × (x.state ≤ 17) × (IsReady x → x.free ≤ 1024) × (IsReady x → x.next ≤ 1024) × (IsReady x → 1 ≤ x.free → (1 ≤ x.next) × (x.next ≤ 1024)) in
    let q : Q z.word = (
      ok.gen,
      ⊎_elim
          (λ (f : Unassigned key b z). let t : z.word.state ≡ 0 = ap (λ (w : NanoWord). w.state) f.word ∙ zero_state in omega arith)
          (λ (f : BeingClaimed z ⊎ Ready key b z). ⊎_elim (λ (g : BeingClaimed z). let t = g.state in omega arith) (λ (g : Ready key b z). let t = g.most in omega arith) f)
          ok.kind,
      (λ y. let r = ready_of key b z ok y in let l = few r.chain (slots z.word.state) r.distinct (λ j h. (r.here j h).0) in let t = slots_most z.word.state in let u = r.free in omega arith),
      (λ y. let r = ready_of key b z ok y in let top = chain_next z.links z.word.next r.chain (slots z.word.state) (λ j h. (r.here j h).0) r.links in let t = slots_most z.word.state in omega arith),
      (λ y l. let r = ready_of key b z ok y in let u = r.free in
          let top = chain_next z.links z.word.next r.chain (slots z.word.state) (λ j h. (r.here j h).0) r.links in let t = slots_most z.word.state in
          (chain_first z.links z.word.next r.chain r.links (omega arith), omega arith)),
    ) in
    let was_fresh : z.word.state ≡ 0 → z.word ≡ word_of 0 = λ t. ⊎_elim (λ (f : Unassigned key b z). f.word)
    (λ (f : BeingClaimed z ⊎ Ready key b z). ⊎_elim (λ (g : BeingClaimed z). let u = g.state in absurd (omega arith)) (λ (g : Ready key b z). let u = g.least in absurd (omega arith)) f) ok.kind in
    let p : Q (word_of n) = subst Q e q in
    record { small = small_word n (let t = p.0 in omega arith); gen = p.0; state = p.1; zero = λ t. same_words n 0 (sym e ∙ was_fresh (ap (λ (w : NanoWord). w.state) e ∙ t)); free = p.2; next = p.3; first = p.4 }
