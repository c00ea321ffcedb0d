-- The table at the start keeps the rule.
use Rattle.std.proofs.Common.{◌≡◌, ℕ, zero, suc, ◌+◌, ◌-◌, ◌*◌, ◌<◌, ◌≤◌, Bool, true, false, if◌then◌else◌, nat_lt, List, [], ◌∷◌, ◌++◌, length, get_or, map, replicate, Option, Some, None, refl, sym, ap, ◌∙◌, subst, arith, inl, ⊎_elim, lt-ltb, length-append}
use Rattle.std.proofs.lemmas.Bool.{cases_lt}
use mathlib.Core.Option as m
use mathlib.Core.Option.{some-ne-none, some-injective}
use lib.ListN.{get_elem?}
use Rattle.atomic_table.specs.Table.{opening}
use Rattle.atomic_table.proofs.Lists.{at_map, at_longer}
use Rattle.mz_ground.specs.Views.{SpanView}
use Rattle.mz_nanoword.specs.Words.{word_of}
use Rattle.mz_nano.specs.declared.view.Geometry.{Geometry}
use Rattle.mz_nano.specs.declared.view.View.{View}
use Rattle.mz_nano.specs.Rule.{Block, Home, block_of, IsPiece, BlockKeeps, SeatKeeps, Rule, first_view}
use Rattle.mz_nano.specs.Laid.{Laid}
use Rattle.mz_nano.proofs.BlockLemmas.{open_}
use Rattle.mz_nano.proofs.SlotSteps.{zero_gen}

abbrev naughts : ℕ → List ℕ
naughts n = replicate n 0

zeros : (n i : ℕ) → get_or (naughts n) i 0 ≡ 0
zeros zero i = refl
zeros (suc n) zero = refl
zeros (suc n) (suc i) = zeros n i

small_if : (t : Bool) (x : ℕ) → x ≡ 0 → (if t then x else 0) ≤ 1024
small_if true x e = omega arith
small_if false x e = omega arith

mapped : (xs : List (Option SpanView)) → length (map m.some xs) ≡ length xs
mapped [] = refl
mapped (x ∷ xs) = let t = mapped xs in omega arith

length_zeros : (n : ℕ) → length (naughts n) ≡ n
length_zeros zero = refl
length_zeros (suc n) = let t = length_zeros n in omega arith

module _ (key : Geometry) (ws : List ℕ) (xs : List (Option SpanView)) (zs : ws ≡ replicate (key.blocks * 1025) 0) (laid : Laid key key.blocks xs) (gen : key.most_gen < 68719476736) (some' : 1 ≤ key.seats) where
  word0 : (i : ℕ) → get_or ws i 0 ≡ 0
  word0 i = ap (λ (l : List ℕ). get_or l i 0) zs ∙ zeros (key.blocks * 1025) i

  home0 : (b j : ℕ) (x : Option SpanView) → j < 1025 → get_elem? xs (b * 1025 + j) ≡ m.some x → (if nat_lt j 1025 then get_elem? (map m.some xs) (b * 1025 + j) else m.none) ≡ m.some (m.some x)
  home0 b j x l e = open_ {A = Home} (nat_lt j 1025) (get_elem? (map m.some xs) (b * 1025 + j)) m.none (lt-ltb j 1025 l) ∙ at_map m.some xs (b * 1025 + j) x e

  fresh0 : (b : ℕ) → b < key.blocks → BlockKeeps key b (block_of key ws (map m.some xs) (λ b j. 0) b)
  fresh0 b lt =
      let p = laid.page b lt in record {
        gen = let e : (word_of (get_or ws b 0)).generation ≡ 0 = ap (λ (n : ℕ). (word_of n).generation) (word0 b) ∙ zero_gen in omega arith;
        small = λ j. small_if (nat_lt j 1024) (get_or ws (key.blocks + b * 1024 + j) 0) (word0 (key.blocks + b * 1024 + j));
        kind = inl record {
          word = ap word_of (word0 b);
          who = λ j. refl;
          page = (p.0, home0 b 0 (Some p.0) (omega arith) (let e : b * 1025 + 0 ≡ b * 1025 = omega arith in ap (get_elem? xs) e ∙ p.1), p.2);
          bare = λ j l h. home0 b j None (omega arith) (laid.bare b j lt l h);
        };
      }

  seat0 : (sc : ℕ → Block) → ((b j : ℕ) → (sc b).who j ≡ 0) → SeatKeeps key 0 (first_view key) sc
  seat0 sc w = record {
    geometry = refl;
    some_parts = omega arith;
    inside = λ b j c h. absurd h;
    once = tt;
    at = λ b lt. record { hand = λ j c h. absurd h; mine = λ j e. let t = w b j in absurd (omega arith); knows = λ n h. absurd h; first_links = λ n l h. absurd h; stored = λ j l h. absurd h; claim = λ c k h. absurd h; ever = λ h. absurd h };
  }

  first_only : (i : ℕ) (v : View) → get_elem? (first_view key ∷ []) i ≡ m.some v → (i ≡ 0) × (first_view key ≡ v)
  first_only zero v e = (refl, some-injective (first_view key) v e)
  first_only (suc i) v e = absurd (some-ne-none v (sym e))

  pub opens : Rule key (opening ws xs (first_view key))
  opens = (
    (λ b j. 0),
    record {
      words = ap length zs ∙ length_zeros (key.blocks * 1025);
      homes = mapped xs ∙ laid.len;
      gen = gen;
      blocks = fresh0;
      seats = λ i v e l. let t = first_only i v e in subst (λ (j : ℕ). SeatKeeps key j v (block_of key ws (map m.some xs) (λ b j. 0))) (sym t.0) (subst (λ (u : View). SeatKeeps key 0 u (block_of key ws (map m.some xs) (λ b j. 0))) t.1 (seat0 (block_of key ws (map m.some xs) (λ b j. 0)) (λ b j. refl)));
      total = omega arith;
      owner = λ b j lt ne. absurd (ne refl);
    },
  )

nones : {A : Type 0} (x : A) (n j : ℕ) → j < n → get_elem? (replicate n x) j ≡ m.some x
nones x zero j l = absurd (omega arith)
nones x (suc n) zero l = refl
nones x (suc n) (suc j) l = nones x n j (omega arith)

nones_length : {A : Type 0} (x : A) (n : ℕ) → length (replicate n x) ≡ n
nones_length x zero = refl
nones_length x (suc n) = let t = nones_length x n in omega arith

after : {A : Type 0} (xs ys : List A) (j i : ℕ) → i ≡ length xs + j → get_elem? (xs ++ ys) i ≡ get_elem? ys j
after [] ys j i e = ap (get_elem? ys) (omega arith)
after (x ∷ xs) ys j zero e = absurd (omega arith)
after (x ∷ xs) ys j (suc i) e = after xs ys j i (omega arith)

-- one more page
pub laid_more : (key : Geometry) (k : ℕ) (xs : List (Option SpanView)) (s : SpanView) → Laid key k xs → IsPiece key k 0 16384 s → Laid key (k + 1) ((xs ++ Some s ∷ []) ++ replicate 1024 None)
laid_more key k xs s laid piece =
    let ys : List (Option SpanView) = xs ++ Some s ∷ [] in
    let ns : List (Option SpanView) = replicate 1024 None in
    let len : length ys ≡ k * 1025 + 1 = omega (arith, length-append xs (Some s ∷ []), laid.len) in
    record {
      len = omega (arith, length-append ys ns, len, nones_length {A = Option SpanView} None 1024);
      page = λ b l. ⊎_elim
          (λ (t : b < k). let p = laid.page b t in (p.0, at_longer ys ns (b * 1025) (Some p.0) (at_longer xs (Some s ∷ []) (b * 1025) (Some p.0) p.1), p.2))
          (λ (t : k ≤ b). let e : b ≡ k = omega arith in let ll = laid.len in
          (s, at_longer ys ns (b * 1025) (Some s) (after xs (Some s ∷ []) 0 (b * 1025) (omega arith)), subst (λ (x : ℕ). IsPiece key x 0 16384 s) (sym e) piece))
          (cases_lt b k);
      bare = λ b j l h g. ⊎_elim
          (λ (t : b < k). at_longer ys ns (b * 1025 + j) None (at_longer xs (Some s ∷ []) (b * 1025 + j) None (laid.bare b j t h g)))
          (λ (t : k ≤ b). after ys ns (j - 1) (b * 1025 + j) (omega arith) ∙ nones None 1024 (j - 1) (omega arith))
          (cases_lt b k);
    }

pub laid_none : (key : Geometry) → Laid key 0 []
laid_none key = record { len = omega arith; page = λ b l. absurd (omega arith); bare = λ b j l. absurd (omega arith) }
