-- What a write of a word or a place does to the blocks.
use Rattle.std.proofs.Common.{◌≡◌, ◌≢◌, ℕ, ◌+◌, ◌*◌, ◌<◌, Bool, true, false, if◌then◌else◌, nat_lt, List, length, get_or, set, Option, refl, sym, ap, ◌∙◌, arith, lt-ltb, ltb-true, get_or-set_same}
use Rattle.std.proofs.lemmas.List.{get_or-set_other}
use mathlib.Core.Option as m
use lib.ListN.{get_elem?}
use Rattle.atomic_table.proofs.Lists.{set_else, set_here}
use Rattle.mz_ground.specs.Views.{SpanView}
use Rattle.mz_nano.specs.Rule.{Block, Home, link_at, home_at}

pub same_block : (z z' : Block) → z.word ≡ z'.word → ((j : ℕ) → z.links j ≡ z'.links j) → ((j : ℕ) → z.homes j ≡ z'.homes j) → ((j : ℕ) → z.who j ≡ z'.who j) → z ≡ z'
same_block z z' a b c d k = record { word = a k; links = λ j. b j k; homes = λ j. c j k; who = λ j. d j k }

module _ {A : Type 0} where
  guarded : (t : Bool) (x y d : A) → (t ≡ true → x ≡ y) → (if t then x else d) ≡ (if t then y else d)
  guarded true x y d f = f refl
  guarded false x y d f = refl

  pub open_ : (t : Bool) (x d : A) → t ≡ true → (if t then x else d) ≡ x
  open_ t x d e = ap (λ (u : Bool). if u then x else d) e

pub link_word : (blocks : ℕ) (words : List ℕ) (b0 n b j : ℕ) → b0 < blocks → link_at blocks (set words b0 n) b j ≡ link_at blocks words b j
link_word blocks words b0 n b j l = ap (λ (m : ℕ). if nat_lt j 1024 then m else 0) (get_or-set_other words b0 (blocks + b * 1024 + j) n 0 (λ e. omega arith))

pub word_word : (words : List ℕ) (b0 n b : ℕ) → b ≢ b0 → get_or (set words b0 n) b 0 ≡ get_or words b 0
word_word words b0 n b h = get_or-set_other words b0 b n 0 h

pub word_link : (blocks : ℕ) (words : List ℕ) (b0 j0 n b : ℕ) → b < blocks → get_or (set words (blocks + b0 * 1024 + j0) n) b 0 ≡ get_or words b 0
word_link blocks words b0 j0 n b l = get_or-set_other words (blocks + b0 * 1024 + j0) b n 0 (λ e. omega arith)

pub link_other : (blocks : ℕ) (words : List ℕ) (b0 j0 n b j : ℕ) → j0 < 1024 → (b ≡ b0 → j ≡ j0 → ⊥) → link_at blocks (set words (blocks + b0 * 1024 + j0) n) b j ≡ link_at blocks words b j
link_other blocks words b0 j0 n b j l h = guarded (nat_lt j 1024) (get_or (set words (blocks + b0 * 1024 + j0) n) (blocks + b * 1024 + j) 0) (get_or words (blocks + b * 1024 + j) 0) 0
    (λ t. let lt : j < 1024 = ltb-true j 1024 t in get_or-set_other words (blocks + b0 * 1024 + j0) (blocks + b * 1024 + j) n 0 (λ e. h (omega arith) (omega arith)))

pub link_same : (blocks : ℕ) (words : List ℕ) (b0 j0 n : ℕ) → j0 < 1024 → b0 < blocks → length words ≡ blocks * 1025 → link_at blocks (set words (blocks + b0 * 1024 + j0) n) b0 j0 ≡ n
link_same blocks words b0 j0 n l lb e = open_ (nat_lt j0 1024) (get_or (set words (blocks + b0 * 1024 + j0) n) (blocks + b0 * 1024 + j0) 0) 0 (lt-ltb j0 1024 l)
    ∙ get_or-set_same words (blocks + b0 * 1024 + j0) n 0 (omega arith)

module _ (homes : List (m.Option (Option SpanView))) (b0 j0 : ℕ) (x : m.Option (Option SpanView)) where
  pub home_other : (b j : ℕ) → j0 < 1025 → (b ≡ b0 → j ≡ j0 → ⊥) → home_at (set homes (b0 * 1025 + j0) x) b j ≡ home_at homes b j
  home_other b j l h = guarded {A = Home} (nat_lt j 1025) (get_elem? (set homes (b0 * 1025 + j0) x) (b * 1025 + j)) (get_elem? homes (b * 1025 + j)) m.none
      (λ t. let lt : j < 1025 = ltb-true j 1025 t in set_else homes (b0 * 1025 + j0) (b * 1025 + j) x (λ e. h (omega arith) (omega arith)))

  pub home_same : (blocks : ℕ) → j0 < 1025 → b0 < blocks → length homes ≡ blocks * 1025 → home_at (set homes (b0 * 1025 + j0) x) b0 j0 ≡ m.some x
  home_same blocks l lb e = open_ {A = Home} (nat_lt j0 1025) (get_elem? (set homes (b0 * 1025 + j0) x) (b0 * 1025 + j0)) m.none (lt-ltb j0 1025 l)
      ∙ set_here homes (b0 * 1025 + j0) x (omega arith)

-- the place itself, where it is known at home
pub home_there : (homes : List (m.Option (Option SpanView))) (b j : ℕ) (x : Home) → j < 1025 → home_at homes b j ≡ x → get_elem? homes (b * 1025 + j) ≡ x
home_there homes b j x l e = sym (open_ {A = Home} (nat_lt j 1025) (get_elem? homes (b * 1025 + j)) m.none (lt-ltb j 1025 l)) ∙ e
