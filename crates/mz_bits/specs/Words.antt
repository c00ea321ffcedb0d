-- Bits in words of 64, the lowest bit of a word first. Each word is a number below 2 ^ 64. This project's own.
use Rattle.std.specs.Prelude.{◌≡◌, ℕ, ◌+◌, ◌-◌, ◌*◌, ◌/◌, ◌%◌, ◌^◌, ◌<◌, ◌≤◌, ◌⊎◌, ◌==◌, List, Bool, not, map, length, slice_index, if◌then◌else◌}
use Rattle.std.specs.List.{range_with_len}
use Rattle.std.specs.Int.{bit_at}

-- whether bit k of a number is set
unfoldable pub is_set : ℕ → ℕ → Bool
is_set n k = bit_at n k == 1

-- bit k of words
abbrev pub bit_of : List ℕ → ℕ → Bool
bit_of words k = is_set (slice_index words (k / 64)) (k % 64)

-- the first n of their bits
unfoldable pub bits_of : List ℕ → ℕ → List Bool
bits_of words n = map (bit_of words) (range_with_len 0 n)

-- the words have room for n bits, and the number of each of their bits fits
pub record HaveRoom (words : List ℕ) (n : ℕ) : Type 0 where
  pub room : n ≤ 64 * length words
  pub small : 64 * length words < 2 ^ 64

-- no bit from i up to j is v
abbrev pub NoneIs : Bool → List ℕ → ℕ → ℕ → Type 0
NoneIs v words i j = (k : ℕ) → i ≤ k → k < j → bit_of words k ≡ not v

-- q is the least place from i up to j whose bit is v
pub record IsFirstThat (v : Bool) (words : List ℕ) (i j q : ℕ) : Type 0 where
  pub above : i ≤ q
  pub below : q < j
  pub there : bit_of words q ≡ v
  pub before : NoneIs v words i q

-- the bits of w say of those of the word, from k on, whether they are v
pub record IsRestOf (v : Bool) (word k w : ℕ) : Type 0 where
  pub few : w < 2 ^ (64 - k)
  pub same : (j : ℕ) → k + j < 64 → is_set w j ≡ (if v then is_set word (k + j) else not (is_set word (k + j)))

-- w is the word with n bits, from k on, made v
pub record IsWritten (v : Bool) (word k n w : ℕ) : Type 0 where
  pub inside : (j : ℕ) → k ≤ j → j < k + n → is_set w j ≡ v
  pub outside : (j : ℕ) → j < 64 → (j < k) ⊎ (k + n ≤ j) → is_set w j ≡ is_set word j

-- new is words with n bits, from i on, made v
pub record Writes (v : Bool) (words : List ℕ) (i n : ℕ) (new : List ℕ) : Type 0 where
  pub count : length new ≡ length words
  pub inside : (k : ℕ) → i ≤ k → k < i + n → bit_of new k ≡ v
  pub outside : (k : ℕ) → (k < i) ⊎ (i + n ≤ k) → bit_of new k ≡ bit_of words k
