-- The bits of a word, which is a number below 2 ^ 64. This project's own.
use Rattle.std.specs.Prelude.{◌≡◌, ◌≢◌, ℕ, ◌<◌, ◌≤◌, ◌==◌, Bool, true, false}
use Rattle.std.specs.Int.{bit_at}

-- whether bit k of a word is set
unfoldable pub is_set : ℕ → ℕ → Bool
is_set word k = bit_at word k == 1

-- new is the word with bit k made v
pub record IsWith (v : Bool) (word k new : ℕ) : Type 0 where
  pub there : is_set new k ≡ v
  pub others : (j : ℕ) → j ≢ k → is_set new j ≡ is_set word j

-- no bit from k on is set
abbrev pub HasNone : ℕ → ℕ → Type 0
HasNone word k = (j : ℕ) → k ≤ j → is_set word j ≡ false

-- i is the lowest bit from k on that is set
pub record IsFirst (word k i : ℕ) : Type 0 where
  pub above : k ≤ i
  pub there : is_set word i ≡ true
  pub before : (j : ℕ) → k ≤ j → j < i → is_set word j ≡ false
