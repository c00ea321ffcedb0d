-- Runs of bits in a list of truth values, of which a set bit is true. This project's own.
use Rattle.std.specs.Prelude.{◌≡◌, ℕ, ◌+◌, ◌-◌, ◌<◌, ◌≤◌, ◌⊎◌, List, ◌++◌, Bool, not, length, take, drop, replicate, slice_index_or}
use Rattle.std.specs.List.{AllWithin, HoldsAt}

-- no bit at or after i is v
abbrev pub HasNoNext : Bool → List Bool → ℕ → Type 0
HasNoNext v bits i = AllWithin (λ b. b ≡ not v) bits i (length bits)

-- q is the least place at or after i whose bit is v
pub record IsNext (v : Bool) (bits : List Bool) (i q : ℕ) : Type 0 where
  pub above : i ≤ q
  pub within : q < length bits
  pub there : HoldsAt (λ b. b ≡ v) bits q
  pub before : AllWithin (λ b. b ≡ not v) bits i q

-- the bits in a row from i on that are v are n; a run of more than most counts as most
pub record IsRunOf (v : Bool) (bits : List Bool) (i most n : ℕ) : Type 0 where
  pub limit : n ≤ most
  pub within : n ≤ length bits - i
  pub each : AllWithin (λ b. b ≡ v) bits i (i + n)
  pub ends : n < most → i + n < length bits → HoldsAt (λ b. b ≡ not v) bits (i + n)

-- the bits with the n of them from i on made v
abbrev pub with_run : List Bool → ℕ → ℕ → Bool → List Bool
with_run bits i n v = take i bits ++ (replicate n v ++ drop (i + n) bits)

-- new is v at the n places from i on, and as bits elsewhere
pub record HasRun (bits new : List Bool) (i n : ℕ) (v : Bool) : Type 0 where
  pub count : length new ≡ length bits
  pub inside : AllWithin (λ b. b ≡ v) new i (i + n)
  pub outside : (k : ℕ) (d : Bool) → (k < i) ⊎ (i + n ≤ k) → slice_index_or new k d ≡ slice_index_or bits k d
