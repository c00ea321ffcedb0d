-- Alignments that may be asked for.
use Rattle.std.proofs.Common.{◌≡◌, ℕ, ◌+◌, ◌*◌, ◌/◌, ◌^◌, ◌<◌, ◌≤◌, max, ◌∙◌, arith, inl, inr}
use Rattle.std.specs.Int.{IsPowerOfTwo}
use Rattle.std.proofs.lemmas.Bool.{cases_lt}
use Rattle.std.proofs.lemmas.Nat.{pow-add}
use Rattle.std.proofs.Math.Pow.{pow_mono}

-- the next power of two of a power of two is itself
pub power_is : (n p : ℕ) → 1 ≤ n → IsPowerOfTwo n → IsPowerOfTwo p → n ≤ p → p / 2 < max 1 n → p ≡ n
power_is n p some hn hp up half = elim (cases_lt hn.0 hp.0) [
  | inl less ↦
      let steps : 2 ^ (hn.0 + 1) ≤ 2 ^ hp.0 = pow_mono (omega arith) in
      let twice : 2 ^ (hn.0 + 1) ≡ 2 ^ hn.0 * 2 ^ 1 = pow-add 2 hn.0 1 in
      let is_n = hn.1 in
      let is_p = hp.1 in
      absurd (omega arith)
  | inr more ↦
      let down : 2 ^ hp.0 ≤ 2 ^ hn.0 = pow_mono more in
      let is_n = hn.1 in
      let is_p = hp.1 in
      omega arith
]

-- the greater of two powers of two is one
pub power_raised : (al m : ℕ) → m ≡ max al 16 → IsPowerOfTwo al → IsPowerOfTwo m
power_raised al m e h = elim (cases_lt al 16) [
  | inl less ↦ (4, omega arith)
  | inr more ↦ (h.0, let same : m ≡ al = omega arith in same ∙ h.1)
]
