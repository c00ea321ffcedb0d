-- One word of 64 bits: its masks, its bits from one on, and the lowest that is set.
use Rattle.std.proofs.Common.{◌≡◌, ℕ, ◌+◌, ◌-◌, ◌*◌, ◌/◌, ◌%◌, ◌^◌, ◌<◌, ◌≤◌, ◌⊎◌, true, false, not, bit_and, bit_or, ◌==◌, refl, sym, ap, ◌∙◌, subst, inl, inr, arith}
use Rattle.std.proofs.lemmas.Bool.{cases_lt}
use Rattle.std.proofs.lemmas.Nat.{pow-add, shr-shr, shr_below}
use Rattle.std.proofs.lemmas.Nat.Bits.{bit_at-lt, bit_at_and, bit_at_or, bit_at_not, bit_at_mask_inside, bit_at_mask_below, bit_at_mask_above, bit_at-trailing_zeros, bit_at_above, bit_at-zero, ones_shr, shr_and_one}
use Rattle.std.proofs.Math.Nat.{mul-sub, mul_comm}
use Rattle.std.proofs.Math.Pow.{shl_exact, pow_pos, pow_mono}
use Rattle.std.specs.Int.{bit_at, trailing_zeros, w64}
use Rattle.mz_bits.specs.Words.{is_set, IsRestOf, IsWritten}

-- a bit that is 1 is set
pub set_from_one : (n k : ℕ) → bit_at n k ≡ 1 → is_set n k ≡ true
unfolding is_set
set_from_one n k e = rw e refl

-- and one that is 0 isn't
pub unset_from_zero : (n k : ℕ) → bit_at n k ≡ 0 → is_set n k ≡ false
unfolding is_set
unset_from_zero n k e = rw e refl

-- equal bits are set alike
pub set_alike : (n m j k : ℕ) → bit_at n j ≡ bit_at m k → is_set n j ≡ is_set m k
unfolding is_set
set_alike n m j k e = rw e refl

-- a bit as the code reads it
pub read_bit : (n k : ℕ) → (bit_and (n / 2 ^ k) 1 == 1) ≡ is_set n k
unfolding is_set
read_bit n k = ap (λ b. b == 1) (shr_and_one n k)

-- a bit is 0 or 1
zero_or_one : (n k : ℕ) → (bit_at n k ≡ 0) ⊎ (bit_at n k ≡ 1)
zero_or_one n k =
    let small = bit_at-lt n k in
    elim (cases_lt (bit_at n k) 1) [ inl l ↦ inl (omega arith) | inr g ↦ inr (omega arith) ]

-- a flipped bit
pub set_flipped : (n m j k : ℕ) → bit_at n j ≡ 1 - bit_at m k → is_set n j ≡ not (is_set m k)
set_flipped n m j k e =
    elim (zero_or_one m k) [
      | inl z ↦ set_from_one n j (omega arith) ∙ ap not (sym (unset_from_zero m k z))
      | inr o ↦ unset_from_zero n j (omega arith) ∙ ap not (sym (set_from_one m k o))
    ]

-- the mask of n ones from the bit k on, as the code makes it
pub mask_is : (k n : ℕ) → 1 ≤ n → k + n ≤ 64 → (2 ^ 64 - 1) / 2 ^ (64 - n) * 2 ^ k % 2 ^ 64 ≡ 2 ^ (k + n) - 2 ^ k
mask_is k n some within =
    let back : 64 - (64 - n) ≡ n = omega arith in
    let low : (2 ^ 64 - 1) / 2 ^ (64 - n) ≡ 2 ^ n - 1 = ones_shr 64 (64 - n) (omega arith) ∙ ap (λ m. 2 ^ m - 1) back in
    let positive : 0 < 2 ^ n = pow_pos n in
    let fits : 2 ^ n - 1 < 2 ^ n = omega arith in
    let whole : (2 ^ n - 1) * 2 ^ k % 2 ^ 64 ≡ (2 ^ n - 1) * 2 ^ k = shl_exact n k 64 fits (omega arith) in
    let parts : 2 ^ (k + n) ≡ 2 ^ k * 2 ^ n = pow-add 2 k n in
    let turned : (2 ^ n - 1) * 2 ^ k ≡ 2 ^ k * (2 ^ n - 1) = mul_comm (2 ^ n - 1) (2 ^ k) in
    let apart : 2 ^ k * (2 ^ n - 1) ≡ 2 ^ k * 2 ^ n - 2 ^ k * 1 = mul-sub (2 ^ k) (2 ^ n) 1 in
    ap (λ m. m * 2 ^ k % 2 ^ 64) low ∙ whole ∙ omega arith

-- a number with j bits below it: the bits from k on, shifted down
pub shifted : (n k j : ℕ) → is_set (n / 2 ^ k) j ≡ is_set n (k + j)
shifted n k j = set_alike (n / 2 ^ k) n j (k + j) (ap (λ m. m % 2) (shr-shr n k j))

-- 64 bits in two parts
below_at : (n k : ℕ) → k < 64 → n < 2 ^ 64 → n < 2 ^ (64 - k + k)
below_at n k low fits =
    let both : 64 ≡ 64 - k + k = omega arith in
    let F : ℕ → Type 0 = λ m. n < 2 ^ m in
    subst F both fits

-- what is left of a word from the bit k on
pub rest_is : (word k : ℕ) → word < 2 ^ 64 → k < 64 → IsRestOf true word k (word / 2 ^ k)
rest_is word k fits low = record {
  few = shr_below word (64 - k) k (below_at word k low fits);
  same = λ j h. shifted word k j;
}

-- and the same flipped
pub rest_flipped : (word k : ℕ) → word < 2 ^ 64 → k < 64 → IsRestOf false word k ((2 ^ 64 - 1 - word) / 2 ^ k)
rest_flipped word k fits low =
    let flipped : 2 ^ 64 - 1 - word < 2 ^ 64 = omega arith in
    record {
      few = shr_below (2 ^ 64 - 1 - word) (64 - k) k (below_at (2 ^ 64 - 1 - word) k low flipped);
      same = λ j h. shifted (2 ^ 64 - 1 - word) k j ∙ set_flipped (2 ^ 64 - 1 - word) word (k + j) (k + j) (bit_at_not w64 word (k + j) fits h);
    }

-- a bit outside the mask is 0
outside_mask : (k n j : ℕ) → (j < k) ⊎ (k + n ≤ j) → bit_at (2 ^ (k + n) - 2 ^ k) j ≡ 0
outside_mask k n j (inl h) = bit_at_mask_below k (k + n) j h
outside_mask k n j (inr h) = bit_at_mask_above k (k + n) j h

-- the ones of the mask set
pub ones_set : (word k n mask : ℕ) → mask ≡ 2 ^ (k + n) - 2 ^ k → IsWritten true word k n (bit_or word mask)
ones_set word k n mask e = record {
  inside = λ j low high.
      let one : bit_at mask j ≡ 1 = ap (λ m. bit_at m j) e ∙ bit_at_mask_inside k (k + n) j low high in
      let less = bit_at-lt word j in
      set_from_one (bit_or word mask) j (bit_at_or word mask j ∙ omega arith);
  outside = λ j h away.
      let zero : bit_at mask j ≡ 0 = ap (λ m. bit_at m j) e ∙ outside_mask k n j away in
      set_alike (bit_or word mask) word j j (bit_at_or word mask j ∙ omega arith);
}

-- the ones of the mask cleared
pub ones_cleared : (word k n mask : ℕ) → k + n ≤ 64 → mask ≡ 2 ^ (k + n) - 2 ^ k → IsWritten false word k n (bit_and word (2 ^ 64 - 1 - mask))
ones_cleared word k n mask within e =
    let top : 2 ^ (k + n) ≤ 2 ^ 64 = pow_mono within in
    let positive : 0 < 2 ^ k = pow_pos k in
    let fits : mask < 2 ^ 64 = omega arith in
    record {
      inside = λ j low high.
          let one : bit_at mask j ≡ 1 = ap (λ m. bit_at m j) e ∙ bit_at_mask_inside k (k + n) j low high in
          let flip : bit_at (2 ^ 64 - 1 - mask) j ≡ 1 - bit_at mask j = bit_at_not w64 mask j fits (omega arith) in
          unset_from_zero (bit_and word (2 ^ 64 - 1 - mask)) j (bit_at_and word (2 ^ 64 - 1 - mask) j ∙ omega arith);
      outside = λ j h away.
          let zero : bit_at mask j ≡ 0 = ap (λ m. bit_at m j) e ∙ outside_mask k n j away in
          let flip : bit_at (2 ^ 64 - 1 - mask) j ≡ 1 - bit_at mask j = bit_at_not w64 mask j fits h in
          let less = bit_at-lt word j in
          set_alike (bit_and word (2 ^ 64 - 1 - mask)) word j j (bit_at_and word (2 ^ 64 - 1 - mask) j ∙ omega arith);
    }

-- the lowest bit of a word that is set
pub record IsLowest (n t : ℕ) : Type 0 where
  pub set : is_set n t ≡ true
  pub below : (j : ℕ) → j < t → is_set n j ≡ false

-- as trailing_zeros gives it, for a word of 64 - k bits
pub lowest_is : (n k t : ℕ) → k ≤ 64 → 0 < n → n < 2 ^ (64 - k) → t ≡ trailing_zeros w64 n → (k + t < 64) × IsLowest n t
lowest_is n k t low some few e =
    let less : 64 - k ≤ 64 = omega arith in
    let top : 2 ^ (64 - k) ≤ 2 ^ 64 = pow_mono less in
    let fits : n < 2 ^ 64 = omega arith in
    let h = bit_at-trailing_zeros w64 n some fits in
    let one : bit_at n t ≡ 1 = ap (λ j. bit_at n j) e ∙ h.1 in
    let within : t < 64 - k = elim (cases_lt t (64 - k)) [
      | inl l ↦ l
      | inr g ↦ let none = bit_at_above n (64 - k) t few g in omega arith
    ] in (
      omega arith,
      record {
        set = set_from_one n t one;
        below = λ j l. unset_from_zero n j (h.2 j (omega arith));
      },
    )

-- a word that is 0 has no bit set
pub none_set : (n j : ℕ) → n ≡ 0 → is_set n j ≡ false
none_set n j e = unset_from_zero n j (ap (λ m. bit_at m j) e ∙ bit_at-zero j)
