-- The bits of one word: one of them made true or false, and the lowest from one on.
use Rattle.std.proofs.Common.{◌≡◌, ℕ, ◌+◌, ◌-◌, ◌*◌, ◌/◌, ◌%◌, ◌^◌, ◌<◌, ◌≤◌, true, false, bit_and, bit_or, ◌==◌, refl, sym, ap, ◌∙◌, inl, inr, arith, min}
use Rattle.std.proofs.lemmas.Bool.{cases_lt}
use Rattle.std.proofs.lemmas.Nat.{shr-shr}
use Rattle.std.proofs.lemmas.Nat.Bits.{bit_at_and, bit_at_set_same, bit_at_set_other, bit_at_clear_same, bit_at_clear_other, bit_at-trailing_zeros, bit_at_above, bit_at-zero, shr_and_one}
use Rattle.std.specs.Int.{bit_at, bit_not, trailing_zeros, w64}
use Rattle.mz_lists.specs.Words.{is_set, HasNone, IsFirst, IsWith}

-- a bit that is 1 is set
set_from_one : (n k : ℕ) → bit_at n k ≡ 1 → is_set n k ≡ true
unfolding is_set
set_from_one n k e = rw e refl

-- and one that is 0 isn't
unset_from_zero : (n k : ℕ) → bit_at n k ≡ 0 → is_set n k ≡ false
unfolding is_set
unset_from_zero n k e = rw e refl

-- equal bits are set alike
set_alike : (n m j k : ℕ) → bit_at n j ≡ bit_at m k → is_set n j ≡ is_set m k
unfolding is_set
set_alike n m j k e = rw e refl

-- a bit as the code reads it
pub read_bit : (n k : ℕ) → (bit_and (n / 2 ^ k) 1 == 1) ≡ is_set n k
unfolding is_set
read_bit n k = ap (λ b. b == 1) (shr_and_one n k)

-- no bit of 0 is set
is_set-zero : (k : ℕ) → is_set 0 k ≡ false
is_set-zero k = unset_from_zero 0 k (bit_at-zero k)

pub unset_in_zero : (n k : ℕ) → n ≡ 0 → is_set n k ≡ false
unset_in_zero n k e = ap (λ m. is_set m k) e ∙ is_set-zero k

-- a bit as the code sets it
pub with_set : (n k : ℕ) → k < 64 → IsWith true n k (bit_or n (1 * 2 ^ k % 2 ^ 64))
with_set n k h = record {
  there = set_from_one _ k (bit_at_set_same w64 n k h);
  others = λ j ne. set_alike _ n j j (bit_at_set_other w64 n k h j ne);
}

-- a bit as the code clears it
pub with_cleared : (n k : ℕ) → n < 2 ^ 64 → k < 64 → IsWith false n k (bit_and n (bit_not w64 (1 * 2 ^ k % 2 ^ 64)))
with_cleared n k fits h = record {
  there = unset_from_zero _ k (bit_at_clear_same w64 n k h);
  others = λ j ne. elim (cases_lt j 64) [
    | inl low ↦ set_alike _ n j j (bit_at_clear_other w64 n k h j low ne)
    | inr high ↦
        let mask = bit_not w64 (1 * 2 ^ k % 2 ^ 64) in
        let none : bit_at n j ≡ 0 = bit_at_above n 64 j fits high in
        let both : bit_at (bit_and n mask) j ≡ min (bit_at n j) (bit_at mask j) = bit_at_and n mask j in
        set_alike (bit_and n mask) n j j (omega arith)
  ];
}

-- the bits from k on, shifted down
shifted : (n k j : ℕ) → k ≤ j → is_set (n / 2 ^ k) (j - k) ≡ is_set n j
shifted n k j h =
    let back : k + (j - k) ≡ j = omega arith in
    set_alike (n / 2 ^ k) n (j - k) j (ap (λ m. m % 2) (shr-shr n k (j - k)) ∙ ap (bit_at n) back)

-- nothing is left from k on
pub none_left : (n k : ℕ) → n / 2 ^ k ≡ 0 → HasNone n k
none_left n k e j h = sym (shifted n k j h) ∙ ap (λ m. is_set m (j - k)) e ∙ is_set-zero (j - k)

-- the lowest bit from k on, as trailing zeros give it
pub first_left : (n k t : ℕ) → k < 64 → n < 2 ^ 64 → 0 < n / 2 ^ k → t ≡ trailing_zeros w64 (n / 2 ^ k) → IsFirst n k (k + t)
first_left n k t low fits some e =
    let rest = n / 2 ^ k in
    let less : rest < 2 ^ 64 = omega arith in
    let h = bit_at-trailing_zeros w64 rest some less in
    let one : bit_at rest t ≡ 1 = ap (bit_at rest) e ∙ h.1 in
    let up : k + t - k ≡ t = omega arith in
    record {
      above = omega arith;
      there = sym (shifted n k (k + t) (omega arith)) ∙ ap (is_set rest) up ∙ set_from_one rest t one;
      before = λ j from to. sym (shifted n k j from) ∙ unset_from_zero rest (j - k) (h.2 (j - k) (omega arith));
    }
