-- What a zone says of alignments and of sizes, as the tests of a record.
use Rattle.std.proofs.Common.{◌≡◌, ℕ, zero, suc, ◌+◌, ◌<◌, ◌≤◌, ◌==◌, ◌^◌, true, false, not, List, [], ◌∷◌, length, refl, ap, sym, subst, ◌∙◌, inl, inr, arith, eq-eqb}
use Rattle.std.specs.Prelude.{◌&&◌, nat_le, nat_lt}
use Rattle.std.specs.List.{list_any, list_all, range_with_len}
use Rattle.std.proofs.lemmas.Bool.{cases_Bool, cases_lt, and_parts, false≢true, eqb-true}
use Rattle.std.proofs.lemmas.Bool.Decides.{nat_tests}
use Rattle.std.proofs.Math.Pow.{pow_mono}
use Rattle.mz_base.specs.declared.range.Range.{Range}
use Rattle.mz_base.specs.declared.range.Range.TheVariants as range
use Rattle.mz_base.specs.Sizes.{route_of}
use Rattle.mz_lawful.specs.Tasks.{is_alignment, same_range, is_wrong_size}
use Rattle.mz_zone.specs.Answering.{IsAlignment}
use Rattle.mz_zone.specs.Blocks.{BlockView, block_of}
use Rattle.mz_zone.specs.Freeing.{IsWrongSize}
use Rattle.mz_session.proofs.CountLemmas.{or-left, or-right}
use Rattle.mz_session.proofs.KeepLemmas.{either-true}

-- a number that is one of some powers, each of which may be asked for
alignment-from :
    (al : ℕ) (ks : List ℕ) → list_all (λ k. nat_le 8 (2 ^ k) && nat_le (2 ^ k) 16384) ks ≡ true → list_any (λ k. al == 2 ^ k) ks ≡ true → IsAlignment al
alignment-from al [] all some = absurd (false≢true some)
alignment-from al (k ∷ ks) all some =
    let parts = and_parts (nat_le 8 (2 ^ k) && nat_le (2 ^ k) 16384) (list_all (λ j. nat_le 8 (2 ^ j) && nat_le (2 ^ j) 16384) ks) all in
    elim (either-true (al == 2 ^ k) (list_any (λ j. al == 2 ^ j) ks) some) [
      | inl here ↦
          let is = eqb-true al (2 ^ k) here in
          let bounds = and_parts (nat_le 8 (2 ^ k)) (nat_le (2 ^ k) 16384) parts.0 in
          let least : 8 ≤ 2 ^ k = grind (arith, nat_tests, bounds.0) in
          let most : 2 ^ k ≤ 16384 = grind (arith, nat_tests, bounds.1) in
          record { power = (k, is); range = (omega (arith, is, least), omega (arith, is, most)) }
      | inr later ↦ alignment-from al ks parts.1 later
    ]

-- a power from 2^m on, one of so many
power-from : (al k n m : ℕ) → al ≡ 2 ^ k → m ≤ k → k < m + n → list_any (λ j. al == 2 ^ j) (range_with_len m n) ≡ true
power-from al k zero m is low high = absurd (omega (arith, low, high))
power-from al k (suc n) m is low high = elim (cases_lt m k) [
  | inl less ↦ or-right (al == 2 ^ m) (list_any (λ j. al == 2 ^ j) (range_with_len (m + 1) n)) (power-from al k n (m + 1) is (omega (arith, less)) (omega (arith, high)))
  | inr more ↦
      let same : k ≡ m = omega (arith, low, more) in
      or-left (al == 2 ^ m) (list_any (λ j. al == 2 ^ j) (range_with_len (m + 1) n)) (eq-eqb al (2 ^ m) (is ∙ ap (λ j. 2 ^ j) same))
]

pub alignment-tested : (al : ℕ) → IsAlignment al → is_alignment al ≡ true
alignment-tested al h =
    let k = h.power.0 in
    let is = h.power.1 in
    let least = h.range.0 in
    let most = h.range.1 in
    let low : 3 ≤ k = elim (cases_lt k 3) [
      | inl less ↦ let few : 2 ^ k ≤ 2 ^ 2 = pow_mono {i = k} {j = 2} (omega (arith, less)) in absurd (omega (arith, few, is, least))
      | inr more ↦ more
    ] in
    let high : k < 15 = elim (cases_lt k 15) [
      | inl less ↦ less
      | inr more ↦ let many : 2 ^ 15 ≤ 2 ^ k = pow_mono {i = 15} {j = k} more in absurd (omega (arith, many, is, most))
    ] in
    power-from al k 12 3 is low (omega (arith, high))

pub alignment-refused : (al : ℕ) → (IsAlignment al → ⊥) → is_alignment al ≡ false
alignment-refused al never = elim (cases_Bool (is_alignment al)) [
  | inl one ↦ absurd (never (alignment-from al (range_with_len 3 12) refl one))
  | inr other ↦ other
]

-- ranges are one where the test says so

same-range-is : (x y : Range) → same_range x y ≡ true → x ≡ y
same-range-is range.Nano range.Nano same = refl
same-range-is range.Tiny range.Tiny same = refl
same-range-is range.Small range.Small same = refl
same-range-is range.Medium range.Medium same = refl
same-range-is range.Large range.Large same = refl
same-range-is _ _ same = absurd (false≢true same)

same-range-self : (x : Range) → same_range x x ≡ true
same-range-self range.Nano = refl
same-range-self range.Tiny = refl
same-range-self range.Small = refl
same-range-self range.Medium = refl
same-range-self range.Large = refl

pub wrong-size-tested : (b : BlockView) (n : ℕ) → IsWrongSize b n → is_wrong_size (block_of b) n ≡ true
wrong-size-tested b n (inl less) = or-left (nat_lt (length b.span.bytes) n) (not (same_range (route_of n) (route_of (length b.span.bytes)))) (grind (arith, nat_tests, less))
wrong-size-tested b n (inr other) = or-right (nat_lt (length b.span.bytes) n) (not (same_range (route_of n) (route_of (length b.span.bytes))))
    (elim (cases_Bool (same_range (route_of n) (route_of (length b.span.bytes)))) [
      | inl same ↦ absurd (other (same-range-is (route_of n) (route_of (length b.span.bytes)) same))
      | inr apart ↦ ap not apart
    ])

pub right-size-tested : (b : BlockView) (n : ℕ) → (IsWrongSize b n → ⊥) → is_wrong_size (block_of b) n ≡ false
right-size-tested b n never = elim (cases_Bool (is_wrong_size (block_of b) n)) [
  | inl wrong ↦ elim (either-true (nat_lt (length b.span.bytes) n) (not (same_range (route_of n) (route_of (length b.span.bytes)))) wrong) [
    | inl less ↦ let low : length b.span.bytes < n = grind (arith, nat_tests, less) in absurd (never (inl low))
    | inr other ↦ absurd (never (inr (λ same. false≢true (sym (ap not (subst (λ r. same_range (route_of n) r ≡ true) same (same-range-self (route_of n)))) ∙ other))))
  ]
  | inr right ↦ right
]
