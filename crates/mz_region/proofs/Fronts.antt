-- Fronts of idle runs.
use Rattle.std.proofs.Common.{◌≡◌, ℕ, ◌+◌, ◌-◌, ◌*◌, ◌/◌, ◌%◌, ◌<◌, ◌≤◌, ◌⊎◌, List, Bool, true, false, length, get_or, sym, ap, ◌∙◌, inl, inr, arith}
use Rattle.std.proofs.Math.Nat.{mul-le-mul_right}
use Rattle.std.proofs.lemmas.Nat.{div-add-mod'}
use Rattle.std.proofs.lemmas.Bool.{cases_order, cases_lt}
use Rattle.std.specs.List.{HoldsAt}
use Rattle.mz_base.specs.Space.{least_multiple}
use Rattle.mz_bits.specs.Runs.{IsNext, IsRunOf}
use Rattle.mz_region.specs.Search.{front_from, IsRoomAt, IsFrontAt}

-- a multiple of s that is less than s above x is the least one
pub multiple_is : (x s r : ℕ) → 0 < s → r % s ≡ 0 → x ≤ r → r < x + s → r ≡ least_multiple s x
multiple_is x s r filled whole above below =
    let k = (x + s - 1) / s in
    let whole_r : r / s * s ≡ r = omega (arith, div-add-mod' r s) in
    let parts = div-add-mod' (x + s - 1) s in
    elim (cases_order (r / s) ((x + s - 1) / s)) [
      | inl same ↦ sym whole_r ∙ ap (λ j. j * s) same
      | inr (inl less) ↦
          let step : (r / s + 1) * s ≤ (x + s - 1) / s * s = mul-le-mul_right s (omega arith) in
          absurd (omega (arith, parts))
      | inr (inr more) ↦
          let step : ((x + s - 1) / s + 1) * s ≤ r / s * s = mul-le-mul_right s (omega arith) in
          absurd (omega (arith, parts))
    ]

pub front_above : (base step i : ℕ) → 0 < step → i ≤ front_from base step i
front_above base step i filled = omega (arith, div-add-mod' (base + i + step - 1) step)

pub front_rises : (base step i j : ℕ) → 0 < step → i ≤ j → front_from base step i ≤ front_from base step j
front_rises base step i j filled up =
    let low = div-add-mod' (base + i + step - 1) step in
    let high = div-add-mod' (base + j + step - 1) step in
    elim (cases_lt ((base + j + step - 1) / step) ((base + i + step - 1) / step)) [
      | inl less ↦
          let apart : ((base + j + step - 1) / step + 1) * step ≤ (base + i + step - 1) / step * step = mul-le-mul_right step (omega arith) in
          absurd (omega arith)
      | inr fewer ↦ let no_more : (base + i + step - 1) / step * step ≤ (base + j + step - 1) / step * step = mul-le-mul_right step fewer in omega arith
    ]

no_two : (b : Bool) → b ≡ true → b ≡ false → ⊥
no_two b t f = let e : true ≡ false = sym t ∙ f in cc

-- where the search stands before an iteration
abbrev pub IsAtRun : List Bool → ℕ → Type 0
IsAtRun used from = (from ≡ 0) ⊎ (from < length used → HoldsAt (λ u. u ≡ true) used from)

pub front_found : (used : List Bool) (base step n from start front idle : ℕ) → 0 < step → 1 ≤ n → IsAtRun used from → IsNext false used from start → front ≡ front_from base step start → start ≤ front
    → IsRunOf false used start (front - start + n) idle → idle ≡ front - start + n → IsFrontAt used base step n front
front_found used base step n from start front idle filled some at next is up run whole = record {
  start = start;
  begins = elim (cases_lt from start) [
    | inl less ↦ inr (omega arith, λ d. next.before (start - 1) d (omega arith) (omega arith))
    | inr not_less ↦ begins (omega arith) at
  ];
  room = record { within = let w = run.within in let low = next.within in omega arith; idle = λ k d low high. run.each k d low (omega arith) };
  front = is;
}
  where
    begins : start ≡ from → IsAtRun used from → (start ≡ 0) ⊎ ((1 ≤ start) × HoldsAt (λ u. u ≡ true) used (start - 1))
    begins e (inl zero_) = inl (e ∙ zero_)
    begins e (inr set_) = let low = next.within in absurd (no_two (get_or used from false) (set_ (omega arith) false) (ap (λ k. get_or used k false) (sym e) ∙ next.there false))

-- it goes on behind what was idle
pub run_some : (used : List Bool) (from start most idle : ℕ) → 1 ≤ most → IsNext false used from start → IsRunOf false used start most idle → 1 ≤ idle
run_some used from start most idle some next run =
    elim (cases_lt 0 idle) [
      | inl more ↦ more
      | inr none ↦
          let low = next.within in
          let set_ = run.ends (omega arith) (omega arith) false in
          let place : start + idle ≡ start = omega arith in
          absurd (no_two (get_or used start false) (ap (λ k. get_or used k false) (sym place) ∙ set_) (next.there false))
    ]

pub none_before : (used : List Bool) (base step n from start front idle : ℕ) → 0 < step → 1 ≤ n → ((i : ℕ) → i < from → IsRoomAt used base step n i → ⊥) → IsNext false used from start → front ≡ front_from base step start → start ≤ front
    → IsRunOf false used start (front - start + n) idle → idle < front - start + n → (i : ℕ) → i < start + idle → IsRoomAt used base step n i → ⊥
none_before used base step n from start front idle filled some none next is up run less i low room =
    elim (cases_lt i from) [
      | inl before ↦ none i before room
      | inr behind ↦ elim (cases_lt i start) [
        | inl early ↦
            let above = front_above base step i filled in
            no_two (get_or used i false) (next.before i false behind early) (room.idle i false (omega arith) (omega arith))
        | inr late ↦
            let higher = front_rises base step start i filled late in
            let w = room.within in
            no_two (get_or used (start + idle) false) (run.ends less (omega arith) false) (room.idle (start + idle) false (omega arith) (omega arith))
      ]
    ]

pub less_left : (used : List Bool) (from start most idle : ℕ) → 1 ≤ most → IsNext false used from start → IsRunOf false used start most idle → length used - (start + idle) < length used - from
less_left used from start most idle some next run =
    let more = run_some used from start most idle some next run in
    let above = next.above in
    let within = next.within in
    omega arith
