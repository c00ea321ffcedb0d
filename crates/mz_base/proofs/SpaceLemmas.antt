-- Counts of units, and multiples: the least that holds a number.
use Rattle.std.proofs.Common.{◌≡◌, ℕ, ◌+◌, ◌-◌, ◌*◌, ◌/◌, ◌%◌, ◌<◌, ◌≤◌, arith}
use Rattle.std.proofs.Math.Nat.{div-lt_iff_lt-mul, mul-le-mul_right, mul-mod_left}
use Rattle.std.proofs.lemmas.Nat.{div-add-mod'}
use Rattle.mz_base.specs.Space.{units_for, least_multiple}
use Rattle.mz_base.specs.Laws.{IsLeastCount, IsLeastMultiple}

-- enough units: their bytes reach n
pub units_for-holds : (unit n : ℕ) → 0 < unit → n ≤ units_for unit n * unit
units_for-holds unit n positive = omega (arith, div-add-mod' (n + unit - 1) unit)

-- and no fewer do
pub units_for-least : (unit n j : ℕ) → 0 < unit → n ≤ j * unit → units_for unit n ≤ j
units_for-least unit n j positive holds =
    let below : n + unit - 1 < (j + 1) * unit = omega arith in
    let fewer : (n + unit - 1) / unit < j + 1 = (div-lt_iff_lt-mul positive).1 below in
    omega arith

-- both
pub units_for_lem : (unit n : ℕ) → 0 < unit → IsLeastCount unit n (units_for unit n)
units_for_lem unit n positive = record {
  holds = units_for-holds unit n positive;
  least = λ j. units_for-least unit n j positive;
}

-- a multiple of al
pub least_multiple-mod : (al x : ℕ) → least_multiple al x % al ≡ 0
least_multiple-mod al x = mul-mod_left (units_for al x) al

-- at or above x
pub least_multiple-above : (al x : ℕ) → 0 < al → x ≤ least_multiple al x
least_multiple-above al x positive = units_for-holds al x positive

-- and at or below each other such multiple
pub least_multiple-least : (al x y : ℕ) → 0 < al → y % al ≡ 0 → x ≤ y → least_multiple al x ≤ y
least_multiple-least al x y positive multiple above =
    let whole : y / al * al ≡ y = omega (arith, div-add-mod' y al) in
    let fewer : units_for al x ≤ y / al = units_for-least al x (y / al) positive (omega arith) in
    omega (arith, mul-le-mul_right al fewer)

-- all three
pub least_multiple_lem : (al x : ℕ) → 0 < al → IsLeastMultiple al x (least_multiple al x)
least_multiple_lem al x positive = record {
  multiple = least_multiple-mod al x;
  above = least_multiple-above al x positive;
  least = λ y. least_multiple-least al x y positive;
}
