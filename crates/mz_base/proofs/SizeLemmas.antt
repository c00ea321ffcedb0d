-- Good sizes: the least size of its range that holds a request.
use Rattle.std.proofs.Common.{◌≡◌, ℕ, ◌-◌, ◌*◌, ◌%◌, ◌<◌, ◌≤◌, ◌↔◌, max, arith, refl, IsTrue}
use Rattle.std.specs.Prelude.{Some, None, IsSome, nat_le, if◌then◌else◌}
use Rattle.std.proofs.lemmas.Bool.Decides.{nat_tests}
use Rattle.mz_base.specs.declared.range.Range.{Range}
use Rattle.mz_base.specs.declared.range.Range.TheVariants.{Nano, Tiny, Small, Medium, Large}
use Rattle.mz_base.specs.declared.profile.Profile.{Profile}
use Rattle.mz_base.specs.declared.range.TheConstants.{PAGE}
use Rattle.mz_base.specs.Space.{least_multiple, block_at}
use Rattle.mz_base.specs.Sizes.{route_of, unit_of, good_size_of, good_size_within, is_size}
use Rattle.mz_base.specs.Laws.{IsLeastSize, LiesInSpace}
use Rattle.mz_base.proofs.SpaceLemmas.{least_multiple-mod, least_multiple-above, least_multiple-least}

-- every range's unit is at least 1
pub unit_of-positive : (r : Range) → 0 < unit_of r
unit_of-positive Nano = omega arith
unit_of-positive Tiny = omega arith
unit_of-positive Small = omega arith
unit_of-positive Medium = omega arith
unit_of-positive Large = omega arith

-- the good size holds the request, and at least 1 byte
pub good_size_of-holds : (n : ℕ) → max n 1 ≤ good_size_of n
good_size_of-holds n = least_multiple-above (unit_of (route_of n)) (max n 1) (unit_of-positive (route_of n))

-- it is a multiple of the unit
pub good_size_of-mod : (n : ℕ) → good_size_of n % unit_of (route_of n) ≡ 0
good_size_of-mod n = least_multiple-mod (unit_of (route_of n)) (max n 1)

-- no lesser multiple of the unit holds the request
pub good_size_of-least : (n t : ℕ) → t % unit_of (route_of n) ≡ 0 → max n 1 ≤ t → good_size_of n ≤ t
good_size_of-least n t multiple holds =
    least_multiple-least (unit_of (route_of n)) (max n 1) t (unit_of-positive (route_of n)) multiple holds

-- it lies within the sizes of its range
pub is_size-good_size_of : (n : ℕ) → IsTrue (is_size (route_of n) (good_size_of n))
is_size-good_size_of n = grind (arith, nat_tests)

-- all of this
pub good_size_of_lem : (n : ℕ) → IsLeastSize (route_of n) n (good_size_of n)
good_size_of_lem n = record {
  size = is_size-good_size_of n;
  holds = good_size_of-holds n;
  least = λ t. good_size_of-least n t;
}

-- a number is there exactly where it isn't above the limit
some-within : (m most : ℕ) → IsSome (if nat_le m most then Some m else None) ↔ (m ≤ most)
some-within m most = (λ some. grind (arith, nat_tests), λ within. grind (arith, nat_tests))

-- a profile has a good size exactly where a block of that size, from address 0 on, lies in the space
pub good_size_within-is_some : (p : Profile) (n : ℕ) → IsSome (good_size_within p n) ↔ LiesInSpace p (block_at 0 (good_size_of n))
good_size_within-is_some p n =
    let g = good_size_of n in
    let space = p.pages * PAGE in
    let exactly : IsSome (good_size_within p n) ↔ (g ≤ space) = some-within g space in
    let holds : max n 1 ≤ g = good_size_of-holds n in
    (λ some a low high. let within : g ≤ space = exactly.0 some in omega arith, λ lies. let last : g - 1 < space = lies (g - 1) (omega arith) (omega arith) in exactly.1 (omega arith))
