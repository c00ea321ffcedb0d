-- The toys stand for the places of their profile, which is within limits.
use Rattle.std.proofs.Common.{◌≡◌, ℕ, ◌<◌, List, [], ◌∷◌, refl, ap, zero, suc, arith}
use Rattle.std.specs.Prelude.{map, slice_get}
use Rattle.mz_base.specs.Limits.{IsWithinLimits}
use Rattle.mz_events.specs.State.{nothing_kept}
use Rattle.mz_events.specs.Standing.{Stands}
use Rattle.mz_book.specs.Keepers.{place_at}
use Rattle.mz_book.specs.Rule.{IsThere}
use Rattle.mz_book.specs.Plain.{StandAtFirst, last_site}
use Rattle.mz_threads_tests.specs.Toys.{toy, toy_profile}

pub keeping_is : {V : Type 0} (number : V → ℕ) (vs : List V) → map (λ v. toy (number v)) vs ≡ map toy (map number vs)
keeping_is number [] = refl
keeping_is number (v ∷ vs) = ap (λ ks. toy (number v) ∷ ks) (keeping_is number vs)

pub toy_limits : IsWithinLimits toy_profile
toy_limits = record {
  pages = (omega arith, omega arith);
  callers = (omega arith, omega arith);
  magazines = (omega arith, omega arith);
  nano = (omega arith, omega arith);
  nano_within = omega arith;
  most_gen = (omega arith, omega arith);
  zones = (omega arith, omega arith);
}

pub toys_stand : StandAtFirst toy_profile (map toy (0 ∷ 1 ∷ 2 ∷ 3 ∷ 4 ∷ 5 ∷ []))
unfolding place_at
toys_stand = record { count = refl; each = each }
  where
    each : (k : ℕ) → k < 6 → IsThere (λ v. Stands v (last_site (map toy (0 ∷ 1 ∷ 2 ∷ 3 ∷ 4 ∷ 5 ∷ []))) toy_profile (place_at toy_profile k) nothing_kept) (slice_get (map toy (0 ∷ 1 ∷ 2 ∷ 3 ∷ 4 ∷ 5 ∷ [])) k)
    each zero l = record { kind = refl; quantum = refl; length = refl; space = tt; room = omega arith; keeps = refl }
    each (suc zero) l = record { kind = refl; quantum = refl; length = refl; space = tt; room = omega arith; keeps = refl }
    each (suc (suc zero)) l = record { kind = refl; quantum = refl; length = refl; space = tt; room = omega arith; keeps = refl }
    each (suc (suc (suc zero))) l = record { kind = refl; quantum = refl; length = refl; space = tt; room = omega arith; keeps = refl }
    each (suc (suc (suc (suc zero)))) l = record { kind = refl; space = tt; room = omega arith; keeps = refl }
    each (suc (suc (suc (suc (suc zero))))) l = record { kind = refl; space = refl; free = refl; tiny = refl; small = refl }
    each (suc (suc (suc (suc (suc (suc k)))))) l = absurd (omega arith)
