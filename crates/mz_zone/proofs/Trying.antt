-- What is asked of a try of nano.
use Rattle.std.proofs.Common.{◌≡◌, ℕ, ◌≤◌, true, Option, Some, subst, arith}
use Rattle.std.specs.Prelude.{nat_le, max}
use Rattle.std.specs.Borrow.{Bor, MutBor}
use Rattle.std.proofs.lemmas.Bool.Decides.{nat_tests}
use Rattle.mz_base.specs.declared.range.Range.TheVariants as range
use Rattle.mz_base.specs.Space.{units_for}
use Rattle.mz_base.specs.Sizes.{route_of, units_of}
use Rattle.mz_book.specs.Account.{Account}
use Rattle.mz_rack.specs.Serving.{CanServe}
use Rattle.mz_nano.specs.declared.nano.Nano.{Nano}
use Rattle.mz_nano.specs.declared.seat.NanoSeat.{NanoSeat}
use Rattle.mz_zone.specs.Calling.{CanCall, IsSeatedAt, seated, with_seat}

-- a request of at most 256 bytes is tiny
pub route_small : (n : ℕ) → n ≤ 256 → route_of n ≡ range.Tiny
route_small n h = let t : nat_le n 1008 ≡ true = grind (arith, nat_tests) in rw t

some_units : (m : ℕ) → 1 ≤ m → m ≤ 256 → (1 ≤ units_for 16 m) × (units_for 16 m ≤ 16)
some_units m l h = (omega arith, omega arith)

-- and has a class
pub units_small : (n : ℕ) → n ≤ 256 → (1 ≤ units_of n) × (units_of n ≤ 16)
units_small n h = rw (route_small n h) (some_units (max n 1) (omega arith) (omega arith))

-- nano is there, behind these references
pub can_take :
    (s : Account) (nano : Option (Bor Nano × MutBor NanoSeat)) (x : Bor Nano × MutBor NanoSeat) (z : ℕ) → nano ≡ Some x → z ≡ 0
    → CanCall (record { book = s; nano = seated nano }) s.profile z 1 → CanCall (with_seat s x.0.now x.1.now) s.profile 0 1
can_take s nano x z e zero can = record {
  serve = subst (λ y. CanServe s s.profile y 1) zero can.serve;
  nano = subst (λ m. IsSeatedAt s (seated m)) e can.nano;
}
