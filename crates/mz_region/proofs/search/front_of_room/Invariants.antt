use Rattle.std.proofs.Common.{◌≡◌, ℕ, ◌-◌, ◌<◌, ◌⊎◌, true, length}
use Rattle.std.specs.List.{HoldsAt}
use Rattle.mz_region.specs.Search.{IsRoomAt}
use Rattle.mz_region.proofs.search.front_of_room.Given as goal

abbrev pub invariant-loop-start : goal.invariant-loop-start
invariant-loop-start l = record {
  none : (i : ℕ) → i < l.from → IsRoomAt l.in_use l.base l.step l.n i → ⊥;
  from : (l.from ≡ 0) ⊎ (l.from < length l.in_use → HoldsAt (λ u. u ≡ true) l.in_use l.from);
}

abbrev pub decreases-loop-start : goal.decreases-loop-start
decreases-loop-start l = length l.in_use - l.from
