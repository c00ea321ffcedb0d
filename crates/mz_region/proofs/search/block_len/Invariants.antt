use Rattle.std.proofs.Common.{◌≡◌, ◌+◌, ◌-◌, ◌≤◌, length, drop}
use Rattle.mz_region.specs.Quanta.{rest_of}
use Rattle.mz_region.proofs.search.block_len.Given as goal

abbrev pub invariant-loop-end : goal.invariant-loop-end
invariant-loop-end l = record {
  above : l.q + 1 ≤ l.end;
  within : l.end ≤ length l.in_use;
  rest : (l.end - (l.q + 1)) + rest_of (drop l.end l.begins) (drop l.end l.in_use) ≡ rest_of (drop (l.q + 1) l.begins) (drop (l.q + 1) l.in_use);
}

abbrev pub decreases-loop-end : goal.decreases-loop-end
decreases-loop-end l = length l.in_use - l.end
