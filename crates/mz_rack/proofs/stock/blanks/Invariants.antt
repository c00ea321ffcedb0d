use Rattle.std.proofs.Common.{◌≡◌, ◌≤◌, vec_len}
use Rattle.std.specs.Vec.{vec_capacity}
use Rattle.mz_rack.proofs.stock.blanks.Given as goal

-- there is one for each round, and room for all
abbrev pub invariant-loop : goal.invariant-loop
invariant-loop g l = (vec_len l.blanks ≡ l.counter) × (l.count ≤ vec_capacity l.blanks)
