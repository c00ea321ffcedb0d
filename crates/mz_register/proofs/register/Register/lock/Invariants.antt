use Rattle.std.proofs.Common.{◌≡◌}
use Rattle.mz_register.proofs.register.Register.lock.Given as goal

abbrev pub invariant-loop : goal.invariant-loop
invariant-loop g l =
    (goal.iterator-loop g).can_next l.iterator' × (goal.iterator-loop g).is_finite l.iterator' × (l.seat.me.1 ≡ l.initial.seat.me.1) × (l.seat.table_id ≡ l.initial.seat.table_id) × (l.seat.me.0 ≡ record l.initial.seat.me.0 { clashes = l.seat.me.0.clashes })
