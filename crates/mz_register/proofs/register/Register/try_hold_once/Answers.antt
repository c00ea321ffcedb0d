use Rattle.std.proofs.Common.{◌+◌}
use Rattle.mz_register.proofs.SeatCalls.{locks_at, gets_of}
use Rattle.mz_register.proofs.register.Register.try_hold_once.Goals as goal

pub returns-then-word-eq0-clause-gets : goal.returns-then-word-eq0-clause-gets
returns-then-word-eq0-clause-gets g c =
    let seat = c.args.seat.now in
    let l = locks_at c.args.self.now.table.shared.table_id.slots c.args.k (c.args.caller + 1) c.try_lock-word.result seat.me c.try_lock-word.new.seat.me c.try_lock-word.ensures.tries c.if-word-eq0.true in
    gets_of g.V.Keep.keeping seat.me c.try_lock-word.new.seat.me c.take.new.seat.me c.args.k c.take.result l c.take.ensures.takes
