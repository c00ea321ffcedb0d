use Rattle.std.proofs.Common.{arith}
use Rattle.mz_nano.proofs.PushAllowed.{pushes}
use Rattle.mz_nano.proofs.nano.Nano.push_exchange.Goals as goal

pub compare_exchange-requires : goal.compare_exchange-requires
compare_exchange-requires c =
    let r = c.args.self.now in
    let seat = c.args.seat.now in
    let w = r.words in let e = c.requires.exists in
    let m = c.requires.can in
    (c.requires.table, omega arith, pushes r.table.shared.key r.table.shared.table_id.slots seat.id seat.me c.args.b m.0 m.1 c.args.old c.args.new m.2)
