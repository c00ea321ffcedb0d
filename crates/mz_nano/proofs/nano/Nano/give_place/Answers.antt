use Rattle.std.proofs.Common.{arith}
use Rattle.atomic_table.specs.Table.{rest}
use Rattle.mz_nano.proofs.PushAllowed.{settles}
use Rattle.mz_nano.proofs.nano.Nano.give_place.Goals as goal

pub load-requires : goal.load-requires
load-requires c =
    let r = c.args.self.now in
    let seat = c.args.seat.now in
    let w = r.words in let e = c.requires.exists in
    let m = c.requires.mine in
    (c.requires.table, omega arith, settles r.table.shared.key r.table.shared.table_id.slots seat.id seat.me c.args.b m.0 m.1 (rest seat.me.1) c.requires.live m.2 m.3 m.4)
