use Rattle.std.proofs.Common.{arith}
use Rattle.mz_nano.proofs.ClaimAllowed.{opens}
use Rattle.mz_nano.proofs.nano.Nano.make_ready.Goals as goal

pub store-requires : goal.store-requires
store-requires c =
    let r = c.args.self.now in
    let seat = c.args.seat.now in
    let w = r.words in let e = c.requires.exists in
    let m = c.requires.can in
    (c.requires.table, omega arith, opens r.table.shared.key r.table.shared.table_id.slots seat.id seat.me c.args.b m.0 c.args.word m.1)
