use Rattle.std.proofs.Common.{◌≡◌, arith}
use Rattle.mz_nano.proofs.LoadSteps.{looks}
use Rattle.mz_nano.proofs.nano.Nano.load_block.Goals as goal

pub load-requires : goal.load-requires
load-requires c =
    let r = c.args.self.now in
    let seat = c.args.seat.now in
    let w = r.words in let p = r.geometry.0 in let e = c.requires.exists in
    let t : seat.me.0.geometry.blocks ≡ r.table.shared.key.blocks = λ k. (c.requires.geometry k).blocks in
    (c.requires.table, omega arith, looks r.table.shared.key r.table.shared.table_id.slots seat.id seat.me c.args.b c.requires.live (omega arith))
