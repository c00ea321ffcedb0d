use Rattle.std.proofs.Common.{arith}
use Rattle.mz_nano.proofs.PartSteps.{brings}
use Rattle.mz_nano.proofs.nano.Nano.part_as.Goals as goal

pub split_seat-requires : goal.split_seat-requires
split_seat-requires g c =
    let r = c.args.self.now in
    let q = c.requires in
    let w = r.words in let fw = r.few.0 in
    (q.one.0, omega arith, brings r.table.shared.key c.args.seat.now.id c.args.seat.now.me.0 g.A.WhichSlot.block g.A.WhichSlot.slot q.mine.0 q.can.0 q.can.1 q.can.2 q.mine.1)
