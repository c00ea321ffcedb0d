use Rattle.std.proofs.Common.{arith}
use Rattle.mz_nano.proofs.SeatSteps.{lends}
use Rattle.mz_nano.proofs.nano.Nano.lend.Goals as goal

pub split_seat-requires : goal.split_seat-requires
split_seat-requires c =
    let r = c.args.self.now in
    let s = c.args.s.now in
    let w = r.words in let fw = r.few.0 in
    (c.requires.one.0, omega arith, lends r.table.shared.key s.seat.id s.seat.me.0 s.at_rest.live c.requires.parts)
