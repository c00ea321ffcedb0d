use Rattle.std.proofs.Common.{◌≡◌, Some, arith}
use Rattle.mz_magazine.proofs.KeepingFreed.{lost_freed}
use Rattle.mz_magazine.proofs.magazine.apart_from.Goals as goal

pub returns-clause-still : goal.returns-clause-still
returns-clause-still c = λ some.
    let is : c.args.freed ≡ Some (c.in-Some.a, c.in-Some.size) = cc in
    let back = c.saturating_sub.ensures in
    let ahead = c.saturating_sub-2.ensures in
    let near = c.if-saturating_sub-len.false in
    let close = c.if-saturating_sub-size.false in
    lost_freed c.args.freed c.in-Some.a c.in-Some.size c.args.first c.args.len is (omega arith) (omega arith)
