use Rattle.std.proofs.Common.{◌*◌, ◌≤◌, length, sym, ap, ◌∙◌, arith}
use Rattle.std.proofs.Math.Nat.{mul-le-mul_left}
use Rattle.mz_magazine.proofs.row.Row.bytes.Goals as goal

pub overflow_mul-result : goal.overflow_mul-result
overflow_mul-result g c =
    let long = c.len-len.ensures.value in
    let is = c.len-len.ensures.is in
    let small = is.small in
    let some = c.if-len-eq0.false in
    let least : g.row.Q * g.row.N * 1 ≤ g.row.Q * g.row.N * length c.args.self.now.firsts = mul-le-mul_left (g.row.Q * g.row.N) (omega arith) in
    omega arith

pub overflow_mul-result-2 : goal.overflow_mul-result-2
overflow_mul-result-2 g c =
    let same = ap (λ n. g.row.Q * g.row.N * n) c.len-len.ensures.value in
    let is = c.len-len.ensures.is in
    let small = is.small in
    omega arith

pub returns : goal.returns
returns g c = ap (λ n. g.row.Q * g.row.N * n) c.len-len.ensures.value

pub returns-then-len-eq0 : goal.returns-then-len-eq0
returns-then-len-eq0 g c = let same = ap (λ n. g.row.Q * g.row.N * n) (sym c.len-len.ensures.value ∙ c.if-len-eq0.true) in omega arith
