use Rattle.std.proofs.Common.{ℕ, ◌+◌, ◌*◌, ◌≤◌, arith, mul-le-mul_left}
use Rattle.mz_nano.specs.Rule.{slots}
use Rattle.mz_nano.proofs.ClaimSteps.{slots_whole}
use Rattle.mz_nano.proofs.nano.Nano.slot_span.Goals as goal

pub slot_at-at-requires-clause-few : goal.slot_at-at-requires-clause-few
slot_at-at-requires-clause-few c =
    let j : ℕ = c.args.slot in let k : ℕ = c.args.class in
    let q = c.requires.slot in let one = c.requires.class.0 in
    let h : j + 1 ≤ slots k = omega arith in
    let m : k * (j + 1) ≤ k * slots k = mul-le-mul_left k h in
    let w = slots_whole k in omega arith
