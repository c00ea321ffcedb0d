use Rattle.std.proofs.Common.{ℕ, ◌+◌, ◌*◌, ◌^◌, ◌<◌, arith}
use Rattle.mz_nano.proofs.pop.slot_at.Goals as goal

fits : (b x : ℕ) → b < 2 ^ 50 → x < 16384 → b * 16384 + x < 2 ^ 64
fits b x h q = omega arith

pub overflow_add-result : goal.overflow_add-result
overflow_add-result c = let f = fits c.args.block (16 * c.args.class * c.args.slot) c.requires.block c.requires.few in omega arith
