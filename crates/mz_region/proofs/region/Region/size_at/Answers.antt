use Rattle.std.proofs.Common.{arith}
use Rattle.mz_region.proofs.region.Region.size_at.Goals as goal

pub overflow_mul-result : goal.overflow_mul-result
overflow_mul-result g c = let said = c.in-Some.ensures in let small = said.found.3 in omega arith
