use Rattle.std.proofs.Common.{◌-◌, ◌%◌, arith}
use Rattle.mz_holding.proofs.TakenLemmas.{gap_aligned, gap_is}
use Rattle.mz_holding.proofs.pages.gap_to.Goals as goal

pub returns-else-over-eq0 : goal.returns-else-over-eq0
returns-else-over-eq0 c = gap_is c.multiple_is_least.ensures c.args.x c.args.al (c.args.al - c.args.x % c.args.al) c.requires (gap_aligned c.args.x c.args.al c.requires) (omega arith)

pub returns-then-over-eq0 : goal.returns-then-over-eq0
returns-then-over-eq0 c = gap_is c.multiple_is_least.ensures c.args.x c.args.al 0 c.requires (grind arith) (omega arith)
