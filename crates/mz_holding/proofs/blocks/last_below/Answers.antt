use Rattle.std.proofs.Common.{sym, ◌∙◌}
use Rattle.mz_holding.proofs.blocks.last_below.Goals as goal

pub returns-in-Some : goal.returns-in-Some
returns-in-Some c = (c.next_back.new.self, sym (c.range.ensures.between tt) ∙ c.in-Some.ensures.steps)
