use Rattle.std.proofs.Common.{sym, ◌∙◌}
use Rattle.mz_holding.proofs.SwapLemmas.{order_of_same}
use Rattle.mz_holding.proofs.holding.Holding.learn_full.Goals as goal

pub invariant_of-self : goal.invariant_of-self
invariant_of-self c = record {
  in_order = order_of_same c.self.inside.runs.items c.learn.new.runs.items c.learn.ensures.runs c.self.invariant.in_order;
  all = c.self.invariant.all ∙ sym c.learn.ensures.used;
  byte = c.self.invariant.byte;
  fits = c.self.invariant.fits;
}
