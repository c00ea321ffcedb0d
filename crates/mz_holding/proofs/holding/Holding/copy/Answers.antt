use Rattle.std.proofs.Common.{map, sym, ap, ◌∙◌}
use Rattle.std.specs.Prelude.{sum_by}
use Rattle.mz_holding.specs.declared.held.Held.{Held}
use Rattle.mz_holding.specs.HeldRuns.{run_of_held}
use Rattle.mz_holding.proofs.SwapLemmas.{order_of_same}
use Rattle.mz_holding.proofs.holding.Holding.copy.Goals as goal

pub invariant_of-result : goal.invariant_of-result
invariant_of-result c = record {
  in_order = order_of_same c.self.inside.runs.items c.in_ok-copy_runs.field-0.items (c.in_ok-copy_runs.ensures.runs ∙ ap (map run_of_held) c.deref.ensures.value) c.self.invariant.in_order;
  all = c.self.invariant.all ∙ sym (c.in_ok-copy_runs.ensures.used ∙ ap (sum_by (λ (h : Held). h.used)) c.deref.ensures.value);
  byte = c.self.invariant.byte;
  fits = c.self.invariant.fits;
}
