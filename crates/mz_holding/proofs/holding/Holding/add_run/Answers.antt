use Rattle.std.proofs.Common.{◌≡◌, true, subst, sym}
use Rattle.std.specs.List.{list_all}
use Rattle.mz_base.specs.Space.{run_at, blocks_apart, runs_apart, bytes_of}
use Rattle.mz_events.specs.State.{Kept}
use Rattle.mz_holding.proofs.KeptLemmas.{used_same}
use Rattle.mz_holding.proofs.PutLemmas.{live_apart}
use Rattle.mz_holding.proofs.holding.Holding.add_run.Goals as goal

pub invariant_of-self : goal.invariant_of-self
invariant_of-self c = record {
  in_order = c.insert_run.ensures.in_order;
  all = used_same c.self.inside.runs.items c.insert_run.new.runs.items c.self.inside.used 0 0 c.self.invariant.in_order c.insert_run.ensures.in_order c.self.invariant.all c.insert_run.ensures.blocks;
  byte = c.self.invariant.byte;
  fits = c.self.invariant.fits;
}

pub invariant_of-self-2 : goal.invariant_of-self-2
invariant_of-self-2 c = record {
  in_order = c.insert_run.ensures.in_order;
  all = used_same c.self.inside.runs.items c.insert_run.new.runs.items c.self.inside.used 0 0 c.self.invariant.in_order c.insert_run.ensures.in_order c.self.invariant.all c.insert_run.ensures.blocks;
  byte = c.self.invariant.byte;
  fits = c.self.invariant.fits;
}

pub returns-clause-unused : goal.returns-clause-unused
returns-clause-unused c =
    subst (λ bs. list_all (λ b. blocks_apart b (bytes_of (run_at c.args.first c.args.pages))) bs ≡ true) (sym c.insert_run.ensures.blocks)
    (live_apart c.self.inside.runs.items (run_at c.args.first c.args.pages) (subst (λ (k : Kept). list_all (λ r. runs_apart r (run_at c.args.first c.args.pages)) k.runs ≡ true) (sym c.self.view_is) c.requires.apart))
