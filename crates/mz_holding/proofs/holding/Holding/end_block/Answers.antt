use Rattle.std.proofs.Common.{◌≡◌, true, subst, sym}
use Rattle.mz_base.specs.Space.{block_at}
use Rattle.mz_base.specs.Lists.{has_block}
use Rattle.mz_events.specs.State.{Kept}
use Rattle.mz_holding.specs.HeldRuns.{live_in_runs}
use Rattle.mz_holding.proofs.KeptLemmas.{used_has, used_dropped, live_fits, freed_byte, freed_fits}
use Rattle.mz_holding.proofs.holding.Holding.end_block.Goals as goal

pub overflow_sub-self : goal.overflow_sub-self
overflow_sub-self c = used_has c.self.inside.runs.items c.self.inside.used c.args.a c.args.n c.self.invariant.in_order c.self.invariant.all (subst (λ (k : Kept). has_block k.live (block_at c.args.a c.args.n) ≡ true) (sym c.self.view_is) c.requires)

pub invariant_of-self-2 : goal.invariant_of-self-2
invariant_of-self-2 c =
    let there : has_block (live_in_runs c.self.inside.runs.items) (block_at c.args.a c.args.n) ≡ true = subst (λ (k : Kept). has_block k.live (block_at c.args.a c.args.n) ≡ true) (sym c.self.view_is) c.requires in
    let fits = live_fits c.self.inside.runs.items c.args.a c.args.n there in
    record {
      in_order = c.remove_block.ensures.in_order;
      all = used_dropped c.self.inside.runs.items c.remove_block.new.runs.items c.self.inside.used c.args.a c.args.n c.self.invariant.in_order c.remove_block.ensures.in_order c.self.invariant.all c.remove_block.ensures.blocks there;
      byte = freed_byte c.freed_by-self-inside.result c.args.a c.args.n c.freed_by-self-inside.ensures.same fits.0;
      fits = freed_fits c.freed_by-self-inside.result c.args.a c.args.n c.freed_by-self-inside.ensures.same fits.1;
    }
