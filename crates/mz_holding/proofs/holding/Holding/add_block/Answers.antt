use Rattle.std.proofs.Common.{◌≡◌, ◌+◌, ◌≤◌, true, map, not, subst, sym, ap, ◌∙◌, arith}
use Rattle.std.specs.Prelude.{filter}
use Rattle.std.specs.List.{list_any}
use Rattle.std.specs.Option.{option_map}
use Rattle.mz_base.specs.Space.{block_at, bytes_of, same_block}
use Rattle.mz_base.specs.Lists.{add_block}
use Rattle.mz_base.specs.Room.{lies_in}
use Rattle.mz_events.specs.State.{Kept}
use Rattle.mz_events.specs.Changes.{with_block, still_freed}
use Rattle.mz_holding.specs.Gaps.{far}
use Rattle.mz_holding.specs.HeldRuns.{block_of, run_of_extent, run_of_held, live_in_runs}
use Rattle.mz_holding.proofs.KeptLemmas.{parts_same, map_filter, freed_kept, used_added, used_limit, used_same}
use Rattle.mz_holding.proofs.SwapLemmas.{lies_far}
use Rattle.mz_holding.proofs.holding.Holding.add_block.Goals as goal

pub invariant_of-self : goal.invariant_of-self
invariant_of-self c = record {
  in_order = c.add_block.ensures.in_order;
  all = used_same c.self.inside.runs.items c.add_block.new.runs.items c.self.inside.used c.args.a c.args.n c.self.invariant.in_order c.add_block.ensures.in_order c.self.invariant.all c.in_err-add_block.ensures.err;
  byte = c.self.invariant.byte;
  fits = c.self.invariant.fits;
}

pub still_freed-self-inside-requires-clause-within : goal.still_freed-self-inside-requires-clause-within
still_freed-self-inside-requires-clause-within c = lies_far c.self.inside.runs.items c.args.a c.args.n (subst (λ (k : Kept). list_any (λ r. lies_in r c.args.a (c.args.a + c.args.n)) k.runs ≡ true) (sym c.self.view_is) c.requires.lies)

pub invariant_of-self-2 : goal.invariant_of-self-2
invariant_of-self-2 c = record {
  in_order = c.add_block.ensures.in_order;
  all = used_added c.self.inside.runs.items c.add_block.new.runs.items c.self.inside.used c.args.a c.args.n c.self.invariant.in_order c.add_block.ensures.in_order c.self.invariant.all c.in_ok-add_block.ensures.ok;
  byte = freed_kept (λ e. 1 ≤ e.len) c.self.inside.freed c.still_freed-self-inside.result c.self.invariant.byte c.still_freed-self-inside.ensures.same;
  fits = freed_kept (λ e. e.first + e.len ≤ far) c.self.inside.freed c.still_freed-self-inside.result c.self.invariant.fits c.still_freed-self-inside.ensures.same;
}

pub returns-clause-ok : goal.returns-clause-ok
returns-clause-ok c =
    let b = block_at c.args.a c.args.n in
    parts_same (map run_of_held c.add_block.new.runs.items) (map run_of_held c.self.inside.runs.items) (live_in_runs c.add_block.new.runs.items) (add_block b (live_in_runs c.self.inside.runs.items)) (option_map block_of c.still_freed-self-inside.result) (still_freed b (option_map block_of c.self.inside.freed)) (map run_of_extent c.forget_bytes.new.cached.items) (filter (λ r. not (same_block (block_at c.args.a c.args.n) (bytes_of r))) (map run_of_extent c.self.inside.cached.items)) c.add_block.ensures.runs c.in_ok-add_block.ensures.ok c.still_freed-self-inside.ensures.is (ap (map run_of_extent) c.forget_bytes.ensures ∙ map_filter (λ r. not (same_block (block_at c.args.a c.args.n) (bytes_of r))) c.self.inside.cached.items)
    ∙ ap (with_block b) c.self.view_is

pub overflow_add-self : goal.overflow_add-self
overflow_add-self c = let fits = used_limit c.self.inside.runs.items c.add_block.new.runs.items c.self.inside.used c.args.a c.args.n c.self.invariant.in_order c.add_block.ensures.in_order c.self.invariant.all c.in_ok-add_block.ensures.ok in omega arith
