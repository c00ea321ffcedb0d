use Rattle.std.proofs.Common.{◌≡◌, ◌+◌, ◌≤◌, true, subst, sym, arith}
use Rattle.std.specs.List.{list_any}
use Rattle.mz_base.specs.Space.{block_at}
use Rattle.mz_base.specs.Lists.{has_block}
use Rattle.mz_base.specs.Room.{lies_in}
use Rattle.mz_events.specs.State.{Kept}
use Rattle.mz_holding.specs.Gaps.{far}
use Rattle.mz_holding.proofs.KeptLemmas.{freed_kept, size_fits, used_resized, used_same, used_has}
use Rattle.mz_holding.proofs.QueryLemmas.{used_sum}
use Rattle.mz_holding.proofs.SwapLemmas.{lies_far}
use Rattle.mz_holding.proofs.holding.Holding.resize_block.Goals as goal

pub invariant_of-self : goal.invariant_of-self
invariant_of-self c = record {
  in_order = c.resize_block.ensures.in_order;
  all = used_same c.self.inside.runs.items c.resize_block.new.runs.items c.self.inside.used c.args.a c.args.n c.self.invariant.in_order c.resize_block.ensures.in_order c.self.invariant.all c.in_err-resize_block.ensures.err;
  byte = c.self.invariant.byte;
  fits = c.self.invariant.fits;
}

pub overflow_sub-self : goal.overflow_sub-self
overflow_sub-self c = used_has c.self.inside.runs.items c.self.inside.used c.args.a c.args.n c.self.invariant.in_order c.self.invariant.all (subst (λ (k : Kept). has_block k.live (block_at c.args.a c.args.n) ≡ true) (sym c.self.view_is) c.requires.there)

pub overflow_add-self : goal.overflow_add-self
overflow_add-self c =
    let is = used_resized c.self.inside.runs.items c.resize_block.new.runs.items c.self.inside.used c.args.a c.args.n c.self.invariant.in_order c.resize_block.ensures.in_order c.self.invariant.all c.args.m c.in_ok-resize_block.ensures.ok (subst (λ (k : Kept). has_block k.live (block_at c.args.a c.args.n) ≡ true) (sym c.self.view_is) c.requires.there) in
    let sum = used_sum c.resize_block.new.runs.items in
    let fits = size_fits c.resize_block.new.runs.items c.resize_block.ensures.in_order in
    omega arith

pub still_freed-self-inside-requires-clause-within : goal.still_freed-self-inside-requires-clause-within
still_freed-self-inside-requires-clause-within c = lies_far c.self.inside.runs.items c.args.a c.args.m (subst (λ (k : Kept). list_any (λ r. lies_in r c.args.a (c.args.a + c.args.m)) k.runs ≡ true) (sym c.self.view_is) c.requires.room.lies)

pub invariant_of-self-2 : goal.invariant_of-self-2
invariant_of-self-2 c = record {
  in_order = c.resize_block.ensures.in_order;
  all = used_resized c.self.inside.runs.items c.resize_block.new.runs.items c.self.inside.used c.args.a c.args.n c.self.invariant.in_order c.resize_block.ensures.in_order c.self.invariant.all c.args.m c.in_ok-resize_block.ensures.ok (subst (λ (k : Kept). has_block k.live (block_at c.args.a c.args.n) ≡ true) (sym c.self.view_is) c.requires.there);
  byte = freed_kept (λ e. 1 ≤ e.len) c.self.inside.freed c.still_freed-self-inside.result c.self.invariant.byte c.still_freed-self-inside.ensures.same;
  fits = freed_kept (λ e. e.first + e.len ≤ far) c.self.inside.freed c.still_freed-self-inside.result c.self.invariant.fits c.still_freed-self-inside.ensures.same;
}
