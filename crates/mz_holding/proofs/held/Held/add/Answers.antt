use Rattle.std.proofs.Common.{◌+◌, subst, sym, arith}
use Rattle.mz_base.specs.Space.{block_at}
use Rattle.mz_holding.specs.LiveBlocks.{IsHeld, IsIdleBound}
use Rattle.mz_holding.specs.HeldRuns.{live_of_held}
use Rattle.mz_holding.proofs.ChangeLemmas.{held_add, add_fits, fits_far}
use Rattle.mz_holding.proofs.NeighbourLemmas.{spread_add}
use Rattle.mz_holding.proofs.RoomLemmas.{bound_added}
use Rattle.mz_holding.proofs.held.Held.add.Goals as goal

pub overflow_add-self : goal.overflow_add-self
overflow_add-self c =
    let fits = add_fits c.args.self.now.first c.args.self.now.pages c.args.self.now.used (live_of_held c.args.self.now) c.args.self.now.sound c.args.self.now.blocks.spread c.args.a c.args.n c.requires.some c.requires.lies c.requires.apart in
    let limit = c.args.self.now.sound.1 in
    omega arith

pub invariant_of-self-2 : goal.invariant_of-self-2
invariant_of-self-2 c = record {
  sound = subst (IsHeld c.args.self.now.first c.args.self.now.pages (c.args.self.now.used + c.args.n)) (sym c.in_ok-insert.ensures.ok) (held_add c.args.self.now.first c.args.self.now.pages c.args.self.now.used (live_of_held c.args.self.now) c.args.self.now.sound c.args.self.now.blocks.spread c.args.a c.args.n c.requires.some c.requires.lies c.requires.apart);
  bound = subst (IsIdleBound c.args.self.now.first c.args.self.now.pages c.args.self.now.most) (sym c.in_ok-insert.ensures.ok) (bound_added c.args.self.now.first c.args.self.now.pages c.args.self.now.most (live_of_held c.args.self.now) c.args.self.now.blocks.spread c.args.self.now.bound (block_at c.args.a c.args.n) (spread_add (block_at c.args.a c.args.n) (live_of_held c.args.self.now) c.requires.some (fits_far c.args.self.now.first c.args.self.now.pages c.args.self.now.used (live_of_held c.args.self.now) c.args.self.now.sound c.args.self.now.blocks.spread c.args.a c.args.n c.requires.some c.requires.lies c.requires.apart) c.requires.apart c.args.self.now.blocks.spread));
}
