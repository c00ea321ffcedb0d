use Rattle.std.proofs.Common.{◌*◌, subst, sym}
use Rattle.mz_holding.specs.LiveBlocks.{IsHeld, IsIdleBound}
use Rattle.mz_holding.proofs.RoomLemmas.{bound_empty, held_empty}
use Rattle.mz_holding.proofs.held.Held.empty.Goals as goal

pub invariant_of-result : goal.invariant_of-result
invariant_of-result c = record {
  sound = subst (IsHeld c.args.first c.args.pages 0) (sym c.new.ensures) (held_empty c.args.first c.args.pages c.requires.some c.requires.fits);
  bound = subst (IsIdleBound c.args.first c.args.pages (c.args.pages * 16384)) (sym c.new.ensures) (bound_empty c.args.first c.args.pages);
}
