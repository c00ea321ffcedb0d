use Rattle.std.proofs.Common.{subst, sym}
use Rattle.mz_base.specs.Space.{block_at}
use Rattle.mz_holding.specs.LiveBlocks.{live_of}
use Rattle.mz_holding.specs.NanoPages.{AllOfSize}
use Rattle.mz_holding.proofs.NanoLemmas.{sizes_fewer}
use Rattle.mz_holding.proofs.nano.NanoPage.end_block.Goals as goal

pub invariant_of-self : goal.invariant_of-self
invariant_of-self c = subst (AllOfSize c.self.inside.size) (sym c.remove.ensures) (sizes_fewer c.self.inside.size (live_of c.self.inside.blocks) (block_at c.args.a c.args.n) c.self.invariant)
