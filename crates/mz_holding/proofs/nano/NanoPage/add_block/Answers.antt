use Rattle.std.proofs.Common.{◌≡◌, subst, sym, refl}
use Rattle.mz_base.specs.Space.{block_at}
use Rattle.mz_events.specs.State.{Kept}
use Rattle.mz_holding.specs.LiveBlocks.{live_of}
use Rattle.mz_holding.specs.NanoPages.{AllOfSize}
use Rattle.mz_holding.proofs.NeighbourLemmas.{all_add}
use Rattle.mz_holding.proofs.nano.NanoPage.add_block.Goals as goal

pub invariant_of-self-2 : goal.invariant_of-self-2
invariant_of-self-2 c =
    let sizes = subst (λ (k : Kept). AllOfSize c.args.n k.live) (sym c.self.view_is) c.requires.size in
    subst (AllOfSize c.args.n) (sym c.in_ok-insert.ensures.ok) (all_add (λ b. b.size ≡ c.args.n) (block_at c.args.a c.args.n) (live_of c.self.inside.blocks) refl sizes)
