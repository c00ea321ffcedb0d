use Rattle.std.proofs.Common.{sym, subst}
use Rattle.mz_events.specs.declared.place.Place.TheVariants.{Large}
use Rattle.mz_events.specs.Standing.{Stands}
use Rattle.mz_rack.specs.Kinds.{keeping_of}
use Rattle.mz_rack.specs.declared.keeper.Kind.TheVariants as kind
use Rattle.mz_rack.specs.Flushing.{Flushed}
use Rattle.mz_rack.specs.declared.keeper.Keeper.TheInside.{Inside}
use Rattle.mz_rack.proofs.LargeLemmas.{of_large, no_large, flushed}
use Rattle.mz_rack.proofs.keeper.Keeper.flush_one.Goals as goal
use Rattle.mz_rack.proofs.keeper.Keeper.flush_one.Goals.{in-Large, in-Pages}

pub returns : goal.returns
returns c = elim c.match-self.branch [
  | in-Large w ↦ λ x p z k s.
      let here = of_large c.self.inside.kind w.in-Large.large c.args.self.now c.self.view_is w.in-Large.is x p (Large z) k s in
      subst (λ (i : Inside). Flushed x k (Stands (keeping_of i.kind) x p (Large z)) c.match-self.result) (sym w.self-inside-is)
      (subst (λ o. Flushed x k (Stands (keeping_of (kind.Large w.flush_one.new.self)) x p (Large z)) o) (sym w.result-is) (flushed w.in-Large.large w.flush_one.new.self w.flush_one.result x p z k here w.flush_one.ensures))
  | in-Pages w ↦ λ x p z k s. absurd (no_large c.self.inside.kind c.args.self.now c.self.view_is w.in-Pages.is x p z k s)
]
