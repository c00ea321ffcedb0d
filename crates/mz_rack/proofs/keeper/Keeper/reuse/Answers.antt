use Rattle.std.proofs.Common.{sym, subst}
use Rattle.mz_events.specs.declared.place.Place.TheVariants.{Large}
use Rattle.mz_events.specs.Standing.{Stands}
use Rattle.mz_rack.specs.Kinds.{keeping_of}
use Rattle.mz_rack.specs.declared.keeper.Kind.TheVariants as kind
use Rattle.mz_rack.specs.Runs.{Reused}
use Rattle.mz_rack.specs.declared.keeper.Keeper.TheInside.{Inside}
use Rattle.mz_rack.proofs.LargeLemmas.{of_large, no_large, reused}
use Rattle.mz_rack.proofs.keeper.Keeper.reuse.Goals as goal
use Rattle.mz_rack.proofs.keeper.Keeper.reuse.Goals.{in-Large, in-Pages}

pub returns : goal.returns
returns c = elim c.match-self.branch [
  | in-Large w ↦ λ x p z k s.
      let here = of_large c.self.inside.kind w.in-Large.large c.args.self.now c.self.view_is w.in-Large.is x p (Large z) k s in
      subst (λ (i : Inside). Reused x k c.args.w (Stands (keeping_of i.kind) x p (Large z)) c.match-self.result) (sym w.self-inside-is)
      (subst (λ o. Reused x k c.args.w (Stands (keeping_of (kind.Large w.reuse.new.self)) x p (Large z)) o) (sym w.result-is) (reused w.in-Large.large w.reuse.new.self w.reuse.result c.args.w x p z k here w.reuse.ensures))
  | in-Pages w ↦ λ x p z k s. absurd (no_large c.self.inside.kind c.args.self.now c.self.view_is w.in-Pages.is x p z k s)
]
