use Rattle.std.proofs.Common.{sym, ◌∙◌}
use Rattle.std.proofs.lemmas.Bool.{or_right}
use Rattle.mz_events.specs.Places.{is_magazine, is_depot}
use Rattle.mz_rack.proofs.KeeperLemmas.{of_tiny, of_small, no_regions, found_unused}
use Rattle.mz_rack.proofs.keeper.Keeper.unused.Goals as goal
use Rattle.mz_rack.proofs.keeper.Keeper.unused.Goals.{in-Tiny, in-Small, in-Pages, in-Pages-2}

pub returns-in-Some : goal.returns-in-Some
returns-in-Some c =
    elim c.match-self.branch [
      | in-Tiny w ↦ λ x p q k n s depot size.
          let v = w.shelf.inside.magazine in
          let here = of_tiny c.self.inside.kind w.in-Tiny.shelf v c.args.self.now c.self.view_is w.in-Tiny.is w.shelf.view_is x p q k s in
          found_unused 16 65536 x p q k n c.in-Some.a v w.shelf.invariant here depot size (λ y. sym c.in-Some.is ∙ w.empty-is ∙ w.empty-empty.ensures y)
      | in-Small w ↦ λ x p q k n s depot size.
          let v = w.shelf-in-Small.inside.magazine in
          let here = of_small c.self.inside.kind w.in-Small.shelf v c.args.self.now c.self.view_is w.in-Small.is w.shelf-in-Small.view_is x p q k s in
          found_unused 512 16384 x p q k n c.in-Some.a v w.shelf-in-Small.invariant here depot size (λ y. sym c.in-Some.is ∙ w.empty-is ∙ w.empty-empty-in-Small.ensures y)
      | in-Pages w ↦ λ x p q k n s depot size. absurd (no_regions c.self.inside.kind c.args.self.now c.self.view_is w.in-Pages.is x p q k s (or_right (is_magazine q) (is_depot q) depot))
      | in-Pages-2 w ↦ λ x p q k n s depot size. absurd (no_regions c.self.inside.kind c.args.self.now c.self.view_is w.in-Pages.is x p q k s (or_right (is_magazine q) (is_depot q) depot))
    ]
