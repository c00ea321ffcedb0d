use Rattle.std.proofs.Common.{sym, ◌∙◌}
use Rattle.std.proofs.lemmas.Bool.{or_right}
use Rattle.mz_events.specs.Places.{is_magazine, is_depot}
use Rattle.mz_rack.proofs.KeeperLemmas.{of_tiny, of_small, no_regions, found_room, found_none}
use Rattle.mz_rack.proofs.keeper.Keeper.fits.Goals as goal
use Rattle.mz_rack.proofs.keeper.Keeper.fits.Goals.{in-Tiny, in-Small, in-Pages, in-Pages-2}

pub returns-in-Some : goal.returns-in-Some
returns-in-Some c =
    let n = c.args.n in
    let al = c.args.al in
    elim c.match-self.branch [
      | in-Tiny w ↦ λ x p q k s depot size tidy.
          let v = w.shelf.inside.magazine in
          let here = of_tiny c.self.inside.kind w.in-Tiny.shelf v c.args.self.now c.self.view_is w.in-Tiny.is w.shelf.view_is x p q k s in
          found_room 16 65536 x p q k n al c.in-Some.a v w.shelf.invariant here depot size tidy (λ y. sym c.in-Some.is ∙ w.first-is ∙ w.fits-first.ensures y)
      | in-Small w ↦ λ x p q k s depot size tidy.
          let v = w.shelf-in-Small.inside.magazine in
          let here = of_small c.self.inside.kind w.in-Small.shelf v c.args.self.now c.self.view_is w.in-Small.is w.shelf-in-Small.view_is x p q k s in
          found_room 512 16384 x p q k n al c.in-Some.a v w.shelf-in-Small.invariant here depot size tidy (λ y. sym c.in-Some.is ∙ w.first-is ∙ w.fits-first-in-Small.ensures y)
      | in-Pages w ↦ λ x p q k s depot size tidy. absurd (no_regions c.self.inside.kind c.args.self.now c.self.view_is w.in-Pages.is x p q k s (or_right (is_magazine q) (is_depot q) depot))
      | in-Pages-2 w ↦ λ x p q k s depot size tidy. absurd (no_regions c.self.inside.kind c.args.self.now c.self.view_is w.in-Pages.is x p q k s (or_right (is_magazine q) (is_depot q) depot))
    ]

pub returns-in-None : goal.returns-in-None
returns-in-None c =
    let n = c.args.n in
    let al = c.args.al in
    elim c.match-self.branch [
      | in-Tiny w ↦ λ x p q k s depot size tidy.
          let v = w.shelf.inside.magazine in
          let here = of_tiny c.self.inside.kind w.in-Tiny.shelf v c.args.self.now c.self.view_is w.in-Tiny.is w.shelf.view_is x p q k s in
          found_none 16 65536 x p q k n al v w.shelf.invariant here depot size (λ y. sym c.in-None.is ∙ w.first-is ∙ w.fits-first.ensures y)
      | in-Small w ↦ λ x p q k s depot size tidy.
          let v = w.shelf-in-Small.inside.magazine in
          let here = of_small c.self.inside.kind w.in-Small.shelf v c.args.self.now c.self.view_is w.in-Small.is w.shelf-in-Small.view_is x p q k s in
          found_none 512 16384 x p q k n al v w.shelf-in-Small.invariant here depot size (λ y. sym c.in-None.is ∙ w.first-is ∙ w.fits-first-in-Small.ensures y)
      | in-Pages w ↦ λ x p q k s depot size tidy. absurd (no_regions c.self.inside.kind c.args.self.now c.self.view_is w.in-Pages.is x p q k s (or_right (is_magazine q) (is_depot q) depot))
      | in-Pages-2 w ↦ λ x p q k s depot size tidy. absurd (no_regions c.self.inside.kind c.args.self.now c.self.view_is w.in-Pages.is x p q k s (or_right (is_magazine q) (is_depot q) depot))
    ]
