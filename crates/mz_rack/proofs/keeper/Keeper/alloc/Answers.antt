use Rattle.std.proofs.Common.{ap}
use Rattle.std.proofs.lemmas.Bool.{or_left}
use Rattle.mz_events.specs.Places.{is_magazine, is_depot}
use Rattle.mz_rack.specs.declared.keeper.Keeper.TheInside.{Inside}
use Rattle.mz_rack.specs.declared.keeper.Kind.TheVariants as kind
use Rattle.mz_rack.proofs.KeeperLemmas.{of_tiny, of_small, no_regions, placed, placed_then}
use Rattle.mz_rack.proofs.keeper.Keeper.alloc.Goals as goal
use Rattle.mz_rack.proofs.keeper.Keeper.alloc.Goals.{in-Tiny, in-Small, in-Pages}

pub returns : goal.returns
returns c =
    let n = c.args.n in
    let al = c.args.al in
    elim c.match-self.branch [
      | in-Tiny w ↦ λ x p q k s one size.
          let v = w.shelf.inside.magazine in
          let u = w.alloc.new.self in
          let here = of_tiny c.self.inside.kind w.in-Tiny.shelf v c.args.self.now c.self.view_is w.in-Tiny.is w.shelf.view_is x p q k s in
          placed_then x p q k n al (kind.Tiny u) c.match-self.self-inside.kind w.alloc.result c.match-self.result (ap (λ (i : Inside). i.kind) w.self-inside-is) w.result-is
          (placed 16 65536 x p q k n al v u w.alloc.result w.shelf.invariant here one size w.alloc.ensures.served w.alloc.ensures.placed)
      | in-Small w ↦ λ x p q k s one size.
          let v = w.shelf-in-Small.inside.magazine in
          let u = w.alloc-in-Small.new.self in
          let here = of_small c.self.inside.kind w.in-Small.shelf v c.args.self.now c.self.view_is w.in-Small.is w.shelf-in-Small.view_is x p q k s in
          placed_then x p q k n al (kind.Small u) c.match-self.self-inside.kind w.alloc-in-Small.result c.match-self.result (ap (λ (i : Inside). i.kind) w.self-inside-is) w.result-is
          (placed 512 16384 x p q k n al v u w.alloc-in-Small.result w.shelf-in-Small.invariant here one size w.alloc-in-Small.ensures.served w.alloc-in-Small.ensures.placed)
      | in-Pages w ↦ λ x p q k s one size. absurd (no_regions c.self.inside.kind c.args.self.now c.self.view_is w.in-Pages.is x p q k s (or_left (is_magazine q) (is_depot q) one))
    ]
