use Rattle.std.proofs.Common.{ap}
use Rattle.mz_rack.specs.declared.keeper.Keeper.TheInside.{Inside}
use Rattle.mz_rack.specs.declared.keeper.Kind.TheVariants as kind
use Rattle.mz_rack.proofs.KeeperLemmas.{of_tiny, of_small, no_regions}
use Rattle.mz_rack.proofs.Refitting.{refits, refits_then}
use Rattle.mz_rack.proofs.keeper.Keeper.resize.Goals as goal
use Rattle.mz_rack.proofs.keeper.Keeper.resize.Goals.{in-Tiny, in-Small, in-Pages, in-Pages-2}

pub returns : goal.returns
returns c =
    let n = c.args.n in
    let t = c.args.span.now in
    elim c.match-self.branch [
      | in-Tiny w ↦ λ x p q k s regions size.
          let v = w.shelf.inside.magazine in
          let u = w.resize.new.self in
          let here = of_tiny c.self.inside.kind w.in-Tiny.shelf v c.args.self.now c.self.view_is w.in-Tiny.is w.shelf.view_is x p q k s in
          refits_then x p q k t n (kind.Tiny u) c.match-self.self-inside.kind w.resize.result c.match-self.result w.resize.new.s c.match-self.span (ap (λ (i : Inside). i.kind) w.self-inside-is) w.result-is w.span-is
          (refits 16 65536 x p q k n v u t w.resize.new.s w.resize.result w.shelf.invariant here regions size w.resize.ensures.resized w.resize.ensures.fits w.resize.ensures.shrinks)
      | in-Small w ↦ λ x p q k s regions size.
          let v = w.shelf-in-Small.inside.magazine in
          let u = w.resize-in-Small.new.self in
          let here = of_small c.self.inside.kind w.in-Small.shelf v c.args.self.now c.self.view_is w.in-Small.is w.shelf-in-Small.view_is x p q k s in
          refits_then x p q k t n (kind.Small u) c.match-self.self-inside.kind w.resize-in-Small.result c.match-self.result w.resize-in-Small.new.s c.match-self.span (ap (λ (i : Inside). i.kind) w.self-inside-is) w.result-is w.span-is
          (refits 512 16384 x p q k n v u t w.resize-in-Small.new.s w.resize-in-Small.result w.shelf-in-Small.invariant here regions size w.resize-in-Small.ensures.resized w.resize-in-Small.ensures.fits w.resize-in-Small.ensures.shrinks)
      | in-Pages w ↦ λ x p q k s regions size. absurd (no_regions c.self.inside.kind c.args.self.now c.self.view_is w.in-Pages.is x p q k s regions)
      | in-Pages-2 w ↦ λ x p q k s regions size. absurd (no_regions c.self.inside.kind c.args.self.now c.self.view_is w.in-Pages.is x p q k s regions)
    ]
