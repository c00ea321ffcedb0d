use Rattle.std.proofs.Common.{◌*◌, arith}
use Rattle.mz_rack.proofs.KeeperLemmas.{of_tiny, of_small, address_fits, shelf_yielded, yielded}
use Rattle.mz_rack.proofs.keeper.Keeper.yield_region.Goals as goal

pub overflow_mul-first : goal.overflow_mul-first
overflow_mul-first c =
    let r = c.requires in
    let here = of_tiny c.self.inside.kind c.in-Tiny.shelf c.shelf.inside.magazine c.args.self.now c.self.view_is c.in-Tiny.is c.shelf.view_is r.space r.profile r.place r.kept r.stands in
    let small = address_fits 16 65536 c.args.first c.shelf.inside.magazine r.kept c.shelf.invariant here.keeps r.there in
    omega (arith, small)

pub invariant_of-shelf : goal.invariant_of-shelf
invariant_of-shelf c = shelf_yielded 16 65536 (c.args.first * 16384) c.shelf.inside.magazine c.yield_region.new.self c.yield_region.result c.shelf.invariant c.yield_region.ensures.yielded c.yield_region.ensures.exact

pub returns-in-Some : goal.returns-in-Some
returns-in-Some c = λ x p q k s regions tidy.
    let here = of_tiny c.self.inside.kind c.in-Tiny.shelf c.shelf.inside.magazine c.args.self.now c.self.view_is c.in-Tiny.is c.shelf.view_is x p q k s in
    let o = yielded 16 65536 x p q k c.args.first c.shelf.inside.magazine c.yield_region.new.self c.in-Some.region c.shelf.invariant here c.in-Some.ensures.yielded c.in-Some.ensures.exact in
    record { quantum = o.quantum; space = o.space; run = o.run; live = o.live; left = o.left }

pub overflow_mul-first-in-Small : goal.overflow_mul-first-in-Small
overflow_mul-first-in-Small c =
    let r = c.requires in
    let here = of_small c.self.inside.kind c.in-Small.shelf c.shelf-in-Small.inside.magazine c.args.self.now c.self.view_is c.in-Small.is c.shelf-in-Small.view_is r.space r.profile r.place r.kept r.stands in
    let small = address_fits 512 16384 c.args.first c.shelf-in-Small.inside.magazine r.kept c.shelf-in-Small.invariant here.keeps r.there in
    omega (arith, small)

pub invariant_of-shelf-in-Small : goal.invariant_of-shelf-in-Small
invariant_of-shelf-in-Small c = shelf_yielded 512 16384 (c.args.first * 16384) c.shelf-in-Small.inside.magazine c.yield_region-in-Small.new.self c.yield_region-in-Small.result c.shelf-in-Small.invariant c.yield_region-in-Small.ensures.yielded c.yield_region-in-Small.ensures.exact

pub returns-in-Some-yield_region : goal.returns-in-Some-yield_region
returns-in-Some-yield_region c = λ x p q k s regions tidy.
    let here = of_small c.self.inside.kind c.in-Small.shelf c.shelf-in-Small.inside.magazine c.args.self.now c.self.view_is c.in-Small.is c.shelf-in-Small.view_is x p q k s in
    let o = yielded 512 16384 x p q k c.args.first c.shelf-in-Small.inside.magazine c.yield_region-in-Small.new.self c.in-Some-yield_region.region c.shelf-in-Small.invariant here c.in-Some-yield_region.ensures.yielded c.in-Some-yield_region.ensures.exact in
    record { quantum = o.quantum; space = o.space; run = o.run; live = o.live; left = o.left }
