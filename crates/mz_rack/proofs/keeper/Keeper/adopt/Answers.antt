use Rattle.std.proofs.Common.{◌≡◌, ℕ, ◌/◌, true, refl, sym, subst, ◌∙◌, arith}
use Rattle.std.specs.List.{list_all}
use Rattle.mz_base.specs.declared.range.TheConstants.{PAGE}
use Rattle.mz_base.specs.Space.{run_at, runs_apart}
use Rattle.mz_events.specs.Places.{quantum_of}
use Rattle.mz_events.specs.State.{Kept}
use Rattle.mz_events.specs.Changes.{with_region}
use Rattle.mz_events.specs.Standing.{StandsForRegions, IsOf}
use Rattle.mz_rack.specs.declared.region.AnyRegion.{AnyRegion}
use Rattle.mz_rack.specs.Regions.{quantum_in, view_in, run_in}
use Rattle.mz_rack.specs.Asking.{IsTidy}
use Rattle.mz_rack.proofs.KeeperLemmas.{of_tiny, of_small, has_place, shelf_adopted, adopted}
use Rattle.mz_rack.proofs.keeper.Keeper.adopt.Goals as goal

pub unreachable-requires : goal.unreachable-requires
unreachable-requires c =
    let r = c.requires in
    let here = of_tiny c.self.inside.kind c.in-Tiny.shelf c.shelf.inside.magazine c.args.self.now c.self.view_is c.in-Tiny.is c.shelf.view_is r.space r.profile r.place r.kept r.stands in
    let of_region = subst (λ (a : AnyRegion). quantum_in a ≡ quantum_of r.place) c.in_default.is r.quantum in
    let of_shelf = sym c.shelf.invariant.quantum ∙ here.quantum in
    other (of_region ∙ sym of_shelf)
  where
    other : ◌≡◌ {A = ℕ} 512 16 → ⊥
    other e = omega (arith, e)

pub adopt-requires : goal.adopt-requires
adopt-requires c =
    let r = c.requires in
    let v = c.shelf.inside.magazine in
    let t = c.in-Tiny-region.region in
    let here = of_tiny c.self.inside.kind c.in-Tiny.shelf c.shelf.inside.magazine c.args.self.now c.self.view_is c.in-Tiny.is c.shelf.view_is r.space r.profile r.place r.kept r.stands in
    let of_space = subst (λ (a : AnyRegion). (view_in a).space ≡ r.space) c.in-Tiny-region.is r.of_space in
    let apart = subst (λ (a : AnyRegion). list_all (λ y. runs_apart y (run_in a)) r.kept.runs ≡ true) c.in-Tiny-region.is r.apart in
    let tidy = subst (λ (a : AnyRegion). IsTidy r.profile r.place (with_region (run_in a) (view_in a).live r.kept)) c.in-Tiny-region.is r.tidy in
    let place = has_place 16 65536 r.space r.profile r.place r.kept (with_region (run_at (t.first / PAGE) 64) t.live r.kept) (run_at (t.first / PAGE) 64) v c.shelf.invariant here r.regions tidy refl in
    (omega arith, (omega arith, (place, (subst (λ y. IsOf v.space y) (sym of_space) here.space, λ _. subst (λ (k : Kept). list_all (λ y. runs_apart y (run_at (t.first / PAGE) 64)) k.runs ≡ true) (sym here.keeps) apart))))

pub invariant_of-shelf : goal.invariant_of-shelf
invariant_of-shelf c = shelf_adopted 16 65536 c.shelf.inside.magazine c.adopt.new.self c.in-Tiny-region.region c.shelf.invariant c.first-first.ensures.is c.adopt.ensures.adopted

pub returns-in-Tiny-region : goal.returns-in-Tiny-region
returns-in-Tiny-region c = λ x p q k s regions of_x.
    let u = c.adopt.new.self in
    let here = of_tiny c.self.inside.kind c.in-Tiny.shelf c.shelf.inside.magazine c.args.self.now c.self.view_is c.in-Tiny.is c.shelf.view_is x p q k s in
    let of_space = subst (λ (a : AnyRegion). (view_in a).space ≡ x) c.in-Tiny-region.is of_x in
    subst (λ (a : AnyRegion). StandsForRegions u x p q (with_region (run_in a) (view_in a).live k)) (sym c.in-Tiny-region.is)
    (adopted 16 65536 x p q k c.shelf.inside.magazine u c.in-Tiny-region.region c.shelf.invariant here of_space c.adopt.ensures.adopted)

pub unreachable-requires-in_default-region : goal.unreachable-requires-in_default-region
unreachable-requires-in_default-region c =
    let r = c.requires in
    let here = of_small c.self.inside.kind c.in-Small.shelf c.shelf-in-Small.inside.magazine c.args.self.now c.self.view_is c.in-Small.is c.shelf-in-Small.view_is r.space r.profile r.place r.kept r.stands in
    let of_region = subst (λ (a : AnyRegion). quantum_in a ≡ quantum_of r.place) c.in_default-region.is r.quantum in
    let of_shelf = sym c.shelf-in-Small.invariant.quantum ∙ here.quantum in
    other (of_region ∙ sym of_shelf)
  where
    other : ◌≡◌ {A = ℕ} 16 512 → ⊥
    other e = omega (arith, e)

pub adopt-requires-in-Small : goal.adopt-requires-in-Small
adopt-requires-in-Small c =
    let r = c.requires in
    let v = c.shelf-in-Small.inside.magazine in
    let t = c.in-Small-region.region in
    let here = of_small c.self.inside.kind c.in-Small.shelf c.shelf-in-Small.inside.magazine c.args.self.now c.self.view_is c.in-Small.is c.shelf-in-Small.view_is r.space r.profile r.place r.kept r.stands in
    let of_space = subst (λ (a : AnyRegion). (view_in a).space ≡ r.space) c.in-Small-region.is r.of_space in
    let apart = subst (λ (a : AnyRegion). list_all (λ y. runs_apart y (run_in a)) r.kept.runs ≡ true) c.in-Small-region.is r.apart in
    let tidy = subst (λ (a : AnyRegion). IsTidy r.profile r.place (with_region (run_in a) (view_in a).live r.kept)) c.in-Small-region.is r.tidy in
    let place = has_place 512 16384 r.space r.profile r.place r.kept (with_region (run_at (t.first / PAGE) 512) t.live r.kept) (run_at (t.first / PAGE) 512) v c.shelf-in-Small.invariant here r.regions tidy refl in
    (omega arith, (omega arith, (place, (subst (λ y. IsOf v.space y) (sym of_space) here.space, λ _. subst (λ (k : Kept). list_all (λ y. runs_apart y (run_at (t.first / PAGE) 512)) k.runs ≡ true) (sym here.keeps) apart))))

pub invariant_of-shelf-in-Small-self : goal.invariant_of-shelf-in-Small-self
invariant_of-shelf-in-Small-self c = shelf_adopted 512 16384 c.shelf-in-Small.inside.magazine c.adopt-in-Small.new.self c.in-Small-region.region c.shelf-in-Small.invariant c.first-first-in-Small.ensures.is c.adopt-in-Small.ensures.adopted

pub returns-in-Small-region : goal.returns-in-Small-region
returns-in-Small-region c = λ x p q k s regions of_x.
    let u = c.adopt-in-Small.new.self in
    let here = of_small c.self.inside.kind c.in-Small.shelf c.shelf-in-Small.inside.magazine c.args.self.now c.self.view_is c.in-Small.is c.shelf-in-Small.view_is x p q k s in
    let of_space = subst (λ (a : AnyRegion). (view_in a).space ≡ x) c.in-Small-region.is of_x in
    subst (λ (a : AnyRegion). StandsForRegions u x p q (with_region (run_in a) (view_in a).live k)) (sym c.in-Small-region.is)
    (adopted 512 16384 x p q k c.shelf-in-Small.inside.magazine u c.in-Small-region.region c.shelf-in-Small.invariant here of_space c.adopt-in-Small.ensures.adopted)
