use Rattle.std.proofs.Common.{◌≡◌, ℕ, ◌+◌, vec_len, [], refl, arith}
use Rattle.mz_ground.specs.Views.{SpanView}
use Rattle.mz_region.specs.Views.{RegionView}
use Rattle.mz_events.specs.declared.place.Place.TheVariants.{Pages, Large}
use Rattle.mz_rack.proofs.StockLemmas.{of_stock, stock_of, pages_below, come_back}
use Rattle.mz_rack.proofs.keeper.Keeper.put_run_back.Goals as goal

no_more : (m : ℕ) → m ≡ m + 0
no_more m = omega arith

abbrev at_start : SpanView → RegionView
at_start s = record { space = s.space; first = s.first; live = [] }

pub back-requires-clause-below : goal.back-requires-clause-below
back-requires-clause-below c =
    let r = c.requires in
    let n = vec_len c.stock.inside.tiny in
    let m = vec_len c.stock.inside.small in
    let st = of_stock c.self.inside.kind c.in-Pages.stock (stock_of c.stock.inside.pages n m) c.args.self.now c.self.view_is c.in-Pages.is c.stock.view_is r.space r.profile Pages r.kept r.stands in
    pages_below r.space r.profile r.kept c.stock.inside.pages n m c.stock.invariant.0 st _ c.args.run (at_start c.args.run) refl refl r.lacked.below

pub returns : goal.returns
returns c = λ x p z k s l.
    let n = vec_len c.stock.inside.tiny in
    let m = vec_len c.stock.inside.small in
    let st = of_stock c.self.inside.kind c.in-Pages.stock (stock_of c.stock.inside.pages n m) c.args.self.now c.self.view_is c.in-Pages.is c.stock.view_is x p Pages k s in
    come_back x p k c.stock.inside.pages n m c.stock.invariant.0 st c.a_run_is_read.ensures (Large z) _ c.back.new.self n m c.args.run (at_start c.args.run) refl refl c.back.ensures.freed l.taken l.there l.below (omega arith) (omega arith) (no_more n) (no_more m)
