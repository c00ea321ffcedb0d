use Rattle.std.proofs.Common.{◌≡◌, ◌≤◌, ◌/◌, ◌+◌, ℕ, vec_len, ap, sym, subst, ◌∙◌, arith}
use Rattle.mz_base.specs.declared.range.TheConstants.{PAGE}
use Rattle.mz_events.specs.declared.place.Place.TheVariants.{Pages}
use Rattle.mz_events.specs.Places.{quantum_of, nano_start}
use Rattle.mz_events.specs.Changes.{one_for, pages_with}
use Rattle.mz_events.specs.Standing.{StandsForPages}
use Rattle.mz_rack.specs.declared.region.AnyRegion.{AnyRegion}
use Rattle.mz_rack.specs.Regions.{quantum_in, run_in}
use Rattle.mz_rack.specs.Ending.{IsLacked}
use Rattle.mz_rack.proofs.StockLemmas.{of_stock, stock_of, tiny_depot, small_depot, room_for_blank, pages_count, pages_below, come_back}
use Rattle.mz_rack.proofs.keeper.Keeper.put_back.Goals as goal

no_more : (m : ℕ) → m ≡ m + 0
no_more m = omega arith

pub back-requires-clause-below : goal.back-requires-clause-below
back-requires-clause-below c =
    let r = c.requires in
    let n = vec_len c.stock.inside.tiny in
    let m = vec_len c.stock.inside.small in
    let b = c.stock.inside.pages in
    let st = of_stock c.self.inside.kind c.in-Pages.stock (stock_of b n m) c.args.self.now c.self.view_is c.in-Pages.is c.stock.view_is r.space r.profile Pages r.kept r.stands in
    let lacked = subst (λ (a : AnyRegion). IsLacked r.profile r.depot r.kept (run_in a)) c.in-Tiny.is r.lacked in
    pages_below r.space r.profile r.kept b n m c.stock.invariant.0 st 64 c.in-Ok.span c.in-Tiny.region c.in-Ok.ensures.2 (ap (λ y. y / PAGE) c.in-Ok.ensures.3) lacked.below

pub push_reserved-requires : goal.push_reserved-requires
push_reserved-requires c =
    let r = c.requires in
    let n = vec_len c.stock.inside.tiny in
    let m = vec_len c.stock.inside.small in
    let b = c.stock.inside.pages in
    let st = of_stock c.self.inside.kind c.in-Pages.stock (stock_of b n m) c.args.self.now c.self.view_is c.in-Pages.is c.stock.view_is r.space r.profile Pages r.kept r.stands in
    let lacked = subst (λ (a : AnyRegion). IsLacked r.profile r.depot r.kept (run_in a)) c.in-Tiny.is r.lacked in
    let kinds = tiny_depot r.depot lacked.is_one (subst (λ (a : AnyRegion). quantum_in a ≡ quantum_of r.depot) c.in-Tiny.is r.quantum) in
    let some : 1 ≤ r.kept.tiny_regions = subst (λ y. one_for y ≤ r.kept.tiny_regions) kinds.0 lacked.tiny in
    room_for_blank b.free n _ r.kept.tiny_regions (nano_start r.profile) 64 c.stock.invariant.1 (pages_count r.space r.profile r.kept b n m c.stock.invariant.0 st) st.tiny some

pub returns-in-Ok : goal.returns-in-Ok
returns-in-Ok c = λ x p d k s q l.
    let n = vec_len c.stock.inside.tiny in
    let m = vec_len c.stock.inside.small in
    let b = c.stock.inside.pages in
    let st = of_stock c.self.inside.kind c.in-Pages.stock (stock_of b n m) c.args.self.now c.self.view_is c.in-Pages.is c.stock.view_is x p Pages k s in
    let lacked = subst (λ (a : AnyRegion). IsLacked p d k (run_in a)) c.in-Tiny.is l in
    let kinds = tiny_depot d lacked.is_one (subst (λ (a : AnyRegion). quantum_in a ≡ quantum_of d) c.in-Tiny.is q) in
    subst (λ (a : AnyRegion). StandsForPages (stock_of c.back.new.self (vec_len c.push_reserved.new.self) m) x p Pages (pages_with d (run_in a) k)) (sym c.in-Tiny.is)
    (come_back x p k b n m c.stock.invariant.0 st c.a_run_is_read.ensures d 64 c.back.new.self (vec_len c.push_reserved.new.self) m c.in-Ok.span c.in-Tiny.region c.in-Ok.ensures.2 (ap (λ y. y / PAGE) c.in-Ok.ensures.3) c.back.ensures.freed lacked.taken lacked.there lacked.below lacked.tiny lacked.small
    (c.push_reserved.ensures.len ∙ ap (λ y. n + one_for y) (sym kinds.0)) (no_more m ∙ ap (λ y. m + one_for y) (sym kinds.1)))

pub back-requires-in-Ok-strip-clause-below : goal.back-requires-in-Ok-strip-clause-below
back-requires-in-Ok-strip-clause-below c =
    let r = c.requires in
    let n = vec_len c.stock-in-Ok-strip.inside.tiny in
    let m = vec_len c.stock-in-Ok-strip.inside.small in
    let b = c.stock-in-Ok-strip.inside.pages in
    let st = of_stock c.self.inside.kind c.in-Pages.stock (stock_of b n m) c.args.self.now c.self.view_is c.in-Pages.is c.stock-in-Ok-strip.view_is r.space r.profile Pages r.kept r.stands in
    let lacked = subst (λ (a : AnyRegion). IsLacked r.profile r.depot r.kept (run_in a)) c.in-Small.is r.lacked in
    pages_below r.space r.profile r.kept b n m c.stock-in-Ok-strip.invariant.0 st 512 c.in-Ok-strip.span c.in-Small.region c.in-Ok-strip.ensures.2 (ap (λ y. y / PAGE) c.in-Ok-strip.ensures.3) lacked.below

pub push_reserved-requires-in-Ok-strip : goal.push_reserved-requires-in-Ok-strip
push_reserved-requires-in-Ok-strip c =
    let r = c.requires in
    let n = vec_len c.stock-in-Ok-strip.inside.tiny in
    let m = vec_len c.stock-in-Ok-strip.inside.small in
    let b = c.stock-in-Ok-strip.inside.pages in
    let st = of_stock c.self.inside.kind c.in-Pages.stock (stock_of b n m) c.args.self.now c.self.view_is c.in-Pages.is c.stock-in-Ok-strip.view_is r.space r.profile Pages r.kept r.stands in
    let lacked = subst (λ (a : AnyRegion). IsLacked r.profile r.depot r.kept (run_in a)) c.in-Small.is r.lacked in
    let kinds = small_depot r.depot lacked.is_one (subst (λ (a : AnyRegion). quantum_in a ≡ quantum_of r.depot) c.in-Small.is r.quantum) in
    let some : 1 ≤ r.kept.small_regions = subst (λ y. one_for y ≤ r.kept.small_regions) kinds.1 lacked.small in
    room_for_blank b.free m _ r.kept.small_regions (nano_start r.profile) 512 c.stock-in-Ok-strip.invariant.2 (pages_count r.space r.profile r.kept b n m c.stock-in-Ok-strip.invariant.0 st) st.small some

pub returns-in-Ok-strip : goal.returns-in-Ok-strip
returns-in-Ok-strip c = λ x p d k s q l.
    let n = vec_len c.stock-in-Ok-strip.inside.tiny in
    let m = vec_len c.stock-in-Ok-strip.inside.small in
    let b = c.stock-in-Ok-strip.inside.pages in
    let st = of_stock c.self.inside.kind c.in-Pages.stock (stock_of b n m) c.args.self.now c.self.view_is c.in-Pages.is c.stock-in-Ok-strip.view_is x p Pages k s in
    let lacked = subst (λ (a : AnyRegion). IsLacked p d k (run_in a)) c.in-Small.is l in
    let kinds = small_depot d lacked.is_one (subst (λ (a : AnyRegion). quantum_in a ≡ quantum_of d) c.in-Small.is q) in
    subst (λ (a : AnyRegion). StandsForPages (stock_of c.back-in-Ok-strip.new.self n (vec_len c.push_reserved-in-Ok-strip.new.self)) x p Pages (pages_with d (run_in a) k)) (sym c.in-Small.is)
    (come_back x p k b n m c.stock-in-Ok-strip.invariant.0 st c.a_run_is_read.ensures d 512 c.back-in-Ok-strip.new.self n (vec_len c.push_reserved-in-Ok-strip.new.self) c.in-Ok-strip.span c.in-Small.region c.in-Ok-strip.ensures.2 (ap (λ y. y / PAGE) c.in-Ok-strip.ensures.3) c.back-in-Ok-strip.ensures.freed lacked.taken lacked.there lacked.below lacked.tiny lacked.small
    (no_more n ∙ ap (λ y. n + one_for y) (sym kinds.0)) (c.push_reserved-in-Ok-strip.ensures.len ∙ ap (λ y. m + one_for y) (sym kinds.1)))
