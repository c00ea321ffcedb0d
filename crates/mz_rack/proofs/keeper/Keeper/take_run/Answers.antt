use Rattle.std.proofs.Common.{vec_len}
use Rattle.mz_events.specs.declared.place.Place.TheVariants.{Pages}
use Rattle.mz_rack.proofs.StockLemmas.{of_stock, stock_of, found_run}
use Rattle.mz_rack.proofs.keeper.Keeper.take_run.Goals as goal

pub returns : goal.returns
returns c = λ x p k s order.
    let n = vec_len c.stock.inside.tiny in
    let m = vec_len c.stock.inside.small in
    let st = of_stock c.self.inside.kind c.in-Pages.stock (stock_of c.stock.inside.pages n m) c.args.self.now c.self.view_is c.in-Pages.is c.stock.view_is x p Pages k s in
    found_run c.a_run_is_read.ensures x p k c.args.w c.args.al c.stock.inside.pages c.take.new.self n m c.take.result c.stock.invariant.0 st c.requires.some order c.take.ensures.taken
