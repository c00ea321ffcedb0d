use Rattle.std.proofs.Common.{◌≡◌, ℕ, ◌+◌, ◌/◌, vec_len, length, ap, sym, ◌∙◌, arith}
use Rattle.mz_base.specs.declared.range.TheConstants.{PAGE}
use Rattle.mz_base.specs.Space.{run_at}
use Rattle.mz_events.specs.declared.place.Place.TheVariants.{Pages}
use Rattle.mz_events.specs.Changes.{one_for}
use Rattle.mz_rack.proofs.StockLemmas.{of_stock, stock_of, with_one_fewer, tiny_place, small_place}
use Rattle.mz_rack.proofs.keeper.Keeper.fit.Goals as goal

no_more : (m : ℕ) → m ≡ m + 0
no_more m = omega arith

pub returns-in-Some : goal.returns-in-Some
returns-in-Some c = λ x p q k s one size.
    let n = vec_len c.stock.inside.tiny in
    let m = vec_len c.stock.inside.small in
    let st = of_stock c.self.inside.kind c.in-Pages.stock (stock_of c.stock.inside.pages n m) c.args.self.now c.self.view_is c.in-Pages.is c.stock.view_is x p Pages k s in
    let is_long : length c.args.run.bytes / PAGE ≡ 64 = sym (ap (λ l. l / PAGE) c.len.ensures.value) ∙ c.if-len-eq64.true in
    let kinds = tiny_place q (length c.args.run.bytes / PAGE) one size is_long in (
      record {
        quantum = sym kinds.2;
        space = c.fit.ensures.space;
        live = c.fit.ensures.live;
        run = ap (λ a. run_at (a / PAGE) 64) c.fit.ensures.first ∙ ap (λ l. run_at (c.args.run.first / PAGE) l) (sym is_long);
      },
      with_one_fewer x p q k c.stock.inside.pages n m (vec_len c.pop.new.self) m st
          (sym c.in-Some.ensures.cases ∙ ap (λ b. vec_len c.pop.new.self + one_for b) (sym kinds.0)) (no_more m ∙ ap (λ b. m + one_for b) (sym kinds.1)),
    )

pub returns-in-Some-pop : goal.returns-in-Some-pop
returns-in-Some-pop c = λ x p q k s one size.
    let n = vec_len c.stock-else-len-eq64.inside.tiny in
    let m = vec_len c.stock-else-len-eq64.inside.small in
    let st = of_stock c.self.inside.kind c.in-Pages.stock (stock_of c.stock-else-len-eq64.inside.pages n m) c.args.self.now c.self.view_is c.in-Pages.is c.stock-else-len-eq64.view_is x p Pages k s in
    let kinds = small_place q (length c.args.run.bytes / PAGE) one size (λ e. c.if-len-eq64.false (ap (λ l. l / PAGE) c.len.ensures.value ∙ e)) in (
      record {
        quantum = sym kinds.2;
        space = c.fit-in-Some-pop.ensures.space;
        live = c.fit-in-Some-pop.ensures.live;
        run = ap (λ a. run_at (a / PAGE) 512) c.fit-in-Some-pop.ensures.first ∙ ap (λ l. run_at (c.args.run.first / PAGE) l) (sym kinds.3);
      },
      with_one_fewer x p q k c.stock-else-len-eq64.inside.pages n m n (vec_len c.pop-else-len-eq64.new.self) st
          (no_more n ∙ ap (λ b. n + one_for b) (sym kinds.0)) (sym c.in-Some-pop.ensures.cases ∙ ap (λ b. vec_len c.pop-else-len-eq64.new.self + one_for b) (sym kinds.1)),
    )
