use Rattle.std.proofs.Common.{◌≡◌, List, sym, subst}
use Rattle.mz_nano.specs.declared.seat.NanoSeat.{NanoSeat}
use Rattle.mz_nano.specs.Lists.{In}
use Rattle.mz_nano.proofs.CountLemmas.{some_held, index_in}
use Rattle.mz_nano.proofs.close.none_held.Goals as goal

pub returns-then-s-ne0 : goal.returns-then-s-ne0
returns-then-s-ne0 c =
    let s : NanoSeat = c.s-item.result in
    let xs : List NanoSeat = c.deref-s-items.result.now in
    let e : xs ≡ c.args.seats.now.items = c.deref-s-items.ensures.value in
    let lt = c.loop-s-test.true in
    let i : In s xs = subst (λ (q : NanoSeat). In q xs) (sym c.s-item.is) (index_in xs c.loop-s.s-index s lt) in
    some_held c.args.seats.now.items s (subst (In s) e i) c.if-s-ne0.true
