use Rattle.std.proofs.Common.{sym, ap, ◌∙◌}
use Rattle.mz_events.specs.Places.{Spot}
use Rattle.mz_events.specs.State.{Value, look_up}
use Rattle.mz_history.specs.Booked.{Booked}
use Rattle.mz_history.proofs.BookLemmas.{value_found, spot_found, none_found, keeper_spot}
use Rattle.mz_events.specs.Places.{keeper_at}
use Rattle.mz_history.proofs.books.Books.holding.Goals as goal

pub holding-requires : goal.holding-requires
holding-requires c =
    let j = keeper_at c.args.k in
    let values = c.self.inside.slots in
    let found = c.in-Some.ensures in
    (c.args.k, spot_found values j c.in-Some.slot.now found, c.requires.pages)

pub returns-in-Some : goal.returns-in-Some
returns-in-Some c =
    let j = keeper_at c.args.k in
    let values = c.self.inside.slots in
    let found = c.in-Some.ensures in
    c.holding.ensures ∙ ap (λ (v : Value). v.kept) (sym (value_found values j c.in-Some.slot.now found)) ∙ ap (λ (b : Booked). (look_up b.state.values j).kept) c.self.view_is ∙ ap (λ (i : Spot). (look_up c.args.self.now.state.values i).kept) (sym (keeper_spot c.args.k c.requires.nano))

pub returns-in-None : goal.returns-in-None
returns-in-None c =
    let j = keeper_at c.args.k in
    let values = c.self.inside.slots in
    let none = c.in-None.ensures in
    c.self.invariant.2 ∙ ap (λ (v : Value). v.kept) (sym (none_found values j none)) ∙ ap (λ (b : Booked). (look_up b.state.values j).kept) c.self.view_is ∙ ap (λ (i : Spot). (look_up c.args.self.now.state.values i).kept) (sym (keeper_spot c.args.k c.requires.nano))
