use Rattle.std.proofs.Common.{sym, ap, ◌∙◌}
use Rattle.mz_events.specs.State.{Value, look_up}
use Rattle.mz_history.specs.Booked.{Booked}
use Rattle.mz_history.proofs.BookLemmas.{value_found, spot_found, none_found}
use Rattle.mz_events.specs.Places.{nano_page}
use Rattle.mz_history.proofs.books.Books.nano.Goals as goal

pub nano-requires : goal.nano-requires
nano-requires c =
    let j = nano_page c.args.i in
    let values = c.self.inside.slots in
    let found = c.in-Some.ensures in
    (c.args.i, spot_found values j c.in-Some.slot.now found)

pub returns-in-Some : goal.returns-in-Some
returns-in-Some c =
    let j = nano_page c.args.i in
    let values = c.self.inside.slots in
    let found = c.in-Some.ensures in
    c.nano.ensures ∙ ap (λ (v : Value). v.kept) (sym (value_found values j c.in-Some.slot.now found)) ∙ ap (λ (b : Booked). (look_up b.state.values j).kept) c.self.view_is

pub returns-in-None : goal.returns-in-None
returns-in-None c =
    let j = nano_page c.args.i in
    let values = c.self.inside.slots in
    let none = c.in-None.ensures in
    c.self.invariant.3 ∙ ap (λ (v : Value). v.kept) (sym (none_found values j none)) ∙ ap (λ (b : Booked). (look_up b.state.values j).kept) c.self.view_is
