use Rattle.std.proofs.Common.{sym, ap, ◌∙◌}
use Rattle.mz_events.specs.State.{Value, value_at}
use Rattle.mz_history.specs.Booked.{Booked}
use Rattle.mz_history.proofs.BookLemmas.{value_found, none_found}
use Rattle.mz_spots.specs.Keys.{spot_of_key}
use Rattle.mz_history.proofs.books.Books.last.Goals as goal

pub returns-in-Some : goal.returns-in-Some
returns-in-Some c =
    let j = spot_of_key c.args.key in
    let values = c.self.inside.slots in
    let found = c.in-Some.ensures in
    c.last.ensures ∙ ap (λ (v : Value). v.last) (sym (value_found values j c.in-Some.slot.now found)) ∙ ap (λ (b : Booked). (value_at b.state j).last) c.self.view_is

pub returns-in-None : goal.returns-in-None
returns-in-None c =
    let j = spot_of_key c.args.key in
    let values = c.self.inside.slots in
    let none = c.in-None.ensures in
    ap (λ (v : Value). v.last) (sym (none_found values j none)) ∙ ap (λ (b : Booked). (value_at b.state j).last) c.self.view_is
