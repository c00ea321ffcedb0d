use Rattle.std.proofs.Common.{sym, ap, ◌∙◌}
use Rattle.mz_events.specs.State.{Value, kept_at}
use Rattle.mz_history.specs.Booked.{Booked}
use Rattle.mz_history.proofs.BookLemmas.{value_found, none_found}
use Rattle.mz_spots.specs.Keys.{spot_of_key}
use Rattle.std.specs.Prelude.{◌==◌}
use Rattle.std.proofs.Common.{length}
use Rattle.mz_history.proofs.books.Books.has_no_blocks.Goals as goal

pub returns-in-Some : goal.returns-in-Some
returns-in-Some c =
    let j = spot_of_key c.args.key in
    let values = c.self.inside.slots in
    let found = c.in-Some.ensures in
    c.has_no_blocks.ensures ∙ ap (λ (v : Value). length v.kept.live == 0) (sym (value_found values j c.in-Some.slot.now found)) ∙ ap (λ (b : Booked). length (kept_at b.state j).live == 0) c.self.view_is

pub returns-in-None : goal.returns-in-None
returns-in-None c =
    let j = spot_of_key c.args.key in
    let values = c.self.inside.slots in
    let none = c.in-None.ensures in
    ap (λ (v : Value). length v.kept.live == 0) (sym (none_found values j none)) ∙ ap (λ (b : Booked). length (kept_at b.state j).live == 0) c.self.view_is
