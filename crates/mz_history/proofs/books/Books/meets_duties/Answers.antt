use Rattle.std.proofs.Common.{ap, ◌∙◌}
use Rattle.std.specs.List.{list_all}
use Rattle.mz_spots.specs.declared.key.Key.{Key}
use Rattle.mz_events.specs.Places.{Spot}
use Rattle.mz_events.specs.State.{value_at}
use Rattle.mz_events.specs.Duties.{allows}
use Rattle.mz_events.specs.Effect.{touched}
use Rattle.mz_spots.specs.Keys.{spot_of_key}
use Rattle.mz_history.specs.Booked.{Booked}
use Rattle.mz_history.proofs.BookLemmas.{all_mapped}
use Rattle.mz_history.proofs.books.Books.meets_duties.Goals as goal

pub returns : goal.returns
returns c =
    let s = c.args.self.now.state in
    let test = λ (j : Spot). allows (value_at s j).duty c.args.e.now in
    c.all_allow.ensures ∙ ap (list_all (λ (key : Key). test (spot_of_key key))) c.deref.ensures.value
    ∙ all_mapped test spot_of_key c.in_ok-keys.keys.items
    ∙ ap (list_all test) (c.in_ok-keys.ensures ∙ ap (λ (b : Booked). touched b.profile c.args.e.now) c.self.view_is)
