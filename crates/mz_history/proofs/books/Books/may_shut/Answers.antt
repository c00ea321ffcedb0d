use Rattle.std.proofs.Common.{true, length, map, not, sym, ap, ◌∙◌}
use Rattle.std.specs.Prelude.{◌==◌, ◌&&◌}
use Rattle.std.specs.List.{list_all}
use Rattle.std.proofs.lemmas.Bool.{ne_eqb}
use Rattle.mz_spots.specs.declared.key.Key.{Key}
use Rattle.mz_events.specs.Places.{Spot, spot_of, places_of}
use Rattle.mz_events.specs.State.{kept_at}
use Rattle.mz_events.specs.Rules.{has_no_blocks}
use Rattle.mz_spots.specs.Keys.{spot_of_key}
use Rattle.mz_history.specs.Booked.{Booked}
use Rattle.mz_history.proofs.BookLemmas.{all_mapped}
use Rattle.mz_history.proofs.books.Books.may_shut.Goals as goal

pub returns : goal.returns
returns c =
    let s = c.args.self.now.state in
    let p = c.args.self.now.profile in
    let z = c.args.zone in
    let test = λ (j : Spot). length (kept_at s j).live == 0 in
    c.all_without_blocks.ensures ∙ ap (list_all (λ (key : Key). test (spot_of_key key))) c.deref.ensures.value
    ∙ all_mapped test spot_of_key c.in_ok-keys.keys.items
    ∙ ap (list_all test) (c.in_ok-keys.ensures ∙ ap (λ (b : Booked). map spot_of (places_of b.profile z)) c.self.view_is)
    ∙ sym (all_mapped test spot_of (places_of p z))
    ∙ sym (ap (λ b. not b && true && has_no_blocks p s z) (ne_eqb z 0 c.if-zone-eq0.false))
    ∙ sym (ap (λ b. not (z == 0) && b && has_no_blocks p s z) (sym c.is_open.ensures ∙ c.if-not-is_open.false))
