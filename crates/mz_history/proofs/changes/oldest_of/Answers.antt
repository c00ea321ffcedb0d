use Rattle.std.proofs.Common.{refl, sym, ap, ◌∙◌}
use Rattle.mz_events.specs.declared.place.Place.TheVariants.{Large}
use Rattle.mz_events.specs.State.{Kept, Value, look_up}
use Rattle.mz_events.specs.Duties.{back_of_oldest}
use Rattle.mz_spots.specs.Keys.{spot_of_key}
use Rattle.mz_history.proofs.BookLemmas.{spot_found, value_found, none_found}
use Rattle.mz_history.proofs.changes.oldest_of.Goals as goal

pub holding-requires : goal.holding-requires
holding-requires c = (Large c.args.zone, spot_found c.args.slots.now (spot_of_key c.of.result) c.in-Some.slot.now c.in-Some.ensures ∙ c.of.ensures, refl)

pub returns-in-Some : goal.returns-in-Some
returns-in-Some c =
    c.back_of_oldest.ensures ∙ ap (λ (k : Kept). back_of_oldest (Large c.args.zone) k.cached)
    (c.holding.ensures ∙ ap (λ (v : Value). v.kept) (sym (value_found c.args.slots.now (spot_of_key c.of.result) c.in-Some.slot.now c.in-Some.ensures) ∙ ap (look_up c.args.slots.now) c.of.ensures))

pub returns-in-None : goal.returns-in-None
returns-in-None c = sym (ap (λ (v : Value). back_of_oldest (Large c.args.zone) v.kept.cached) (ap (look_up c.args.slots.now) (sym c.of.ensures) ∙ none_found c.args.slots.now (spot_of_key c.of.result) c.in-None.ensures))
