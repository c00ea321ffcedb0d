use Rattle.std.proofs.Common.{arith, refl, ◌++◌, [], ◌∷◌}
use Rattle.mz_events.specs.declared.event.Event.TheVariants as event
use Rattle.mz_examples.specs.Examples.{entry_of}
use Rattle.mz_events.specs.Places.{spot_of}
use Rattle.mz_events.specs.declared.place.Place.TheVariants.{Pages}
use Rattle.mz_examples.specs.Edges.{entry_of_other}
use Rattle.mz_examples.specs.RunsServed.{two_callers_in_8_pages, both_full, dry_at, with_other, other_at_pages}
use Rattle.mz_examples.proofs.UndisturbedTest.{undisturbed_by_test}
use Rattle.mz_events.specs.State.{look_up, write}
use Rattle.mz_base.specs.Lists.{insert_by}
use Rattle.mz_events.specs.Room.{best_fit}
use Rattle.mz_events.specs.Effect.{write_all, after}
use Rattle.mz_events.specs.Rules.{keeps}
use Rattle.mz_events.specs.History.{after_all, by_ticket, first_breach}
use Rattle.mz_examples.proofs.runs.served.undisturbed_at_pages.Goals as goal

pub returns-clause-before : goal.returns-clause-before
returns-clause-before c = undisturbed_by_test two_callers_in_8_pages (with_other (event.Dry 0 64 64)) 0 (both_full ++ dry_at 3 ∷ []) refl

pub returns-clause-lawful : goal.returns-clause-lawful
unfolding look_up write insert_by best_fit write_all after keeps after_all by_ticket first_breach
returns-clause-lawful c = (c.lawful_without_breach.ensures two_callers_in_8_pages other_at_pages).0 refl

pub returns-clause-between : goal.returns-clause-between
returns-clause-between c = λ free. let mine = free (entry_of_other 7 (event.Dry 0 64 64)) (spot_of Pages) (7, omega arith, refl) refl (record { earlier = entry_of 5 (event.Dry 0 9 1); dry = entry_of 8 (event.Dry 0 9 1); has_earlier = (1, omega arith, refl); touched = refl; behind = omega arith; has_dry = (3, omega arith, refl); is_dry = refl; before = omega arith }) in (cc)
