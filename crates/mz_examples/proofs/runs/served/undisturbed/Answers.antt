use Rattle.std.proofs.Common.{arith, refl, ◌++◌, [], ◌∷◌}
use Rattle.mz_events.specs.declared.event.Event.TheVariants as event
use Rattle.mz_examples.specs.Examples.{entry_of, magazine}
use Rattle.mz_examples.specs.Edges.{small_magazine, entry_of_other}
use Rattle.mz_events.specs.Places.{spot_of}
use Rattle.mz_examples.specs.RunsServed.{two_callers_in_8_pages, both_full, dry_at, with_other, other_behind}
use Rattle.mz_examples.proofs.UndisturbedTest.{undisturbed_by_test}
use Rattle.mz_events.specs.State.{look_up, write}
use Rattle.mz_base.specs.Lists.{insert_by}
use Rattle.mz_events.specs.Room.{best_fit}
use Rattle.mz_events.specs.Effect.{write_all, after}
use Rattle.mz_events.specs.Rules.{keeps}
use Rattle.mz_events.specs.History.{after_all, by_ticket, first_breach}
use Rattle.mz_examples.proofs.runs.served.undisturbed.Goals as goal

pub returns-clause-lawful_at_magazine : goal.returns-clause-lawful_at_magazine
unfolding look_up write insert_by best_fit write_all after keeps after_all by_ticket first_breach
returns-clause-lawful_at_magazine c = (c.lawful_without_breach.ensures two_callers_in_8_pages (with_other (event.Full magazine 16 16))).0 refl

pub returns-clause-at_magazine : goal.returns-clause-at_magazine
returns-clause-at_magazine c = λ free. let mine = free (entry_of_other 2 (event.Full magazine 16 16)) (spot_of magazine) (2, omega arith, refl) refl (record { earlier = entry_of 0 (event.Full magazine 112 16); dry = dry_at 3; has_earlier = (0, omega arith, refl); touched = refl; behind = omega arith; has_dry = (2, omega arith, refl); is_dry = refl; before = omega arith }) in (cc)

pub returns-clause-lawful_elsewhere : goal.returns-clause-lawful_elsewhere
unfolding look_up write insert_by best_fit write_all after keeps after_all by_ticket first_breach
returns-clause-lawful_elsewhere c = (c.lawful_without_breach.ensures two_callers_in_8_pages (with_other (event.Full small_magazine 1024 16))).0 refl

pub returns-clause-elsewhere : goal.returns-clause-elsewhere
returns-clause-elsewhere c = undisturbed_by_test two_callers_in_8_pages (with_other (event.Full small_magazine 1024 16)) 0 (both_full ++ dry_at 3 ∷ []) refl

pub returns-clause-behind : goal.returns-clause-behind
returns-clause-behind c = undisturbed_by_test two_callers_in_8_pages (other_behind (event.Full magazine 16 16)) 0 (both_full ++ dry_at 2 ∷ []) refl

pub returns-clause-no_dry : goal.returns-clause-no_dry
returns-clause-no_dry c = undisturbed_by_test two_callers_in_8_pages (with_other (event.Full magazine 16 16)) 0 both_full refl
