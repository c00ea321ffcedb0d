use Rattle.std.proofs.Common.{arith, refl}
use Rattle.std.specs.List.{flat_map}
use Rattle.mz_lawful.specs.Records.{entries_of_round}
use Rattle.mz_events.specs.declared.event.Event.TheVariants as event
use Rattle.mz_events.specs.Places.{spot_of}
use Rattle.mz_examples.specs.Examples.{entry_of, magazine}
use Rattle.mz_examples.specs.Edges.{entry_of_other, two_callers}
use Rattle.mz_examples.specs.RunsServed.{two_callers_in_8_pages, dry_at}
use Rattle.mz_examples.specs.RunsRounds.{freed_by_other, asks_in_between}
use Rattle.mz_events.specs.State.{look_up, write}
use Rattle.mz_base.specs.Lists.{insert_by}
use Rattle.mz_events.specs.Room.{best_fit}
use Rattle.mz_events.specs.Effect.{write_all, after}
use Rattle.mz_events.specs.Rules.{keeps}
use Rattle.mz_events.specs.History.{after_all, by_ticket, first_breach}
use Rattle.mz_examples.proofs.runs.rounds.lawful_history_alone.Goals as goal

pub returns-clause-freed_by_other : goal.returns-clause-freed_by_other
unfolding look_up write insert_by best_fit write_all after keeps after_all by_ticket first_breach
returns-clause-freed_by_other c = (c.lawful_without_breach.ensures (two_callers) (flat_map entries_of_round freed_by_other)).0 refl

pub returns-clause-not_held : goal.returns-clause-not_held
unfolding look_up write insert_by best_fit write_all after keeps after_all by_ticket first_breach
returns-clause-not_held c = λ same. (cc)

pub returns-clause-nothing_to_free : goal.returns-clause-nothing_to_free
unfolding look_up write insert_by best_fit write_all after keeps after_all by_ticket first_breach
returns-clause-nothing_to_free c = λ none. (cc)

pub returns-clause-in_between : goal.returns-clause-in_between
unfolding look_up write insert_by best_fit write_all after keeps after_all by_ticket first_breach
returns-clause-in_between c = (c.lawful_without_breach.ensures (two_callers_in_8_pages) (flat_map entries_of_round asks_in_between)).0 refl

pub returns-clause-disturbed : goal.returns-clause-disturbed
unfolding look_up write insert_by best_fit write_all after keeps after_all by_ticket first_breach
returns-clause-disturbed c = λ s.
    let mine = s.undisturbed (entry_of_other 2 (event.Full magazine 16 16)) (spot_of magazine) (2, omega arith, refl) refl (record { earlier = entry_of 0 (event.Full magazine 112 16); dry = dry_at 3; has_earlier = (0, omega arith, refl); touched = refl; behind = omega arith; has_dry = (2, omega arith, refl); is_dry = refl; before = omega arith }) in
    (cc)
