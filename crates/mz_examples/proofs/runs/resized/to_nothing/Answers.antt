use Rattle.std.proofs.Common.{refl, [], ◌∷◌, ◌++◌, inr}
use Rattle.std.proofs.lemmas.Bool.{false≢true}
use Rattle.mz_base.specs.Space.{block_at}
use Rattle.mz_record.specs.Served as way
use Rattle.mz_record.specs.Resized as size
use Rattle.mz_events.specs.declared.event.Event.TheVariants as event
use Rattle.mz_examples.specs.Examples.{profile_of, entry_of, magazine}
use Rattle.mz_examples.specs.RunsResized.{asks, makes_a, shrinks, moves_to_least}
use Rattle.mz_examples.proofs.ResizedTests.{no_end_then_stays}
use Rattle.mz_examples.proofs.RunTests.{serves}
use Rattle.mz_events.specs.State.{look_up, write}
use Rattle.mz_base.specs.Lists.{insert_by}
use Rattle.mz_events.specs.Room.{best_fit}
use Rattle.mz_events.specs.Effect.{write_all, after}
use Rattle.mz_events.specs.Rules.{keeps}
use Rattle.mz_events.specs.History.{after_all, by_ticket, first_breach}
use Rattle.mz_examples.proofs.runs.resized.to_nothing.Goals as goal

pub returns-clause-lawful : goal.returns-clause-lawful
unfolding look_up write insert_by best_fit write_all after keeps after_all by_ticket first_breach
returns-clause-lawful c = (c.lawful_without_breach.ensures (profile_of 64) (makes_a ++ moves_to_least)).0 refl

pub returns-clause-moved : goal.returns-clause-moved
unfolding look_up write insert_by best_fit write_all after keeps after_all by_ticket first_breach
returns-clause-moved c = inr (size.moved (block_at 48 16) (entry_of 4 (event.New magazine 48 16 16) ∷ []) (entry_of 5 (event.End magazine 0 48) ∷ []) (size.to_nothing refl) refl (serves refl (way.by_magazine _ 48 refl refl refl)) (magazine, refl, refl) refl)

pub returns-clause-stays : goal.returns-clause-stays
unfolding look_up write insert_by best_fit write_all after keeps after_all by_ticket first_breach
returns-clause-stays c = λ done. false≢true (no_end_then_stays (profile_of 64) (makes_a) (asks 4 4 0 (block_at 0 48) 0) ([]) (block_at 0 48) done refl)

pub returns-clause-shrinks : goal.returns-clause-shrinks
unfolding look_up write insert_by best_fit write_all after keeps after_all by_ticket first_breach
returns-clause-shrinks c = λ done. false≢true (no_end_then_stays (profile_of 64) (makes_a ++ shrinks) (asks 4 4 0 (block_at 0 48) 0) (shrinks) (block_at 0 16) done refl)
