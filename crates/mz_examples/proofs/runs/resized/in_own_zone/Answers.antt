use Rattle.std.proofs.Common.{refl, [], ◌∷◌, ◌++◌, None, inr}
use Rattle.std.proofs.lemmas.Bool.{false≢true}
use Rattle.mz_base.specs.Space.{block_at}
use Rattle.mz_record.specs.Served as way
use Rattle.mz_record.specs.Resized as size
use Rattle.mz_events.specs.declared.event.Event.TheVariants as event
use Rattle.mz_examples.specs.Examples.{entry_of}
use Rattle.mz_examples.specs.Rows.{second, two_zones, second_serves}
use Rattle.mz_examples.specs.RunsResized.{asks, moves_in_second, asks_other_zone}
use Rattle.mz_examples.proofs.ServedTests.{served_ends}
use Rattle.mz_examples.proofs.ResizedTests.{none_then_served}
use Rattle.mz_examples.proofs.RunTests.{serves}
use Rattle.mz_events.specs.State.{look_up, write}
use Rattle.mz_base.specs.Lists.{insert_by}
use Rattle.mz_events.specs.Room.{best_fit}
use Rattle.mz_events.specs.Effect.{write_all, after}
use Rattle.mz_events.specs.Rules.{keeps}
use Rattle.mz_events.specs.History.{after_all, by_ticket, first_breach}
use Rattle.mz_examples.proofs.runs.resized.in_own_zone.Goals as goal

pub returns-clause-lawful : goal.returns-clause-lawful
unfolding look_up write insert_by best_fit write_all after keeps after_all by_ticket first_breach
returns-clause-lawful c = (c.lawful_without_breach.ensures (two_zones) (second_serves ++ moves_in_second)).0 refl

pub returns-clause-moved : goal.returns-clause-moved
unfolding look_up write insert_by best_fit write_all after keeps after_all by_ticket first_breach
returns-clause-moved c = inr (size.moved (block_at 16 16) (entry_of 5 (event.New second 16 16 16) ∷ []) (entry_of 6 (event.End second 0 16) ∷ []) (size.to_nothing refl) refl (serves refl (way.by_magazine _ 16 refl refl refl)) (second, refl, refl) refl)

pub returns-clause-lawful_elsewhere : goal.returns-clause-lawful_elsewhere
unfolding look_up write insert_by best_fit write_all after keeps after_all by_ticket first_breach
returns-clause-lawful_elsewhere c = (c.lawful_without_breach.ensures (two_zones) (second_serves ++ asks_other_zone)).0 refl

pub returns-clause-elsewhere : goal.returns-clause-elsewhere
unfolding look_up write insert_by best_fit write_all after keeps after_all by_ticket first_breach
returns-clause-elsewhere c = λ done. false≢true (served_ends two_zones (size.moving_request (asks 5 5 1 (block_at 0 16) 0)) asks_other_zone (second_serves ++ asks_other_zone) None (none_then_served two_zones (second_serves ++ asks_other_zone) (asks 5 5 1 (block_at 0 16) 0) asks_other_zone done))
