use Rattle.std.proofs.Common.{arith, refl, [], ◌∷◌, Some, inr}
use Rattle.std.proofs.lemmas.Bool.{leb-true}
use Rattle.mz_base.specs.Space.{block_at}
use Rattle.mz_record.specs.Served as way
use Rattle.mz_record.specs.Resized as size
use Rattle.mz_events.specs.declared.event.Event.TheVariants as event
use Rattle.mz_examples.specs.Examples.{entry_of, magazine}
use Rattle.mz_examples.specs.Edges.{two_callers}
use Rattle.mz_examples.specs.RunsResized.{asks, neighbour_goes, moves_then, own_goes}
use Rattle.mz_examples.proofs.ResizedTests.{ends_then_moves, stays_with_room}
use Rattle.mz_examples.proofs.RunTests.{serves}
use Rattle.mz_events.specs.State.{look_up, write}
use Rattle.mz_base.specs.Lists.{insert_by}
use Rattle.mz_events.specs.Room.{best_fit}
use Rattle.mz_events.specs.Effect.{write_all, after}
use Rattle.mz_events.specs.Rules.{keeps}
use Rattle.mz_events.specs.History.{after_all, by_ticket, first_breach}
use Rattle.mz_examples.proofs.runs.resized.hemmed_in_by_other.Goals as goal

pub returns-clause-lawful : goal.returns-clause-lawful
unfolding look_up write insert_by best_fit write_all after keeps after_all by_ticket first_breach
returns-clause-lawful c = (c.lawful_without_breach.ensures (two_callers) (neighbour_goes)).0 refl

pub returns-clause-same_round : goal.returns-clause-same_round
unfolding look_up write insert_by best_fit write_all after keeps after_all by_ticket first_breach
returns-clause-same_round c = inr (size.moved (block_at 48 112) (entry_of 6 (event.New magazine 48 112 16) ∷ []) (entry_of 7 (event.End magazine 0 48) ∷ []) (size.hemmed_in (record { asked = omega arith; ranges = refl; not_large = λ same. (cc); in_region = refl }) (omega arith) (record { t = 5; not_before = leb-true _ _ refl; not_after = leb-true _ _ refl; within = leb-true _ _ refl; hemmed = (magazine, refl, refl, refl) })) refl (serves refl (way.by_magazine _ 48 refl refl refl)) (magazine, refl, refl) refl)

pub returns-clause-round_before : goal.returns-clause-round_before
unfolding look_up write insert_by best_fit write_all after keeps after_all by_ticket first_breach
returns-clause-round_before c = λ done. stays_with_room two_callers neighbour_goes 6 (block_at 0 48) 100 (record { asked = omega arith; ranges = refl; not_large = λ same. (cc); in_region = refl }) refl (ends_then_moves (two_callers) (neighbour_goes) (asks 6 6 0 (block_at 0 48) 100) (moves_then) (Some (block_at 48 112)) done refl)

pub returns-clause-own : goal.returns-clause-own
unfolding look_up write insert_by best_fit write_all after keeps after_all by_ticket first_breach
returns-clause-own c = λ done. stays_with_room two_callers own_goes 6 (block_at 0 48) 100 (record { asked = omega arith; ranges = refl; not_large = λ same. (cc); in_region = refl }) refl (ends_then_moves (two_callers) (own_goes) (asks 6 6 0 (block_at 0 48) 100) (moves_then) (Some (block_at 48 112)) done refl)
