use Rattle.std.proofs.Common.{arith, refl, [], ◌∷◌, ◌++◌, Some, inr}
use Rattle.std.proofs.lemmas.Bool.{leb-true}
use Rattle.mz_base.specs.Space.{block_at}
use Rattle.mz_record.specs.Served as way
use Rattle.mz_record.specs.Resized as size
use Rattle.mz_events.specs.declared.event.Event.TheVariants as event
use Rattle.mz_examples.specs.Examples.{profile_of, entry_of, magazine}
use Rattle.mz_examples.specs.RunsResized.{asks, makes_a, moves_behind}
use Rattle.mz_examples.proofs.ResizedTests.{ends_then_moves, stays_with_room}
use Rattle.mz_examples.proofs.RunTests.{serves}
use Rattle.mz_events.specs.State.{look_up, write}
use Rattle.mz_base.specs.Lists.{insert_by}
use Rattle.mz_events.specs.Room.{best_fit}
use Rattle.mz_events.specs.Effect.{write_all, after}
use Rattle.mz_events.specs.Rules.{keeps}
use Rattle.mz_events.specs.History.{after_all, by_ticket, first_breach}
use Rattle.mz_examples.proofs.runs.resized.hemmed_in.Goals as goal

pub returns-clause-moved : goal.returns-clause-moved
unfolding look_up write insert_by best_fit write_all after keeps after_all by_ticket first_breach
returns-clause-moved c = inr (size.moved (block_at 128 208) (entry_of 6 (event.New magazine 128 208 16) ∷ []) (entry_of 7 (event.End magazine 0 112) ∷ []) (size.hemmed_in (record { asked = omega arith; ranges = refl; not_large = λ same. (cc); in_region = refl }) (omega arith) (record { t = 6; not_before = leb-true _ _ refl; not_after = leb-true _ _ refl; within = leb-true _ _ refl; hemmed = (magazine, refl, refl, refl) })) refl (serves refl (way.by_magazine _ 128 refl refl refl)) (magazine, refl, refl) refl)

pub returns-clause-lawful : goal.returns-clause-lawful
unfolding look_up write insert_by best_fit write_all after keeps after_all by_ticket first_breach
returns-clause-lawful c = (c.lawful_without_breach.ensures (profile_of 64) (makes_a ++ moves_behind)).0 refl

pub returns-clause-free : goal.returns-clause-free
unfolding look_up write insert_by best_fit write_all after keeps after_all by_ticket first_breach
returns-clause-free c = λ done. stays_with_room (profile_of 64) (makes_a ++ moves_behind) 4 (block_at 0 48) 100 (record { asked = omega arith; ranges = refl; not_large = λ same. (cc); in_region = refl }) refl (ends_then_moves (profile_of 64) (makes_a ++ moves_behind) (asks 4 4 0 (block_at 0 48) 100) (moves_behind) (Some (block_at 48 112)) done refl)
