use Rattle.std.proofs.Common.{arith, refl, [], ◌∷◌, ◌++◌, inl, inr}
use Rattle.std.proofs.lemmas.Bool.{false≢true}
use Rattle.mz_base.specs.Space.{block_at}
use Rattle.mz_record.specs.Served as way
use Rattle.mz_record.specs.Resized as size
use Rattle.mz_events.specs.declared.event.Event.TheVariants as event
use Rattle.mz_events.specs.declared.place.Place.TheVariants as place
use Rattle.mz_examples.specs.Examples.{entry_of}
use Rattle.mz_examples.specs.Rows.{two_nano_pages, LAST_PAGE, first_slot}
use Rattle.mz_examples.specs.RunsResized.{asks, moves_in_nano, grows_in_nano}
use Rattle.mz_examples.proofs.ResizedTests.{no_end_then_stays}
use Rattle.mz_examples.proofs.RunTests.{serves}
use Rattle.mz_events.specs.State.{look_up, write}
use Rattle.mz_base.specs.Lists.{insert_by}
use Rattle.mz_events.specs.Room.{best_fit}
use Rattle.mz_events.specs.Effect.{write_all, after}
use Rattle.mz_events.specs.Rules.{keeps}
use Rattle.mz_events.specs.History.{after_all, by_ticket, first_breach}
use Rattle.mz_examples.proofs.runs.resized.in_nano.Goals as goal

pub returns-clause-stays : goal.returns-clause-stays
unfolding look_up write insert_by best_fit write_all after keeps after_all by_ticket first_breach
returns-clause-stays c = inl (size.same_size (omega arith) refl refl refl)

pub returns-clause-lawful : goal.returns-clause-lawful
unfolding look_up write insert_by best_fit write_all after keeps after_all by_ticket first_breach
returns-clause-lawful c = (c.lawful_without_breach.ensures (two_nano_pages) (first_slot ++ moves_in_nano)).0 refl

pub returns-clause-moved : goal.returns-clause-moved
unfolding look_up write insert_by best_fit write_all after keeps after_all by_ticket first_breach
returns-clause-moved c = inr (size.moved (block_at 1015808 112) (entry_of 1 (event.New place.Nano 1015808 112 16) ∷ []) (entry_of 2 (event.End place.Nano LAST_PAGE 48) ∷ []) (size.out_of_nano (λ same. (cc)) refl) refl (serves refl (way.by_nano 1015808 refl (omega arith) (omega arith) refl refl refl)) (place.Nano, refl, refl) refl)

pub returns-clause-grown : goal.returns-clause-grown
unfolding look_up write insert_by best_fit write_all after keeps after_all by_ticket first_breach
returns-clause-grown c = λ done. false≢true (no_end_then_stays (two_nano_pages) (first_slot ++ grows_in_nano) (asks 1 1 0 (block_at LAST_PAGE 48) 60) (grows_in_nano) (block_at LAST_PAGE 64) done refl)
