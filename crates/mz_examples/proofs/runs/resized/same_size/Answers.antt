use Rattle.std.proofs.Common.{arith, refl, [], None, inl}
use Rattle.std.proofs.lemmas.Bool.{false≢true}
use Rattle.mz_base.specs.Space.{block_at}
use Rattle.mz_record.specs.Resized as size
use Rattle.mz_examples.specs.Examples.{profile_of}
use Rattle.mz_examples.specs.RunsResized.{asks, makes_a}
use Rattle.mz_examples.proofs.ServedTests.{served_in_order}
use Rattle.mz_examples.proofs.ResizedTests.{no_end_then_stays, none_then_served}
use Rattle.mz_events.specs.State.{look_up, write}
use Rattle.mz_base.specs.Lists.{insert_by}
use Rattle.mz_events.specs.Room.{best_fit}
use Rattle.mz_events.specs.Effect.{write_all, after}
use Rattle.mz_events.specs.Rules.{keeps}
use Rattle.mz_events.specs.History.{after_all, by_ticket, first_breach}
use Rattle.mz_examples.proofs.runs.resized.same_size.Goals as goal

pub returns-clause-fits : goal.returns-clause-fits
unfolding look_up write insert_by best_fit write_all after keeps after_all by_ticket first_breach
returns-clause-fits c = inl (size.same_size (omega arith) refl refl refl)

pub returns-clause-larger : goal.returns-clause-larger
unfolding look_up write insert_by best_fit write_all after keeps after_all by_ticket first_breach
returns-clause-larger c = λ done. false≢true (no_end_then_stays (profile_of 64) (makes_a) (asks 4 4 0 (block_at 0 48) 100) ([]) (block_at 0 48) done refl)

pub returns-clause-none : goal.returns-clause-none
unfolding look_up write insert_by best_fit write_all after keeps after_all by_ticket first_breach
returns-clause-none c = λ done. false≢true (served_in_order (profile_of 64) (size.moving_request (asks 4 4 0 (block_at 0 48) 40)) [] makes_a None (none_then_served (profile_of 64) makes_a (asks 4 4 0 (block_at 0 48) 40) [] done))
