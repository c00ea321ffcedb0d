use Rattle.std.proofs.Common.{arith, refl, inl}
use Rattle.std.proofs.lemmas.Bool.{false≢true}
use Rattle.mz_base.specs.Space.{block_at}
use Rattle.mz_record.specs.Resized as size
use Rattle.mz_examples.specs.Examples.{profile_of, magazine}
use Rattle.mz_examples.specs.RunsResized.{asks, grows, row_realloc}
use Rattle.mz_examples.proofs.ResizedTests.{no_end_then_stays}
use Rattle.mz_events.specs.State.{look_up, write}
use Rattle.mz_base.specs.Lists.{insert_by}
use Rattle.mz_events.specs.Room.{best_fit}
use Rattle.mz_events.specs.Effect.{write_all, after}
use Rattle.mz_events.specs.Rules.{keeps}
use Rattle.mz_events.specs.History.{after_all, by_ticket, first_breach}
use Rattle.mz_examples.proofs.runs.resized.in_place.Goals as goal

pub returns-clause-lawful : goal.returns-clause-lawful
unfolding look_up write insert_by best_fit write_all after keeps after_all by_ticket first_breach
returns-clause-lawful c = (c.lawful_without_breach.ensures (profile_of 64) (row_realloc)).0 refl

pub returns-clause-growth : goal.returns-clause-growth
unfolding look_up write insert_by best_fit write_all after keeps after_all by_ticket first_breach
returns-clause-growth c = inl (size.in_place magazine (record { asked = omega arith; ranges = refl; not_large = λ same. (cc); in_region = refl }) (λ same. (cc)) refl refl)

pub returns-clause-shrink : goal.returns-clause-shrink
unfolding look_up write insert_by best_fit write_all after keeps after_all by_ticket first_breach
returns-clause-shrink c = inl (size.in_place magazine (record { asked = omega arith; ranges = refl; not_large = λ same. (cc); in_region = refl }) (λ same. (cc)) refl refl)

pub returns-clause-old_size : goal.returns-clause-old_size
unfolding look_up write insert_by best_fit write_all after keeps after_all by_ticket first_breach
returns-clause-old_size c = λ done. false≢true (no_end_then_stays (profile_of 64) (row_realloc) (asks 4 4 0 (block_at 0 48) 100) (grows) (block_at 0 48) done refl)

pub returns-clause-other_size : goal.returns-clause-other_size
unfolding look_up write insert_by best_fit write_all after keeps after_all by_ticket first_breach
returns-clause-other_size c = λ done. false≢true (no_end_then_stays (profile_of 64) (row_realloc) (asks 4 4 0 (block_at 0 48) 120) (grows) (block_at 0 112) done refl)
