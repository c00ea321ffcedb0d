use Rattle.std.proofs.Common.{refl, [], ◌∷◌, Some, take, drop}
use Rattle.std.proofs.lemmas.Bool.{false≢true}
use Rattle.mz_base.specs.Space.{block_at}
use Rattle.mz_events.specs.declared.event.Event.TheVariants as event
use Rattle.mz_examples.specs.Examples.{profile_of, entry_of, large, dry_with_a_cache}
use Rattle.mz_examples.specs.Rows.{large_cache}
use Rattle.mz_record.specs.Served as way
use Rattle.mz_examples.specs.RunsServed.{request_by}
use Rattle.mz_examples.proofs.MeetsTest.{meets}
use Rattle.mz_examples.proofs.ServedTests.{served_ends, served_in_order}
use Rattle.mz_events.specs.State.{look_up, write}
use Rattle.mz_base.specs.Lists.{insert_by}
use Rattle.mz_events.specs.Room.{best_fit}
use Rattle.mz_events.specs.Effect.{write_all, after}
use Rattle.mz_events.specs.Rules.{keeps}
use Rattle.mz_events.specs.History.{after_all, by_ticket, first_breach}
use Rattle.mz_examples.proofs.runs.served.by_fresh_run.Goals as goal

pub returns-clause-row : goal.returns-clause-row
returns-clause-row c = way.by_fresh_run 11 (entry_of 9 (event.Full large 3 1)) [] (drop 10 large_cache) refl refl refl tt refl refl

pub returns-clause-flushed : goal.returns-clause-flushed
unfolding look_up write insert_by best_fit write_all after keeps after_all by_ticket first_breach
returns-clause-flushed c = way.by_fresh_run 0 (entry_of 4 (event.Full large 7 1)) (take 2 (drop 5 dry_with_a_cache)) (drop 7 dry_with_a_cache) refl refl refl (refl, meets refl refl, tt) refl refl

pub returns-clause-no_back : goal.returns-clause-no_back
returns-clause-no_back c = λ s. false≢true (served_in_order (profile_of 8) (request_by 0 100000) (entry_of 4 (event.Full large 7 1) ∷ entry_of 5 (event.Dry 0 7 1) ∷ drop 7 dry_with_a_cache) dry_with_a_cache (Some (block_at 0 114688)) s)

pub returns-clause-no_full : goal.returns-clause-no_full
returns-clause-no_full c = λ s. false≢true (served_in_order (profile_of 64) (request_by 0 40000) (drop 10 large_cache) large_cache (Some (block_at 180224 49152)) s)

pub returns-clause-fewer_bytes : goal.returns-clause-fewer_bytes
returns-clause-fewer_bytes c = λ s. false≢true (served_ends (profile_of 64) (request_by 0 30000) (drop 9 large_cache) large_cache (Some (block_at 180224 49152)) s)
