use Rattle.std.proofs.Common.{refl, [], Some, take, drop}
use Rattle.std.proofs.lemmas.Bool.{false≢true}
use Rattle.mz_base.specs.Space.{block_at}
use Rattle.mz_events.specs.declared.event.Event.TheVariants as event
use Rattle.mz_examples.specs.Examples.{profile_of, entry_of, large}
use Rattle.mz_examples.specs.Edges.{small_block, one_cached}
use Rattle.mz_record.specs.Served as way
use Rattle.mz_examples.specs.RunsServed.{request_by}
use Rattle.mz_examples.proofs.ServedTests.{served_ends}
use Rattle.mz_examples.proofs.runs.served.ranges.Goals as goal

pub returns-clause-small : goal.returns-clause-small
returns-clause-small c = way.by_fresh_region _ 0 0 (take 2 small_block) [] (drop 2 small_block) refl refl refl tt refl refl

pub returns-clause-tiny : goal.returns-clause-tiny
returns-clause-tiny c = λ s. false≢true (served_ends (profile_of 512) (request_by 0 1008) small_block small_block (Some (block_at 0 1024)) s)

pub returns-clause-large : goal.returns-clause-large
returns-clause-large c = way.by_fresh_run 0 (entry_of 0 (event.Full large 3 1)) [] (take 2 (drop 1 one_cached)) refl refl refl tt refl refl

pub returns-clause-still_small : goal.returns-clause-still_small
returns-clause-still_small c = λ s. false≢true (served_ends (profile_of 64) (request_by 0 32768) (take 3 one_cached) one_cached (Some (block_at 0 49152)) s)
