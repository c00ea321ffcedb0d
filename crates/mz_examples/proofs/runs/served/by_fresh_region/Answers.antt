use Rattle.std.proofs.Common.{refl, ◌++◌, [], Some, None, take, drop}
use Rattle.std.proofs.lemmas.Bool.{false≢true}
use Rattle.mz_base.specs.Space.{block_at}
use Rattle.mz_examples.specs.Examples.{profile_of, thin_path}
use Rattle.mz_record.specs.Served as way
use Rattle.mz_examples.specs.RunsServed.{request_by}
use Rattle.mz_examples.proofs.ServedTests.{served_ends, served_in_order}
use Rattle.mz_examples.proofs.runs.served.by_fresh_region.Goals as goal

pub returns-clause-served : goal.returns-clause-served
returns-clause-served c = way.by_fresh_region _ 0 0 (take 2 thin_path) [] (drop 2 thin_path) refl refl refl tt refl refl

pub returns-clause-other_size : goal.returns-clause-other_size
returns-clause-other_size c = λ s. false≢true (served_ends (profile_of 64) (request_by 0 100) thin_path thin_path (Some (block_at 0 128)) s)

pub returns-clause-other_place : goal.returns-clause-other_place
returns-clause-other_place c = λ s. false≢true (served_ends (profile_of 64) (request_by 0 100) thin_path thin_path (Some (block_at 16 112)) s)

pub returns-clause-none : goal.returns-clause-none
returns-clause-none c = λ s. false≢true (served_ends (profile_of 64) (request_by 0 100) thin_path thin_path None s)

pub returns-clause-more_bytes : goal.returns-clause-more_bytes
returns-clause-more_bytes c = λ s. false≢true (served_ends (profile_of 64) (request_by 0 130) thin_path thin_path (Some (block_at 0 112)) s)

pub returns-clause-no_take : goal.returns-clause-no_take
returns-clause-no_take c = λ s. false≢true (served_in_order (profile_of 64) (request_by 0 100) (take 2 thin_path ++ drop 3 thin_path) thin_path (Some (block_at 0 112)) s)
