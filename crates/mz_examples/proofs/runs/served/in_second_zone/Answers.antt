use Rattle.std.proofs.Common.{refl, [], Some, take, drop}
use Rattle.std.proofs.lemmas.Bool.{false≢true}
use Rattle.mz_base.specs.Space.{block_at}
use Rattle.mz_examples.specs.Rows.{two_zones, second_serves}
use Rattle.mz_record.specs.Served as way
use Rattle.mz_examples.specs.RunsServed.{request_by}
use Rattle.mz_examples.proofs.ServedTests.{served_ends}
use Rattle.mz_examples.proofs.runs.served.in_second_zone.Goals as goal

pub returns-clause-served : goal.returns-clause-served
returns-clause-served c = way.by_fresh_region _ 0 0 (take 2 (drop 1 second_serves)) [] (drop 3 second_serves) refl refl refl tt refl refl

pub returns-clause-other_zone : goal.returns-clause-other_zone
returns-clause-other_zone c = λ s. false≢true (served_ends two_zones (request_by 0 16) (drop 1 second_serves) second_serves (Some (block_at 0 16)) s)
