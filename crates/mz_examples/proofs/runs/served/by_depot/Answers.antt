use Rattle.std.proofs.Common.{refl, [], ◌∷◌, Some, drop}
use Rattle.std.proofs.lemmas.Bool.{false≢true}
use Rattle.mz_base.specs.Space.{block_at}
use Rattle.mz_events.specs.declared.event.Event.TheVariants as event
use Rattle.mz_examples.specs.Examples.{entry_of, magazine}
use Rattle.mz_examples.specs.Cycles.{MIB, two_regions, taken_again}
use Rattle.mz_record.specs.Served as way
use Rattle.mz_examples.specs.RunsServed.{request_by}
use Rattle.mz_examples.specs.RunsServed.{at_alignment}
use Rattle.mz_examples.proofs.ServedTests.{served_ends, served_in_order}
use Rattle.mz_examples.proofs.runs.served.by_depot.Goals as goal

pub returns-clause-served : goal.returns-clause-served
returns-clause-served c = way.by_depot _ 0 0 refl refl refl

pub returns-clause-no_move : goal.returns-clause-no_move
returns-clause-no_move c = λ s. false≢true (served_in_order two_regions (at_alignment MIB (request_by 0 16)) (entry_of 11 (event.Full magazine 16 MIB) ∷ entry_of 13 (event.New magazine 0 16 MIB) ∷ []) taken_again (Some (block_at 0 16)) s)

pub returns-clause-other_alignment : goal.returns-clause-other_alignment
returns-clause-other_alignment c = λ s. false≢true (served_ends two_regions (request_by 0 16) (drop 11 taken_again) taken_again (Some (block_at 0 16)) s)
