use Rattle.std.proofs.Common.{refl, [], ◌∷◌, Some, None}
use Rattle.std.proofs.lemmas.Bool.{false≢true}
use Rattle.mz_base.specs.Space.{block_at}
use Rattle.mz_events.specs.declared.event.Event.TheVariants as event
use Rattle.mz_examples.specs.Examples.{profile_of, entry_of, magazine, last_freed_block}
use Rattle.mz_examples.specs.Edges.{small_magazine}
use Rattle.mz_record.specs.Served as way
use Rattle.mz_examples.specs.RunsServed.{request_by}
use Rattle.mz_examples.specs.RunsServed.{at_alignment, in_zone}
use Rattle.mz_examples.proofs.ServedTests.{served_ends}
use Rattle.mz_examples.proofs.runs.served.by_magazine.Goals as goal

pub returns-clause-served : goal.returns-clause-served
returns-clause-served c = way.by_magazine _ 48 refl refl refl

pub returns-clause-last_freed : goal.returns-clause-last_freed
returns-clause-last_freed c = way.by_magazine _ 0 refl refl refl

pub returns-clause-other_alignment : goal.returns-clause-other_alignment
returns-clause-other_alignment c = λ s. false≢true (served_ends (profile_of 64) (at_alignment 32 (request_by 0 48)) (entry_of 6 (event.New magazine 0 48 16) ∷ []) last_freed_block (Some (block_at 0 48)) s)

pub returns-clause-other_zone : goal.returns-clause-other_zone
returns-clause-other_zone c = λ s. false≢true (served_ends (profile_of 64) (in_zone 1 (request_by 0 48)) (entry_of 6 (event.New magazine 0 48 16) ∷ []) last_freed_block (Some (block_at 0 48)) s)

pub returns-clause-other_range : goal.returns-clause-other_range
returns-clause-other_range c = λ s. false≢true (served_ends (profile_of 64) (request_by 0 48) (entry_of 6 (event.New small_magazine 0 48 16) ∷ []) last_freed_block (Some (block_at 0 48)) s)

pub returns-clause-nothing : goal.returns-clause-nothing
returns-clause-nothing c = λ s. false≢true (served_ends (profile_of 64) (request_by 0 48) ([]) last_freed_block None s)
