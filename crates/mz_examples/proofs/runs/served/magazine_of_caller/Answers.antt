use Rattle.std.proofs.Common.{refl, [], ◌∷◌, Some}
use Rattle.std.proofs.lemmas.Bool.{false≢true}
use Rattle.mz_base.specs.Space.{block_at}
use Rattle.mz_events.specs.declared.event.Event.TheVariants as event
use Rattle.mz_examples.specs.Examples.{magazine}
use Rattle.mz_examples.specs.Edges.{entry_of_other}
use Rattle.mz_record.specs.Served as way
use Rattle.mz_examples.specs.RunsServed.{request_by}
use Rattle.mz_examples.specs.RunsServed.{two_magazines}
use Rattle.mz_examples.proofs.ServedTests.{served_ends}
use Rattle.mz_examples.proofs.runs.served.magazine_of_caller.Goals as goal

pub returns-clause-own : goal.returns-clause-own
returns-clause-own c = way.by_magazine _ 0 refl refl refl

pub returns-clause-round : goal.returns-clause-round
returns-clause-round c = way.by_magazine _ 0 refl refl refl

pub returns-clause-other : goal.returns-clause-other
returns-clause-other c = λ s. false≢true (served_ends two_magazines (request_by 1 100) (entry_of_other 0 (event.New magazine 0 112 16) ∷ []) ([]) (Some (block_at 0 112)) s)
