use Rattle.std.proofs.Common.{arith, refl, [], ◌∷◌, Some}
use Rattle.std.proofs.lemmas.Bool.{false≢true}
use Rattle.mz_base.specs.Space.{block_at}
use Rattle.mz_events.specs.declared.event.Event.TheVariants as event
use Rattle.mz_events.specs.declared.place.Place.TheVariants as place
use Rattle.mz_examples.specs.Examples.{profile_of, entry_of}
use Rattle.mz_examples.specs.Rows.{two_nano_pages, LAST_PAGE, first_slot}
use Rattle.mz_record.specs.Served as way
use Rattle.mz_examples.specs.RunsServed.{request_by}
use Rattle.mz_examples.specs.RunsServed.{at_alignment, in_zone}
use Rattle.mz_examples.proofs.ServedTests.{served_ends}
use Rattle.mz_examples.proofs.runs.served.by_nano.Goals as goal

pub returns-clause-served : goal.returns-clause-served
returns-clause-served c = way.by_nano LAST_PAGE refl (omega arith) (omega arith) refl refl refl

pub returns-clause-other_zone : goal.returns-clause-other_zone
returns-clause-other_zone c = λ s. false≢true (served_ends two_nano_pages (in_zone 1 (request_by 0 40)) first_slot first_slot (Some (block_at LAST_PAGE 48)) s)

pub returns-clause-too_large : goal.returns-clause-too_large
returns-clause-too_large c = λ s. false≢true (served_ends two_nano_pages (request_by 0 300) (entry_of 0 (event.New place.Nano LAST_PAGE 304 16) ∷ []) first_slot (Some (block_at LAST_PAGE 304)) s)

pub returns-clause-other_alignment : goal.returns-clause-other_alignment
returns-clause-other_alignment c = λ s. false≢true (served_ends two_nano_pages (at_alignment 32 (request_by 0 40)) first_slot first_slot (Some (block_at LAST_PAGE 48)) s)

pub returns-clause-no_nano : goal.returns-clause-no_nano
returns-clause-no_nano c = λ s. false≢true (served_ends (profile_of 64) (request_by 0 40) first_slot first_slot (Some (block_at LAST_PAGE 48)) s)

pub returns-clause-other_size : goal.returns-clause-other_size
returns-clause-other_size c = λ s. false≢true (served_ends two_nano_pages (request_by 0 30) first_slot first_slot (Some (block_at LAST_PAGE 48)) s)
