use Rattle.std.proofs.Common.{◌≡◌, true, sym, subst, ◌∙◌}
use Rattle.mz_events.proofs.EntryLemmas.{spot_is_there, spot_found, reads-is, reads_touched, reads_held, reads_those}
use Rattle.mz_events.proofs.SpotLemmas.{same_spot-true, same_spot-refl}
use Rattle.mz_events.specs.Places.{same_spot}
use Rattle.mz_events.specs.Effect.{touched}
use Rattle.mz_events.specs.Holding.{read_spots}
use Rattle.mz_events.proofs.laws.holding.what_an_event_reads.Goals as goal

pub returns-clause-touched : goal.returns-clause-touched
returns-clause-touched c p e j = (spot_is_there j (touched p e), spot_found j (touched p e))

pub returns-clause-read : goal.returns-clause-read
returns-clause-read c p e j = ((λ h. spot_is_there j (read_spots p e) (sym (reads-is p e j) ∙ h)), (λ h. reads-is p e j ∙ spot_found j (read_spots p e) h))

pub returns-clause-touched_is_read : goal.returns-clause-touched_is_read
returns-clause-touched_is_read c = reads_touched

pub returns-clause-held : goal.returns-clause-held
returns-clause-held c p held e = (reads_those p held e, reads_held p held e)

pub returns-clause-same_spot : goal.returns-clause-same_spot
returns-clause-same_spot c j k = (same_spot-true j k, (λ h. subst (λ i. same_spot j i ≡ true) h (same_spot-refl j)))
