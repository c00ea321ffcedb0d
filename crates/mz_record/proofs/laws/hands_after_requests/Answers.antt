use Rattle.mz_record.proofs.HandLemmas.{served_hand, dropped_hand}
use Rattle.mz_record.proofs.laws.hands_after_requests.Goals as goal

pub returns-clause-served : goal.returns-clause-served
returns-clause-served c = served_hand (record { leaves = c.what_an_event_leaves.ensures.touched; listed = λ p e j. (c.what_an_event_reads.ensures.touched p e j).1 })

pub returns-clause-dropped : goal.returns-clause-dropped
returns-clause-dropped c = dropped_hand (record { leaves = c.what_an_event_leaves.ensures.touched; listed = λ p e j. (c.what_an_event_reads.ensures.touched p e j).1 })
