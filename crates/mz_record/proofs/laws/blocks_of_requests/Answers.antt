use Rattle.mz_record.proofs.MadeLemmas.{served_blocks, dropped_blocks}
use Rattle.mz_record.proofs.laws.blocks_of_requests.Goals as goal

pub returns-clause-served : goal.returns-clause-served
returns-clause-served c = served_blocks (record { leaves = c.what_an_event_leaves.ensures.touched; listed = λ p e j. (c.what_an_event_reads.ensures.touched p e j).1 })

pub returns-clause-dropped : goal.returns-clause-dropped
returns-clause-dropped c = dropped_blocks (record { leaves = c.what_an_event_leaves.ensures.touched; listed = λ p e j. (c.what_an_event_reads.ensures.touched p e j).1 })
