use Rattle.mz_record.proofs.MadeLemmas.{is_made}
use Rattle.mz_record.proofs.laws.served_is_made.Goals as goal

pub returns : goal.returns
returns c = is_made (record { leaves = c.what_an_event_leaves.ensures.touched; listed = λ p e j. (c.what_an_event_reads.ensures.touched p e j).1 })
