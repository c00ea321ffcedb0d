use Rattle.std.proofs.Common.{ap}
use Rattle.mz_record.proofs.ByteLemmas.{less_none, keeps_all, shown_unknown, shown_known}
use Rattle.mz_record.specs.Bytes.{fresh}
use Rattle.mz_record.proofs.laws.bytes_are_kept.Goals as goal

pub returns-clause-same_size : goal.returns-clause-same_size
returns-clause-same_size c = keeps_all

pub returns-clause-none : goal.returns-clause-none
returns-clause-none c = λ s bs. ap fresh (less_none s)

pub returns-clause-unknown : goal.returns-clause-unknown
returns-clause-unknown c = shown_unknown

pub returns-clause-known : goal.returns-clause-known
returns-clause-known c = shown_known
