use Rattle.std.proofs.Common.{arith}
use Rattle.std.proofs.lemmas.List.{length-replicate}
use Rattle.mz_record.proofs.ByteLemmas.{count_cleared, count_linked, count_kept}
use Rattle.mz_record.proofs.laws.byte_counts.Goals as goal

pub returns-clause-fresh : goal.returns-clause-fresh
returns-clause-fresh c = λ s. length-replicate s _

pub returns-clause-cleared : goal.returns-clause-cleared
returns-clause-cleared c = count_cleared

pub returns-clause-filled : goal.returns-clause-filled
returns-clause-filled c = λ s byte. length-replicate s _

pub returns-clause-linked : goal.returns-clause-linked
returns-clause-linked c = count_linked

pub returns-clause-in_place : goal.returns-clause-in_place
returns-clause-in_place c = λ s bs. count_kept s s bs (omega arith)

pub returns-clause-in_move : goal.returns-clause-in_move
returns-clause-in_move c = count_kept
