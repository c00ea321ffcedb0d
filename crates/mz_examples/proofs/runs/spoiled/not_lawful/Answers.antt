use Rattle.std.proofs.Common.{sym, ◌∙◌}
use Rattle.std.proofs.lemmas.Bool.{false≢true}
use Rattle.mz_lawful.specs.LawfulRun.{placed_records}
use Rattle.mz_examples.specs.Spoiled.{IsWronglyAnswered, HasOtherEntries, ShowsOtherBytes, IsOutOfTurn}
use Rattle.mz_examples.proofs.SpoiledRuns.{some_unfit}
use Rattle.mz_examples.proofs.runs.spoiled.not_lawful.Goals as goal

pub returns-clause-answer : goal.returns-clause-answer
returns-clause-answer c = λ t r i at run. some_unfit IsWronglyAnswered (λ x wrong fits. wrong fits.answer) (placed_records r) i at run.fitting

pub returns-clause-entries : goal.returns-clause-entries
returns-clause-entries c = λ t r i at run. some_unfit HasOtherEntries (λ x wrong fits. wrong fits.entries) (placed_records r) i at run.fitting

pub returns-clause-bytes : goal.returns-clause-bytes
returns-clause-bytes c = λ t r i at run. some_unfit ShowsOtherBytes (λ x wrong fits. false≢true (sym wrong ∙ fits.bytes)) (placed_records r) i at run.fitting

pub returns-clause-order : goal.returns-clause-order
returns-clause-order c = λ t r i at run. some_unfit IsOutOfTurn (λ x wrong fits. false≢true (sym wrong ∙ fits.in_turn)) (placed_records r) i at run.fitting
