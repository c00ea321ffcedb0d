use Rattle.mz_lawful.proofs.AnswerLemmas.{one_answer_of}
use Rattle.mz_lawful.proofs.laws.one_answer.Goals as goal

pub returns : goal.returns
returns c = one_answer_of
