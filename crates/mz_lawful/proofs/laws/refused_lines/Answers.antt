use Rattle.mz_lawful.proofs.AnswerLemmas.{refused_answer, refused_entries, refused_standing}
use Rattle.mz_lawful.proofs.laws.refused_lines.Goals as goal

pub returns-clause-answer : goal.returns-clause-answer
returns-clause-answer c = refused_answer

pub returns-clause-entries : goal.returns-clause-entries
returns-clause-entries c = refused_entries

pub returns-clause-standing : goal.returns-clause-standing
returns-clause-standing c = refused_standing
