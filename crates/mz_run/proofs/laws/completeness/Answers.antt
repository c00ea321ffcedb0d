use Rattle.mz_run.proofs.TopLemmas.{run_completeness, check_completeness, check_answers}
use Rattle.mz_run.proofs.laws.completeness.Goals as goal

pub returns-clause-run : goal.returns-clause-run
returns-clause-run c = run_completeness

pub returns-clause-check : goal.returns-clause-check
returns-clause-check c = check_completeness

pub returns-clause-any : goal.returns-clause-any
returns-clause-any c = check_answers
