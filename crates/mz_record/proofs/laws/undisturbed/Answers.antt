use Rattle.mz_record.proofs.CalmLemmas.{calm, alone}
use Rattle.mz_record.proofs.laws.undisturbed.Goals as goal

pub returns-clause-calm : goal.returns-clause-calm
returns-clause-calm c = calm

pub returns-clause-alone : goal.returns-clause-alone
returns-clause-alone c = alone
