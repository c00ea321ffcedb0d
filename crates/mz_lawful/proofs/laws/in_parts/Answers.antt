use Rattle.mz_lawful.proofs.PartLemmas.{records_in_parts, rounds_in_parts}
use Rattle.mz_lawful.proofs.laws.in_parts.Goals as goal

pub returns-clause-records : goal.returns-clause-records
returns-clause-records c = records_in_parts

pub returns-clause-rounds : goal.returns-clause-rounds
returns-clause-rounds c = rounds_in_parts
