use Rattle.mz_bits.proofs.RunLemmas.{with_run-reads}
use Rattle.mz_bits.proofs.laws.a_run_is_read.Goals as goal

pub returns : goal.returns
returns c bits i n v h = with_run-reads bits i n v h
