use Rattle.mz_trace.proofs.NamesAreNoted.{name_added}
use Rattle.mz_trace.proofs.laws.one_more_name.Goals as goal

pub returns : goal.returns
returns c = name_added
