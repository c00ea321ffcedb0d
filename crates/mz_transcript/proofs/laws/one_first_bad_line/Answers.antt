use Rattle.mz_transcript.proofs.TextsAreRuns.{first_is_one}
use Rattle.mz_transcript.proofs.laws.one_first_bad_line.Goals as goal

pub returns : goal.returns
returns c = first_is_one
