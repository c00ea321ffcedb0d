use Rattle.mz_transcript.proofs.TextsAreRuns.{run_is_one}
use Rattle.mz_transcript.proofs.laws.one_run.Goals as goal

pub returns : goal.returns
returns c = run_is_one (record { words = c.line_laws.ensures.words; lines = c.line_laws.ensures; one_more_name = c.one_more_name.ensures })
