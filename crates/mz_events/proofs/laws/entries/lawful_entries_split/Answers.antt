use Rattle.mz_events.proofs.EntryLemmas.{AreLawful-none, AreLawful-one, AreLawful-only, AreLawful-join, AreLawful-split}
use Rattle.mz_events.proofs.laws.entries.lawful_entries_split.Goals as goal

pub returns-clause-none : goal.returns-clause-none
returns-clause-none c = AreLawful-none

pub returns-clause-one : goal.returns-clause-one
returns-clause-one c p s e = (AreLawful-only p s e, AreLawful-one p s e)

pub returns-clause-joined : goal.returns-clause-joined
returns-clause-joined c p s xs ys = (AreLawful-split p s xs ys, AreLawful-join p s xs ys)
