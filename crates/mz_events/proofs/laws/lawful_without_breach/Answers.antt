use Rattle.mz_events.proofs.HistoryLemmas.{lawful_history_by_none, none_by_lawful_history}
use Rattle.mz_events.proofs.laws.lawful_without_breach.Goals as goal

pub returns : goal.returns
returns c p entries = (lawful_history_by_none p entries, none_by_lawful_history p entries)
