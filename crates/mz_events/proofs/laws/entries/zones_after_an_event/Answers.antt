use Rattle.mz_events.proofs.EntryLemmas.{zones_stay, zone_opens, zone_shuts}
use Rattle.mz_events.proofs.laws.entries.zones_after_an_event.Goals as goal

pub returns-clause-others : goal.returns-clause-others
returns-clause-others c = zones_stay

pub returns-clause-opened : goal.returns-clause-opened
returns-clause-opened c = zone_opens

pub returns-clause-shut : goal.returns-clause-shut
returns-clause-shut c = zone_shuts
