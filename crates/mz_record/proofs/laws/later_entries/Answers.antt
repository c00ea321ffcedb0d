use Rattle.mz_record.proofs.LaterLemmas.{HistoryLaws, same_at, are_before, still_serves, still_dropped}
use Rattle.mz_record.proofs.laws.later_entries.Goals as goal

pub returns-clause-state : goal.returns-clause-state
returns-clause-state c p h later n lawful low =
    let laws : HistoryLaws = record { index = c.tickets_are_indices.ensures.index; joined = c.lawful_entries_split.ensures.joined; before = c.moments.ensures.before; at = c.moments.ensures.at } in
    same_at laws p h later lawful n low

pub returns-clause-served : goal.returns-clause-served
returns-clause-served c p h later q es got lawful there serves =
    let laws : HistoryLaws = record { index = c.tickets_are_indices.ensures.index; joined = c.lawful_entries_split.ensures.joined; before = c.moments.ensures.before; at = c.moments.ensures.at } in
    still_serves laws p h later lawful q es got (are_before laws p h later lawful es there) serves

pub returns-clause-dropped : goal.returns-clause-dropped
returns-clause-dropped c p h later b es lawful there dropped =
    let laws : HistoryLaws = record { index = c.tickets_are_indices.ensures.index; joined = c.lawful_entries_split.ensures.joined; before = c.moments.ensures.before; at = c.moments.ensures.at } in
    still_dropped laws p h later lawful b es (are_before laws p h later lawful es there) dropped
