use Rattle.mz_book.proofs.ZoneLemmas.{in_zones}
use Rattle.mz_book.proofs.laws.live.runs_are_in_zones.Goals as goal

pub returns : goal.returns
returns c p es j r lawful there = in_zones c.of_histories.ensures p es lawful j r there
