use Rattle.std.proofs.Common.{take, ap}
use Rattle.mz_events.specs.State.{opening}
use Rattle.mz_events.specs.History.{after_all}
use Rattle.mz_record.proofs.MomentLemmas.{before_is}
use Rattle.mz_record.proofs.laws.moments.Goals as goal

pub returns-clause-before : goal.returns-clause-before
returns-clause-before c p h n lawful =
    let tickets = c.tickets_are_indices.ensures in
    before_is p h n (tickets.in_order p opening h lawful) (tickets.index p opening h lawful)

pub returns-clause-at : goal.returns-clause-at
returns-clause-at c p h n lawful =
    let tickets = c.tickets_are_indices.ensures in
    ap (λ es. after_all p opening (take n es)) (tickets.in_order p opening h lawful)
