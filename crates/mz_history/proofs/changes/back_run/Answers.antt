use Rattle.mz_history.proofs.AfterLemmas.{back_after}
use Rattle.mz_history.proofs.changes.back_run.Goals as goal

pub returns : goal.returns
returns c = λ s same.
    back_after c.args.p.now s c.args.done.caller (c.what_an_event_changes.ensures.leaves s c.args.done.caller) c.args.slots c.in_ok-slots.slots c.in_ok-slots-2.slots same c.args.done.event
    c.args.k c.args.first c.args.pages c.requires.is c.requires.ready.kind c.requires.ready.is c.in_ok-slots.ensures c.in_ok-slots-2.ensures
