use Rattle.mz_spots.specs.Keys.{spot_of_key}
use Rattle.mz_history.proofs.AfterLemmas.{new_ok, end_ok, size_ok, full_ok, no_ok}
use Rattle.mz_history.proofs.changes.change.Goals as goal

pub returns-in-New : goal.returns-in-New
returns-in-New c = new_ok c.args.p.now c.args.done.caller c.args.done.event c.what_an_event_changes.ensures.leaves c.args.slots c.make.result c.in-New.k c.in-New.a c.in-New.s c.in-New.al c.in-New.is c.make.ensures

pub returns-in-End : goal.returns-in-End
returns-in-End c = end_ok c.args.p.now c.args.done.caller c.args.done.event c.what_an_event_changes.ensures.leaves c.args.slots c.end.result c.in-End.k c.in-End.a c.in-End.s c.in-End.is c.end.ensures

pub returns-in-Size : goal.returns-in-Size
returns-in-Size c = size_ok c.args.p.now c.args.done.caller c.args.done.event c.what_an_event_changes.ensures.leaves c.args.slots c.resize.result c.in-Size.k c.in-Size.a c.in-Size.s c.in-Size.s2 c.in-Size.is c.resize.ensures

pub returns-in-Full : goal.returns-in-Full
returns-in-Full c = full_ok c.args.p.now c.args.done.caller c.args.done.event c.what_an_event_changes.ensures.leaves c.args.slots c.full.result c.in-Full.k c.in-Full.n c.in-Full.al c.in-Full.is c.full.ensures

pub returns-in-No : goal.returns-in-No
returns-in-No c = no_ok c.args.p.now c.args.done.caller c.args.done.event c.what_an_event_changes.ensures.leaves c.args.slots c.note.result c.in-No.k c.in-No.zone c.in-No.a c.in-No.s (spot_of_key c.at.result) c.in-No.is c.at.ensures c.note.ensures
