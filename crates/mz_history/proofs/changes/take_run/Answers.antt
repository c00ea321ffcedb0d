use Rattle.std.proofs.Common.{sym, subst, IsTrue}
use Rattle.std.specs.List.{list_all}
use Rattle.mz_base.specs.Space.{run_at, runs_apart}
use Rattle.mz_events.specs.declared.place.Place.TheVariants.{Pages}
use Rattle.mz_events.specs.Places.{keeper_at, spot_of}
use Rattle.mz_events.specs.State.{Value}
use Rattle.mz_history.proofs.AfterLemmas.{take_after, kind_apart, stays_there}
use Rattle.mz_history.proofs.changes.take_run.Goals as goal

pub lend-requires-clause-apart : goal.lend-requires-clause-apart
lend-requires-clause-apart c =
    let k = c.args.k in
    subst (λ (v : Value). IsTrue (list_all (λ t. runs_apart t (run_at c.args.first c.args.pages)) v.kept.taken))
    (sym (stays_there c.args.slots c.in_ok-slots.slots (spot_of k) (keeper_at Pages) _ (kind_apart k c.requires.ready.kind).1 c.in_ok-slots.ensures)) c.requires.ready.untaken

pub returns : goal.returns
returns c = λ s same.
    take_after c.args.p.now s c.args.done.caller (c.what_an_event_changes.ensures.leaves s c.args.done.caller) c.args.slots c.in_ok-slots.slots c.in_ok-slots-2.slots same c.args.done.event
    c.args.k c.args.first c.args.pages c.requires.is c.requires.ready.kind c.in_ok-slots.ensures c.in_ok-slots-2.ensures
