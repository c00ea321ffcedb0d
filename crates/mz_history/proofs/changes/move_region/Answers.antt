use Rattle.std.proofs.Common.{◌+◌, ◌≤◌, sym, subst, IsTrue}
use Rattle.std.specs.List.{list_all}
use Rattle.mz_base.specs.Space.{Run, runs_apart}
use Rattle.mz_events.specs.Places.{spot_of}
use Rattle.mz_events.specs.State.{Value, look_up}
use Rattle.mz_events.specs.Changes.{region_at}
use Rattle.mz_holding.specs.LiveBlocks.{page_limit}
use Rattle.mz_history.proofs.AfterLemmas.{move_after, stays_there}
use Rattle.mz_history.proofs.changes.move_region.Goals as goal

pub put_in-requires-clause-some : goal.put_in-requires-clause-some
put_in-requires-clause-some c = subst (λ (r : Run). 1 ≤ r.pages) (sym c.in_ok-slots.ensures.run) c.requires.ready.comes.some

pub put_in-requires-clause-fits : goal.put_in-requires-clause-fits
put_in-requires-clause-fits c = subst (λ (r : Run). r.first + r.pages ≤ page_limit) (sym c.in_ok-slots.ensures.run) c.requires.ready.comes.fits

pub put_in-requires-clause-apart : goal.put_in-requires-clause-apart
put_in-requires-clause-apart c =
    let old = c.args.slots in
    let r = region_at (look_up old (spot_of c.args.from)).kept.runs c.args.first in
    subst (λ (q : Run). IsTrue (list_all (λ t. runs_apart t q) (look_up c.in_ok-slots.slots (spot_of c.args.to)).kept.runs)) (sym c.in_ok-slots.ensures.run)
    (subst (λ (v : Value). IsTrue (list_all (λ t. runs_apart t r) v.kept.runs)) (sym (stays_there old c.in_ok-slots.slots (spot_of c.args.from) (spot_of c.args.to) _ c.requires.ready.differ c.in_ok-slots.ensures.left)) c.requires.ready.comes.apart)

pub returns : goal.returns
returns c = λ s same.
    move_after c.args.p.now s c.args.done.caller (c.what_an_event_changes.ensures.leaves s c.args.done.caller) c.args.slots c.in_ok-slots.slots c.in_ok-slots-2.slots same c.args.done.event
    c.args.first c.args.from c.args.to _ _ c.requires.is c.requires.ready.differ c.in_ok-slots.ensures.run c.in_ok-slots.ensures.blocks c.in_ok-slots.ensures.left c.in_ok-slots-2.ensures
