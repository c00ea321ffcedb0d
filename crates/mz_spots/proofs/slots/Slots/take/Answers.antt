use Rattle.std.proofs.Common.{IsTrue, None}
use Rattle.std.specs.List.{list_all}
use Rattle.mz_base.specs.Space.{run_at, runs_apart}
use Rattle.mz_events.specs.Places.{Spot, spot_of}
use Rattle.mz_events.specs.State.{Value}
use Rattle.mz_events.specs.Changes.{with_run}
use Rattle.mz_events.specs.Leaving.{left_by}
use Rattle.mz_spots.specs.Keys.{spot_of_key}
use Rattle.mz_spots.specs.SlotKinds.{IsOfRuns}
use Rattle.mz_spots.proofs.SlotLemmas.{slot_has, slot_written}
use Rattle.mz_spots.proofs.slots.Slots.take.Goals as goal

pub take-requires-clause-kind : goal.take-requires-clause-kind
take-requires-clause-kind c = slot_has c.args.self c.in_ok-rest.rest (spot_of_key c.of.result) (spot_of c.args.k) c.in_ok-rest.slot c.of.ensures c.in_ok-rest.ensures.slot (λ (x : Spot × Value). IsOfRuns x.0) c.requires.kind

pub take-requires-clause-apart : goal.take-requires-clause-apart
take-requires-clause-apart c = slot_has c.args.self c.in_ok-rest.rest (spot_of_key c.of.result) (spot_of c.args.k) c.in_ok-rest.slot c.of.ensures c.in_ok-rest.ensures.slot (λ (x : Spot × Value). IsTrue (list_all (λ r. runs_apart r (run_at c.args.first c.args.pages)) x.1.kept.runs)) c.requires.apart

pub returns : goal.returns
returns c = slot_written c.args.self c.in_ok-rest.rest (spot_of_key c.of.result) (spot_of c.args.k) c.in_ok-rest.slot c.of.ensures c.in_ok-rest.ensures.slot c.in_ok-rest.ensures.rest c.take.new.self (λ (v : Value). left_by c.args.done.caller c.args.done.event (with_run (run_at c.args.first c.args.pages) v.kept) None) c.in_ok-take.ensures c.put.result c.put.ensures
