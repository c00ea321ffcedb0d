use Rattle.std.proofs.Common.{IsTrue}
use Rattle.std.specs.List.{list_all}
use Rattle.mz_base.specs.Space.{runs_apart}
use Rattle.mz_events.specs.Places.{Spot, spot_of}
use Rattle.mz_events.specs.State.{Value}
use Rattle.mz_events.specs.Changes.{with_region}
use Rattle.mz_events.specs.Leaving.{left_by}
use Rattle.mz_holding.specs.HeldRuns.{run_of_held, live_of_held}
use Rattle.mz_spots.specs.Keys.{spot_of_key}
use Rattle.mz_spots.specs.SlotKinds.{IsOfRuns, duty_of_region}
use Rattle.mz_spots.proofs.SlotLemmas.{slot_has, slot_written}
use Rattle.mz_spots.proofs.slots.Slots.put_in.Goals as goal

pub put_in-requires-clause-kind : goal.put_in-requires-clause-kind
put_in-requires-clause-kind c = slot_has c.args.self c.in_ok-rest.rest (spot_of_key c.of.result) (spot_of c.args.k) c.in_ok-rest.slot c.of.ensures c.in_ok-rest.ensures.slot (λ (x : Spot × Value). IsOfRuns x.0) c.requires.kind

pub put_in-requires-clause-apart : goal.put_in-requires-clause-apart
put_in-requires-clause-apart c = slot_has c.args.self c.in_ok-rest.rest (spot_of_key c.of.result) (spot_of c.args.k) c.in_ok-rest.slot c.of.ensures c.in_ok-rest.ensures.slot (λ (x : Spot × Value). IsTrue (list_all (λ r. runs_apart r (run_of_held c.args.held)) x.1.kept.runs)) c.requires.apart

pub returns : goal.returns
returns c = slot_written c.args.self c.in_ok-rest.rest (spot_of_key c.of.result) (spot_of c.args.k) c.in_ok-rest.slot c.of.ensures c.in_ok-rest.ensures.slot c.in_ok-rest.ensures.rest c.put_in.new.self (λ (v : Value). left_by c.args.done.caller c.args.done.event (with_region (run_of_held c.args.held) (live_of_held c.args.held) v.kept) (duty_of_region c.args.k (with_region (run_of_held c.args.held) (live_of_held c.args.held) v.kept))) c.in_ok-put_in.ensures c.put.result c.put.ensures
