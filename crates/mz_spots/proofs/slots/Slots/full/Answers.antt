use Rattle.std.proofs.Common.{None}
use Rattle.mz_events.specs.Places.{Spot, spot_of}
use Rattle.mz_events.specs.State.{Value}
use Rattle.mz_events.specs.Leaving.{left_by}
use Rattle.mz_spots.specs.Keys.{spot_of_key}
use Rattle.mz_spots.specs.SlotKinds.{IsOfRuns}
use Rattle.mz_spots.proofs.SlotLemmas.{slot_has, slot_written}
use Rattle.mz_spots.proofs.slots.Slots.full.Goals as goal

pub full-requires-clause-kind : goal.full-requires-clause-kind
full-requires-clause-kind c = slot_has c.args.self c.in_ok-rest.rest (spot_of_key c.of.result) (spot_of c.args.k) c.in_ok-rest.slot c.of.ensures c.in_ok-rest.ensures.slot (λ (x : Spot × Value). IsOfRuns x.0) c.requires.kind

pub returns : goal.returns
returns c = slot_written c.args.self c.in_ok-rest.rest (spot_of_key c.of.result) (spot_of c.args.k) c.in_ok-rest.slot c.of.ensures c.in_ok-rest.ensures.slot c.in_ok-rest.ensures.rest c.full.new.self (λ (v : Value). left_by c.args.done.caller c.args.done.event v.kept None) c.full.ensures c.put.result c.put.ensures
