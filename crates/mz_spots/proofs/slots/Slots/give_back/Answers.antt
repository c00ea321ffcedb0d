use Rattle.std.proofs.Common.{IsTrue, None}
use Rattle.std.specs.Prelude.{◌==◌}
use Rattle.std.specs.List.{list_any}
use Rattle.mz_events.specs.Places.{Spot, spot_of}
use Rattle.mz_events.specs.State.{Value}
use Rattle.mz_events.specs.Changes.{without_run, region_at}
use Rattle.mz_events.specs.Leaving.{left_by}
use Rattle.mz_spots.specs.Keys.{spot_of_key}
use Rattle.mz_spots.specs.SlotKinds.{IsOfRuns}
use Rattle.mz_spots.proofs.SlotLemmas.{slot_has, slot_written}
use Rattle.mz_spots.proofs.slots.Slots.give_back.Goals as goal

pub give_back-requires-clause-kind : goal.give_back-requires-clause-kind
give_back-requires-clause-kind c = slot_has c.args.self c.in_ok-rest.rest (spot_of_key c.of.result) (spot_of c.args.k) c.in_ok-rest.slot c.of.ensures c.in_ok-rest.ensures.slot (λ (x : Spot × Value). IsOfRuns x.0) c.requires.kind

pub give_back-requires-clause-there : goal.give_back-requires-clause-there
give_back-requires-clause-there c = slot_has c.args.self c.in_ok-rest.rest (spot_of_key c.of.result) (spot_of c.args.k) c.in_ok-rest.slot c.of.ensures c.in_ok-rest.ensures.slot (λ (x : Spot × Value). IsTrue (list_any (λ r. r.first == c.args.first) x.1.kept.runs)) c.requires.there

pub returns : goal.returns
returns c = slot_written c.args.self c.in_ok-rest.rest (spot_of_key c.of.result) (spot_of c.args.k) c.in_ok-rest.slot c.of.ensures c.in_ok-rest.ensures.slot c.in_ok-rest.ensures.rest c.give_back.new.self (λ (v : Value). left_by c.args.done.caller c.args.done.event (without_run (region_at v.kept.runs c.args.first) v.kept) None) c.give_back.ensures c.put.result c.put.ensures
