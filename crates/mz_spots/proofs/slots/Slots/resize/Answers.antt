use Rattle.std.proofs.Common.{IsTrue, None}
use Rattle.mz_base.specs.Space.{block_at}
use Rattle.mz_base.specs.Lists.{has_block}
use Rattle.mz_events.specs.Places.{Spot, spot_at}
use Rattle.mz_events.specs.State.{Value}
use Rattle.mz_events.specs.Changes.{resized}
use Rattle.mz_events.specs.Leaving.{left_by}
use Rattle.mz_holding.specs.HeldRuns.{IsRoomBut}
use Rattle.mz_spots.specs.Keys.{spot_of_key}
use Rattle.mz_spots.specs.SlotKinds.{IsOfRuns}
use Rattle.mz_spots.proofs.SlotLemmas.{slot_has, slot_written}
use Rattle.mz_spots.proofs.slots.Slots.resize.Goals as goal

pub resize-requires-clause-kind : goal.resize-requires-clause-kind
resize-requires-clause-kind c = slot_has c.args.self c.in_ok-rest.rest (spot_of_key c.at.result) (spot_at c.args.k c.args.a) c.in_ok-rest.slot c.at.ensures c.in_ok-rest.ensures.slot (λ (x : Spot × Value). IsOfRuns x.0) c.requires.kind

pub resize-requires-clause-live : goal.resize-requires-clause-live
resize-requires-clause-live c = slot_has c.args.self c.in_ok-rest.rest (spot_of_key c.at.result) (spot_at c.args.k c.args.a) c.in_ok-rest.slot c.at.ensures c.in_ok-rest.ensures.slot (λ (x : Spot × Value). IsTrue (has_block x.1.kept.live (block_at c.args.a c.args.n))) c.requires.live

pub resize-requires-clause-room : goal.resize-requires-clause-room
resize-requires-clause-room c = slot_has c.args.self c.in_ok-rest.rest (spot_of_key c.at.result) (spot_at c.args.k c.args.a) c.in_ok-rest.slot c.at.ensures c.in_ok-rest.ensures.slot (λ (x : Spot × Value). IsRoomBut x.1.kept c.args.a c.args.m) c.requires.room

pub returns : goal.returns
returns c = slot_written c.args.self c.in_ok-rest.rest (spot_of_key c.at.result) (spot_at c.args.k c.args.a) c.in_ok-rest.slot c.at.ensures c.in_ok-rest.ensures.slot c.in_ok-rest.ensures.rest c.resize.new.self (λ (v : Value). left_by c.args.done.caller c.args.done.event (resized (block_at c.args.a c.args.n) (block_at c.args.a c.args.m) v.kept) None) c.in_ok-resize.ensures c.put.result c.put.ensures
