use Rattle.std.proofs.Common.{◌≡◌, None}
use Rattle.mz_base.specs.Space.{block_at}
use Rattle.mz_events.specs.declared.place.Place.TheVariants.{Pages}
use Rattle.mz_events.specs.Places.{Spot, keeper_at, spot_at}
use Rattle.mz_events.specs.State.{Value}
use Rattle.mz_events.specs.Changes.{with_block}
use Rattle.mz_events.specs.Leaving.{left_by}
use Rattle.mz_spots.specs.Keys.{spot_of_key}
use Rattle.mz_spots.specs.SlotKinds.{HasRoomFor}
use Rattle.mz_spots.proofs.SlotLemmas.{slot_has, slot_written, not_pages}
use Rattle.mz_spots.proofs.slots.Slots.make.Goals as goal

pub make-requires-clause-kind : goal.make-requires-clause-kind
make-requires-clause-kind c = slot_has c.args.self c.in_ok-rest.rest (spot_of_key c.at.result) (spot_at c.args.k c.args.a) c.in_ok-rest.slot c.at.ensures c.in_ok-rest.ensures.slot (λ (x : Spot × Value). x.0 ≡ keeper_at Pages → ⊥) (not_pages c.args.k c.args.a c.requires.kind)

pub make-requires-clause-room : goal.make-requires-clause-room
make-requires-clause-room c = slot_has c.args.self c.in_ok-rest.rest (spot_of_key c.at.result) (spot_at c.args.k c.args.a) c.in_ok-rest.slot c.at.ensures c.in_ok-rest.ensures.slot (λ (x : Spot × Value). HasRoomFor x.0 x.1.kept c.args.a c.args.n) c.requires.room

pub returns : goal.returns
returns c = slot_written c.args.self c.in_ok-rest.rest (spot_of_key c.at.result) (spot_at c.args.k c.args.a) c.in_ok-rest.slot c.at.ensures c.in_ok-rest.ensures.slot c.in_ok-rest.ensures.rest c.make.new.self (λ (v : Value). left_by c.args.done.caller c.args.done.event (with_block (block_at c.args.a c.args.n) v.kept) None) c.in_ok-make.ensures c.put.result c.put.ensures
