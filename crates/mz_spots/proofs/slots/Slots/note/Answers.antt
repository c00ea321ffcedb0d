use Rattle.std.proofs.Common.{refl}
use Rattle.mz_events.specs.State.{Value}
use Rattle.mz_events.specs.Leaving.{left_by}
use Rattle.mz_spots.specs.Keys.{spot_of_key}
use Rattle.mz_spots.proofs.SlotLemmas.{slot_written}
use Rattle.mz_spots.proofs.slots.Slots.note.Goals as goal

pub returns : goal.returns
returns c = slot_written c.args.self c.in_ok-rest.rest (spot_of_key c.args.key) (spot_of_key c.args.key) c.in_ok-rest.slot refl c.in_ok-rest.ensures.slot c.in_ok-rest.ensures.rest c.note.new.self (λ (v : Value). left_by c.args.done.caller c.args.done.event v.kept c.args.duty) c.note.ensures c.put.result c.put.ensures
