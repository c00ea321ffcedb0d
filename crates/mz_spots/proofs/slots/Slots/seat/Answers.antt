use Rattle.std.proofs.Common.{sym, ap, ◌∙◌, length}
use Rattle.mz_spots.specs.Keys.{spot_of_key}
use Rattle.mz_spots.proofs.IndexLemmas.{place_none, slot_placed}
use Rattle.mz_spots.proofs.SlotLemmas.{slot_made}
use Rattle.mz_spots.proofs.slots.Slots.seat.Goals as goal

pub returns-in-Some : goal.returns-in-Some
returns-in-Some c = slot_placed (spot_of_key c.args.key) c.args.self c.in-Some.i (sym c.in-Some.ensures)

pub returns-in_ok-slots-in-None : goal.returns-in_ok-slots-in-None
returns-in_ok-slots-in-None c =
    let j = spot_of_key c.args.key in
    slot_made j c.args.self c.in_ok-slots-in-None.slots (length c.list-i.result.now) (ap length c.list-i.ensures) c.in_ok-slots-in-None.ensures (place_none j c.args.self (sym c.place_of.ensures ∙ c.in-None.is))
