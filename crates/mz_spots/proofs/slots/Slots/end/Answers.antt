use Rattle.std.proofs.Common.{◌≡◌, refl, IsTrue}
use Rattle.mz_base.specs.Space.{block_at}
use Rattle.mz_base.specs.Lists.{has_block}
use Rattle.mz_events.specs.Places.{Spot, spot_at}
use Rattle.mz_events.specs.State.{Value}
use Rattle.mz_events.specs.Changes.{without_block}
use Rattle.mz_events.specs.Duties.{duty_of_end}
use Rattle.mz_events.specs.Leaving.{left_by}
use Rattle.mz_spots.specs.Keys.{spot_of_key}
use Rattle.mz_spots.proofs.SlotLemmas.{slot_has, slot_written}
use Rattle.mz_spots.proofs.slots.Slots.end.Goals as goal

pub end-requires-clause-at : goal.end-requires-clause-at
end-requires-clause-at c = slot_has c.args.self c.in_ok-rest.rest (spot_of_key c.at.result) (spot_at c.args.k c.args.a) c.in_ok-rest.slot c.at.ensures c.in_ok-rest.ensures.slot (λ (x : Spot × Value). x.0 ≡ spot_at c.args.k c.args.a) refl

pub end-requires-clause-live : goal.end-requires-clause-live
end-requires-clause-live c = slot_has c.args.self c.in_ok-rest.rest (spot_of_key c.at.result) (spot_at c.args.k c.args.a) c.in_ok-rest.slot c.at.ensures c.in_ok-rest.ensures.slot (λ (x : Spot × Value). IsTrue (has_block x.1.kept.live (block_at c.args.a c.args.n))) c.requires.live

pub returns : goal.returns
returns c = slot_written c.args.self c.in_ok-rest.rest (spot_of_key c.at.result) (spot_at c.args.k c.args.a) c.in_ok-rest.slot c.at.ensures c.in_ok-rest.ensures.slot c.in_ok-rest.ensures.rest c.end.new.self (λ (v : Value). left_by c.args.done.caller c.args.done.event (without_block c.args.k (block_at c.args.a c.args.n) v.kept) (duty_of_end c.args.k (without_block c.args.k (block_at c.args.a c.args.n) v.kept))) c.in_ok-end.ensures c.put.result c.put.ensures
