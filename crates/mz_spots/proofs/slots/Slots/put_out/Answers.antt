use Rattle.std.proofs.Common.{ap, ◌∙◌, IsTrue}
use Rattle.std.specs.Prelude.{◌==◌}
use Rattle.std.specs.List.{list_any}
use Rattle.mz_base.specs.Lists.{blocks_in}
use Rattle.mz_events.specs.Places.{Spot, spot_of}
use Rattle.mz_events.specs.State.{Value}
use Rattle.mz_events.specs.Changes.{without_run, region_at}
use Rattle.mz_events.specs.Leaving.{left_by}
use Rattle.mz_spots.specs.Keys.{spot_of_key}
use Rattle.mz_spots.specs.SlotKinds.{IsOfRuns, duty_of_region}
use Rattle.mz_spots.proofs.SlotLemmas.{slot_has, slot_put, slot_is}
use Rattle.mz_spots.proofs.slots.Slots.put_out.Goals as goal

pub put_out-held-requires-clause-kind : goal.put_out-held-requires-clause-kind
put_out-held-requires-clause-kind c = slot_has c.args.self c.in_ok-rest.rest (spot_of_key c.of.result) (spot_of c.args.k) c.in_ok-rest.slot c.of.ensures c.in_ok-rest.ensures.slot (λ (x : Spot × Value). IsOfRuns x.0) c.requires.kind

pub put_out-held-requires-clause-there : goal.put_out-held-requires-clause-there
put_out-held-requires-clause-there c = slot_has c.args.self c.in_ok-rest.rest (spot_of_key c.of.result) (spot_of c.args.k) c.in_ok-rest.slot c.of.ensures c.in_ok-rest.ensures.slot (λ (x : Spot × Value). IsTrue (list_any (λ r. r.first == c.args.first) x.1.kept.runs)) c.requires.there

pub returns-clause-left : goal.returns-clause-left
returns-clause-left c = slot_put c.args.self c.in_ok-rest.rest (spot_of_key c.of.result) (spot_of c.args.k) c.in_ok-rest.slot c.of.ensures c.in_ok-rest.ensures.slot c.in_ok-rest.ensures.rest c.put_out-held.new.self (λ (v : Value). left_by c.args.done.caller c.args.done.event (without_run (region_at v.kept.runs c.args.first) v.kept) (duty_of_region c.args.k (without_run (region_at v.kept.runs c.args.first) v.kept))) c.put_out-held.ensures.left c.in_ok-slots.slots c.in_ok-slots.ensures

pub returns-clause-run : goal.returns-clause-run
returns-clause-run c = c.put_out-held.ensures.run ∙ ap (λ (x : Spot × Value). region_at x.1.kept.runs c.args.first) (slot_is c.args.self c.in_ok-rest.rest (spot_of_key c.of.result) (spot_of c.args.k) c.in_ok-rest.slot c.of.ensures c.in_ok-rest.ensures.slot)

pub returns-clause-blocks : goal.returns-clause-blocks
returns-clause-blocks c = c.put_out-held.ensures.blocks ∙ ap (λ (x : Spot × Value). blocks_in x.1.kept.live (region_at x.1.kept.runs c.args.first)) (slot_is c.args.self c.in_ok-rest.rest (spot_of_key c.of.result) (spot_of c.args.k) c.in_ok-rest.slot c.of.ensures c.in_ok-rest.ensures.slot)
