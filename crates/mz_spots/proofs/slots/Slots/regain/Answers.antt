use Rattle.std.proofs.Common.{◌≡◌, refl, None}
use Rattle.mz_base.specs.Space.{run_at}
use Rattle.mz_events.specs.declared.place.Place.TheVariants.{Pages}
use Rattle.mz_events.specs.Places.{Spot, keeper_at}
use Rattle.mz_events.specs.State.{Value}
use Rattle.mz_events.specs.Changes.{pages_with}
use Rattle.mz_events.specs.Leaving.{left_by}
use Rattle.mz_spots.proofs.SlotLemmas.{slot_has, slot_written}
use Rattle.mz_spots.proofs.slots.Slots.regain.Goals as goal

pub regain-requires : goal.regain-requires
regain-requires c = slot_has c.args.self c.in_ok-rest.rest (keeper_at Pages) (keeper_at Pages) c.in_ok-rest.slot refl c.in_ok-rest.ensures.slot (λ (x : Spot × Value). x.0 ≡ keeper_at Pages) refl

pub returns : goal.returns
returns c = slot_written c.args.self c.in_ok-rest.rest (keeper_at Pages) (keeper_at Pages) c.in_ok-rest.slot refl c.in_ok-rest.ensures.slot c.in_ok-rest.ensures.rest c.regain.new.self (λ (v : Value). left_by c.args.done.caller c.args.done.event (pages_with c.args.q (run_at c.args.first c.args.pages) v.kept) None) c.regain.ensures c.put.result c.put.ensures
