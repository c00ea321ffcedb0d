use Rattle.std.proofs.Common.{◌≡◌, refl, IsTrue, None}
use Rattle.std.specs.List.{list_all}
use Rattle.mz_base.specs.Space.{run_at, runs_apart}
use Rattle.mz_events.specs.declared.place.Place.TheVariants.{Pages}
use Rattle.mz_events.specs.Places.{Spot, keeper_at}
use Rattle.mz_events.specs.State.{Value}
use Rattle.mz_events.specs.Changes.{pages_without}
use Rattle.mz_events.specs.Leaving.{left_by}
use Rattle.mz_spots.proofs.SlotLemmas.{slot_has, slot_written}
use Rattle.mz_spots.proofs.slots.Slots.lend.Goals as goal

pub lend-requires-clause-kind : goal.lend-requires-clause-kind
lend-requires-clause-kind c = slot_has c.args.self c.in_ok-rest.rest (keeper_at Pages) (keeper_at Pages) c.in_ok-rest.slot refl c.in_ok-rest.ensures.slot (λ (x : Spot × Value). x.0 ≡ keeper_at Pages) refl

pub lend-requires-clause-apart : goal.lend-requires-clause-apart
lend-requires-clause-apart c = slot_has c.args.self c.in_ok-rest.rest (keeper_at Pages) (keeper_at Pages) c.in_ok-rest.slot refl c.in_ok-rest.ensures.slot (λ (x : Spot × Value). IsTrue (list_all (λ t. runs_apart t (run_at c.args.first c.args.pages)) x.1.kept.taken)) c.requires.apart

pub returns : goal.returns
returns c = slot_written c.args.self c.in_ok-rest.rest (keeper_at Pages) (keeper_at Pages) c.in_ok-rest.slot refl c.in_ok-rest.ensures.slot c.in_ok-rest.ensures.rest c.lend.new.self (λ (v : Value). left_by c.args.done.caller c.args.done.event (pages_without c.args.q (run_at c.args.first c.args.pages) v.kept) None) c.in_ok-lend.ensures c.put.result c.put.ensures
