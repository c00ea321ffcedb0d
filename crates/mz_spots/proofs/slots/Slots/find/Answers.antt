use Rattle.std.proofs.Common.{sym, ap, ◌∙◌, Some}
use Rattle.std.specs.Option.{option_map}
use Rattle.mz_events.specs.Places.{Spot}
use Rattle.mz_events.specs.State.{Value, blank}
use Rattle.mz_spots.specs.Keys.{spot_of_key}
use Rattle.mz_spots.proofs.IndexLemmas.{place_some, found_none}
use Rattle.mz_spots.proofs.slots.Slots.find.Goals as goal

pub returns-in_err-i : goal.returns-in_err-i
returns-in_err-i c = ap (option_map (λ s. s.now)) c.from_residual.ensures ∙ sym (found_none (spot_of_key c.args.key) c.args.self.now (sym c.in_err-i.ensures))

pub at-requires : goal.at-requires
at-requires c =
    let d : Spot × Value = (spot_of_key c.args.key, blank) in
    (place_some (spot_of_key c.args.key) c.args.self.now c.in_ok-i.i d (sym c.in_ok-i.ensures)).0

pub returns : goal.returns
returns c =
    ap (λ (x : Spot × Value). Some x) (c.at.ensures c.at.result.now)
    ∙ sym (place_some (spot_of_key c.args.key) c.args.self.now c.in_ok-i.i c.at.result.now (sym c.in_ok-i.ensures)).3
