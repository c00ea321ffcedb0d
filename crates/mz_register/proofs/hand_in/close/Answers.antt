use Rattle.std.proofs.Common.{ℕ, List, subst}
use Rattle.mz_desk.specs.Keys.{opened_as}
use Rattle.mz_desk.specs.Ending.{Ended}
use Rattle.mz_register.proofs.hand_in.close.Goals as goal

pub returns : goal.returns
returns g c =
    let key = opened_as g.V.Keep.keeping c.args.table.shared.key in
    let v = c.args.seat.me.0 in
    let closed = c.close_with.result in
    let values = c.close_with.ensures.values in
    let f = values.2 in
    record {
      words = c.close_with.ensures.counts.0;
      slots = c.close_with.ensures.counts.1;
      full = (values.0, values.1);
      homes = f.0.homes;
      ended = subst (λ (ws : List ℕ). Ended g.V.Keep.keeping key v ws f.0.homes) f.2 (c.end.ensures key f.0 c.args.seat.id v f.1.0 f.1.1 c.requires.all);
      count = f.3;
      same = f.4;
    }
