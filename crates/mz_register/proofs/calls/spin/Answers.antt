use Rattle.std.proofs.Common.{ap, ◌∙◌, arith}
use Rattle.atomic_table.specs.Table.{turned}
use Rattle.mz_register.proofs.Carried.{turn_next}
use Rattle.mz_register.proofs.calls.spin.Goals as goal

pub loop-i-preserved : goal.loop-i-preserved
loop-i-preserved g c =
    let v = c.loop-i.invariant in
    let t = c.turn.ensures in
    let old = c.args.seat.now.me.1 in
    record {
      table = t.0 ∙ v.table;
      view = ap (λ m. m.0) t.2 ∙ v.view;
      carried = ap (λ m. m.1) t.2 ∙ (ap turned v.carried ∙ turn_next old c.loop-i.i (let r = c.requires in omega arith));
    }
