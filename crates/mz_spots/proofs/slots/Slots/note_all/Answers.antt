use Rattle.std.proofs.Common.{sym, ◌∙◌, arith}
use Rattle.mz_events.specs.Places.{Spot}
use Rattle.mz_events.specs.State.{look_up}
use Rattle.mz_events.specs.Leaving.{left_by}
use Rattle.mz_spots.proofs.SlotLemmas.{noted_on, all_written}
use Rattle.mz_spots.proofs.slots.Slots.note_all.Goals as goal

pub loop-i-preserved : goal.loop-i-preserved
loop-i-preserved c =
    let r = noted_on c.args.done.caller c.args.done.event c.args.duty c.args.keys.now c.args.self c.loop-i.slots c.in_ok-slots.slots c.loop-i.i _ c.loop-i-test.true c.loop-i.invariant.kept c.in_ok-slots.ensures in
    record { kept = r.0; written = c.loop-i.invariant.written ∙ r.1 }

pub returns : goal.returns
returns c = sym (c.loop-i.invariant.written ∙ all_written (λ (j : Spot). left_by c.args.done.caller c.args.done.event (look_up c.args.self j).kept c.args.duty) c.args.keys.now c.loop-i.slots c.loop-i.i (let over = c.loop-i-test.false in omega arith))
