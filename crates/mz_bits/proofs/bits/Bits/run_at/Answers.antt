use Rattle.std.proofs.Common.{◌-◌, ◌<◌, ◌^◌, false, ap, ◌∙◌, arith}
use Rattle.mz_bits.proofs.ViewLemmas.{run_in_view}
use Rattle.mz_bits.proofs.bits.Bits.run_at.Goals as goal

pub returns : goal.returns
returns c =
    let i = c.self.inside in
    let room = c.self.invariant.room in
    let small = c.self.invariant.small in
    let fits : i.len < 2 ^ 64 = omega arith in
    run_in_view false i.words.items c.as_slice.result.now c.args.self.now i.len c.args.i c.args.max c.min-end.result c.saturating_sub.result c.next_in.result c.as_slice.ensures.value c.self.view_is fits (omega arith) c.next_in.ensures (c.saturating_sub.ensures ∙ ap (λ q. q - c.args.i) c.unwrap_or-next.ensures)
