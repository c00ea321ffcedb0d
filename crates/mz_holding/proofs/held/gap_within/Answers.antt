use Rattle.std.proofs.Common.{◌+◌, ◌*◌, ◌≤◌, subst, sym, arith}
use Rattle.std.specs.Prelude.{max}
use Rattle.mz_holding.specs.Gaps.{IsGap, far}
use Rattle.mz_holding.specs.LiveBlocks.{live_of}
use Rattle.mz_holding.proofs.HeldLemmas.{clip}
use Rattle.mz_holding.proofs.held.gap_within.Goals as goal

pub returns-clause-gap : goal.returns-clause-gap
returns-clause-gap c =
    let start = c.args.first * 16384 in
    let end = (c.args.first + c.args.pages) * 16384 in
    let limit = c.requires in
    let live = live_of c.args.blocks.now in
    let top : (c.args.first + c.args.pages) * 16384 ≤ far = omega arith in
    subst (λ l. IsGap start end live c.args.a l c.min.result) (sym c.max.ensures)
    (subst (λ t. IsGap start end live c.args.a (max c.gap-low.result.0 start) t) (sym c.min.ensures)
    (clip start end live c.args.a c.gap-low.result.0 c.gap-low.result.1 top c.gap-low.ensures))
