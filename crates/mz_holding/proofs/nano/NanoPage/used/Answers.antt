use Rattle.std.proofs.Common.{◌<◌, ◌*◌, ap, ◌∙◌}
use Rattle.mz_base.specs.Lists.{size_sum}
use Rattle.mz_events.specs.State.{Kept}
use Rattle.mz_holding.specs.LiveBlocks.{live_of}
use Rattle.mz_holding.proofs.NanoLemmas.{sum_of_size, told}
use Rattle.mz_holding.proofs.nano.NanoPage.used.Goals as goal

pub returns : goal.returns
returns c =
    told c.checked_mul.result (c.len.result * c.self.inside.size < 18446744073709551616) (c.len.result * c.self.inside.size) (size_sum c.args.self.now.live) c.checked_mul.ensures
    (ap (λ n. n * c.self.inside.size) c.len.ensures ∙ sum_of_size c.self.inside.size (live_of c.self.inside.blocks) c.self.invariant ∙ ap (λ (k : Kept). size_sum k.live) c.self.view_is)
