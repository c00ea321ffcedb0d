use Rattle.std.proofs.Common.{◌≡◌, false}
use Rattle.std.specs.List.{AllWithin}
use Rattle.mz_ground.specs.Views.{SpanView}
use Rattle.mz_events.specs.Separation.{has_page}
use Rattle.mz_large.specs.Large.{run_of_span}
use Rattle.mz_large.proofs.cache.Cache.holding.Given as goal

-- none of those before has the page
abbrev pub invariant-loop-i : goal.invariant-loop-i
invariant-loop-i l = AllWithin (λ (s : SpanView). has_page (run_of_span s) l.page ≡ false) l.self-inside.spans.items 0 l.i
