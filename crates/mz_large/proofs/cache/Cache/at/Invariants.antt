use Rattle.std.proofs.Common.{◌≡◌, false}
use Rattle.std.specs.Prelude.{◌==◌}
use Rattle.std.specs.List.{AllWithin}
use Rattle.mz_ground.specs.Views.{SpanView}
use Rattle.mz_large.specs.Large.{run_of_span}
use Rattle.mz_large.proofs.cache.Cache.at.Given as goal

-- none of those before begins there
abbrev pub invariant-loop-i : goal.invariant-loop-i
invariant-loop-i l = AllWithin (λ (s : SpanView). ((run_of_span s).first == l.first) ≡ false) l.self-inside.spans.items 0 l.i
