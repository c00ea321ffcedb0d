use Rattle.std.proofs.Common.{◌≡◌, true, take}
use Rattle.std.specs.List.{list_all}
use Rattle.mz_trace.specs.TailTexts.{listed_fits}
use Rattle.mz_run.proofs.told.listing.Given as goal

abbrev pub invariant-loop-l : goal.invariant-loop-l
invariant-loop-l l = list_all listed_fits (take l.l-index l.list) ≡ true
