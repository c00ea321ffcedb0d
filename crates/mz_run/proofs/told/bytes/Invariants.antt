use Rattle.std.proofs.Common.{◌≡◌, true, take}
use Rattle.std.specs.List.{list_all}
use Rattle.mz_words.specs.Numbers.{is_from}
use Rattle.mz_run.proofs.told.bytes.Given as goal

abbrev pub invariant-loop-b : goal.invariant-loop-b
invariant-loop-b l = list_all (is_from 0 255) (take l.b-index l.all) ≡ true
