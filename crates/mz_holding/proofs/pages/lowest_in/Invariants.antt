use Rattle.std.proofs.Common.{◌≡◌, true, drop}
use Rattle.mz_holding.specs.TakenPages.{are_orderly, lowest_between}
use Rattle.mz_holding.proofs.pages.lowest_in.Given as goal

abbrev pub invariant-loop-run : goal.invariant-loop-run
invariant-loop-run l = record {
  orderly : are_orderly l.x (drop l.run-index l.taken) ≡ true;
  rest : lowest_between l.top l.w l.al 0 l.taken ≡ lowest_between l.top l.w l.al l.x (drop l.run-index l.taken);
}
