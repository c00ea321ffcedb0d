use Rattle.std.proofs.Common.{sym, subst}
use Rattle.mz_zone.specs.Calling.{IsHandedIn}
use Rattle.mz_zone_tests.proofs.Tested.{handed_marked}
use Rattle.mz_zone_tests.proofs.steps.marked.Goals as goal

pub returns : goal.returns
returns c = λ v h. subst (λ b. IsHandedIn v b) (sym c.write_mark.ensures) (handed_marked v c.args.block _ h)
