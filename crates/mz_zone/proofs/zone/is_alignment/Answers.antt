use Rattle.std.proofs.Common.{subst, arith}
use Rattle.std.specs.Int.{IsPowerOfTwo}
use Rattle.std.proofs.lemmas.Bool.{eqb-true, eq-eqb}
use Rattle.mz_zone.proofs.Aligned.{power_is}
use Rattle.mz_zone.proofs.zone.is_alignment.Goals as goal

pub returns : goal.returns
returns c =
    let n = c.next_power_of_two.ensures in (
      λ h. record {
        power = subst IsPowerOfTwo (eqb-true _ _ h) n.power;
        range = (c.if-al-lt8.false, c.if-al-gt-PAGE.false);
      },
      λ a. eq-eqb _ _ (power_is c.args.al c.next_power_of_two.result (omega arith) a.power n.power n.lower_bound n.upper_bound),
    )
