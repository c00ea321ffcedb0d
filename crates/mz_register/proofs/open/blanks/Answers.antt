use Rattle.std.proofs.Common.{[], ◌∷◌, length, arith, sym, ap, subst, length-append}
use Rattle.mz_register.specs.Opened.{AreBlank}
use Rattle.mz_register.proofs.OpenLemmas.{blank_more}
use Rattle.mz_register.proofs.open.blanks.Goals as goal

pub loop-preserved : goal.loop-preserved
loop-preserved c =
    let inv = c.loop.invariant in
    let e = c.in_ok-push.ensures.items in
    record {
      count = let n = ap length e in let a = length-append c.loop.blanks.items (c.in_ok-blank.blank ∷ []) in let i = inv.count in omega arith;
      blank = subst (AreBlank c.args.keepers) (sym e) (blank_more c.args.keepers c.loop.blanks.items c.in_ok-blank.blank inv.blank record { empty = c.in_ok-blank.ensures.items; room = c.in_ok-blank.ensures.capacity });
    }
