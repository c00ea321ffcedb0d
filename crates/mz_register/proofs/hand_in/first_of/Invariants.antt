use Rattle.std.proofs.Common.{◌≡◌, ℕ, ◌<◌, Some}
use Rattle.std.specs.Prelude.{slice_get}
use Rattle.mz_register.specs.declared.pass.Pass.{Pass}
use Rattle.mz_register.proofs.hand_in.first_of.Given as goal

abbrev pub invariant-loop-i : goal.invariant-loop-i
invariant-loop-i g l = (j : ℕ) (x : Pass g.row.V.Denot) → j < l.i → slice_get l.passes j ≡ Some x → x.caller ≡ 0 → ⊥
