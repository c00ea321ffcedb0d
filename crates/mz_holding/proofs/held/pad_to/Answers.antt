use Rattle.std.proofs.Common.{◌≡◌, ap, ◌∙◌, arith, ◌+◌, ◌-◌, ◌%◌}
use Rattle.std.proofs.Math.Nat.{mod-lt}
use Rattle.mz_holding.proofs.HeldLemmas.{pad_is, pad_over}
use Rattle.mz_holding.proofs.held.pad_to.Goals as goal

pub returns-then-over-eq0 : goal.returns-then-over-eq0
returns-then-over-eq0 c =
    let whole = c.requires in
    let none : c.args.x + 0 ≡ c.args.x = omega arith in
    pad_is c.args.al c.args.x 0 c.requires (ap (λ y. y % c.args.al) none ∙ c.if-over-eq0.true) (omega arith)

pub returns-else-over-eq0 : goal.returns-else-over-eq0
returns-else-over-eq0 c =
    let over = c.if-over-eq0.false in
    let less = mod-lt c.args.x c.requires in
    pad_is c.args.al c.args.x (c.args.al - c.args.x % c.args.al) c.requires (pad_over c.args.al c.args.x c.requires) (omega arith)
