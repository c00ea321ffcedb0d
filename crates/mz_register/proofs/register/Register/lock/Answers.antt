use Rattle.std.proofs.Common.{ℕ, arith, ap, ◌∙◌}
use Rattle.mz_desk.specs.declared.view.View.{View}
use Rattle.mz_desk.specs.Views.{locked}
use Rattle.mz_register.proofs.register.Register.lock.Goals as goal

pub returns-then-try_lock-eq0-clause-locks : goal.returns-then-try_lock-eq0-clause-locks
returns-then-try_lock-eq0-clause-locks g c =
    let t = c.try_lock.ensures.tries in
    let inv = c.loop.invariant in
    record {
      from = t.from;
      clashes = c.loop.seat.me.0.clashes;
      view = t.got c.if-try_lock-eq0.true ∙ (ap (λ (i : ℕ). locked c.loop.seat.me.0 i t.from) (omega arith) ∙ ap (λ (v : View). locked v c.args.k t.from) inv.4);
      carried = t.carried ∙ inv.2;
    }
