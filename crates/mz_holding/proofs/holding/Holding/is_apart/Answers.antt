use Rattle.std.proofs.Common.{List, sym, ap, ◌∙◌}
use Rattle.std.specs.Prelude.{◌&&◌}
use Rattle.mz_holding.specs.declared.held.Held.{Held}
use Rattle.mz_events.specs.State.{Kept}
use Rattle.mz_holding.specs.HeldRuns.{kept_in}
use Rattle.mz_holding.proofs.PlaceTests.{new_extent, clear_in, new_rule}
use Rattle.mz_holding.proofs.holding.Holding.is_apart.Goals as goal

pub returns-clause-rule : goal.returns-clause-rule
returns-clause-rule c = λ p s is.
    c.is_clear.ensures ∙ ap (λ (xs : List Held). clear_in (kept_in xs c.self.inside.freed c.self.inside.cached.items) c.args.a c.args.n) c.deref.ensures.value
    ∙ sym (ap (λ t. t && clear_in (kept_in c.self.inside.runs.items c.self.inside.freed c.self.inside.cached.items) c.args.a c.args.n) (sym c.is_new_extent.ensures ∙ c.if-not-is_new_extent.false))
    ∙ ap (λ (x : Kept). new_extent c.args.k c.args.a c.args.n c.args.al && clear_in x c.args.a c.args.n) c.self.view_is
    ∙ new_rule p s c.args.k c.args.a c.args.n c.args.al c.args.self.now c.requires is
