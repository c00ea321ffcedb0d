use Rattle.std.proofs.Common.{List, cond, sym, ap, ◌∙◌}
use Rattle.mz_base.specs.Space.{block_at}
use Rattle.mz_holding.specs.declared.extent.Extent.{Extent}
use Rattle.mz_holding.specs.declared.held.Held.{Held}
use Rattle.mz_events.specs.State.{Kept}
use Rattle.mz_events.specs.Placement.{is_placed_in_magazine, is_placed_in_large}
use Rattle.mz_holding.specs.HeldRuns.{kept_in}
use Rattle.mz_holding.proofs.PlaceTests.{placed_rule}
use Rattle.mz_holding.proofs.holding.Holding.is_placed.Goals as goal

pub returns-then-is_large : goal.returns-then-is_large
returns-then-is_large c = λ s is.
    let b = block_at c.args.a c.args.n in
    c.is_placed_in_large.ensures c.self.inside.freed
    ∙ ap (λ (xs : List Held). is_placed_in_large (kept_in xs c.self.inside.freed c.deref-then-is_large.result.now) b) c.deref.ensures.value
    ∙ ap (λ (es : List Extent). is_placed_in_large (kept_in c.self.inside.runs.items c.self.inside.freed es) b) c.deref-then-is_large.ensures.value
    ∙ ap (λ (x : Kept). is_placed_in_large x b) c.self.view_is
    ∙ sym (ap (λ t. cond t (is_placed_in_large c.args.self.now b) (is_placed_in_magazine c.args.self.now b c.args.al)) (sym c.is_large.ensures ∙ c.if-is_large.true))
    ∙ placed_rule s c.args.k c.args.a c.args.n c.args.al c.args.self.now c.requires.kind is
