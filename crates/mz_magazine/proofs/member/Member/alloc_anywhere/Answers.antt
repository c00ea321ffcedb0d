use Rattle.std.proofs.Common.{◌*◌, not, sym, ap, ◌∙◌, subst}
use Rattle.mz_region.specs.Views.{RegionView, IsRegion}
use Rattle.mz_magazine.proofs.Rooms.{power_some, power_divides, lacks_kept, found_lacking, Answers, answers_below}
use Rattle.mz_magazine.proofs.member.Member.alloc_anywhere.Goals as goal

pub invariant_of-self : goal.invariant_of-self
invariant_of-self g c =
    let some = c.requires.quanta.0 in
    (some, found_lacking g.row.Q g.row.N c.args.n c.self.inside.region c.alloc-span.new.self c.alloc-span.result c.alloc-span.ensures (c.is_none.ensures ∙ ap not c.if-is_none.true))

pub invariant_of-self-else-is_none : goal.invariant_of-self-else-is_none
invariant_of-self-else-is_none g c =
    let i = c.self.inside in
    let kept = c.self.invariant in (
      kept.0,
      lacks_kept g.row.Q g.row.N i.lacks (g.row.Q * c.args.n) i.region c.alloc-span.new.self c.alloc-span.result _ _ c.alloc-span.ensures (λ none. none.0) (λ s some. some.1)
          (power_some g.row.Q (c.first-first.ensures.is).power) kept.0 kept.1,
    )

pub returns-then-is_none-clause-served : goal.returns-then-is_none-clause-served
returns-then-is_none-clause-served g c =
    let i = c.self.inside in
    let is : IsRegion g.row.Q g.row.N i.region = subst (IsRegion g.row.Q g.row.N) (sym c.self.view_is) c.requires.region in
    let whole = power_divides c.args.al g.row.Q c.requires.power is.power c.requires.range in
    subst (λ (v : RegionView). Answers g.row.Q g.row.N c.args.n c.args.al v c.alloc-span.new.self c.alloc-span.result) c.self.view_is
    (answers_below g.row.Q g.row.N c.args.n c.args.al whole.0 i.region c.alloc-span.new.self c.alloc-span.result is (power_some c.args.al c.requires.power) whole.1 c.alloc-span.ensures)

pub returns-else-is_none-clause-served : goal.returns-else-is_none-clause-served
returns-else-is_none-clause-served g c =
    let i = c.self.inside in
    let is : IsRegion g.row.Q g.row.N i.region = subst (IsRegion g.row.Q g.row.N) (sym c.self.view_is) c.requires.region in
    let whole = power_divides c.args.al g.row.Q c.requires.power is.power c.requires.range in
    subst (λ (v : RegionView). Answers g.row.Q g.row.N c.args.n c.args.al v c.alloc-span.new.self c.alloc-span.result) c.self.view_is
    (answers_below g.row.Q g.row.N c.args.n c.args.al whole.0 i.region c.alloc-span.new.self c.alloc-span.result is (power_some c.args.al c.requires.power) whole.1 c.alloc-span.ensures)
