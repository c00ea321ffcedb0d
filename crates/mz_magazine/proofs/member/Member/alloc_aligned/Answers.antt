use Rattle.std.proofs.Common.{◌*◌, subst}
use Rattle.mz_region.specs.Views.{RegionView}
use Rattle.mz_magazine.proofs.Rooms.{power_some, lacks_kept, Answers}
use Rattle.mz_magazine.proofs.member.Member.alloc_aligned.Goals as goal

pub invariant_of-self : goal.invariant_of-self
invariant_of-self g c =
    let i = c.self.inside in
    let kept = c.self.invariant in (
      kept.0,
      lacks_kept g.row.Q g.row.N i.lacks (g.row.Q * c.args.n) i.region c.alloc_aligned-span.new.self c.alloc_aligned-span.result _ _ c.alloc_aligned-span.ensures (λ none. none.0) (λ s some. some.1)
          (power_some g.row.Q (c.first-first.ensures.is).power) kept.0 kept.1,
    )

pub returns-clause-served : goal.returns-clause-served
returns-clause-served g c =
    subst (λ (v : RegionView). Answers g.row.Q g.row.N c.args.n c.args.al v c.alloc_aligned-span.new.self c.alloc_aligned-span.result) c.self.view_is c.alloc_aligned-span.ensures
