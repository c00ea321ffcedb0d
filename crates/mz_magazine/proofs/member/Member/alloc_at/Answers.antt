use Rattle.std.proofs.Common.{◌*◌}
use Rattle.mz_magazine.proofs.Rooms.{power_some, lacks_kept}
use Rattle.mz_magazine.proofs.member.Member.alloc_at.Goals as goal

pub invariant_of-self : goal.invariant_of-self
invariant_of-self g c =
    let i = c.self.inside in
    let kept = c.self.invariant in (
      kept.0,
      lacks_kept g.row.Q g.row.N i.lacks (g.row.Q * c.args.n) i.region c.alloc_at-span.new.self c.alloc_at-span.result _ _ c.alloc_at-span.ensures (λ none. none.0) (λ s some. some.2)
          (power_some g.row.Q (c.first-first.ensures.is).power) kept.0 kept.1,
    )
