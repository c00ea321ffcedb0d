use Rattle.std.proofs.Common.{◌≡◌, false, sym, ap, ◌∙◌, arith}
use Rattle.mz_region.specs.Views.{RegionView}
use Rattle.mz_magazine.proofs.Rooms.{none_beyond, power_some, few_quanta, kept_on_error, room}
use Rattle.mz_magazine.proofs.member.Member.free.Goals as goal

pub overflow_add-self : goal.overflow_add-self
overflow_add-self g c = let few = few_quanta g.row.Q g.row.N c.free-freed.new.self c.first-first.ensures.is in omega arith

pub invariant_of-self : goal.invariant_of-self
invariant_of-self g c = (omega arith, none_beyond g.row.Q g.row.N (c.free-freed.new.self).first (c.free-freed.new.self).live (power_some g.row.Q (c.first-first.ensures.is).power))

pub invariant_of-self-else-is_ok : goal.invariant_of-self-else-is_ok
invariant_of-self-else-is_ok g c =
    let i = c.self.inside in
    let kept = c.self.invariant in (
      kept.0,
      kept_on_error c.free-freed.result _ _ (room g.row.Q g.row.N c.free-freed.new.self i.lacks g.row.Q ≡ false) c.free-freed.ensures (sym c.is_ok.ensures.value ∙ c.if-is_ok.false)
          (λ t said. ap (λ (v : RegionView). room g.row.Q g.row.N v i.lacks g.row.Q) said.1 ∙ kept.1),
    )
