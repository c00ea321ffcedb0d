use Rattle.std.proofs.Common.{ap, ◌∙◌, arith}
use Rattle.mz_region.specs.Views.{RegionView}
use Rattle.mz_magazine.proofs.Rooms.{none_beyond, power_some, few_quanta, kept_on_false, room}
use Rattle.mz_magazine.proofs.member.Member.resize.Goals as goal

pub overflow_add-self : goal.overflow_add-self
overflow_add-self g c = let few = few_quanta g.row.Q g.row.N c.resize-resized.new.self c.first-first.ensures.is in omega arith

pub invariant_of-self : goal.invariant_of-self
invariant_of-self g c = (omega arith, none_beyond g.row.Q g.row.N (c.resize-resized.new.self).first (c.resize-resized.new.self).live (power_some g.row.Q (c.first-first.ensures.is).power))

pub invariant_of-self-else-resized : goal.invariant_of-self-else-resized
invariant_of-self-else-resized g c =
    let i = c.self.inside in
    let kept = c.self.invariant in
    let said = kept_on_false c.resize-resized.result _ _ c.resize-resized.ensures.resized c.if-resized.false in
    (kept.0, ap (λ (v : RegionView). room g.row.Q g.row.N v i.lacks g.row.Q) said.1 ∙ kept.1)
