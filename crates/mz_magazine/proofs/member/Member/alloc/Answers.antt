use Rattle.std.proofs.Common.{◌+◌, ◌*◌, refl, sym, ap, ◌∙◌}
use Rattle.mz_base.specs.Room.{has_room_within}
use Rattle.mz_region.specs.Views.{RegionView}
use Rattle.std.proofs.lemmas.Bool.{false≢true}
use Rattle.mz_magazine.proofs.Rooms.{power_some, none_for_more}
use Rattle.mz_magazine.proofs.member.Member.alloc.Goals as goal

pub same-self : goal.same-self
same-self g c = refl

pub same-self-then-al : goal.same-self-then-al
same-self-then-al g c = refl

pub same-self-else-al : goal.same-self-else-al
same-self-else-al g c = refl

pub returns-then-n-self-clause-served : goal.returns-then-n-self-clause-served
returns-then-n-self-clause-served g c =
    let i = c.self.inside in
    let kept = c.self.invariant in (
      refl,
      λ there. false≢true (sym (ap (λ (v : RegionView). has_room_within v.first (v.first + g.row.Q * g.row.N) v.live (g.row.Q * c.args.n) c.args.al) (sym c.self.view_is)
          ∙ none_for_more g.row.Q g.row.N i.lacks c.args.n c.args.al i.region c.first-first.ensures.is (power_some c.args.al c.requires.power) kept.0 c.if-n-self.true kept.1) ∙ there),
    )
