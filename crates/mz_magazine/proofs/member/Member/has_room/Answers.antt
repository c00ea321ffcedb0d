use Rattle.std.proofs.Common.{◌+◌, ◌*◌, sym, ap, ◌∙◌}
use Rattle.mz_region.specs.Views.{RegionView}
use Rattle.mz_base.specs.Room.{has_room_within}
use Rattle.mz_magazine.proofs.Rooms.{none_for_more, same_room, power_divides, power_some}
use Rattle.mz_magazine.proofs.member.Member.has_room.Goals as goal

pub returns-then-n-self : goal.returns-then-n-self
returns-then-n-self g c =
    let i = c.self.inside in
    let kept = c.self.invariant in
    sym (ap (λ (v : RegionView). has_room_within v.first (v.first + g.row.Q * g.row.N) v.live (g.row.Q * c.args.n) c.args.al) (sym c.self.view_is)
    ∙ none_for_more g.row.Q g.row.N i.lacks c.args.n c.args.al i.region c.first-first.ensures.is (power_some c.args.al c.requires.power) kept.0 c.if-n-self.true kept.1)

pub returns-then-al : goal.returns-then-al
returns-then-al g c = c.has_room_at.ensures ∙ ap (λ (v : RegionView). has_room_within v.first (v.first + g.row.Q * g.row.N) v.live (g.row.Q * c.args.n) c.args.al) c.self.view_is

pub returns-else-al : goal.returns-else-al
returns-else-al g c =
    let i = c.self.inside in
    let is = c.first-first.ensures.is in
    let whole = power_divides c.args.al g.row.Q c.requires.power is.power c.if-al.false in
    c.has_room.ensures ∙ sym (same_room g.row.Q g.row.N c.args.al whole.0 (g.row.Q * c.args.n) i.region is (power_some c.args.al c.requires.power) whole.1)
    ∙ ap (λ (v : RegionView). has_room_within v.first (v.first + g.row.Q * g.row.N) v.live (g.row.Q * c.args.n) c.args.al) c.self.view_is
