use Rattle.std.proofs.Common.{ℕ, ◌*◌, Option, sym, ap, ◌∙◌}
use Rattle.std.specs.Prelude.{find}
use Rattle.std.specs.Option.{option_map}
use Rattle.mz_region.specs.Views.{RegionView}
use Rattle.mz_magazine.specs.Row.{RowView, has_room_at}
use Rattle.mz_magazine.specs.Members.{live_of, region_has_room}
use Rattle.mz_magazine.proofs.Lists.{find_map}
use Rattle.mz_magazine.proofs.Rooms.{power_some}
use Rattle.mz_magazine.proofs.Order.{first_of}
use Rattle.mz_magazine.proofs.Changes.{room_each}
use Rattle.mz_magazine.proofs.row.Row.fits.Goals as goal

pub returns : goal.returns
returns g c =
    let i = c.self.inside in
    let image : Option RegionView → Option ℕ = option_map first_of in
    c.lowest_with_room.ensures ∙ ap (λ l. image (find (region_has_room (g.row.Q * g.row.N) (g.row.Q * c.args.n) c.args.al) l)) c.as_slice.ensures.value
    ∙ sym (find_map first_of (has_room_at (g.row.Q * g.row.N) (live_of i.members.items) (g.row.Q * c.args.n) c.args.al) (region_has_room (g.row.Q * g.row.N) (g.row.Q * c.args.n) c.args.al) i.members.items
    (room_each g.row.Q g.row.N c.args.n c.args.al i.members.items (c.self.invariant.0).order c.requires.quanta.0 (power_some c.args.al c.requires.power)))
    ∙ ap (λ (v : RowView). find (has_room_at (g.row.Q * g.row.N) v.live (g.row.Q * c.args.n) c.args.al) v.firsts) c.self.view_is
