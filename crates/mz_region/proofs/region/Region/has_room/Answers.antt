use Rattle.std.proofs.Common.{sym, ◌∙◌}
use Rattle.mz_region.proofs.RoomLemmas.{found_is_room}
use Rattle.mz_region.proofs.region.Region.has_room.Goals as goal

pub returns : goal.returns
returns g c = c.is_some.ensures ∙ sym (found_is_room g.row.Q g.row.N g.row.Q c.args.n c.args.self.now c.front_of_room.result c.front_of_room.ensures)
