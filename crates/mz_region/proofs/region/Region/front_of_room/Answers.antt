use Rattle.std.proofs.Common.{◌≡◌, ◌*◌, ◌/◌, ◌≤◌, arith}
use Rattle.std.proofs.Math.Nat.{mul-le-mul_right}
use Rattle.std.proofs.lemmas.Nat.{div-add-mod'}
use Rattle.mz_region.proofs.Kept.{quantum_aligned, step_of, some_bytes}
use Rattle.mz_region.proofs.RoomLemmas.{front_of_view}
use Rattle.mz_region.proofs.region.Region.front_of_room.Goals as goal

pub front_of_room-requires : goal.front_of_room-requires
front_of_room-requires g c =
    let i = c.self.inside in
    let held = c.self.invariant in
    let step = step_of g.row.Q c.args.al held.power c.requires.multiple in
    let some = some_bytes g.row.Q g.row.N i.first i.begins i.in_use i.ground i.live_bytes i.count held in
    let at : i.first ≡ g.row.Q * (i.first / g.row.Q) = let aligned = quantum_aligned g.row.Q g.row.N i.first held.at in omega (arith, div-add-mod' i.first g.row.Q) in
    let low : 1 * (i.first / g.row.Q) ≤ g.row.Q * (i.first / g.row.Q) = mul-le-mul_right (i.first / g.row.Q) some in
    let long : 1 * g.row.N ≤ g.row.Q * g.row.N = mul-le-mul_right g.row.N some in
    let inside = held.inside in
    let small = held.small in
    let count = held.quanta in
    let few = c.requires.quanta.1 in
    record { some = c.requires.quanta.0; step = step.0.0; small = omega (arith, step.0.1) }

pub returns : goal.returns
returns g c =
    let i = c.self.inside in
    let held = c.self.invariant in
    let aligned = quantum_aligned g.row.Q g.row.N i.first held.at in
    let at : i.first ≡ g.row.Q * (i.first / g.row.Q) = omega (arith, div-add-mod' i.first g.row.Q) in
    let step = step_of g.row.Q c.args.al held.power c.requires.multiple in
    front_of_view g.row.Q g.row.N i.first i.begins i.in_use i.ground i.live_bytes i.count held c.args.self.now (i.first / g.row.Q) (c.args.al / g.row.Q) c.args.al c.args.n c.self.view_is at step.0.0 c.requires.quanta.0 step.1
    c.front_of_room.result c.front_of_room.ensures
