use Rattle.std.proofs.Common.{ap, lit<}
use Rattle.mz_ground.proofs.Grounds.{quantum_at, quanta_of, quanta_here}
use Rattle.mz_ground.proofs.ground.Ground.give_back.Goals as goal

pub put_back-requires : goal.put_back-requires
put_back-requires g c =
    let i = c.self.inside in
    let Q = g.row.Q in
    let a = ap (λ v. v.first) c.self.view_is in
    let first = quantum_at Q _ _ c.first.result i.first c.self.invariant.filled c.first.ensures.value a c.requires.above c.requires.at_quantum in
    let long = quanta_of Q _ c.len.result c.self.invariant.filled c.len.ensures.value c.requires.whole in
    (lit< tt, (c.requires.space, (first, (long, quanta_here Q _ _ _ _ _ _ c.self.invariant.filled first long c.requires.below))))
