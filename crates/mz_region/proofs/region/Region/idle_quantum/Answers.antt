use Rattle.std.proofs.Common.{◌+◌, ◌-◌, ◌*◌, ◌/◌, sym, ap, ◌∙◌, arith}
use Rattle.mz_base.specs.Room.{is_idle}
use Rattle.mz_region.specs.Views.{RegionView}
use Rattle.mz_region.proofs.Kept.{test_from_bits, bits_from_test, run_whole, run_short, quantum_of, quantum_aligned}
use Rattle.mz_region.proofs.region.Region.idle_quantum.Goals as goal

pub returns-then-run_at-n : goal.returns-then-run_at-n
returns-then-run_at-n g c =
    let i = c.self.inside in
    let held = c.self.invariant in
    let above = c.if-a-self.false in
    let at = quantum_of g.row.Q i.first c.args.a held.power (quantum_aligned g.row.Q g.row.N i.first held.at) c.requires.at above in
    let equal = c.if-run_at-n.true in
    let some = c.requires.quanta.0 in
    let whole = run_whole i.in_use ((c.args.a - i.first) / g.row.Q) c.args.n c.run_at.result some c.run_at.ensures (omega arith) in
    let long = held.quanta in (
      sym (ap (λ (v : RegionView). is_idle v.first (v.first + g.row.Q * g.row.N) v.live c.args.a (c.args.a + g.row.Q * c.args.n)) c.self.view_is)
          ∙ test_from_bits g.row.Q g.row.N i.first i.begins i.in_use i.ground i.live_bytes i.count held ((c.args.a - i.first) / g.row.Q) c.args.n c.args.a at some (omega (arith, whole.0)) whole.1,
      at ∙ ap (λ (v : RegionView). v.first + g.row.Q * ((c.args.a - i.first) / g.row.Q)) c.self.view_is,
    )

pub returns-else-run_at-n : goal.returns-else-run_at-n
returns-else-run_at-n g c =
    let i = c.self.inside in
    let held = c.self.invariant in
    let above = c.if-a-self.false in
    let at = quantum_of g.row.Q i.first c.args.a held.power (quantum_aligned g.row.Q g.row.N i.first held.at) c.requires.at above in
    λ idle.
    let bits = bits_from_test g.row.Q g.row.N i.first i.begins i.in_use i.ground i.live_bytes i.count held ((c.args.a - i.first) / g.row.Q) c.args.n c.args.a at
    (ap (λ (v : RegionView). is_idle v.first (v.first + g.row.Q * g.row.N) v.live c.args.a (c.args.a + g.row.Q * c.args.n)) c.self.view_is ∙ idle) in
    let there = bits.0 in
    let long = held.quanta in
    let other = c.if-run_at-n.false in
    let limit = c.run_at.ensures.limit in
    run_short i.in_use ((c.args.a - i.first) / g.row.Q) c.args.n c.run_at.result c.run_at.ensures (omega arith) (omega arith) bits.1
