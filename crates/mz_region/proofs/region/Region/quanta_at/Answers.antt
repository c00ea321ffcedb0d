use Rattle.std.proofs.Common.{◌≡◌, ◌+◌, ◌-◌, ◌*◌, ◌/◌, ◌≤◌, drop, get_or, true, false, sym, ap, ◌∙◌, subst, add-one, arith}
use Rattle.std.proofs.Math.Nat.{mul-le-mul_left}
use Rattle.mz_base.specs.Lists.{size_at}
use Rattle.mz_region.specs.Views.{RegionView, IsRegion}
use Rattle.mz_region.specs.Quanta.{rest_of}
use Rattle.mz_region.proofs.Runs.{read}
use Rattle.mz_region.proofs.Blocks.{two, block_quanta, block_within}
use Rattle.mz_region.proofs.Kept.{region_is, all_small, begun_size, none_at, quantum_is, quantum_from, some_bytes, same_length}
use Rattle.mz_region.proofs.region.Region.quanta_at.Goals as goal
use Rattle.mz_region.proofs.region.Region.quanta_at.Goals.{then-behind-ne0-via-then-behind-ne0, then-behind-ne0-via-else-behind-ne0+then-q, then-behind-ne0-via-else-behind-ne0+else-q+then-not-get}

pub returns-then-a-self-clause-found : goal.returns-then-a-self-clause-found
returns-then-a-self-clause-found g c =
    let i = c.self.inside in
    let below = c.if-a-self.true in
    none_at g.row.Q i.first i.begins i.in_use i.ground.space c.args.self.now c.args.a c.self.view_is (λ q at low begun. omega arith)

pub get-requires : goal.get-requires
get-requires g c =
    let i = c.self.inside in
    let held = c.self.invariant in
    let long = same_length g.row.Q g.row.N i.first i.begins i.in_use i.ground i.live_bytes i.count held in
    let low = c.if-q.false in
    omega arith

pub returns-then-behind-ne0-clause-found : goal.returns-then-behind-ne0-clause-found
returns-then-behind-ne0-clause-found g c =
    let i = c.self.inside in
    let held = c.self.invariant in
    let some = some_bytes g.row.Q g.row.N i.first i.begins i.in_use i.ground i.live_bytes i.count held in
    let long = same_length g.row.Q g.row.N i.first i.begins i.in_use i.ground i.live_bytes i.count held in
    none_at g.row.Q i.first i.begins i.in_use i.ground.space c.args.self.now c.args.a c.self.view_is (λ q at low begun.
    let is = quantum_is g.row.Q i.first c.args.a q some at in
    elim c.then-behind-ne0.branch [
      | then-behind-ne0-via-then-behind-ne0 w ↦ w.if-behind-ne0.true is.0
      | then-behind-ne0-via-else-behind-ne0+then-q w ↦ let high = w.if-q.true in let same = is.1 in omega arith
      | then-behind-ne0-via-else-behind-ne0+else-q+then-not-get w ↦
          let same = is.1 in
          two (sym begun ∙ ap (λ k. get_or i.begins k false) (sym same) ∙ read i.begins ((c.args.a - i.first) / g.row.Q) false (omega arith) w.if-not-get.ensures)
    ])

pub block_len-requires-clause-same : goal.block_len-requires-clause-same
block_len-requires-clause-same g c =
    let i = c.self.inside in
    let held = c.self.invariant in
    let long = same_length g.row.Q g.row.N i.first i.begins i.in_use i.ground i.live_bytes i.count held in
    long ∙ sym held.quanta

pub returns-clause-found : goal.returns-clause-found
returns-clause-found g c =
    let i = c.self.inside in
    let held = c.self.invariant in
    let some = some_bytes g.row.Q g.row.N i.first i.begins i.in_use i.ground i.live_bytes i.count held in
    let long = same_length g.row.Q g.row.N i.first i.begins i.in_use i.ground i.live_bytes i.count held in
    let high = held.quanta in
    let low = c.if-q.false in
    let at = quantum_from g.row.Q i.first c.args.a c.if-a-self.false c.if-behind-ne0.false in
    let begun = read i.begins ((c.args.a - i.first) / g.row.Q) true (omega arith) c.if-not-get.ensures in
    let size = begun_size g.row.Q i.first i.begins i.in_use ((c.args.a - i.first) / g.row.Q) c.args.a at some (omega arith) (omega arith) begun in
    let len : c.block_len.result ≡ block_quanta i.begins i.in_use ((c.args.a - i.first) / g.row.Q) = c.block_len.ensures ∙ ap (λ k. 1 + rest_of (drop k i.begins) (drop k i.in_use)) (add-one ((c.args.a - i.first) / g.row.Q)) in
    let within = block_within i.begins i.in_use ((c.args.a - i.first) / g.row.Q) (omega arith) in
    let fits : g.row.Q * c.block_len.result ≤ g.row.Q * g.row.N = mul-le-mul_left g.row.Q (omega arith) in
    let small = all_small g.row.Q g.row.N i.first i.begins i.in_use i.ground i.live_bytes i.count held in
    let least : g.row.Q * 1 ≤ g.row.Q * c.block_len.result = mul-le-mul_left g.row.Q (omega arith) in (
      at ∙ ap (λ (v : RegionView). v.first + g.row.Q * ((c.args.a - i.first) / g.row.Q)) c.self.view_is,
      omega arith,
      ap (λ (v : RegionView). size_at v.live c.args.a) (sym c.self.view_is) ∙ size ∙ ap (λ n. g.row.Q * n) (sym len),
      (omega arith, omega arith),
    )

pub returns-then-a-self-clause-is : goal.returns-then-a-self-clause-is
returns-then-a-self-clause-is g c =
    let i = c.self.inside in
    let held = c.self.invariant in
    subst (IsRegion g.row.Q g.row.N) c.self.view_is (region_is g.row.Q g.row.N i.first i.begins i.in_use i.ground i.live_bytes i.count held)

pub returns-then-behind-ne0-clause-is : goal.returns-then-behind-ne0-clause-is
returns-then-behind-ne0-clause-is g c =
    let i = c.self.inside in
    let held = c.self.invariant in
    subst (IsRegion g.row.Q g.row.N) c.self.view_is (region_is g.row.Q g.row.N i.first i.begins i.in_use i.ground i.live_bytes i.count held)

pub returns-clause-is : goal.returns-clause-is
returns-clause-is g c =
    let i = c.self.inside in
    let held = c.self.invariant in
    subst (IsRegion g.row.Q g.row.N) c.self.view_is (region_is g.row.Q g.row.N i.first i.begins i.in_use i.ground i.live_bytes i.count held)
