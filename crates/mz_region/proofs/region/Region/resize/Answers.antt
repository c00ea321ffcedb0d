use Rattle.std.proofs.Common.{◌≡◌, refl, ◌+◌, ◌-◌, ◌*◌, ◌/◌, ◌≤◌, length, sym, ap, ◌∙◌, subst, lit<, arith}
use Rattle.std.proofs.Math.Nat.{mul-le-mul_left}
use Rattle.mz_base.specs.Space.{block_at}
use Rattle.mz_region.specs.Views.{RegionView}
use Rattle.mz_region.proofs.Kept.{whole_block, shrunk_test, kept_bytes}
use Rattle.mz_region.proofs.region.Region.resize.Goals as goal

pub overflow_sub-q : goal.overflow_sub-q
overflow_sub-q g c =
    let i = c.self.inside in
    let held = c.self.invariant in
    let is = whole_block g.row.Q g.row.N i.first i.begins i.in_use i.ground i.live_bytes i.count held c.args.self.now c.self.view_is (block_at c.args.s.now.first (length c.args.s.now.bytes)) c.requires.live in
    let above = is.above in
    let a = c.first.ensures.value in
    omega arith

pub shrink-requires : goal.shrink-requires
shrink-requires g c =
    let i = c.self.inside in
    let held = c.self.invariant in
    let is = whole_block g.row.Q g.row.N i.first i.begins i.in_use i.ground i.live_bytes i.count held c.args.self.now c.self.view_is (block_at c.args.s.now.first (length c.args.s.now.bytes)) c.requires.live in
    let a = c.first.ensures.value in
    let n = c.len.ensures.value in
    let at : c.args.s.now.first ≡ c.args.self.now.first + g.row.Q * ((c.first.result - i.first) / g.row.Q) =
    is.at ∙ ap (λ x. i.first + g.row.Q * ((x - i.first) / g.row.Q)) (sym a) ∙ ap (λ (v : RegionView). v.first + g.row.Q * ((c.first.result - i.first) / g.row.Q)) c.self.view_is in
    let long : length c.args.s.now.bytes ≡ g.row.Q * (c.len.result / g.row.Q) = is.long ∙ ap (λ m. g.row.Q * (m / g.row.Q)) (sym n) in
    let small = c.len.ensures.small in
    let inside = c.len.ensures.inside in
    (lit< tt, (c.requires.quanta.0, (c.if-n-had.true, (omega arith, (c.requires.space, (at, (long, is.size ∙ long)))))))

pub grow-requires : goal.grow-requires
grow-requires g c =
    let i = c.self.inside in
    let held = c.self.invariant in
    let is = whole_block g.row.Q g.row.N i.first i.begins i.in_use i.ground i.live_bytes i.count held c.args.self.now c.self.view_is (block_at c.args.s.now.first (length c.args.s.now.bytes)) c.requires.live in
    let a = c.first.ensures.value in
    let n = c.len.ensures.value in
    let at : c.args.s.now.first ≡ c.args.self.now.first + g.row.Q * ((c.first.result - i.first) / g.row.Q) =
    is.at ∙ ap (λ x. i.first + g.row.Q * ((x - i.first) / g.row.Q)) (sym a) ∙ ap (λ (v : RegionView). v.first + g.row.Q * ((c.first.result - i.first) / g.row.Q)) c.self.view_is in
    let long : length c.args.s.now.bytes ≡ g.row.Q * (c.len.result / g.row.Q) = is.long ∙ ap (λ m. g.row.Q * (m / g.row.Q)) (sym n) in
    let some : 1 ≤ c.len.result / g.row.Q = subst (λ m. 1 ≤ m / g.row.Q) (sym n) is.some in
    (lit< tt, (some, (c.if-n-had.false, (c.requires.quanta.1, (c.requires.space, (at, (long, is.size ∙ long)))))))

pub returns-then-n-had-clause-resized : goal.returns-then-n-had-clause-resized
returns-then-n-had-clause-resized g c =
    let i = c.self.inside in
    let held = c.self.invariant in
    let is = whole_block g.row.Q g.row.N i.first i.begins i.in_use i.ground i.live_bytes i.count held c.args.self.now c.self.view_is (block_at c.args.s.now.first (length c.args.s.now.bytes)) c.requires.live in
    let a = c.first.ensures.value in
    let n = c.len.ensures.value in
    let at : c.args.s.now.first ≡ c.args.self.now.first + g.row.Q * ((c.first.result - i.first) / g.row.Q) =
    is.at ∙ ap (λ x. i.first + g.row.Q * ((x - i.first) / g.row.Q)) (sym a) ∙ ap (λ (v : RegionView). v.first + g.row.Q * ((c.first.result - i.first) / g.row.Q)) c.self.view_is in
    let long : length c.args.s.now.bytes ≡ g.row.Q * (c.len.result / g.row.Q) = is.long ∙ ap (λ m. g.row.Q * (m / g.row.Q)) (sym n) in
    let fewer : g.row.Q * c.args.n ≤ g.row.Q * (c.len.result / g.row.Q) = mul-le-mul_left g.row.Q c.if-n-had.true in (
      shrunk_test g.row.Q g.row.N i.first i.begins i.in_use i.ground i.live_bytes i.count held c.args.self.now c.self.view_is ((c.first.result - i.first) / g.row.Q) (c.len.result / g.row.Q) c.args.n c.args.s.now.first (length c.args.s.now.bytes) c.requires.quanta.0 c.if-n-had.true
          at (is.size ∙ long) long,
      c.shrink.ensures.live,
      c.shrink.ensures.space,
      c.shrink.ensures.first,
      c.shrink.ensures.len,
      kept_bytes c.args.s.now.bytes c.shrink.new.s.bytes (g.row.Q * c.args.n) (length c.args.s.now.bytes) c.shrink.ensures.bytes (omega arith),
    )

pub returns-then-n-had-clause-shrinks : goal.returns-then-n-had-clause-shrinks
returns-then-n-had-clause-shrinks g c h = refl
