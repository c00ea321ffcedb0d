use Rattle.std.proofs.Common.{◌≡◌, ℕ, ◌*◌, false, length, Option, Some, sym, ap, ◌∙◌, arith}
use Rattle.std.specs.Prelude.{nat_lt}
use Rattle.std.specs.Option.{option_map}
use Rattle.std.specs.List.{AllWithin}
use Rattle.std.proofs.lemmas.Bool.{lt-ltb, le-ltb}
use Rattle.std.proofs.lemmas.List.Elements.{AllWithin-more, at_read}
use Rattle.mz_region.specs.Views.{RegionView}
use Rattle.mz_base.specs.Lists.{size_sum}
use Rattle.mz_magazine.proofs.Searches.{find_at, find_none}
use Rattle.mz_magazine.proofs.search.lowest_sparse.Goals as goal

pub loop-member-preserved : goal.loop-member-preserved
loop-member-preserved g c =
    let P : RegionView → Type 0 = λ r. nat_lt (4 * size_sum r.live) (3 * (g.row.Q * g.row.N)) ≡ false in
    let more = c.loop-member-test.true in
    AllWithin-more P c.args.members.now 0 c.loop-member.member-index c.loop-member.invariant (at_read c.args.members.now P c.loop-member.member-index c.member-item.result (omega arith) c.member-item.is (let live = c.live_bytes-live.ensures.value in let high = c.if-live-len.false in le-ltb (4 * size_sum c.member-item.result.live) (3 * (g.row.Q * g.row.N)) (omega arith)))

pub returns : goal.returns
returns g c =
    let all = c.loop-member-test.false in
    let first : Option RegionView → Option ℕ = option_map (λ r. r.first) in
    let none : AllWithin (λ (r : RegionView). nat_lt (4 * size_sum r.live) (3 * (g.row.Q * g.row.N)) ≡ false) c.args.members.now 0 (length c.args.members.now) = λ k d low high. c.loop-member.invariant k d low (omega arith) in
    sym (ap first (find_none (λ (r : RegionView). nat_lt (4 * size_sum r.live) (3 * (g.row.Q * g.row.N))) c.args.members.now none))

pub returns-then-live-len : goal.returns-then-live-len
returns-then-live-len g c =
    let more = c.loop-member-test.true in
    let first : Option RegionView → Option ℕ = option_map (λ r. r.first) in
    ap Some c.first.ensures.value
    ∙ sym (ap first (find_at (λ (r : RegionView). nat_lt (4 * size_sum r.live) (3 * (g.row.Q * g.row.N))) c.args.members.now c.loop-member.member-index c.member-item.result (omega arith) c.member-item.is c.loop-member.invariant (let live = c.live_bytes-live.ensures.value in let low = c.if-live-len.true in lt-ltb (4 * size_sum c.member-item.result.live) (3 * (g.row.Q * g.row.N)) (omega arith))))
