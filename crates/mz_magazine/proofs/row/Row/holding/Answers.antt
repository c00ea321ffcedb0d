use Rattle.std.proofs.Common.{◌≡◌, ◌+◌, ◌-◌, ◌*◌, ◌<◌, ◌≤◌, false, length, get_or, sym, ap, ◌∙◌, subst, arith}
use Rattle.std.specs.List.{AllWithin}
use Rattle.std.proofs.lemmas.List.{get_or_default}
use Rattle.mz_region.specs.Views.{RegionView}
use Rattle.mz_magazine.specs.Row.{RowView, lies_in_row}
use Rattle.mz_magazine.proofs.Order.{first_of}
use Rattle.mz_magazine.proofs.Searches.{holds_none}
use Rattle.mz_magazine.proofs.row.Row.holding.Goals as goal

pub returns-then-below-eq0 : goal.returns-then-below-eq0
returns-then-below-eq0 g c =
    let ms = c.self.inside.members.items in
    let slice = c.as_slice.ensures.value in
    let zero_ = c.if-below-eq0.true in
    let above : AllWithin (λ (r : RegionView). c.args.a < r.first) c.self.inside.members.items c.count_below-below.result (length c.self.inside.members.items) = subst (λ l. AllWithin (λ (r : RegionView). c.args.a < r.first) l c.count_below-below.result (length l)) slice c.count_below-below.ensures.above in
    subst (λ (v : RowView). lies_in_row (g.row.Q * g.row.N) v.firsts c.args.a (c.args.a + 1) ≡ false) c.self.view_is
    (holds_none g.row.Q g.row.N c.self.inside.members.items c.args.a c.count_below-below.result (c.self.invariant.0).order above (λ some. absurd (omega arith)))

pub returns-else-a-first : goal.returns-else-a-first
returns-else-a-first g c =
    let slice = c.as_slice.ensures.value in
    let some = c.if-below-eq0.false in
    let within : c.count_below-below.result ≤ length c.self.inside.members.items = subst (λ l. c.count_below-below.result ≤ length l) slice c.count_below-below.ensures.within in
    let above : AllWithin (λ (r : RegionView). c.args.a < r.first) c.self.inside.members.items c.count_below-below.result (length c.self.inside.members.items) = subst (λ l. AllWithin (λ (r : RegionView). c.args.a < r.first) l c.count_below-below.result (length l)) slice c.count_below-below.ensures.above in
    let first = c.first.ensures.value in
    let far = c.if-a-first.false in
    let last : (d : RegionView) → (get_or c.self.inside.members.items (c.count_below-below.result - 1) d).first + g.row.Q * g.row.N ≤ c.args.a = λ d.
    let at : c.index.result.now ≡ get_or c.self.inside.members.items (c.count_below-below.result - 1) d = c.index.ensures ∙ get_or_default c.self.inside.members.items (c.count_below-below.result - 1) c.index.result.now d (omega arith) in
    let is = ap first_of at in
    let below : c.index.result.now.first ≤ c.args.a = subst (λ (r : RegionView). r.first ≤ c.args.a) (sym at) (subst (λ l. AllWithin (λ (r : RegionView). r.first ≤ c.args.a) l 0 c.count_below-below.result) slice c.count_below-below.ensures.below (c.count_below-below.result - 1) d (omega arith) (omega arith)) in
    omega arith in
    subst (λ (v : RowView). lies_in_row (g.row.Q * g.row.N) v.firsts c.args.a (c.args.a + 1) ≡ false) c.self.view_is
    (holds_none g.row.Q g.row.N c.self.inside.members.items c.args.a c.count_below-below.result (c.self.invariant.0).order above (λ _. (within, last)))
