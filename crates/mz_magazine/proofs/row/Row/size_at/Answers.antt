use Rattle.std.proofs.Common.{◌≡◌, ◌+◌, ◌*◌, false, map, sym, ap, ◌∙◌}
use Rattle.mz_base.specs.Lists.{size_at}
use Rattle.mz_magazine.specs.Row.{RowView, lies_in_row}
use Rattle.mz_magazine.proofs.Order.{first_of}
use Rattle.mz_magazine.proofs.Changes.{holds, no_size_outside, size_around}
use Rattle.mz_magazine.proofs.row.Row.size_at.Goals as goal

pub returns-in-Some : goal.returns-in-Some
returns-in-Some g c =
    let i = c.self.inside in
    let at = holds g.row.Q g.row.N i.most i.members.items c.args.self.now c.in-Some.i c.index.result.now c.args.a c.self.view_is c.in-Some.ensures c.index.ensures in
    c.size_at.ensures ∙ sym (size_around g.row.Q g.row.N i.members.items c.in-Some.i c.index.result.now c.args.a (c.self.invariant.0).order at) ∙ ap (λ (v : RowView). size_at v.live c.args.a) c.self.view_is

pub returns-in-None : goal.returns-in-None
returns-in-None g c =
    let i = c.self.inside in
    let none : lies_in_row (g.row.Q * g.row.N) (map first_of i.members.items) c.args.a (c.args.a + 1) ≡ false = ap (λ (v : RowView). lies_in_row (g.row.Q * g.row.N) v.firsts c.args.a (c.args.a + 1)) c.self.view_is ∙ c.in-None.ensures in
    sym (ap (λ (v : RowView). size_at v.live c.args.a) (sym c.self.view_is) ∙ no_size_outside g.row.Q g.row.N i.members.items c.args.a (c.self.invariant.0).order none)
