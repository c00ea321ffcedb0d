use Rattle.std.proofs.Common.{length, subst, sym, ap, ◌∙◌}
use Rattle.std.proofs.lemmas.List.{length-map}
use Rattle.mz_magazine.specs.Row.{RowView, IsRow}
use Rattle.mz_magazine.proofs.Order.{row_is, first_of}
use Rattle.mz_magazine.proofs.row.Row.len.Goals as goal

pub returns-clause-value : goal.returns-clause-value
returns-clause-value g c =
    let i = c.self.inside in
    c.len.ensures ∙ i.members.ok.0 ∙ sym (length-map i.members.items first_of) ∙ ap (λ (v : RowView). length v.firsts) c.self.view_is

pub returns-clause-is : goal.returns-clause-is
returns-clause-is g c =
    let i = c.self.inside in
    subst (IsRow g.row.Q g.row.N) c.self.view_is (row_is g.row.Q g.row.N i.most i.members.items i.live_bytes i.count c.self.invariant.0)
