use Rattle.std.proofs.Common.{ℕ, ◌*◌, Bool, Option, sym, ap, ◌∙◌}
use Rattle.std.specs.Prelude.{find, nat_lt}
use Rattle.std.specs.Option.{option_map}
use Rattle.mz_base.specs.Lists.{size_sum}
use Rattle.mz_region.specs.Views.{RegionView}
use Rattle.mz_magazine.specs.Row.{RowView, is_sparse_at}
use Rattle.mz_magazine.specs.Members.{live_of}
use Rattle.mz_magazine.proofs.Lists.{find_map}
use Rattle.mz_magazine.proofs.Order.{first_of}
use Rattle.mz_magazine.proofs.Changes.{blocks_each}
use Rattle.mz_magazine.proofs.row.Row.sparse.Goals as goal

pub returns : goal.returns
returns g c =
    let i = c.self.inside in
    let image : Option RegionView → Option ℕ = option_map first_of in
    let test : RegionView → Bool = λ r. nat_lt (4 * size_sum r.live) (3 * (g.row.Q * g.row.N)) in
    c.lowest_sparse.ensures ∙ ap (λ l. image (find test l)) c.as_slice.ensures.value
    ∙ sym (find_map first_of (is_sparse_at (g.row.Q * g.row.N) (live_of i.members.items)) test i.members.items
    (λ k d within. ap (λ l. nat_lt (4 * size_sum l) (3 * (g.row.Q * g.row.N))) (blocks_each g.row.Q g.row.N i.members.items (c.self.invariant.0).order k d within)))
    ∙ ap (λ (v : RowView). find (is_sparse_at (g.row.Q * g.row.N) v.live) v.firsts) c.self.view_is
