use Rattle.std.proofs.Common.{◌≡◌, None, Some, subst, sym, ap, refl, arith}
use Rattle.std.proofs.lemmas.List.Elements.{All-nil}
use Rattle.mz_region.specs.Views.{RegionView}
use Rattle.mz_magazine.specs.Members.{IsKept, row_of}
use Rattle.mz_magazine.proofs.row.Row.make.Goals as goal

pub invariant_of-result : goal.invariant_of-result
invariant_of-result g c =
    let none = c.in_ok-members.ensures.items in
    let room = c.in_ok-members.ensures.capacity in
    (subst (λ l. IsKept g.row.Q g.row.N c.args.most l 0 0) (sym none) (record { order = tt; one_space = All-nil (λ (r : RegionView). None ≡ Some r.space); few = omega arith; sum = refl; counted = refl }), room)

pub returns : goal.returns
returns g c = ap (row_of c.args.most) c.in_ok-members.ensures.items
