use Rattle.std.proofs.Common.{◌+◌, ◌<◌, ◌≤◌, length, arith, ap}
use Rattle.mz_lists.specs.Members.{ListsView}
use Rattle.mz_lists.proofs.KeptLemmas.{free}
use Rattle.mz_lists.proofs.PutLemmas.{first_place, put_kept, put_view}
use Rattle.mz_lists.proofs.lists.FreeLists.put.Goals as goal

pub set-requires-2-clause-fits : goal.set-requires-2-clause-fits
set-requires-2-clause-fits g c =
    let k = c.self.invariant in
    let low : c.args.q < length c.self.inside.next.items = omega (arith, ap (λ (v : ListsView). v.quanta) c.self.view_is) in
    let place = first_place _ _ _ _ _ k _ _ c.args.q _ c.put_first.ensures.was c.unwrap_or-next.ensures low in
    omega (arith, place, k.next_fits)

pub set-requires-3-clause-within : goal.set-requires-3-clause-within
set-requires-3-clause-within g c =
    let k = c.self.invariant in
    let low : c.args.q < length c.self.inside.next.items = omega (arith, ap (λ (v : ListsView). v.quanta) c.self.view_is) in
    let place = first_place _ _ _ _ _ k _ _ c.args.q _ c.put_first.ensures.was c.unwrap_or-next.ensures low in
    omega (arith, place, k.prevs)

pub invariant_of-self : goal.invariant_of-self
invariant_of-self g c =
    let k = c.self.invariant in
    let fits : c.args.q + c.args.n ≤ length c.self.inside.next.items = omega (arith, ap (λ (v : ListsView). v.quanta) c.self.view_is) in
    put_kept _ _ _ _ _ k _ _ _ _ _ _ _ c.args.q c.args.n _ (free _ _ _ _ _ k c.args.q _ c.self.view_is c.requires.free) c.requires.some fits
    c.list_of-list.ensures.list c.put_first.ensures.was c.unwrap_or-next.ensures c.put_first.ensures.put c.set.ensures c.set-2.ensures c.set-3.ensures c.set-4.ensures

pub returns-clause-made : goal.returns-clause-made
returns-clause-made g c =
    let k = c.self.invariant in
    let fits : c.args.q + c.args.n ≤ length c.self.inside.next.items = omega (arith, ap (λ (v : ListsView). v.quanta) c.self.view_is) in
    put_view _ _ _ _ _ k _ _ _ _ _ _ _ c.args.q c.args.n _ (free _ _ _ _ _ k c.args.q _ c.self.view_is c.requires.free) c.requires.some fits
    c.list_of-list.ensures.list c.put_first.ensures.was c.unwrap_or-next.ensures c.put_first.ensures.put c.set.ensures c.set-2.ensures c.set-3.ensures c.set-4.ensures _ c.self.view_is
