use Rattle.std.proofs.Common.{arith, subst}
use Rattle.mz_lists.specs.Members.{ListsView, AreWithin, HasNoFit, IsLeastFit}
use Rattle.mz_lists.specs.Slots.{length_at}
use Rattle.mz_lists.proofs.KeptLemmas.{no_fit, least_fit, within_quanta, head_place}
use Rattle.mz_lists.proofs.lists.FreeLists.first_at_least.Goals as goal

pub returns-in_err-q-clause-found : goal.returns-in_err-q-clause-found
returns-in_err-q-clause-found g c =
    let none = no_fit _ _ _ _ _ c.self.invariant c.args.n c.requires.some c.requires.most c.in_err-q.ensures.found in
    rw c.from_residual.ensures (subst (λ (v : ListsView). HasNoFit v.members c.args.n) c.self.view_is none)

pub returns-in_err-q-clause-within : goal.returns-in_err-q-clause-within
returns-in_err-q-clause-within g c =
    subst AreWithin c.self.view_is (within_quanta _ _ _ _ _ c.self.invariant)

pub get-requires : goal.get-requires
get-requires g c =
    let f = c.in_ok-q.ensures.found in
    let place = head_place _ _ _ _ _ c.self.invariant f.list c.in_ok-q.q f.there in
    let low = place.1 in
    omega (arith, c.self.invariant.lens)

pub overflow_add-result : goal.overflow_add-result
overflow_add-result g c =
    let f = c.in_ok-q.ensures.found in
    let place = head_place _ _ _ _ _ c.self.invariant f.list c.in_ok-q.q f.there in
    let in_all = c.self.invariant.within c.in_ok-q.q place.0 in
    record { fits = omega (arith, in_all, c.self.invariant.small, c.get.ensures) }

pub returns-clause-found : goal.returns-clause-found
returns-clause-found g c =
    let fit = least_fit _ _ _ _ _ c.self.invariant c.args.n c.in_ok-q.q c.requires.some c.requires.most c.in_ok-q.ensures.found in
    rw c.get.ensures (subst (λ (v : ListsView). IsLeastFit g.row.N v.members c.args.n c.in_ok-q.q (length_at c.self.inside.lengths.items c.in_ok-q.q)) c.self.view_is fit)

pub returns-clause-within : goal.returns-clause-within
returns-clause-within g c =
    subst AreWithin c.self.view_is (within_quanta _ _ _ _ _ c.self.invariant)
