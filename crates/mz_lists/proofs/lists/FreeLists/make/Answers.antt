use Rattle.std.proofs.Common.{◌≡◌, length, ap, arith, sym, ◌∙◌}
use Rattle.std.proofs.lemmas.List.{length-replicate}
use Rattle.mz_lists.proofs.KeptLemmas.{made_kept, unlinked_not, no_members_of}
use Rattle.mz_lists.proofs.lists.FreeLists.make.Goals as goal

pub invariant_of-result : goal.invariant_of-result
invariant_of-result g c =
    let count : length c.in_ok-lengths.lengths.items ≡ c.args.quanta = ap length c.in_ok-lengths.ensures.zeros ∙ length-replicate _ _ in
    made_kept _ c.args.quanta _ _ _ _ c.requires.some c.requires.most (omega arith) c.in_ok-next.ensures.count c.in_ok-prev.ensures.count count c.in_ok-heads.ensures.count
    c.in_ok-next.ensures.limit c.in_ok-prev.ensures.limit c.in_ok-lengths.ensures.limit c.in_ok-heads.ensures.limit c.in_ok-next.ensures.other c.in_ok-prev.ensures.other c.in_ok-heads.ensures.none

pub returns : goal.returns
returns g c =
    let none = unlinked_not c.in_ok-next.next.items c.in_ok-prev.prev.items (c.in_ok-prev.ensures.count ∙ sym c.in_ok-next.ensures.count) c.in_ok-next.ensures.other c.in_ok-prev.ensures.other in
    let all = no_members_of c.in_ok-next.next.items c.in_ok-prev.prev.items c.in_ok-lengths.lengths.items none in
    λ i. record { quanta = c.in_ok-next.ensures.count i; members = all i }
