use Rattle.std.proofs.Common.{◌+◌, ◌<◌, arith, ap, sym, refl, ◌∙◌}
use Rattle.mz_lists.specs.Slots.{list_of}
use Rattle.mz_lists.proofs.SlotLemmas.{member_below, len_written}
use Rattle.mz_lists.proofs.KeptLemmas.{taken, next_place, prev_place, head_filled}
use Rattle.mz_lists.proofs.TakeLemmas.{choice_below, behind_below, first_of, take_kept, take_view}
use Rattle.mz_lists.proofs.lists.FreeLists.take.Goals as goal

pub get-next-requires : goal.get-next-requires
get-next-requires g c =
    member_below _ _ c.args.q (taken _ _ _ _ _ c.self.invariant c.args.q _ c.self.view_is c.requires)

pub get-prev-requires : goal.get-prev-requires
get-prev-requires g c =
    let low = member_below _ _ c.args.q (taken _ _ _ _ _ c.self.invariant c.args.q _ c.self.view_is c.requires) in
    omega (arith, c.self.invariant.prevs)

pub set-requires-clause-within : goal.set-requires-clause-within
set-requires-clause-within g c =
    let k = c.self.invariant in
    let place = prev_place _ _ _ _ _ k c.args.q (taken _ _ _ _ _ k c.args.q _ c.self.view_is c.requires) in
    omega (arith, place, c.get-prev.ensures.place)

pub set-requires-clause-fits : goal.set-requires-clause-fits
set-requires-clause-fits g c =
    let k = c.self.invariant in
    let here = taken _ _ _ _ _ k c.args.q _ c.self.view_is c.requires in
    let p = prev_place _ _ _ _ _ k c.args.q here in
    let s = next_place _ _ _ _ _ k c.args.q here in
    let fits = k.next_fits in
    let p_low : c.get-prev.result < c.self.inside.next.limit = omega (arith, p, c.get-prev.ensures.place) in
    let s_low : c.get-next.result < c.self.inside.next.limit = omega (arith, s, c.get-next.ensures.place) in
    choice_below _ _ _ _ _ _ c.other_or.ensures p_low s_low

pub set-requires-2-clause-within : goal.set-requires-2-clause-within
set-requires-2-clause-within g c =
    let k = c.self.invariant in
    let place = next_place _ _ _ _ _ k c.args.q (taken _ _ _ _ _ k c.args.q _ c.self.view_is c.requires) in
    omega (arith, place, c.get-next.ensures.place, k.prevs)

pub set-requires-2-clause-fits : goal.set-requires-2-clause-fits
set-requires-2-clause-fits g c =
    let k = c.self.invariant in
    let here = taken _ _ _ _ _ k c.args.q _ c.self.view_is c.requires in
    let p = prev_place _ _ _ _ _ k c.args.q here in
    let s = next_place _ _ _ _ _ k c.args.q here in
    let fits = k.prev_fits in
    let p_low : c.get-prev.result < c.self.inside.prev.limit = omega (arith, p, c.get-prev.ensures.place) in
    let s_low : c.get-next.result < c.self.inside.prev.limit = omega (arith, s, c.get-next.ensures.place) in
    choice_below _ _ _ _ _ _ c.other_or-2.ensures s_low p_low

pub get-requires : goal.get-requires
get-requires g c =
    let low = member_below _ _ c.args.q (taken _ _ _ _ _ c.self.invariant c.args.q _ c.self.view_is c.requires) in
    omega (arith, c.self.invariant.lens)

pub overflow_add-get : goal.overflow_add-get
overflow_add-get g c =
    let k = c.self.invariant in
    let in_all = k.within c.args.q (taken _ _ _ _ _ k c.args.q _ c.self.view_is c.requires) in
    record { fits = omega (arith, in_all, k.small, c.get.ensures) }

pub drop_first-requires-clause-filled : goal.drop_first-requires-clause-filled
drop_first-requires-clause-filled g c =
    let k = c.self.invariant in
    let here = taken _ _ _ _ _ k c.args.q _ c.self.view_is c.requires in
    head_filled _ _ _ _ _ k c.args.q _ here (sym c.get-prev.ensures.place ∙ c.if-prev-q.true) (c.list_of-list.ensures.list ∙ ap (λ x. list_of g.row.N (x + 1)) c.get.ensures)

pub drop_first-requires-clause-fits : goal.drop_first-requires-clause-fits
drop_first-requires-clause-fits g c = λ x e.
    let k = c.self.invariant in
    let place = next_place _ _ _ _ _ k c.args.q (taken _ _ _ _ _ k c.args.q _ c.self.view_is c.requires) in
    behind_below c.get-next.result c.args.q x _ _ c.place_behind.ensures (omega (arith, place, c.get-next.ensures.place, k.head_fits)) e

pub set-requires-3-clause-within : goal.set-requires-3-clause-within
set-requires-3-clause-within g c =
    let low = member_below _ _ c.args.q (taken _ _ _ _ _ c.self.invariant c.args.q _ c.self.view_is c.requires) in
    let same = len_written c.self.inside.next c.set.new.self _ _ c.set.ensures in
    omega (arith, same)

pub set-requires-4-clause-within : goal.set-requires-4-clause-within
set-requires-4-clause-within g c =
    let low = member_below _ _ c.args.q (taken _ _ _ _ _ c.self.invariant c.args.q _ c.self.view_is c.requires) in
    let same = len_written c.self.inside.prev c.set-2.new.self _ _ c.set-2.ensures in
    omega (arith, same, c.self.invariant.prevs)

pub invariant_of-self : goal.invariant_of-self
invariant_of-self g c =
    let k = c.self.invariant in
    let out = first_of _ _ _ _ _ _ (c.list_of-list.ensures.list ∙ ap (λ x. list_of g.row.N (x + 1)) c.get.ensures) c.place_behind.ensures c.drop_first.ensures.dropped in
    take_kept _ _ _ _ _ k _ _ _ _ _ c.args.q _ _ _ _ _ _ (taken _ _ _ _ _ k c.args.q _ c.self.view_is c.requires) c.get-next.ensures.place c.get-prev.ensures.place
    c.other_or.ensures c.other_or-2.ensures c.other_than.ensures c.other_than-2.ensures (λ _. out) (λ ne. absurd (ne c.if-prev-q.true)) c.set.ensures c.set-3.ensures c.set-2.ensures c.set-4.ensures

pub invariant_of-self-else-prev-q : goal.invariant_of-self-else-prev-q
invariant_of-self-else-prev-q g c =
    let k = c.self.invariant in
    take_kept _ _ _ _ _ k _ _ _ _ _ c.args.q _ _ _ _ _ _ (taken _ _ _ _ _ k c.args.q _ c.self.view_is c.requires) c.get-next.ensures.place c.get-prev.ensures.place
    c.other_or.ensures c.other_or-2.ensures c.other_than.ensures c.other_than-2.ensures (λ e. absurd (c.if-prev-q.false e)) (λ _. refl) c.set.ensures c.set-3.ensures c.set-2.ensures c.set-4.ensures

pub returns-then-prev-q-clause-taken : goal.returns-then-prev-q-clause-taken
returns-then-prev-q-clause-taken g c =
    let k = c.self.invariant in
    let out = first_of _ _ _ _ _ _ (c.list_of-list.ensures.list ∙ ap (λ x. list_of g.row.N (x + 1)) c.get.ensures) c.place_behind.ensures c.drop_first.ensures.dropped in
    take_view _ _ _ _ _ k _ _ _ _ _ c.args.q _ _ _ _ _ _ (taken _ _ _ _ _ k c.args.q _ c.self.view_is c.requires) c.get-next.ensures.place c.get-prev.ensures.place
    c.other_or.ensures c.other_or-2.ensures c.other_than.ensures c.other_than-2.ensures (λ _. out) (λ ne. absurd (ne c.if-prev-q.true)) c.set.ensures c.set-3.ensures c.set-2.ensures c.set-4.ensures _ c.self.view_is

pub returns-else-prev-q-clause-taken : goal.returns-else-prev-q-clause-taken
returns-else-prev-q-clause-taken g c =
    let k = c.self.invariant in
    take_view _ _ _ _ _ k _ _ _ _ _ c.args.q _ _ _ _ _ _ (taken _ _ _ _ _ k c.args.q _ c.self.view_is c.requires) c.get-next.ensures.place c.get-prev.ensures.place
    c.other_or.ensures c.other_or-2.ensures c.other_than.ensures c.other_than-2.ensures (λ e. absurd (c.if-prev-q.false e)) (λ _. refl) c.set.ensures c.set-3.ensures c.set-2.ensures c.set-4.ensures _ c.self.view_is
