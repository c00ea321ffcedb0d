use Rattle.std.proofs.Common.{◌≡◌, suc, ◌+◌, ◌-◌, ◌*◌, ◌≤◌, true, false, Some, length, map, set, take, drop, refl, sym, ap, ◌∙◌, subst, lit<, arith}
use Rattle.std.specs.Prelude.{◌==◌, ◌&&◌, ◌||◌}
use Rattle.std.specs.List.{All, list_all}
use Rattle.std.proofs.Math.Nat.{mul-le-mul_left}
use Rattle.std.proofs.lemmas.Bool.{false_from_ne_true, false≢true}
use Rattle.mz_base.specs.Space.{block_at, blocks_apart}
use Rattle.mz_base.specs.Lists.{has_block, drop_block, add_block}
use Rattle.mz_base.specs.Room.{is_idle}
use Rattle.mz_magazine.specs.Row.{RowView, lies_in_row, is_idle_in}
use Rattle.mz_magazine.specs.Members.{row_of, live_of, space_of, IsKept}
use Rattle.mz_magazine.proofs.Rooms.{power_some, kept_on_false}
use Rattle.mz_magazine.proofs.Resizes.{resize_fits}
use Rattle.mz_magazine.proofs.Order.{first_of}
use Rattle.mz_magazine.proofs.Rows.{around}
use Rattle.mz_magazine.proofs.Changes.{resized, holds, unchanged, none_idle_outside, no_block_outside}
use Rattle.mz_magazine.proofs.Order.{its_space}
use Rattle.mz_magazine.proofs.Changes.{has_around, resize_idle}
use Rattle.mz_magazine.proofs.Regions.{space_is, true_with, false_with, said_true}
use Rattle.mz_magazine.proofs.row.Row.resize.Goals as goal

pub same-self : goal.same-self
same-self g c = refl

pub returns-in_default-clause-resized : goal.returns-in_default-clause-resized
returns-in_default-clause-resized g c =
    let i = c.self.inside in
    let b = block_at c.args.s.now.first (length c.args.s.now.bytes) in
    let none : lies_in_row (g.row.Q * g.row.N) (map first_of i.members.items) c.args.s.now.first (c.args.s.now.first + 1) ≡ false =
    ap (λ (v : RowView). lies_in_row (g.row.Q * g.row.N) v.firsts c.args.s.now.first (c.args.s.now.first + 1)) c.self.view_is ∙ ap (λ x. lies_in_row (g.row.Q * g.row.N) c.args.self.now.firsts x (x + 1)) (sym c.first.ensures.value) ∙ c.in_default.ensures in (
      ap (λ (v : RowView). is_idle_in (g.row.Q * g.row.N) v.firsts (drop_block b v.live) b.first (b.first + g.row.Q * c.args.n)) (sym c.self.view_is)
          ∙ none_idle_outside g.row.Q g.row.N 0 c.args.n i.members.items (drop_block b (live_of i.members.items)) b.first (c.self.invariant.0).order c.requires.quanta.0 none,
      refl,
      refl,
    )

pub resize-resized-requires : goal.resize-resized-requires
resize-resized-requires g c =
    let i = c.self.inside in
    let here = c.index_mut.result.now in
    let b = block_at c.args.s.now.first (length c.args.s.now.bytes) in
    let first = c.first.ensures.value in
    let at = holds g.row.Q g.row.N i.most i.members.items c.args.self.now c.in-Some.i here c.first.result c.self.view_is c.in-Some.ensures c.index_mut.ensures.value in
    let low = at.low in
    let high = at.high in
    let has : has_block here.live b ≡ true = sym (has_around g.row.Q g.row.N i.members.items (take c.in-Some.i i.members.items) here (drop (suc c.in-Some.i) i.members.items) b at.split (c.self.invariant.0).order (omega arith) (omega arith))
    ∙ ap (λ (v : RowView). has_block v.live b) c.self.view_is ∙ c.requires.live in
    let at_space : space_of i.members.items ≡ Some here.space =
    subst (λ l. space_of l ≡ Some here.space) (sym at.split) (its_space (take c.in-Some.i i.members.items) here (drop (suc c.in-Some.i) i.members.items) (subst (λ l. All (λ t. space_of l ≡ Some t.space) l) at.split (c.self.invariant.0).one_space)) in
    (lit< tt, (has, (space_is c.args.self.now.space c.args.s.now.space here.space c.requires.space (ap (λ (v : RowView). v.space) (sym c.self.view_is) ∙ at_space), c.requires.quanta)))

pub overflow_sub-self : goal.overflow_sub-self
overflow_sub-self g c =
    let i = c.self.inside in
    let here = c.index_mut.result.now in
    let b = block_at c.args.s.now.first (length c.args.s.now.bytes) in
    let first = c.first.ensures.value in
    let at = holds g.row.Q g.row.N i.most i.members.items c.args.self.now c.in-Some.i here c.first.result c.self.view_is c.in-Some.ensures c.index_mut.ensures.value in
    let low = at.low in
    let high = at.high in
    let has : has_block here.live b ≡ true = sym (has_around g.row.Q g.row.N i.members.items (take c.in-Some.i i.members.items) here (drop (suc c.in-Some.i) i.members.items) b at.split (c.self.invariant.0).order (omega arith) (omega arith))
    ∙ ap (λ (v : RowView). has_block v.live b) c.self.view_is ∙ c.requires.live in
    let said = said_true c.resize-resized.result _ _ c.if-resized.true c.resize-resized.ensures.resized in
    let place = around i.members.items c.in-Some.i here c.resize-resized.new.self (set i.members.items c.in-Some.i c.resize-resized.new.self) at.within at.split refl in
    let done = resized g.row.Q g.row.N i.most i.live_bytes i.count b (g.row.Q * c.args.n) i.members.items (set i.members.items c.in-Some.i c.resize-resized.new.self) here c.resize-resized.new.self place c.self.invariant.0 said.1 has c.resize-resized.ensures.is in
    let fits = done.bytes_fit in
    let long = c.len-had.ensures.value in
    omega arith

pub overflow_add-self : goal.overflow_add-self
overflow_add-self g c =
    let i = c.self.inside in
    let here = c.index_mut.result.now in
    let b = block_at c.args.s.now.first (length c.args.s.now.bytes) in
    let first = c.first.ensures.value in
    let at = holds g.row.Q g.row.N i.most i.members.items c.args.self.now c.in-Some.i here c.first.result c.self.view_is c.in-Some.ensures c.index_mut.ensures.value in
    let low = at.low in
    let high = at.high in
    let has : has_block here.live b ≡ true = sym (has_around g.row.Q g.row.N i.members.items (take c.in-Some.i i.members.items) here (drop (suc c.in-Some.i) i.members.items) b at.split (c.self.invariant.0).order (omega arith) (omega arith))
    ∙ ap (λ (v : RowView). has_block v.live b) c.self.view_is ∙ c.requires.live in
    let said = said_true c.resize-resized.result _ _ c.if-resized.true c.resize-resized.ensures.resized in
    let place = around i.members.items c.in-Some.i here c.resize-resized.new.self (set i.members.items c.in-Some.i c.resize-resized.new.self) at.within at.split refl in
    let done = resized g.row.Q g.row.N i.most i.live_bytes i.count b (g.row.Q * c.args.n) i.members.items (set i.members.items c.in-Some.i c.resize-resized.new.self) here c.resize-resized.new.self place c.self.invariant.0 said.1 has c.resize-resized.ensures.is in
    let fits = done.sum_fits in
    let long = c.len-had.ensures.value in
    omega arith

pub invariant_of-self : goal.invariant_of-self
invariant_of-self g c =
    let i = c.self.inside in
    let here = c.index_mut.result.now in
    let b = block_at c.args.s.now.first (length c.args.s.now.bytes) in
    let first = c.first.ensures.value in
    let at = holds g.row.Q g.row.N i.most i.members.items c.args.self.now c.in-Some.i here c.first.result c.self.view_is c.in-Some.ensures c.index_mut.ensures.value in
    let low = at.low in
    let high = at.high in
    let has : has_block here.live b ≡ true = sym (has_around g.row.Q g.row.N i.members.items (take c.in-Some.i i.members.items) here (drop (suc c.in-Some.i) i.members.items) b at.split (c.self.invariant.0).order (omega arith) (omega arith))
    ∙ ap (λ (v : RowView). has_block v.live b) c.self.view_is ∙ c.requires.live in
    let said = said_true c.resize-resized.result _ _ c.if-resized.true c.resize-resized.ensures.resized in
    let place = around i.members.items c.in-Some.i here c.resize-resized.new.self (set i.members.items c.in-Some.i c.resize-resized.new.self) at.within at.split refl in
    let done = resized g.row.Q g.row.N i.most i.live_bytes i.count b (g.row.Q * c.args.n) i.members.items (set i.members.items c.in-Some.i c.resize-resized.new.self) here c.resize-resized.new.self place c.self.invariant.0 said.1 has c.resize-resized.ensures.is in
    (subst (λ m. IsKept g.row.Q g.row.N i.most (set i.members.items c.in-Some.i c.resize-resized.new.self) (i.live_bytes - m + g.row.Q * c.args.n) i.count) (sym c.len-had.ensures.value) done.kept, c.self.invariant.1)

pub returns-then-resized-clause-resized : goal.returns-then-resized-clause-resized
returns-then-resized-clause-resized g c =
    let i = c.self.inside in
    let here = c.index_mut.result.now in
    let b = block_at c.args.s.now.first (length c.args.s.now.bytes) in
    let first = c.first.ensures.value in
    let at = holds g.row.Q g.row.N i.most i.members.items c.args.self.now c.in-Some.i here c.first.result c.self.view_is c.in-Some.ensures c.index_mut.ensures.value in
    let low = at.low in
    let high = at.high in
    let has : has_block here.live b ≡ true = sym (has_around g.row.Q g.row.N i.members.items (take c.in-Some.i i.members.items) here (drop (suc c.in-Some.i) i.members.items) b at.split (c.self.invariant.0).order (omega arith) (omega arith))
    ∙ ap (λ (v : RowView). has_block v.live b) c.self.view_is ∙ c.requires.live in
    let said = said_true c.resize-resized.result _ _ c.if-resized.true c.resize-resized.ensures.resized in
    let place = around i.members.items c.in-Some.i here c.resize-resized.new.self (set i.members.items c.in-Some.i c.resize-resized.new.self) at.within at.split refl in
    let done = resized g.row.Q g.row.N i.most i.live_bytes i.count b (g.row.Q * c.args.n) i.members.items (set i.members.items c.in-Some.i c.resize-resized.new.self) here c.resize-resized.new.self place c.self.invariant.0 said.1 has c.resize-resized.ensures.is in
    let quantum = power_some g.row.Q (c.resize-resized.ensures.is).power in
    let one : g.row.Q * 1 ≤ g.row.Q * c.args.n = mul-le-mul_left g.row.Q c.requires.quanta.0 in
    let idle = ap (λ (v : RowView). is_idle_in (g.row.Q * g.row.N) v.firsts (drop_block b v.live) b.first (b.first + g.row.Q * c.args.n)) (sym c.self.view_is)
    ∙ resize_idle g.row.Q g.row.N b (g.row.Q * c.args.n) i.members.items (take c.in-Some.i i.members.items) here (drop (suc c.in-Some.i) i.members.items) at.split (c.self.invariant.0).order has (omega arith) in
    true_with c.resize-resized.result _ _ _ _ c.if-resized.true c.resize-resized.ensures.resized (λ said. (idle ∙ said.0, done.row ∙ ap (λ (v : RowView). record v { live = add_block (block_at b.first (g.row.Q * c.args.n)) (drop_block b v.live) }) c.self.view_is, said.2, said.3, said.4, said.5, omega arith))

pub returns-else-resized-clause-resized : goal.returns-else-resized-clause-resized
returns-else-resized-clause-resized g c =
    let i = c.self.inside in
    let here = c.index_mut.result.now in
    let b = block_at c.args.s.now.first (length c.args.s.now.bytes) in
    let first = c.first.ensures.value in
    let at = holds g.row.Q g.row.N i.most i.members.items c.args.self.now c.in-Some.i here c.first.result c.self.view_is c.in-Some.ensures c.index_mut.ensures.value in
    let low = at.low in
    let high = at.high in
    let has : has_block here.live b ≡ true = sym (has_around g.row.Q g.row.N i.members.items (take c.in-Some.i i.members.items) here (drop (suc c.in-Some.i) i.members.items) b at.split (c.self.invariant.0).order (omega arith) (omega arith))
    ∙ ap (λ (v : RowView). has_block v.live b) c.self.view_is ∙ c.requires.live in
    let quantum = power_some g.row.Q (c.resize-resized.ensures.is).power in
    let one : g.row.Q * 1 ≤ g.row.Q * c.args.n = mul-le-mul_left g.row.Q c.requires.quanta.0 in
    let idle = ap (λ (v : RowView). is_idle_in (g.row.Q * g.row.N) v.firsts (drop_block b v.live) b.first (b.first + g.row.Q * c.args.n)) (sym c.self.view_is)
    ∙ resize_idle g.row.Q g.row.N b (g.row.Q * c.args.n) i.members.items (take c.in-Some.i i.members.items) here (drop (suc c.in-Some.i) i.members.items) at.split (c.self.invariant.0).order has (omega arith) in
    false_with c.resize-resized.result _ _ _ _ c.if-resized.false c.resize-resized.ensures.resized (λ said. (
      idle ∙ false_from_ne_true (is_idle here.first (here.first + g.row.Q * g.row.N) (drop_block b here.live) b.first (b.first + g.row.Q * c.args.n)) said.0,
      ap (row_of i.most) (unchanged i.members.items c.in-Some.i here c.resize-resized.new.self c.index_mut.ensures.value said.1) ∙ c.self.view_is,
      said.2,
    ))

pub returns-in_default-clause-fits : goal.returns-in_default-clause-fits
returns-in_default-clause-fits g c =
    let i = c.self.inside in
    let b = block_at c.args.s.now.first (length c.args.s.now.bytes) in
    let none : lies_in_row (g.row.Q * g.row.N) (map first_of i.members.items) c.args.s.now.first (c.args.s.now.first + 1) ≡ false =
    ap (λ (v : RowView). lies_in_row (g.row.Q * g.row.N) v.firsts c.args.s.now.first (c.args.s.now.first + 1)) c.self.view_is ∙ ap (λ x. lies_in_row (g.row.Q * g.row.N) c.args.self.now.firsts x (x + 1)) (sym c.first.ensures.value) ∙ c.in_default.ensures in
    absurd (false≢true (sym (no_block_outside g.row.Q g.row.N i.members.items b (c.self.invariant.0).order none) ∙ ap (λ (v : RowView). has_block v.live b) c.self.view_is ∙ c.requires.live))

pub returns-in_default-clause-shrinks : goal.returns-in_default-clause-shrinks
returns-in_default-clause-shrinks g c = λ _.
    let i = c.self.inside in
    let b = block_at c.args.s.now.first (length c.args.s.now.bytes) in
    let none : lies_in_row (g.row.Q * g.row.N) (map first_of i.members.items) c.args.s.now.first (c.args.s.now.first + 1) ≡ false =
    ap (λ (v : RowView). lies_in_row (g.row.Q * g.row.N) v.firsts c.args.s.now.first (c.args.s.now.first + 1)) c.self.view_is ∙ ap (λ x. lies_in_row (g.row.Q * g.row.N) c.args.self.now.firsts x (x + 1)) (sym c.first.ensures.value) ∙ c.in_default.ensures in
    absurd (false≢true (sym (no_block_outside g.row.Q g.row.N i.members.items b (c.self.invariant.0).order none) ∙ ap (λ (v : RowView). has_block v.live b) c.self.view_is ∙ c.requires.live))

pub returns-then-resized-clause-fits : goal.returns-then-resized-clause-fits
returns-then-resized-clause-fits g c =
    let i = c.self.inside in
    let here = c.index_mut.result.now in
    let b = block_at c.args.s.now.first (length c.args.s.now.bytes) in
    let m = g.row.Q * c.args.n in
    let first = c.first.ensures.value in
    let at = holds g.row.Q g.row.N i.most i.members.items c.args.self.now c.in-Some.i here c.first.result c.self.view_is c.in-Some.ensures c.index_mut.ensures.value in
    let low = at.low in
    let high = at.high in
    let has : has_block here.live b ≡ true = sym (has_around g.row.Q g.row.N i.members.items (take c.in-Some.i i.members.items) here (drop (suc c.in-Some.i) i.members.items) b at.split (c.self.invariant.0).order (omega arith) (omega arith))
    ∙ ap (λ (v : RowView). has_block v.live b) c.self.view_is ∙ c.requires.live in
    let said = said_true c.resize-resized.result _ _ c.if-resized.true c.resize-resized.ensures.resized in
    let quantum = power_some g.row.Q (c.resize-resized.ensures.is).power in
    let one : g.row.Q * 1 ≤ g.row.Q * c.args.n = mul-le-mul_left g.row.Q c.requires.quanta.0 in
    let idle = resize_idle g.row.Q g.row.N b (g.row.Q * c.args.n) i.members.items (take c.in-Some.i i.members.items) here (drop (suc c.in-Some.i) i.members.items) at.split (c.self.invariant.0).order has (omega arith) in
    let fits = resize_fits g.row.Q g.row.N b (g.row.Q * c.args.n) i.members.items (take c.in-Some.i i.members.items) here (drop (suc c.in-Some.i) i.members.items) at.split (c.self.invariant.0).order has in
    c.if-resized.true ∙ sym (said.0) ∙ sym idle ∙ fits
    ∙ ap (λ (v : RowView). lies_in_row (g.row.Q * g.row.N) v.firsts b.first (b.first + m) && list_all (λ d. (d.first == b.first) || blocks_apart d (block_at b.first m)) v.live) c.self.view_is

pub returns-else-resized-clause-fits : goal.returns-else-resized-clause-fits
returns-else-resized-clause-fits g c =
    let i = c.self.inside in
    let here = c.index_mut.result.now in
    let b = block_at c.args.s.now.first (length c.args.s.now.bytes) in
    let m = g.row.Q * c.args.n in
    let first = c.first.ensures.value in
    let at = holds g.row.Q g.row.N i.most i.members.items c.args.self.now c.in-Some.i here c.first.result c.self.view_is c.in-Some.ensures c.index_mut.ensures.value in
    let low = at.low in
    let high = at.high in
    let has : has_block here.live b ≡ true = sym (has_around g.row.Q g.row.N i.members.items (take c.in-Some.i i.members.items) here (drop (suc c.in-Some.i) i.members.items) b at.split (c.self.invariant.0).order (omega arith) (omega arith))
    ∙ ap (λ (v : RowView). has_block v.live b) c.self.view_is ∙ c.requires.live in
    let said = kept_on_false c.resize-resized.result _ _ c.resize-resized.ensures.resized c.if-resized.false in
    let quantum = power_some g.row.Q (c.resize-resized.ensures.is).power in
    let one : g.row.Q * 1 ≤ g.row.Q * c.args.n = mul-le-mul_left g.row.Q c.requires.quanta.0 in
    let idle = resize_idle g.row.Q g.row.N b (g.row.Q * c.args.n) i.members.items (take c.in-Some.i i.members.items) here (drop (suc c.in-Some.i) i.members.items) at.split (c.self.invariant.0).order has (omega arith) in
    let fits = resize_fits g.row.Q g.row.N b (g.row.Q * c.args.n) i.members.items (take c.in-Some.i i.members.items) here (drop (suc c.in-Some.i) i.members.items) at.split (c.self.invariant.0).order has in
    c.if-resized.false ∙ sym (false_from_ne_true (is_idle here.first (here.first + g.row.Q * g.row.N) (drop_block b here.live) b.first (b.first + g.row.Q * c.args.n)) said.0) ∙ sym idle ∙ fits
    ∙ ap (λ (v : RowView). lies_in_row (g.row.Q * g.row.N) v.firsts b.first (b.first + m) && list_all (λ d. (d.first == b.first) || blocks_apart d (block_at b.first m)) v.live) c.self.view_is

pub returns-else-resized-clause-shrinks : goal.returns-else-resized-clause-shrinks
returns-else-resized-clause-shrinks g c = c.resize-resized.ensures.shrinks
