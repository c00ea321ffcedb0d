use Rattle.std.proofs.Common.{◌≡◌, suc, ◌+◌, ◌-◌, ◌*◌, false, length, map, set, take, drop, refl, sym, ap, ◌∙◌, subst, arith}
use Rattle.std.proofs.lemmas.Bool.{false_from_ne_true}
use Rattle.mz_base.specs.Space.{block_at}
use Rattle.mz_base.specs.Lists.{has_block, drop_block}
use Rattle.mz_magazine.specs.Row.{RowView, lies_in_row}
use Rattle.mz_magazine.specs.Members.{row_of, IsKept}
use Rattle.mz_magazine.proofs.Order.{first_of}
use Rattle.mz_magazine.proofs.Rows.{around}
use Rattle.mz_magazine.proofs.Changes.{taken, holds, unchanged, no_block_outside}
use Rattle.mz_magazine.proofs.Changes.{taken_ok, has_around}
use Rattle.mz_magazine.proofs.Regions.{ok_with, err_with}
use Rattle.mz_magazine.proofs.row.Row.free.Goals as goal

pub same-self : goal.same-self
same-self g c = refl

pub returns-in_default : goal.returns-in_default
returns-in_default g c =
    let i = c.self.inside in
    let none : lies_in_row (g.row.Q * g.row.N) (map first_of i.members.items) c.args.s.first (c.args.s.first + 1) ≡ false =
    ap (λ (v : RowView). lies_in_row (g.row.Q * g.row.N) v.firsts c.args.s.first (c.args.s.first + 1)) c.self.view_is ∙ ap (λ x. lies_in_row (g.row.Q * g.row.N) c.args.self.now.firsts x (x + 1)) (sym c.first.ensures.value) ∙ c.in_default.ensures in
    (ap (λ (v : RowView). has_block v.live (block_at c.args.s.first (length c.args.s.bytes))) (sym c.self.view_is) ∙ no_block_outside g.row.Q g.row.N i.members.items (block_at c.args.s.first (length c.args.s.bytes)) (c.self.invariant.0).order none, refl, refl)

pub overflow_sub-self : goal.overflow_sub-self
overflow_sub-self g c =
    let i = c.self.inside in
    let here = c.index_mut.result.now in
    let b = block_at c.args.s.first (length c.args.s.bytes) in
    let first = c.first.ensures.value in
    let at = holds g.row.Q g.row.N i.most i.members.items c.args.self.now c.in-Some.i here c.first.result c.self.view_is c.in-Some.ensures c.index_mut.ensures.value in
    let low = at.low in
    let high = at.high in
    let ok = sym c.is_ok.ensures.value ∙ c.if-is_ok.true in
    let said = taken_ok c.free-freed.result _ _ c.free-freed.ensures.freed ok in
    let place = around i.members.items c.in-Some.i here c.free-freed.new.self (set i.members.items c.in-Some.i c.free-freed.new.self) at.within at.split refl in
    let done = taken g.row.Q g.row.N i.most i.live_bytes i.count b i.members.items (set i.members.items c.in-Some.i c.free-freed.new.self) here c.free-freed.new.self place c.self.invariant.0 said.1 said.0 c.free-freed.ensures.is in
    let fits = done.bytes_fit in
    let long = c.len-bytes.ensures.value in
    omega arith

pub overflow_sub-self-then-is_ok : goal.overflow_sub-self-then-is_ok
overflow_sub-self-then-is_ok g c =
    let i = c.self.inside in
    let here = c.index_mut.result.now in
    let b = block_at c.args.s.first (length c.args.s.bytes) in
    let first = c.first.ensures.value in
    let at = holds g.row.Q g.row.N i.most i.members.items c.args.self.now c.in-Some.i here c.first.result c.self.view_is c.in-Some.ensures c.index_mut.ensures.value in
    let low = at.low in
    let high = at.high in
    let ok = sym c.is_ok.ensures.value ∙ c.if-is_ok.true in
    let said = taken_ok c.free-freed.result _ _ c.free-freed.ensures.freed ok in
    let place = around i.members.items c.in-Some.i here c.free-freed.new.self (set i.members.items c.in-Some.i c.free-freed.new.self) at.within at.split refl in
    let done = taken g.row.Q g.row.N i.most i.live_bytes i.count b i.members.items (set i.members.items c.in-Some.i c.free-freed.new.self) here c.free-freed.new.self place c.self.invariant.0 said.1 said.0 c.free-freed.ensures.is in
    done.count_fits

pub invariant_of-self : goal.invariant_of-self
invariant_of-self g c =
    let i = c.self.inside in
    let here = c.index_mut.result.now in
    let b = block_at c.args.s.first (length c.args.s.bytes) in
    let first = c.first.ensures.value in
    let at = holds g.row.Q g.row.N i.most i.members.items c.args.self.now c.in-Some.i here c.first.result c.self.view_is c.in-Some.ensures c.index_mut.ensures.value in
    let low = at.low in
    let high = at.high in
    let ok = sym c.is_ok.ensures.value ∙ c.if-is_ok.true in
    let said = taken_ok c.free-freed.result _ _ c.free-freed.ensures.freed ok in
    let place = around i.members.items c.in-Some.i here c.free-freed.new.self (set i.members.items c.in-Some.i c.free-freed.new.self) at.within at.split refl in
    let done = taken g.row.Q g.row.N i.most i.live_bytes i.count b i.members.items (set i.members.items c.in-Some.i c.free-freed.new.self) here c.free-freed.new.self place c.self.invariant.0 said.1 said.0 c.free-freed.ensures.is in
    (subst (λ m. IsKept g.row.Q g.row.N i.most (set i.members.items c.in-Some.i c.free-freed.new.self) (i.live_bytes - m) (i.count - 1)) (sym c.len-bytes.ensures.value) done.kept, c.self.invariant.1)

pub returns-then-is_ok : goal.returns-then-is_ok
returns-then-is_ok g c =
    let i = c.self.inside in
    let here = c.index_mut.result.now in
    let b = block_at c.args.s.first (length c.args.s.bytes) in
    let first = c.first.ensures.value in
    let at = holds g.row.Q g.row.N i.most i.members.items c.args.self.now c.in-Some.i here c.first.result c.self.view_is c.in-Some.ensures c.index_mut.ensures.value in
    let low = at.low in
    let high = at.high in
    let ok = sym c.is_ok.ensures.value ∙ c.if-is_ok.true in
    let said = taken_ok c.free-freed.result _ _ c.free-freed.ensures.freed ok in
    let place = around i.members.items c.in-Some.i here c.free-freed.new.self (set i.members.items c.in-Some.i c.free-freed.new.self) at.within at.split refl in
    let done = taken g.row.Q g.row.N i.most i.live_bytes i.count b i.members.items (set i.members.items c.in-Some.i c.free-freed.new.self) here c.free-freed.new.self place c.self.invariant.0 said.1 said.0 c.free-freed.ensures.is in
    ok_with c.free-freed.result _ _ ok (
      ap (λ (v : RowView). has_block v.live b) (sym c.self.view_is) ∙ done.has,
      done.row ∙ ap (λ (v : RowView). record v { live = drop_block b v.live }) c.self.view_is,
      done.one.0,
      done.one.1,
      done.one.2,
      done.idle,
    )

pub returns-else-is_ok : goal.returns-else-is_ok
returns-else-is_ok g c =
    let i = c.self.inside in
    let here = c.index_mut.result.now in
    let b = block_at c.args.s.first (length c.args.s.bytes) in
    let first = c.first.ensures.value in
    let at = holds g.row.Q g.row.N i.most i.members.items c.args.self.now c.in-Some.i here c.first.result c.self.view_is c.in-Some.ensures c.index_mut.ensures.value in
    let low = at.low in
    let high = at.high in
    err_with c.free-freed.result _ _ _ _ (sym c.is_ok.ensures.value ∙ c.if-is_ok.false) c.free-freed.ensures.freed (λ t said. (
      ap (λ (v : RowView). has_block v.live b) (sym c.self.view_is)
          ∙ has_around g.row.Q g.row.N i.members.items (take c.in-Some.i i.members.items) here (drop (suc c.in-Some.i) i.members.items) b at.split (c.self.invariant.0).order (omega arith) (omega arith)
          ∙ false_from_ne_true (has_block here.live b) said.0,
      ap (row_of i.most) (unchanged i.members.items c.in-Some.i here c.free-freed.new.self c.index_mut.ensures.value said.1) ∙ c.self.view_is,
      said.2,
    ))
