use Rattle.std.proofs.Common.{◌≡◌, suc, ◌+◌, ◌*◌, ◌≤◌, false, map, set, take, drop, refl, sym, ap, ◌∙◌, subst, arith}
use Rattle.std.proofs.Math.Nat.{mul-le-mul_left}
use Rattle.std.proofs.lemmas.Bool.{false_from_ne_true}
use Rattle.mz_base.specs.Room.{is_idle}
use Rattle.mz_base.specs.IdleRuns.{IsIdle}
use Rattle.mz_magazine.specs.Row.{RowView, IsNewInRow, lies_in_row, is_idle_in}
use Rattle.mz_magazine.specs.Members.{row_of, live_of}
use Rattle.mz_magazine.proofs.Idle.{idle_from_test}
use Rattle.mz_magazine.proofs.Rooms.{power_some}
use Rattle.mz_magazine.proofs.Order.{first_of}
use Rattle.mz_magazine.proofs.Rows.{made, around}
use Rattle.mz_magazine.proofs.Changes.{holds, unchanged, idle_around, none_idle_outside}
use Rattle.mz_magazine.proofs.row.Row.alloc_at.Goals as goal

pub returns-in_default : goal.returns-in_default
returns-in_default g c =
    let i = c.self.inside in
    let none : lies_in_row (g.row.Q * g.row.N) (map first_of i.members.items) c.args.a (c.args.a + 1) ≡ false = ap (λ (v : RowView). lies_in_row (g.row.Q * g.row.N) v.firsts c.args.a (c.args.a + 1)) c.self.view_is ∙ c.in_default.ensures in (
      refl,
      ap (λ (v : RowView). is_idle_in (g.row.Q * g.row.N) v.firsts v.live c.args.a (c.args.a + g.row.Q * c.args.n)) (sym c.self.view_is)
          ∙ none_idle_outside g.row.Q g.row.N 0 c.args.n i.members.items (live_of i.members.items) c.args.a (c.self.invariant.0).order c.requires.quanta.0 none,
    )

pub returns-in_default-alloc_at : goal.returns-in_default-alloc_at
returns-in_default-alloc_at g c =
    let i = c.self.inside in
    let here = c.index_mut.result.now in
    let said = c.in_default-alloc_at.ensures.served in
    let is = c.alloc_at.ensures.is in
    let quantum = power_some g.row.Q is.power in
    let one : g.row.Q * 1 ≤ g.row.Q * c.args.n = mul-le-mul_left g.row.Q c.requires.quanta.0 in
    let at = holds g.row.Q g.row.N i.most i.members.items c.args.self.now c.in-Some.i here c.args.a c.self.view_is c.in-Some.ensures c.index_mut.ensures.value in (
      ap (row_of i.most) (unchanged i.members.items c.in-Some.i here c.alloc_at.new.self c.index_mut.ensures.value said.0) ∙ c.self.view_is,
      ap (λ (v : RowView). is_idle_in (g.row.Q * g.row.N) v.firsts v.live c.args.a (c.args.a + g.row.Q * c.args.n)) (sym c.self.view_is)
          ∙ idle_around g.row.Q g.row.N i.members.items (take c.in-Some.i i.members.items) here (drop (suc c.in-Some.i) i.members.items) c.args.a (c.args.a + g.row.Q * c.args.n) at.split (c.self.invariant.0).order at.low at.high (omega arith)
          ∙ false_from_ne_true (is_idle here.first (here.first + g.row.Q * g.row.N) here.live c.args.a (c.args.a + g.row.Q * c.args.n)) said.1,
    )

pub overflow_add-self : goal.overflow_add-self
overflow_add-self g c =
    let i = c.self.inside in
    let here = c.index_mut.result.now in
    let said = c.in-Some-alloc_at.ensures.served in
    let is = c.alloc_at.ensures.is in
    let quantum = power_some g.row.Q is.power in
    let one : g.row.Q * 1 ≤ g.row.Q * c.args.n = mul-le-mul_left g.row.Q c.requires.quanta.0 in
    let at = holds g.row.Q g.row.N i.most i.members.items c.args.self.now c.in-Some.i here c.args.a c.self.view_is c.in-Some.ensures c.index_mut.ensures.value in
    let idle : IsIdle here.first (here.first + g.row.Q * g.row.N) here.live c.in-Some-alloc_at.span.first (c.in-Some-alloc_at.span.first + g.row.Q * c.args.n) =
    subst (λ x. IsIdle here.first (here.first + g.row.Q * g.row.N) here.live x (x + g.row.Q * c.args.n)) (sym said.1) (idle_from_test here.first (here.first + g.row.Q * g.row.N) here.live c.args.a (c.args.a + g.row.Q * c.args.n) (omega arith) said.0) in
    let place = around i.members.items c.in-Some.i here c.alloc_at.new.self (set i.members.items c.in-Some.i c.alloc_at.new.self) at.within at.split refl in
    let done = made g.row.Q g.row.N i.most i.live_bytes i.count (g.row.Q * c.args.n) c.in-Some-alloc_at.span i.members.items (set i.members.items c.in-Some.i c.alloc_at.new.self) here c.alloc_at.new.self place c.self.invariant.0 said.2 is idle in
    let fits = done.bytes_fit in
    omega arith

pub overflow_add-self-2 : goal.overflow_add-self-2
overflow_add-self-2 g c =
    let i = c.self.inside in
    let here = c.index_mut.result.now in
    let said = c.in-Some-alloc_at.ensures.served in
    let is = c.alloc_at.ensures.is in
    let quantum = power_some g.row.Q is.power in
    let one : g.row.Q * 1 ≤ g.row.Q * c.args.n = mul-le-mul_left g.row.Q c.requires.quanta.0 in
    let at = holds g.row.Q g.row.N i.most i.members.items c.args.self.now c.in-Some.i here c.args.a c.self.view_is c.in-Some.ensures c.index_mut.ensures.value in
    let idle : IsIdle here.first (here.first + g.row.Q * g.row.N) here.live c.in-Some-alloc_at.span.first (c.in-Some-alloc_at.span.first + g.row.Q * c.args.n) =
    subst (λ x. IsIdle here.first (here.first + g.row.Q * g.row.N) here.live x (x + g.row.Q * c.args.n)) (sym said.1) (idle_from_test here.first (here.first + g.row.Q * g.row.N) here.live c.args.a (c.args.a + g.row.Q * c.args.n) (omega arith) said.0) in
    let place = around i.members.items c.in-Some.i here c.alloc_at.new.self (set i.members.items c.in-Some.i c.alloc_at.new.self) at.within at.split refl in
    let done = made g.row.Q g.row.N i.most i.live_bytes i.count (g.row.Q * c.args.n) c.in-Some-alloc_at.span i.members.items (set i.members.items c.in-Some.i c.alloc_at.new.self) here c.alloc_at.new.self place c.self.invariant.0 said.2 is idle in
    let fits = done.count_fits in
    omega arith

pub invariant_of-self-2 : goal.invariant_of-self-2
invariant_of-self-2 g c =
    let i = c.self.inside in
    let here = c.index_mut.result.now in
    let said = c.in-Some-alloc_at.ensures.served in
    let is = c.alloc_at.ensures.is in
    let quantum = power_some g.row.Q is.power in
    let one : g.row.Q * 1 ≤ g.row.Q * c.args.n = mul-le-mul_left g.row.Q c.requires.quanta.0 in
    let at = holds g.row.Q g.row.N i.most i.members.items c.args.self.now c.in-Some.i here c.args.a c.self.view_is c.in-Some.ensures c.index_mut.ensures.value in
    let idle : IsIdle here.first (here.first + g.row.Q * g.row.N) here.live c.in-Some-alloc_at.span.first (c.in-Some-alloc_at.span.first + g.row.Q * c.args.n) =
    subst (λ x. IsIdle here.first (here.first + g.row.Q * g.row.N) here.live x (x + g.row.Q * c.args.n)) (sym said.1) (idle_from_test here.first (here.first + g.row.Q * g.row.N) here.live c.args.a (c.args.a + g.row.Q * c.args.n) (omega arith) said.0) in
    let place = around i.members.items c.in-Some.i here c.alloc_at.new.self (set i.members.items c.in-Some.i c.alloc_at.new.self) at.within at.split refl in
    let done = made g.row.Q g.row.N i.most i.live_bytes i.count (g.row.Q * c.args.n) c.in-Some-alloc_at.span i.members.items (set i.members.items c.in-Some.i c.alloc_at.new.self) here c.alloc_at.new.self place c.self.invariant.0 said.2 is idle in
    (done.kept, c.self.invariant.1)

pub returns : goal.returns
returns g c =
    let i = c.self.inside in
    let here = c.index_mut.result.now in
    let said = c.in-Some-alloc_at.ensures.served in
    let is = c.alloc_at.ensures.is in
    let quantum = power_some g.row.Q is.power in
    let one : g.row.Q * 1 ≤ g.row.Q * c.args.n = mul-le-mul_left g.row.Q c.requires.quanta.0 in
    let at = holds g.row.Q g.row.N i.most i.members.items c.args.self.now c.in-Some.i here c.args.a c.self.view_is c.in-Some.ensures c.index_mut.ensures.value in
    let idle : IsIdle here.first (here.first + g.row.Q * g.row.N) here.live c.in-Some-alloc_at.span.first (c.in-Some-alloc_at.span.first + g.row.Q * c.args.n) =
    subst (λ x. IsIdle here.first (here.first + g.row.Q * g.row.N) here.live x (x + g.row.Q * c.args.n)) (sym said.1) (idle_from_test here.first (here.first + g.row.Q * g.row.N) here.live c.args.a (c.args.a + g.row.Q * c.args.n) (omega arith) said.0) in
    let place = around i.members.items c.in-Some.i here c.alloc_at.new.self (set i.members.items c.in-Some.i c.alloc_at.new.self) at.within at.split refl in
    let done = made g.row.Q g.row.N i.most i.live_bytes i.count (g.row.Q * c.args.n) c.in-Some-alloc_at.span i.members.items (set i.members.items c.in-Some.i c.alloc_at.new.self) here c.alloc_at.new.self place c.self.invariant.0 said.2 is idle in
    (said.1, subst (λ (v : RowView). IsNewInRow g.row.Q g.row.N v c.in-Some-alloc_at.span (g.row.Q * c.args.n) (row_of i.most (set i.members.items c.in-Some.i c.alloc_at.new.self))) c.self.view_is done.block)
