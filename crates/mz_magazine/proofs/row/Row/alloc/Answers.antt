use Rattle.std.proofs.Common.{◌+◌, ◌*◌, ◌≤◌, sym, ap, ◌∙◌, subst, arith}
use Rattle.std.specs.Prelude.{IsTrue}
use Rattle.std.specs.List.{All, list_any}
use Rattle.std.proofs.Math.Nat.{mul-le-mul_left}
use Rattle.std.proofs.lemmas.List.{with_items_is}
use Rattle.mz_base.specs.Space.{block_at}
use Rattle.mz_base.specs.Room.{is_front_within}
use Rattle.mz_magazine.specs.Row.{RowView, IsNewInRow, has_room_at}
use Rattle.mz_magazine.specs.Members.{row_of, IsKept, region_has_room}
use Rattle.mz_magazine.proofs.Idle.{front_is_idle}
use Rattle.mz_magazine.proofs.Rooms.{power_some}
use Rattle.mz_magazine.proofs.Rows.{made, Around}
use Rattle.mz_magazine.proofs.Changes.{no_room, front_in_row}
use Rattle.mz_magazine.proofs.row.Row.alloc.Goals as goal

pub returns-in_default : goal.returns-in_default
returns-in_default g c =
    let i = c.self.inside in
    let said = c.in_default.ensures in
    let long = c.alloc_in_lowest.auto.members in
    let length_ = c.as_mut_slice.ensures.len in
    let slice = c.as_mut_slice.ensures.value in
    let power = power_some c.args.al c.requires.power in (
      ap (row_of i.most) (with_items_is i.members c.alloc_in_lowest.new.members (long ∙ length_) ∙ said.0 ∙ slice) ∙ c.self.view_is,
      ap (λ (v : RowView). list_any (has_room_at (g.row.Q * g.row.N) v.live (g.row.Q * c.args.n) c.args.al) v.firsts) (sym c.self.view_is)
          ∙ no_room g.row.Q g.row.N c.args.n c.args.al i.members.items (c.self.invariant.0).order c.requires.quanta.0 power
          (subst (λ l. All (λ r. IsTrue (region_has_room (g.row.Q * g.row.N) (g.row.Q * c.args.n) c.args.al r) → ⊥) l) slice said.1),
    )

pub overflow_add-self : goal.overflow_add-self
overflow_add-self g c =
    let i = c.self.inside in
    let s = c.in-Some.ensures in
    let quantum = power_some g.row.Q (s.region).power in
    let one : g.row.Q * 1 ≤ g.row.Q * c.args.n = mul-le-mul_left g.row.Q c.requires.quanta.0 in
    let idle = front_is_idle (s.here).first ((s.here).first + g.row.Q * g.row.N) (s.here).live (block_at c.in-Some.span.first (g.row.Q * c.args.n)) c.args.al (omega arith) (power_some c.args.al c.requires.power) s.front in
    let place : Around i.members.items s.here s.there c.alloc_in_lowest.new.members = record { front = s.before; back = s.behind; old_is = sym c.as_mut_slice.ensures.value ∙ s.old_is; new_is = s.new_is } in
    let done = made g.row.Q g.row.N i.most i.live_bytes i.count (g.row.Q * c.args.n) c.in-Some.span i.members.items c.alloc_in_lowest.new.members s.here s.there place c.self.invariant.0 s.block s.region idle.0 in
    let fits = done.bytes_fit in
    omega arith

pub overflow_add-self-2 : goal.overflow_add-self-2
overflow_add-self-2 g c =
    let i = c.self.inside in
    let s = c.in-Some.ensures in
    let quantum = power_some g.row.Q (s.region).power in
    let one : g.row.Q * 1 ≤ g.row.Q * c.args.n = mul-le-mul_left g.row.Q c.requires.quanta.0 in
    let idle = front_is_idle (s.here).first ((s.here).first + g.row.Q * g.row.N) (s.here).live (block_at c.in-Some.span.first (g.row.Q * c.args.n)) c.args.al (omega arith) (power_some c.args.al c.requires.power) s.front in
    let place : Around i.members.items s.here s.there c.alloc_in_lowest.new.members = record { front = s.before; back = s.behind; old_is = sym c.as_mut_slice.ensures.value ∙ s.old_is; new_is = s.new_is } in
    let done = made g.row.Q g.row.N i.most i.live_bytes i.count (g.row.Q * c.args.n) c.in-Some.span i.members.items c.alloc_in_lowest.new.members s.here s.there place c.self.invariant.0 s.block s.region idle.0 in
    let fits = done.count_fits in
    omega arith

pub invariant_of-self-2 : goal.invariant_of-self-2
invariant_of-self-2 g c =
    let i = c.self.inside in
    let s = c.in-Some.ensures in
    let quantum = power_some g.row.Q (s.region).power in
    let one : g.row.Q * 1 ≤ g.row.Q * c.args.n = mul-le-mul_left g.row.Q c.requires.quanta.0 in
    let idle = front_is_idle (s.here).first ((s.here).first + g.row.Q * g.row.N) (s.here).live (block_at c.in-Some.span.first (g.row.Q * c.args.n)) c.args.al (omega arith) (power_some c.args.al c.requires.power) s.front in
    let place : Around i.members.items s.here s.there c.alloc_in_lowest.new.members = record { front = s.before; back = s.behind; old_is = sym c.as_mut_slice.ensures.value ∙ s.old_is; new_is = s.new_is } in
    let done = made g.row.Q g.row.N i.most i.live_bytes i.count (g.row.Q * c.args.n) c.in-Some.span i.members.items c.alloc_in_lowest.new.members s.here s.there place c.self.invariant.0 s.block s.region idle.0 in
    let long = c.alloc_in_lowest.auto.members in
    let length_ = c.as_mut_slice.ensures.len in
    (subst (λ l. IsKept g.row.Q g.row.N i.most l (i.live_bytes + g.row.Q * c.args.n) (i.count + 1)) (sym (with_items_is i.members c.alloc_in_lowest.new.members (long ∙ length_))) done.kept, c.self.invariant.1)

pub returns : goal.returns
returns g c =
    let i = c.self.inside in
    let s = c.in-Some.ensures in
    let quantum = power_some g.row.Q (s.region).power in
    let one : g.row.Q * 1 ≤ g.row.Q * c.args.n = mul-le-mul_left g.row.Q c.requires.quanta.0 in
    let idle = front_is_idle (s.here).first ((s.here).first + g.row.Q * g.row.N) (s.here).live (block_at c.in-Some.span.first (g.row.Q * c.args.n)) c.args.al (omega arith) (power_some c.args.al c.requires.power) s.front in
    let place : Around i.members.items s.here s.there c.alloc_in_lowest.new.members = record { front = s.before; back = s.behind; old_is = sym c.as_mut_slice.ensures.value ∙ s.old_is; new_is = s.new_is } in
    let done = made g.row.Q g.row.N i.most i.live_bytes i.count (g.row.Q * c.args.n) c.in-Some.span i.members.items c.alloc_in_lowest.new.members s.here s.there place c.self.invariant.0 s.block s.region idle.0 in
    let long = c.alloc_in_lowest.auto.members in
    let length_ = c.as_mut_slice.ensures.len in
    let same = ap (row_of i.most) (with_items_is i.members c.alloc_in_lowest.new.members (long ∙ length_)) in (
      ap (λ (v : RowView). list_any (λ a. is_front_within a (a + g.row.Q * g.row.N) v.live (block_at c.in-Some.span.first (g.row.Q * c.args.n)) c.args.al) v.firsts) (sym c.self.view_is)
          ∙ front_in_row g.row.Q g.row.N c.args.al (block_at c.in-Some.span.first (g.row.Q * c.args.n)) i.members.items s.before s.here s.behind place.old_is (c.self.invariant.0).order (omega arith) (power_some c.args.al c.requires.power) s.front,
      subst (λ (v : RowView). IsNewInRow g.row.Q g.row.N c.args.self.now c.in-Some.span (g.row.Q * c.args.n) v) (sym same)
          (subst (λ (v : RowView). IsNewInRow g.row.Q g.row.N v c.in-Some.span (g.row.Q * c.args.n) (row_of i.most c.alloc_in_lowest.new.members)) c.self.view_is done.block),
    )
