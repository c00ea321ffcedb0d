use Rattle.std.proofs.Common.{◌≡◌, ◌+◌, ◌-◌, ◌≤◌, ◌∷◌, ◌++◌, Some, length, get_or, take, drop, sym, ap, ◌∙◌, subst, arith}
use Rattle.std.specs.Prelude.{◌==◌}
use Rattle.std.specs.List.{list_any}
use Rattle.std.proofs.lemmas.Bool.{cond-true, cond-false}
use Rattle.mz_base.specs.Lists.{size_sum}
use Rattle.mz_region.specs.Views.{RegionView}
use Rattle.mz_magazine.specs.Row.{RowView}
use Rattle.mz_magazine.specs.Members.{row_of, IsKept}
use Rattle.mz_magazine.specs.Row.{with_region_at}
use Rattle.mz_magazine.proofs.Regions.{space_is, added_at, other_at, one_there}
use Rattle.mz_magazine.proofs.row.Row.insert.Goals as goal
use Rattle.mz_magazine.proofs.row.Row.insert.Goals.{else-i-gt0-via-then-i-gt0+else-first, else-i-gt0-via-else-i-gt0}

pub returns-then-first-clause-inserted : goal.returns-then-first-clause-inserted
returns-then-first-clause-inserted g c =
    let i = c.self.inside in
    let within = c.count_below-i.ensures.within in
    let slice = ap (λ l. length l) c.as_slice.ensures.value in
    let some = c.if-i-gt0.true in
    let same : c.index.result.now.first ≡ c.args.r.first = sym c.first-then-i-gt0.ensures.value ∙ c.if-first.true ∙ c.first-then-i-gt0-2.ensures.value in
    let there = one_there i.members.items (c.count_below-i.result - 1) c.args.r.first c.index.result.now (omega arith) c.index.ensures same in
    sym (cond-true (list_any (λ a. a == c.args.r.first) c.args.self.now.firsts) c.args.self.now (with_region_at c.args.r c.args.self.now) (ap (λ (v : RowView). list_any (λ a. a == c.args.r.first) v.firsts) (sym c.self.view_is) ∙ there))

pub overflow_add-self : goal.overflow_add-self
overflow_add-self g c =
    let i = c.self.inside in
    let at = c.count_below-i.result in
    let other : 1 ≤ c.count_below-i.result → (d : RegionView) → (get_or i.members.items (c.count_below-i.result - 1) d).first ≡ c.args.r.first → ⊥ =
    elim c.else-i-gt0.branch [
      | else-i-gt0-via-then-i-gt0+else-first w ↦ λ some. other_at i.members.items (c.count_below-i.result - 1) w.first-then-i-gt0.result c.args.r.first w.index.result.now (let slice = ap (λ l. length l) c.as_slice.ensures.value in let within = c.count_below-i.ensures.within in omega arith) w.index.ensures w.first-then-i-gt0.ensures.value (λ e. w.if-first.false (e ∙ sym w.first-then-i-gt0-2.ensures.value))
      | else-i-gt0-via-else-i-gt0 w ↦ λ some d same. let none = w.if-i-gt0.false in absurd (omega arith)
    ] in
    let added =
    added_at g.row.Q g.row.N i.most i.live_bytes i.count c.count_below-i.result c.first.result i.members.items c.as_slice.result.now c.args.r c.args.self.now c.self.view_is c.self.invariant.0 c.first.ensures.is c.as_slice.ensures.value
    c.first.ensures.value c.count_below-i.ensures.within c.count_below-i.ensures.below c.count_below-i.ensures.above other c.requires.room c.requires.space in
    let fits = added.done.bytes_fit in
    let bytes = c.live_bytes-live_bytes.ensures in
    omega arith

pub overflow_add-self-in-Ok : goal.overflow_add-self-in-Ok
overflow_add-self-in-Ok g c =
    let i = c.self.inside in
    let at = c.count_below-i.result in
    let other : 1 ≤ c.count_below-i.result → (d : RegionView) → (get_or i.members.items (c.count_below-i.result - 1) d).first ≡ c.args.r.first → ⊥ =
    elim c.else-i-gt0.branch [
      | else-i-gt0-via-then-i-gt0+else-first w ↦ λ some. other_at i.members.items (c.count_below-i.result - 1) w.first-then-i-gt0.result c.args.r.first w.index.result.now (let slice = ap (λ l. length l) c.as_slice.ensures.value in let within = c.count_below-i.ensures.within in omega arith) w.index.ensures w.first-then-i-gt0.ensures.value (λ e. w.if-first.false (e ∙ sym w.first-then-i-gt0-2.ensures.value))
      | else-i-gt0-via-else-i-gt0 w ↦ λ some d same. let none = w.if-i-gt0.false in absurd (omega arith)
    ] in
    let added =
    added_at g.row.Q g.row.N i.most i.live_bytes i.count c.count_below-i.result c.first.result i.members.items c.as_slice.result.now c.args.r c.args.self.now c.self.view_is c.self.invariant.0 c.first.ensures.is c.as_slice.ensures.value
    c.first.ensures.value c.count_below-i.ensures.within c.count_below-i.ensures.below c.count_below-i.ensures.above other c.requires.room c.requires.space in
    let fits = added.done.count_fits in
    let number = c.count-count.ensures in
    omega arith

pub invariant_of-self : goal.invariant_of-self
invariant_of-self g c =
    let i = c.self.inside in
    let at = c.count_below-i.result in
    let other : 1 ≤ c.count_below-i.result → (d : RegionView) → (get_or i.members.items (c.count_below-i.result - 1) d).first ≡ c.args.r.first → ⊥ =
    elim c.else-i-gt0.branch [
      | else-i-gt0-via-then-i-gt0+else-first w ↦ λ some. other_at i.members.items (c.count_below-i.result - 1) w.first-then-i-gt0.result c.args.r.first w.index.result.now (let slice = ap (λ l. length l) c.as_slice.ensures.value in let within = c.count_below-i.ensures.within in omega arith) w.index.ensures w.first-then-i-gt0.ensures.value (λ e. w.if-first.false (e ∙ sym w.first-then-i-gt0-2.ensures.value))
      | else-i-gt0-via-else-i-gt0 w ↦ λ some d same. let none = w.if-i-gt0.false in absurd (omega arith)
    ] in
    let added =
    added_at g.row.Q g.row.N i.most i.live_bytes i.count c.count_below-i.result c.first.result i.members.items c.as_slice.result.now c.args.r c.args.self.now c.self.view_is c.self.invariant.0 c.first.ensures.is c.as_slice.ensures.value
    c.first.ensures.value c.count_below-i.ensures.within c.count_below-i.ensures.below c.count_below-i.ensures.above other c.requires.room c.requires.space in
    let items : c.insert.new.self.items ≡ take c.count_below-i.result i.members.items ++ c.args.r ∷ drop c.count_below-i.result i.members.items =
    c.in-Ok.ensures.items ∙ ap (λ t. take c.count_below-i.result i.members.items ++ t ∷ drop c.count_below-i.result i.members.items) c.new.ensures.value in
    let more = c.in-Ok.ensures.capacity in
    let room = c.self.invariant.1 in (
      subst (λ l. IsKept g.row.Q g.row.N i.most l (i.live_bytes + c.live_bytes-live_bytes.result) (i.count + c.count-count.result)) (sym items)
          (subst (λ m. IsKept g.row.Q g.row.N i.most (take c.count_below-i.result i.members.items ++ c.args.r ∷ drop c.count_below-i.result i.members.items) (i.live_bytes + m) (i.count + c.count-count.result)) (sym c.live_bytes-live_bytes.ensures)
          (subst (λ m. IsKept g.row.Q g.row.N i.most (take c.count_below-i.result i.members.items ++ c.args.r ∷ drop c.count_below-i.result i.members.items) (i.live_bytes + size_sum c.args.r.live) (i.count + m)) (sym c.count-count.ensures) added.done.kept)),
      omega arith,
    )

pub returns-clause-inserted : goal.returns-clause-inserted
returns-clause-inserted g c =
    let i = c.self.inside in
    let at = c.count_below-i.result in
    let other : 1 ≤ c.count_below-i.result → (d : RegionView) → (get_or i.members.items (c.count_below-i.result - 1) d).first ≡ c.args.r.first → ⊥ =
    elim c.else-i-gt0.branch [
      | else-i-gt0-via-then-i-gt0+else-first w ↦ λ some. other_at i.members.items (c.count_below-i.result - 1) w.first-then-i-gt0.result c.args.r.first w.index.result.now (let slice = ap (λ l. length l) c.as_slice.ensures.value in let within = c.count_below-i.ensures.within in omega arith) w.index.ensures w.first-then-i-gt0.ensures.value (λ e. w.if-first.false (e ∙ sym w.first-then-i-gt0-2.ensures.value))
      | else-i-gt0-via-else-i-gt0 w ↦ λ some d same. let none = w.if-i-gt0.false in absurd (omega arith)
    ] in
    let added =
    added_at g.row.Q g.row.N i.most i.live_bytes i.count c.count_below-i.result c.first.result i.members.items c.as_slice.result.now c.args.r c.args.self.now c.self.view_is c.self.invariant.0 c.first.ensures.is c.as_slice.ensures.value
    c.first.ensures.value c.count_below-i.ensures.within c.count_below-i.ensures.below c.count_below-i.ensures.above other c.requires.room c.requires.space in
    let items : c.insert.new.self.items ≡ take c.count_below-i.result i.members.items ++ c.args.r ∷ drop c.count_below-i.result i.members.items =
    c.in-Ok.ensures.items ∙ ap (λ t. take c.count_below-i.result i.members.items ++ t ∷ drop c.count_below-i.result i.members.items) c.new.ensures.value in
    ap (row_of i.most) items ∙ added.done.row ∙ ap (with_region_at c.args.r) c.self.view_is
    ∙ sym (cond-false (list_any (λ a. a == c.args.r.first) c.args.self.now.firsts) c.args.self.now (with_region_at c.args.r c.args.self.now) added.none)

pub returns-then-first-clause-space : goal.returns-then-first-clause-space
returns-then-first-clause-space g c =
    let i = c.self.inside in
    let within = c.count_below-i.ensures.within in
    let slice = ap (λ l. length l) c.as_slice.ensures.value in
    let some = c.if-i-gt0.true in
    let same : c.index.result.now.first ≡ c.args.r.first = sym c.first-then-i-gt0.ensures.value ∙ c.if-first.true ∙ c.first-then-i-gt0-2.ensures.value in
    let one = (c.self.invariant.0).one_space (c.count_below-i.result - 1) c.index.result.now (omega arith) in
    let there = ap (λ (v : RowView). v.space) (sym c.self.view_is) ∙ one in
    there ∙ ap Some (sym (space_is c.args.self.now.space c.args.r.space (get_or i.members.items (c.count_below-i.result - 1) c.index.result.now).space c.requires.space there))

pub returns-clause-space : goal.returns-clause-space
returns-clause-space g c =
    let i = c.self.inside in
    let at = c.count_below-i.result in
    let other : 1 ≤ c.count_below-i.result → (d : RegionView) → (get_or i.members.items (c.count_below-i.result - 1) d).first ≡ c.args.r.first → ⊥ =
    elim c.else-i-gt0.branch [
      | else-i-gt0-via-then-i-gt0+else-first w ↦ λ some. other_at i.members.items (c.count_below-i.result - 1) w.first-then-i-gt0.result c.args.r.first w.index.result.now (let slice = ap (λ l. length l) c.as_slice.ensures.value in let within = c.count_below-i.ensures.within in omega arith) w.index.ensures w.first-then-i-gt0.ensures.value (λ e. w.if-first.false (e ∙ sym w.first-then-i-gt0-2.ensures.value))
      | else-i-gt0-via-else-i-gt0 w ↦ λ some d same. let none = w.if-i-gt0.false in absurd (omega arith)
    ] in
    let added =
    added_at g.row.Q g.row.N i.most i.live_bytes i.count c.count_below-i.result c.first.result i.members.items c.as_slice.result.now c.args.r c.args.self.now c.self.view_is c.self.invariant.0 c.first.ensures.is c.as_slice.ensures.value
    c.first.ensures.value c.count_below-i.ensures.within c.count_below-i.ensures.below c.count_below-i.ensures.above other c.requires.room c.requires.space in
    let items : c.insert.new.self.items ≡ take c.count_below-i.result i.members.items ++ c.args.r ∷ drop c.count_below-i.result i.members.items =
    c.in-Ok.ensures.items ∙ ap (λ t. take c.count_below-i.result i.members.items ++ t ∷ drop c.count_below-i.result i.members.items) c.new.ensures.value in
    ap (λ (v : RowView). v.space) (ap (row_of i.most) items ∙ added.done.row)

pub returns-clause-room : goal.returns-clause-room
returns-clause-room g c = ap (λ (v : RowView). v.room) c.self.view_is
