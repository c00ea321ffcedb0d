use Rattle.std.proofs.Common.{◌≡◌, suc, ◌+◌, ◌-◌, ◌*◌, Some, None, length, map, take, drop, sym, ap, ◌∙◌, subst, arith}
use Rattle.std.specs.Prelude.{if◌then◌else◌, ◌==◌}
use Rattle.std.specs.List.{list_any}
use Rattle.std.proofs.lemmas.Bool.{eq-eqb, ne_eqb}
use Rattle.std.proofs.lemmas.List.{get_or_default}
use Rattle.mz_base.specs.Lists.{size_sum}
use Rattle.mz_region.specs.Views.{RegionView}
use Rattle.mz_magazine.specs.Row.{RowView}
use Rattle.mz_magazine.specs.Members.{row_of, live_of, AreInOrder, IsKept}
use Rattle.mz_magazine.proofs.Order.{first_of}
use Rattle.mz_magazine.proofs.Changes.{holds}
use Rattle.mz_magazine.specs.Row.{without_region_at, blocks_within}
use Rattle.mz_magazine.proofs.Regions.{begins_here, none_begins, removed}
use Rattle.mz_magazine.proofs.row.Row.remove.Goals as goal

pub returns-in_default-clause-exact : goal.returns-in_default-clause-exact
returns-in_default-clause-exact g c = λ some. none_begins (g.row.Q * g.row.N) c.args.first c.args.self.now.firsts some c.in_default.ensures

pub returns-then-first-clause-exact : goal.returns-then-first-clause-exact
returns-then-first-clause-exact g c = λ some.
    let i = c.self.inside in
    let at = holds g.row.Q g.row.N i.most i.members.items c.args.self.now c.in-Some.i c.index.result.now c.args.first c.self.view_is c.in-Some.ensures c.index.ensures in
    ap (λ (v : RowView). list_any (λ f. f == c.args.first) v.firsts) (sym c.self.view_is) ∙ ap (λ l. list_any (λ f. f == c.args.first) (map first_of l)) at.split
    ∙ begins_here g.row.Q g.row.N (take c.in-Some.i i.members.items) c.index.result.now (drop (suc c.in-Some.i) i.members.items) c.args.first (subst (AreInOrder g.row.Q g.row.N 0) at.split (c.self.invariant.0).order) some at.low at.high
    ∙ ne_eqb c.index.result.now.first c.args.first (λ same. c.if-first.true (c.first.ensures.value ∙ same))

pub overflow_sub-self : goal.overflow_sub-self
overflow_sub-self g c =
    let i = c.self.inside in
    let r = c.remove.result in
    let at = holds g.row.Q g.row.N i.most i.members.items c.args.self.now c.in-Some.i c.remove.result c.args.first c.self.view_is c.in-Some.ensures c.remove.ensures.value in
    let done = removed g.row.Q g.row.N i.most i.live_bytes i.count i.members.items (take c.in-Some.i i.members.items) c.remove.result (drop (suc c.in-Some.i) i.members.items) c.remove.new.self.items at.split c.remove.ensures.items c.self.invariant.0 in
    let out : c.into_region-region.result ≡ c.remove.result = c.into_region-region.ensures in
    let bytes : c.live_bytes.result ≡ size_sum c.remove.result.live = c.live_bytes.ensures ∙ ap (λ (v : RegionView). size_sum v.live) out in
    let fits = done.bytes_fit in
    omega arith

pub overflow_sub-self-2 : goal.overflow_sub-self-2
overflow_sub-self-2 g c =
    let i = c.self.inside in
    let r = c.remove.result in
    let at = holds g.row.Q g.row.N i.most i.members.items c.args.self.now c.in-Some.i c.remove.result c.args.first c.self.view_is c.in-Some.ensures c.remove.ensures.value in
    let done = removed g.row.Q g.row.N i.most i.live_bytes i.count i.members.items (take c.in-Some.i i.members.items) c.remove.result (drop (suc c.in-Some.i) i.members.items) c.remove.new.self.items at.split c.remove.ensures.items c.self.invariant.0 in
    let out : c.into_region-region.result ≡ c.remove.result = c.into_region-region.ensures in
    let begins : c.remove.result.first ≡ c.args.first =
    ap first_of (c.remove.ensures.value ∙ get_or_default i.members.items c.in-Some.i c.remove.result c.index.result.now at.within ∙ sym c.index.ensures) ∙ sym c.first.ensures.value ∙ c.if-first.false in
    let bytes : c.live_bytes.result ≡ size_sum c.remove.result.live = c.live_bytes.ensures ∙ ap (λ (v : RegionView). size_sum v.live) out in
    let number : c.count.result ≡ length c.remove.result.live = c.count.ensures ∙ ap (λ (v : RegionView). length v.live) out in
    let fits = done.count_fits in
    omega arith

pub invariant_of-self : goal.invariant_of-self
invariant_of-self g c =
    let i = c.self.inside in
    let r = c.remove.result in
    let at = holds g.row.Q g.row.N i.most i.members.items c.args.self.now c.in-Some.i c.remove.result c.args.first c.self.view_is c.in-Some.ensures c.remove.ensures.value in
    let done = removed g.row.Q g.row.N i.most i.live_bytes i.count i.members.items (take c.in-Some.i i.members.items) c.remove.result (drop (suc c.in-Some.i) i.members.items) c.remove.new.self.items at.split c.remove.ensures.items c.self.invariant.0 in
    let out : c.into_region-region.result ≡ c.remove.result = c.into_region-region.ensures in
    let begins : c.remove.result.first ≡ c.args.first =
    ap first_of (c.remove.ensures.value ∙ get_or_default i.members.items c.in-Some.i c.remove.result c.index.result.now at.within ∙ sym c.index.ensures) ∙ sym c.first.ensures.value ∙ c.if-first.false in
    let bytes : c.live_bytes.result ≡ size_sum c.remove.result.live = c.live_bytes.ensures ∙ ap (λ (v : RegionView). size_sum v.live) out in
    let number : c.count.result ≡ length c.remove.result.live = c.count.ensures ∙ ap (λ (v : RegionView). length v.live) out in
    let same = c.remove.ensures.capacity in
    let room = c.self.invariant.1 in (
      subst (λ m. IsKept g.row.Q g.row.N i.most c.remove.new.self.items (i.live_bytes - m) (i.count - c.count.result)) (sym bytes)
          (subst (λ m. IsKept g.row.Q g.row.N i.most c.remove.new.self.items (i.live_bytes - size_sum c.remove.result.live) (i.count - m)) (sym number) done.kept),
      omega arith,
    )

pub returns-clause-removed : goal.returns-clause-removed
returns-clause-removed g c =
    let i = c.self.inside in
    let r = c.remove.result in
    let at = holds g.row.Q g.row.N i.most i.members.items c.args.self.now c.in-Some.i c.remove.result c.args.first c.self.view_is c.in-Some.ensures c.remove.ensures.value in
    let done = removed g.row.Q g.row.N i.most i.live_bytes i.count i.members.items (take c.in-Some.i i.members.items) c.remove.result (drop (suc c.in-Some.i) i.members.items) c.remove.new.self.items at.split c.remove.ensures.items c.self.invariant.0 in
    let out : c.into_region-region.result ≡ c.remove.result = c.into_region-region.ensures in
    let begins : c.remove.result.first ≡ c.args.first =
    ap first_of (c.remove.ensures.value ∙ get_or_default i.members.items c.in-Some.i c.remove.result c.index.result.now at.within ∙ sym c.index.ensures) ∙ sym c.first.ensures.value ∙ c.if-first.false in
    let bytes : c.live_bytes.result ≡ size_sum c.remove.result.live = c.live_bytes.ensures ∙ ap (λ (v : RegionView). size_sum v.live) out in
    let number : c.count.result ≡ length c.remove.result.live = c.count.ensures ∙ ap (λ (v : RegionView). length v.live) out in
    let firsts = map first_of c.remove.new.self.items in
    let live = live_of c.remove.new.self.items in (
      ap first_of out ∙ begins,
      ap (λ (v : RowView). v.space) (sym c.self.view_is) ∙ done.space ∙ ap (λ (v : RegionView). Some v.space) (sym out),
      ap (λ (v : RegionView). v.live) out ∙ done.live ∙ ap (λ x. blocks_within x (x + g.row.Q * g.row.N) (live_of i.members.items)) begins ∙ ap (λ (v : RowView). blocks_within c.args.first (c.args.first + g.row.Q * g.row.N) v.live) c.self.view_is,
      ap (λ x. record { room = i.most; space = x; firsts = map first_of c.remove.new.self.items; live = live_of c.remove.new.self.items }) (done.rest ∙ ap (λ (v : RowView). if length (map first_of c.remove.new.self.items) == 0 then None else v.space) c.self.view_is)
          ∙ ap (λ (v : RowView). record { room = v.room; space = (if length (map first_of c.remove.new.self.items) == 0 then None else c.args.self.now.space); firsts = map first_of c.remove.new.self.items; live = live_of c.remove.new.self.items }) c.self.view_is,
    )

pub returns-clause-exact : goal.returns-clause-exact
returns-clause-exact g c = λ some.
    let i = c.self.inside in
    let r = c.remove.result in
    let at = holds g.row.Q g.row.N i.most i.members.items c.args.self.now c.in-Some.i c.remove.result c.args.first c.self.view_is c.in-Some.ensures c.remove.ensures.value in
    let done = removed g.row.Q g.row.N i.most i.live_bytes i.count i.members.items (take c.in-Some.i i.members.items) c.remove.result (drop (suc c.in-Some.i) i.members.items) c.remove.new.self.items at.split c.remove.ensures.items c.self.invariant.0 in
    let out : c.into_region-region.result ≡ c.remove.result = c.into_region-region.ensures in
    let begins : c.remove.result.first ≡ c.args.first =
    ap first_of (c.remove.ensures.value ∙ get_or_default i.members.items c.in-Some.i c.remove.result c.index.result.now at.within ∙ sym c.index.ensures) ∙ sym c.first.ensures.value ∙ c.if-first.false in
    let bytes : c.live_bytes.result ≡ size_sum c.remove.result.live = c.live_bytes.ensures ∙ ap (λ (v : RegionView). size_sum v.live) out in
    let number : c.count.result ≡ length c.remove.result.live = c.count.ensures ∙ ap (λ (v : RegionView). length v.live) out in (
      ap (λ (v : RowView). list_any (λ f. f == c.args.first) v.firsts) (sym c.self.view_is) ∙ ap (λ l. list_any (λ f. f == c.args.first) (map first_of l)) at.split
          ∙ begins_here g.row.Q g.row.N (take c.in-Some.i i.members.items) c.remove.result (drop (suc c.in-Some.i) i.members.items) c.args.first (subst (AreInOrder g.row.Q g.row.N 0) at.split (c.self.invariant.0).order) some at.low at.high
          ∙ eq-eqb c.remove.result.first c.args.first begins,
      done.row some ∙ ap (λ a. without_region_at (g.row.Q * g.row.N) a (row_of i.most i.members.items)) begins ∙ ap (without_region_at (g.row.Q * g.row.N) c.args.first) c.self.view_is,
    )
