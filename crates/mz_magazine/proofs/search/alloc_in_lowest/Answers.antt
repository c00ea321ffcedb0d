use Rattle.std.proofs.Common.{◌≡◌, ◌*◌, false, get_or, set, sym, ap, ◌∙◌, arith}
use Rattle.std.proofs.lemmas.List.{set-get_or, get_or_default}
use Rattle.std.proofs.lemmas.List.Elements.{AllWithin-more, at_read}
use Rattle.mz_region.specs.Views.{RegionView}
use Rattle.mz_magazine.specs.Members.{region_has_room}
use Rattle.mz_magazine.proofs.Searches.{nowhere, answered_none, answered_some}
use Rattle.mz_magazine.proofs.search.alloc_in_lowest.Goals as goal

pub loop-i-preserved : goal.loop-i-preserved
loop-i-preserved g c =
    let ms = c.loop-i.members in
    let i = c.loop-i.i in
    let here : RegionView = get_or c.loop-i.members c.loop-i.i c.index-members-i.result in
    let more = c.loop-i-test.true in
    let long = c.loop-i.auto.members in
    let said = answered_none g.row.Q g.row.N (g.row.Q * c.args.n) c.args.al here c.alloc-span.new.self c.alloc-span.result c.alloc-span.ensures.served (sym c.is_some.ensures ∙ c.if-is_some.false) in
    let same : set c.loop-i.members c.loop-i.i c.alloc-span.new.self ≡ c.loop-i.members = ap (set c.loop-i.members c.loop-i.i) said.0 ∙ set-get_or c.loop-i.members c.loop-i.i c.index-members-i.result in
    let P : RegionView → Type 0 = λ r. region_has_room (g.row.Q * g.row.N) (g.row.Q * c.args.n) c.args.al r ≡ false in
    let none = AllWithin-more P c.loop-i.members 0 c.loop-i.i c.loop-i.invariant.none (at_read c.loop-i.members P c.loop-i.i here (omega arith) (get_or_default c.loop-i.members c.loop-i.i c.index-members-i.result here (omega arith)) said.1) in
    record {
      same = same ∙ c.loop-i.invariant.same;
      none = λ k d low high. ap (λ l. region_has_room (g.row.Q * g.row.N) (g.row.Q * c.args.n) c.args.al (get_or l k d)) same ∙ none k d low high;
    }

pub returns : goal.returns
returns g c =
    let all = c.loop-i-test.false in
    let same = c.loop-i.invariant.same in
    let long = c.loop-i.auto.members in (
      same,
      nowhere (region_has_room (g.row.Q * g.row.N) (g.row.Q * c.args.n) c.args.al) c.args.members.now c.loop-i.i (omega arith)
          (λ k d low high. ap (λ l. region_has_room (g.row.Q * g.row.N) (g.row.Q * c.args.n) c.args.al (get_or l k d)) (sym same) ∙ c.loop-i.invariant.none k d low high),
    )

pub returns-then-is_some : goal.returns-then-is_some
returns-then-is_some g c =
    let same = c.loop-i.invariant.same in
    let more = c.loop-i-test.true in
    let long = c.loop-i.auto.members in
    let here : RegionView = get_or c.loop-i.members c.loop-i.i c.index-members-i.result in
    answered_some g.row.Q g.row.N (g.row.Q * c.args.n) c.args.al c.args.members.now c.loop-i.i here c.alloc-span.new.self (set c.loop-i.members c.loop-i.i c.alloc-span.new.self) c.alloc-span.result _
    c.alloc-span.ensures.served (sym c.is_some.ensures ∙ c.if-is_some.true) (omega arith) (get_or_default c.loop-i.members c.loop-i.i c.index-members-i.result here (omega arith) ∙ ap (λ l. get_or l c.loop-i.i here) same) (ap (λ l. set l c.loop-i.i c.alloc-span.new.self) same) c.alloc-span.ensures.is
