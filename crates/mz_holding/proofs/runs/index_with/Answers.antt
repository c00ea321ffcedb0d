use Rattle.std.proofs.Common.{◌≡◌, ◌+◌, ◌-◌, ◌<◌, subst, sym, arith, drop}
use Rattle.std.specs.List.{All}
use Rattle.mz_holding.specs.declared.held.Held.{Held}
use Rattle.mz_holding.proofs.OrderLemmas.{none_with, taken_last}
use Rattle.mz_holding.proofs.runs.index_with.Goals as goal

pub returns-else-page-first-clause-none : goal.returns-else-page-first-clause-none
returns-else-page-first-clause-none c =
    let h = c.index-runs-i.result in
    let some = c.if-count-eq0.false in
    let within = c.count_to-count.ensures.within in
    let next : c.count_to-count.result - 1 + 1 ≡ c.count_to-count.result = omega arith in
    let first = c.first.ensures in
    let pages = c.pages.ensures in
    let end = c.if-page-first.false in
    none_with c.args.runs.now c.args.page (c.count_to-count.result - 1) h c.requires (omega arith) c.index-runs-i.is
    (taken_last c.args.runs.now c.args.page c.count_to-count.result h (omega arith) within c.index-runs-i.is c.count_to-count.ensures.below) (omega arith)
    (subst (λ i. All (λ (g : Held). c.args.page < g.first) (drop i c.args.runs.now)) (sym next) c.count_to-count.ensures.above)
