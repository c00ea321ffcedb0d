use Rattle.std.proofs.Common.{◌/◌, false, length, ap, ◌∙◌, arith}
use Rattle.std.proofs.lemmas.List.{length-replicate}
use Rattle.mz_pages.proofs.KeptLemmas.{kept_new, view_new}
use Rattle.mz_pages.proofs.pages.Pages.make.Goals as goal

pub invariant_of-result : goal.invariant_of-result
invariant_of-result c =
    let s = c.args.span in
    let first = c.first-first.result / 16384 in
    let count = c.len-count.result / 16384 in
    let at = c.requires.at_page in
    let whole = c.requires.whole in
    let inside = c.first-first.ensures.inside in
    let small = c.first-first.ensures.small in
    let where_ = c.first-first.ensures.value in
    let long = c.len-count.ensures.value in
    let begins = c.of.ensures.first in
    let lent = c.of.ensures.lent ∙ c.in_ok-lent.ensures.items_if_clones_equal (λ y e. e) in
    kept_new c.of.result c.in_ok-out.out first count lent c.in_ok-out.ensures (ap length c.in_ok-out.ensures ∙ length-replicate count false) (omega arith) (omega arith)

pub returns : goal.returns
returns c =
    view_new c.of.result c.in_ok-out.out (c.first-first.result / 16384) (c.len-count.result / 16384) c.args.span c.in_ok-out.ensures c.of.ensures.space (ap (λ a. a / 16384) c.first-first.ensures.value) (ap (λ n. n / 16384) c.len-count.ensures.value)
