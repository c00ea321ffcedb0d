use Rattle.std.proofs.Common.{◌≡◌, ◌+◌, ◌-◌, ◌/◌, false, ap, ◌∙◌, arith}
use Rattle.mz_bits.specs.Runs.{with_run}
use Rattle.mz_pages.specs.Pages.{first_page, page_count}
use Rattle.mz_pages.proofs.KeptLemmas.{inside_map, were_out, count_freed, kept_after, view_back}
use Rattle.mz_pages.proofs.pages.Pages.back.Goals as goal

pub invariant_of-self : goal.invariant_of-self
invariant_of-self c =
    let s = c.self.inside in
    let i = c.first.result / 16384 - s.first in
    let n = c.len-n.result / 16384 in
    let at : c.first.result / 16384 ≡ first_page c.args.s = ap (λ a. a / 16384) c.first.ensures.value in
    let long : n ≡ page_count c.args.s = ap (λ m. m / 16384) c.len-n.ensures.value in
    let inside = inside_map s.ground s.out s.first (first_page c.args.s) (page_count c.args.s) (c.first.result / 16384) n c.args.self.now c.self.view_is c.requires.above c.requires.below at long in
    let count = count_freed s.ground s.out c.clear_run.new.self s.first s.free i n c.self.invariant inside c.put_back.ensures.were_lent c.clear_run.ensures.made in
    kept_after s.ground c.put_back.new.self s.out c.clear_run.new.self s.first s.free (s.free + n) i n false c.self.invariant c.put_back.ensures.first c.put_back.ensures.lent c.clear_run.ensures.made c.clear_run.ensures.count count

pub returns-clause-were_out : goal.returns-clause-were_out
returns-clause-were_out c =
    let s = c.self.inside in
    let i = c.first.result / 16384 - s.first in
    let n = c.len-n.result / 16384 in
    let at : c.first.result / 16384 ≡ first_page c.args.s = ap (λ a. a / 16384) c.first.ensures.value in
    let long : n ≡ page_count c.args.s = ap (λ m. m / 16384) c.len-n.ensures.value in
    let inside = inside_map s.ground s.out s.first (first_page c.args.s) (page_count c.args.s) (c.first.result / 16384) (page_count c.args.s) c.args.self.now c.self.view_is c.requires.above c.requires.below at (omega arith) in
    were_out s.ground s.out s.first s.free i (first_page c.args.s) (page_count c.args.s) c.args.self.now c.self.invariant c.self.view_is inside (ap (λ a. a - s.first) at) (λ k d low high. c.put_back.ensures.were_lent k d low (omega arith))

pub returns-clause-freed : goal.returns-clause-freed
returns-clause-freed c =
    let s = c.self.inside in
    let i = c.first.result / 16384 - s.first in
    let at : c.first.result / 16384 ≡ first_page c.args.s = ap (λ a. a / 16384) c.first.ensures.value in
    let long : c.len-n.result / 16384 ≡ page_count c.args.s = ap (λ m. m / 16384) c.len-n.ensures.value in
    view_back s.ground c.put_back.new.self s.out c.clear_run.new.self s.first i (first_page c.args.s) (page_count c.args.s) c.args.self.now c.self.view_is c.put_back.ensures.space (c.clear_run.ensures.made ∙ ap (λ m. with_run s.out i m false) long) (ap (λ a. a - s.first) at)
