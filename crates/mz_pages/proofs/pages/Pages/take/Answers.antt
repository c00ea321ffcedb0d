use Rattle.std.proofs.Common.{◌≡◌, ◌-◌, true, not, map, lit<, arith}
use Rattle.mz_pages.proofs.KeptLemmas.{none_lent, lent_within, count_taken, kept_after, takes}
use Rattle.mz_pages.specs.Pages.{free_count}
use Rattle.mz_pages.proofs.pages.Pages.take.Goals as goal

pub overflow_sub-self : goal.overflow_sub-self
overflow_sub-self c =
    let s = c.self.inside in
    let count = count_taken s.ground s.out c.set_run.new.self s.first s.free c.in_ok-i.i c.args.w c.self.invariant c.in_ok-i.ensures.is_free c.set_run.ensures.made in
    omega arith

pub lend-requires : goal.lend-requires
lend-requires c =
    let s = c.self.inside in
    (lit< tt, (c.requires.some, (lent_within s.ground s.out s.first s.free c.in_ok-i.i c.args.w c.self.invariant c.in_ok-i.ensures.is_free, none_lent s.ground s.out s.first s.free c.in_ok-i.i c.args.w c.self.invariant c.in_ok-i.ensures.is_free)))

pub invariant_of-self : goal.invariant_of-self
invariant_of-self c =
    let s = c.self.inside in
    let count = count_taken s.ground s.out c.set_run.new.self s.first s.free c.in_ok-i.i c.args.w c.self.invariant c.in_ok-i.ensures.is_free c.set_run.ensures.made in
    let left : s.free - c.args.w ≡ free_count (map not c.set_run.new.self) = omega arith in
    kept_after s.ground c.lend.new.self s.out c.set_run.new.self s.first s.free (s.free - c.args.w) c.in_ok-i.i c.args.w true c.self.invariant c.lend.ensures.first c.lend.ensures.lent c.set_run.ensures.made c.set_run.ensures.count left

pub returns-clause-taken : goal.returns-clause-taken
returns-clause-taken c =
    let s = c.self.inside in
    takes s.ground c.lend.new.self s.out c.set_run.new.self s.first s.free c.args.w c.args.al c.in_ok-i.i c.lend.result c.args.self.now c.self.invariant c.self.view_is c.in_ok-i.ensures c.lend.ensures.space c.set_run.ensures.made c.lend.ensures.span_space c.lend.ensures.span_first c.lend.ensures.span_len
