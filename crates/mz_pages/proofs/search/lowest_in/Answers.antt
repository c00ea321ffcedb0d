use Rattle.std.proofs.Common.{◌+◌, ◌-◌, ◌≤◌, ◌<◌, length, arith}
use Rattle.mz_pages.proofs.FreeRunLemmas.{reach, pass, fits, none_left, moves}
use Rattle.mz_pages.proofs.search.lowest_in.Goals as goal

pub returns-then-run-wanted : goal.returns-then-run-wanted
returns-then-run-wanted c =
    let a = c.args in
    let i = c.in-Some.i in
    let passed = reach a.first a.out.now a.w a.al c.loop-i.from i c.requires.some c.loop-i.invariant c.in-Some.ensures in
    fits a.first a.out.now a.w a.al i c.gap_to-gap.result c.saturating_add-wanted.result c.run_at-run.result c.requires.some c.requires.aligned passed c.gap_to-gap.ensures.multiple c.gap_to-gap.ensures.least c.saturating_add-wanted.ensures
    c.run_at-run.ensures c.if-run-wanted.true c.requires.small

pub loop-i-smaller : goal.loop-i-smaller
loop-i-smaller c =
    let a = c.args in
    let i = c.in-Some.i in
    let above = c.in-Some.ensures.above in
    let within = c.in-Some.ensures.within in
    let some = c.requires.some in
    let wanted : 1 ≤ c.saturating_add-wanted.result = omega arith in
    let more : 1 ≤ c.run_at-run.result = moves a.out.now c.loop-i.from i c.saturating_add-wanted.result c.run_at-run.result wanted c.in-Some.ensures c.run_at-run.ensures in
    let smaller : length a.out.now - (i + c.run_at-run.result) < length a.out.now - c.loop-i.from = omega arith in
    smaller

pub loop-i-preserved : goal.loop-i-preserved
loop-i-preserved c =
    let a = c.args in
    let i = c.in-Some.i in
    let passed = reach a.first a.out.now a.w a.al c.loop-i.from i c.requires.some c.loop-i.invariant c.in-Some.ensures in
    let most : c.saturating_add-wanted.result ≤ c.gap_to-gap.result + a.w = omega arith in
    let limit = c.run_at-run.ensures.limit in
    let fewer : c.run_at-run.result < c.saturating_add-wanted.result = omega arith in
    pass a.first a.out.now a.w a.al i c.gap_to-gap.result c.saturating_add-wanted.result c.run_at-run.result c.requires.aligned passed c.gap_to-gap.ensures.multiple c.gap_to-gap.ensures.least most c.run_at-run.ensures fewer

pub returns : goal.returns
returns c =
    let a = c.args in
    none_left a.first a.out.now a.w a.al c.loop-i.from c.requires.some c.loop-i.invariant c.in_default.ensures
