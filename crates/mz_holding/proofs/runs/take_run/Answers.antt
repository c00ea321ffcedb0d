use Rattle.std.proofs.Common.{◌+◌, subst, sym, ap, ◌∙◌}
use Rattle.std.specs.Prelude.{map, sum_by}
use Rattle.mz_holding.specs.declared.held.Held.{Held}
use Rattle.mz_holding.specs.HeldRuns.{run_of_held, live_in_runs, AreRunsInOrder}
use Rattle.mz_holding.proofs.RunLemmas.{contains_in}
use Rattle.mz_holding.proofs.QueryLemmas.{index_found, page_found, region_there, region_begins, region_is, blocks_of_run}
use Rattle.mz_holding.proofs.TakeLemmas.{order_others, used_others, runs_others, live_others}
use Rattle.mz_holding.proofs.runs.take_run.Goals as goal

pub unwrap-i-requires : goal.unwrap-i-requires
unwrap-i-requires c = page_found c.args.runs.now.items c.deref.result.now c.args.first c.index_with.result c.deref.ensures.value c.index_with.ensures.none (region_there c.args.runs.now.items c.args.first c.requires.there)

pub returns-clause-in_order : goal.returns-clause-in_order
returns-clause-in_order c =
    let hs = c.args.runs.now.items in
    let h = c.remove.result in
    let is = c.remove.ensures.value in
    let found = index_found hs c.deref.result.now c.args.first c.unwrap-i.result c.index_with.result h c.deref.ensures.value c.index_with.ensures.some c.unwrap-i.ensures is in
    subst AreRunsInOrder (sym c.remove.ensures.items) (order_others hs c.unwrap-i.result c.requires.in_order)

pub returns-clause-run : goal.returns-clause-run
returns-clause-run c =
    let hs = c.args.runs.now.items in
    let h = c.remove.result in
    let is = c.remove.ensures.value in
    let found = index_found hs c.deref.result.now c.args.first c.unwrap-i.result c.index_with.result h c.deref.ensures.value c.index_with.ensures.some c.unwrap-i.ensures is in
    let isin = contains_in hs h found.1.0 in
    region_is hs h c.args.first c.requires.in_order isin (region_begins hs h c.args.first c.requires.in_order isin found.1.1 found.1.2 c.requires.there)

pub returns-clause-blocks : goal.returns-clause-blocks
returns-clause-blocks c =
    let hs = c.args.runs.now.items in
    let h = c.remove.result in
    let is = c.remove.ensures.value in
    let found = index_found hs c.deref.result.now c.args.first c.unwrap-i.result c.index_with.result h c.deref.ensures.value c.index_with.ensures.some c.unwrap-i.ensures is in
    let isin = contains_in hs h found.1.0 in
    sym (blocks_of_run hs h c.requires.in_order isin)

pub returns-clause-runs : goal.returns-clause-runs
returns-clause-runs c =
    let hs = c.args.runs.now.items in
    let h = c.remove.result in
    let is = c.remove.ensures.value in
    let found = index_found hs c.deref.result.now c.args.first c.unwrap-i.result c.index_with.result h c.deref.ensures.value c.index_with.ensures.some c.unwrap-i.ensures is in
    ap (map run_of_held) c.remove.ensures.items ∙ runs_others hs c.unwrap-i.result h c.requires.in_order found.0 is

pub returns-clause-live : goal.returns-clause-live
returns-clause-live c =
    let hs = c.args.runs.now.items in
    let h = c.remove.result in
    let is = c.remove.ensures.value in
    let found = index_found hs c.deref.result.now c.args.first c.unwrap-i.result c.index_with.result h c.deref.ensures.value c.index_with.ensures.some c.unwrap-i.ensures is in
    ap live_in_runs c.remove.ensures.items ∙ live_others hs c.unwrap-i.result h c.requires.in_order found.0 is

pub returns-clause-used : goal.returns-clause-used
returns-clause-used c =
    let hs = c.args.runs.now.items in
    let h = c.remove.result in
    let is = c.remove.ensures.value in
    let found = index_found hs c.deref.result.now c.args.first c.unwrap-i.result c.index_with.result h c.deref.ensures.value c.index_with.ensures.some c.unwrap-i.ensures is in
    ap (λ xs. sum_by (λ (x : Held). x.used) xs + h.used) c.remove.ensures.items ∙ used_others hs c.unwrap-i.result h found.0 is
