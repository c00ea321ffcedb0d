use Rattle.std.specs.Prelude.{slice_set}
use Rattle.mz_holding.proofs.QueryLemmas.{index_found, page_found}
use Rattle.mz_holding.proofs.SwapLemmas.{order_of_same, runs_of_set, live_filled, used_filled}
use Rattle.mz_holding.proofs.TakeLemmas.{found_run, some_found}
use Rattle.mz_holding.proofs.runs.fill_run.Goals as goal

pub unwrap-i-requires : goal.unwrap-i-requires
unwrap-i-requires c = page_found c.args.runs.now.items c.deref.result.now c.first.result c.index_with.result c.deref.ensures.value c.index_with.ensures.none (some_found c.args.runs.now.items c.args.held c.first.result c.first.ensures c.requires.there)

pub returns-clause-in_order : goal.returns-clause-in_order
returns-clause-in_order c =
    let hs = c.args.runs.now.items in
    let h = c.index_mut.result.now in
    let is = c.index_mut.ensures.value in
    let found = index_found hs c.deref.result.now c.first.result c.unwrap-i.result c.index_with.result h c.deref.ensures.value c.index_with.ensures.some c.unwrap-i.ensures is in
    let same = found_run hs h c.args.held c.first.result c.first.ensures c.requires.in_order found.1 c.requires.there in
    order_of_same hs (slice_set hs c.unwrap-i.result c.args.held) (runs_of_set hs c.unwrap-i.result h c.args.held found.0 is same) c.requires.in_order

pub returns-clause-runs : goal.returns-clause-runs
returns-clause-runs c =
    let hs = c.args.runs.now.items in
    let h = c.index_mut.result.now in
    let is = c.index_mut.ensures.value in
    let found = index_found hs c.deref.result.now c.first.result c.unwrap-i.result c.index_with.result h c.deref.ensures.value c.index_with.ensures.some c.unwrap-i.ensures is in
    let same = found_run hs h c.args.held c.first.result c.first.ensures c.requires.in_order found.1 c.requires.there in
    runs_of_set hs c.unwrap-i.result h c.args.held found.0 is same

pub returns-clause-live : goal.returns-clause-live
returns-clause-live c =
    let hs = c.args.runs.now.items in
    let h = c.index_mut.result.now in
    let is = c.index_mut.ensures.value in
    let found = index_found hs c.deref.result.now c.first.result c.unwrap-i.result c.index_with.result h c.deref.ensures.value c.index_with.ensures.some c.unwrap-i.ensures is in
    let same = found_run hs h c.args.held c.first.result c.first.ensures c.requires.in_order found.1 c.requires.there in
    live_filled hs c.unwrap-i.result h c.args.held c.requires.in_order found.0 is same c.requires.unused

pub returns-clause-used : goal.returns-clause-used
returns-clause-used c =
    let hs = c.args.runs.now.items in
    let h = c.index_mut.result.now in
    let is = c.index_mut.ensures.value in
    let found = index_found hs c.deref.result.now c.first.result c.unwrap-i.result c.index_with.result h c.deref.ensures.value c.index_with.ensures.some c.unwrap-i.ensures is in
    let same = found_run hs h c.args.held c.first.result c.first.ensures c.requires.in_order found.1 c.requires.there in
    used_filled hs c.unwrap-i.result h c.args.held c.requires.in_order found.0 is same c.requires.unused
