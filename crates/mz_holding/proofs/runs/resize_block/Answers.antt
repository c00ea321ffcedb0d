use Rattle.std.proofs.Common.{◌/◌, sym, ◌∙◌}
use Rattle.std.specs.Prelude.{◌||◌, ◌==◌, slice_set}
use Rattle.std.proofs.lemmas.Bool.{false≢true}
use Rattle.mz_base.specs.Space.{block_at, blocks_apart}
use Rattle.mz_holding.specs.HeldRuns.{live_of_held, live_in_runs}
use Rattle.mz_holding.proofs.NeighbourLemmas.{on_ok, on_err}
use Rattle.mz_holding.proofs.PartLemmas.{all_at, all_from}
use Rattle.mz_holding.proofs.RunLemmas.{contains_in, byte_of_page, lies_here, live_here, live_nowhere, in_run}
use Rattle.mz_holding.proofs.QueryLemmas.{index_found, page_found}
use Rattle.mz_holding.proofs.SwapLemmas.{order_of_same, runs_of_set, live_of_set, fits_run, live_resized}
use Rattle.mz_holding.proofs.runs.resize_block.Goals as goal

pub unwrap-i-requires : goal.unwrap-i-requires
unwrap-i-requires c = page_found c.args.runs.now.items c.deref.result.now (c.args.a / 16384) c.index_with.result c.deref.ensures.value c.index_with.ensures.none (λ none. false≢true (live_nowhere c.args.runs.now.items (block_at c.args.a c.args.n) c.requires.in_order none ∙ c.requires.there))

pub resize-requires-clause-there : goal.resize-requires-clause-there
resize-requires-clause-there c =
    let hs = c.args.runs.now.items in
    let h = c.index_mut.result.now in
    let is = c.index_mut.ensures.value in
    let found = index_found hs c.deref.result.now (c.args.a / 16384) c.unwrap-i.result c.index_with.result h c.deref.ensures.value c.index_with.ensures.some c.unwrap-i.ensures is in
    let isin = contains_in hs h found.1.0 in
    let byte = byte_of_page h c.args.a found.1.1 found.1.2 in
    live_here hs h (block_at c.args.a c.args.n) c.requires.in_order isin byte ∙ c.requires.there

pub resize-requires-clause-lies : goal.resize-requires-clause-lies
resize-requires-clause-lies c =
    let hs = c.args.runs.now.items in
    let h = c.index_mut.result.now in
    let is = c.index_mut.ensures.value in
    let found = index_found hs c.deref.result.now (c.args.a / 16384) c.unwrap-i.result c.index_with.result h c.deref.ensures.value c.index_with.ensures.some c.unwrap-i.ensures is in
    let isin = contains_in hs h found.1.0 in
    let byte = byte_of_page h c.args.a found.1.1 found.1.2 in
    sym (lies_here hs c.args.a c.args.m c.requires.in_order c.requires.some h isin byte) ∙ c.requires.lies

pub resize-requires-clause-apart : goal.resize-requires-clause-apart
resize-requires-clause-apart c =
    let hs = c.args.runs.now.items in
    let h = c.index_mut.result.now in
    let is = c.index_mut.ensures.value in
    let found = index_found hs c.deref.result.now (c.args.a / 16384) c.unwrap-i.result c.index_with.result h c.deref.ensures.value c.index_with.ensures.some c.unwrap-i.ensures is in
    let isin = contains_in hs h found.1.0 in
    let byte = byte_of_page h c.args.a found.1.1 found.1.2 in
    all_from (λ b. (b.first == c.args.a) || blocks_apart b (block_at c.args.a c.args.m)) (live_of_held h) (λ b there. all_at (λ d. (d.first == c.args.a) || blocks_apart d (block_at c.args.a c.args.m)) (live_in_runs hs) b c.requires.apart (in_run hs h b isin there))

pub returns-clause-in_order : goal.returns-clause-in_order
returns-clause-in_order c =
    let hs = c.args.runs.now.items in
    let h = c.index_mut.result.now in
    let is = c.index_mut.ensures.value in
    let found = index_found hs c.deref.result.now (c.args.a / 16384) c.unwrap-i.result c.index_with.result h c.deref.ensures.value c.index_with.ensures.some c.unwrap-i.ensures is in
    let isin = contains_in hs h found.1.0 in
    let byte = byte_of_page h c.args.a found.1.1 found.1.2 in
    order_of_same hs (slice_set hs c.unwrap-i.result c.resize.new.self) (runs_of_set hs c.unwrap-i.result h c.resize.new.self found.0 is c.resize.ensures.run) c.requires.in_order

pub returns-clause-runs : goal.returns-clause-runs
returns-clause-runs c =
    let hs = c.args.runs.now.items in
    let h = c.index_mut.result.now in
    let is = c.index_mut.ensures.value in
    let found = index_found hs c.deref.result.now (c.args.a / 16384) c.unwrap-i.result c.index_with.result h c.deref.ensures.value c.index_with.ensures.some c.unwrap-i.ensures is in
    let isin = contains_in hs h found.1.0 in
    let byte = byte_of_page h c.args.a found.1.1 found.1.2 in
    runs_of_set hs c.unwrap-i.result h c.resize.new.self found.0 is c.resize.ensures.run

pub returns-clause-ok : goal.returns-clause-ok
returns-clause-ok c =
    let hs = c.args.runs.now.items in
    let h = c.index_mut.result.now in
    let is = c.index_mut.ensures.value in
    let found = index_found hs c.deref.result.now (c.args.a / 16384) c.unwrap-i.result c.index_with.result h c.deref.ensures.value c.index_with.ensures.some c.unwrap-i.ensures is in
    let isin = contains_in hs h found.1.0 in
    let byte = byte_of_page h c.args.a found.1.1 found.1.2 in
    let lies = sym (lies_here hs c.args.a c.args.m c.requires.in_order c.requires.some h isin byte) ∙ c.requires.lies in
    on_ok c.resize.result _ _ (λ changed. live_resized hs c.unwrap-i.result h c.resize.new.self c.requires.in_order found.0 is c.resize.ensures.run c.args.a c.args.n c.args.m changed c.requires.some (fits_run h c.args.a c.args.m lies) (live_here hs h (block_at c.args.a c.args.n) c.requires.in_order isin byte ∙ c.requires.there) c.requires.apart) c.resize.ensures.ok

pub returns-clause-err : goal.returns-clause-err
returns-clause-err c =
    let hs = c.args.runs.now.items in
    let h = c.index_mut.result.now in
    let is = c.index_mut.ensures.value in
    let found = index_found hs c.deref.result.now (c.args.a / 16384) c.unwrap-i.result c.index_with.result h c.deref.ensures.value c.index_with.ensures.some c.unwrap-i.ensures is in
    let isin = contains_in hs h found.1.0 in
    let byte = byte_of_page h c.args.a found.1.1 found.1.2 in
    on_err c.resize.result _ _ (λ same. live_of_set hs c.unwrap-i.result h c.resize.new.self found.0 is same) c.resize.ensures.err
