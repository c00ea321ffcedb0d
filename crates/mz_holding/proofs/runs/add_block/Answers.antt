use Rattle.std.proofs.Common.{◌/◌, sym, ◌∙◌}
use Rattle.std.specs.Prelude.{slice_set}
use Rattle.std.proofs.lemmas.Bool.{false≢true}
use Rattle.mz_base.specs.Space.{block_at, blocks_apart}
use Rattle.mz_holding.specs.HeldRuns.{live_of_held, live_in_runs}
use Rattle.mz_holding.proofs.NeighbourLemmas.{on_ok, on_err}
use Rattle.mz_holding.proofs.PartLemmas.{all_at, all_from}
use Rattle.mz_holding.proofs.RunLemmas.{contains_in, byte_of_page, lies_here, lies_nowhere, in_run}
use Rattle.mz_holding.proofs.QueryLemmas.{index_found, page_found}
use Rattle.mz_holding.proofs.SwapLemmas.{order_of_same, runs_of_set, live_of_set, fits_run, live_added}
use Rattle.mz_holding.proofs.runs.add_block.Goals as goal

pub unwrap-i-requires : goal.unwrap-i-requires
unwrap-i-requires c = page_found c.args.runs.now.items c.deref.result.now (c.args.a / 16384) c.index_with.result c.deref.ensures.value c.index_with.ensures.none (λ none. false≢true (sym (lies_nowhere c.args.runs.now.items c.args.a c.args.n c.requires.in_order c.requires.some none) ∙ c.requires.lies))

pub add-requires-clause-lies : goal.add-requires-clause-lies
add-requires-clause-lies c =
    let hs = c.args.runs.now.items in
    let h = c.index_mut.result.now in
    let is = c.index_mut.ensures.value in
    let found = index_found hs c.deref.result.now (c.args.a / 16384) c.unwrap-i.result c.index_with.result h c.deref.ensures.value c.index_with.ensures.some c.unwrap-i.ensures is in
    let isin = contains_in hs h found.1.0 in
    let byte = byte_of_page h c.args.a found.1.1 found.1.2 in
    sym (lies_here hs c.args.a c.args.n c.requires.in_order c.requires.some h isin byte) ∙ c.requires.lies

pub add-requires-clause-apart : goal.add-requires-clause-apart
add-requires-clause-apart c =
    let hs = c.args.runs.now.items in
    let h = c.index_mut.result.now in
    let is = c.index_mut.ensures.value in
    let found = index_found hs c.deref.result.now (c.args.a / 16384) c.unwrap-i.result c.index_with.result h c.deref.ensures.value c.index_with.ensures.some c.unwrap-i.ensures is in
    let isin = contains_in hs h found.1.0 in
    let byte = byte_of_page h c.args.a found.1.1 found.1.2 in
    all_from (λ b. blocks_apart b (block_at c.args.a c.args.n)) (live_of_held h) (λ b there. all_at (λ d. blocks_apart d (block_at c.args.a c.args.n)) (live_in_runs hs) b c.requires.apart (in_run hs h b isin there))

pub returns-clause-in_order : goal.returns-clause-in_order
returns-clause-in_order c =
    let hs = c.args.runs.now.items in
    let h = c.index_mut.result.now in
    let is = c.index_mut.ensures.value in
    let found = index_found hs c.deref.result.now (c.args.a / 16384) c.unwrap-i.result c.index_with.result h c.deref.ensures.value c.index_with.ensures.some c.unwrap-i.ensures is in
    let isin = contains_in hs h found.1.0 in
    let byte = byte_of_page h c.args.a found.1.1 found.1.2 in
    order_of_same hs (slice_set hs c.unwrap-i.result c.add.new.self) (runs_of_set hs c.unwrap-i.result h c.add.new.self found.0 is c.add.ensures.run) c.requires.in_order

pub returns-clause-runs : goal.returns-clause-runs
returns-clause-runs c =
    let hs = c.args.runs.now.items in
    let h = c.index_mut.result.now in
    let is = c.index_mut.ensures.value in
    let found = index_found hs c.deref.result.now (c.args.a / 16384) c.unwrap-i.result c.index_with.result h c.deref.ensures.value c.index_with.ensures.some c.unwrap-i.ensures is in
    let isin = contains_in hs h found.1.0 in
    let byte = byte_of_page h c.args.a found.1.1 found.1.2 in
    runs_of_set hs c.unwrap-i.result h c.add.new.self found.0 is c.add.ensures.run

pub returns-clause-ok : goal.returns-clause-ok
returns-clause-ok c =
    let hs = c.args.runs.now.items in
    let h = c.index_mut.result.now in
    let is = c.index_mut.ensures.value in
    let found = index_found hs c.deref.result.now (c.args.a / 16384) c.unwrap-i.result c.index_with.result h c.deref.ensures.value c.index_with.ensures.some c.unwrap-i.ensures is in
    let isin = contains_in hs h found.1.0 in
    let byte = byte_of_page h c.args.a found.1.1 found.1.2 in
    let lies = sym (lies_here hs c.args.a c.args.n c.requires.in_order c.requires.some h isin byte) ∙ c.requires.lies in
    on_ok c.add.result _ _ (λ gained. live_added hs c.unwrap-i.result h c.add.new.self c.requires.in_order found.0 is c.add.ensures.run (block_at c.args.a c.args.n) gained c.requires.some (fits_run h c.args.a c.args.n lies) c.requires.apart) c.add.ensures.ok

pub returns-clause-err : goal.returns-clause-err
returns-clause-err c =
    let hs = c.args.runs.now.items in
    let h = c.index_mut.result.now in
    let is = c.index_mut.ensures.value in
    let found = index_found hs c.deref.result.now (c.args.a / 16384) c.unwrap-i.result c.index_with.result h c.deref.ensures.value c.index_with.ensures.some c.unwrap-i.ensures is in
    let isin = contains_in hs h found.1.0 in
    let byte = byte_of_page h c.args.a found.1.1 found.1.2 in
    on_err c.add.result _ _ (λ same. live_of_set hs c.unwrap-i.result h c.add.new.self found.0 is same) c.add.ensures.err
