use Rattle.std.proofs.Common.{◌/◌, ◌∙◌}
use Rattle.std.specs.Prelude.{slice_set}
use Rattle.std.proofs.lemmas.Bool.{false≢true}
use Rattle.mz_base.specs.Space.{block_at}
use Rattle.mz_holding.proofs.RunLemmas.{contains_in, byte_of_page, live_here, live_nowhere}
use Rattle.mz_holding.proofs.QueryLemmas.{index_found, page_found}
use Rattle.mz_holding.proofs.SwapLemmas.{order_of_same, runs_of_set, live_dropped}
use Rattle.mz_holding.proofs.runs.remove_block.Goals as goal

pub unwrap-i-requires : goal.unwrap-i-requires
unwrap-i-requires c = page_found c.args.runs.now.items c.deref.result.now (c.args.a / 16384) c.index_with.result c.deref.ensures.value c.index_with.ensures.none (λ none. false≢true (live_nowhere c.args.runs.now.items (block_at c.args.a c.args.n) c.requires.in_order none ∙ c.requires.there))

pub remove-requires : goal.remove-requires
remove-requires c =
    let hs = c.args.runs.now.items in
    let h = c.index_mut.result.now in
    let is = c.index_mut.ensures.value in
    let found = index_found hs c.deref.result.now (c.args.a / 16384) c.unwrap-i.result c.index_with.result h c.deref.ensures.value c.index_with.ensures.some c.unwrap-i.ensures is in
    let isin = contains_in hs h found.1.0 in
    let byte = byte_of_page h c.args.a found.1.1 found.1.2 in
    live_here hs h (block_at c.args.a c.args.n) c.requires.in_order isin byte ∙ c.requires.there

pub returns-clause-in_order : goal.returns-clause-in_order
returns-clause-in_order c =
    let hs = c.args.runs.now.items in
    let h = c.index_mut.result.now in
    let is = c.index_mut.ensures.value in
    let found = index_found hs c.deref.result.now (c.args.a / 16384) c.unwrap-i.result c.index_with.result h c.deref.ensures.value c.index_with.ensures.some c.unwrap-i.ensures is in
    let isin = contains_in hs h found.1.0 in
    let byte = byte_of_page h c.args.a found.1.1 found.1.2 in
    order_of_same hs (slice_set hs c.unwrap-i.result c.remove.new.self) (runs_of_set hs c.unwrap-i.result h c.remove.new.self found.0 is c.remove.ensures.run) c.requires.in_order

pub returns-clause-runs : goal.returns-clause-runs
returns-clause-runs c =
    let hs = c.args.runs.now.items in
    let h = c.index_mut.result.now in
    let is = c.index_mut.ensures.value in
    let found = index_found hs c.deref.result.now (c.args.a / 16384) c.unwrap-i.result c.index_with.result h c.deref.ensures.value c.index_with.ensures.some c.unwrap-i.ensures is in
    let isin = contains_in hs h found.1.0 in
    let byte = byte_of_page h c.args.a found.1.1 found.1.2 in
    runs_of_set hs c.unwrap-i.result h c.remove.new.self found.0 is c.remove.ensures.run

pub returns-clause-blocks : goal.returns-clause-blocks
returns-clause-blocks c =
    let hs = c.args.runs.now.items in
    let h = c.index_mut.result.now in
    let is = c.index_mut.ensures.value in
    let found = index_found hs c.deref.result.now (c.args.a / 16384) c.unwrap-i.result c.index_with.result h c.deref.ensures.value c.index_with.ensures.some c.unwrap-i.ensures is in
    let isin = contains_in hs h found.1.0 in
    let byte = byte_of_page h c.args.a found.1.1 found.1.2 in
    live_dropped hs c.unwrap-i.result h c.remove.new.self c.requires.in_order found.0 is c.remove.ensures.run (block_at c.args.a c.args.n) c.remove.ensures.blocks (live_here hs h (block_at c.args.a c.args.n) c.requires.in_order isin byte ∙ c.requires.there)
