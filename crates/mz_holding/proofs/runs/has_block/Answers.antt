use Rattle.std.proofs.Common.{◌∙◌}
use Rattle.mz_base.specs.Space.{block_at}
use Rattle.mz_holding.proofs.RunLemmas.{contains_in, byte_of_page, live_here, live_nowhere}
use Rattle.mz_holding.proofs.runs.has_block.Goals as goal

pub returns-in-Some : goal.returns-in-Some
returns-in-Some c =
    let has = c.in-Some.ensures in
    let isin = contains_in c.args.runs.now c.in-Some.held.now has.0 in
    c.has_block.ensures ∙ live_here c.args.runs.now c.in-Some.held.now (block_at c.args.a c.args.n) c.requires isin (byte_of_page c.in-Some.held.now c.args.a has.1 has.2)

pub returns-in-None : goal.returns-in-None
returns-in-None c = live_nowhere c.args.runs.now (block_at c.args.a c.args.n) c.requires c.in-None.ensures
