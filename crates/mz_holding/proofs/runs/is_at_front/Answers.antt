use Rattle.std.proofs.Common.{◌∙◌}
use Rattle.mz_holding.proofs.RunLemmas.{contains_in, byte_of_page, fronts_here, fronts_nowhere}
use Rattle.mz_holding.proofs.runs.is_at_front.Goals as goal

pub returns-in-Some : goal.returns-in-Some
returns-in-Some c =
    let has = c.in-Some.ensures in
    let isin = contains_in c.args.runs.now c.in-Some.held.now has.0 in
    let byte = byte_of_page c.in-Some.held.now c.args.a has.1 has.2 in
    c.is_at_front.ensures ∙ fronts_here c.args.runs.now c.args.a c.args.n c.requires.in_order c.requires.some c.args.al c.requires.whole c.args.freed c.in-Some.held.now isin byte

pub returns-in-None : goal.returns-in-None
returns-in-None c = fronts_nowhere c.args.runs.now c.args.a c.args.n c.requires.in_order c.requires.some c.args.al c.requires.whole c.args.freed c.in-None.ensures
