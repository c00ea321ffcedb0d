use Rattle.std.proofs.Common.{◌∙◌}
use Rattle.std.specs.Prelude.{◌||◌, ◌==◌}
use Rattle.std.specs.List.{list_all}
use Rattle.mz_base.specs.Space.{block_at, blocks_apart}
use Rattle.mz_holding.specs.HeldRuns.{live_in_runs}
use Rattle.mz_holding.proofs.RunLemmas.{contains_in, byte_of_page, clear_but_here, clear_nowhere}
use Rattle.mz_holding.proofs.runs.is_clear_but.Goals as goal

pub returns-in-Some : goal.returns-in-Some
returns-in-Some c =
    let has = c.in-Some.ensures in
    let isin = contains_in c.args.runs.now c.in-Some.held.now has.0 in
    let byte = byte_of_page c.in-Some.held.now c.args.a has.1 has.2 in
    c.is_clear_but.ensures ∙ clear_but_here c.args.runs.now c.args.a c.args.n c.requires.in_order c.requires.some c.in-Some.held.now isin byte

pub returns-in-None : goal.returns-in-None
returns-in-None c = clear_nowhere c.args.runs.now c.args.a c.args.n c.requires.in_order c.requires.some (list_all (λ b. (b.first == c.args.a) || blocks_apart b (block_at c.args.a c.args.n)) (live_in_runs c.args.runs.now)) c.in-None.ensures
