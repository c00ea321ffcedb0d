use Rattle.std.proofs.Common.{◌∙◌}
use Rattle.mz_holding.proofs.RunLemmas.{contains_in}
use Rattle.mz_holding.proofs.QueryLemmas.{run_here, run_nowhere}
use Rattle.mz_holding.proofs.runs.has_run.Goals as goal

pub returns-in-Some : goal.returns-in-Some
returns-in-Some c =
    let has = c.in-Some.ensures in
    let isin = contains_in c.args.runs.now c.in-Some.held.now has.0 in
    c.is_run.ensures ∙ run_here c.args.runs.now c.in-Some.held.now c.args.first c.args.pages c.requires isin has.1 has.2

pub returns-in-None : goal.returns-in-None
returns-in-None c = run_nowhere c.args.runs.now c.args.first c.args.pages c.in-None.ensures
