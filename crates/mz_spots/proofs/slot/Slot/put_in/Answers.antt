use Rattle.std.proofs.Common.{ap, ◌∙◌}
use Rattle.mz_base.specs.Space.{run_at}
use Rattle.mz_base.specs.Lists.{has_run, add_run}
use Rattle.mz_events.specs.State.{Kept}
use Rattle.mz_holding.specs.HeldRuns.{run_of_held}
use Rattle.mz_spots.proofs.RunLemmas.{added}
use Rattle.mz_spots.proofs.slot.Slot.put_in.Goals as goal

pub fill_run-requires-clause-there : goal.fill_run-requires-clause-there
fill_run-requires-clause-there c =
    let runs = c.in-Held.holding.runs in
    let r = run_of_held c.args.held in
    ap (λ (k : Kept). has_run k.runs r) c.in_ok-add_run-in-Held.ensures.ok
    ∙ ap (λ f. has_run (add_run (run_at f c.pages.result) runs) r) c.first.ensures
    ∙ ap (λ w. has_run (add_run (run_at c.args.held.first w) runs) r) c.pages.ensures
    ∙ added r runs
