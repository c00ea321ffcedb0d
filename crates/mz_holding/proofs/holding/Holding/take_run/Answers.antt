use Rattle.std.proofs.Common.{◌≡◌, ◌*◌, true, map, subst, ap, ◌∙◌, arith}
use Rattle.std.specs.Option.{option_map}
use Rattle.mz_base.specs.Space.{Run, run_at, block_at}
use Rattle.mz_base.specs.Lists.{has_run, drop_run}
use Rattle.mz_events.specs.State.{Kept}
use Rattle.mz_events.specs.Changes.{region_at, without_run, still_freed}
use Rattle.mz_holding.specs.HeldRuns.{block_of, run_of_extent, run_of_held, live_in_runs, kept_in}
use Rattle.mz_holding.proofs.KeptLemmas.{parts_same}
use Rattle.mz_holding.proofs.TakeLemmas.{region_named}
use Rattle.mz_holding.proofs.holding.Holding.take_run.Goals as goal

pub still_freed-self-inside-requires-clause-within : goal.still_freed-self-inside-requires-clause-within
still_freed-self-inside-requires-clause-within c =
    let limit = c.take_run-held.result.sound.1 in
    let first = c.first.ensures in
    let pages = c.pages.ensures in
    omega arith

pub returns-clause-left : goal.returns-clause-left
returns-clause-left c =
    let hs = c.self.inside.runs.items in
    let gs = c.take_run-held.new.runs.items in
    let h = c.take_run-held.result in
    let freed = option_map block_of c.self.inside.freed in
    let cached = map run_of_extent c.self.inside.cached.items in
    let old : Kept = kept_in hs c.self.inside.freed c.self.inside.cached.items in
    let after : Kept = without_run (run_of_held h) old in
    parts_same (map run_of_held gs) after.runs (live_in_runs gs) after.live (option_map block_of c.still_freed-self-inside.result) after.last_freed (map run_of_extent c.forget_run.new.cached.items) after.cached
    c.take_run-held.ensures.runs
    c.take_run-held.ensures.live
    (c.still_freed-self-inside.ensures.is ∙ ap (λ f. still_freed (block_at (f * 16384) (c.pages.result * 16384)) freed) c.first.ensures ∙ ap (λ w. still_freed (block_at (h.first * 16384) (w * 16384)) freed) c.pages.ensures)
    (c.forget_run.ensures ∙ ap (λ f. drop_run (run_at f c.pages-2.result) cached) c.first-2.ensures ∙ ap (λ w. drop_run (run_at h.first w) cached) c.pages-2.ensures)
    ∙ ap (λ (r : Run). without_run r old) c.take_run-held.ensures.run
    ∙ ap (λ (k : Kept). without_run (region_at k.runs c.args.first) k) c.self.view_is

pub returns-clause-named : goal.returns-clause-named
returns-clause-named c = λ w. subst (λ (k : Kept). has_run k.runs (run_at c.args.first w) ≡ true → region_at k.runs c.args.first ≡ run_at c.args.first w) c.self.view_is (region_named c.self.inside.runs.items c.args.first w c.self.invariant.in_order)
