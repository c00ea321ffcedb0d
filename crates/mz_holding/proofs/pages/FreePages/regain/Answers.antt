use Rattle.std.proofs.Common.{ℕ, ◌-◌, refl, ap, ◌∙◌}
use Rattle.std.specs.Prelude.{not}
use Rattle.mz_base.specs.Space.{run_at, same_run}
use Rattle.mz_events.specs.Changes.{pages_with}
use Rattle.mz_holding.specs.TakenPages.{are_orderly, runs_of, is_other}
use Rattle.mz_holding.proofs.TakenLemmas.{orderly_fewer, runs_fewer, pages_same}
use Rattle.mz_holding.proofs.pages.FreePages.regain.Goals as goal

pub invariant_of-self : goal.invariant_of-self
invariant_of-self c = ap (are_orderly 0) c.drop_run.ensures ∙ orderly_fewer (is_other c.args.first c.args.pages) 0 c.self.inside.taken.items c.self.invariant

pub returns : goal.returns
returns c =
    let i = c.self.inside in
    let items = ap runs_of c.drop_run.ensures ∙ runs_fewer (is_other c.args.first c.args.pages) (λ t. not (same_run (run_at c.args.first c.args.pages) t)) i.taken.items (λ t. refl) in
    pages_same _ _ _ _ _ _ items (c.saturating_sub-self-inside.ensures ∙ ap (λ (n : ℕ). i.tiny - n) c.counts_of-tiny.ensures.tiny) (c.saturating_sub-self-inside-2.ensures ∙ ap (λ (n : ℕ). i.small - n) c.counts_of-tiny.ensures.small)
    ∙ ap (pages_with c.args.q (run_at c.args.first c.args.pages)) c.self.view_is
