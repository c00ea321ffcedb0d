use Rattle.std.proofs.Common.{◌≡◌, ℕ, ◌+◌, ap, sym, ◌∙◌, subst, true, arith}
use Rattle.std.specs.List.{list_all}
use Rattle.mz_base.specs.Space.{run_at, runs_apart}
use Rattle.mz_events.specs.State.{Kept}
use Rattle.mz_events.specs.Changes.{pages_without}
use Rattle.mz_holding.specs.declared.pages.Taken.{Taken}
use Rattle.mz_holding.specs.TakenPages.{are_orderly, runs_of}
use Rattle.mz_holding.proofs.TakenLemmas.{orderly_more, runs_more, pages_same}
use Rattle.mz_holding.proofs.pages.FreePages.lend.Goals as goal

pub invariant_of-self-2 : goal.invariant_of-self-2
invariant_of-self-2 c =
    let t : Taken = record { first = c.args.first; pages = c.args.pages } in
    let is = c.in_ok-insert_run.ensures.ok in
    let apart = subst (λ (k : Kept). list_all (λ u. runs_apart u (run_at c.args.first c.args.pages)) k.taken ≡ true) (sym c.self.view_is) c.requires.apart in
    ap (are_orderly 0) is ∙ orderly_more 0 t c.self.inside.taken.items (omega arith) c.requires.some c.requires.within c.self.invariant apart

pub returns-clause-ok : goal.returns-clause-ok
returns-clause-ok c =
    let t : Taken = record { first = c.args.first; pages = c.args.pages } in
    let i = c.self.inside in
    let items = ap runs_of c.in_ok-insert_run.ensures.ok ∙ runs_more t i.taken.items in
    pages_same _ _ _ _ _ _ items (c.in_ok-tiny.ensures ∙ ap (λ (n : ℕ). i.tiny + n) c.counts_of-tiny.ensures.tiny) (c.in_ok-small.ensures ∙ ap (λ (n : ℕ). i.small + n) c.counts_of-tiny.ensures.small)
    ∙ ap (pages_without c.args.q (run_at c.args.first c.args.pages)) c.self.view_is
