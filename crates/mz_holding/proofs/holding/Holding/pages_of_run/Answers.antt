use Rattle.std.proofs.Common.{◌≡◌, true, map, subst, sym, ap, ◌∙◌}
use Rattle.std.specs.Prelude.{◌==◌}
use Rattle.std.specs.List.{list_any}
use Rattle.mz_base.specs.Space.{run_at}
use Rattle.mz_events.specs.State.{Kept}
use Rattle.mz_events.specs.Changes.{region_at}
use Rattle.mz_holding.specs.HeldRuns.{run_of_held}
use Rattle.mz_holding.proofs.RunLemmas.{contains_in}
use Rattle.mz_holding.proofs.QueryLemmas.{index_found, page_found, region_there, region_begins, region_is}
use Rattle.mz_holding.proofs.holding.Holding.pages_of_run.Goals as goal

pub unwrap-i-requires : goal.unwrap-i-requires
unwrap-i-requires c =
    let hs = c.self.inside.runs.items in
    let there : list_any (λ r. r.first == c.args.first) (map run_of_held c.self.inside.runs.items) ≡ true = subst (λ (k : Kept). list_any (λ r. r.first == c.args.first) k.runs ≡ true) (sym c.self.view_is) c.requires in
    page_found hs c.deref.result.now c.args.first c.index_with.result c.deref.ensures.value c.index_with.ensures.none (region_there hs c.args.first there)

pub returns : goal.returns
returns c =
    let hs = c.self.inside.runs.items in
    let there : list_any (λ r. r.first == c.args.first) (map run_of_held c.self.inside.runs.items) ≡ true = subst (λ (k : Kept). list_any (λ r. r.first == c.args.first) k.runs ≡ true) (sym c.self.view_is) c.requires in
    let h = c.index.result.now in
    let found = index_found hs c.deref.result.now c.args.first c.unwrap-i.result c.index_with.result h c.deref.ensures.value c.index_with.ensures.some c.unwrap-i.ensures c.index.ensures in
    let isin = contains_in hs h found.1.0 in
    let at : h.first ≡ c.args.first = region_begins hs h c.args.first c.self.invariant.in_order isin found.1.1 found.1.2 there in
    ap (λ f. run_at f c.pages.result) (sym at) ∙ ap (λ w. run_at h.first w) c.pages.ensures
    ∙ region_is hs h c.args.first c.self.invariant.in_order isin at ∙ ap (λ (k : Kept). region_at k.runs c.args.first) c.self.view_is
