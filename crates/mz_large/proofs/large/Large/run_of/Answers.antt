use Rattle.std.proofs.Common.{◌≡◌, ℕ, ◌^◌, ◌/◌, [], Some, None, Option, get_or, sym, ap, ◌∙◌}
use Rattle.std.specs.Prelude.{find}
use Rattle.std.specs.Option.{option_map}
use Rattle.std.proofs.lemmas.List.{get_or_default}
use Rattle.mz_base.specs.declared.range.TheConstants.{PAGE}
use Rattle.mz_base.specs.Space.{Block, Run}
use Rattle.mz_ground.specs.Views.{SpanView}
use Rattle.mz_events.specs.Separation.{has_page}
use Rattle.mz_events.specs.Standing.{LargeKept}
use Rattle.mz_large.proofs.Finding.{found-live, found-cached, found-nowhere}
use Rattle.mz_large.proofs.large.Large.run_of.Goals as goal

abbrev pair : Run → ℕ × ℕ
pair r = (r.first, r.pages)

-- what is found among the runs is what is found among those that are seen
seen : (v now : LargeKept) (page : ℕ) (o : Option Run) → v ≡ now → find (λ r. has_page r page) v.kept.runs ≡ o → option_map pair o ≡ option_map pair (find (λ r. has_page r page) now.kept.runs)
seen v now page o view is = ap (option_map pair) (sym is ∙ ap (λ (w : LargeKept). find (λ r. has_page r page) w.kept.runs) view)

pub returns-in-Some : goal.returns-in-Some
returns-in-Some c =
    let i = c.self.inside in
    ap (λ (b : Block). Some (b.first / PAGE, b.size / PAGE)) c.block.view_is
    ∙ seen _ c.args.self.now c.args.page _ c.self.view_is (found-live (2 ^ 63) i.live.blocks i.cache c.args.page c.in-Some.block c.self.invariant.tiled c.in-Some.ensures.0 c.in-Some.ensures.1)

pub returns-in_err-i : goal.returns-in_err-i
returns-in_err-i c =
    let i = c.self.inside in
    c.from_residual.ensures ∙ seen _ c.args.self.now c.args.page None c.self.view_is (found-nowhere i.live.blocks i.cache c.args.page c.in_default.ensures c.in_err-i.ensures)

nothing : SpanView
nothing = record { space = record { name = 0; block = 0; origin = 0; size = 0 }; first = 0; bytes = [] }

pub returns : goal.returns
returns c =
    let i = c.self.inside in
    let s : SpanView = get_or i.cache c.in_ok-i.i nothing in
    let within = c.in_ok-i.ensures.0 in
    ap (λ r. Some (pair r)) (c.pages.ensures nothing)
    ∙ seen _ c.args.self.now c.args.page _ c.self.view_is
    (found-cached (2 ^ 63) i.live.blocks i.cache c.args.page c.in_ok-i.i (get_or i.cache c.in_ok-i.i nothing) c.self.invariant.tiled within (λ d. get_or_default i.cache c.in_ok-i.i d nothing within) (c.in_ok-i.ensures.1 nothing))
