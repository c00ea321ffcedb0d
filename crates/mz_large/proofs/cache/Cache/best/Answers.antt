use Rattle.std.proofs.Common.{◌≡◌, suc, ◌-◌, ◌/◌, ◌<◌, None, Some, length, map, get_or, sym, ap, ◌∙◌, subst, arith}
use Rattle.mz_base.specs.declared.range.TheConstants.{PAGE}
use Rattle.mz_base.specs.Space.{run_at}
use Rattle.mz_ground.specs.Views.{SpanView}
use Rattle.mz_events.specs.Room.{best_fit, run_fits}
use Rattle.mz_large.specs.Large.{run_of_span}
use Rattle.mz_large.specs.Best.{IsBestFrom, fewer_of}
use Rattle.mz_large.proofs.Fits.{best-start, best-past, best-here}
use Rattle.mz_large.proofs.cache.Cache.best.Goals as goal

pub loop-i-init : goal.loop-i-init
loop-i-init c =
    let i = c.self.inside in
    let ok = i.spans.ok in
    let n = c.len-i.ensures in
    let e : length i.spans.items ≡ c.len-i.result = omega arith in
    subst (λ k. IsBestFrom i.spans.items c.args.w k None) e (best-start i.spans.items c.args.w)

pub index-requires : goal.index-requires
index-requires c =
    let within = c.loop-i.invariant.within in
    let ok = c.self.inside.spans.ok in
    let more = c.loop-i-test.true in
    omega arith

pub loop-i-preserved-then-fits : goal.loop-i-preserved-then-fits
loop-i-preserved-then-fits c =
    let i = c.self.inside in
    let pages : c.len-pages.result / PAGE ≡ (run_of_span c.index.result.now).pages = ap (λ n. n / PAGE) c.len-pages.ensures.value in
    let more = c.loop-i-test.true in
    let k : c.loop-i.i ≡ suc (c.loop-i.i - 1) = omega arith in
    let was : IsBestFrom i.spans.items c.args.w (suc (c.loop-i.i - 1)) c.loop-i.best = subst (λ n. IsBestFrom i.spans.items c.args.w n c.loop-i.best) k c.loop-i.invariant in
    let test : run_fits c.args.w (run_of_span c.index.result.now) ≡ c.fits.result = ap (λ n. run_fits c.args.w (run_at (c.index.result.now.first / PAGE) n)) (sym pages) ∙ sym (c.fits.ensures (c.index.result.now.first / PAGE)) in
    subst (λ q. IsBestFrom i.spans.items c.args.w (c.loop-i.i - 1) (Some q)) (sym (c.fewer.ensures ∙ ap (λ n. fewer_of c.loop-i.best (c.loop-i.i - 1, n)) pages))
    (best-here i.spans.items c.args.w (c.loop-i.i - 1) c.loop-i.best c.index.result.now was c.index.ensures (test ∙ c.if-fits.true))

pub loop-i-preserved : goal.loop-i-preserved
loop-i-preserved c =
    let i = c.self.inside in
    let pages : c.len-pages.result / PAGE ≡ (run_of_span c.index.result.now).pages = ap (λ n. n / PAGE) c.len-pages.ensures.value in
    let more = c.loop-i-test.true in
    let k : c.loop-i.i ≡ suc (c.loop-i.i - 1) = omega arith in
    let was : IsBestFrom i.spans.items c.args.w (suc (c.loop-i.i - 1)) c.loop-i.best = subst (λ n. IsBestFrom i.spans.items c.args.w n c.loop-i.best) k c.loop-i.invariant in
    let test : run_fits c.args.w (run_of_span c.index.result.now) ≡ c.fits.result = ap (λ n. run_fits c.args.w (run_at (c.index.result.now.first / PAGE) n)) (sym pages) ∙ sym (c.fits.ensures (c.index.result.now.first / PAGE)) in
    best-past i.spans.items c.args.w (c.loop-i.i - 1) c.loop-i.best c.index.result.now was c.index.ensures (test ∙ c.if-fits.false)

pub returns-in-Some : goal.returns-in-Some
returns-in-Some c =
    let i = c.self.inside in
    let none = c.loop-i-test.false in
    let k : c.loop-i.i ≡ 0 = omega arith in
    let was : IsBestFrom i.spans.items c.args.w 0 c.loop-i.best = subst (λ n. IsBestFrom i.spans.items c.args.w n c.loop-i.best) k c.loop-i.invariant in
    let says = (subst (λ o. IsBestFrom i.spans.items c.args.w 0 o) c.in-Some.is was).says in
    subst (λ l. (c.in-Some.place < length l) × ((d : SpanView) → best_fit (map run_of_span l) c.args.w ≡ Some (run_of_span (get_or l c.in-Some.place d)))) c.self.view_is (says.0, λ d. (says.1 d).0)

pub returns-in-None : goal.returns-in-None
returns-in-None c =
    let i = c.self.inside in
    let none = c.loop-i-test.false in
    let k : c.loop-i.i ≡ 0 = omega arith in
    let was : IsBestFrom i.spans.items c.args.w 0 c.loop-i.best = subst (λ n. IsBestFrom i.spans.items c.args.w n c.loop-i.best) k c.loop-i.invariant in
    let says = (subst (λ o. IsBestFrom i.spans.items c.args.w 0 o) c.in-None.is was).says in
    subst (λ l. best_fit (map run_of_span l) c.args.w ≡ None) c.self.view_is says
