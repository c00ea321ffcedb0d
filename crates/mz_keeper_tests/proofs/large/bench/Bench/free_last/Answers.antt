use Rattle.std.proofs.Common.{◌≡◌, sym, subst}
use Rattle.std.specs.List.{All}
use Rattle.mz_ground.specs.Views.{SpanView}
use Rattle.mz_events.specs.Standing.{LargeKept, IsOf}
use Rattle.mz_keeper_tests.proofs.CutRuns.{space-after-free, but-last, last-one}
use Rattle.mz_keeper_tests.proofs.large.bench.Bench.free_last.Goals as goal

pub invariant_of-self-in-Ok : goal.invariant_of-self-in-Ok
invariant_of-self-in-Ok c =
    let x = c.self.inside.rest.space in
    let all = subst (All (λ (s : SpanView). s.space ≡ x)) c.in_ok-span.ensures.items c.self.invariant.1 in
    let of = last-one (λ (s : SpanView). s.space ≡ x) c.pop.new.self.items c.in_ok-span.span all in
    (space-after-free c.self.inside.large c.free.new.self c.in_ok-span.span c.in-Ok.out x of c.in-Ok.ensures.1, but-last (λ (s : SpanView). s.space ≡ x) c.pop.new.self.items c.in_ok-span.span all)

pub invariant_of-self-2 : goal.invariant_of-self-2
invariant_of-self-2 c =
    let x = c.self.inside.rest.space in
    let all = subst (All (λ (s : SpanView). s.space ≡ x)) c.in_ok-span.ensures.items c.self.invariant.1 in
    (subst (λ (v : LargeKept). IsOf v.space x) (sym c.in-Err.ensures.1) c.self.invariant.0, but-last (λ (s : SpanView). s.space ≡ x) c.pop.new.self.items c.in_ok-span.span all)
