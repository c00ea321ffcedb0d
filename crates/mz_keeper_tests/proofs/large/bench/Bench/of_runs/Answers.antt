use Rattle.std.proofs.Common.{◌≡◌, ◌*◌, ◌<◌, ◌%◌, List, slice_index_or, refl, sym, ap, ◌∙◌, subst, arith}
use Rattle.std.specs.List.{All}
use Rattle.std.proofs.lemmas.List.Elements.{All-nil}
use Rattle.mz_base.specs.declared.range.TheConstants.{PAGE}
use Rattle.mz_ground.specs.Views.{SpanView}
use Rattle.mz_events.specs.Changes.{with_block, with_run}
use Rattle.mz_large.specs.Large.{block_of, run_of_span}
use Rattle.mz_events.specs.Standing.{LargeKept, IsOf}
use Rattle.mz_keeper_tests.proofs.CutRuns.{IsCutUp, IsCut, may-enter, entered-more}
use Rattle.mz_keeper_tests.proofs.large.bench.Bench.of_runs.Goals as goal
use Rattle.mz_keeper_tests.proofs.large.bench.Bench.of_runs.Goals.{then-pages-ge1+then-pages-len+then-first+in_ok-push, else-pages-ge1}

pub loop-pages-init : goal.loop-pages-init
loop-pages-init c =
    subst (λ (v : LargeKept). IsCutUp v c.new-spans.result.items c.args.space) (sym c.in_ok-large.ensures)
    (record {
      room = refl;
      no_space = refl;
      page = ap (λ n. n % 16384) c.requires;
      few = omega arith;
      below = refl;
      of_space = subst (All (λ (s : SpanView). s.space ≡ c.args.space.space)) (sym c.new-spans.ensures.items) (All-nil (λ (s : SpanView). s.space ≡ c.args.space.space));
    })

pub enter-requires : goal.enter-requires
enter-requires c =
    let n = slice_index_or c.args.lengths.now c.loop-pages.pages-index 0 in
    let split = c.split-run.ensures in
    let cut : IsCut c.loop-pages.rest c.split-run.result.0 c.split-run.result.1 (slice_index_or c.args.lengths.now c.loop-pages.pages-index 0) =
    record {
      some = c.if-pages-ge1.true;
      low = subst (λ a. a < 64 * PAGE) c.first.ensures.value c.if-first.true;
      first = split.front_first;
      long = split.front_len;
      behind = split.back_first;
      space = split.front_space;
      rest_space = split.back_space;
    } in
    let may = may-enter c.loop-pages.large c.loop-pages.spans.items c.loop-pages.rest c.split-run.result.0 c.split-run.result.1 n c.loop-pages.invariant cut in
    record { room = may.room; paged = may.paged; apart = may.apart }

pub loop-pages-preserved : goal.loop-pages-preserved
loop-pages-preserved c =
    elim c.if-pages-ge1.branch [
      | then-pages-ge1+then-pages-len+then-first+in_ok-push w ↦
          let split = w.split-run.ensures in
          let cut : IsCut c.loop-pages.rest w.split-run.result.0 w.split-run.result.1 (slice_index_or c.args.lengths.now c.loop-pages.pages-index 0) =
          record {
            some = w.if-pages-ge1.true;
            low = subst (λ a. a < 64 * PAGE) w.first.ensures.value w.if-first.true;
            first = split.front_first;
            long = split.front_len;
            behind = split.back_first;
            space = split.front_space;
            rest_space = split.back_space;
          } in
          let items : c.if-pages-ge1.spans.items ≡ w.push.new.self.items = cc in
          subst (λ (v : LargeKept). IsCutUp v c.if-pages-ge1.spans.items c.if-pages-ge1.rest) (sym (w.large-is ∙ w.enter.ensures))
          (subst (λ (s : SpanView). IsCutUp (record c.loop-pages.large { kept = with_block (block_of w.split-run.result.0) (with_run (run_of_span w.split-run.result.0) c.loop-pages.large.kept) }) c.if-pages-ge1.spans.items s) (sym w.rest-is)
          (entered-more c.loop-pages.large c.loop-pages.spans.items c.if-pages-ge1.spans.items c.loop-pages.rest w.split-run.result.0 w.split-run.result.1 (slice_index_or c.args.lengths.now c.loop-pages.pages-index 0) c.loop-pages.invariant cut (items ∙ w.in_ok-push.ensures.items)))
      | else-pages-ge1 w ↦
          let items : c.if-pages-ge1.spans.items ≡ c.loop-pages.spans.items = cc in
          subst (λ (v : LargeKept). IsCutUp v c.if-pages-ge1.spans.items c.if-pages-ge1.rest) (sym w.large-is)
          (subst (λ (s : SpanView). IsCutUp c.loop-pages.large c.if-pages-ge1.spans.items s) (sym w.rest-is)
          (subst (λ (l : List SpanView). IsCutUp c.loop-pages.large l c.loop-pages.rest) (sym items) c.loop-pages.invariant))
    ]

pub invariant_of-result : goal.invariant_of-result
invariant_of-result c = (subst (λ o. IsOf o c.loop-pages.rest.space) (sym c.loop-pages.invariant.no_space) tt, c.loop-pages.invariant.of_space)
