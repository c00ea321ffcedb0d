use Rattle.std.proofs.Common.{◌≡◌, ℕ, ◌*◌, ◌/◌, ◌%◌, Bool, None, length, map, sym, ap, ◌∙◌}
use Rattle.std.proofs.lemmas.List.{length-map}
use Rattle.mz_base.specs.Space.{block_at, block_end}
use Rattle.mz_events.specs.Standing.{RegionsKept}
use Rattle.mz_magazine.specs.Row.{RowView}
use Rattle.mz_magazine.specs.Keeping.{run_from, keeping_of}
use Rattle.std.specs.Prelude.{◌==◌, not, filter, if◌then◌else◌}
use Rattle.mz_base.specs.Space.{blocks_apart, bytes_of, same_run}
use Rattle.mz_base.specs.Lists.{has_run, blocks_in, drop_run}
use Rattle.mz_events.specs.Changes.{without_run}
use Rattle.mz_base.specs.Room.{lies_within}
use Rattle.mz_magazine.proofs.Idle.{among}
use Rattle.std.proofs.lemmas.Bool.{eqb-true}
use Rattle.std.specs.List.{list_any}
use Rattle.std.proofs.lemmas.Bool.{false≢true}
use Rattle.std.proofs.lemmas.List.Elements.{All-weaker}
use Rattle.mz_base.specs.Space.{Run}
use Rattle.mz_base.specs.declared.range.TheConstants.{PAGE}
use Rattle.mz_magazine.proofs.KeepingRuns.{any_runs, pages_of, AlignedAt, same_runs, filter_runs, at_run}
use Rattle.mz_events.specs.Changes.{still_freed}
use Rattle.mz_magazine.specs.Keeping.{freed_at}
use Rattle.mz_magazine.proofs.KeepingFreed.{idle_without}
use Rattle.mz_magazine.proofs.magazine.Magazine.yield_region.Goals as goal

pub returns-in_default-clause-exact : goal.returns-in_default-clause-exact
returns-in_default-clause-exact g c = λ whole there.
    let i = c.self.inside in
    let begins : ℕ → Bool = λ a. a == c.args.first in
    let test : Run → Bool = λ t. t.first * PAGE == c.args.first in
    let same = any_runs g.row.Q g.row.N test begins i.row.firsts
    (All-weaker (AlignedAt g.row.Q g.row.N) (λ a. test (run_from g.row.Q g.row.N a) ≡ begins a) (λ a at. ap begins (pages_of g.row.Q g.row.N a whole at).first) i.row.firsts (c.len-regions.ensures.is).aligned) in
    false≢true (sym (c.in_default.ensures.exact whole.1) ∙ sym same ∙ ap (λ (v : RegionsKept). list_any test v.kept.runs) c.self.view_is ∙ there)

pub invariant_of-self-2 : goal.invariant_of-self-2
invariant_of-self-2 g c =
    let i = c.self.inside in
    idle_without g.row.Q g.row.N i.row c.remove.new.self i.last_freed c.apart_from-self-inside.result c.args.first c.self.invariant c.apart_from-self-inside.ensures.was (λ some. (c.in-Some.ensures.exact some).1) c.apart_from-self-inside.ensures.still

pub returns-clause-yielded : goal.returns-clause-yielded
returns-clause-yielded g c =
    let i = c.self.inside in
    let said = c.in-Some.ensures.removed in
    let k = (keeping_of g.row.Q g.row.N i.depot c.remove.new.self c.apart_from-self-inside.result).kept in (
      said.0,
      ap (λ (v : RegionsKept). v.space) (sym c.self.view_is) ∙ said.1,
      ap (λ (v : RowView). record { depot = i.depot; quantum = g.row.Q; pages = g.row.Q * g.row.N / PAGE; room = v.room; space = v.space; kept = k }) said.3
          ∙ ap (λ n. record { depot = i.depot; quantum = g.row.Q; pages = g.row.Q * g.row.N / PAGE; room = i.row.room; space = (if n == 0 then None else i.row.space); kept = k }) (sym (length-map c.remove.new.self.firsts (run_from g.row.Q g.row.N)))
          ∙ ap (λ (v : RegionsKept). record v { space = (if length k.runs == 0 then None else v.space); kept = k }) c.self.view_is,
    )

pub returns-clause-exact : goal.returns-clause-exact
returns-clause-exact g c = λ whole.
    let i = c.self.inside in
    let said = c.in-Some.ensures.exact whole.1 in
    let run = run_from g.row.Q g.row.N c.args.first in
    let b = block_at c.args.first (g.row.Q * g.row.N) in
    let old = (keeping_of g.row.Q g.row.N i.depot i.row i.last_freed).kept in
    let left = c.apart_from-self-inside.result in
    let found = among (AlignedAt g.row.Q g.row.N) (λ a. a == c.args.first) i.row.firsts (c.len-regions.ensures.is).aligned said.0 in
    let at : c.args.first % (g.row.Q * g.row.N) ≡ 0 = ap (λ x. x % (g.row.Q * g.row.N)) (sym (eqb-true found.0 c.args.first found.2)) ∙ found.1 in
    let is = pages_of g.row.Q g.row.N c.args.first whole at in
    let same : (a : ℕ) → AlignedAt g.row.Q g.row.N a → same_run run (run_from g.row.Q g.row.N a) ≡ (a == c.args.first) = λ a aligned. same_runs g.row.Q g.row.N c.args.first a is (pages_of g.row.Q g.row.N a whole aligned) in
    let bytes : bytes_of run ≡ b = ap (λ s. record { first = s; size = g.row.Q * g.row.N / PAGE * PAGE }) is.first ∙ ap (λ n. record { first = c.args.first; size = n }) is.bytes in
    let runs : drop_run run old.runs ≡ map (run_from g.row.Q g.row.N) (filter (λ f. not (f == c.args.first)) i.row.firsts) =
    filter_runs g.row.Q g.row.N (λ t. not (same_run run t)) (λ f. not (f == c.args.first)) i.row.firsts
    (All-weaker (AlignedAt g.row.Q g.row.N) (λ a. not (same_run run (run_from g.row.Q g.row.N a)) ≡ not (a == c.args.first)) (λ a aligned. ap not (same a aligned)) i.row.firsts (c.len-regions.ensures.is).aligned) in (
      ap (λ (v : RegionsKept). has_run v.kept.runs run) (sym c.self.view_is)
          ∙ any_runs g.row.Q g.row.N (same_run run) (λ a. a == c.args.first) i.row.firsts (All-weaker (AlignedAt g.row.Q g.row.N) (λ a. same_run run (run_from g.row.Q g.row.N a) ≡ (a == c.args.first)) same i.row.firsts (c.len-regions.ensures.is).aligned) ∙ said.0,
      c.in-Some.ensures.removed.2 ∙ sym (at_run g.row.Q g.row.N c.args.first (λ s e. filter (λ d. lies_within s e d.first (block_end d)) i.row.live) is) ∙ ap (λ (v : RegionsKept). blocks_in v.kept.live run) c.self.view_is,
      ap (λ (v : RowView). (keeping_of g.row.Q g.row.N i.depot v left).kept) said.1
          ∙ ap (λ rs. record old { runs = rs; live = filter (λ d. blocks_apart d b) i.row.live; last_freed = freed_at left }) (sym runs)
          ∙ ap (λ f. record old { runs = drop_run run old.runs; live = filter (λ d. blocks_apart d b) i.row.live; last_freed = f }) (c.apart_from-self-inside.ensures.still whole.1)
          ∙ ap (λ d. record old { runs = drop_run run old.runs; live = filter (λ x. blocks_apart x d) i.row.live; last_freed = still_freed d (freed_at i.last_freed) }) (sym bytes)
          ∙ ap (λ (v : RegionsKept). without_run run v.kept) c.self.view_is,
    )
