use Rattle.std.proofs.Common.{◌≡◌, ◌<◌, ◌≤◌, true, take, drop, map, subst, sym, ap, ◌∙◌}
use Rattle.std.specs.List.{All, list_all}
use Rattle.mz_base.specs.Space.{Run, runs_apart}
use Rattle.mz_base.specs.Lists.{add_run}
use Rattle.mz_holding.specs.declared.held.Held.{Held}
use Rattle.mz_holding.specs.HeldRuns.{run_of_held, live_in_runs, AreRunsInOrder}
use Rattle.mz_holding.proofs.PutLemmas.{order_inserted, runs_inserted, live_inserted}
use Rattle.mz_holding.proofs.runs.insert_run.Goals as goal

pub returns-clause-in_order : goal.returns-clause-in_order
returns-clause-in_order c =
    let hs = c.args.runs.now.items in
    let i = c.count_to-i.result in
    let h = c.empty.result in
    let first : c.args.first ≡ h.first = ap (λ (r : Run). r.first) (sym c.empty.ensures.run) in
    let low : All (λ (g : Held). g.first ≤ h.first) (take i hs) = subst (λ f. All (λ (g : Held). g.first ≤ f) (take i hs)) first (subst (λ xs. All (λ (g : Held). g.first ≤ c.args.first) (take i xs)) c.deref.ensures.value c.count_to-i.ensures.below) in
    let high : All (λ (g : Held). h.first < g.first) (drop i hs) = subst (λ f. All (λ (g : Held). f < g.first) (drop i hs)) first (subst (λ xs. All (λ (g : Held). c.args.first < g.first) (drop i xs)) c.deref.ensures.value c.count_to-i.ensures.above) in
    let apart : list_all (λ t. runs_apart t (run_of_held h)) (map run_of_held hs) ≡ true = subst (λ r. list_all (λ t. runs_apart t r) (map run_of_held hs) ≡ true) (sym c.empty.ensures.run) c.requires.apart in
    subst AreRunsInOrder (sym c.in_ok-insert.ensures.items) (order_inserted hs i h c.requires.in_order low high apart)

pub returns-clause-blocks : goal.returns-clause-blocks
returns-clause-blocks c =
    let hs = c.args.runs.now.items in
    let i = c.count_to-i.result in
    let h = c.empty.result in
    let first : c.args.first ≡ h.first = ap (λ (r : Run). r.first) (sym c.empty.ensures.run) in
    let low : All (λ (g : Held). g.first ≤ h.first) (take i hs) = subst (λ f. All (λ (g : Held). g.first ≤ f) (take i hs)) first (subst (λ xs. All (λ (g : Held). g.first ≤ c.args.first) (take i xs)) c.deref.ensures.value c.count_to-i.ensures.below) in
    let high : All (λ (g : Held). h.first < g.first) (drop i hs) = subst (λ f. All (λ (g : Held). f < g.first) (drop i hs)) first (subst (λ xs. All (λ (g : Held). c.args.first < g.first) (drop i xs)) c.deref.ensures.value c.count_to-i.ensures.above) in
    let apart : list_all (λ t. runs_apart t (run_of_held h)) (map run_of_held hs) ≡ true = subst (λ r. list_all (λ t. runs_apart t r) (map run_of_held hs) ≡ true) (sym c.empty.ensures.run) c.requires.apart in
    ap live_in_runs c.in_ok-insert.ensures.items ∙ live_inserted hs i h c.requires.in_order low high apart c.empty.ensures.blocks

pub returns-clause-ok : goal.returns-clause-ok
returns-clause-ok c =
    let hs = c.args.runs.now.items in
    let i = c.count_to-i.result in
    let h = c.empty.result in
    let first : c.args.first ≡ h.first = ap (λ (r : Run). r.first) (sym c.empty.ensures.run) in
    let low : All (λ (g : Held). g.first ≤ h.first) (take i hs) = subst (λ f. All (λ (g : Held). g.first ≤ f) (take i hs)) first (subst (λ xs. All (λ (g : Held). g.first ≤ c.args.first) (take i xs)) c.deref.ensures.value c.count_to-i.ensures.below) in
    let high : All (λ (g : Held). h.first < g.first) (drop i hs) = subst (λ f. All (λ (g : Held). f < g.first) (drop i hs)) first (subst (λ xs. All (λ (g : Held). c.args.first < g.first) (drop i xs)) c.deref.ensures.value c.count_to-i.ensures.above) in
    let apart : list_all (λ t. runs_apart t (run_of_held h)) (map run_of_held hs) ≡ true = subst (λ r. list_all (λ t. runs_apart t r) (map run_of_held hs) ≡ true) (sym c.empty.ensures.run) c.requires.apart in
    ap (map run_of_held) c.in_ok-insert.ensures.items ∙ runs_inserted hs i h c.requires.in_order low high apart ∙ ap (λ r. add_run r (map run_of_held hs)) c.empty.ensures.run
