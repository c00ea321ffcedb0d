use Rattle.std.proofs.Common.{◌≡◌, ◌*◌, ◌/◌, Bool, true, Some, map, sym, ap, ◌∙◌, subst, inl, inr}
use Rattle.std.specs.Prelude.{◌==◌, fold}
use Rattle.std.specs.List.{list_any, list_all}
use Rattle.std.proofs.lemmas.Bool.{cases_Bool, cond-true, cond-false}
use Rattle.mz_base.specs.declared.range.TheConstants.{PAGE}
use Rattle.mz_base.specs.Space.{runs_apart}
use Rattle.mz_base.specs.Lists.{add_block}
use Rattle.mz_events.specs.Changes.{with_region}
use Rattle.mz_events.specs.Standing.{RegionsKept}
use Rattle.mz_magazine.specs.Row.{RowView, with_region_at}
use Rattle.mz_magazine.specs.Keeping.{run_from, keeping_of, IsIdleFreed}
use Rattle.mz_magazine.proofs.Adopting.{none_at_run, insert_runs, idle_adopted}
use Rattle.mz_magazine.proofs.magazine.Magazine.adopt.Goals as goal

pub returns-clause-rest : goal.returns-clause-rest
returns-clause-rest g c =
    let i = c.self.inside in
    let k = (keeping_of g.row.Q g.row.N i.depot c.insert.new.self i.last_freed).kept in
    ap (λ x. record { depot = i.depot; quantum = g.row.Q; pages = g.row.Q * g.row.N / PAGE; room = x; space = c.insert.new.self.space; kept = k }) c.insert.ensures.room
    ∙ ap (λ x. record { depot = i.depot; quantum = g.row.Q; pages = g.row.Q * g.row.N / PAGE; room = i.row.room; space = x; kept = k }) c.insert.ensures.space
    ∙ ap (λ (v : RegionsKept). record v { space = Some c.args.r.space; kept = k }) c.self.view_is

pub returns-clause-adopted : goal.returns-clause-adopted
returns-clause-adopted g c = λ whole.
    let i = c.self.inside in
    let r = c.args.r in
    let apart : list_all (λ t. runs_apart t (run_from g.row.Q g.row.N r.first)) (map (run_from g.row.Q g.row.N) i.row.firsts) ≡ true =
    ap (λ (v : RegionsKept). list_all (λ t. runs_apart t (run_from g.row.Q g.row.N c.args.r.first)) v.kept.runs) c.self.view_is ∙ c.requires.apart whole in
    let none = none_at_run g.row.Q g.row.N r.first i.row.firsts whole apart in
    let runs = insert_runs g.row.Q g.row.N r.first i.row.firsts whole (c.insert.ensures.is).at (c.len-regions.ensures.is).aligned in
    let old = keeping_of g.row.Q g.row.N i.depot i.row i.last_freed in
    ap (λ (v : RowView). keeping_of g.row.Q g.row.N i.depot v i.last_freed) (c.insert.ensures.inserted ∙ cond-false (list_any (λ a. a == c.args.r.first) i.row.firsts) i.row (with_region_at c.args.r i.row) none)
    ∙ ap (λ rs. record old { space = Some r.space; kept = record old.kept { runs = rs; live = fold (λ bs b. add_block b bs) i.row.live r.live } }) runs
    ∙ ap (λ (v : RegionsKept). record v { space = Some r.space; kept = with_region (run_from g.row.Q g.row.N r.first) r.live v.kept }) c.self.view_is

pub invariant_of-self : goal.invariant_of-self
invariant_of-self g c =
    let i = c.self.inside in
    let there : Bool = list_any (λ a. a == c.args.r.first) i.row.firsts in
    elim (cases_Bool (list_any (λ a. a == c.args.r.first) i.row.firsts)) [
      | inl begins ↦
          subst (λ (v : RowView). IsIdleFreed g.row.Q g.row.N v i.last_freed)
          (sym (c.insert.ensures.inserted ∙ cond-true (list_any (λ a. a == c.args.r.first) i.row.firsts) i.row (with_region_at c.args.r i.row) begins)) c.self.invariant
      | inr none ↦
          subst (λ (v : RowView). IsIdleFreed g.row.Q g.row.N v i.last_freed)
          (sym (c.insert.ensures.inserted ∙ cond-false (list_any (λ a. a == c.args.r.first) i.row.firsts) i.row (with_region_at c.args.r i.row) none))
          (idle_adopted g.row.Q g.row.N i.row c.args.r i.last_freed (c.len-regions.ensures.is).aligned c.insert.ensures.is c.self.invariant none)
    ]
