use Rattle.std.proofs.Common.{◌-◌, ◌*◌, ◌/◌, List, sym, ap, ◌∙◌, arith}
use Rattle.std.specs.Prelude.{◌&&◌, map, sum_by, nat_lt}
use Rattle.std.specs.List.{list_any}
use Rattle.mz_base.specs.Lists.{run_bytes}
use Rattle.mz_holding.specs.declared.held.Held.{Held}
use Rattle.mz_events.specs.Duties.{is_in_excess}
use Rattle.mz_holding.specs.HeldRuns.{run_of_held}
use Rattle.mz_holding.proofs.OrderLemmas.{total_fits}
use Rattle.mz_holding.proofs.QueryLemmas.{used_sum, used_total, excess_is}
use Rattle.mz_holding.proofs.holding.Holding.is_in_excess.Goals as goal

pub overflow_sub-all : goal.overflow_sub-all
overflow_sub-all c =
    let total = c.bytes_of_runs-all.ensures ∙ ap (λ (xs : List Held). sum_by run_bytes (map run_of_held xs)) c.deref.ensures.value in
    let fits = used_total c.self.inside.runs.items in
    let is = c.self.invariant.all in
    omega arith

pub is_some_exceeded-requires : goal.is_some_exceeded-requires
is_some_exceeded-requires c =
    let total = c.bytes_of_runs-all.ensures ∙ ap (λ (xs : List Held). sum_by run_bytes (map run_of_held xs)) c.deref.ensures.value in
    let fits = total_fits c.self.inside.runs.items c.self.invariant.in_order in
    omega arith

pub returns-then-is_some_exceeded : goal.returns-then-is_some_exceeded
returns-then-is_some_exceeded c =
    let total = c.bytes_of_runs-all.ensures ∙ ap (λ (xs : List Held). sum_by run_bytes (map run_of_held xs)) c.deref.ensures.value in
    let many = c.is_some_exceeded.ensures ∙ ap (λ (xs : List Held). list_any (λ h. nat_lt (3 * run_bytes (run_of_held h)) (2 * (c.bytes_of_runs-all.result - c.self.inside.used))) xs) c.deref-2.ensures.value in
    ap (λ t. t && nat_lt c.self.inside.used (c.bytes_of_runs-all.result - c.bytes_of_runs-all.result / 4)) (sym c.if-is_some_exceeded.true ∙ many)
    ∙ excess_is c.self.inside.runs.items c.self.inside.freed c.self.inside.cached.items c.self.inside.used c.bytes_of_runs-all.result (c.self.invariant.all ∙ used_sum c.self.inside.runs.items) total
    ∙ ap is_in_excess c.self.view_is

pub returns-else-is_some_exceeded : goal.returns-else-is_some_exceeded
returns-else-is_some_exceeded c =
    let total = c.bytes_of_runs-all.ensures ∙ ap (λ (xs : List Held). sum_by run_bytes (map run_of_held xs)) c.deref.ensures.value in
    let many = c.is_some_exceeded.ensures ∙ ap (λ (xs : List Held). list_any (λ h. nat_lt (3 * run_bytes (run_of_held h)) (2 * (c.bytes_of_runs-all.result - c.self.inside.used))) xs) c.deref-2.ensures.value in
    c.if-is_some_exceeded.false
    ∙ ap (λ t. t && nat_lt c.self.inside.used (c.bytes_of_runs-all.result - c.bytes_of_runs-all.result / 4)) (sym c.if-is_some_exceeded.false ∙ many)
    ∙ excess_is c.self.inside.runs.items c.self.inside.freed c.self.inside.cached.items c.self.inside.used c.bytes_of_runs-all.result (c.self.invariant.all ∙ used_sum c.self.inside.runs.items) total
    ∙ ap is_in_excess c.self.view_is
