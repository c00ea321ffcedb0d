use Rattle.std.proofs.Common.{◌≡◌, ◌+◌, ◌-◌, ◌*◌, ◌/◌, [], length, map, refl, sym, ap, ◌∙◌, arith}
use Rattle.std.proofs.lemmas.List.{nil_from_length}
use Rattle.std.proofs.lemmas.Bool.{le-ltb}
use Rattle.std.specs.Prelude.{nat_lt}
use Rattle.mz_base.specs.Lists.{size_sum}
use Rattle.mz_events.specs.Standing.{RegionsKept}
use Rattle.mz_magazine.specs.Keeping.{run_from, keeping_of}
use Rattle.mz_events.specs.Duties.{is_in_excess}
use Rattle.mz_magazine.proofs.KeepingRuns.{excess_runs, excess_none, excess_true, excess_false}
use Rattle.mz_magazine.proofs.magazine.Magazine.excess.Goals as goal

pub returns-then-len-eq0 : goal.returns-then-len-eq0
returns-then-len-eq0 g c = λ whole.
    let i = c.self.inside in
    let none : i.row.firsts ≡ [] = nil_from_length i.row.firsts (sym c.len.ensures.value ∙ c.if-len-eq0.true) in
    sym (ap (λ (v : RegionsKept). is_in_excess v.kept) (sym c.self.view_is) ∙ excess_none (keeping_of g.row.Q g.row.N i.depot i.row i.last_freed).kept (ap (map (run_from g.row.Q g.row.N)) none))

pub returns-then-all-live : goal.returns-then-all-live
returns-then-all-live g c = λ whole.
    let i = c.self.inside in
    let some = c.if-len-eq0.false in
    let long = c.len.ensures.value in
    let all = c.bytes-all.ensures in
    let live = c.live_bytes-live.ensures in
    let more = c.if-all-live.true in
    let is = excess_runs g.row.Q g.row.N (keeping_of g.row.Q g.row.N i.depot i.row i.last_freed).kept i.row.firsts whole (c.len.ensures.is).aligned (omega arith) refl in
    ap (λ x. nat_lt c.live_bytes-live.result (x - x / 4)) all ∙ ap (λ x. nat_lt x (g.row.Q * g.row.N * length i.row.firsts - g.row.Q * g.row.N * length i.row.firsts / 4)) live
    ∙ sym (is ∙ excess_true (g.row.Q * g.row.N) (g.row.Q * g.row.N * length i.row.firsts) (size_sum i.row.live) (omega arith)) ∙ ap (λ (v : RegionsKept). is_in_excess v.kept) c.self.view_is

pub returns-else-all-live : goal.returns-else-all-live
returns-else-all-live g c = λ whole.
    let i = c.self.inside in
    let some = c.if-len-eq0.false in
    let long = c.len.ensures.value in
    let all = c.bytes-all.ensures in
    let live = c.live_bytes-live.ensures in
    let less = c.if-all-live.false in
    let is = excess_runs g.row.Q g.row.N (keeping_of g.row.Q g.row.N i.depot i.row i.last_freed).kept i.row.firsts whole (c.len.ensures.is).aligned (omega arith) refl in
    le-ltb (g.row.Q * g.row.N + g.row.Q * g.row.N / 2) (c.bytes-all.result - c.live_bytes-live.result) less
    ∙ sym (is ∙ excess_false (g.row.Q * g.row.N) (g.row.Q * g.row.N * length i.row.firsts) (size_sum i.row.live) (omega arith)) ∙ ap (λ (v : RegionsKept). is_in_excess v.kept) c.self.view_is
