use Rattle.std.proofs.Common.{◌≡◌, ◌+◌, ◌-◌, ◌*◌, ◌≤◌, length, false, sym, ap, ◌∙◌, lit<, arith}
use Rattle.std.proofs.Math.Nat.{mul-le-mul_left}
use Rattle.mz_base.specs.Space.{block_at}
use Rattle.mz_base.specs.Lists.{add_block, drop_block}
use Rattle.mz_ground.specs.Marks.{marked}
use Rattle.mz_region.specs.Views.{RegionView}
use Rattle.mz_region.proofs.Kept.{begun_of_view, gone_within, gone_used, fewer_fits, held_other, view_other, shorter, parts_of}
use Rattle.mz_region.proofs.region.Region.shrink.Goals as goal

pub overflow_mul-n : goal.overflow_mul-n
overflow_mul-n g c = let low : g.row.Q * c.args.n ≤ g.row.Q * c.args.had = mul-le-mul_left g.row.Q c.requires.fewer in omega arith

pub put_back-requires : goal.put_back-requires
put_back-requires g c =
    let i = c.self.inside in
    let held = c.self.invariant in
    let r = c.requires in
    let is = begun_of_view g.row.Q g.row.N i.first i.begins i.in_use i.ground i.live_bytes i.count held c.args.self.now c.self.view_is c.args.q c.args.had c.args.s.now.first (omega arith) r.first r.live in
    let within = gone_within g.row.Q g.row.N i.first i.begins i.in_use i.ground i.live_bytes i.count held c.args.q c.args.had c.args.s.now.first is.0 is.1 in
    let cut : c.args.had ≡ c.args.n + (c.args.had - c.args.n) = omega arith in
    let parts = parts_of g.row.Q c.args.had c.args.n (c.args.had - c.args.n) cut in
    let long : length i.ground.lent ≡ g.row.N = ap length held.lent ∙ held.quanta in
    let based = held.based in
    let at = is.0 in
    let tail = c.cut_off-tail.ensures.cut_first in
    let rest = c.cut_off-tail.ensures.cut_len in
    (lit< tt, (c.cut_off-tail.ensures.cut_space ∙ r.space ∙ ap (λ (v : RegionView). v.space) (sym c.self.view_is), (omega arith, (omega arith, omega arith))))

pub clear_run-requires : goal.clear_run-requires
clear_run-requires g c =
    let i = c.self.inside in
    let held = c.self.invariant in
    let r = c.requires in
    let is = begun_of_view g.row.Q g.row.N i.first i.begins i.in_use i.ground i.live_bytes i.count held c.args.self.now c.self.view_is c.args.q c.args.had c.args.s.now.first (omega arith) r.first r.live in
    let within = gone_within g.row.Q g.row.N i.first i.begins i.in_use i.ground i.live_bytes i.count held c.args.q c.args.had c.args.s.now.first is.0 is.1 in
    let long = held.quanta in
    omega arith

pub overflow_sub-self : goal.overflow_sub-self
overflow_sub-self g c =
    let i = c.self.inside in
    let held = c.self.invariant in
    let r = c.requires in
    let is = begun_of_view g.row.Q g.row.N i.first i.begins i.in_use i.ground i.live_bytes i.count held c.args.self.now c.self.view_is c.args.q c.args.had c.args.s.now.first (omega arith) r.first r.live in
    let within = gone_within g.row.Q g.row.N i.first i.begins i.in_use i.ground i.live_bytes i.count held c.args.q c.args.had c.args.s.now.first is.0 is.1 in
    let cut : c.args.had ≡ c.args.n + (c.args.had - c.args.n) = omega arith in
    let parts = parts_of g.row.Q c.args.had c.args.n (c.args.had - c.args.n) cut in
    let fits = fewer_fits g.row.Q g.row.N i.first i.begins i.in_use i.ground i.live_bytes i.count held c.args.q c.args.had c.args.s.now.first is.0 is.1 in
    omega (arith, fits.0)

pub invariant_of-self : goal.invariant_of-self
invariant_of-self g c =
    let i = c.self.inside in
    let held = c.self.invariant in
    let r = c.requires in
    let is = begun_of_view g.row.Q g.row.N i.first i.begins i.in_use i.ground i.live_bytes i.count held c.args.self.now c.self.view_is c.args.q c.args.had c.args.s.now.first (omega arith) r.first r.live in
    let within = gone_within g.row.Q g.row.N i.first i.begins i.in_use i.ground i.live_bytes i.count held c.args.q c.args.had c.args.s.now.first is.0 is.1 in
    let cut : c.args.had ≡ c.args.n + (c.args.had - c.args.n) = omega arith in
    let parts = parts_of g.row.Q c.args.had c.args.n (c.args.had - c.args.n) cut in
    let used = gone_used g.row.Q g.row.N i.first i.begins i.in_use i.ground i.live_bytes i.count held c.args.q c.args.had c.args.s.now.first is.0 is.1 in
    let long = held.quanta in
    let short = shorter i.in_use c.args.q c.args.had c.args.n (c.args.had - c.args.n) cut (omega arith) used in
    let fits = fewer_fits g.row.Q g.row.N i.first i.begins i.in_use i.ground i.live_bytes i.count held c.args.q c.args.had c.args.s.now.first is.0 is.1 in
    let lent = c.put_back.ensures.lent ∙ ap (λ l. marked l (c.args.q + c.args.n) (c.args.had - c.args.n) false) held.lent ∙ sym c.clear_run.ensures.made in
    held_other g.row.Q g.row.N i.first i.begins i.in_use i.ground i.live_bytes i.count held c.args.q c.args.had c.args.s.now.first is.0 is.1
    c.args.n c.clear_run.new.self r.some (omega arith) short.0 (c.clear_run.ensures.made ∙ short.1) c.put_back.new.self (i.live_bytes - (c.args.had - c.args.n) * g.row.Q) (omega (arith, fits.0))
    (record { space = c.put_back.ensures.space; first = c.put_back.ensures.first; lent = lent })

pub returns-clause-live : goal.returns-clause-live
returns-clause-live g c =
    let i = c.self.inside in
    let held = c.self.invariant in
    let r = c.requires in
    let is = begun_of_view g.row.Q g.row.N i.first i.begins i.in_use i.ground i.live_bytes i.count held c.args.self.now c.self.view_is c.args.q c.args.had c.args.s.now.first (omega arith) r.first r.live in
    let within = gone_within g.row.Q g.row.N i.first i.begins i.in_use i.ground i.live_bytes i.count held c.args.q c.args.had c.args.s.now.first is.0 is.1 in
    let cut : c.args.had ≡ c.args.n + (c.args.had - c.args.n) = omega arith in
    let parts = parts_of g.row.Q c.args.had c.args.n (c.args.had - c.args.n) cut in
    let used = gone_used g.row.Q g.row.N i.first i.begins i.in_use i.ground i.live_bytes i.count held c.args.q c.args.had c.args.s.now.first is.0 is.1 in
    let long = held.quanta in
    let short = shorter i.in_use c.args.q c.args.had c.args.n (c.args.had - c.args.n) cut (omega arith) used in
    view_other g.row.Q g.row.N i.first i.begins i.in_use i.ground i.live_bytes i.count held c.args.q c.args.had c.args.s.now.first is.0 is.1
    c.args.n c.clear_run.new.self r.some (omega arith) short.0 (c.clear_run.ensures.made ∙ short.1) c.put_back.new.self.space c.args.self.now c.put_back.ensures.space c.self.view_is
    ∙ ap (λ n. record c.args.self.now { live = add_block (block_at c.args.s.now.first (g.row.Q * c.args.n)) (drop_block (block_at c.args.s.now.first n) c.args.self.now.live) }) (sym r.len)
