use Rattle.std.proofs.Common.{◌≡◌, ◌+◌, ◌*◌, length, false, sym, ap, ◌∙◌, lit<, arith}
use Rattle.mz_base.specs.Space.{block_at}
use Rattle.mz_base.specs.Lists.{drop_block}
use Rattle.mz_ground.specs.Marks.{marked}
use Rattle.mz_region.specs.Views.{RegionView}
use Rattle.mz_region.proofs.Kept.{begun_of_view, gone_within, fewer_fits, held_fewer, view_fewer}
use Rattle.mz_region.proofs.region.Region.put_back.Goals as goal

pub put_back-requires : goal.put_back-requires
put_back-requires g c =
    let i = c.self.inside in
    let held = c.self.invariant in
    let r = c.requires in
    let is = begun_of_view g.row.Q g.row.N i.first i.begins i.in_use i.ground i.live_bytes i.count held c.args.self.now c.self.view_is c.args.q c.args.n c.args.s.first r.some r.first r.live in
    let within = gone_within g.row.Q g.row.N i.first i.begins i.in_use i.ground i.live_bytes i.count held c.args.q c.args.n c.args.s.first is.0 is.1 in
    let long : length i.ground.lent ≡ g.row.N = ap length held.lent ∙ held.quanta in
    (lit< tt, (r.space ∙ ap (λ (v : RegionView). v.space) (sym c.self.view_is), (is.0 ∙ ap (λ a. a + g.row.Q * c.args.q) (sym held.based), (r.len, omega arith))))

pub clear-requires : goal.clear-requires
clear-requires g c =
    let i = c.self.inside in
    let held = c.self.invariant in
    let r = c.requires in
    let is = begun_of_view g.row.Q g.row.N i.first i.begins i.in_use i.ground i.live_bytes i.count held c.args.self.now c.self.view_is c.args.q c.args.n c.args.s.first r.some r.first r.live in
    is.1.within

pub overflow_sub-self : goal.overflow_sub-self
overflow_sub-self g c =
    let i = c.self.inside in
    let held = c.self.invariant in
    let r = c.requires in
    let is = begun_of_view g.row.Q g.row.N i.first i.begins i.in_use i.ground i.live_bytes i.count held c.args.self.now c.self.view_is c.args.q c.args.n c.args.s.first r.some r.first r.live in
    (fewer_fits g.row.Q g.row.N i.first i.begins i.in_use i.ground i.live_bytes i.count held c.args.q c.args.n c.args.s.first is.0 is.1).0

pub overflow_sub-self-2 : goal.overflow_sub-self-2
overflow_sub-self-2 g c =
    let i = c.self.inside in
    let held = c.self.invariant in
    let r = c.requires in
    let is = begun_of_view g.row.Q g.row.N i.first i.begins i.in_use i.ground i.live_bytes i.count held c.args.self.now c.self.view_is c.args.q c.args.n c.args.s.first r.some r.first r.live in
    (fewer_fits g.row.Q g.row.N i.first i.begins i.in_use i.ground i.live_bytes i.count held c.args.q c.args.n c.args.s.first is.0 is.1).1

pub invariant_of-self : goal.invariant_of-self
invariant_of-self g c =
    let i = c.self.inside in
    let held = c.self.invariant in
    let r = c.requires in
    let is = begun_of_view g.row.Q g.row.N i.first i.begins i.in_use i.ground i.live_bytes i.count held c.args.self.now c.self.view_is c.args.q c.args.n c.args.s.first r.some r.first r.live in
    let lent = c.put_back.ensures.lent ∙ ap (λ l. marked l c.args.q c.args.n false) held.lent in
    held_fewer g.row.Q g.row.N i.first i.begins i.in_use i.ground i.live_bytes i.count held c.args.q c.args.n c.args.s.first is.0 is.1
    c.clear.new.self c.clear_run.new.self c.put_back.new.self c.clear.ensures.made c.clear_run.ensures.made (record { space = c.put_back.ensures.space; first = c.put_back.ensures.first; lent = lent })

pub returns : goal.returns
returns g c =
    let i = c.self.inside in
    let held = c.self.invariant in
    let r = c.requires in
    let is = begun_of_view g.row.Q g.row.N i.first i.begins i.in_use i.ground i.live_bytes i.count held c.args.self.now c.self.view_is c.args.q c.args.n c.args.s.first r.some r.first r.live in
    view_fewer g.row.Q g.row.N i.first i.begins i.in_use i.ground i.live_bytes i.count held c.args.q c.args.n c.args.s.first is.0 is.1
    c.clear.new.self c.clear_run.new.self c.put_back.new.self.space c.args.self.now c.clear.ensures.made c.clear_run.ensures.made c.put_back.ensures.space c.self.view_is
    ∙ ap (λ n. record c.args.self.now { live = drop_block (block_at c.args.s.first n) c.args.self.now.live }) (sym r.len)
