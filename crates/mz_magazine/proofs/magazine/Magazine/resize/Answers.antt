use Rattle.std.proofs.Common.{◌≡◌, ◌*◌, length, sym, ap, ◌∙◌, arith}
use Rattle.std.specs.Prelude.{◌==◌, ◌&&◌, ◌||◌}
use Rattle.std.specs.List.{list_any, list_all}
use Rattle.mz_base.specs.Space.{blocks_apart}
use Rattle.mz_events.specs.Changes.{still_freed}
use Rattle.mz_base.specs.Space.{block_at, block_end}
use Rattle.mz_events.specs.Standing.{RegionsKept}
use Rattle.mz_magazine.proofs.Regions.{said_true}
use Rattle.mz_magazine.specs.Keeping.{freed_at}
use Rattle.mz_base.specs.Room.{lies_in}
use Rattle.mz_magazine.proofs.KeepingRuns.{lies_runs}
use Rattle.mz_magazine.proofs.KeepingFreed.{idle_resized}
use Rattle.mz_magazine.proofs.magazine.Magazine.resize.Goals as goal

pub invariant_of-self : goal.invariant_of-self
invariant_of-self g c =
    let i = c.self.inside in
    let b = block_at c.args.s.now.first (length c.args.s.now.bytes) in
    let d = block_at c.args.s.now.first (g.row.Q * c.args.n) in
    let said = said_true c.resize-resized.result _ _ c.if-resized.true c.resize-resized.ensures.resized in
    let at : c.first.result ≡ c.args.s.now.first = c.first.ensures.value ∙ said.3 in
    let long : c.len.result ≡ g.row.Q * c.args.n = c.len.ensures.value ∙ said.4 in
    let some = said.6 in
    let still : freed_at c.apart_from-self-inside.result ≡ still_freed d (freed_at i.last_freed) =
    c.apart_from-self-inside.ensures.still (omega arith) ∙ ap (λ x. still_freed (block_at x c.len.result) (freed_at i.last_freed)) at ∙ ap (λ x. still_freed (block_at c.args.s.now.first x) (freed_at i.last_freed)) long in
    idle_resized g.row.Q g.row.N i.row c.resize-resized.new.self i.last_freed c.apart_from-self-inside.result b d c.self.invariant said.1 still

pub returns-then-resized-clause-fits : goal.returns-then-resized-clause-fits
returns-then-resized-clause-fits g c = λ whole.
    let i = c.self.inside in
    let d = block_at c.args.s.now.first (g.row.Q * c.args.n) in
    c.resize-resized.ensures.fits
    ∙ ap (λ x. x && list_all (λ e. (e.first == d.first) || blocks_apart e d) i.row.live) (sym (lies_runs g.row.Q g.row.N i.row.firsts d.first (block_end d) whole (c.len-regions.ensures.is).aligned))
    ∙ ap (λ (v : RegionsKept). list_any (λ r. lies_in r d.first (block_end d)) v.kept.runs && list_all (λ e. (e.first == d.first) || blocks_apart e d) v.kept.live) c.self.view_is

pub returns-else-resized-clause-fits : goal.returns-else-resized-clause-fits
returns-else-resized-clause-fits g c = λ whole.
    let i = c.self.inside in
    let d = block_at c.args.s.now.first (g.row.Q * c.args.n) in
    c.resize-resized.ensures.fits
    ∙ ap (λ x. x && list_all (λ e. (e.first == d.first) || blocks_apart e d) i.row.live) (sym (lies_runs g.row.Q g.row.N i.row.firsts d.first (block_end d) whole (c.len-regions.ensures.is).aligned))
    ∙ ap (λ (v : RegionsKept). list_any (λ r. lies_in r d.first (block_end d)) v.kept.runs && list_all (λ e. (e.first == d.first) || blocks_apart e d) v.kept.live) c.self.view_is

pub returns-else-resized-clause-shrinks : goal.returns-else-resized-clause-shrinks
returns-else-resized-clause-shrinks g c = c.resize-resized.ensures.shrinks
