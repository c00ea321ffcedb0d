use Rattle.std.proofs.Common.{◌≡◌, Some, None, length, sym, ap, ◌∙◌, subst}
use Rattle.std.specs.Prelude.{IsTrue, if◌then◌else◌}
use Rattle.mz_events.specs.Places.{is_magazine, is_depot}
use Rattle.mz_events.specs.Changes.{without_block}
use Rattle.mz_base.specs.Lists.{has_block}
use Rattle.mz_base.specs.Space.{block_at}
use Rattle.mz_events.specs.Standing.{RegionsKept}
use Rattle.mz_magazine.proofs.KeepingFreed.{freed_view}
use Rattle.mz_magazine.proofs.magazine.Magazine.free.Goals as goal

pub returns : goal.returns
returns g c =
    let i = c.self.inside in
    let said = c.in_default.ensures in
    let aside : c.kept_aside-self-inside.result ≡ (if i.depot then None else Some (c.args.s.first, length c.args.s.bytes)) =
    c.kept_aside-self-inside.ensures ∙ ap (λ x. if i.depot then None else Some (x, c.len.result)) c.first.ensures.value ∙ ap (λ x. if i.depot then None else Some (c.args.s.first, x)) c.len.ensures.value in (
      ap (λ (v : RegionsKept). has_block v.kept.live (block_at c.args.s.first (length c.args.s.bytes))) (sym c.self.view_is) ∙ said.0,
      λ q kind. freed_view g.row.Q g.row.N i.depot i.row c.free.new.self i.last_freed c.kept_aside-self-inside.result c.args.s.first (length c.args.s.bytes) q said.1 aside (subst (λ (v : RegionsKept). IsTrue (if v.depot then is_depot q else is_magazine q)) (sym c.self.view_is) kind)
          ∙ ap (λ (v : RegionsKept). record v { kept = without_block q (block_at c.args.s.first (length c.args.s.bytes)) v.kept }) c.self.view_is,
    )
