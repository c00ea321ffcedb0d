use Rattle.std.proofs.Common.{◌≡◌, ◌<◌, sym, ap, subst, ◌∙◌, get_or, List, length}
use Rattle.mz_base.specs.Lists.{size_sum}
use Rattle.mz_events.specs.Places.{Spot}
use Rattle.mz_events.specs.State.{Value}
use Rattle.mz_spots.proofs.IndexLemmas.{index_set, size_set}
use Rattle.mz_spots.proofs.slots.Slots.exchange.Goals as goal

pub invariant_of-result : goal.invariant_of-result
invariant_of-result c =
    let values = c.self.inside.list.items in
    let below : c.args.i < length values = subst (λ (l : List (Spot × Value)). c.args.i < length l) (sym c.self.view_is) c.requires.within in
    let h = c.index.result.now in
    let g = c.replace-old.new.dest in
    let spot : (get_or values c.args.i h).0 ≡ g.0 = ap (λ (l : List (Spot × Value)). (get_or l c.args.i h).0) c.self.view_is ∙ c.requires.same h ∙ ap (λ (x : Spot × Value). x.0) (sym c.replace-old.ensures.after) in (
      index_set c.self.inside.places values c.args.i g h below spot c.self.invariant.0,
      size_set values c.args.i g h c.self.inside.used c.in-Some.less c.in-Some-used.more c.in-Some-checked_add.used below c.index.ensures c.self.invariant.1 c.in-Some.ensures
          (c.in-Some-used.ensures ∙ ap (λ (x : Spot × Value). size_sum x.1.kept.live) (sym c.replace-old.ensures.after)) c.in-Some-checked_add.ensures.1,
    )
