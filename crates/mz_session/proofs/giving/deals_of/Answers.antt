use Rattle.std.proofs.Common.{◌≡◌, ◌∙◌, ◌+◌, ◌++◌, ◌∷◌, [], map, ap, sym, take}
use Rattle.std.proofs.lemmas.List.{take_more}
use Rattle.mz_session.specs.declared.parcel.Parcel.{Parcel}
use Rattle.mz_session.specs.Seats.{deal_of}
use Rattle.mz_session.specs.Giving.{slots_of}
use Rattle.mz_session.proofs.DealLemmas.{deals-more, deals-as-before}
use Rattle.mz_session.proofs.giving.deals_of.Goals as goal
use Rattle.mz_session.proofs.giving.deals_of.Goals.{in-Some+in_ok-push, in_default}

pub loop-parcel-preserved : goal.loop-parcel-preserved
loop-parcel-preserved c =
    let i = c.loop-parcel.parcel-index in
    let gs = take i c.args.parcels.now in
    let g : Parcel = c.parcel-item.result in
    let more : take (i + 1) c.args.parcels.now ≡ gs ++ g ∷ [] = take_more c.args.parcels.now i g c.loop-parcel-test.true ∙ ap (λ x. gs ++ x ∷ []) (sym c.parcel-item.is) in
    elim c.match-slot.branch [
      | in-Some+in_ok-push w ↦
          ap (λ v. v.items) w.deals-is ∙ w.in_ok-push.ensures.items
          ∙ deals-more gs g c.loop-parcel.deals.items (w.in-Some.block, w.in-Some.slot) c.loop-parcel.invariant (sym w.in-Some.is ∙ c.slot.ensures)
          ∙ ap (λ l. map deal_of (slots_of l)) (sym more)
      | in_default w ↦
          ap (λ v. v.items) w.deals-is
          ∙ deals-as-before gs g c.loop-parcel.deals.items c.loop-parcel.invariant w.in_default.ensures
          ∙ ap (λ l. map deal_of (slots_of l)) (sym more)
    ]
