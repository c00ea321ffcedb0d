use Rattle.std.proofs.Common.{ℕ, ◌+◌, List, ◌∷◌, get_or, drop, refl, sym, ap, ◌∙◌, subst, inl}
use Rattle.mz_nano.specs.declared.deal.Deal.{Deal}
use Rattle.mz_nano.specs.declared.view.Held.{Held}
use Rattle.mz_nano.specs.Deals.{hands_of, dealt, CanDeal}
use Rattle.mz_nano.proofs.DealLemmas.{drop_at, can_follow}
use Rattle.mz_nano.proofs.nano.Nano.deal.Goals as goal

abbrev nowhere : Deal
nowhere = record { block = 0; slot = 0; from = 0; to = 0 }

pub move_slot-requires-clause-can : goal.move_slot-requires-clause-can
move_slot-requires-clause-can c =
    let ds = c.args.moves.now in
    let i : ℕ = c.loop-deal.deal-index in
    let e = drop_at ds i nowhere c.loop-deal-test.true in
    (subst (λ (xs : List Deal). CanDeal xs (hands_of c.loop-deal.seats.items)) e c.loop-deal.invariant.can).each (get_or ds i nowhere) (inl refl)

pub loop-deal-preserved : goal.loop-deal-preserved
loop-deal-preserved c =
    let ds = c.args.moves.now in
    let i : ℕ = c.loop-deal.deal-index in
    let d : Deal = get_or ds i nowhere in
    let inv = c.loop-deal.invariant in
    let x = c.move_slot.ensures in
    let hs : List (List Held) = hands_of c.loop-deal.seats.items in
    let e = drop_at ds i nowhere c.loop-deal-test.true in
    let can : CanDeal (d ∷ drop (i + 1) ds) hs = subst (λ (xs : List Deal). CanDeal xs hs) e inv.can in
    record {
      all = x.all;
      len = x.len ∙ inv.len;
      can = subst (CanDeal (drop (i + 1) ds)) (sym x.hands) (can_follow d (drop (i + 1) ds) hs can);
      hands = ap (λ (h : List (List Held)). dealt (drop (i + 1) ds) h) x.hands ∙ (ap (λ (xs : List Deal). dealt xs hs) (sym e) ∙ inv.hands);
      counts = x.counts ∙ inv.counts;
    }
