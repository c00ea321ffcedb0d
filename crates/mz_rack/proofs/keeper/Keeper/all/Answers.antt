use Rattle.std.proofs.Common.{◌≡◌, ℕ, ◌+◌, ◌*◌, ◌/◌, ◌%◌, [], ◌∷◌, length, ap, sym, subst, ◌∙◌, arith, mul_comm, length-append}
use Rattle.mz_base.specs.declared.range.TheConstants.{PAGE}
use Rattle.mz_events.specs.declared.place.Place.TheVariants.{Pages}
use Rattle.mz_events.specs.State.{nothing_kept}
use Rattle.mz_events.specs.Standing.{PagesKept, of_pages, Stands, StandsForPages}
use Rattle.mz_book.specs.Keepers.{zone_keepers, place_in_zone}
use Rattle.mz_book.specs.Plain.{last_site, StandAtFirst}
use Rattle.mz_rack.proofs.OpeningLemmas.{AreOfZones, none_yet, one_more, all_stand, first_pages, last_is}
use Rattle.mz_rack.proofs.keeper.Keeper.all.Goals as goal

count_of : (a b : ℕ) → a ≡ b * PAGE → a / PAGE ≡ b
count_of a b h = omega (arith, h)

pub loop-k-init : goal.loop-k-init
loop-k-init c =
    let items = c.in_ok-keepers.ensures.items in
    (ap length items, none_yet c.args.p.now c.in_ok-keepers.keepers.items (ap length items))

pub loop-k-preserved : goal.loop-k-preserved
loop-k-preserved c =
    let p = c.args.p.now in
    let vs = c.loop-k.keepers.items in
    let v = c.in_ok-of_zone.field-0 in
    let items = c.in_ok-push.ensures.items in
    let inv = c.loop-k.invariant in (
      ap length items ∙ length-append vs (v ∷ []) ∙ ap (λ n. n + 1) inv.0,
      subst (λ l. AreOfZones p l) (sym items)
          (one_more p vs v inv.1 (λ x z. subst (λ n. Stands v x p (place_in_zone p z (n % zone_keepers p)) nothing_kept) (sym inv.0) (c.in_ok-of_zone.ensures x z))),
    )

pub returns-clause-stand : goal.returns-clause-stand
returns-clause-stand c =
    let p = c.args.p.now in
    let v = c.in_ok-make.field-0 in
    let vs = c.loop-k.keepers.items in
    let inv = c.loop-k.invariant in
    let is = c.in_ok-make.ensures in
    let last : c.loop-k.k ≡ (2 * p.magazines + 3) * p.zones = omega (arith, c.loop-k-test.false, c.loop-k.auto.k-end) in
    let pages = first_pages p v c.args.space.space (length c.args.space.bytes / PAGE) (count_of (length c.args.space.bytes) _ c.requires.len) is in
    subst (λ l. StandAtFirst p l) (sym c.in_ok-push-2.ensures.items)
    (all_stand p vs v inv.1 (inv.0 ∙ last ∙ mul_comm (2 * p.magazines + 3) p.zones) (subst (λ x. StandsForPages v x p Pages nothing_kept) (sym (ap (λ (y : PagesKept). y.space) is)) pages))

pub returns-clause-space : goal.returns-clause-space
returns-clause-space c =
    ap last_site c.in_ok-push-2.ensures.items ∙ last_is c.loop-k.keepers.items (of_pages c.in_ok-make.field-0) ∙ ap (λ (y : PagesKept). y.space) c.in_ok-make.ensures
