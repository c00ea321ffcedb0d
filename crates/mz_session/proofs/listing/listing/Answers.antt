use Rattle.std.proofs.Common.{◌≡◌, subst, map}
use Rattle.std.specs.Prelude.{IfSome}
use Rattle.std.specs.List.Sorted.{IsPermutation}
use Rattle.mz_lawful.specs.Standing.{default_zone}
use Rattle.mz_session.specs.Listing.{listed_in}
use Rattle.mz_session.proofs.ListingLemmas.{is_listing}
use Rattle.mz_session.proofs.listing.listing.Goals as goal

pub returns : goal.returns
returns c = λ es v lawful live zones.
    let p = c.args.p.now in
    let zone : c.unwrap-zone.result ≡ default_zone = subst (λ o. IfSome o (λ z. z ≡ default_zone)) c.unwrap-zone.ensures c.new.ensures.text in
    let in_turn : c.in_ok-list.list.items ≡ map (listed_in p default_zone) c.args.blocks.now =
    subst (λ z. c.in_ok-list.list.items ≡ map (listed_in p z) c.args.blocks.now) zone c.in_ok-list.ensures in
    is_listing c.of_listings.ensures p es v lawful c.requires.for_one.zones c.args.blocks.now live zones c.sort.new.list.items
    (subst (λ xs. IsPermutation xs c.sort.new.list.items) in_turn c.sort.ensures.each) c.sort.ensures.ascending
