-- Where nothing is on its way, the blocks with names are just the live ones.
use Rattle.std.proofs.Common.{◌≡◌, [], map, ap, ◌∙◌, arith}
use Rattle.mz_book.specs.Account.{state_of, hand}
use Rattle.mz_book.specs.Rule.{KeepsRule}
use Rattle.mz_book.specs.Pairs.{hand_among}
use Rattle.mz_book.specs.Living.{times}
use Rattle.mz_zone.specs.Blocks.{block_of}
use Rattle.mz_session.specs.Names.{blocks_named}
use Rattle.mz_session.specs.Listing.{AreLive}
use Rattle.mz_session.specs.Sessions.{SessionView, IsKept}
use Rattle.mz_session.proofs.KeepLemmas.{views_coming, kept-counted}
use Rattle.mz_session.proofs.OwnerLemmas.{times-owners}

pub blocks-are-live : (s : SessionView) → IsKept s → s.parcels ≡ [] → KeepsRule s.at.book → AreLive (blocks_named s.blocks) (state_of s.at.book)
blocks-are-live s kept none rule b =
    let kept_all = kept-counted s [] b in
    let coming = ap (λ gs. times b (map block_of (views_coming gs))) none in
    let hand_is = kept.in_hand b in
    let named : times b (blocks_named s.blocks) ≡ times b (hand s.at.book) = omega (arith, kept_all, coming, hand_is) in
    named ∙ ap (λ c. times b (hand_among c s.at.book.pairs)) kept.caller ∙ times-owners 0 b s.at.book.pairs kept.mine ∙ rule.in_one_hand b
