-- Blocks that the session keeps begin at addresses of 64 bits, and which of them begins behind another.
use Rattle.std.proofs.Common.{◌≡◌, ℕ, ◌+◌, ◌*◌, ◌<◌, ◌≤◌, true, List, [], Option, Some, None, ap, sym, subst, ◌∙◌, arith}
use Rattle.std.specs.Prelude.{◌^◌, IfSome}
use Rattle.std.proofs.lemmas.Option.{none-some}
use Rattle.mz_base.specs.declared.profile.Profile.{Profile}
use Rattle.mz_base.specs.declared.range.TheConstants.{PAGE}
use Rattle.mz_base.specs.Space.{block_end}
use Rattle.mz_base.specs.Lists.{has_block}
use Rattle.mz_events.specs.declared.entry.Entry.{Entry}
use Rattle.mz_events.specs.State.{opening}
use Rattle.mz_events.specs.History.{AreLawful, after_all}
use Rattle.mz_events.specs.Bounds.{LiveBytesFit}
use Rattle.mz_words.specs.declared.name.Name.{Name}
use Rattle.mz_book.specs.Account.{IsOrderly, hand}
use Rattle.mz_zone.specs.Blocks.{BlockView, block_of}
use Rattle.mz_session.specs.Names.{NamedBlocks, BeginsAt, IsBehind, block_with, name_from}
use Rattle.mz_session.specs.SessionLaws.{SessionLaws}
use Rattle.mz_session.specs.Sessions.{SessionView, IsKept, views_kept}
use Rattle.mz_session.proofs.CountLemmas.{some-is, counted-there}
use Rattle.mz_session.proofs.HeldLemmas.{from-none}
use Rattle.mz_session.proofs.NameLemmas.{block-kept}
use Rattle.mz_session.proofs.KeepLemmas.{view-counted, kept-named}

-- live bytes fit the space, after any lawful entries
abbrev pub BytesFit : Type 0
BytesFit = (p : Profile) (es : List Entry) → AreLawful p opening es → LiveBytesFit p (after_all p opening es)

pub begins-low : (L : SessionLaws) → BytesFit → (s : SessionView) → IsKept s → IsOrderly s.at.book → (w : Name) (c : BlockView) → block_with s.blocks w ≡ Some c → c.span.first < 2 ^ 64
begins-low L fit s kept orderly w c named =
    let b = block_of c in
    let there = kept-named s [] c (block-kept s.blocks w c named) in
    let counted = view-counted (views_kept s []) c there in
    let same = kept.in_hand b in
    let in_hand : has_block (hand s.at.book) b ≡ true = counted-there b (hand s.at.book) (omega (arith, counted, same)) in
    let live = L.somewhere s.at.book b orderly in_hand in
    let end : block_end b ≤ s.at.book.profile.pages * PAGE = (fit s.at.book.profile s.at.book.seen orderly.lawful).ends live.0 b live.1 in
    let few = orderly.limits.pages.1 in
    omega (arith, end, few)

-- which name has the block behind another's

pub behind-by :
    (bs : NamedBlocks) (name : Name) (off a : ℕ) (b : BlockView) (r : Option Name) → block_with bs name ≡ Some b → a ≡ b.span.first + off → r ≡ name_from bs a
    → IfSome r (BeginsAt bs a) → IsBehind bs name off r
behind-by bs name off a b None held at is begins =
    λ c named w d there first. from-none bs a (sym is) w d there (first ∙ ap (λ (x : BlockView). x.span.first + off) (some-is c b (sym named ∙ held)) ∙ sym at)
behind-by bs name off a b (Some there) held at is begins = (b, held, subst (λ x. BeginsAt bs x there) at begins)

-- nothing is behind a name that has no block
pub behind-none : (bs : NamedBlocks) (name : Name) (off : ℕ) → block_with bs name ≡ None → IsBehind bs name off None
behind-none bs name off none = λ b named w c there first. none-some b (sym none ∙ named)

-- nor at an address of more than 64 bits
pub behind-high :
    (bs : NamedBlocks) (name : Name) (off : ℕ) (b : BlockView) → ((w : Name) (c : BlockView) → block_with bs w ≡ Some c → c.span.first < 2 ^ 64)
    → block_with bs name ≡ Some b → 2 ^ 64 ≤ b.span.first + off → IsBehind bs name off None
behind-high bs name off b low held high = λ c named w d there first.
    let same = ap (λ (x : BlockView). x.span.first) (some-is c b (sym named ∙ held)) in
    let below = low w d there in
    omega (arith, same, below, first, high)
