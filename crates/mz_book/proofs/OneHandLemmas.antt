-- Each live block is in exactly one hand after an event, where what it ends or resizes was in its caller's.
use Rattle.std.proofs.Common.{◌≡◌, ℕ, true, List}
use Rattle.mz_base.specs.declared.profile.Profile.{Profile}
use Rattle.mz_base.specs.Space.{Block, block_at}
use Rattle.mz_events.specs.declared.entry.Entry.{Entry}
use Rattle.mz_events.specs.declared.event.Event.{Event}
use Rattle.mz_events.specs.declared.event.Event.TheVariants.{Take, Back, Move, New, End, Size, Full, Dry, No, Open, Shut}
use Rattle.mz_events.specs.State.{State, opening}
use Rattle.mz_events.specs.Effect.{after}
use Rattle.mz_events.specs.Rules.{Fits}
use Rattle.mz_events.specs.History.{AreLawful, after_all}
use Rattle.mz_book.specs.declared.pair.Pair.{Pair}
use Rattle.mz_book.specs.HistoryLaws.{HistoryLaws}
use Rattle.mz_book.specs.Pairs.{pair_at, hand_among, pairs_after, is_in_hand}
use Rattle.mz_book.specs.Living.{lives_after}
use Rattle.mz_book.specs.Account.{is_live}
use Rattle.mz_book.specs.Rule.{AreInOneHand}
use Rattle.mz_book.proofs.OwnerLemmas.{hand_new, hand_end, hand_size, hand_same}
use Rattle.mz_book.proofs.LiveLemmas.{new_is_fresh, sized_is_fresh}

module _ (L : HistoryLaws) (p : Profile) (es : List Entry) (c : ℕ) (ok : AreLawful p opening es) (pairs : List Pair) (one : AreInOneHand (after_all p opening es) pairs) where
  abbrev st : State
  st = after_all p opening es

  abbrev Lives : Event → Type 0
  Lives e = (b : Block) → is_live (after p st c e) b ≡ lives_after e b (is_live st b)

  pub one_then : (e : Event) → Fits p st c e → is_in_hand (hand_among c pairs) e ≡ true → Lives e → AreInOneHand (after p st c e) (pairs_after c pairs e)
  one_then (New k a n al) f mine live = hand_new st (after p st c (New k a n al)) pairs (pair_at c a n) live (new_is_fresh L p es c ok k a n al f) one
  one_then (End k a n) f mine live = hand_end st (after p st c (End k a n)) pairs c (block_at a n) live mine one
  one_then (Size k a n m) f mine live = hand_size st (after p st c (Size k a n m)) pairs c (block_at a n) m live (sized_is_fresh L p es c ok k a n m f) mine one
  one_then (Take k g w) f mine live = hand_same st (after p st c (Take k g w)) pairs live one
  one_then (Back k g w) f mine live = hand_same st (after p st c (Back k g w)) pairs live one
  one_then (Move g from to) f mine live = hand_same st (after p st c (Move g from to)) pairs live one
  one_then (Full k n al) f mine live = hand_same st (after p st c (Full k n al)) pairs live one
  one_then (Dry z w al) f mine live = hand_same st (after p st c (Dry z w al)) pairs live one
  one_then (No k z a n) f mine live = hand_same st (after p st c (No k z a n)) pairs live one
  one_then (Open z) f mine live = hand_same st (after p st c (Open z)) pairs live one
  one_then (Shut z) f mine live = hand_same st (after p st c (Shut z)) pairs live one
