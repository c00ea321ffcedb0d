-- Pairs and owners after entries of callers, of which each ends, resizes or denies only blocks in its caller's hand. This project's own.
use Rattle.std.specs.Prelude.{◌≡◌, ℕ, List, [], ◌∷◌, ◌++◌, IsTrue}
use Rattle.std.specs.List.{All}
use Rattle.mz_base.specs.declared.profile.Profile.{Profile}
use Rattle.mz_events.specs.declared.entry.Entry.{Entry}
use Rattle.mz_events.specs.State.{opening}
use Rattle.mz_events.specs.History.{after_all}
use Rattle.mz_book.specs.declared.pair.Pair.{Pair}
use Rattle.mz_book.specs.Pairs.{hand_among, pairs_after, is_in_hand}
use Rattle.mz_book.specs.Owners.{pairs_told, quanta_after, BeginsWithin}
use Rattle.mz_book.specs.Rule.{AreInOneHand}

-- the pairs of all callers after these entries
abbrev pub pairs_since : List Pair → List Entry → List Pair
pairs_since pairs [] = pairs
pairs_since pairs (e ∷ es) = pairs_since (pairs_after e.caller pairs e.event) es

-- the owners after these entries
abbrev pub quanta_since : List ℕ → List Entry → List ℕ
quanta_since quanta [] = quanta
quanta_since quanta (e ∷ es) = quanta_since (quanta_after e.caller quanta e.event) es

-- the block that an entry ends, resizes or denies was in its caller's hand then, and so it is with each entry
abbrev pub AreHanded : List Pair → List Entry → Type 0
AreHanded pairs [] = Unit {0}
AreHanded pairs (e ∷ es) = IsTrue (is_in_hand (hand_among e.caller pairs) e.event) × AreHanded (pairs_after e.caller pairs e.event) es

-- Owners that told the pairs before these entries go on with them: blocks begin in quanta of the space, and history and owners tell the
-- pairs after them, by which each live block is in exactly one hand.
pub record GoesOn (p : Profile) (quanta : List ℕ) (before later : List Entry) : Type 0 where
  pub within : All (λ e. BeginsWithin quanta e.event) later
  pub told : pairs_told (quanta_since quanta later) (before ++ later) ≡ pairs_since (pairs_told quanta before) later
  pub in_one_hand : AreInOneHand (after_all p opening (before ++ later)) (pairs_told (quanta_since quanta later) (before ++ later))
