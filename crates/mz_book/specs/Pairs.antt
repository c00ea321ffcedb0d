-- The pairs that callers own. That a block has an owner is this project's own.
use Rattle.std.specs.Prelude.{ℕ, ◌==◌, Bool, true, ◌&&◌, not, List, [], ◌∷◌, ◌++◌, length, map, filter, if◌then◌else◌}
use Rattle.mz_base.specs.Space.{Block, block_at, same_block}
use Rattle.mz_base.specs.Lists.{has_block}
use Rattle.mz_events.specs.declared.event.Event.{Event}
use Rattle.mz_events.specs.declared.event.Event.TheVariants.{Take, Back, Move, New, End, Size, Full, Dry, No, Open, Shut}
use Rattle.mz_book.specs.declared.pair.Pair.{Pair}

abbrev pub pair_at : ℕ → ℕ → ℕ → Pair
pair_at c a n = record { caller = c; first = a; size = n }

-- the block that is owned
abbrev pub block_of : Pair → Block
block_of h = block_at h.first h.size

-- the hand of a caller, among the pairs of all
abbrev pub hand_among : ℕ → List Pair → List Block
hand_among c pairs = map block_of (filter (λ h. h.caller == c) pairs)

-- the pair says that c owns the block
abbrev pub is_pair : ℕ → Block → Pair → Bool
is_pair c b h = (h.caller == c) && same_block b (block_of h)

-- how many pairs there are of a block
abbrev pub owners : List Pair → Block → ℕ
owners pairs b = length (filter (λ h. same_block b (block_of h)) pairs)

-- the pair with another size, where it says that c owns the block
abbrev pub resized_pair : ℕ → Block → ℕ → Pair → Pair
resized_pair c b m h = if is_pair c b h then pair_at h.caller h.first m else h

-- All pairs after an event of a caller: a new block is its own, behind the others; one that ends isn't any more; one that
-- changes its size stands there with the new one.
abbrev pub pairs_after : ℕ → List Pair → Event → List Pair
pairs_after c pairs (New k a n al) = pairs ++ pair_at c a n ∷ []
pairs_after c pairs (End k a n) = filter (λ h. not (is_pair c (block_at a n) h)) pairs
pairs_after c pairs (Size k a n m) = map (resized_pair c (block_at a n) m) pairs
pairs_after c pairs (Take k f w) = pairs
pairs_after c pairs (Back k f w) = pairs
pairs_after c pairs (Move f from to) = pairs
pairs_after c pairs (Full k n al) = pairs
pairs_after c pairs (Dry z w al) = pairs
pairs_after c pairs (No k z a n) = pairs
pairs_after c pairs (Open z) = pairs
pairs_after c pairs (Shut z) = pairs

-- the block that the event ends, resizes or denies, where it does one of these, is in the hand
abbrev pub is_in_hand : List Block → Event → Bool
is_in_hand hand (End k a n) = has_block hand (block_at a n)
is_in_hand hand (Size k a n m) = has_block hand (block_at a n)
is_in_hand hand (No k z a n) = has_block hand (block_at a n)
is_in_hand hand (Take k f w) = true
is_in_hand hand (Back k f w) = true
is_in_hand hand (Move f from to) = true
is_in_hand hand (New k a n al) = true
is_in_hand hand (Full k n al) = true
is_in_hand hand (Dry z w al) = true
is_in_hand hand (Open z) = true
is_in_hand hand (Shut z) = true

-- the pair is in from's hand, and its block begins at a
abbrev pub is_from : ℕ → ℕ → Pair → Bool
is_from from a h = (h.caller == from) && (h.first == a)

-- the first pair at a in from's hand is to's
abbrev pub given : ℕ → ℕ → ℕ → List Pair → List Pair
given from to a [] = []
given from to a (h ∷ hs) = if is_from from a h then pair_at to h.first h.size ∷ hs else h ∷ given from to a hs
