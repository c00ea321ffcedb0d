-- Who owns the live blocks of a plain book: for each quantum of the space, the caller who owns the block that begins there. With the
-- history these tell the pairs. This project's own.
use Rattle.std.specs.Prelude.{ℕ, ◌/◌, ◌<◌, List, [], map, length, slice_set, slice_index_or}
use Rattle.mz_base.specs.Space.{Block}
use Rattle.mz_events.specs.declared.entry.Entry.{Entry}
use Rattle.mz_events.specs.declared.event.Event.{Event}
use Rattle.mz_events.specs.declared.event.Event.TheVariants.{Take, Back, Move, New, End, Size, Full, Dry, No, Open, Shut}
use Rattle.mz_events.specs.Hands.{hand_through}
use Rattle.mz_book.specs.declared.pair.Pair.{Pair}
use Rattle.mz_book.specs.Pairs.{pair_at}

-- the quantum of 16 bytes in which an address lies
abbrev pub quantum_at : ℕ → ℕ
quantum_at a = a / 16

-- the pair of a block
abbrev pub owned_pair : List ℕ → Block → Pair
owned_pair quanta b = pair_at (slice_index_or quanta (quantum_at b.first) 0) b.first b.size

-- the pairs of all blocks that these entries leave, in the order in which they were made
abbrev pub pairs_told : List ℕ → List Entry → List Pair
pairs_told quanta entries = map (owned_pair quanta) (hand_through [] entries)

-- the owners after an event of a caller, whose a new block is
abbrev pub quanta_after : ℕ → List ℕ → Event → List ℕ
quanta_after c quanta (New k a n al) = slice_set quanta (quantum_at a) c
quanta_after c quanta (End k a n) = quanta
quanta_after c quanta (Size k a n m) = quanta
quanta_after c quanta (Take k f w) = quanta
quanta_after c quanta (Back k f w) = quanta
quanta_after c quanta (Move f from to) = quanta
quanta_after c quanta (Full k n al) = quanta
quanta_after c quanta (Dry z w al) = quanta
quanta_after c quanta (No k z a n) = quanta
quanta_after c quanta (Open z) = quanta
quanta_after c quanta (Shut z) = quanta

-- where the event makes a block, this begins in one of the quanta
abbrev pub BeginsWithin : List ℕ → Event → Type 0
BeginsWithin quanta (New k a n al) = quantum_at a < length quanta
BeginsWithin quanta (End k a n) = Unit {0}
BeginsWithin quanta (Size k a n m) = Unit {0}
BeginsWithin quanta (Take k f w) = Unit {0}
BeginsWithin quanta (Back k f w) = Unit {0}
BeginsWithin quanta (Move f from to) = Unit {0}
BeginsWithin quanta (Full k n al) = Unit {0}
BeginsWithin quanta (Dry z w al) = Unit {0}
BeginsWithin quanta (No k z a n) = Unit {0}
BeginsWithin quanta (Open z) = Unit {0}
BeginsWithin quanta (Shut z) = Unit {0}
