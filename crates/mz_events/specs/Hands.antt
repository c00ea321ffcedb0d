-- A caller's own entries, and the pairs in its hand. That a caller owns what it was served is this project's own.
use Rattle.std.specs.Prelude.{ℕ, ◌==◌, List, [], ◌∷◌, ◌++◌, map, filter, fold, if◌then◌else◌}
use Rattle.mz_base.specs.Space.{Block, block_at, same_block}
use Rattle.mz_base.specs.Lists.{drop_block}
use Rattle.mz_events.specs.declared.entry.Entry.{Entry}
use Rattle.mz_events.specs.declared.event.Event.{Event}
use Rattle.mz_events.specs.declared.event.Event.TheVariants.{Take, Back, Move, New, End, Size, Full, Dry, No, Open, Shut}

-- the entries of a caller among these, in their order
abbrev pub own : ℕ → List Entry → List Entry
own c entries = filter (λ e. e.caller == c) entries

-- A caller's hand after an event of its own: a new block is in it, behind the others; a block that ends isn't; and one
-- that changes its size stands there with the new one.
abbrev pub hand_after : List Block → Event → List Block
hand_after hand (New k a n al) = hand ++ block_at a n ∷ []
hand_after hand (End k a n) = drop_block (block_at a n) hand
hand_after hand (Size k a n m) = map (λ b. if same_block (block_at a n) b then block_at a m else b) hand
hand_after hand (Take k f w) = hand
hand_after hand (Back k f w) = hand
hand_after hand (Move f from to) = hand
hand_after hand (Full k n al) = hand
hand_after hand (Dry z w al) = hand
hand_after hand (No k z a n) = hand
hand_after hand (Open z) = hand
hand_after hand (Shut z) = hand

-- the hand after entries of its caller, one after another
abbrev pub hand_through : List Block → List Entry → List Block
hand_through hand entries = fold (λ bs e. hand_after bs e.event) hand entries

-- a caller's hand after these entries, where nothing was given to it or taken from it
abbrev pub hand_of : ℕ → List Entry → List Block
hand_of c entries = hand_through [] (own c entries)
