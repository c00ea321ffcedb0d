-- The bytes of a block, each known or unknown. A byte is known from when something is written there until the block ends.
-- That a block keeps its bytes is the field's; what is known of fresh bytes is this project's own.
use Rattle.std.specs.Prelude.{ℕ, zero, suc, ◌+◌, ◌-◌, ◌/◌, ◌%◌, ◌==◌, Bool, true, false, ◌&&◌, List, [], ◌∷◌, ◌++◌, length, map, take, drop, replicate, Option, None, Some}

-- each byte of a block
abbrev pub Bytes : Type 0
Bytes = List (Option ℕ)

-- a block of s bytes that was just served: nothing is known of them
abbrev pub fresh : ℕ → Bytes
fresh s = replicate s None

-- the first n bytes are 0
abbrev pub cleared : ℕ → Bytes → Bytes
cleared n bs = replicate n (Some 0) ++ drop n bs

-- each of s bytes is this one
abbrev pub filled : ℕ → ℕ → Bytes
filled s byte = replicate s (Some byte)

-- the lowest k bytes of a number, least byte first
abbrev pub low_bytes : ℕ → ℕ → List ℕ
low_bytes zero a = []
low_bytes (suc k) a = a % 256 ∷ low_bytes k (a / 256)

-- from off on the bytes are the 8 of an address, least byte first
abbrev pub linked : ℕ → ℕ → Bytes → Bytes
linked off a bs = take off bs ++ map (λ x. Some x) (low_bytes 8 a) ++ drop (off + 8) bs

-- a block of s bytes that has the first n of these, as many as there are; nothing is known of the others
abbrev pub kept : ℕ → ℕ → Bytes → Bytes
kept n s bs = take n bs ++ fresh (s - length (take n bs))

-- the block has s bytes from now on, and stays where it is
abbrev pub kept_in_place : ℕ → Bytes → Bytes
kept_in_place s bs = kept s s bs

-- it moves to a block of s bytes that serves a request for n
abbrev pub kept_in_move : ℕ → ℕ → Bytes → Bytes
kept_in_move n s bs = kept n s bs

-- as many bytes are shown as there are, and each known one as it is; an unknown one may be shown as any
abbrev pub is_shown_as : Bytes → List ℕ → Bool
is_shown_as [] [] = true
is_shown_as [] (x ∷ xs) = false
is_shown_as (b ∷ bs) [] = false
is_shown_as (None ∷ bs) (x ∷ xs) = is_shown_as bs xs
is_shown_as (Some b ∷ bs) (x ∷ xs) = (b == x) && is_shown_as bs xs

-- these are shown for the bytes from off on
abbrev pub shows : Bytes → ℕ → List ℕ → Bool
shows bs off shown = is_shown_as (take (length shown) (drop off bs)) shown
