-- How slots by place stand for members: the link to the next, the link to the one before, and the length less one. This project's own.
use Rattle.std.specs.Prelude.{◌≡◌, ℕ, zero, suc, ◌+◌, ◌-◌, ◌<◌, ◌==◌, min, nat_lt, Bool, not, ◌&&◌, ◌||◌, List, length, slice_index, if◌then◌else◌}
use Rattle.std.specs.Ordering.{nat_cmp}
use Rattle.std.specs.FinMap as map

-- Whether there is a member at the place q. Only where there is none do both links lead to one other place.
unfoldable pub has_member : List ℕ → List ℕ → ℕ → Bool
has_member next prev q =
    nat_lt q (length next) && ((slice_index next q == q) || not (slice_index next q == slice_index prev q))

-- the length of the member at the place q
abbrev pub length_at : List ℕ → ℕ → ℕ
length_at lengths q = slice_index lengths q + 1

-- the members at the first n places
unfoldable pub members_below : List ℕ → List ℕ → List ℕ → ℕ → map.FinMap nat_cmp ℕ
members_below next prev lengths zero = map.empty
members_below next prev lengths (suc n) =
    let rest = members_below next prev lengths n in
    if has_member next prev n then map.insert rest n (length_at lengths n) else rest

-- all members
abbrev pub members_of : List ℕ → List ℕ → List ℕ → map.FinMap nat_cmp ℕ
members_of next prev lengths = members_below next prev lengths (length next)

-- which of the lists 0 to most - 1 a length belongs to
abbrev pub list_of : ℕ → ℕ → ℕ
list_of most n = min n most - 1

-- a place other than q
abbrev pub other_than : ℕ → ℕ
other_than q = if q == 0 then 1 else 0

-- the links of places without a member
abbrev pub LeadAway : List ℕ → Type 0
LeadAway links = (q : ℕ) → q < length links → slice_index links q ≡ other_than q
