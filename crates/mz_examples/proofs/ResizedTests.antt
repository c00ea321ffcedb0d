-- Tests that each way of giving a block another size passes, for the worked examples: where one fails, it doesn't fit.
use Rattle.std.proofs.Common.{◌≡◌, ℕ, ◌+◌, ◌<◌, Bool, true, false, not, List, [], ◌∷◌, ◌++◌, Option, Some, None, refl, ap, sym, subst, ◌∙◌, arith, inl, inr}
use Rattle.std.specs.Prelude.{◌==◌, ◌&&◌, ◌||◌, nat_lt}
use Rattle.std.specs.List.{list_any, list_all}
use Rattle.std.proofs.lemmas.Bool.{eq-eqb, not-true, lt-ltb, and_from, and_parts, or_cases, or_left, or_right, cond_both, false≢true}
use Rattle.std.proofs.lemmas.List.{map-append}
use Rattle.mz_base.specs.declared.profile.Profile.{Profile}
use Rattle.mz_base.specs.declared.range.Range.{Range}
use Rattle.mz_base.specs.declared.range.Range.TheVariants as range
use Rattle.mz_base.specs.Sizes.{route_of, good_size_of}
use Rattle.mz_base.specs.Space.{Block, block_at, same_block, blocks_apart}
use Rattle.mz_events.specs.declared.event.Event.{Event}
use Rattle.mz_events.specs.declared.event.Event.TheVariants.{End, Size}
use Rattle.mz_events.specs.declared.entry.Entry.{Entry}
use Rattle.mz_events.specs.Places.{Spot, same_spot, spot_of}
use Rattle.mz_events.specs.State.{State, Kept, Value, look_up}
use Rattle.mz_base.specs.Lists.{has_block}
use Rattle.mz_base.specs.Room.{lies_in}
use Rattle.mz_record.specs.Moments.{state_at}
use Rattle.mz_record.specs.Served.{events, IsServed}
use Rattle.mz_record.specs.Dropped.{IsDropped}
use Rattle.mz_record.specs.Resized.{Resize, IsHemmedIn, WasHemmedIn, IsOfOneRange, stays_large, lies_in_nano_pages, moving_request, Moves, to_nothing, between_ranges, out_of_nano, large, hemmed_in, same_size, in_place, still_large, moved, not_moved, IsReallocated}
use Rattle.mz_examples.specs.RunsResized.{asks}
use Rattle.mz_examples.proofs.UndisturbedTest.{flipped}

-- an event ends a block
abbrev pub is_end : Event → Bool
is_end (End k a s) = true
is_end _ = false

abbrev pub has_end : List Event → Bool
has_end es = list_any is_end es

end_behind : (xs ys : List Event) → has_end ys ≡ true → has_end (xs ++ ys) ≡ true
end_behind [] ys ends = ends
end_behind (x ∷ xs) ys ends = or_right (is_end x) (has_end (xs ++ ys)) (end_behind xs ys ends)

dropped_ends : (p : Profile) (h : List Entry) (b : Block) (olds : List Entry) → IsDropped p h b olds → has_end (events olds) ≡ true
dropped_ends p h b [] dropped = absurd dropped
dropped_ends p h b (e ∷ es) dropped = or_left (is_end e.event) (has_end (events es)) (ap is_end dropped.1)

-- a block that moves has its end among the entries
moved_ends : (p : Profile) (h : List Entry) (b : Block) (es news olds : List Entry) → es ≡ news ++ olds → IsDropped p h b olds → has_end (events es) ≡ true
moved_ends p h b es news olds whole dropped =
    ap (λ (xs : List Entry). has_end (events xs)) whole ∙ ap has_end (map-append (λ (e : Entry). e.event) news olds)
    ∙ end_behind (events news) (events olds) (dropped_ends p h b olds dropped)

abbrev pub is_large_range : Range → Bool
is_large_range range.Large = true
is_large_range _ = false

abbrev pub is_size_to : Event → ℕ → Bool
is_size_to (Size k a s t) g = t == g
is_size_to _ g = false

-- a block that doesn't move: what it becomes, with its entries
abbrev pub stays_well : Profile → Block → ℕ → List Event → Block → Bool
stays_well p b n [] d = same_block b d && ((nat_lt 0 n && (good_size_of n == b.size)) || (is_large_range (route_of n) && stays_large b.size (good_size_of n)))
stays_well p b n (e ∷ es) d =
    is_size_to e (good_size_of n) && (nat_lt 0 n && (not (lies_in_nano_pages p b) && same_block (block_at b.first (good_size_of n)) d))

same-block : (b d : Block) → b ≡ d → same_block b d ≡ true
same-block b d same = and_from (b.first == d.first) (b.size == d.size) (eq-eqb b.first d.first (ap (λ (c : Block). c.first) same)) (eq-eqb b.size d.size (ap (λ (c : Block). c.size) same))

some_of : {A : Type 0} (x y : A) → ◌≡◌ {A = Option A} (Some x) (Some y) → y ≡ x
some_of x y h = cc

some_none : {A : Type 0} (x : A) (P : Type 0) → ◌≡◌ {A = Option A} (Some x) None → P
some_none x P h = cc

none_some : {A : Type 0} (x : A) (P : Type 0) → ◌≡◌ {A = Option A} None (Some x) → P
none_some x P h = cc

module _ (p : Profile) (h : List Entry) (r : Resize) (es : List Entry) where
  abbrev b : Block
  b = r.block

  abbrev n : ℕ
  n = r.bytes

  -- where a block ends, it is a move
  pub ends_then_moves : (got : Option Block) → IsReallocated p h r es got → has_end (events es) ≡ true → Moves p h r
  ends_then_moves got (inl (same_size asked size none is)) ends = absurd (false≢true (sym (ap (λ (xs : List Entry). has_end (events xs)) none) ∙ ends))
  ends_then_moves got (inl (in_place k one other all is)) ends = absurd (false≢true (sym (ap has_end all) ∙ ends))
  ends_then_moves got (inl (still_large old new stays none is)) ends = absurd (false≢true (sym (ap (λ (xs : List Entry). has_end (events xs)) none) ∙ ends))
  ends_then_moves got (inr (moved d news olds moves whole served dropped is)) ends = moves
  ends_then_moves got (inr (not_moved moves served is)) ends = moves

  -- where none ends, the block stays
  pub no_end_then_stays : (d : Block) → IsReallocated p h r es (Some d) → has_end (events es) ≡ false → stays_well p b n (events es) d ≡ true
  no_end_then_stays d (inl (same_size asked size none is)) no_end =
      ap (λ (xs : List Entry). stays_well p b n (events xs) d) none
      ∙ and_from (same_block b d) _ (same-block b d (some_of d b is))
      (or_left (nat_lt 0 n && (good_size_of n == b.size)) _ (and_from (nat_lt 0 n) (good_size_of n == b.size) (lt-ltb 0 n asked) (eq-eqb (good_size_of n) b.size size)))
  no_end_then_stays d (inl (in_place k one other all is)) no_end =
      ap (λ (xs : List Event). stays_well p b n xs d) all
      ∙ and_from (good_size_of n == good_size_of n) _ (eq-eqb (good_size_of n) (good_size_of n) refl)
      (and_from (nat_lt 0 n) _ (lt-ltb 0 n one.asked)
      (and_from (not (lies_in_nano_pages p b)) _ one.in_region (same-block (block_at b.first (good_size_of n)) d (some_of d (block_at b.first (good_size_of n)) is))))
  no_end_then_stays d (inl (still_large old new stays none is)) no_end =
      ap (λ (xs : List Entry). stays_well p b n (events xs) d) none
      ∙ and_from (same_block b d) _ (same-block b d (some_of d b is))
      (or_right (nat_lt 0 n && (good_size_of n == b.size)) _ (and_from (is_large_range (route_of n)) (stays_large b.size (good_size_of n)) (ap is_large_range new) stays))
  no_end_then_stays d (inr (moved e news olds moves whole served dropped is)) no_end =
      absurd (false≢true (sym no_end ∙ moved_ends p h b es news olds whole dropped))
  no_end_then_stays d (inr (not_moved moves served is)) no_end = some_none d _ is

  -- a request that gets none stands behind a block that gets none
  pub none_then_served : IsReallocated p h r es None → IsServed p h (moving_request r) es None
  none_then_served (inl (same_size asked size none is)) = none_some b _ is
  none_then_served (inl (in_place k one other all is)) = none_some (block_at b.first (good_size_of n)) _ is
  none_then_served (inl (still_large old new stays none is)) = none_some b _ is
  none_then_served (inr (moved d news olds moves whole served dropped is)) = none_some d _ is
  none_then_served (inr (not_moved moves served is)) = served.served

-- within a range a block moves only where it was hemmed in
pub hemmed_at : (p : Profile) (h : List Entry) (r : Resize) → IsOfOneRange p r.block r.bytes → Moves p h r → (r.block.size < good_size_of r.bytes) × WasHemmedIn p h r
hemmed_at p h r one (to_nothing none) = absurd (let asked = one.asked in omega (arith, asked, none))
hemmed_at p h r one (between_ranges other apart) = absurd (apart one.ranges)
hemmed_at p h r one (out_of_nano other inside) = absurd (flipped (lies_in_nano_pages p r.block) inside one.in_region)
hemmed_at p h r one (large old new wastes) = absurd (one.not_large new)
hemmed_at p h r one (hemmed_in same more hemmed) = (more, hemmed)

-- a large block moves only where it wastes too much
pub wastes_then :
    (p : Profile) (h : List Entry) (r : Resize) → route_of r.block.size ≡ range.Large → route_of r.bytes ≡ range.Large → 0 < r.bytes → lies_in_nano_pages p r.block ≡ false
    → Moves p h r → stays_large r.block.size (good_size_of r.bytes) ≡ false
wastes_then p h r old new asked below (to_nothing none) = absurd (omega (arith, asked, none))
wastes_then p h r old new asked below (between_ranges other apart) = absurd (apart (old ∙ sym new))
wastes_then p h r old new asked below (out_of_nano other inside) = absurd (false≢true (sym below ∙ inside))
wastes_then p h r old new asked below (large one two wastes) = not-true (stays_large r.block.size (good_size_of r.bytes)) wastes
wastes_then p h r old new asked below (hemmed_in one more hemmed) = absurd (one.not_large new)

-- a place has room for the block to grow to n bytes
abbrev pub has_room_in : Kept → Block → ℕ → Bool
has_room_in k b n = list_any (λ r. lies_in r b.first (b.first + n)) k.runs && list_all (λ c. (c.first == b.first) || blocks_apart c (block_at b.first n)) k.live

-- wherever the block is live it has room
abbrev pub has_room_everywhere : List (Spot × Value) → Block → ℕ → Bool
has_room_everywhere values b n = list_all (λ (pair : Spot × Value). not (has_block pair.1.kept.live b) || has_room_in pair.1.kept b n) values

room_at : (values : List (Spot × Value)) (b : Block) (n : ℕ) (j : Spot) → has_room_everywhere values b n ≡ true → has_block (look_up values j).kept.live b ≡ true → not (has_room_in (look_up values j).kept b n) ≡ true → ⊥
unfolding look_up
room_at [] b n j room = λ live hemmed. false≢true live
room_at (pair ∷ pairs) b n j room =
    let parts = and_parts (not (has_block pair.1.kept.live b) || has_room_in pair.1.kept b n) (has_room_everywhere pairs b n) room in
    cond_both (same_spot j pair.0) pair.1 (look_up pairs j) (λ (v : Value). has_block v.kept.live b ≡ true → not (has_room_in v.kept b n) ≡ true → ⊥)
    (λ here live hemmed.
    elim (or_cases (not (has_block pair.1.kept.live b)) (has_room_in pair.1.kept b n) parts.0) [
      | inl dead ↦ flipped (has_block pair.1.kept.live b) live dead
      | inr free ↦ flipped (has_room_in pair.1.kept b n) free hemmed
    ])
    (λ elsewhere. room_at pairs b n j parts.1)

-- so it isn't hemmed in
pub not_hemmed : (s : State) (b : Block) (n : ℕ) → has_room_everywhere s.values b n ≡ true → IsHemmedIn s b n → ⊥
not_hemmed s b n room (k, kind, live, hemmed) = room_at s.values b n (spot_of k) room live hemmed

-- A block that had room after the first t entries doesn't move within its region where only those count.
pub stays_with_room :
    (p : Profile) (h : List Entry) (t : ℕ) (b : Block) (n : ℕ) → IsOfOneRange p b n → has_room_everywhere (state_at p h t).values b (good_size_of n) ≡ true
    → Moves p h (asks t t 0 b n) → ⊥
stays_with_room p h t b n one room moves =
    let was = (hemmed_at p h (asks t t 0 b n) one moves).1 in
    let low = was.not_before in
    let high = was.not_after in
    let here : was.t ≡ t = omega (arith, low, high) in
    not_hemmed (state_at p h t) b (good_size_of n) room (subst (λ (u : ℕ). IsHemmedIn (state_at p h u) b (good_size_of n)) here was.hemmed)
