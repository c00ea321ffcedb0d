-- Locality of all events: each rule reads the same of two states that agree on what the event reads.
use Rattle.std.proofs.Common.{◌≡◌, ℕ, Bool, true, false, cond, not, List, [], ◌∷◌, ◌++◌, ◌-◌, ◌+◌, ◌≤◌, arith, refl, ap, sym, subst, ◌∙◌, Some, None}
use Rattle.std.specs.Prelude.{map, filter, ◌&&◌, ◌||◌, ◌==◌, IsTrue, nat_lt, nat_le, ◌%◌, length}
use Rattle.std.specs.List.{list_any, list_all}
use Rattle.std.proofs.lemmas.Bool.{false≢true, and_parts}
use Rattle.std.proofs.lemmas.Bool.Decides.{nat_tests}
use Rattle.mz_base.specs.declared.range.TheConstants.{PAGE}
use Rattle.mz_base.specs.Space.{page_of, Block, block_at, block_end, blocks_apart}
use Rattle.mz_base.specs.Room.{any_has_room, has_free}
use Rattle.mz_base.specs.Lists.{blocks_in}
use Rattle.mz_events.specs.Room.{any_fits, wide}
use Rattle.mz_base.specs.declared.profile.Profile.{Profile}
use Rattle.mz_events.specs.declared.place.Place.{Place}
use Rattle.mz_events.specs.declared.place.Place.TheVariants.{Pages, Tiny, TinyDepot, Small, SmallDepot, Large, Nano}
use Rattle.mz_events.specs.declared.event.Event.{Event}
use Rattle.mz_events.specs.declared.event.Event.TheVariants.{Take, Back, Move, New, End, Size, Full, Dry, No, Open, Shut}
use Rattle.mz_events.specs.Places.{nano_start, is_nano, is_depot, is_magazine, is_large, is_size_of, zone_of, depot_of, places_of, Spot, nano_page, same_spot, spot_of, spot_at}
use Rattle.mz_events.specs.State.{Kept, Value, State, value_at, kept_at, is_open}
use Rattle.mz_events.specs.Changes.{region_at, without_run, with_region}
use Rattle.mz_events.specs.Effect.{touched, touches, value_after, after}
use Rattle.mz_events.specs.Rules.{Rule, in_turn, duty_first, existing, takes_lowest, takes_claimed, backs_unused, backs_allowed, moves_in_by_duty, moves_out_claimed, fits_apart, placed, live_there, no_room, zone_changes, keeps, Fits, places_exist, is_lowest_taken, is_claimed_taken, is_unused_back, is_allowed_back, is_owed_move, is_claimed_move, is_live_there, has_no_room, is_zone_change, claim_of, is_lowest_with_room}
use Rattle.mz_events.specs.Placement.{fits_apart_there, is_placed, lies_in_place, is_placed_in_magazine, is_placed_in_large, is_placed_in_nano}
use Rattle.mz_events.specs.Duties.{allows, empty_depot_region}
use Rattle.mz_events.specs.Locality.{reads, IsLocal}
use Rattle.mz_events.proofs.SpotLemmas.{look_up-write_all, same_spot-refl}

-- an event writes what it touches
pub value_at-after : (p : Profile) (s : State) (c : ℕ) (e : Event) (j : Spot) → value_at (after p s c e) j ≡ cond (touches p e j) (value_after s c e j) (value_at s j)
unfolding after
value_at-after p s c e j = look_up-write_all (value_after s c e) (touched p e) s.values j

pub value_at-untouched : (p : Profile) (s : State) (c : ℕ) (e : Event) (j : Spot) → touches p e j ≡ false → value_at (after p s c e) j ≡ value_at s j
value_at-untouched p s c e j h = value_at-after p s c e j ∙ ap (λ b. cond b (value_after s c e j) (value_at s j)) h

pub value_at-touched : (p : Profile) (s : State) (c : ℕ) (e : Event) (j : Spot) → touches p e j ≡ true → value_at (after p s c e) j ≡ value_after s c e j
value_at-touched p s c e j h = value_at-after p s c e j ∙ ap (λ b. cond b (value_after s c e j) (value_at s j)) h

-- the event makes a new block in nano
abbrev is_new_in_nano : Event → Bool
is_new_in_nano (New k a s al) = is_nano k
is_new_in_nano _ = false

or_left : (a b : Bool) → a ≡ true → (a || b) ≡ true
or_left true b h = refl
or_left false b h = absurd (false≢true h)

or_right : (a b : Bool) → b ≡ true → (a || b) ≡ true
or_right true b h = refl
or_right false b h = h

first_of_two : (j k : Spot) → list_any (same_spot j) (j ∷ k ∷ []) ≡ true
first_of_two j k = rw (same_spot-refl j) refl

second_of_two : (j k : Spot) → list_any (same_spot k) (j ∷ k ∷ []) ≡ true
second_of_two j k = or_right (same_spot k j) (same_spot k k || false) (rw (same_spot-refl k) refl)

only_one : (j : Spot) → list_any (same_spot j) (j ∷ []) ≡ true
only_one j = rw (same_spot-refl j) refl

-- where a block isn't nano's, its spot is its place's
spot_at-plain : (k : Place) (a : ℕ) → is_nano k ≡ false → spot_at k a ≡ spot_of k
spot_at-plain Pages a h = refl
spot_at-plain (Tiny z m) a h = refl
spot_at-plain (TinyDepot z) a h = refl
spot_at-plain (Small z m) a h = refl
spot_at-plain (SmallDepot z) a h = refl
spot_at-plain (Large z) a h = refl
spot_at-plain Nano a h = absurd (false≢true (sym h))

and_false : (b : Bool) → (b && false) ≡ false
and_false true = refl
and_false false = refl

other_kept : (z x y : ℕ) (b : Bool) (xs : List ℕ) → (x == y) ≡ b → list_any (λ i. i == z) (filter (λ i. not (i == y)) xs) ≡ (not (z == y) && list_any (λ i. i == z) xs) → list_any (λ i. i == z) (cond (not b) (x ∷ filter (λ i. not (i == y)) xs) (filter (λ i. not (i == y)) xs)) ≡ (not (z == y) && ((x == z) || list_any (λ i. i == z) xs))
other_kept z x y true xs e h = grind (arith, nat_tests)
other_kept z x y false xs e h = grind (arith, nat_tests)

pub still_open : (z y : ℕ) (xs : List ℕ) → list_any (λ x. x == z) (filter (λ x. not (x == y)) xs) ≡ (not (z == y) && list_any (λ x. x == z) xs)
still_open z y [] = sym (and_false (not (z == y)))
still_open z y (x ∷ xs) = other_kept z x y (x == y) xs refl (still_open z y xs)

pub at_least_one : (n : ℕ) → nat_le 16 n ≡ true → 1 ≤ n
at_least_one n h = grind (arith, nat_tests)

pub nat_le-true : (a b : ℕ) → nat_le a b ≡ true → a ≤ b
nat_le-true a b h = grind (arith, nat_tests)

abbrev SameAt : State → State → Spot → Type 0
SameAt s t j = value_at s j ≡ value_at t j

module _ (p : Profile) (s t : State) (c : ℕ) where
  all_calm : (e : Event) (js : List Spot) → ((j : Spot) → list_any (same_spot j) js ≡ true → SameAt s t j) → list_all (λ j. allows (value_at s j).duty e) js ≡ list_all (λ j. allows (value_at t j).duty e) js
  all_calm e [] h = refl
  all_calm e (j ∷ js) h =
      let here = h j (or_left (same_spot j j) (list_any (same_spot j) js) (same_spot-refl j)) in
      let rest = all_calm e js (λ i g. h i (or_right (same_spot i j) (list_any (same_spot i) js) g)) in
      ap (λ (v : Value). allows v.duty e && list_all (λ i. allows (value_at s i).duty e) js) here ∙ ap (λ b. allows (value_at t j).duty e && b) rest

  no_runs : (ks : List Place) → ((j : Spot) → list_any (same_spot j) (map spot_of ks) ≡ true → SameAt s t j) → list_all (λ k. length (kept_at s (spot_of k)).runs == 0) ks ≡ list_all (λ k. length (kept_at t (spot_of k)).runs == 0) ks
  no_runs [] h = refl
  no_runs (k ∷ ks) h =
      let here = h (spot_of k) (or_left (same_spot (spot_of k) (spot_of k)) (list_any (same_spot (spot_of k)) (map spot_of ks)) (same_spot-refl (spot_of k))) in
      let rest = no_runs ks (λ i g. h i (or_right (same_spot i (spot_of k)) (list_any (same_spot i) (map spot_of ks)) g)) in
      ap (λ (v : Value). (length v.kept.runs == 0) && list_all (λ i. length (kept_at s (spot_of i)).runs == 0) ks) here ∙ ap (λ b. (length (kept_at t (spot_of k)).runs == 0) && b) rest

  no_blocks : (ks : List Place) → ((j : Spot) → list_any (same_spot j) (map spot_of ks) ≡ true → SameAt s t j) → list_all (λ k. length (kept_at s (spot_of k)).live == 0) ks ≡ list_all (λ k. length (kept_at t (spot_of k)).live == 0) ks
  no_blocks [] h = refl
  no_blocks (k ∷ ks) h =
      let here = h (spot_of k) (or_left (same_spot (spot_of k) (spot_of k)) (list_any (same_spot (spot_of k)) (map spot_of ks)) (same_spot-refl (spot_of k))) in
      let rest = no_blocks ks (λ i g. h i (or_right (same_spot i (spot_of k)) (list_any (same_spot i) (map spot_of ks)) g)) in
      ap (λ (v : Value). (length v.kept.live == 0) && list_all (λ i. length (kept_at s (spot_of i)).live == 0) ks) here ∙ ap (λ b. (length (kept_at t (spot_of k)).live == 0) && b) rest

  exist_same : (e : Event) → ((z : ℕ) → is_open s z ≡ is_open t z) → places_exist p s e ≡ places_exist p t e
  exist_same (Take k f w) zones = let a = zones (zone_of k) in cc
  exist_same (Back k f w) zones = refl
  exist_same (Move f k l) zones = let a = zones (zone_of k) in let b = zones (zone_of l) in cc
  exist_same (New k a n al) zones = let a = zones (zone_of k) in cc
  exist_same (End k a n) zones = let a = zones (zone_of k) in cc
  exist_same (Size k a n m) zones = let a = zones (zone_of k) in cc
  exist_same (Full k n al) zones = let a = zones (zone_of k) in cc
  exist_same (Dry z w al) zones = let a = zones z in cc
  exist_same (No k z a n) zones = let a = zones (zone_of k) in let b = zones z in cc
  exist_same (Open z) zones = refl
  exist_same (Shut z) zones = refl

  -- where each spot that an event reads is the same, so is each rule
  module _ (zones : (z : ℕ) → is_open s z ≡ is_open t z) where
    lowest_same : (e : Event) → ((j : Spot) → reads p e j ≡ true → SameAt s t j) → is_lowest_taken p s e ≡ is_lowest_taken p t e
    lowest_same (Take k f w) h = let a = h (spot_of Pages) (or_left _ _ (second_of_two (spot_of k) (spot_of Pages))) in cc
    lowest_same _ h = refl

    claimed_same : (e : Event) → ((j : Spot) → reads p e j ≡ true → SameAt s t j) → is_claimed_taken s c e ≡ is_claimed_taken t c e
    claimed_same (Take k f w) h =
        let a = h (spot_of k) (or_left _ _ (first_of_two (spot_of k) (spot_of Pages))) in
        let b = h (spot_of (depot_of k)) (or_right (touches p (Take k f w) (spot_of (depot_of k))) _ (same_spot-refl (spot_of (depot_of k)))) in
        cc
    claimed_same _ h = refl

    unused_same : (e : Event) → ((j : Spot) → reads p e j ≡ true → SameAt s t j) → is_unused_back s e ≡ is_unused_back t e
    unused_same (Back k f w) h = let a = h (spot_of k) (or_left _ _ (first_of_two (spot_of k) (spot_of Pages))) in cc
    unused_same _ h = refl

    allowed_same : (e : Event) → ((j : Spot) → reads p e j ≡ true → SameAt s t j) → is_allowed_back s e ≡ is_allowed_back t e
    allowed_same (Back k f w) h = let a = h (spot_of k) (or_left _ _ (first_of_two (spot_of k) (spot_of Pages))) in let o = zones (zone_of k) in cc
    allowed_same _ h = refl

    owed_same : (e : Event) → ((j : Spot) → reads p e j ≡ true → SameAt s t j) → is_owed_move s e ≡ is_owed_move t e
    owed_same (Move f k l) h = let a = h (spot_of k) (or_left _ _ (first_of_two (spot_of k) (spot_of l))) in cc
    owed_same _ h = refl

    moved_same : (e : Event) → ((j : Spot) → reads p e j ≡ true → SameAt s t j) → is_claimed_move s c e ≡ is_claimed_move t c e
    moved_same (Move f k l) h =
        let a = h (spot_of k) (or_left _ _ (first_of_two (spot_of k) (spot_of l))) in
        let b = h (spot_of l) (or_left _ _ (second_of_two (spot_of k) (spot_of l))) in
        let family : Value → Value → Bool = λ u v. cond (is_depot l) true (elim (claim_of c v.last) [ Some claim ↦ is_lowest_with_room u.kept f claim | None ↦ false ]) in
        ap (λ u. family u (value_at s (spot_of l))) a ∙ ap (family (value_at t (spot_of k))) b
    moved_same _ h = refl

    live_same : (e : Event) → ((j : Spot) → reads p e j ≡ true → SameAt s t j) → is_live_there s e ≡ is_live_there t e
    live_same (End k a n) h = let b = h (spot_at k a) (or_left _ _ (only_one (spot_at k a))) in cc
    live_same (Size k a n m) h = let b = h (spot_at k a) (or_left _ _ (only_one (spot_at k a))) in cc
    live_same (No k z a n) h = let b = h (spot_at k a) (or_left _ _ (only_one (spot_at k a))) in cc
    live_same _ h = refl

    room_same : (e : Event) → ((j : Spot) → reads p e j ≡ true → SameAt s t j) → has_no_room p s e ≡ has_no_room p t e
    room_same (Full k n al) h = let b = h (spot_of k) (or_left _ _ (only_one (spot_of k))) in
        ap (λ (v : Value). nat_le 1 n && nat_le 1 al && not (cond (is_large k) (any_fits v.kept.cached n) (any_has_room v.kept.runs (wide v.kept) n al))) b
    room_same (Dry z w al) h = let b = h (spot_of Pages) (or_left (touches p (Dry z w al) (spot_of Pages)) false (first_of_two (spot_of Pages) (spot_of (Large z)))) in ap (λ (v : Value). nat_le 1 w && nat_le 1 al && not (has_free (nano_start p) v.kept.taken w al)) b
    room_same _ h = refl

    apart_same : (e : Event) → is_new_in_nano e ≡ false → ((j : Spot) → reads p e j ≡ true → SameAt s t j) → fits_apart_there p s e ≡ fits_apart_there p t e
    apart_same (New k a n al) g h =
        let b = h (spot_at k a) (or_left _ _ (only_one (spot_at k a))) in
        let d : value_at s (spot_of k) ≡ value_at t (spot_of k) = subst (SameAt s t) (spot_at-plain k a g) b in
        let near : State → List Block = λ v. cond (is_nano k) ((kept_at v (spot_at k a)).live ++ (kept_at v (spot_at k (block_end (block_at a n) - 1))).live) (kept_at v (spot_of k)).live in
        let family : Value → List Block → Bool = λ v bs. is_size_of k n && nat_le 1 al && (a % al == 0) && lies_in_place p k v.kept.runs (block_at a n) && list_all (λ x. blocks_apart x (block_at a n)) bs in
        let of : (v : State) → near v ≡ (kept_at v (spot_of k)).live = λ v. ap (λ x. cond x ((kept_at v (spot_at k a)).live ++ (kept_at v (spot_at k (block_end (block_at a n) - 1))).live) (kept_at v (spot_of k)).live) g in
        ap (λ v. family v (near s)) b ∙ ap (family (value_at t (spot_at k a))) (of s ∙ ap (λ (v : Value). v.kept.live) d ∙ sym (of t))
    apart_same (Size k a n m) g h = let b = h (spot_at k a) (or_left _ _ (only_one (spot_at k a))) in
        ap (λ (v : Value). is_size_of k m && lies_in_place p k v.kept.runs (block_at a m) && list_all (λ x. (x.first == a) || blocks_apart x (block_at a m)) v.kept.live) b
    apart_same _ g h = refl

    placed_same : (e : Event) → ((j : Spot) → reads p e j ≡ true → SameAt s t j) → is_placed s e ≡ is_placed t e
    placed_same (New k a n al) h = let b = h (spot_at k a) (or_left _ _ (only_one (spot_at k a))) in
        ap (λ (v : Value). cond (is_magazine k) (is_placed_in_magazine v.kept (block_at a n) al) (cond (is_large k) (is_placed_in_large v.kept (block_at a n)) (is_placed_in_nano v.kept (block_at a n)))) b
    placed_same _ h = refl

    changes_same : (e : Event) → ((j : Spot) → reads p e j ≡ true → SameAt s t j) → is_zone_change p s e ≡ is_zone_change p t e
    changes_same (Open z) h = let o = zones z in let r = no_runs (places_of p z) (λ j g. h j (or_left _ _ g)) in cc
    changes_same (Shut z) h = let o = zones z in let r = no_blocks (places_of p z) (λ j g. h j (or_left _ _ g)) in cc
    changes_same _ h = refl

    pub rule_same : (r : Rule) (e : Event) → fits_apart_there p s e ≡ fits_apart_there p t e → ((j : Spot) → reads p e j ≡ true → SameAt s t j) → keeps r p s c e ≡ keeps r p t c e
    unfolding keeps
    rule_same in_turn e g h = refl
    rule_same duty_first e g h = all_calm e (touched p e) (λ j y. h j (or_left _ _ y))
    rule_same existing e g h = ap (λ b. nat_lt c p.callers && b) (exist_same e zones)
    rule_same takes_lowest e g h = lowest_same e h
    rule_same takes_claimed e g h = claimed_same e h
    rule_same backs_unused e g h = unused_same e h
    rule_same backs_allowed e g h = allowed_same e h
    rule_same moves_in_by_duty e g h = owed_same e h
    rule_same moves_out_claimed e g h = moved_same e h
    rule_same fits_apart e g h = g
    rule_same placed e g h = placed_same e h
    rule_same live_there e g h = live_same e h
    rule_same no_room e g h = room_same e h
    rule_same zone_changes e g h = changes_same e h

  -- what an event leaves at a spot that it touches
  value_same : (e : Event) (j : Spot) → ((i : Spot) → reads p e i ≡ true → SameAt s t i) → SameAt s t j → value_after s c e j ≡ value_after t c e j
  value_same (Take k f w) j h y = cc
  value_same (Back k f w) j h y = cc
  value_same (Move f k l) j h y = let a = h (spot_of k) (or_left _ _ (first_of_two (spot_of k) (spot_of l))) in
      let family : Value → Value → Value = λ u v.
      let r = region_at u.kept.runs f in
      let kept : Kept = cond (same_spot j (spot_of k)) (without_run r v.kept) (with_region r (blocks_in u.kept.live r) v.kept) in
      record {
        kept = kept;
        duty = cond (is_depot l && same_spot j (spot_of l)) (empty_depot_region l kept) (cond (is_depot k && same_spot j (spot_of k)) (empty_depot_region k kept) None);
        last = Some (record { caller = c; event = Move f k l });
      } in
      ap (λ u. family u (value_at s j)) a ∙ ap (family (value_at t (spot_of k))) y
  value_same (New k a n al) j h y = cc
  value_same (End k a n) j h y = cc
  value_same (Size k a n m) j h y = cc
  value_same (Full k n al) j h y = cc
  value_same (Dry z w al) j h y = let a = h (spot_of (Large z)) (or_left _ _ (second_of_two (spot_of Pages) (spot_of (Large z)))) in cc
  value_same (No k z a n) j h y = cc
  value_same (Open z) j h y = cc
  value_same (Shut z) j h y = cc

  zones_same : (e : Event) → ((z : ℕ) → is_open s z ≡ is_open t z) → (z : ℕ) → is_open (after p s c e) z ≡ is_open (after p t c e) z
  unfolding after
  zones_same (Open y) zones z = ap (λ b. (y == z) || b) (zones z)
  zones_same (Shut y) zones z = still_open z y s.open_zones ∙ ap (λ b. not (z == y) && b) (zones z) ∙ sym (still_open z y t.open_zones)
  zones_same _ zones z = zones z

-- a block of nano that fits lies in one page
pub ends_in_page : (a n : ℕ) → 1 ≤ n → a % PAGE + n ≤ PAGE → page_of (a + n - 1) ≡ page_of a
ends_in_page a n some within = omega arith

in_one_page : (p : Profile) (s : State) (c a n al : ℕ) → Fits p s c (New Nano a n al) → page_of (a + n - 1) ≡ page_of a
unfolding keeps
in_one_page p s c a n al fits =
    let apart : IsTrue (fits_apart_there p s (New Nano a n al)) = fits fits_apart in
    let one : IsTrue (is_placed s (New Nano a n al)) = fits placed in
    let size = (and_parts _ _ (and_parts _ _ (and_parts _ _ (and_parts _ _ apart).0).0).0).0 in
    let least : nat_le 16 n ≡ true = (and_parts _ _ (and_parts _ _ size).0).1 in
    let within : nat_le (a % PAGE + n) PAGE ≡ true = (and_parts _ _ (and_parts _ _ one).0).1 in
    ends_in_page a n (at_least_one n least) (nat_le-true (a % PAGE + n) PAGE within)

nano_apart : (p : Profile) (s t : State) (a n al : ℕ) → page_of (a + n - 1) ≡ page_of a → SameAt s t (spot_at Nano a) → fits_apart_there p s (New Nano a n al) ≡ fits_apart_there p t (New Nano a n al)
nano_apart p s t a n al one same =
    let last : State → ℕ → List Block = λ v i. (kept_at v (nano_page i)).live in
    let family : List Block → List Block → Bool = λ xs ys. is_size_of Nano n && nat_le 1 al && (a % al == 0) && lies_in_place p Nano [] (block_at a n) && list_all (λ x. blocks_apart x (block_at a n)) (xs ++ ys) in
    let first = ap (λ (v : Value). v.kept.live) same in
    ap (λ xs. family xs (last s (page_of (a + n - 1)))) first
    ∙ ap (family (kept_at t (spot_at Nano a)).live) (ap (last s) one ∙ (first ∙ sym (ap (last t) one)))

apart_always : (p : Profile) (s t : State) (c : ℕ) (e : Event) → Fits p s c e → ((j : Spot) → reads p e j ≡ true → SameAt s t j) → ((z : ℕ) → is_open s z ≡ is_open t z) → (b : Bool) → is_new_in_nano e ≡ b → fits_apart_there p s e ≡ fits_apart_there p t e
apart_always p s t c e fits h zones false g = apart_same p s t c zones e g h
apart_always p s t c (New Nano a n al) fits h zones true g = nano_apart p s t a n al (in_one_page p s c a n al fits) (h (spot_at Nano a) (or_left (touches p (New Nano a n al) (spot_at Nano a)) false (only_one (spot_at Nano a))))
apart_always p s t c (New Pages a n al) fits h zones true g = absurd (false≢true g)
apart_always p s t c (New (Tiny z m) a n al) fits h zones true g = absurd (false≢true g)
apart_always p s t c (New (TinyDepot z) a n al) fits h zones true g = absurd (false≢true g)
apart_always p s t c (New (Small z m) a n al) fits h zones true g = absurd (false≢true g)
apart_always p s t c (New (SmallDepot z) a n al) fits h zones true g = absurd (false≢true g)
apart_always p s t c (New (Large z) a n al) fits h zones true g = absurd (false≢true g)
apart_always p s t c _ fits h zones true g = absurd (false≢true g)

pub all_local : (p : Profile) (e : Event) → IsLocal p e
all_local p e = record {
  fits = λ s t c agree fits r. sym (rule_same p s t c agree.zones r e (apart_always p s t c e fits agree.values agree.zones (is_new_in_nano e) refl) agree.values) ∙ fits r;
  effect = λ s t c j agree h. value_at-touched p s c e j h ∙ value_same p s t c e j agree.values (agree.values j (or_left _ _ h)) ∙ sym (value_at-touched p t c e j h);
  zones = λ s t c z agree. zones_same p s t c e agree.zones z;
  elsewhere = λ s c j. value_at-untouched p s c e j;
}
