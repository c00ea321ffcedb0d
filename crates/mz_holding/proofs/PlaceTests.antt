-- Rules 10 and 11 at a place that keeps this, kind by kind.
use Rattle.std.proofs.Common.{◌≡◌, ℕ, ◌+◌, ◌≤◌, Bool, true, false, refl, sym, ap, ◌∙◌, arith}
use Rattle.std.specs.Prelude.{◌&&◌, ◌||◌, ◌==◌, ◌%◌, nat_le, if◌then◌else◌}
use Rattle.std.specs.List.{list_any, list_all}
use Rattle.std.proofs.lemmas.Bool.{and_parts, false≢true, leb-true, eqb-true}
use Rattle.mz_base.specs.declared.profile.Profile.{Profile}
use Rattle.mz_base.specs.Space.{block_at, run_at, blocks_apart, bytes_of}
use Rattle.mz_base.specs.Room.{lies_in}
use Rattle.mz_base.specs.Lists.{has_run}
use Rattle.mz_events.specs.declared.place.Place.{Place}
use Rattle.mz_events.specs.declared.place.Place.TheVariants.{Pages, Tiny, TinyDepot, Small, SmallDepot, Large, Nano}
use Rattle.mz_events.specs.declared.event.Event.TheVariants.{New, Size, Back}
use Rattle.mz_events.specs.Places.{is_magazine, is_depot, is_large, is_size_of, quantum_of, spot_of}
use Rattle.mz_events.specs.State.{State, Kept, kept_at}
use Rattle.mz_events.specs.Placement.{fits_apart_there, is_placed, is_placed_in_magazine, is_placed_in_large}
use Rattle.mz_events.specs.Rules.{is_unused_back}
use Rattle.mz_holding.specs.HeldRuns.{IsRoomAt, IsRoomBut}

-- whole quanta, which large doesn't ask
abbrev pub of_quanta : Place → ℕ → ℕ → Bool
of_quanta k a n = is_large k || ((a % quantum_of k == 0) && (n % quantum_of k == 0))

abbrev pub new_extent : Place → ℕ → ℕ → ℕ → Bool
new_extent k a n al = is_size_of k n && nat_le 1 al && (a % al == 0) && of_quanta k a n

abbrev pub other_extent : Place → ℕ → ℕ → Bool
other_extent k a n = is_size_of k n && of_quanta k a n

abbrev pub clear_in : Kept → ℕ → ℕ → Bool
clear_in kept a n = list_any (λ r. lies_in r a (a + n)) kept.runs && list_all (λ c. blocks_apart c (block_at a n)) kept.live

abbrev pub clear_but_in : Kept → ℕ → ℕ → Bool
clear_but_in kept a n = list_any (λ r. lies_in r a (a + n)) kept.runs && list_all (λ c. (c.first == a) || blocks_apart c (block_at a n)) kept.live

shuffle : (x q l t : Bool) → ((x && q) && (l && t)) ≡ ((x && (l && q)) && t)
shuffle false q l t = refl
shuffle true false true t = refl
shuffle true false false t = refl
shuffle true true true t = refl
shuffle true true false t = refl

at_new : (k : Place) (a n al : ℕ) (kept : Kept) → (new_extent k a n al && clear_in kept a n) ≡ ((is_size_of k n && nat_le 1 al && (a % al == 0)) && (list_any (λ r. lies_in r a (a + n)) kept.runs && of_quanta k a n) && list_all (λ c. blocks_apart c (block_at a n)) kept.live)
at_new k a n al kept = shuffle (is_size_of k n && nat_le 1 al && (a % al == 0)) (of_quanta k a n) (list_any (λ r. lies_in r a (a + n)) kept.runs) (list_all (λ c. blocks_apart c (block_at a n)) kept.live)

at_size : (k : Place) (a n : ℕ) (kept : Kept) → (other_extent k a n && clear_but_in kept a n) ≡ (is_size_of k n && (list_any (λ r. lies_in r a (a + n)) kept.runs && of_quanta k a n) && list_all (λ c. (c.first == a) || blocks_apart c (block_at a n)) kept.live)
at_size k a n kept = shuffle (is_size_of k n) (of_quanta k a n) (list_any (λ r. lies_in r a (a + n)) kept.runs) (list_all (λ c. (c.first == a) || blocks_apart c (block_at a n)) kept.live)

-- RULE 10, of a new block
pub new_rule : (p : Profile) (s : State) (k : Place) (a n al : ℕ) (kept : Kept) → (is_magazine k || is_large k) ≡ true → kept_at s (spot_of k) ≡ kept → (new_extent k a n al && clear_in kept a n) ≡ fits_apart_there p s (New k a n al)
new_rule p s (Tiny z m) a n al kept kind is = ap (λ x. new_extent (Tiny z m) a n al && clear_in x a n) (sym is) ∙ at_new (Tiny z m) a n al (kept_at s (spot_of (Tiny z m)))
new_rule p s (Small z m) a n al kept kind is = ap (λ x. new_extent (Small z m) a n al && clear_in x a n) (sym is) ∙ at_new (Small z m) a n al (kept_at s (spot_of (Small z m)))
new_rule p s (Large z) a n al kept kind is = ap (λ x. new_extent (Large z) a n al && clear_in x a n) (sym is) ∙ at_new (Large z) a n al (kept_at s (spot_of (Large z)))
new_rule p s Pages a n al kept kind is = absurd (false≢true kind)
new_rule p s (TinyDepot z) a n al kept kind is = absurd (false≢true kind)
new_rule p s (SmallDepot z) a n al kept kind is = absurd (false≢true kind)
new_rule p s Nano a n al kept kind is = absurd (false≢true kind)

-- and of one that is resized
pub size_rule : (p : Profile) (s : State) (k : Place) (a n m : ℕ) (kept : Kept) → (is_magazine k || is_depot k) ≡ true → kept_at s (spot_of k) ≡ kept → (other_extent k a m && clear_but_in kept a m) ≡ fits_apart_there p s (Size k a n m)
size_rule p s (Tiny z g) a n m kept kind is = ap (λ x. other_extent (Tiny z g) a m && clear_but_in x a m) (sym is) ∙ at_size (Tiny z g) a m (kept_at s (spot_of (Tiny z g)))
size_rule p s (TinyDepot z) a n m kept kind is = ap (λ x. other_extent (TinyDepot z) a m && clear_but_in x a m) (sym is) ∙ at_size (TinyDepot z) a m (kept_at s (spot_of (TinyDepot z)))
size_rule p s (Small z g) a n m kept kind is = ap (λ x. other_extent (Small z g) a m && clear_but_in x a m) (sym is) ∙ at_size (Small z g) a m (kept_at s (spot_of (Small z g)))
size_rule p s (SmallDepot z) a n m kept kind is = ap (λ x. other_extent (SmallDepot z) a m && clear_but_in x a m) (sym is) ∙ at_size (SmallDepot z) a m (kept_at s (spot_of (SmallDepot z)))
size_rule p s (Large z) a n m kept kind is = absurd (false≢true kind)
size_rule p s Pages a n m kept kind is = absurd (false≢true kind)
size_rule p s Nano a n m kept kind is = absurd (false≢true kind)

-- RULE 11
pub placed_rule : (s : State) (k : Place) (a n al : ℕ) (kept : Kept) → (is_magazine k || is_large k) ≡ true → kept_at s (spot_of k) ≡ kept → (if is_large k then is_placed_in_large kept (block_at a n) else is_placed_in_magazine kept (block_at a n) al) ≡ is_placed s (New k a n al)
placed_rule s (Tiny z m) a n al kept kind is = ap (λ x. is_placed_in_magazine x (block_at a n) al) (sym is)
placed_rule s (Small z m) a n al kept kind is = ap (λ x. is_placed_in_magazine x (block_at a n) al) (sym is)
placed_rule s (Large z) a n al kept kind is = ap (λ x. is_placed_in_large x (block_at a n)) (sym is)
placed_rule s Pages a n al kept kind is = absurd (false≢true kind)
placed_rule s (TinyDepot z) a n al kept kind is = absurd (false≢true kind)
placed_rule s (SmallDepot z) a n al kept kind is = absurd (false≢true kind)
placed_rule s Nano a n al kept kind is = absurd (false≢true kind)

-- RULE 6
pub back_rule : (s : State) (k : Place) (f w : ℕ) (kept : Kept) → kept_at s (spot_of k) ≡ kept → (has_run kept.runs (run_at f w) && list_all (λ b. blocks_apart b (bytes_of (run_at f w))) kept.live) ≡ is_unused_back s (Back k f w)
back_rule s k f w kept is = ap (λ (x : Kept). has_run x.runs (run_at f w) && list_all (λ b. blocks_apart b (bytes_of (run_at f w))) x.live) (sym is)

-- a size of any range isn't 0
from_least : (least n : ℕ) (x y : Bool) → (x && nat_le least n && y) ≡ true → least ≤ n
from_least least n x y h = leb-true least n (and_parts x (nat_le least n) (and_parts (x && nat_le least n) y h).0).1

size_some : (k : Place) (n : ℕ) → is_size_of k n ≡ true → 1 ≤ n
size_some (Tiny z m) n h = let least = from_least 16 n (n % 16 == 0) (nat_le n 1008) h in omega arith
size_some (TinyDepot z) n h = let least = from_least 16 n (n % 16 == 0) (nat_le n 1008) h in omega arith
size_some (Small z m) n h = let least = from_least 1024 n (n % 512 == 0) (nat_le n 32768) h in omega arith
size_some (SmallDepot z) n h = let least = from_least 1024 n (n % 512 == 0) (nat_le n 32768) h in omega arith
size_some (Large z) n h = let least : 49152 ≤ n = leb-true 49152 n (and_parts (n % 16384 == 0) (nat_le 49152 n) h).1 in omega arith
size_some Nano n h = let least = from_least 16 n (n % 16 == 0) (nat_le n 256) h in omega arith
size_some Pages n h = absurd (false≢true h)

pub room_of_new : (k : Place) (a n al : ℕ) (kept : Kept) → new_extent k a n al ≡ true → clear_in kept a n ≡ true → IsRoomAt kept a n
room_of_new k a n al kept extent clear =
    let parts = and_parts (list_any (λ r. lies_in r a (a + n)) kept.runs) (list_all (λ c. blocks_apart c (block_at a n)) kept.live) clear in
    let outer = and_parts (is_size_of k n && nat_le 1 al && (a % al == 0)) (of_quanta k a n) extent in
    let inner = and_parts (is_size_of k n && nat_le 1 al) (a % al == 0) outer.0 in
    record { some = size_some k n (and_parts (is_size_of k n) (nat_le 1 al) inner.0).0; lies = parts.0; apart = parts.1 }

pub room_of_size : (k : Place) (a n : ℕ) (kept : Kept) → other_extent k a n ≡ true → clear_but_in kept a n ≡ true → IsRoomBut kept a n
room_of_size k a n kept extent clear =
    let parts = and_parts (list_any (λ r. lies_in r a (a + n)) kept.runs) (list_all (λ c. (c.first == a) || blocks_apart c (block_at a n)) kept.live) clear in
    record { some = size_some k n (and_parts (is_size_of k n) (of_quanta k a n) extent).0; lies = parts.0; apart = parts.1 }

pub aligned_of_new : (k : Place) (a n al : ℕ) → new_extent k a n al ≡ true → (1 ≤ al) × (a % al ≡ 0)
aligned_of_new k a n al extent =
    let outer = and_parts (is_size_of k n && nat_le 1 al && (a % al == 0)) (of_quanta k a n) extent in
    let inner = and_parts (is_size_of k n && nat_le 1 al) (a % al == 0) outer.0 in
    (leb-true 1 al (and_parts (is_size_of k n) (nat_le 1 al) inner.0).1, eqb-true (a % al) 0 inner.1)

pub some_of_new : (k : Place) (a n al : ℕ) → new_extent k a n al ≡ true → 1 ≤ n
some_of_new k a n al extent =
    let outer = and_parts (is_size_of k n && nat_le 1 al && (a % al == 0)) (of_quanta k a n) extent in
    let inner = and_parts (is_size_of k n && nat_le 1 al) (a % al == 0) outer.0 in
    size_some k n (and_parts (is_size_of k n) (nat_le 1 al) inner.0).0

pub some_of_other : (k : Place) (a n : ℕ) → other_extent k a n ≡ true → 1 ≤ n
some_of_other k a n extent = size_some k n (and_parts (is_size_of k n) (of_quanta k a n) extent).0
