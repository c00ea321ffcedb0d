-- An event that fits a state can be done in its slots.
use Rattle.std.proofs.Common.{◌≡◌, ℕ, ◌+◌, ◌*◌, ◌-◌, ◌%◌, ◌≤◌, true, false, List, [], ◌∷◌, refl, sym, ap, ◌∙◌, subst, inl, inr, arith}
use Rattle.std.specs.Prelude.{◌==◌, ◌||◌, ◌&&◌, nat_le, not, Option}
use Rattle.std.specs.List.{list_any, list_all}
use Rattle.std.proofs.lemmas.Bool.{cond-false, false≢true, true≢false, and_parts, or_cases, or_left, or_right, eqb-true, leb-true}
use Rattle.std.proofs.lemmas.List.Elements.{All-nil, All-cons}
use Rattle.mz_base.specs.declared.range.TheConstants.{PAGE}
use Rattle.mz_base.specs.declared.profile.Profile.{Profile}
use Rattle.mz_base.specs.Limits.{IsWithinLimits}
use Rattle.mz_base.specs.Space.{Block, Run, block_at, block_end, run_at, run_end, runs_apart}
use Rattle.mz_base.specs.Room.{lies_in, is_free, is_lowest_free, has_room, page_starts, run_from}
use Rattle.mz_base.specs.Space.{least_multiple}
use Rattle.mz_events.specs.declared.place.Place.{Place}
use Rattle.mz_events.specs.declared.place.Place.TheVariants.{Pages, Tiny, TinyDepot, Small, SmallDepot, Large, Nano}
use Rattle.mz_events.specs.declared.event.Event.{Event}
use Rattle.mz_events.specs.declared.event.Event.TheVariants.{Take, Back, Move, New, End, Size, Full, Dry, No, Open, Shut}
use Rattle.mz_events.specs.Places.{Spot, same_spot, spot_at, spot_of, is_magazine, is_depot, is_large, is_nano, is_pages, is_length_of, is_size_of, quantum_of, depot_of, zone_of, nano_start}
use Rattle.mz_events.specs.State.{Kept, State, kept_at, value_at}
use Rattle.mz_events.specs.Placement.{lies_in_place, lies_in_nano}
use Rattle.mz_events.specs.Room.{wide}
use Rattle.mz_events.specs.Rules.{Fits, is_lowest_with_room}
use Rattle.mz_events.specs.Fitting.{FitsByEvent, MayMake}
use Rattle.mz_events.specs.Separation.{IsSeparate, IsAscending}
use Rattle.mz_events.specs.Changes.{region_at}
use Rattle.mz_holding.specs.LiveBlocks.{page_limit}
use Rattle.mz_holding.specs.HeldRuns.{IsRoomAt}
use Rattle.mz_holding.specs.NanoPages.{IsSlotAmong, AllOfSize}
use Rattle.mz_spots.specs.SlotKinds.{IsOfRuns, HasRoomFor}
use Rattle.mz_history.specs.Booked.{is_sound, is_good_claim, is_good_duty}
use Rattle.mz_history.specs.Ready.{CanCome, CanTake, CanGive, CanMove, IsReady}
use Rattle.mz_history.proofs.RunLists.{all_run, each_run, first_there, region_there, region_is, some_pages, apart_turned}
use Rattle.mz_history.proofs.SoundLemmas.{sound_there}

-- ---- kinds of places

of_runs : (k : Place) (a : ℕ) → is_pages k ≡ false → is_nano k ≡ false → IsOfRuns (spot_at k a)
of_runs Pages a h g = absurd (true≢false h)
of_runs (Tiny z m) a h g = (Tiny z m, refl, refl)
of_runs (TinyDepot z) a h g = (TinyDepot z, refl, refl)
of_runs (Small z m) a h g = (Small z m, refl, refl)
of_runs (SmallDepot z) a h g = (SmallDepot z, refl, refl)
of_runs (Large z) a h g = (Large z, refl, refl)
of_runs Nano a h g = absurd (true≢false g)

three_kinds : (k : Place) → (is_magazine k || is_depot k || is_large k) ≡ true → (is_pages k ≡ false) × (is_nano k ≡ false)
three_kinds Pages h = absurd (false≢true h)
three_kinds (Tiny z m) h = (refl, refl)
three_kinds (TinyDepot z) h = (refl, refl)
three_kinds (Small z m) h = (refl, refl)
three_kinds (SmallDepot z) h = (refl, refl)
three_kinds (Large z) h = (refl, refl)
three_kinds Nano h = absurd (false≢true h)

two_kinds : (k : Place) → (is_magazine k || is_depot k) ≡ true → (is_pages k ≡ false) × (is_nano k ≡ false)
two_kinds Pages h = absurd (false≢true h)
two_kinds (Tiny z m) h = (refl, refl)
two_kinds (TinyDepot z) h = (refl, refl)
two_kinds (Small z m) h = (refl, refl)
two_kinds (SmallDepot z) h = (refl, refl)
two_kinds (Large z) h = absurd (false≢true h)
two_kinds Nano h = absurd (false≢true h)

magazine_kind : (k : Place) → is_magazine k ≡ true → (is_pages k ≡ false) × (is_nano k ≡ false)
magazine_kind Pages h = absurd (false≢true h)
magazine_kind (Tiny z m) h = (refl, refl)
magazine_kind (TinyDepot z) h = absurd (false≢true h)
magazine_kind (Small z m) h = (refl, refl)
magazine_kind (SmallDepot z) h = absurd (false≢true h)
magazine_kind (Large z) h = absurd (false≢true h)
magazine_kind Nano h = absurd (false≢true h)

depot_kind : (m : Place) → is_magazine m ≡ true → IsOfRuns (spot_of (depot_of m)) × (same_spot (spot_of (depot_of m)) (spot_of m) ≡ false) × (same_spot (spot_of m) (spot_of (depot_of m)) ≡ false)
depot_kind Pages h = absurd (false≢true h)
depot_kind (Tiny z m) h = ((TinyDepot z, refl, refl), refl, refl)
depot_kind (TinyDepot z) h = absurd (false≢true h)
depot_kind (Small z m) h = ((SmallDepot z, refl, refl), refl, refl)
depot_kind (SmallDepot z) h = absurd (false≢true h)
depot_kind (Large z) h = absurd (false≢true h)
depot_kind Nano h = absurd (false≢true h)

new_kind : (k : Place) → (is_magazine k || is_large k || is_nano k) ≡ true → is_pages k ≡ false
new_kind Pages h = absurd (false≢true h)
new_kind (Tiny z m) h = refl
new_kind (TinyDepot z) h = refl
new_kind (Small z m) h = refl
new_kind (SmallDepot z) h = refl
new_kind (Large z) h = refl
new_kind Nano h = refl

-- ---- lengths and sizes are some

of_least : (least w : ℕ) → 1 ≤ least → nat_le least w ≡ true → 1 ≤ w
of_least least w some h = let more : least ≤ w = leb-true least w h in omega arith

some_length : (k : Place) (w : ℕ) → is_length_of k w ≡ true → 1 ≤ w
some_length Pages w h = absurd (false≢true h)
some_length (Tiny z m) w h = let is : w ≡ 64 = eqb-true w 64 h in omega arith
some_length (TinyDepot z) w h = let is : w ≡ 64 = eqb-true w 64 h in omega arith
some_length (Small z m) w h = let is : w ≡ 512 = eqb-true w 512 h in omega arith
some_length (SmallDepot z) w h = let is : w ≡ 512 = eqb-true w 512 h in omega arith
some_length (Large z) w h = of_least 3 w (omega arith) h
some_length Nano w h = absurd (false≢true h)

size_between : (unit least most n : ℕ) → 1 ≤ least → ((n % unit == 0) && nat_le least n && nat_le n most) ≡ true → 1 ≤ n
size_between unit least most n some h = let a = and_parts ((n % unit == 0) && nat_le least n) (nat_le n most) h in let b = and_parts (n % unit == 0) (nat_le least n) a.0 in of_least least n some b.1

some_size : (k : Place) (n : ℕ) → is_size_of k n ≡ true → 1 ≤ n
some_size Pages n h = absurd (false≢true h)
some_size (Tiny z m) n h = size_between 16 16 1008 n (omega arith) h
some_size (TinyDepot z) n h = size_between 16 16 1008 n (omega arith) h
some_size (Small z m) n h = size_between 512 1024 32768 n (omega arith) h
some_size (SmallDepot z) n h = size_between 512 1024 32768 n (omega arith) h
some_size (Large z) n h = of_least 49152 n (omega arith) (and_parts (n % PAGE == 0) (nat_le 49152 n) h).1
some_size Nano n h = size_between 16 16 256 n (omega arith) h

-- ---- where blocks lie

lies_held : (p : Profile) (k : Place) (runs : List Run) (b : Block) → is_nano k ≡ false → lies_in_place p k runs b ≡ true → list_any (λ r. lies_in r b.first (block_end b)) runs ≡ true
lies_held p k runs b kind h =
    (and_parts (list_any (λ r. lies_in r b.first (block_end b)) runs) (is_large k || ((b.first % quantum_of k == 0) && (b.size % quantum_of k == 0))) (sym (cond-false (is_nano k) (lies_in_nano p b) (list_any (λ r. lies_in r b.first (block_end b)) runs && (is_large k || ((b.first % quantum_of k == 0) && (b.size % quantum_of k == 0)))) kind) ∙ h)).0

sizes_all : (n : ℕ) (live : List Block) → list_all (λ c. c.size == n) live ≡ true → AllOfSize n live
sizes_all n [] h = All-nil (λ c. c.size ≡ n)
sizes_all n (c ∷ live) h = let parts = and_parts (c.size == n) (list_all (λ d. d.size == n) live) h in All-cons (λ d. d.size ≡ n) c live (eqb-true c.size n parts.0) (sizes_all n live parts.1)

-- some region begins at the page of a claim
first_of_lowest : (kept : Kept) (f : ℕ) (claim : ℕ × ℕ) → is_lowest_with_room kept f claim ≡ true → list_any (λ r. r.first == f) kept.runs ≡ true
first_of_lowest kept f claim h = weaker kept.runs (and_parts (list_any (λ r. (r.first == f) && has_room r (wide kept) claim.0 claim.1) kept.runs) _ h).0
  where
    weaker : (rs : List Run) → list_any (λ r. (r.first == f) && has_room r (wide kept) claim.0 claim.1) rs ≡ true → list_any (λ r. r.first == f) rs ≡ true
    weaker [] g = g
    weaker (r ∷ rs) g = elim (or_cases ((r.first == f) && has_room r (wide kept) claim.0 claim.1) (list_any (λ t. (t.first == f) && has_room t (wide kept) claim.0 claim.1) rs) g) [
      | inl here ↦ or_left (r.first == f) (list_any (λ t. t.first == f) rs) (and_parts (r.first == f) (has_room r (wide kept) claim.0 claim.1) here).0
      | inr later ↦ or_right (r.first == f) (list_any (λ t. t.first == f) rs) (weaker rs later)
    ]

-- ---- the events

module _ (p : Profile) (s : State) (c : ℕ) (limits : IsWithinLimits p) (law : FitsByEvent p s c) (sep : IsSeparate p s) (asc : IsAscending p s) (sound : list_all (λ pair. is_sound pair.1) s.values ≡ true) where
  low_enough : nano_start p ≤ page_limit
  low_enough = let most : p.pages ≤ 16384 = limits.pages.1 in let less : p.pages - p.nano ≤ p.pages = omega arith in omega arith

  take_ready : (k : Place) (f w al : ℕ) → IsOfRuns (spot_of k) → is_length_of k w ≡ true → is_lowest_free (nano_start p) (kept_at s (spot_of Pages)).taken (run_at f w) al ≡ true → CanTake s.values k (run_at f w)
  take_ready k f w al kind long lowest =
      let top = nano_start p in
      let taken = (kept_at s (spot_of Pages)).taken in
      let first = and_parts ((f % al == 0) && is_free top taken (run_at f w)) (list_all (λ x. nat_le f (least_multiple al x) || not (is_free top taken (run_from w al x))) (page_starts taken)) lowest in
      let free = (and_parts (f % al == 0) (is_free top taken (run_at f w)) first.0).1 in
      let parts = and_parts (nat_le (f + w) top) (list_all (λ t. runs_apart t (run_at f w)) taken) free in
      let below : f + w ≤ nano_start p = leb-true (f + w) top parts.0 in
      let limit : nano_start p ≤ page_limit = low_enough in
      record {
        kind = kind;
        comes = record {
          some = some_length k w long;
          fits = omega arith;
          apart = each_run (λ t. runs_apart t (run_at f w)) (kept_at s (spot_of k)).runs (λ t there. all_run (λ u. runs_apart u (run_at f w)) taken t parts.1 ((sep.taken t).1 (spot_of k, there)));
        };
        untaken = parts.1;
      }

  ready_take : (k : Place) (f w : ℕ) → Fits p s c (Take k f w) → CanTake s.values k (run_at f w)
  ready_take k f w h = elim (law.take_kind k f w h) [
    | inl magazine ↦
        let may = (law.take_region k f w magazine).0 h in
        let kind = magazine_kind k magazine in
        take_ready k f w w (of_runs k 0 kind.0 kind.1) may.length may.lowest
    | inr large ↦
        let z = zone_of k in
        let may = (law.take_run z f w).0 (subst (λ (q : Place). Fits p s c (Take q f w)) large h) in
        subst (λ (q : Place). CanTake s.values q (run_at f w)) (sym large) (take_ready (Large z) f w 1 (Large z, refl, refl) may.length may.lowest)
  ]

  ready_back : (k : Place) (f w : ℕ) → Fits p s c (Back k f w) → CanGive s.values k (run_at f w)
  ready_back k f w h =
      let may = (law.give_back k f w).0 h in
      let kind = three_kinds k may.kind in
      record {
        kind = of_runs k 0 kind.0 kind.1;
        there = first_there (kept_at s (spot_of k)).runs (run_at f w) may.here;
        is = region_is (kept_at s (spot_of k)).runs (run_at f w) (asc.runs (spot_of k)) may.here;
      }

  -- a region that is at one spot can come to another
  comes_to : (j k : Spot) (f : ℕ) → (j ≡ k → ⊥) → list_any (λ t. t.first == f) (kept_at s j).runs ≡ true → CanCome (region_at (kept_at s j).runs f) (kept_at s k).runs
  comes_to j k f differ there =
      let r = region_at (kept_at s j).runs f in
      let is = (region_there (kept_at s j).runs f there).0 in
      let below : run_end r ≤ nano_start p = sep.below_nano j r is in
      let limit : nano_start p ≤ page_limit = low_enough in
      record {
        some = some_pages (kept_at s j).runs r (asc.runs j) is;
        fits = omega arith;
        apart = each_run (λ t. runs_apart t r) (kept_at s k).runs (λ t here. elim (sep.runs_are_apart j k r t is here) [ inl same ↦ absurd (differ same.0) | inr apart ↦ apart_turned r t apart ]);
      }

  spots_differ : (j k : Spot) → same_spot k j ≡ false → ((i : Spot) → same_spot i i ≡ true) → j ≡ k → ⊥
  spots_differ j k other itself same = false≢true (sym other ∙ ap (λ (i : Spot). same_spot k i) same ∙ itself k)

  ready_move : (f : ℕ) (from to : Place) → ((i : Spot) → same_spot i i ≡ true) → Fits p s c (Move f from to) → CanMove s.values f from to
  ready_move f from to itself h = elim (law.move_kind f from to h) [
    | inl out ↦
        let m = from in
        let kind = magazine_kind m out.0 in
        let depot = depot_kind m out.0 in
        let may = (law.put_aside m f out.0).0 (subst (λ (q : Place). Fits p s c (Move f m q)) out.1 h) in
        let good = and_parts (is_good_claim (value_at s (spot_of m)).last) (is_good_duty (value_at s (spot_of m)).duty (kept_at s (spot_of m)).runs) (sound_there s.values (spot_of m) sound) in
        let there : list_any (λ r. r.first == f) (kept_at s (spot_of m)).runs ≡ true = ap (λ (o : Option Event). is_good_duty o (kept_at s (spot_of m)).runs) (sym may.owed) ∙ good.1 in
        subst (λ (q : Place). CanMove s.values f m q) (sym out.1) (record {
          from = of_runs m 0 kind.0 kind.1;
          to = depot.0;
          differ = depot.1;
          there = there;
          comes = comes_to (spot_of m) (spot_of (depot_of m)) f (spots_differ (spot_of m) (spot_of (depot_of m)) depot.1 itself) there;
        })
    | inr back ↦
        let m = to in
        let kind = magazine_kind m back.0 in
        let depot = depot_kind m back.0 in
        let may = (law.take_out m f back.0).0 (subst (λ (q : Place). Fits p s c (Move f q m)) back.1 h) in
        let there = first_of_lowest (kept_at s (spot_of (depot_of m))) f may.request may.lowest in
        subst (λ (q : Place). CanMove s.values f q m) (sym back.1) (record {
          from = depot.0;
          to = of_runs m 0 kind.0 kind.1;
          differ = depot.2;
          there = there;
          comes = comes_to (spot_of (depot_of m)) (spot_of m) f (spots_differ (spot_of (depot_of m)) (spot_of m) depot.2 itself) there;
        })
  ]

  room_held : (k : Place) (a n al : ℕ) → is_nano k ≡ false → MayMake p s c k a n al → IsRoomAt (kept_at s (spot_at k a)) a n
  room_held k a n al kind may = record {
    some = some_size k n may.size;
    lies = lies_held p k (kept_at s (spot_at k a)).runs (block_at a n) kind may.lies;
    apart = may.apart;
  }

  room_nano : (a n al : ℕ) → MayMake p s c Nano a n al → IsSlotAmong (kept_at s (spot_at Nano a)).live a n
  room_nano a n al may =
      let live = (kept_at s (spot_at Nano a)).live in
      let lies = and_parts (nat_le (nano_start p * PAGE) a) (nat_le (a + n) (p.pages * PAGE)) may.lies in
      let end : a + n ≤ p.pages * 16384 = leb-true (a + n) (p.pages * PAGE) lies.1 in
      let most : p.pages ≤ 16384 = limits.pages.1 in
      let placed = may.in_nano refl in
      record {
        some = some_size Nano n may.size;
        fits = omega arith;
        apart = may.apart;
        size = sizes_all n live (and_parts ((a % PAGE % n == 0) && nat_le (a % PAGE + n) PAGE) (list_all (λ c. c.size == n) live) placed).1;
      }

  room_for : (k : Place) (a n al : ℕ) → MayMake p s c k a n al → is_pages k ≡ false → HasRoomFor (spot_at k a) (kept_at s (spot_at k a)) a n
  room_for Pages a n al may kind = absurd (true≢false kind)
  room_for (Tiny z m) a n al may kind = room_held (Tiny z m) a n al refl may
  room_for (TinyDepot z) a n al may kind = room_held (TinyDepot z) a n al refl may
  room_for (Small z m) a n al may kind = room_held (Small z m) a n al refl may
  room_for (SmallDepot z) a n al may kind = room_held (SmallDepot z) a n al refl may
  room_for (Large z) a n al may kind = room_held (Large z) a n al refl may
  room_for Nano a n al may kind = room_nano a n al may

  pub ready : ((i : Spot) → same_spot i i ≡ true) → (e : Event) → Fits p s c e → IsReady s.values e
  ready itself (Take k f w) h = ready_take k f w h
  ready itself (Back k f w) h = ready_back k f w h
  ready itself (Move f from to) h = ready_move f from to itself h
  ready itself (New k a n al) h =
      let may = (law.make k a n al).0 h in
      let kind = new_kind k may.kind in
      record { kind = kind; room = room_for k a n al may kind }
  ready itself (End k a n) h = let may = (law.ends k a n).0 h in record { kind = may.kind; live = may.live }
  ready itself (Size k a n m) h =
      let may = (law.resize k a n m).0 h in
      let kind = two_kinds k may.kind in
      record {
        kind = of_runs k a kind.0 kind.1;
        live = may.live;
        room = record { some = some_size k m may.size; lies = lies_held p k (kept_at s (spot_at k a)).runs (block_at a m) kind.1 may.lies; apart = may.apart };
      }
  ready itself (Full k n al) h =
      let may = (law.full k n al).0 h in
      let kind = three_kinds k may.kind in
      record { kind = of_runs k 0 kind.0 kind.1; some = may.some }
  ready itself (Dry z w al) h = tt
  ready itself (No k z a n) h = tt
  ready itself (Open z) h = tt
  ready itself (Shut z) h = tt
