-- Runs have the lengths of their places, and no more is live or taken than there is room for.
use Rattle.std.proofs.Common.{◌≡◌, ℕ, ◌+◌, ◌*◌, ◌<◌, ◌≤◌, Bool, true, false, List, [], ◌∷◌, length, refl, ap, sym, subst, ◌∙◌, inl, inr, arith, suc}
use Rattle.std.specs.Prelude.{filter, map, max, sum_by, ◌/◌, ◌%◌, nat_le}
use Rattle.std.specs.List.{list_all, flat_map}
use Rattle.std.proofs.lemmas.Bool.{false≢true, and_parts, eqb-true, leb-true}
use Rattle.std.proofs.lemmas.List.Sums.{sum_by-cons, sum_by-append}
use Rattle.mz_base.specs.declared.range.TheConstants.{PAGE}
use Rattle.mz_base.specs.declared.profile.Profile.{Profile}
use Rattle.mz_base.specs.Space.{Block, Run, run_at, block_end, run_end, runs_apart}
use Rattle.mz_base.specs.Room.{is_free}
use Rattle.mz_events.specs.declared.place.Place.{Place}
use Rattle.mz_events.specs.declared.place.Place.TheVariants.{Pages, Tiny, TinyDepot, Small, SmallDepot, Large, Nano}
use Rattle.mz_events.specs.declared.event.Event.{Event}
use Rattle.mz_events.specs.declared.event.Event.TheVariants.{Take, Back, Move, New, End, Size, Full, Dry, No, Open, Shut}
use Rattle.mz_events.specs.declared.entry.Entry.{Entry}
use Rattle.mz_events.specs.Places.{is_tiny, is_small, is_large, is_length_of, nano_start, Spot, keeper_at, nano_page, same_spot, spot_of, place_of}
use Rattle.mz_events.specs.State.{Kept, Value, State, kept_at, look_up, live_size, live_blocks, placed_runs, opening}
use Rattle.mz_events.specs.Changes.{region_at}
use Rattle.mz_events.specs.Effect.{after}
use Rattle.mz_events.specs.Rules.{Fits}
use Rattle.mz_events.specs.History.{AreLawful, after_all, after_entry}
use Rattle.mz_events.specs.Separation.{InOrder}
use Rattle.mz_events.specs.Bounds.{LiveBytesFit, RunsFit, RegionsFit}
use Rattle.mz_events.specs.Sameness.{IsOnce}
use Rattle.mz_events.proofs.SamenessLemmas.{opening_once, after_once, after_all_once}
use Rattle.mz_events.proofs.SpotLemmas.{same_spot-refl}
use Rattle.mz_events.proofs.InOrderLemmas.{IsIn, in_filter, each_in, Beside}
use Rattle.mz_events.proofs.SoundLemmas.{run_numbers, Home, place_of-spot}
use Rattle.mz_events.proofs.FactLemmas.{fits_take, pair_kind}
use Rattle.mz_events.proofs.SeparationLemmas.{IsApart, apart_after, apart_at_first, apart_left, runs_stay, changes_runs, take_cases, back_was, move_was, move_facts}
use Rattle.mz_events.proofs.ListedLemmas.{AreBeside, all_beside, beside_sum, beside_filter, order_sum, kept_somewhere, counted_is}
use Rattle.mz_events.proofs.CountLemmas.{of_kind, counted_left}
use Rattle.mz_events.proofs.Separation.{run_in, block_in, live_beside}

-- LENGTHS
abbrev IsOfLength : Spot → Run → Type 0
IsOfLength j r = (is_length_of (place_of j) r.pages ≡ true) × (is_large (place_of j) ≡ false → r.first % r.pages ≡ 0)

abbrev HaveLengths : State → Type 0
HaveLengths s = (j : Spot) (r : Run) → IsIn r (kept_at s j).runs → IsOfLength j r

module _ (p : Profile) (s : State) (c : ℕ) (h : IsApart p s) (was : HaveLengths s) where
  lengths_stay : (e : Event) → changes_runs e ≡ false → HaveLengths (after p s c e)
  lengths_stay e n j r there = was j r (subst (λ rs. IsIn r rs) (runs_stay p s c h e n j).runs there)

  lengths_after : (e : Event) → Fits p s c e → HaveLengths (after p s c e)
  lengths_after (Take k f w) fits j r there = elim (take_cases p s c h k f w fits j r there) [
    | inl old ↦ was j r old
    | inr new ↦
        let facts = fits_take p s c k f w fits in
        let here : IsOfLength (spot_of k) (run_at f w) = subst (λ q. (is_length_of q w ≡ true) × (is_large q ≡ false → f % w ≡ 0)) (sym (place_of-spot k 0)) (facts.length, facts.aligned) in
        subst (λ i. IsOfLength i r) (sym new.0) (subst (IsOfLength (spot_of k)) (sym new.1) here)
  ]
  lengths_after (Back k f w) fits j r there = was j r (back_was p s c h k f w fits j r there).0
  lengths_after (Move f from to) fits j r there = elim (move_was p s c h f from to fits j r there) [
    | inl old ↦ was j r old.0
    | inr new ↦
        let facts = move_facts p s c h f from to fits in
        let region = region_at (kept_at s (spot_of from)).runs f in
        let lengths = pair_kind from to facts.pair in
        let old = subst (λ q. (is_length_of q region.pages ≡ true) × (is_large q ≡ false → region.first % region.pages ≡ 0)) (place_of-spot from 0) (was (spot_of from) region facts.there) in
        let here : IsOfLength (spot_of to) region = subst (λ q. (is_length_of q region.pages ≡ true) × (is_large q ≡ false → region.first % region.pages ≡ 0)) (sym (place_of-spot to 0)) (sym (lengths.lengths region.pages) ∙ old.0, λ n. old.1 lengths.one) in
        subst (λ i. IsOfLength i r) (sym new.0) (subst (IsOfLength (spot_of to)) (sym new.1) here)
  ]
  lengths_after (New k a n al) fits j r there = lengths_stay (New k a n al) refl j r there
  lengths_after (End k a n) fits j r there = lengths_stay (End k a n) refl j r there
  lengths_after (Size k a n m) fits j r there = lengths_stay (Size k a n m) refl j r there
  lengths_after (Full k n al) fits j r there = lengths_stay (Full k n al) refl j r there
  lengths_after (Dry z w al) fits j r there = lengths_stay (Dry z w al) refl j r there
  lengths_after (No k z a n) fits j r there = lengths_stay (No k z a n) refl j r there
  lengths_after (Open z) fits j r there = lengths_stay (Open z) refl j r there
  lengths_after (Shut z) fits j r there = lengths_stay (Shut z) refl j r there

lengths_at_first : HaveLengths opening
unfolding look_up
lengths_at_first j r there = absurd there

lengths_all : (p : Profile) (s : State) (es : List Entry) → AreLawful p s es → IsApart p s → HaveLengths s → HaveLengths (after_all p s es)
unfolding AreLawful after_all
lengths_all p s [] lawful h was = was
lengths_all p s (e ∷ es) lawful h was = lengths_all p (after_entry p s e) es lawful.1 (apart_after p s e.caller h e.event lawful.0.fits) (lengths_after p s e.caller h was e.event lawful.0.fits)

-- PAGES: what runs in order have of them
pages_sum : (rs : List Run) (top : ℕ) → ((r : Run) → IsIn r rs → run_end r ≤ top) → InOrder (λ r. r.first) run_end rs → sum_by (λ r. r.pages) rs ≤ top
pages_sum rs top to h =
    let whole = order_sum (λ (r : Run). r.first) run_end (λ (r : Run). r.pages) (λ r. refl) rs 0 top (omega arith) (λ x there. omega arith) to h in
    omega arith

pub runs_fit : (p : Profile) (es : List Entry) → AreLawful p opening es → RunsFit p (after_all p opening es)
runs_fit p es lawful =
    let s = after_all p opening es in
    let h = apart_left p es lawful in
    let lengths = lengths_all p opening es lawful (apart_at_first p) lengths_at_first in
    record {
      lengths = λ j r there. (lengths j r (run_in (kept_at s j).runs r there)).0;
      aligned = λ j r there. (lengths j r (run_in (kept_at s j).runs r there)).1;
      of_place = λ j. pages_sum (kept_at s j).runs (nano_start p) (λ r there. (h.sound j).below r there) (h.sound j).run_order;
      taken = pages_sum (kept_at s (spot_of Pages)).taken (nano_start p) (λ r there. let at = h.taken_somewhere r there in (h.sound at.0).below r at.1) h.taken_order;
    }

-- REGIONS: those of one kind of place, of one length
module _ (p : Profile) (s : State) (h : IsApart p s) (once : IsOnce s) (kind : Place → Bool) (unit : ℕ) (of_length : (j : Spot) (r : Run) → kind (place_of j) ≡ true → IsIn r (kept_at s j).runs → r.pages ≡ unit) where
  abbrev chosen : List (Spot × Run)
  chosen = filter (λ x. kind (place_of x.0)) (placed_runs s)

  other_runs : (j k : Spot) (r t : Run) → same_spot j k ≡ false → IsIn r (kept_at s j).runs → IsIn t (kept_at s k).runs → Beside (λ x. x.first) run_end t r
  other_runs j k r t other here there = elim (h.apart k j t r there here) [
    | inl same ↦ absurd (false≢true (sym other ∙ subst (λ i. same_spot j i ≡ true) (sym same.0) (same_spot-refl j)))
    | inr apart ↦ run_numbers t r apart
  ]

  chosen_beside : AreBeside (λ x. x.1.first) (λ x. run_end x.1) chosen
  chosen_beside = beside_filter (λ (x : Spot × Run). x.1.first) (λ x. run_end x.1) (λ x. kind (place_of x.0)) (placed_runs s) (all_beside (λ (r : Run). r.first) run_end (λ (k : Kept). k.runs) s once (λ j. (h.sound j).run_order) other_runs)

  chosen_is : (x : Spot × Run) → IsIn x chosen → IsIn x.1 (kept_at s x.0).runs × (x.1.pages ≡ unit)
  chosen_is x there =
      let it = in_filter (λ (y : Spot × Run). kind (place_of y.0)) (placed_runs s) x there in
      let at = kept_somewhere (λ (r : Run). r.first) run_end (λ (k : Kept). k.runs) s x once it.0 in
      (at, of_length x.0 x.1 it.1 at)

  all_of_length : (xs : List (Spot × Run)) → ((x : Spot × Run) → IsIn x xs → x.1.pages ≡ unit) → sum_by (λ x. x.1.pages) xs ≡ length xs * unit
  all_of_length [] f = omega arith
  all_of_length (x ∷ xs) f =
      let one : sum_by (λ (y : Spot × Run). y.1.pages) (x ∷ xs) ≡ x.1.pages + sum_by (λ y. y.1.pages) xs = sum_by-cons (λ (y : Spot × Run). y.1.pages) x xs in
      let here = f x (inl refl) in
      let rest = all_of_length xs (λ y there. f y (inr there)) in
      one ∙ ap (λ n. n + sum_by (λ (y : Spot × Run). y.1.pages) xs) here ∙ ap (λ n. unit + n) rest ∙ more (length xs)
    where
      more : (n : ℕ) → unit + n * unit ≡ suc n * unit
      more n = omega arith

  pub few_regions : length chosen * unit ≤ nano_start p
  few_regions =
      let sum = beside_sum (λ (x : Spot × Run). x.1.first) (λ x. run_end x.1) (λ x. x.1.pages) (λ x. refl) chosen (nano_start p) (λ x there. (h.sound x.0).below x.1 (chosen_is x there).0) chosen_beside in
      subst (λ n. n ≤ nano_start p) (all_of_length chosen (λ x there. (chosen_is x there).1)) sum

  pub fewer_regions : (f : ℕ) → 1 ≤ unit → is_free (nano_start p) (kept_at s (spot_of Pages)).taken (run_at f unit) ≡ true → suc (length chosen) * unit ≤ nano_start p
  fewer_regions f some free =
      let parts = and_parts (nat_le (f + unit) (nano_start p)) (list_all (λ t. runs_apart t (run_at f unit)) (kept_at s (spot_of Pages)).taken) free in
      let top : f + unit ≤ nano_start p = leb-true (f + unit) (nano_start p) parts.0 in
      let new : Spot × Run = (spot_of Pages, run_at f unit) in
      let beside : AreBeside (λ (x : Spot × Run). x.1.first) (λ x. run_end x.1) (new ∷ chosen) = (
        omega arith,
        (λ x there. run_numbers x.1 (run_at f unit) (each_in (λ (t : Run). runs_apart t (run_at f unit)) (kept_at s (spot_of Pages)).taken x.1 parts.1 (h.all_taken x.0 x.1 (chosen_is x there).0))),
        chosen_beside,
      ) in
      let sum = beside_sum (λ (x : Spot × Run). x.1.first) (λ x. run_end x.1) (λ x. x.1.pages) (λ x. refl) (new ∷ chosen) (nano_start p)
      (λ x there. elim there [ inl e ↦ subst (λ (y : Spot × Run). run_end y.1 ≤ nano_start p) (sym e) top | inr old ↦ (h.sound x.0).below x.1 (chosen_is x old).0 ]) beside in
      subst (λ n. n ≤ nano_start p) (all_of_length (new ∷ chosen) (λ x there. elim there [ inl e ↦ ap (λ (y : Spot × Run). y.1.pages) e | inr old ↦ (chosen_is x old).1 ])) sum

tiny_length : (k : Place) (w : ℕ) → is_tiny k ≡ true → is_length_of k w ≡ true → w ≡ 64
tiny_length (Tiny z m) w t h = eqb-true w 64 h
tiny_length (TinyDepot z) w t h = eqb-true w 64 h
tiny_length Pages w t h = absurd (false≢true t)
tiny_length (Small z m) w t h = absurd (false≢true t)
tiny_length (SmallDepot z) w t h = absurd (false≢true t)
tiny_length (Large z) w t h = absurd (false≢true t)
tiny_length Nano w t h = absurd (false≢true t)

small_length : (k : Place) (w : ℕ) → is_small k ≡ true → is_length_of k w ≡ true → w ≡ 512
small_length (Small z m) w t h = eqb-true w 512 h
small_length (SmallDepot z) w t h = eqb-true w 512 h
small_length Pages w t h = absurd (false≢true t)
small_length (Tiny z m) w t h = absurd (false≢true t)
small_length (TinyDepot z) w t h = absurd (false≢true t)
small_length (Large z) w t h = absurd (false≢true t)
small_length Nano w t h = absurd (false≢true t)

whole_64 : (n m t : ℕ) → m ≡ n → n * 64 ≤ t → m ≤ t / 64
whole_64 n m t e h = omega arith

fewer_64 : (n m t : ℕ) → m ≡ n → suc n * 64 ≤ t → m < t / 64
fewer_64 n m t e h = omega arith

whole_512 : (n m t : ℕ) → m ≡ n → n * 512 ≤ t → m ≤ t / 512
whole_512 n m t e h = omega arith

fewer_512 : (n m t : ℕ) → m ≡ n → suc n * 512 ≤ t → m < t / 512
fewer_512 n m t e h = omega arith

pub regions_fit : (p : Profile) (es : List Entry) → AreLawful p opening es → RegionsFit p (after_all p opening es)
regions_fit p es lawful =
    let s = after_all p opening es in
    let h = apart_left p es lawful in
    let once = after_all_once p opening es opening_once in
    let counts = counted_left p es lawful in
    let lengths = lengths_all p opening es lawful (apart_at_first p) lengths_at_first in
    let tiny_is : (j : Spot) (r : Run) → is_tiny (place_of j) ≡ true → IsIn r (kept_at s j).runs → r.pages ≡ 64 = λ j r t there. tiny_length (place_of j) r.pages t (lengths j r there).0 in
    let small_is : (j : Spot) (r : Run) → is_small (place_of j) ≡ true → IsIn r (kept_at s j).runs → r.pages ≡ 512 = λ j r t there. small_length (place_of j) r.pages t (lengths j r there).0 in
    let tiny_count = counts.tiny ∙ sym (counted_is (of_kind is_tiny) s.values) in
    let small_count = counts.small ∙ sym (counted_is (of_kind is_small) s.values) in
    let tiny_length = length (chosen p s h once is_tiny 64 tiny_is) in
    let small_length = length (chosen p s h once is_small 512 small_is) in
    record {
      tiny = whole_64 tiny_length (kept_at s (spot_of Pages)).tiny_regions (nano_start p) tiny_count (few_regions p s h once is_tiny 64 tiny_is);
      small = whole_512 small_length (kept_at s (spot_of Pages)).small_regions (nano_start p) small_count (few_regions p s h once is_small 512 small_is);
      one_more_tiny = λ f free. fewer_64 tiny_length (kept_at s (spot_of Pages)).tiny_regions (nano_start p) tiny_count (fewer_regions p s h once is_tiny 64 tiny_is f (omega arith) free);
      one_more_small = λ f free. fewer_512 small_length (kept_at s (spot_of Pages)).small_regions (nano_start p) small_count (fewer_regions p s h once is_small 512 small_is f (omega arith) free);
    }

-- BYTES: of all live blocks
live_sum : (values : List (Spot × Value)) → sum_by (λ (x : Spot × Block). x.1.size) (flat_map (λ (pair : Spot × Value). map (λ b. (pair.0, b)) pair.1.kept.live) values) ≡ live_size values
live_sum [] = refl
live_sum (pair ∷ pairs) =
    let of = λ (x : Spot × Block). x.1.size in
    let rest = flat_map (λ (q : Spot × Value). map (λ b. (q.0, b)) q.1.kept.live) pairs in
    sum_by-append of (map (λ b. (pair.0, b)) pair.1.kept.live) rest ∙ ap (λ n. n + sum_by of rest) (of_spot pair.0 pair.1.kept.live) ∙ ap (λ n. sum_by (λ b. b.size) pair.1.kept.live + n) (live_sum pairs)
    ∙ sym (sum_by-cons (λ (q : Spot × Value). sum_by (λ b. b.size) q.1.kept.live) pair pairs)
  where
    of_spot : (j : Spot) (bs : List Block) → sum_by (λ (x : Spot × Block). x.1.size) (map (λ b. (j, b)) bs) ≡ sum_by (λ b. b.size) bs
    of_spot j [] = refl
    of_spot j (b ∷ bs) = sum_by-cons (λ (x : Spot × Block). x.1.size) (j, b) (map (λ c. (j, c)) bs) ∙ ap (λ n. b.size + n) (of_spot j bs) ∙ sym (sum_by-cons (λ (c : Block). c.size) b bs)

module _ (p : Profile) (s : State) (h : IsApart p s) (once : IsOnce s) where
  home_ends : (j : Spot) (b : Block) → Home p j (kept_at s j).runs b → block_end b ≤ p.pages * PAGE
  home_ends (keeper_at k) b home = let below = (h.sound (keeper_at k)).below home.0 home.1 in let end = home.2.1 in omega arith
  home_ends (nano_page i) b home = let space = home.1 in let end = home.2.1 in omega arith

  ends_within : (j : Spot) (b : Block) → IsIn b (kept_at s j).live → block_end b ≤ p.pages * PAGE
  ends_within j b there = home_ends j b ((h.sound j).home b there)

  live_within : live_size s.values ≤ p.pages * PAGE
  live_within =
      let sum = beside_sum (λ (x : Spot × Block). x.1.first) (λ x. block_end x.1) (λ x. x.1.size) (λ x. refl) (live_blocks s) (p.pages * PAGE)
      (λ x there. ends_within x.0 x.1 (kept_somewhere (λ (b : Block). b.first) block_end (λ (k : Kept). k.live) s x once there)) (live_beside p s h once) in
      subst (λ n. n ≤ p.pages * PAGE) (live_sum s.values) sum

-- the greatest sum so far
greatest_after : (p : Profile) (s : State) (c : ℕ) (e : Event) → (after p s c e).greatest ≡ max s.greatest (live_size (after p s c e).values)
unfolding after
greatest_after p s c e = refl

greatest_all : (p : Profile) (s : State) (es : List Entry) → AreLawful p s es → IsApart p s → IsOnce s → live_size s.values ≤ s.greatest → s.greatest ≤ p.pages * PAGE → (live_size (after_all p s es).values ≤ (after_all p s es).greatest) × ((after_all p s es).greatest ≤ p.pages * PAGE)
unfolding AreLawful after_all
greatest_all p s [] lawful h once least most = (least, most)
greatest_all p s (e ∷ es) lawful h once least most =
    let t = after_entry p s e in
    let apart = apart_after p s e.caller h e.event lawful.0.fits in
    let again = after_once p s e.caller e.event once in
    let is : t.greatest ≡ max s.greatest (live_size t.values) = greatest_after p s e.caller e.event in
    let within : live_size t.values ≤ p.pages * PAGE = live_within p t apart again in
    greatest_all p t es lawful.1 apart again (omega (arith, is)) (omega (arith, is, within, most))

pub live_bytes_fit : (p : Profile) (es : List Entry) → AreLawful p opening es → LiveBytesFit p (after_all p opening es)
live_bytes_fit p es lawful =
    let s = after_all p opening es in
    let h = apart_left p es lawful in
    let greatest = greatest_all p opening es lawful (apart_at_first p) opening_once (omega arith) (omega arith) in
    record {
      ends = λ j b there. ends_within p s h (after_all_once p opening es opening_once) j b (block_in (kept_at s j).live b there);
      sum = greatest.0;
      greatest = greatest.1;
    }
