-- What a run of the free pages is, and what is left of them without it.
use Rattle.std.proofs.Common.{◌≡◌, ◌⊎◌, ℕ, ◌+◌, ◌-◌, ◌*◌, ◌/◌, ◌%◌, ◌<◌, ◌≤◌, ◌==◌, Bool, true, false, not, List, [], ◌∷◌, Some, None, refl, ap, sym, subst, ◌∙◌, inl, inr, arith, get_or}
use Rattle.std.specs.Prelude.{nat_lt, nat_le, ◌&&◌, ◌||◌, length, Option, MatchOption, if◌then◌else◌}
use Rattle.std.specs.List.{All, list_any, list_all}
use Rattle.std.proofs.lemmas.List.Elements.{All-head, All-tail}
use Rattle.std.proofs.Math.Nat.{mul-mod_left}
use Rattle.std.proofs.lemmas.Bool.{and_parts, and_from, and_left, and_right, cases_Bool, cases_lt, false≢true, false_from_ne_true, eqb-true, eq-eqb, leb-true, le-leb, lt-leb, lt-ltb, le-ltb, or_cases, or_left, or_right, or_from, or_parts, not-true, not_from_false, not_from_true}
use Rattle.std.proofs.lemmas.List.FromFn.{length-map-range_with_len, get_or-map-range_with_len, fill_by_all}
use Rattle.mz_base.specs.declared.profile.Profile.{Profile}
use Rattle.mz_base.specs.declared.range.TheConstants.{PAGE}
use Rattle.mz_base.specs.Site.{Site}
use Rattle.mz_base.specs.Space.{Run, block_at, run_at, run_end, runs_apart, same_run, least_multiple, units_for}
use Rattle.mz_base.specs.Lists.{add_run, drop_run, has_run}
use Rattle.mz_base.specs.Room.{is_free, run_from, page_starts, has_free, is_lowest_free}
use Rattle.mz_bits.specs.Runs.{with_run, HasRun}
use Rattle.mz_ground.specs.Views.{SpanView}
use Rattle.mz_region.specs.Views.{RegionView}
use Rattle.mz_pages.specs.FreeRuns.{IsFree, HasNoFree, IsLowestFree}
use Rattle.mz_pages.specs.Pages.{PagesView, first_page, page_count, with_pages, Takes}
use Rattle.mz_events.specs.declared.place.Place.{Place}
use Rattle.mz_events.specs.declared.place.Place.TheVariants.{Pages, Tiny, TinyDepot, Small, SmallDepot}
use Rattle.mz_events.specs.Places.{is_magazine, is_depot, is_length_of, is_tiny, is_small, quantum_of, nano_start}
use Rattle.mz_events.specs.State.{Kept}
use Rattle.mz_events.specs.Changes.{one_for, pages_with}
use Rattle.mz_events.specs.Separation.{InOrder, has_page}
use Rattle.mz_events.specs.Standing.{PagesKept, Keeping, Stands, StandsForPages, free_pages}
use Rattle.mz_rack.specs.declared.keeper.Kind.{Kind}
use Rattle.mz_rack.specs.declared.keeper.Kind.TheVariants as kind
use Rattle.mz_rack.specs.Kinds.{keeping_of}
use Rattle.mz_large.specs.Large.{run_of_span}
use Rattle.mz_rack.specs.Runs.{FoundRun, with_region_for}
use Rattle.mz_rack.proofs.Steps.{or_elim}
use Rattle.mz_rack.proofs.Listed.{same_run_is}
use Rattle.mz_rack.proofs.RoomLemmas.{insert_nil, insert_here, insert_later, any_inserted}

-- the page is in one of these runs
abbrev has : List Run → ℕ → Bool
has taken k = list_any (λ r. has_page r k) taken

free_at : (p : Profile) (taken : List Run) (k : ℕ) (d : Bool) → k < nano_start p → get_or (free_pages p taken) k d ≡ not (has taken k)
free_at p taken k d h = get_or-map-range_with_len (λ i. not (has taken i)) 0 (nano_start p) k k d h (omega arith)

count_free : (p : Profile) (taken : List Run) → length (free_pages p taken) ≡ nano_start p
count_free p taken = length-map-range_with_len (λ i. not (has taken i)) 0 (nano_start p)

-- FREE: the pages of a run that is apart from all that are taken are free, and the other way round
apart_has : (g w k : ℕ) (t : Run) → runs_apart t (run_at g w) ≡ true → g ≤ k → k < g + w → has_page t k ≡ false
apart_has g w k t h low high =
    elim (or_cases (nat_le (run_end t) g) (nat_le (g + w) t.first) h) [
      | inl y ↦ let below = leb-true (run_end t) g y in and_right (nat_le t.first k) (nat_lt k (run_end t)) (le-ltb k (run_end t) (omega (arith, below)))
      | inr y ↦ let above = leb-true (g + w) t.first y in and_left (nat_le t.first k) (nat_lt k (run_end t)) (lt-leb t.first k (omega (arith, above)))
    ]

none_has : (g w k : ℕ) (taken : List Run) → list_all (λ t. runs_apart t (run_at g w)) taken ≡ true → g ≤ k → k < g + w → has taken k ≡ false
none_has g w k [] h low high = refl
none_has g w k (t ∷ ts) h low high =
    let parts = and_parts (runs_apart t (run_at g w)) (list_all (λ y. runs_apart y (run_at g w)) ts) h in
    or_from (has_page t k) (has ts k) (apart_has g w k t parts.0 low high) (none_has g w k ts parts.1 low high)

free_then : (p : Profile) (taken : List Run) (g w : ℕ) → is_free (nano_start p) taken (run_at g w) ≡ true → IsFree 0 (free_pages p taken) g w
free_then p taken g w h =
    let parts = and_parts (nat_le (g + w) (nano_start p)) (list_all (λ t. runs_apart t (run_at g w)) taken) h in
    let top = leb-true (g + w) (nano_start p) parts.0 in
    let count = count_free p taken in
    record {
      above = omega arith;
      below = omega (arith, top, count);
      each = λ k d low high. free_at p taken k d (omega (arith, top, low, high)) ∙ not_from_false (has taken k) (none_has g w k taken parts.1 (omega (arith, low)) (omega (arith, high)));
    }

has_one : (t : Run) (k : ℕ) → t.first ≤ k → k < run_end t → has_page t k ≡ true
has_one t k low high = and_from (nat_le t.first k) (nat_lt k (run_end t)) (le-leb t.first k low) (lt-ltb k (run_end t) high)

apart_where : (g w : ℕ) (t : Run) → 1 ≤ w → t.first < run_end t → ((k : ℕ) → g ≤ k → k < g + w → has_page t k ≡ false) → runs_apart t (run_at g w) ≡ true
apart_where g w t some order none =
    elim (cases_lt g (run_end t)) [
      | inr over ↦ or_left (nat_le (run_end t) g) (nat_le (g + w) t.first) (le-leb (run_end t) g over)
      | inl under ↦ elim (cases_lt t.first (g + w)) [
        | inr above ↦ or_right (nat_le (run_end t) g) (nat_le (g + w) t.first) (le-leb (g + w) t.first above)
        | inl meets ↦ elim (cases_lt g t.first) [
          | inl later ↦ absurd (false≢true (sym (none t.first (omega (arith, later)) meets) ∙ has_one t t.first (omega arith) order))
          | inr early ↦ absurd (false≢true (sym (none g (omega arith) (omega (arith, some))) ∙ has_one t g early under))
        ]
      ]
    ]

all_apart : (g w : ℕ) (taken : List Run) → 1 ≤ w → InOrder (λ r. r.first) run_end taken → ((k : ℕ) → g ≤ k → k < g + w → has taken k ≡ false) → list_all (λ t. runs_apart t (run_at g w)) taken ≡ true
all_apart g w [] some order none = refl
all_apart g w (t ∷ ts) some order none =
    and_from (runs_apart t (run_at g w)) (list_all (λ y. runs_apart y (run_at g w)) ts)
    (apart_where g w t some order.0 (λ k low high. (or_parts (has_page t k) (has ts k) (none k low high)).0))
    (all_apart g w ts some order.2 (λ k low high. (or_parts (has_page t k) (has ts k) (none k low high)).1))

free_now : (p : Profile) (taken : List Run) (g w : ℕ) → 1 ≤ w → InOrder (λ r. r.first) run_end taken → IsFree 0 (free_pages p taken) g w → is_free (nano_start p) taken (run_at g w) ≡ true
free_now p taken g w some order h =
    let count = count_free p taken in
    let below = h.below in
    let top : g + w ≤ nano_start p = omega (arith, below, count) in
    and_from (nat_le (g + w) (nano_start p)) (list_all (λ t. runs_apart t (run_at g w)) taken) (le-leb (g + w) (nano_start p) top)
    (all_apart g w taken some order (λ k low high. not-true (has taken k) (sym (free_at p taken k true (omega (arith, top, high))) ∙ h.each k true (omega (arith, low)) (omega (arith, high)))))

-- LOWEST
none_any : (f : ℕ → Bool) (xs : List ℕ) → ((x : ℕ) → f x ≡ true → ⊥) → list_any f xs ≡ false
none_any f [] h = refl
none_any f (x ∷ xs) h = or_from (f x) (list_any f xs) (false_from_ne_true (f x) (h x)) (none_any f xs h)

all_of : (f : ℕ → Bool) (xs : List ℕ) → ((x : ℕ) → f x ≡ true) → list_all f xs ≡ true
all_of f [] h = refl
all_of f (x ∷ xs) h = and_from (f x) (list_all f xs) (h x) (all_of f xs h)

none_free : (p : Profile) (taken : List Run) (w al : ℕ) → HasNoFree 0 (free_pages p taken) w al → has_free (nano_start p) taken w al ≡ false
none_free p taken w al none =
    none_any (λ x. is_free (nano_start p) taken (run_from w al x)) (page_starts taken)
    (λ x y. none (least_multiple al x) (mul-mod_left (units_for al x) al) (free_then p taken (least_multiple al x) w y))

lowest_now : (p : Profile) (taken : List Run) (w al f : ℕ) → 1 ≤ w → InOrder (λ r. r.first) run_end taken → IsLowestFree 0 (free_pages p taken) w al f → is_lowest_free (nano_start p) taken (run_at f w) al ≡ true
lowest_now p taken w al f some order low =
    let top = nano_start p in
    and_from ((f % al == 0) && is_free top taken (run_at f w)) (list_all (λ x. nat_le f (least_multiple al x) || not (is_free top taken (run_from w al x))) (page_starts taken))
    (and_from (f % al == 0) (is_free top taken (run_at f w)) (eq-eqb (f % al) 0 low.aligned) (free_now p taken f w some order low.is_free))
    (all_of (λ x. nat_le f (least_multiple al x) || not (is_free top taken (run_from w al x))) (page_starts taken)
    (λ x. elim (cases_Bool (is_free top taken (run_from w al x))) [
      | inl y ↦ or_left (nat_le f (least_multiple al x)) (not (is_free top taken (run_from w al x))) (le-leb f (least_multiple al x) (low.lowest (least_multiple al x) (mul-mod_left (units_for al x) al) (free_then p taken (least_multiple al x) w y)))
      | inr n ↦ or_right (nat_le f (least_multiple al x)) (not (is_free top taken (run_from w al x))) (not_from_false (is_free top taken (run_from w al x)) n)
    ]))

-- LEFT: the pages without the run
not_added : (k : ℕ) (r : Run) (taken : List Run) → has_page r k ≡ false → has (add_run r taken) k ≡ has taken k
not_added k r [] n = ap (λ xs. has xs k) (insert_nil (λ (t : Run). t.first) r) ∙ ap (λ b. b || false) n
not_added k r (y ∷ ys) n =
    elim (cases_Bool (nat_lt r.first y.first)) [
      | inl less ↦ ap (λ xs. has xs k) (insert_here (λ (t : Run). t.first) r y ys less) ∙ ap (λ b. b || has (y ∷ ys) k) n
      | inr more ↦ ap (λ xs. has xs k) (insert_later (λ (t : Run). t.first) r y ys more) ∙ ap (λ b. has_page y k || b) (not_added k r ys n)
    ]

in_or_out : (f w k : ℕ) → ((f ≤ k) × (k < f + w)) ⊎ ((k < f) ⊎ (f + w ≤ k))
in_or_out f w k =
    elim (cases_lt k f) [
      | inl l ↦ inr (inl l)
      | inr g ↦ elim (cases_lt k (f + w)) [ inl l ↦ inl (g, l) | inr m ↦ inr (inr m) ]
    ]

out_of : (f w k : ℕ) → (k < f) ⊎ (f + w ≤ k) → has_page (run_at f w) k ≡ false
out_of f w k (inl low) = and_left (nat_le f k) (nat_lt k (f + w)) (lt-leb f k low)
out_of f w k (inr high) = and_right (nat_le f k) (nat_lt k (f + w)) (le-ltb k (f + w) high)

abbrev pub RunsAreRead : Type 0
RunsAreRead = (bits : List Bool) (i n : ℕ) (v : Bool) → i + n ≤ length bits → HasRun bits (with_run bits i n v) i n v

free_left : RunsAreRead → (p : Profile) (taken : List Run) (f w : ℕ) → f + w ≤ nano_start p → with_run (free_pages p taken) f w false ≡ free_pages p (add_run (run_at f w) taken)
free_left law p taken f w top =
    let free = free_pages p taken in
    let r = run_at f w in
    let count = count_free p taken in
    let run = law free f w false (omega (arith, top, count)) in
    fill_by_all (λ i. not (has (add_run r taken) i)) (with_run free f w false) (nano_start p) true (run.count ∙ count)
    (λ k below. elim (in_or_out f w k) [
      | inl inside ↦ run.inside k true inside.0 inside.1 ∙ sym (not_from_true (has (add_run r taken) k) (any_inserted (λ t. has_page t k) (λ (t : Run). t.first) r taken (has_one r k inside.0 inside.1)))
      | inr out ↦ run.outside k true out ∙ free_at p taken k true below ∙ ap not (sym (not_added k r taken (out_of f w k out)))
    ])

-- THE KEEPER
pub of_stock : (i : Kind) (v u : PagesKept) (n : Keeping) → keeping_of i ≡ n → i ≡ kind.Pages v → u ≡ v → (x : Site) (p : Profile) (q : Place) (k : Kept) → Stands n x p q k → StandsForPages u x p q k
of_stock i v u n view is inside x p q k s = subst (λ a. StandsForPages a x p q k) (sym inside) (subst (λ j. Stands (keeping_of j) x p q k) is (subst (λ j. Stands j x p q k) (sym view) s))

abbrev pub stock_of : PagesView → ℕ → ℕ → PagesKept
stock_of a n m = record { space = a.space; free = a.free; tiny_blanks = n; small_blanks = m }

-- the lowest free run is out, or none is free
pub found_run : RunsAreRead → (x : Site) (p : Profile) (k : Kept) (w al : ℕ) (b a : PagesView) (n m : ℕ) (got : Option SpanView) → b.first ≡ 0 → StandsForPages (stock_of b n m) x p Pages k → 1 ≤ w
    → InOrder (λ r. r.first) run_end k.taken → MatchOption got (HasNoFree b.first b.free w al × (a ≡ b)) (Takes b a w al) → FoundRun x p k w al (λ j. StandsForPages (stock_of a n m) x p Pages j) got
found_run law x p k w al b a n m None first st some order h =
    (none_free p k.taken w al (subst (λ l. HasNoFree 0 l w al) st.free (subst (λ f. HasNoFree f b.free w al) first h.0)), subst (λ c. StandsForPages (stock_of c n m) x p Pages k) (sym h.1) st)
found_run law x p k w al b a n m (Some s) first st some order takes =
    let f = first_page s in
    let low : IsLowestFree 0 (free_pages p k.taken) w al f = subst (λ l. IsLowestFree 0 l w al f) st.free (subst (λ g. IsLowestFree g b.free w al f) first takes.lowest) in
    let count = count_free p k.taken in
    let below = low.is_free.below in
    let top : f + w ≤ nano_start p = omega (arith, below, count) in
    let from : f - b.first ≡ f = omega (arith, first) in
    let begins = takes.run.begins in
    let long = takes.run.long in
    let count_is : length s.bytes / PAGE ≡ w = omega (arith, long) in
    let is : run_of_span s ≡ run_at f w = ap (run_at f) count_is in
    let free : a.free ≡ free_pages p (add_run (run_at f w) k.taken) =
    ap (λ (y : PagesView). y.free) takes.left ∙ ap (λ y. with_run b.free y w false) from ∙ ap (λ l. with_run l f w false) st.free ∙ free_left law p k.taken f w top in
    let at_page : s.first / PAGE * PAGE ≡ s.first = sym begins in
    let whole_pages : length s.bytes / PAGE * PAGE ≡ length s.bytes = ap (λ y. y * PAGE) count_is ∙ sym long in (
      record {
        space = takes.run.within ∙ st.space;
        whole = ap (λ y. block_at y (length s.bytes / PAGE * PAGE)) at_page ∙ ap (block_at s.first) whole_pages;
        pages = count_is;
        lowest = ap (λ (r : Run). is_lowest_free (nano_start p) k.taken r al) is ∙ lowest_now p k.taken w al f some order low;
      },
      record {
        kind = st.kind;
        space = ap (λ (y : PagesView). y.space) takes.left ∙ st.space;
        free = free ∙ ap (λ (r : Run). free_pages p (add_run r k.taken)) (sym is);
        tiny = st.tiny;
        small = st.small;
      },
    )

-- the metadata of a region is in use
pub with_one_fewer : (x : Site) (p : Profile) (q : Place) (k : Kept) (b : PagesView) (n m i j : ℕ) → StandsForPages (stock_of b n m) x p Pages k → n ≡ i + one_for (is_tiny q) → m ≡ j + one_for (is_small q) → StandsForPages (stock_of b i j) x p Pages (with_region_for q k)
with_one_fewer x p q k b n m i j st tiny small =
    let was_tiny = st.tiny in
    let was_small = st.small in
    record { kind = st.kind; space = st.space; free = st.free; tiny = omega (arith, was_tiny, tiny); small = omega (arith, was_small, small) }

-- PLACES: of the two lengths
pub tiny_place : (q : Place) (w : ℕ) → is_magazine q ≡ true → is_length_of q w ≡ true → w ≡ 64 → (is_tiny q ≡ true) × (is_small q ≡ false) × (quantum_of q ≡ 16)
tiny_place (Tiny z m) w h l e = (refl, refl, refl)
tiny_place (Small z m) w h l e = let other = eqb-true w 512 l in absurd (omega (arith, other, e))
tiny_place _ w h l e = absurd (false≢true h)

pub small_place : (q : Place) (w : ℕ) → is_magazine q ≡ true → is_length_of q w ≡ true → (w ≡ 64 → ⊥) → (is_tiny q ≡ false) × (is_small q ≡ true) × (quantum_of q ≡ 512) × (w ≡ 512)
small_place (Tiny z m) w h l e = absurd (e (eqb-true w 64 l))
small_place (Small z m) w h l e = (refl, refl, refl, eqb-true w 512 l)
small_place _ w h l e = absurd (false≢true h)

-- BACK: the pages with the run again
has_filtered : (k : ℕ) (r : Run) (taken : List Run) → has taken k ≡ false → has (drop_run r taken) k ≡ false
has_filtered k r [] h = refl
has_filtered k r (x ∷ xs) h =
    let parts = or_parts (has_page x k) (has xs k) h in
    elim (cases_Bool (same_run r x)) [
      | inl y ↦ ap (λ b. has (if not b then x ∷ drop_run r xs else drop_run r xs) k) y ∙ has_filtered k r xs parts.1
      | inr y ↦ ap (λ b. has (if not b then x ∷ drop_run r xs else drop_run r xs) k) y ∙ or_from (has_page x k) (has (drop_run r xs) k) parts.0 (has_filtered k r xs parts.1)
    ]

none_above : (k e : ℕ) (xs : List Run) → All (λ (y : Run). e ≤ y.first) xs → k < e → has xs k ≡ false
none_above k e [] h below = refl
none_above k e (x ∷ xs) h below =
    let here = All-head (λ (y : Run). e ≤ y.first) x xs h in
    or_from (has_page x k) (has xs k) (and_left (nat_le x.first k) (nat_lt k (run_end x)) (lt-leb x.first k (omega (arith, here, below)))) (none_above k e xs (All-tail (λ (y : Run). e ≤ y.first) x xs h) below)

starts_above : (e : ℕ) (xs : List Run) (r : Run) → All (λ (y : Run). e ≤ y.first) xs → has_run xs r ≡ true → e ≤ r.first
starts_above e [] r h there = absurd (false≢true there)
starts_above e (x ∷ xs) r h there =
    or_elim (same_run r x) (has_run xs r)
    (λ y. let here = All-head (λ (z : Run). e ≤ z.first) x xs h in subst (λ (z : Run). e ≤ z.first) (sym (same_run_is r x y)) here)
    (λ y. starts_above e xs r (All-tail (λ (z : Run). e ≤ z.first) x xs h) y) there

-- no page of the run is in another one
dropped_inside : (k : ℕ) (r : Run) (taken : List Run) → InOrder (λ t. t.first) run_end taken → has_run taken r ≡ true → r.first ≤ k → k < run_end r → has (drop_run r taken) k ≡ false
dropped_inside k r [] order there low high = refl
dropped_inside k r (x ∷ xs) order there low high =
    elim (cases_Bool (same_run r x)) [
      | inl y ↦
          let is = same_run_is r x y in
          ap (λ b. has (if not b then x ∷ drop_run r xs else drop_run r xs) k) y ∙ has_filtered k r xs (none_above k (run_end x) xs order.1 (subst (λ (z : Run). k < run_end z) is high))
      | inr n ↦
          let rest : has_run xs r ≡ true = sym (ap (λ b. b || has_run xs r) n) ∙ there in
          let above = starts_above (run_end x) xs r order.1 rest in
          ap (λ b. has (if not b then x ∷ drop_run r xs else drop_run r xs) k) n
          ∙ or_from (has_page x k) (has (drop_run r xs) k) (and_right (nat_le x.first k) (nat_lt k (run_end x)) (le-ltb k (run_end x) (omega (arith, above, low)))) (dropped_inside k r xs order.2 rest low high)
    ]

dropped_outside : (k : ℕ) (r : Run) (taken : List Run) → has_page r k ≡ false → has (drop_run r taken) k ≡ has taken k
dropped_outside k r [] out = refl
dropped_outside k r (x ∷ xs) out =
    elim (cases_Bool (same_run r x)) [
      | inl y ↦
          let off : has_page x k ≡ false = subst (λ (z : Run). has_page z k ≡ false) (same_run_is r x y) out in
          ap (λ b. has (if not b then x ∷ drop_run r xs else drop_run r xs) k) y ∙ (dropped_outside k r xs out ∙ sym (ap (λ b. b || has xs k) off))
      | inr n ↦ ap (λ b. has (if not b then x ∷ drop_run r xs else drop_run r xs) k) n ∙ ap (λ b. has_page x k || b) (dropped_outside k r xs out)
    ]

free_again : RunsAreRead → (p : Profile) (taken : List Run) (f w : ℕ) → InOrder (λ t. t.first) run_end taken → has_run taken (run_at f w) ≡ true → f + w ≤ nano_start p → with_run (free_pages p taken) f w true ≡ free_pages p (drop_run (run_at f w) taken)
free_again law p taken f w order there top =
    let free = free_pages p taken in
    let r = run_at f w in
    let count = count_free p taken in
    let run = law free f w true (omega (arith, top, count)) in
    fill_by_all (λ i. not (has (drop_run r taken) i)) (with_run free f w true) (nano_start p) true (run.count ∙ count)
    (λ k below. elim (in_or_out f w k) [
      | inl inside ↦ run.inside k true inside.0 inside.1 ∙ sym (not_from_false (has (drop_run r taken) k) (dropped_inside k r taken order there inside.0 inside.1))
      | inr out ↦ run.outside k true out ∙ free_at p taken k true below ∙ ap not (sym (dropped_outside k r taken (out_of f w k out)))
    ])

-- the kinds of depots
pub tiny_depot : (d : Place) → is_depot d ≡ true → 16 ≡ quantum_of d → (is_tiny d ≡ true) × (is_small d ≡ false)
tiny_depot (TinyDepot z) h q = (refl, refl)
tiny_depot (SmallDepot z) h q = absurd (other q)
  where
    other : ◌≡◌ {A = ℕ} 16 512 → ⊥
    other e = omega (arith, e)
tiny_depot _ h q = absurd (false≢true h)

pub small_depot : (d : Place) → is_depot d ≡ true → 512 ≡ quantum_of d → (is_tiny d ≡ false) × (is_small d ≡ true)
small_depot (SmallDepot z) h q = (refl, refl)
small_depot (TinyDepot z) h q = absurd (other q)
  where
    other : ◌≡◌ {A = ℕ} 512 16 → ⊥
    other e = omega (arith, e)
small_depot _ h q = absurd (false≢true h)

-- there is room for the blank, since its region was counted
pub room_for_blank : (free : List Bool) (n c t m w : ℕ) → length free / w ≤ c → length free ≡ m → n + t ≡ m / w → 1 ≤ t → n < c
room_for_blank free n c t m w cap count all some =
    let same : length free / w ≡ m / w = ap (λ x. x / w) count in
    omega (arith, cap, same, all, some)

module _ (x : Site) (p : Profile) (k : Kept) (b : PagesView) (n m : ℕ) (first : b.first ≡ 0) (st : StandsForPages (stock_of b n m) x p Pages k) where
  pub pages_count : length b.free ≡ nano_start p
  pages_count = ap length st.free ∙ count_free p k.taken

  pub pages_below : (w : ℕ) (s : SpanView) (t : RegionView) → s.first ≡ t.first → length s.bytes / PAGE ≡ w → t.first / PAGE + w ≤ nano_start p → s.first / PAGE + length s.bytes / PAGE ≤ b.first + length b.free
  pages_below w s t at len below =
      let count = pages_count in
      let page : s.first / PAGE ≡ t.first / PAGE = ap (λ y. y / PAGE) at in
      omega (arith, count, page, len, below)

  pub come_back : RunsAreRead → (d : Place) (w : ℕ) (a : PagesView) (i j : ℕ) (s : SpanView) (t : RegionView) → s.first ≡ t.first → length s.bytes / PAGE ≡ w → a ≡ with_pages b (first_page s) (page_count s) true
      → InOrder (λ r. r.first) run_end k.taken → has_run k.taken (run_at (t.first / PAGE) w) ≡ true → t.first / PAGE + w ≤ nano_start p → one_for (is_tiny d) ≤ k.tiny_regions → one_for (is_small d) ≤ k.small_regions
      → i ≡ n + one_for (is_tiny d) → j ≡ m + one_for (is_small d) → StandsForPages (stock_of a i j) x p Pages (pages_with d (run_at (t.first / PAGE) w) k)
  come_back law d w a i j s t at len freed order there below few_tiny few_small more_tiny more_small =
      let f = t.first / PAGE in
      let page : s.first / PAGE - b.first ≡ f = let same = ap (λ y. y / PAGE) at in omega (arith, same, first) in
      let tiny = st.tiny in
      let small = st.small in
      record {
        kind = st.kind;
        space = ap (λ (y : PagesView). y.space) freed ∙ st.space;
        free = ap (λ (y : PagesView). y.free) freed ∙ (ap (λ y. with_run b.free y (page_count s) true) page ∙ (ap (λ y. with_run b.free f y true) len ∙ (ap (λ l. with_run l f w true) st.free ∙ free_again law p k.taken f w order there below)));
        tiny = omega (arith, tiny, more_tiny, few_tiny);
        small = omega (arith, small, more_small, few_small);
      }
