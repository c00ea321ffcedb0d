-- The statistics after one more entry of a history: what is made and ended, and the pages that are taken and given back.
use Rattle.std.proofs.Common.{◌≡◌, ℕ, ◌+◌, ◌-◌, ◌*◌, ◌<◌, ◌≤◌, Bool, true, false, cond, not, List, [], ◌∷◌, ◌++◌, ◌==◌, length, take, drop, slice_index_or, arith, refl, ap, sym, subst, ◌∙◌, inl, inr}
use Rattle.std.specs.Prelude.{◌||◌, ◌⊎◌, sum_by, nat_lt, max}
use Rattle.std.specs.List.{All}
use Rattle.std.proofs.lemmas.Bool.{cases_Bool, and_parts, false≢true}
use Rattle.std.proofs.lemmas.Bool.Decides.{nat_tests}
use Rattle.std.proofs.lemmas.List.{take_more, take-append-drop}
use Rattle.std.proofs.lemmas.List.Sums.{sum_by-cons}
use Rattle.std.proofs.lemmas.List.Elements.{All-head, All-tail}
use Rattle.mz_base.specs.declared.range.TheConstants.{PAGE}
use Rattle.mz_base.specs.declared.profile.Profile.{Profile}
use Rattle.mz_base.specs.Limits.{IsWithinLimits}
use Rattle.mz_base.specs.Space.{Block, Run, block_at, block_end, run_at, run_end, same_run}
use Rattle.mz_base.specs.Lists.{insert_by, has_run, add_run, drop_run, size_sum}
use Rattle.mz_events.specs.declared.place.Place.{Place}
use Rattle.mz_events.specs.declared.place.Place.TheVariants.{Pages}
use Rattle.mz_events.specs.declared.entry.Entry.{Entry}
use Rattle.mz_events.specs.declared.event.Event.{Event}
use Rattle.mz_events.specs.declared.event.Event.TheVariants.{Take, Back, Move, New, End, Size, Full, Dry, No, Open, Shut}
use Rattle.mz_events.specs.Places.{Spot, same_spot, spot_of, spot_at}
use Rattle.mz_events.specs.State.{State, opening, look_up, kept_at, live_blocks, live_size}
use Rattle.mz_events.specs.Effect.{touches, kept_after, after}
use Rattle.mz_events.specs.Rules.{Fits}
use Rattle.mz_events.specs.History.{AreLawful, after_all}
use Rattle.mz_events.specs.Separation.{InOrder, by_address}
use Rattle.mz_events.specs.Bounds.{LiveBytesFit, RunsFit}
use Rattle.mz_record.specs.Listing.{size_allocated}
use Rattle.mz_book.specs.Living.{made_by, ended_by, SumsAfter}
use Rattle.mz_trace.specs.declared.tail.Statistics.{Statistics}
use Rattle.mz_lawful.specs.Tail.{statistics_of}
use Rattle.mz_session.specs.StatisticsLaws.{StatisticsLaws}
use Rattle.mz_session.specs.Counting.{pages_taken, pages_given, size_with, statistics_with, CanCount}

-- the pages of runs, with one more and without one

abbrev pages_of : List Run → ℕ
pages_of rs = sum_by (λ r. r.pages) rs

added_case : (r x : Run) (xs ys : List Run) (d : Bool) → pages_of ys ≡ r.pages + pages_of xs → pages_of (cond d (r ∷ x ∷ xs) (x ∷ ys)) ≡ r.pages + pages_of (x ∷ xs)
added_case r x xs ys true ih = sum_by-cons (λ (z : Run). z.pages) r (x ∷ xs)
added_case r x xs ys false ih =
    let u = sum_by-cons (λ (z : Run). z.pages) x ys in
    let v = sum_by-cons (λ (z : Run). z.pages) x xs in
    omega (arith, ih, u, v)

pages_added : (r : Run) (rs : List Run) → pages_of (add_run r rs) ≡ r.pages + pages_of rs
unfolding insert_by
pages_added r [] = sum_by-cons (λ (z : Run). z.pages) r []
pages_added r (x ∷ xs) = added_case r x xs (add_run r xs) (nat_lt r.first x.first) (pages_added r xs)

same_is : (r x : Run) → same_run r x ≡ true → r.first ≡ x.first × r.pages ≡ x.pages
same_is r x same =
    let parts = and_parts (r.first == x.first) (r.pages == x.pages) same in
    (grind (arith, nat_tests, parts.0), grind (arith, nat_tests, parts.1))

none_same_case : (r x : Run) (xs ys : List Run) (d : Bool) → same_run r x ≡ d → (same_run r x ≡ true → ⊥) → ys ≡ xs → cond (not d) (x ∷ ys) ys ≡ x ∷ xs
none_same_case r x xs ys true same other ih = absurd (other same)
none_same_case r x xs ys false same other ih = ap (λ zs. x ∷ zs) ih

-- a run that ends where all others begin is none of them
none_same : (r : Run) (n : ℕ) (xs : List Run) → r.first < n → All (λ y. n ≤ y.first) xs → drop_run r xs ≡ xs
none_same r n [] low behind = refl
none_same r n (x ∷ xs) low behind =
    let far : n ≤ x.first = All-head (λ (y : Run). n ≤ y.first) x xs behind in
    none_same_case r x xs (drop_run r xs) (same_run r x) refl
    (λ same. let at = (same_is r x same).0 in omega (arith, far, low, at))
    (none_same r n xs low (All-tail (λ (y : Run). n ≤ y.first) x xs behind))

dropped_case : (r x : Run) (xs : List Run) (d : Bool) → same_run r x ≡ d → (d ≡ true → drop_run r xs ≡ xs) → (has_run xs r ≡ true → pages_of (drop_run r xs) + r.pages ≡ pages_of xs)
    → (d || has_run xs r) ≡ true → pages_of (cond (not d) (x ∷ drop_run r xs) (drop_run r xs)) + r.pages ≡ pages_of (x ∷ xs)
dropped_case r x xs true same alone go there =
    let at = (same_is r x same).1 in
    let rest : pages_of (drop_run r xs) ≡ pages_of xs = ap pages_of (alone refl) in
    let v = sum_by-cons (λ (z : Run). z.pages) x xs in
    omega (arith, at, rest, v)
dropped_case r x xs false same alone go there =
    let ih = go there in
    let u = sum_by-cons (λ (z : Run). z.pages) x (drop_run r xs) in
    let v = sum_by-cons (λ (z : Run). z.pages) x xs in
    omega (arith, ih, u, v)

pages_dropped : (r : Run) (rs : List Run) → InOrder (λ x. x.first) run_end rs → has_run rs r ≡ true → pages_of (drop_run r rs) + r.pages ≡ pages_of rs
pages_dropped r [] order there = absurd (false≢true there)
pages_dropped r (x ∷ xs) order there =
    dropped_case r x xs (same_run r x) refl
    (λ same. none_same r (run_end x) xs (let at = (same_is r x same).0 in let low = order.0 in omega (arith, at, low)) order.1)
    (λ behind. pages_dropped r xs order.2 behind) there

-- blocks are no more than their bytes

sorted_size : (xs : List (Spot × Block)) → InOrder (λ x. x.1.first) (λ x. block_end x.1) xs → length xs ≤ sum_by (λ x. x.1.size) xs
sorted_size [] order = omega arith
sorted_size (x ∷ xs) order =
    let ih = sorted_size xs order.2 in
    let v = sum_by-cons (λ (y : Spot × Block). y.1.size) x xs in
    let some = order.0 in
    omega (arith, ih, v, some)

inserted_case : (x y : Spot × Block) (ys zs : List (Spot × Block)) (d : Bool) → (length zs ≡ 1 + length ys) × (sum_by (λ w. w.1.size) zs ≡ x.1.size + sum_by (λ w. w.1.size) ys)
    → (length (cond d (x ∷ y ∷ ys) (y ∷ zs)) ≡ 1 + length (y ∷ ys)) × (sum_by (λ w. w.1.size) (cond d (x ∷ y ∷ ys) (y ∷ zs)) ≡ x.1.size + sum_by (λ w. w.1.size) (y ∷ ys))
inserted_case x y ys zs true ih = (omega arith, sum_by-cons (λ (w : Spot × Block). w.1.size) x (y ∷ ys))
inserted_case x y ys zs false ih =
    let u = sum_by-cons (λ (w : Spot × Block). w.1.size) y zs in
    let v = sum_by-cons (λ (w : Spot × Block). w.1.size) y ys in
    let a = ih.0 in
    let b = ih.1 in
    (omega (arith, a), omega (arith, b, u, v))

inserted : (x : Spot × Block) (ys : List (Spot × Block)) → (length (insert_by (λ z. z.1.first) x ys) ≡ 1 + length ys) × (sum_by (λ w. w.1.size) (insert_by (λ z. z.1.first) x ys) ≡ x.1.size + sum_by (λ w. w.1.size) ys)
unfolding insert_by
inserted x [] = (omega arith, sum_by-cons (λ (w : Spot × Block). w.1.size) x [])
inserted x (y ∷ ys) = inserted_case x y ys (insert_by (λ z. z.1.first) x ys) (nat_lt x.1.first y.1.first) (inserted x ys)

sorted : (xs : List (Spot × Block)) → (length (by_address xs) ≡ length xs) × (sum_by (λ w. w.1.size) (by_address xs) ≡ sum_by (λ w. w.1.size) xs)
unfolding by_address
sorted [] = (refl, refl)
sorted (x ∷ xs) =
    let i = inserted x (by_address xs) in
    let ih = sorted xs in
    let v = sum_by-cons (λ (w : Spot × Block). w.1.size) x xs in
    let a = i.0 in
    let b = i.1 in
    let d = ih.0 in
    let e = ih.1 in
    (omega (arith, a, d), omega (arith, b, e, v))

-- what isn't taken or given back leaves the runs that are taken

moved_taken : (s : State) (f : ℕ) (from to : Place) (j : Spot) → (kept_after s (Move f from to) j).taken ≡ (kept_at s j).taken
moved_taken s f from to j = elim (cases_Bool (same_spot j (spot_of from))) [ inl y ↦ rw y refl | inr n ↦ rw n refl ]

-- the pages of the runs that are taken, after an event
module _ (L : StatisticsLaws) (p : Profile) (es : List Entry) (c : ℕ) (ok : AreLawful p opening es) where
  abbrev taken_in : State → List Run
  taken_in u = (kept_at u (spot_of Pages)).taken

  abbrev st : State
  st = after_all p opening es

  same_pages : (e : Event) → (kept_after st e (spot_of Pages)).taken ≡ taken_in st → pages_of (taken_in (after p st c e)) + 0 ≡ pages_of (taken_in st) + 0
  same_pages e same = ap (λ rs. pages_of rs + 0) (elim (cases_Bool (touches p e (spot_of Pages))) [
    | inl y ↦ ap (λ v. v.kept.taken) (L.touched p st c e (spot_of Pages) y) ∙ same
    | inr n ↦ ap (λ v. v.kept.taken) (L.untouched p st c e (spot_of Pages) n)
  ])

  touches_pages : (k : Place) → (same_spot (spot_of Pages) (spot_of k) || (same_spot (spot_of Pages) (spot_of Pages) || false)) ≡ true
  touches_pages k = elim (cases_Bool (same_spot (spot_of Pages) (spot_of k))) [ inl y ↦ rw y refl | inr n ↦ rw n refl ]

  pages_after : (e : Event) → Fits p st c e → pages_of (taken_in (after p st c e)) + pages_given e ≡ pages_of (taken_in st) + pages_taken e
  pages_after (Take k f w) fits =
      let now : taken_in (after p st c (Take k f w)) ≡ add_run (run_at f w) (taken_in st) = ap (λ v. v.kept.taken) (L.touched p st c (Take k f w) (spot_of Pages) (touches_pages k)) in
      let more = ap pages_of now ∙ pages_added (run_at f w) (taken_in st) in
      omega (arith, more)
  pages_after (Back k f w) fits =
      let now : taken_in (after p st c (Back k f w)) ≡ drop_run (run_at f w) (taken_in st) = ap (λ v. v.kept.taken) (L.touched p st c (Back k f w) (spot_of Pages) (touches_pages k)) in
      let may = ((L.fits p st c).give_back k f w).0 fits in
      let there : has_run (taken_in st) (run_at f w) ≡ true = ((L.separate p es ok).taken (run_at f w)).1 (spot_of k, may.here) in
      let fewer = pages_dropped (run_at f w) (taken_in st) (L.ascending p es ok).taken there in
      let left = ap pages_of now in
      omega (arith, fewer, left)
  pages_after (Move f from to) fits = same_pages (Move f from to) (moved_taken st f from to (spot_of Pages))
  pages_after (New k a n al) fits = same_pages (New k a n al) refl
  pages_after (End k a n) fits = same_pages (End k a n) refl
  pages_after (Size k a n m) fits = same_pages (Size k a n m) refl
  pages_after (Full k n al) fits = same_pages (Full k n al) refl
  pages_after (Dry z w al) fits = same_pages (Dry z w al) refl
  pages_after (No k z a n) fits = same_pages (No k z a n) refl
  pages_after (Open z) fits = same_pages (Open z) refl
  pages_after (Shut z) fits = same_pages (Shut z) refl

  -- the sizes of what an event ends are those of live blocks
  ended_fit : (e : Event) → Fits p st c e → size_sum (ended_by e) ≤ p.pages * PAGE
  ended_fit (End k a n) fits = let ends = (L.bytes_fit p es ok).ends (spot_at k a) (block_at a n) ((((L.fits p st c).ends k a n).0 fits).live) in omega (arith, ends)
  ended_fit (Size k a n m) fits = let ends = (L.bytes_fit p es ok).ends (spot_at k a) (block_at a n) ((((L.fits p st c).resize k a n m).0 fits).live) in omega (arith, ends)
  ended_fit (Take k f w) fits = omega arith
  ended_fit (Back k f w) fits = omega arith
  ended_fit (Move f from to) fits = omega arith
  ended_fit (New k a n al) fits = omega arith
  ended_fit (Full k n al) fits = omega arith
  ended_fit (Dry z w al) fits = omega arith
  ended_fit (No k z a n) fits = omega arith
  ended_fit (Open z) fits = omega arith
  ended_fit (Shut z) fits = omega arith

  few_blocks : length (live_blocks st) ≤ live_size st.values
  few_blocks =
      let size = (L.by_spot st (L.once p es)).size in
      let u = sorted (live_blocks st) in
      let a = u.0 in
      let b = u.1 in
      let most = sorted_size (by_address (live_blocks st)) (L.ascending p es ok).all in
      omega (arith, size, a, b, most)

one_most : (e : Event) → (length (made_by e) ≤ 1) × (length (ended_by e) ≤ 1)
one_most (New k a n al) = (omega arith, omega arith)
one_most (End k a n) = (omega arith, omega arith)
one_most (Size k a n m) = (omega arith, omega arith)
one_most (Take k f w) = (omega arith, omega arith)
one_most (Back k f w) = (omega arith, omega arith)
one_most (Move f from to) = (omega arith, omega arith)
one_most (Full k n al) = (omega arith, omega arith)
one_most (Dry z w al) = (omega arith, omega arith)
one_most (No k z a n) = (omega arith, omega arith)
one_most (Open z) = (omega arith, omega arith)
one_most (Shut z) = (omega arith, omega arith)

one_way : (e : Event) → (pages_given e ≡ 0) ⊎ (pages_taken e ≡ 0)
one_way (Take k f w) = inl refl
one_way (Back k f w) = inr refl
one_way (Move f from to) = inl refl
one_way (New k a n al) = inl refl
one_way (End k a n) = inl refl
one_way (Size k a n m) = inl refl
one_way (Full k n al) = inl refl
one_way (Dry z w al) = inl refl
one_way (No k z a n) = inl refl
one_way (Open z) = inl refl
one_way (Shut z) = inl refl

abbrev the : ℕ → ℕ → ℕ → ℕ → Statistics
the b z m a = record { blocks_in_use = b; size_in_use = z; max_size_in_use = m; size_allocated = a }

same_statistics : {a b c d i j k l : ℕ} → a ≡ i → b ≡ j → c ≡ k → d ≡ l
    → the a b c d ≡ the i j k l
same_statistics {a} {b} {c} {d} {i} {j} {k} {l} u v w x =
    ap (λ n. the n b c d) u ∙ (ap (λ n. the i n c d) v ∙ (ap (λ n. the i j n d) w ∙ ap (λ n. the i j k n) x))

module _ (L : StatisticsLaws) (p : Profile) (limits : IsWithinLimits p) (es : List Entry) (x : Entry) (lawful : AreLawful p opening (es ++ x ∷ [])) where
  abbrev s : State
  s = after_all p opening es

  abbrev e : Event
  e = x.event

  abbrev t : State
  t = after p s x.caller e

  before : AreLawful p opening es
  before = ((L.joined p opening es (x ∷ [])).0 lawful).0

  fits : Fits p s x.caller e
  fits = ((L.one p s x).0 ((L.joined p opening es (x ∷ [])).0 lawful).1).fits

  then_is : after_all p opening (es ++ x ∷ []) ≡ t
  then_is = L.after_joined p opening es (x ∷ []) ∙ L.after_one p s x

  sums : SumsAfter e s t
  sums = L.sums p es x.caller e before fits

  pub can_count : CanCount (statistics_of p s) e
  can_count =
      let pages = limits.pages.1 in
      let few = few_blocks L p es x.caller before in
      let fit = L.bytes_fit p es before in
      let size = fit.sum in
      let most = fit.greatest in
      let fit_then = subst (LiveBytesFit p) then_is (L.bytes_fit p (es ++ x ∷ []) lawful) in
      let size_then = fit_then.sum in
      let most_then = fit_then.greatest in
      let number = sums.number in
      let bytes = sums.bytes in
      let ended = ended_fit L p es x.caller before e fits in
      let one = one_most e in
      let taken = pages_after L p es x.caller before e fits in
      let runs = (L.runs_fit p es before).taken in
      let runs_then = (subst (RunsFit p) then_is (L.runs_fit p (es ++ x ∷ []) lawful)).taken in
      let nano = limits.nano_within in
      record {
        blocks = let m = one.0 in omega (arith, pages, few, size, most, m);
        blocks_are_there = omega (arith, number);
        bytes = omega (arith, pages, bytes, size_then, most_then, ended);
        bytes_are_there = omega (arith, bytes);
        pages = elim (one_way e) [
          | inl none ↦ omega (arith, pages, taken, runs_then, nano, none, runs)
          | inr none ↦ omega (arith, pages, runs, nano, none)
        ];
        pages_are_there = omega (arith, taken);
      }

  pub counted : statistics_of p (after_all p opening (es ++ x ∷ [])) ≡ statistics_with (statistics_of p s) e
  counted =
      let number = sums.number in
      let bytes = sums.bytes in
      let taken = pages_after L p es x.caller before e fits in
      let blocks_now : length (live_blocks t) ≡ length (live_blocks s) + length (made_by e) - length (ended_by e) = omega (arith, number) in
      let size_now : live_size t.values ≡ size_with (statistics_of p s) e = omega (arith, bytes) in
      let most_now : t.greatest ≡ max s.greatest (size_with (statistics_of p s) e) = L.greatest p s x.caller e ∙ ap (λ n. max s.greatest n) size_now in
      let allocated_now : size_allocated p t ≡ size_allocated p s + pages_taken e * PAGE - pages_given e * PAGE = omega (arith, taken) in
      ap (λ u. statistics_of p u) then_is
      ∙ same_statistics blocks_now size_now most_now allocated_now

-- the entries of a lawful history up to and with one of them
pub lawful_front : (L : StatisticsLaws) (p : Profile) (h : List Entry) (i : ℕ) (d : Entry) → i < length h → AreLawful p opening h → AreLawful p opening (take i h ++ slice_index_or h i d ∷ [])
lawful_front L p h i d low lawful =
    subst (AreLawful p opening) (take_more h i d low) (((L.joined p opening (take (i + 1) h) (drop (i + 1) h)).0 (subst (AreLawful p opening) (sym (take-append-drop (i + 1) h)) lawful)).0)

-- before any entry nothing is in use but nano's pages
pub at_first : (p : Profile) → the 0 0 0 (p.nano * PAGE) ≡ statistics_of p opening
unfolding look_up
at_first p = same_statistics refl refl refl (let n : p.nano * PAGE ≡ (0 + p.nano) * PAGE = omega arith in n)
