-- Tests of what a place keeps, by the run that has the address or the page.
use Rattle.std.proofs.Common.{◌≡◌, ℕ, ◌+◌, ◌-◌, ◌*◌, ◌/◌, ◌<◌, ◌≤◌, ◌⊎◌, Bool, true, false, cond, not, List, [], ◌∷◌, length, get_or, zero, suc, refl, sym, subst, ap, ◌∙◌, inl, inr, arith}
use Rattle.std.specs.Prelude.{◌↔◌, ◌&&◌, ◌||◌, ◌==◌, nat_le, nat_lt, map, find, sum_by, is_some, IsSome, IfSome, IfNone, slice_get, Option, Some, None}
use Rattle.std.specs.List.{All, list_any, list_all}
use Rattle.std.specs.Option.{option_map}
use Rattle.std.proofs.lemmas.Bool.{and_parts, and_from, or_left, or_from, false≢true, false_from_ne_true, cases_Bool, cases_lt, leb-true, le-leb, eqb-true, eq-eqb, ne_eqb}
use Rattle.std.proofs.lemmas.List.Elements.{All-head, All-tail, All-weaker}
use Rattle.std.proofs.lemmas.List.Sums.{sum_by-cons, sum_by-append}
use Rattle.mz_base.specs.declared.range.TheConstants.{PAGE}
use Rattle.mz_base.specs.Space.{Block, Run, run_at, block_end, blocks_apart, bytes_of, same_run}
use Rattle.mz_base.specs.Lists.{has_run, has_block, size_sum, blocks_in, run_bytes}
use Rattle.mz_base.specs.Room.{lies_in, has_room, any_has_room}
use Rattle.mz_events.specs.Duties.{is_sparse, is_unused, is_in_excess, recirculation}
use Rattle.mz_events.specs.Changes.{region_at}
use Rattle.mz_events.specs.Places.{depot_of}
use Rattle.mz_events.specs.declared.place.Place.{Place}
use Rattle.mz_events.specs.declared.event.Event.{Event}
use Rattle.mz_events.specs.declared.event.Event.TheVariants.{Move}
use Rattle.mz_events.specs.Room.{any_fits, best_fit}
use Rattle.mz_events.specs.Placement.{is_some_run}
use Rattle.mz_holding.specs.declared.extent.Extent.{Extent}
use Rattle.mz_holding.specs.declared.held.Held.{Held}
use Rattle.mz_holding.specs.Gaps.{AreSpread}
use Rattle.mz_holding.specs.HeldRuns.{run_of_held, live_of_held, live_in_runs, AreRunsInOrder, HasPage, kept_in}
use Rattle.mz_holding.proofs.InOrder.{IsIn, all_in, any_in}
use Rattle.mz_holding.proofs.GapLemmas.{all_has, same_run_is, bool_same}
use Rattle.mz_holding.proofs.NeighbourLemmas.{spread_bytes, spread_filter}
use Rattle.mz_holding.proofs.SpreadLemmas.{same_spread, has_filter}
use Rattle.mz_holding.proofs.PartLemmas.{all_apart_part}
use Rattle.mz_holding.proofs.RunLemmas.{any_run, no_run, any_map, runs_beside, part_of_run, lies_there, in_run, live_spread, room_here, used_within}

-- RUN: a run is one of the place's exactly where it is the one that has its first page
pub run_here : (hs : List Held) (h : Held) (first pages : ℕ) → AreRunsInOrder hs → IsIn h hs → h.first ≤ first → first < h.first + h.pages → same_run (run_at first pages) (run_of_held h) ≡ has_run (map run_of_held hs) (run_at first pages)
run_here hs h first pages order isin from to = sym (any_run hs h (same_run (run_at first pages)) isin (λ g there yes_.
    let at : first ≡ g.first = eqb-true first g.first (and_parts (first == g.first) (pages == g.pages) yes_).0 in
    let some = g.sound.0 in
    elim (runs_beside hs g h order there isin) [
      | inl same ↦ same
      | inr apart ↦ elim apart [ inl before ↦ absurd (omega arith) | inr after ↦ absurd (omega arith) ]
    ]))

pub run_nowhere : (hs : List Held) (first pages : ℕ) → HasPage hs first None → false ≡ has_run (map run_of_held hs) (run_at first pages)
run_nowhere hs first pages none = sym (no_run hs (same_run (run_at first pages)) (λ g there yes_.
    let at : first ≡ g.first = eqb-true first g.first (and_parts (first == g.first) (pages == g.pages) yes_).0 in
    let some = g.sound.0 in
    elim (all_in (λ h. (first < h.first) ⊎ (h.first + h.pages ≤ first)) hs g none there) [ inl before ↦ omega arith | inr after ↦ omega arith ]))

some_of : (b : Block) (bs : List Block) → (length (b ∷ bs) == 0) ≡ false
some_of b bs = ne_eqb (length (b ∷ bs)) 0 (λ none. omega arith)

-- a run's own blocks are apart from its bytes only where there are none
own_apart : (h : Held) (bs : List Block) → ((c : Block) → has_block bs c ≡ true → has_block (live_of_held h) c ≡ true) → AreSpread bs → (length bs == 0) ≡ list_all (λ b. blocks_apart b (bytes_of (run_of_held h))) bs
own_apart h [] mine spread = refl
own_apart h (b ∷ bs) mine spread =
    let one = spread.0 in
    let lies = lies_there h b (mine b (has_first b bs)) in
    let from = lies.0 in
    let to = lies.1 in
    some_of b bs ∙ sym (ap (λ t. t && list_all (λ c. blocks_apart c (bytes_of (run_of_held h))) bs) (or_from (nat_le (block_end b) (h.first * PAGE)) (nat_le (h.first * PAGE + h.pages * PAGE) b.first) (false_from_ne_true (nat_le (block_end b) (h.first * PAGE)) (λ yes_. let k = leb-true (block_end b) (h.first * PAGE) yes_ in omega arith)) (false_from_ne_true (nat_le (h.first * PAGE + h.pages * PAGE) b.first) (λ yes_. let k = leb-true (h.first * PAGE + h.pages * PAGE) b.first yes_ in omega arith))))
  where
    has_first : (b : Block) (bs : List Block) → has_block (b ∷ bs) b ≡ true
    has_first b bs = or_left ((b.first == b.first) && (b.size == b.size)) (has_block bs b) (and_from (b.first == b.first) (b.size == b.size) (eq-eqb b.first b.first refl) (eq-eqb b.size b.size refl))

-- UNUSED: whether no block lies in a run of the place's own
pub unused_here : (hs : List Held) (h : Held) (first pages : ℕ) → AreRunsInOrder hs → IsIn h hs → h.first ≤ first → first < h.first + h.pages → same_run (run_at first pages) (run_of_held h) ≡ true → (length (live_of_held h) == 0) ≡ (has_run (map run_of_held hs) (run_at first pages) && list_all (λ b. blocks_apart b (bytes_of (run_at first pages))) (live_in_runs hs))
unused_here hs h first pages order isin from to same =
    own_apart h (live_of_held h) (λ c there. there) h.blocks.spread
    ∙ sym (all_apart_part (h.first * PAGE) ((h.first + h.pages) * PAGE) (live_in_runs hs) (live_of_held h) (part_of_run hs h order isin) (bytes_of (run_of_held h)) (omega arith) (omega arith))
    ∙ ap (λ r. list_all (λ b. blocks_apart b (bytes_of r)) (live_in_runs hs)) (sym (same_run_is (run_at first pages) (run_of_held h) same))
    ∙ ap (λ t. t && list_all (λ b. blocks_apart b (bytes_of (run_at first pages))) (live_in_runs hs)) (sym (sym (run_here hs h first pages order isin from to) ∙ same))

pub unused_other : (hs : List Held) (h : Held) (first pages : ℕ) (t : Bool) → AreRunsInOrder hs → IsIn h hs → h.first ≤ first → first < h.first + h.pages → same_run (run_at first pages) (run_of_held h) ≡ false → false ≡ (has_run (map run_of_held hs) (run_at first pages) && t)
unused_other hs h first pages t order isin from to other = ap (λ x. x && t) (sym other ∙ run_here hs h first pages order isin from to)

pub unused_nowhere : (hs : List Held) (first pages : ℕ) (t : Bool) → HasPage hs first None → false ≡ (has_run (map run_of_held hs) (run_at first pages) && t)
unused_nowhere hs first pages t none = ap (λ x. x && t) (run_nowhere hs first pages none)

-- LARGE: where the block is a whole run, the best fit decides, or that no cached run fits
pub large_fits : (s x : Bool) (cached : List Run) (t r : Run) (w : ℕ) → ((best_fit cached w ≡ None) ↔ (any_fits cached w ≡ false)) → s ≡ true → best_fit cached w ≡ Some t → same_run t r ≡ (s && (is_some_run (best_fit cached w) r || (x && not (any_fits cached w))))
large_fits s x cached t r w law whole best =
    let fits : any_fits cached w ≡ true = elim (cases_Bool (any_fits cached w)) [ inl yes_ ↦ yes_ | inr no_ ↦ absurd (none_some (sym (law.1 no_) ∙ best)) ] in
    sym (ap (λ y. y && (is_some_run (best_fit cached w) r || (x && not (any_fits cached w)))) whole
    ∙ ap (λ o. is_some_run o r || (x && not (any_fits cached w))) best
    ∙ ap (λ y. same_run t r || (x && not y)) fits ∙ last x (same_run t r))
  where
    none_some : ◌≡◌ {A = Option Run} None (Some t) → ⊥
    none_some h = cc

    last : (x y : Bool) → (y || (x && false)) ≡ y
    last true true = refl
    last true false = refl
    last false true = refl
    last false false = refl

pub large_spare : (s x : Bool) (cached : List Run) (r : Run) (w : ℕ) → ((best_fit cached w ≡ None) ↔ (any_fits cached w ≡ false)) → s ≡ true → best_fit cached w ≡ None → x ≡ (s && (is_some_run (best_fit cached w) r || (x && not (any_fits cached w))))
large_spare s x cached r w law whole best = sym (ap (λ y. y && (is_some_run (best_fit cached w) r || (x && not (any_fits cached w)))) whole
    ∙ ap (λ o. is_some_run o r || (x && not (any_fits cached w))) best
    ∙ ap (λ y. x && not y) (law.0 best) ∙ last x)
  where
    last : (x : Bool) → (x && true) ≡ x
    last true = refl
    last false = refl

-- SUM: the live bytes
pub used_sum : (hs : List Held) → sum_by (λ h. h.used) hs ≡ size_sum (live_in_runs hs)
used_sum [] = refl
used_sum (h ∷ hs) =
    let split = sum_by-cons (λ (g : Held). g.used) h hs in
    let rest = used_sum hs in
    let own = h.sound.3 in
    let both = sum_by-append (λ (b : Block). b.size) (live_of_held h) (live_in_runs hs) in
    omega arith

-- there are none exactly where there are no bytes
pub none_live : (bs : List Block) → AreSpread bs → (size_sum bs == 0) ≡ (length bs == 0)
none_live [] spread = refl
none_live (b ∷ bs) spread =
    let one = spread.0 in
    let split = sum_by-cons (λ (c : Block). c.size) b bs in
    ne_eqb (size_sum (b ∷ bs)) 0 (λ none. omega arith) ∙ sym (some_of b bs)

-- what two tests with one order of the sides say
pub same_run_turned : (r t : Run) → same_run r t ≡ same_run t r
same_run_turned r t = bool_same (same_run r t) (same_run t r) (turn r t) (turn t r)
  where
    turn : (x y : Run) → same_run x y ≡ true → same_run y x ≡ true
    turn x y h = let is = same_run_is x y h in and_from (y.first == x.first) (y.pages == x.pages) (eq-eqb y.first x.first (ap (λ (z : Run). z.first) (sym is))) (eq-eqb y.pages x.pages (ap (λ (z : Run). z.pages) (sym is)))

-- a search among the runs is one among what is held
pub find_run : (q : Run → Bool) (p : Held → Bool) (xs : List Held) → ((g : Held) → IsIn g xs → q (run_of_held g) ≡ p g) → find q (map run_of_held xs) ≡ option_map run_of_held (find p xs)
find_run q p [] agree = refl
find_run q p (x ∷ xs) agree = ap (λ t. cond t (Some (run_of_held x)) (find q (map run_of_held xs))) (agree x (inl refl))
    ∙ elim (p x) as (λ t. cond t (Some (run_of_held x)) (find q (map run_of_held xs)) ≡ option_map run_of_held (cond t (Some x) (find p xs))) [
      | true ↦ refl
      | false ↦ find_run q p xs (λ g there. agree g (inr there))
    ]

pub any_found : (q : Run → Bool) (p : Held → Bool) (xs : List Held) → ((g : Held) → IsIn g xs → q (run_of_held g) ≡ p g) → is_some (option_map (λ h. h.first) (find p xs)) ≡ list_any q (map run_of_held xs)
any_found q p [] agree = refl
any_found q p (x ∷ xs) agree =
    elim (p x) as (λ t. is_some (option_map (λ (h : Held). h.first) (cond t (Some x) (find p xs))) ≡ (t || list_any q (map run_of_held xs))) [
      | true ↦ refl
      | false ↦ any_found q p xs (λ g there. agree g (inr there))
    ]
    ∙ sym (ap (λ t. t || list_any q (map run_of_held xs)) (agree x (inl refl)))

-- ROOM: some run has room exactly where one has it among its own blocks
pub any_room : (hs : List Held) (n al : ℕ) → AreRunsInOrder hs → 1 ≤ n → 1 ≤ al → is_some (option_map (λ h. h.first) (find (λ h. has_room (run_of_held h) (live_of_held h) n al) hs)) ≡ any_has_room (map run_of_held hs) (live_in_runs hs) n al
any_room hs n al order some whole = any_found (λ r. has_room r (live_in_runs hs) n al) (λ h. has_room (run_of_held h) (live_of_held h) n al) hs (λ g there. room_here hs g n al order some whole there)

-- the run of the first page f is the first that passes
abbrev pub is_first : Option ℕ → ℕ → Bool
is_first None f = false
is_first (Some g) f = g == f

all_behind : (q : Run → Bool) (f : ℕ) (xs : List Held) → All (λ g. f ≤ g.first) xs → list_all (λ r. nat_le f r.first || not (q r)) (map run_of_held xs) ≡ true
all_behind q f [] more = refl
all_behind q f (x ∷ xs) more = and_from (nat_le f x.first || not (q (run_of_held x))) (list_all (λ r. nat_le f r.first || not (q r)) (map run_of_held xs)) (or_left (nat_le f x.first) (not (q (run_of_held x))) (le-leb f x.first (All-head (λ g. f ≤ g.first) x xs more))) (all_behind q f xs (All-tail (λ g. f ≤ g.first) x xs more))

none_behind : (q : Run → Bool) (f : ℕ) (xs : List Held) → All (λ g. f < g.first) xs → list_any (λ r. (r.first == f) && q r) (map run_of_held xs) ≡ false
none_behind q f [] more = refl
none_behind q f (x ∷ xs) more =
    let up : f < x.first = All-head (λ g. f < g.first) x xs more in
    or_from ((x.first == f) && q (run_of_held x)) (list_any (λ r. (r.first == f) && q r) (map run_of_held xs)) (ap (λ t. t && q (run_of_held x)) (ne_eqb x.first f (λ same. omega arith))) (none_behind q f xs (All-tail (λ g. f < g.first) x xs more))

abbrev lowest_test : (Run → Bool) → ℕ → List Run → Bool
lowest_test q f rs = list_any (λ r. (r.first == f) && q r) rs && list_all (λ r. nat_le f r.first || not (q r)) rs

first_found : (q : Run → Bool) (p : Held → Bool) (f : ℕ) (xs : List Held) → ((g : Held) → IsIn g xs → q (run_of_held g) ≡ p g) → AreRunsInOrder xs → is_first (option_map (λ h. h.first) (find p xs)) f ≡ lowest_test q f (map run_of_held xs)
first_found q p f [] agree order = refl
first_found q p f (x ∷ xs) agree order = elim (cases_Bool (p x)) [
  | inr no_ ↦
      let other : q (run_of_held x) ≡ false = agree x (inl refl) ∙ no_ in
      ap (λ t. is_first (option_map (λ (h : Held). h.first) (cond t (Some x) (find p xs))) f) no_
      ∙ first_found q p f xs (λ g there. agree g (inr there)) order.1
      ∙ skip (x.first == f) (nat_le f x.first) (list_any (λ r. (r.first == f) && q r) (map run_of_held xs)) (list_all (λ r. nat_le f r.first || not (q r)) (map run_of_held xs))
      ∙ ap (λ t. (((x.first == f) && t) || list_any (λ r. (r.first == f) && q r) (map run_of_held xs)) && ((nat_le f x.first || not t) && list_all (λ r. nat_le f r.first || not (q r)) (map run_of_held xs))) (sym other)
  | inl yes_ ↦
      let here : q (run_of_held x) ≡ true = agree x (inl refl) ∙ yes_ in
      ap (λ t. is_first (option_map (λ (h : Held). h.first) (cond t (Some x) (find p xs))) f) yes_
      ∙ taken (cases_Bool (x.first == f)) (cases_lt f x.first)
      ∙ ap (λ t. (((x.first == f) && t) || list_any (λ r. (r.first == f) && q r) (map run_of_held xs)) && ((nat_le f x.first || not t) && list_all (λ r. nat_le f r.first || not (q r)) (map run_of_held xs))) (sym here)
]
  where
    skip : (e l a b : Bool) → (a && b) ≡ (((e && false) || a) && ((l || true) && b))
    skip true true a b = refl
    skip true false a b = refl
    skip false true a b = refl
    skip false false a b = refl

    any_rest : Bool
    any_rest = list_any (λ r. (r.first == f) && q r) (map run_of_held xs)

    all_rest : Bool
    all_rest = list_all (λ r. nat_le f r.first || not (q r)) (map run_of_held xs)

    when_here : (e l a b : Bool) → e ≡ true → l ≡ true → b ≡ true → e ≡ (((e && true) || a) && ((l || false) && b))
    when_here true true a true one two three = refl
    when_here false l a b one two three = absurd (false≢true one)
    when_here true false a b one two three = absurd (false≢true two)
    when_here true true a false one two three = absurd (false≢true three)

    when_above : (e l a b : Bool) → e ≡ false → a ≡ false → e ≡ (((e && true) || a) && ((l || false) && b))
    when_above false l false b one two = refl
    when_above true l a b one two = absurd (false≢true (sym one))
    when_above false l true b one two = absurd (false≢true (sym two))

    when_below : (e l a b : Bool) → e ≡ false → l ≡ false → e ≡ (((e && true) || a) && ((l || false) && b))
    when_below false false true b one two = refl
    when_below false false false b one two = refl
    when_below true l a b one two = absurd (false≢true (sym one))
    when_below false true a b one two = absurd (false≢true (sym two))

    taken : ((x.first == f) ≡ true) ⊎ ((x.first == f) ≡ false) → (f < x.first) ⊎ (x.first ≤ f) → (x.first == f) ≡ ((((x.first == f) && true) || any_rest) && ((nat_le f x.first || false) && all_rest))
    taken (inl same) either =
        let at = eqb-true x.first f same in
        when_here (x.first == f) (nat_le f x.first) any_rest all_rest same (le-leb f x.first (omega arith)) (all_behind q f xs (All-weaker (λ g. x.first + x.pages ≤ g.first) (λ g. f ≤ g.first) (λ g k. let m : x.first + x.pages ≤ g.first = k in omega arith) xs order.0))
    taken (inr other) (inl less) = when_above (x.first == f) (nat_le f x.first) any_rest all_rest other (none_behind q f xs (All-weaker (λ g. x.first + x.pages ≤ g.first) (λ g. f < g.first) (λ g k. let m : x.first + x.pages ≤ g.first = k in omega arith) xs order.0))
    taken (inr other) (inr more) = when_below (x.first == f) (nat_le f x.first) any_rest all_rest other (false_from_ne_true (nat_le f x.first) (λ yes_. let up = leb-true f x.first yes_ in false≢true (sym other ∙ eq-eqb x.first f (omega arith))))

-- LOWEST: the region at page f is the lowest with room exactly where it is the first with room among its own blocks
pub lowest_room : (hs : List Held) (f n al : ℕ) → AreRunsInOrder hs → 1 ≤ n → 1 ≤ al → is_first (option_map (λ h. h.first) (find (λ h. has_room (run_of_held h) (live_of_held h) n al) hs)) f ≡ lowest_test (λ r. has_room r (live_in_runs hs) n al) f (map run_of_held hs)
lowest_room hs f n al order some whole = first_found (λ r. has_room r (live_in_runs hs) n al) (λ h. has_room (run_of_held h) (live_of_held h) n al) f hs (λ g there. room_here hs g n al order some whole there) order

-- OWN: the blocks in a run are its own
pub blocks_of_run : (hs : List Held) (h : Held) → AreRunsInOrder hs → IsIn h hs → blocks_in (live_in_runs hs) (run_of_held h) ≡ live_of_held h
blocks_of_run hs h order isin =
    let lies = λ (c : Block). lies_in (run_of_held h) c.first (block_end c) in
    same_spread (blocks_in (live_in_runs hs) (run_of_held h)) (live_of_held h) (spread_filter lies (live_in_runs hs) (live_spread hs order)) h.blocks.spread (λ c.
    has_filter lies (live_in_runs hs) c ∙ bool_same (has_block (live_in_runs hs) c && lies c) (has_block (live_of_held h) c)
    (λ yes_.
    let parts = and_parts (has_block (live_in_runs hs) c) (lies c) yes_ in
    let within = and_parts (nat_le (h.first * PAGE) c.first) (nat_le (block_end c) ((h.first + h.pages) * PAGE)) parts.1 in
    let from = leb-true (h.first * PAGE) c.first within.0 in
    let to = leb-true (block_end c) ((h.first + h.pages) * PAGE) within.1 in
    let one : 1 ≤ c.size = all_has (λ b. 1 ≤ b.size) (live_in_runs hs) c (spread_bytes (live_in_runs hs) (live_spread hs order)) parts.0 in
    elim ((part_of_run hs h order isin).back c parts.0) [
      | inl mine ↦ mine
      | inr out ↦ elim out [ inl before ↦ absurd (omega arith) | inr behind ↦ absurd (omega arith) ]
    ])
    (λ mine.
    let at = lies_there h c mine in
    and_from (has_block (live_in_runs hs) c) (lies c) (in_run hs h c isin mine) (and_from (nat_le (h.first * PAGE) c.first) (nat_le (block_end c) ((h.first + h.pages) * PAGE)) (le-leb (h.first * PAGE) c.first at.0) (le-leb (block_end c) ((h.first + h.pages) * PAGE) at.1))))

-- DUTIES: the lowest sparse region, and the lowest unused one
pub sparse_found : (hs : List Held) → AreRunsInOrder hs → find (is_sparse (live_in_runs hs)) (map run_of_held hs) ≡ option_map run_of_held (find (λ h. nat_lt (4 * h.used) (3 * run_bytes (run_of_held h))) hs)
sparse_found hs order = find_run (is_sparse (live_in_runs hs)) (λ h. nat_lt (4 * h.used) (3 * run_bytes (run_of_held h))) hs (λ g there. ap (λ n. nat_lt (4 * n) (3 * run_bytes (run_of_held g))) (ap size_sum (blocks_of_run hs g order there) ∙ sym g.sound.3))

pub unused_found : (hs : List Held) → AreRunsInOrder hs → find (is_unused (live_in_runs hs)) (map run_of_held hs) ≡ option_map run_of_held (find (λ h. length (live_of_held h) == 0) hs)
unused_found hs order = find_run (is_unused (live_in_runs hs)) (λ h. length (live_of_held h) == 0) hs (λ g there. ap (λ bs. length bs == 0) (blocks_of_run hs g order there))

pub used_total : (hs : List Held) → sum_by (λ h. h.used) hs ≤ sum_by run_bytes (map run_of_held hs)
used_total [] = omega arith
used_total (h ∷ hs) =
    let one = sum_by-cons (λ (g : Held). g.used) h hs in
    let two = sum_by-cons run_bytes (run_of_held h) (map run_of_held hs) in
    let rest = used_total hs in
    let own = used_within h in
    omega arith

pub any_held : (q : Run → Bool) (hs : List Held) → list_any (λ h. q (run_of_held h)) hs ≡ list_any q (map run_of_held hs)
any_held q hs = sym (any_map q hs)

-- EXCESS: by kept sums
pub excess_is : (hs : List Held) (freed : Option Extent) (cached : List Extent) (used all : ℕ) → used ≡ size_sum (live_in_runs hs) → all ≡ sum_by run_bytes (map run_of_held hs) → (list_any (λ h. nat_lt (3 * run_bytes (run_of_held h)) (2 * (all - used))) hs && nat_lt used (all - all / 4)) ≡ is_in_excess (kept_in hs freed cached)
excess_is hs freed cached used all is total =
    ap (λ t. t && nat_lt used (all - all / 4)) (any_held (λ r. nat_lt (3 * run_bytes r) (2 * (all - used))) hs)
    ∙ ap (λ u. list_any (λ r. nat_lt (3 * run_bytes r) (2 * (all - u))) (map run_of_held hs) && nat_lt u (all - all / 4)) is
    ∙ ap (λ a. list_any (λ r. nat_lt (3 * run_bytes r) (2 * (a - size_sum (live_in_runs hs)))) (map run_of_held hs) && nat_lt (size_sum (live_in_runs hs)) (a - a / 4)) total

map_first : (m : Place) (o : Option Held) → ◌≡◌ {A = Option Event} (option_map (λ r. Move r.first m (depot_of m)) (option_map run_of_held o)) (option_map (λ f. Move f m (depot_of m)) (option_map (λ h. h.first) o))
map_first m None = refl
map_first m (Some h) = refl

pub recirculates : (m : Place) (hs : List Held) (freed : Option Extent) (cached : List Extent) → AreRunsInOrder hs → is_in_excess (kept_in hs freed cached) ≡ true → recirculation m (kept_in hs freed cached) ≡ option_map (λ f. Move f m (depot_of m)) (option_map (λ h. h.first) (find (λ h. nat_lt (4 * h.used) (3 * run_bytes (run_of_held h))) hs))
recirculates m hs freed cached order excess =
    ap (λ t. cond t (option_map (λ (r : Run). Move r.first m (depot_of m)) (find (is_sparse (live_in_runs hs)) (map run_of_held hs))) None) excess
    ∙ ap (option_map (λ (r : Run). Move r.first m (depot_of m))) (sparse_found hs order)
    ∙ map_first m (find (λ h. nat_lt (4 * h.used) (3 * run_bytes (run_of_held h))) hs)

-- REGION: the run that begins at a page is the one that has it
pub region_there : (hs : List Held) (first : ℕ) → list_any (λ r. r.first == first) (map run_of_held hs) ≡ true → HasPage hs first None → ⊥
region_there hs first there none = false≢true (sym (no_run hs (λ r. r.first == first) (λ g isin yes_.
    let at = eqb-true g.first first yes_ in
    let some = g.sound.0 in
    elim (all_in (λ h. (first < h.first) ⊎ (h.first + h.pages ≤ first)) hs g none isin) [ inl before ↦ omega arith | inr after ↦ omega arith ])) ∙ there)

pub region_begins : (hs : List Held) (h : Held) (first : ℕ) → AreRunsInOrder hs → IsIn h hs → h.first ≤ first → first < h.first + h.pages → list_any (λ r. r.first == first) (map run_of_held hs) ≡ true → h.first ≡ first
region_begins hs h first order isin from to there =
    let g = any_in (λ x. (run_of_held x).first == first) hs (sym (any_map (λ r. r.first == first) hs) ∙ there) in
    let at : g.0.first ≡ first = eqb-true g.0.first first g.2 in
    let some = g.0.sound.0 in
    elim (runs_beside hs g.0 h order g.1 isin) [
      | inl same ↦ ap (λ (x : Held). x.first) (sym same) ∙ at
      | inr apart ↦ elim apart [ inl before ↦ absurd (omega arith) | inr after ↦ absurd (omega arith) ]
    ]

pub region_is : (hs : List Held) (h : Held) (first : ℕ) → AreRunsInOrder hs → IsIn h hs → h.first ≡ first → run_of_held h ≡ region_at (map run_of_held hs) first
region_is [] h first order isin at = absurd isin
region_is (x ∷ hs) h first order (inl same) at = ap run_of_held same ∙ sym (ap (λ t. cond t (run_of_held x) (region_at (map run_of_held hs) first)) (eq-eqb x.first first (ap (λ (g : Held). g.first) (sym same) ∙ at)))
region_is (x ∷ hs) h first order (inr later) at =
    let up : x.first + x.pages ≤ h.first = all_in (λ g. x.first + x.pages ≤ g.first) hs h order.0 later in
    let some = x.sound.0 in
    region_is hs h first order.1 later at ∙ sym (ap (λ t. cond t (run_of_held x) (region_at (map run_of_held hs) first)) (ne_eqb x.first first (λ same. omega arith)))

-- FOUND: the run at the index that a search by page finds
pub index_found : (hs xs : List Held) (page i : ℕ) (o : Option ℕ) (h : Held) → xs ≡ hs → IfSome o (λ j. (j < length xs) × HasPage xs page (slice_get xs j)) → o ≡ Some i → h ≡ get_or hs i h → (i < length hs) × HasPage hs page (Some h)
index_found hs xs page i o h same found is at =
    let one : (i < length xs) × HasPage xs page (slice_get xs i) = subst (λ q. IfSome q (λ j. (j < length xs) × HasPage xs page (slice_get xs j))) is found in
    let two : (i < length hs) × HasPage hs page (slice_get hs i) = subst (λ ys. (i < length ys) × HasPage ys page (slice_get ys i)) same one in
    (two.0, subst (HasPage hs page) (got hs i h two.0 ∙ ap Some (sym at)) two.1)
  where
    got : (ys : List Held) (j : ℕ) (d : Held) → j < length ys → slice_get ys j ≡ Some (get_or ys j d)
    got [] j d below = absurd (omega arith)
    got (y ∷ ys) zero d below = refl
    got (y ∷ ys) (suc j) d below = got ys j d (omega arith)

pub page_found : (hs xs : List Held) (page : ℕ) (o : Option ℕ) → xs ≡ hs → IfNone o (HasPage xs page None) → (HasPage hs page None → ⊥) → IsSome o
page_found hs xs page None same none some = absurd (some (subst (λ ys. HasPage ys page None) same none))
page_found hs xs page (Some i) same none some = refl
