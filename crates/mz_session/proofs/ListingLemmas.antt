-- The live blocks of a space of one zone, sorted by address, are its listing.
use Rattle.std.proofs.Common.{◌≡◌, ℕ, suc, ◌+◌, ◌*◌, ◌<◌, ◌≤◌, ◌==◌, Bool, true, false, cond, List, [], ◌∷◌, map, filter, length, slice_index_or, arith, refl, ap, sym, subst, ◌∙◌, inl, inr}
use Rattle.std.specs.Prelude.{◌&&◌, ◌⊎◌, ◌%◌, nat_le, nat_lt, sum_by, find, None, Some}
use Rattle.std.specs.List.{All, Contains}
use Rattle.std.specs.List.Sorted.{IsPermutation, IsNonDecreasingBy}
use Rattle.std.proofs.lemmas.Bool.{cases_Bool, and_parts, and_from, false≢true}
use Rattle.std.proofs.lemmas.Bool.Decides.{nat_tests}
use Rattle.std.proofs.lemmas.List.Sums.{sum_by-cons}
use Rattle.std.proofs.lemmas.List.Elements.{All-head, All-tail, All-cons, Contains-append_cases, Contains-push_cases}
use Rattle.std.proofs.lemmas.List.Sorted.{IsPermutation-map, All-permutation, sum_by-IsPermutation}
use Rattle.mz_base.specs.declared.profile.Profile.{Profile}
use Rattle.mz_base.specs.Space.{Block, block_at, block_end, run_end, same_block}
use Rattle.mz_base.specs.Lists.{insert_by, has_block}
use Rattle.mz_base.specs.Sizes.{is_size, route_of}
use Rattle.mz_base.specs.declared.range.Range.{Range}
use Rattle.mz_base.specs.declared.range.Range.TheVariants as range
use Rattle.mz_base.specs.declared.range.TheConstants.{PAGE}
use Rattle.mz_events.specs.declared.entry.Entry.{Entry}
use Rattle.mz_events.specs.declared.place.Place.{Place}
use Rattle.mz_events.specs.declared.place.Place.TheVariants.{Pages, Tiny, TinyDepot, Small, SmallDepot, Large, Nano}
use Rattle.mz_events.specs.Places.{is_nano, is_size_of, is_length_of, nano_start, Spot, keeper_at, nano_page, place_of, zone_of}
use Rattle.mz_events.specs.State.{State, opening, kept_at, live_blocks}
use Rattle.mz_events.specs.Changes.{one_for}
use Rattle.mz_events.specs.History.{AreLawful, after_all}
use Rattle.mz_events.specs.Separation.{InOrder, by_address, LiesAtHome}
use Rattle.mz_record.specs.Listing.{range_of}
use Rattle.mz_record.specs.Zones.{zone_at}
use Rattle.mz_book.specs.Living.{times}
use Rattle.mz_trace.specs.declared.tail.Listed.{Listed}
use Rattle.mz_lawful.specs.Standing.{Standing, default_zone, zone_name}
use Rattle.mz_lawful.specs.Tail.{listed, listing_of}
use Rattle.mz_session.specs.Listing.{AreLive, range_in, listed_in}
use Rattle.mz_session.specs.ListingLaws.{ListingLaws}
use Rattle.mz_session.proofs.CountLemmas.{or-left, or-right}

same_true : (x y : Block) → same_block x y ≡ true → x ≡ y
same_true x y same =
    let parts = and_parts (x.first == y.first) (x.size == y.size) same in
    let a : x.first ≡ y.first = grind (arith, nat_tests, parts.0) in
    let b : x.size ≡ y.size = grind (arith, nat_tests, parts.1) in
    ap (λ n. block_at n x.size) a ∙ ap (λ n. block_at y.first n) b

same_refl : (x : Block) → same_block x x ≡ true
same_refl x = and_from (x.first == x.first) (x.size == x.size) (grind (arith, nat_tests)) (grind (arith, nat_tests))

times_case : (b x : Block) (xs : List Block) (d : Bool) → length (cond d (x ∷ filter (same_block b) xs) (filter (same_block b) xs)) ≡ one_for d + times b xs
times_case b x xs true = omega arith
times_case b x xs false = omega arith

times_cons : (b x : Block) (xs : List Block) → times b (x ∷ xs) ≡ one_for (same_block b x) + times b xs
times_cons b x xs = times_case b x xs (same_block b x)

-- a block that is there is the first, or behind it
there_cases : (b x : Block) (xs : List Block) → 1 ≤ times b (x ∷ xs) → (b ≡ x) ⊎ (1 ≤ times b xs)
there_cases b x xs there = elim (cases_Bool (same_block b x)) [
  | inl same ↦ inl (same_true b x same)
  | inr other ↦
      let n = times_cons b x xs in
      let none : one_for (same_block b x) ≡ 0 = ap one_for other in
      inr (omega (arith, n, none, there))
]

-- each begins at or behind those before it
abbrev Rises : List Block → Type 0
Rises [] = Unit {0}
Rises (x ∷ xs) = ((b : Block) → 1 ≤ times b xs → x.first ≤ b.first) × Rises xs

behind_all : (n : ℕ) (xs : List Block) → All (λ y. n ≤ y.first) xs → (b : Block) → 1 ≤ times b xs → n ≤ b.first
behind_all n [] all b there = absurd (omega (arith, there))
behind_all n (x ∷ xs) all b there = elim (there_cases b x xs there) [
  | inl is ↦ let head = All-head (λ (y : Block). n ≤ y.first) x xs all in let at : b.first ≡ x.first = ap (λ z. z.first) is in omega (arith, head, at)
  | inr rest ↦ behind_all n xs (All-tail (λ (y : Block). n ≤ y.first) x xs all) b rest
]

-- blocks in order, and the same ones sorted, are one list
sorted_same : (xs ys : List Block) → InOrder (λ b. b.first) block_end xs → Rises ys → ((b : Block) → times b xs ≡ times b ys) → ys ≡ xs
sorted_same [] [] order rises same = refl
sorted_same [] (y ∷ ys) order rises same =
    let n = times_cons y y ys in
    let one : one_for (same_block y y) ≡ 1 = ap one_for (same_refl y) in
    let none = same y in
    absurd (omega (arith, n, one, none))
sorted_same (x ∷ xs) [] order rises same =
    let n = times_cons x x xs in
    let one : one_for (same_block x x) ≡ 1 = ap one_for (same_refl x) in
    let none = same x in
    absurd (omega (arith, n, one, none))
sorted_same (x ∷ xs) (y ∷ ys) order rises same =
    let nx = times_cons x x xs in
    let ox : one_for (same_block x x) ≡ 1 = ap one_for (same_refl x) in
    let sx = same x in
    let ny = times_cons y y ys in
    let oy : one_for (same_block y y) ≡ 1 = ap one_for (same_refl y) in
    let sy = same y in
    let heads : y ≡ x = elim (there_cases x y ys (omega (arith, nx, ox, sx))) [
      | inl is ↦ sym is
      | inr there ↦ elim (there_cases y x xs (omega (arith, ny, oy, sy))) [
        | inl is ↦ is
        | inr behind ↦
            let low = rises.0 x there in
            let far = behind_all (block_end x) xs order.1 y behind in
            let some = order.0 in
            absurd (omega (arith, low, far, some))
      ]
    ] in
    let rest : (b : Block) → times b xs ≡ times b ys = λ b.
    let u = times_cons b x xs in
    let v = times_cons b y ys in
    let w = same b in
    let h : one_for (same_block b y) ≡ one_for (same_block b x) = ap (λ z. one_for (same_block b z)) heads in
    omega (arith, u, v, w, h) in
    ap (λ z. z ∷ ys) heads ∙ ap (λ zs. x ∷ zs) (sorted_same xs ys order.2 rises.1 rest)

-- a listed block read back
abbrev block_in : Listed → Block
block_in l = block_at l.a l.s

found : (ys : List Listed) (b : Block) (d : Listed) → 1 ≤ times b (map block_in ys) → (i : ℕ) × (i < length ys) × (b ≡ block_in (slice_index_or ys i d))
found [] b d there = absurd (omega (arith, there))
found (y ∷ ys) b d there = elim (there_cases b (block_in y) (map block_in ys) there) [
  | inl is ↦ (0, omega arith, is)
  | inr rest ↦ let go = found ys b d rest in (suc go.0, (let low = go.1 in omega (arith, low)), go.2)
]

rises : (ys : List Listed) → IsNonDecreasingBy (λ l. l.a) ys → Rises (map block_in ys)
rises [] sorted = tt
rises (y ∷ ys) sorted = (
  (λ b there.
      let go = found ys b y there in
      let low = go.1 in
      let least : (slice_index_or (y ∷ ys) 0 y).a ≤ (slice_index_or (y ∷ ys) (suc go.0) y).a = sorted 0 (suc go.0) y (omega arith) (omega (arith, low)) in
      let at : b.first ≡ (slice_index_or ys go.0 y).a = ap (λ z. z.first) go.2 in
      omega (arith, least, at)),
  rises ys (λ i j d le low. sorted (suc i) (suc j) d (omega (arith, le)) (omega (arith, low))),
)

-- the blocks of a list with spots are in order where the list is
all_of : (n : ℕ) (xs : List (Spot × Block)) → All (λ y. n ≤ y.1.first) xs → All (λ y. n ≤ y.first) (map (λ x. x.1) xs)
all_of n [] all = λ k d low. absurd (omega (arith, low))
all_of n (x ∷ xs) all =
    All-cons (λ (y : Block). n ≤ y.first) x.1 (map (λ y. y.1) xs) (All-head (λ (y : Spot × Block). n ≤ y.1.first) x xs all) (all_of n xs (All-tail (λ (y : Spot × Block). n ≤ y.1.first) x xs all))

in_order : (xs : List (Spot × Block)) → InOrder (λ x. x.1.first) (λ x. block_end x.1) xs → InOrder (λ b. b.first) block_end (map (λ x. x.1) xs)
in_order [] order = tt
in_order (x ∷ xs) order = (order.0, all_of (block_end x.1) xs order.1, in_order xs order.2)

-- what holds of each live block holds of each in order of addresses

abbrev Each : (Spot × Block → Type 0) → List (Spot × Block) → Type 0
Each P [] = Unit {0}
Each P (x ∷ xs) = P x × Each P xs

each_case : (P : Spot × Block → Type 0) (x y : Spot × Block) (ys zs : List (Spot × Block)) (d : Bool) → P x → P y × Each P ys → Each P zs → Each P (cond d (x ∷ y ∷ ys) (y ∷ zs))
each_case P x y ys zs true here rest all = (here, rest)
each_case P x y ys zs false here rest all = (rest.0, all)

each_inserted : (P : Spot × Block → Type 0) (x : Spot × Block) (ys : List (Spot × Block)) → P x → Each P ys → Each P (insert_by (λ z. z.1.first) x ys)
unfolding insert_by
each_inserted P x [] here all = (here, tt)
each_inserted P x (y ∷ ys) here all = each_case P x y ys (insert_by (λ z. z.1.first) x ys) (nat_lt x.1.first y.1.first) here all (each_inserted P x ys here all.1)

each_sorted : (P : Spot × Block → Type 0) (xs : List (Spot × Block)) → Each P xs → Each P (by_address xs)
unfolding by_address
each_sorted P [] all = tt
each_sorted P (x ∷ xs) all = each_inserted P x (by_address xs) all.0 (each_sorted P xs all.1)

each_from : (P : Spot × Block → Type 0) (xs : List (Spot × Block)) → ((x : Spot × Block) → Contains xs x → P x) → Each P xs
each_from P [] all = tt
each_from P (x ∷ xs) all = (all x (0, omega arith, refl), each_from P xs (λ y there. all y (suc there.0, (let low = there.1 in omega (arith, low)), there.2)))

same_map : (f g : Spot × Block → Listed) (xs : List (Spot × Block)) → Each (λ x. f x ≡ g x) xs → map f xs ≡ map g xs
same_map f g [] all = refl
same_map f g (x ∷ xs) all = ap (λ z. z ∷ map f xs) all.0 ∙ ap (λ zs. g x ∷ zs) (same_map f g xs all.1)

module _ (p : Profile) where
  -- as a block of zone 0 is listed
  abbrev listed_first : Block → Listed
  listed_first b = listed_in p default_zone b

  maps_in_turn : (xs : List (Spot × Block)) → map (λ x. listed_first x.1) xs ≡ map listed_first (map (λ x. x.1) xs)
  maps_in_turn [] = refl
  maps_in_turn (x ∷ xs) = ap (λ zs. listed_first x.1 ∷ zs) (maps_in_turn xs)

  -- what is listed can be read back

  map_back : (bs : List Block) → map block_in (map listed_first bs) ≡ bs
  map_back [] = refl
  map_back (b ∷ bs) = ap (λ zs. b ∷ zs) (map_back bs)

  abbrev IsListed : Listed → Type 0
  IsListed y = listed_first (block_in y) ≡ y

  are_listed : (bs : List Block) → All IsListed (map listed_first bs)
  are_listed [] = λ k d low. absurd (omega (arith, low))
  are_listed (b ∷ bs) = All-cons IsListed (listed_first b) (map listed_first bs) refl (are_listed bs)

  map_forth : (ys : List Listed) → All IsListed ys → map listed_first (map block_in ys) ≡ ys
  map_forth [] all = refl
  map_forth (y ∷ ys) all = ap (λ z. z ∷ map listed_first (map block_in ys)) (All-head IsListed y ys all) ∙ ap (λ zs. y ∷ zs) (map_forth ys (All-tail IsListed y ys all))

times_sum : (b : Block) (xs : List Block) → times b xs ≡ sum_by (λ x. one_for (same_block b x)) xs
times_sum b [] = refl
times_sum b (x ∷ xs) =
    let n = times_cons b x xs in
    let v = sum_by-cons (λ (y : Block). one_for (same_block b y)) x xs in
    let ih = times_sum b xs in
    omega (arith, n, v, ih)

contains_has : (bs : List Block) (x : Block) → Contains bs x → has_block bs x ≡ true
contains_has [] x there = absurd (let low = there.1 in omega (arith, low))
contains_has (y ∷ ys) x there = elim (Contains-append_cases (y ∷ []) ys x there) [
  | inl here ↦ elim (Contains-push_cases [] y x here) [
    | inl nowhere ↦ absurd (let low = nowhere.1 in omega (arith, low))
    | inr same ↦ or-left (same_block x y) (has_block ys x) (subst (λ z. same_block z y ≡ true) same (same_refl y))
  ]
  | inr behind ↦ or-right (same_block x y) (has_block ys x) (contains_has ys x behind)
]

-- a block's range is that of its size

tiny_route : (n : ℕ) → is_size range.Tiny n ≡ true → range.Tiny ≡ route_of n
tiny_route n is = rw ((and_parts ((n % 16 == 0) && nat_le 16 n) (nat_le n 1008) is).1) refl

small_route : (n : ℕ) → is_size range.Small n ≡ true → range.Small ≡ route_of n
small_route n is =
    let parts = and_parts ((n % 512 == 0) && nat_le 1024 n) (nat_le n 32768) is in
    let least = (and_parts (n % 512 == 0) (nat_le 1024 n) parts.0).1 in
    let no : nat_le n 1008 ≡ false = grind (arith, nat_tests, least) in
    rw (no, parts.1) refl

large_route : (n : ℕ) → is_size range.Large n ≡ true → range.Large ≡ route_of n
large_route n is =
    let least = (and_parts (n % PAGE == 0) (nat_le 49152 n) is).1 in
    let no : nat_le n 1008 ≡ false = grind (arith, nat_tests, least) in
    let nor : nat_le n 32768 ≡ false = grind (arith, nat_tests, least) in
    rw (no, nor) refl

keeper_range : (k : Place) (n : ℕ) → is_size_of k n ≡ true → is_nano k ≡ false → range_of k ≡ route_of n
keeper_range Pages n is other = absurd (false≢true is)
keeper_range (Tiny z m) n is other = tiny_route n is
keeper_range (TinyDepot z) n is other = tiny_route n is
keeper_range (Small z m) n is other = small_route n is
keeper_range (SmallDepot z) n is other = small_route n is
keeper_range (Large z) n is other = large_route n is
keeper_range Nano n is other = absurd (false≢true (sym other))

no_nano_run : (k : Place) (w : ℕ) → is_length_of k w ≡ true → is_nano k ≡ false
no_nano_run Pages w is = refl
no_nano_run (Tiny z m) w is = refl
no_nano_run (TinyDepot z) w is = refl
no_nano_run (Small z m) w is = refl
no_nano_run (SmallDepot z) w is = refl
no_nano_run (Large z) w is = refl
no_nano_run Nano w is = absurd (false≢true is)

abbrev item : Block → Range → List ℕ → Listed
item b r z = record { a = b.first; s = b.size; range = r; zone = z }

-- a block that ends at nano's pages or before is listed by its size
below_nano : (p : Profile) (b : Block) → 1 ≤ b.size → block_end b ≤ nano_start p * PAGE → range_in p b ≡ route_of b.size
below_nano p b some end =
    let low : b.first < nano_start p * PAGE = omega (arith, some, end) in
    let no : nat_le (nano_start p * PAGE) b.first ≡ false = grind (arith, nat_tests, low) in
    rw no refl

-- and one that begins in them is one of nano
in_nano : (p : Profile) (b : Block) → nano_start p * PAGE ≤ b.first → range_in p b ≡ range.Nano
in_nano p b from =
    let yes : nat_le (nano_start p * PAGE) b.first ≡ true = grind (arith, nat_tests, from) in
    rw yes refl

module _ (L : ListingLaws) (p : Profile) (es : List Entry) (v : Standing) (ok : AreLawful p opening es) (one_zone : p.zones ≡ 1) (bs : List Block) (counts : AreLive bs (after_all p opening es)) (zones : v.zones ≡ (0, default_zone) ∷ []) where
  abbrev s : State
  s = after_all p opening es

  -- a live block lies in a place of zone 0 whose range is the one by which it is listed
  at_home :
      (j : Spot) (b : Block) → 1 ≤ b.size → LiesAtHome p s j b → is_size_of (place_of j) b.size ≡ true
      → (range_of (place_of j) ≡ range_in p b) × (zone_of (place_of j) ≡ 0)
  at_home (keeper_at k) b some home size =
      let length = (L.runs_fit p es ok).lengths (keeper_at k) home.0 home.1 in
      let zone = L.in_zones p es (keeper_at k) home.0 ok home.1 in
      let low = (L.separate p es ok).below_nano (keeper_at k) home.0 home.1 in
      let within = (and_parts (nat_le (home.0.first * PAGE) b.first) (nat_le (block_end b) (run_end home.0 * PAGE)) home.2).1 in
      let end : block_end b ≤ run_end home.0 * PAGE = grind (arith, nat_tests, within) in (
        keeper_range k b.size size (no_nano_run k home.0.pages length) ∙ sym (below_nano p b some (omega (arith, low, end))),
        omega (arith, zone, one_zone),
      )
  at_home (nano_page i) b some home size =
      let from = home.0 in
      let start = (and_parts (nat_le (i * PAGE) b.first) (nat_le (block_end b) ((i + 1) * PAGE)) home.2).0 in
      let low : i * PAGE ≤ b.first = grind (arith, nat_tests, start) in
      (sym (in_nano p b (omega (arith, from, low))), refl)

  zone_is : (z : ℕ) → z ≡ 0 → zone_name v z ≡ default_zone
  zone_is z first = ap (λ n. zone_name v n) first ∙ ap (λ zs. elim (find (λ (x : ℕ × List ℕ). x.0 == 0) zs) [ None ↦ [] | Some x ↦ x.1 ]) zones

  listed_so : (j : Spot) (b : Block) → has_block (kept_at s j).live b ≡ true → listed v (j, b) ≡ listed_first p b
  listed_so j b there =
      let home = at_home j b ((L.ascending p es ok).sizes j b there) ((L.separate p es ok).at_home j b there) ((L.forms p es j b ok there).size) in
      ap (λ r. item b r (zone_name v (zone_at j))) home.0 ∙ ap (λ z. item b (range_in p b) z) (zone_is (zone_at j) home.1)

  each_listed : Each (λ x. listed v x ≡ listed_first p x.1) (by_address (live_blocks s))
  each_listed = each_sorted (λ x. listed v x ≡ listed_first p x.1) (live_blocks s)
      (each_from (λ x. listed v x ≡ listed_first p x.1) (live_blocks s)
      (λ x there. listed_so x.0 x.1 (contains_has (kept_at s x.0).live x.1 (((L.by_spot s (L.once p es)).live x.0 x.1).0 there))))

  pub is_listing : (ys : List Listed) → IsPermutation (map (listed_in p default_zone) bs) ys → IsNonDecreasingBy (λ l. l.a) ys → ys ≡ listing_of v s
  is_listing ys moved sorted =
      let zs = map block_in ys in
      let live = map (λ (x : Spot × Block). x.1) (by_address (live_blocks s)) in
      let blocks_moved : IsPermutation bs zs = subst (λ xs. IsPermutation xs zs) (map_back p bs) (IsPermutation-map block_in (map (listed_first p) bs) ys moved) in
      let same : (b : Block) → times b live ≡ times b zs = λ b.
      L.in_order s b ∙ (L.counted p es b ok ∙ (sym (counts b) ∙ (times_sum b bs ∙ (sym (sum_by-IsPermutation (λ x. one_for (same_block b x)) bs zs blocks_moved) ∙ sym (times_sum b zs))))) in
      let is : zs ≡ live = sorted_same live zs (in_order (by_address (live_blocks s)) (L.ascending p es ok).all) (rises ys sorted) same in
      let back : map (listed_first p) zs ≡ ys = map_forth p ys (All-permutation (IsListed p) (map (listed_first p) bs) ys moved (are_listed p bs)) in
      sym back
      ∙ (ap (map (listed_first p)) is
      ∙ (sym (maps_in_turn p (by_address (live_blocks s)))
      ∙ sym (same_map (listed v) (λ x. listed_first p x.1) (by_address (live_blocks s)) each_listed)))
