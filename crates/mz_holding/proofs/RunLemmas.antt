-- Runs in order, with the blocks in them: what the run that has an address says of its blocks, the place says of all.
use Rattle.std.proofs.Common.{◌≡◌, ℕ, ◌+◌, ◌*◌, ◌/◌, ◌<◌, ◌≤◌, ◌⊎◌, Bool, true, false, List, [], ◌∷◌, ◌++◌, refl, sym, subst, ap, ◌∙◌, inl, inr, arith}
use Rattle.std.specs.Prelude.{◌&&◌, ◌||◌, ◌==◌, nat_le, IsTrue, map, Option, None}
use Rattle.std.specs.List.{All, Contains, list_any, list_all}
use Rattle.std.specs.Option.{option_map}
use Rattle.std.proofs.lemmas.Bool.{and_parts, or_cases, or_left, or_right, or_from, false≢true, false_from_ne_true, leb-true}
use Rattle.std.proofs.lemmas.List.Elements.{All-head, All-tail, All-append, All-weaker, All-contains}
use Rattle.mz_base.specs.declared.range.TheConstants.{PAGE}
use Rattle.mz_base.specs.Space.{Block, Run, block_at, block_end, run_end, blocks_apart, same_block}
use Rattle.mz_base.specs.Lists.{has_block}
use Rattle.mz_base.specs.Room.{lies_in, has_room, is_front_of, is_at_front}
use Rattle.mz_holding.specs.declared.extent.Extent.{Extent}
use Rattle.mz_holding.specs.declared.held.Held.{Held}
use Rattle.mz_holding.specs.Gaps.{AreSpread}
use Rattle.mz_holding.specs.HeldRuns.{block_of, run_of_held, live_of_held, live_in_runs, AreRunsInOrder, HasPage}
use Rattle.mz_holding.proofs.NeighbourLemmas.{spread_bytes}
use Rattle.mz_holding.proofs.InOrder.{IsIn, all_in, all_from_in, any_in, in_any}
use Rattle.mz_holding.proofs.GapLemmas.{bool_same, all_has, all_from_has, front_lies}
use Rattle.mz_holding.proofs.PartLemmas.{IsPart, and_same, all_apart_part, all_but_part, room_part, front_part, part_beside}
use Rattle.mz_holding.proofs.HeldLemmas.{beside, bytes_within}

-- an element is in the list
pub contains_in : {A : Type 0} (xs : List A) (x : A) → Contains xs x → IsIn x xs
contains_in {A} xs x h = All-contains (λ y. IsIn y xs) xs x (all_from_in (λ y. IsIn y xs) xs (λ y there. there)) h

-- a block of a run lies between its first byte and its end
pub lies_there : (h : Held) (c : Block) → has_block (live_of_held h) c ≡ true → (h.first * PAGE ≤ c.first) × (block_end c ≤ (h.first + h.pages) * PAGE)
lies_there h c there =
    let lies : IsTrue (lies_in (run_of_held h) c.first (block_end c)) = all_has (λ b. IsTrue (lies_in (run_of_held h) b.first (block_end b))) (live_of_held h) c h.sound.2 there in
    let parts = and_parts (nat_le (h.first * PAGE) c.first) (nat_le (block_end c) ((h.first + h.pages) * PAGE)) lies in
    (leb-true (h.first * PAGE) c.first parts.0, leb-true (block_end c) ((h.first + h.pages) * PAGE) parts.1)

pub has_append : (xs ys : List Block) (c : Block) → has_block (xs ++ ys) c ≡ true → (has_block xs c ≡ true) ⊎ (has_block ys c ≡ true)
has_append [] ys c h = inr h
has_append (x ∷ xs) ys c h = elim (or_cases (same_block c x) (has_block (xs ++ ys) c) h) [
  | inl here ↦ inl (or_left (same_block c x) (has_block xs c) here)
  | inr later ↦ elim (has_append xs ys c later) [ inl left ↦ inl (or_right (same_block c x) (has_block xs c) left) | inr right ↦ inr right ]
]

pub append_left : (xs ys : List Block) (c : Block) → has_block xs c ≡ true → has_block (xs ++ ys) c ≡ true
append_left [] ys c h = absurd (false≢true h)
append_left (x ∷ xs) ys c h = elim (or_cases (same_block c x) (has_block xs c) h) [
  | inl here ↦ or_left (same_block c x) (has_block (xs ++ ys) c) here
  | inr later ↦ or_right (same_block c x) (has_block (xs ++ ys) c) (append_left xs ys c later)
]

pub append_right : (xs ys : List Block) (c : Block) → has_block ys c ≡ true → has_block (xs ++ ys) c ≡ true
append_right [] ys c h = h
append_right (x ∷ xs) ys c h = or_right (same_block c x) (has_block (xs ++ ys) c) (append_right xs ys c h)

-- a live block of all is one of some run, and the other way round
pub in_some_run : (hs : List Held) (c : Block) → has_block (live_in_runs hs) c ≡ true → (h : Held) × IsIn h hs × (has_block (live_of_held h) c ≡ true)
in_some_run [] c there = absurd (false≢true there)
in_some_run (h ∷ hs) c there = elim (has_append (live_of_held h) (live_in_runs hs) c there) [
  | inl here ↦ (h, inl refl, here)
  | inr later ↦ let g = in_some_run hs c later in (g.0, inr g.1, g.2)
]

pub in_run : (hs : List Held) (h : Held) (c : Block) → IsIn h hs → has_block (live_of_held h) c ≡ true → has_block (live_in_runs hs) c ≡ true
in_run [] h c isin there = absurd isin
in_run (g ∷ hs) h c (inl is) there = append_left (live_of_held g) (live_in_runs hs) c (subst (λ x. has_block (live_of_held x) c ≡ true) is there)
in_run (g ∷ hs) h c (inr later) there = append_right (live_of_held g) (live_in_runs hs) c (in_run hs h c later there)

-- two of them are one or apart
pub runs_beside : (hs : List Held) (g h : Held) → AreRunsInOrder hs → IsIn g hs → IsIn h hs → (g ≡ h) ⊎ ((g.first + g.pages ≤ h.first) ⊎ (h.first + h.pages ≤ g.first))
runs_beside [] g h order one two = absurd one
runs_beside (x ∷ hs) g h order (inl one) (inl two) = inl (one ∙ sym two)
runs_beside (x ∷ hs) g h order (inl one) (inr two) = inr (inl (subst (λ y. y.first + y.pages ≤ h.first) (sym one) (all_in (λ y. x.first + x.pages ≤ y.first) hs h order.0 two)))
runs_beside (x ∷ hs) g h order (inr one) (inl two) = inr (inr (subst (λ y. y.first + y.pages ≤ g.first) (sym two) (all_in (λ y. x.first + x.pages ≤ y.first) hs g order.0 one)))
runs_beside (x ∷ hs) g h order (inr one) (inr two) = runs_beside hs g h order.1 one two

-- PART: the blocks of a run are those of all that don't lie outside of it
pub part_of_run : (hs : List Held) (h : Held) → AreRunsInOrder hs → IsIn h hs → IsPart (h.first * PAGE) ((h.first + h.pages) * PAGE) (live_in_runs hs) (live_of_held h)
part_of_run hs h order isin = record {
  forth = λ c there. in_run hs h c isin there;
  back = λ c there.
      let g = in_some_run hs c there in
      let lies = lies_there g.0 c g.2 in
      let from = lies.0 in
      let to = lies.1 in
      elim (runs_beside hs g.0 h order g.1 isin) [
        | inl same ↦ inl (subst (λ x. has_block (live_of_held x) c ≡ true) same g.2)
        | inr apart ↦ inr (elim apart [ inl before ↦ inl (omega arith) | inr after ↦ inr (omega arith) ])
      ];
}

spread_append : (m : ℕ) (xs ys : List Block) → AreSpread xs → AreSpread ys → All (λ c. block_end c ≤ m) xs → All (λ c. m ≤ c.first) ys → AreSpread (xs ++ ys)
spread_append m [] ys one two up down = two
spread_append m (x ∷ xs) ys one two up down =
    let most : block_end x ≤ m = All-head (λ c. block_end c ≤ m) x xs up in (
      one.0,
      one.1,
      All-append (λ c. block_end x ≤ c.first) xs ys one.2 (All-weaker (λ c. m ≤ c.first) (λ c. block_end x ≤ c.first) (λ c k. let more : m ≤ c.first = k in omega arith) ys down),
      spread_append m xs ys one.3 two (All-tail (λ c. block_end c ≤ m) x xs up) down,
    )

-- SPREAD: all live blocks are in ascending order and apart
pub live_spread : (hs : List Held) → AreRunsInOrder hs → AreSpread (live_in_runs hs)
live_spread [] order = tt
live_spread (h ∷ hs) order = spread_append ((h.first + h.pages) * PAGE) (live_of_held h) (live_in_runs hs) h.blocks.spread (live_spread hs order.1)
    (all_from_has (λ c. block_end c ≤ (h.first + h.pages) * PAGE) (live_of_held h) (λ c there. (lies_there h c there).1))
    (all_from_has (λ c. (h.first + h.pages) * PAGE ≤ c.first) (live_in_runs hs) (λ c there.
    let g = in_some_run hs c there in
    let from = (lies_there g.0 c g.2).0 in
    let less : h.first + h.pages ≤ g.0.first = all_in (λ x. h.first + h.pages ≤ x.first) hs g.0 order.0 g.1 in
    omega arith))

pub any_map : (test : Run → Bool) (hs : List Held) → list_any test (map run_of_held hs) ≡ list_any (λ h. test (run_of_held h)) hs
any_map test [] = refl
any_map test (h ∷ hs) = ap (λ t. test (run_of_held h) || t) (any_map test hs)

-- a test that only one run can pass, or none
pub any_run : (hs : List Held) (h : Held) (test : Run → Bool) → IsIn h hs → ((g : Held) → IsIn g hs → test (run_of_held g) ≡ true → g ≡ h) → list_any test (map run_of_held hs) ≡ test (run_of_held h)
any_run hs h test isin only = bool_same (list_any test (map run_of_held hs)) (test (run_of_held h))
    (λ yes_. let g = any_in (λ x. test (run_of_held x)) hs (sym (any_map test hs) ∙ yes_) in subst (λ x. test (run_of_held x) ≡ true) (only g.0 g.1 g.2) g.2)
    (λ yes_. any_map test hs ∙ in_any (λ x. test (run_of_held x)) hs h isin yes_)

pub no_run : (hs : List Held) (test : Run → Bool) → ((g : Held) → IsIn g hs → test (run_of_held g) ≡ true → ⊥) → list_any test (map run_of_held hs) ≡ false
no_run hs test none = false_from_ne_true (list_any test (map run_of_held hs)) (λ yes_. let g = any_in (λ x. test (run_of_held x)) hs (sym (any_map test hs) ∙ yes_) in none g.0 g.1 g.2)

-- the address is one of the run
abbrev pub HasByte : Held → ℕ → Type 0
HasByte h a = (h.first * PAGE ≤ a) × (a < (h.first + h.pages) * PAGE)

pub byte_of_page : (h : Held) (a : ℕ) → h.first ≤ a / PAGE → a / PAGE < h.first + h.pages → HasByte h a
byte_of_page h a from to = (omega arith, omega arith)

lies_parts : (r : Run) (x y : ℕ) → lies_in r x y ≡ true → (r.first * PAGE ≤ x) × (y ≤ run_end r * PAGE)
lies_parts r x y h = let parts = and_parts (nat_le (r.first * PAGE) x) (nat_le y (run_end r * PAGE)) h in (leb-true (r.first * PAGE) x parts.0, leb-true y (run_end r * PAGE) parts.1)

-- bytes from an address of a run on lie in no other
pub only_holder : (hs : List Held) (h g : Held) (a y : ℕ) → AreRunsInOrder hs → IsIn h hs → HasByte h a → IsIn g hs → lies_in (run_of_held g) a y ≡ true → a < y → g ≡ h
only_holder hs h g a y order isin byte there lies more =
    let parts = lies_parts (run_of_held g) a y lies in
    let from = parts.0 in
    let to = parts.1 in
    let low = byte.0 in
    let high = byte.1 in
    elim (runs_beside hs g h order there isin) [
      | inl same ↦ same
      | inr apart ↦ elim apart [ inl before ↦ absurd (omega arith) | inr after ↦ absurd (omega arith) ]
    ]

no_holder : (hs : List Held) (g : Held) (a y : ℕ) → HasPage hs (a / PAGE) None → IsIn g hs → lies_in (run_of_held g) a y ≡ true → a < y → ⊥
no_holder hs g a y none there lies more =
    let parts = lies_parts (run_of_held g) a y lies in
    let from = parts.0 in
    let to = parts.1 in
    elim (all_in (λ h. (a / PAGE < h.first) ⊎ (h.first + h.pages ≤ a / PAGE)) hs g none there) [ inl before ↦ omega arith | inr after ↦ omega arith ]

module _ (hs : List Held) (a n : ℕ) (order : AreRunsInOrder hs) (some : 1 ≤ n) where
  abbrev lies_somewhere : Bool
  lies_somewhere = list_any (λ r. lies_in r a (a + n)) (map run_of_held hs)

  abbrev all_apart : List Block → Bool
  all_apart live = list_all (λ c. blocks_apart c (block_at a n)) live

  abbrev all_but : List Block → Bool
  all_but live = list_all (λ c. (c.first == a) || blocks_apart c (block_at a n)) live

  pub lies_nowhere : HasPage hs (a / PAGE) None → lies_somewhere ≡ false
  lies_nowhere none = no_run hs (λ r. lies_in r a (a + n)) (λ g there yes_. no_holder hs g a (a + n) none there yes_ (omega arith))

  pub lies_here : (h : Held) → IsIn h hs → HasByte h a → lies_somewhere ≡ lies_in (run_of_held h) a (a + n)
  lies_here h isin byte = any_run hs h (λ r. lies_in r a (a + n)) isin (λ g there yes_. only_holder hs h g a (a + n) order isin byte there yes_ (omega arith))

  -- CLEAR: the bytes lie in one run and meet no block exactly where this is so of the run that has their first address
  pub clear_here : (h : Held) → IsIn h hs → HasByte h a → (lies_in (run_of_held h) a (a + n) && all_apart (live_of_held h)) ≡ (lies_somewhere && all_apart (live_in_runs hs))
  clear_here h isin byte =
      sym (ap (λ t. t && all_apart (live_in_runs hs)) (lies_here h isin byte)
      ∙ and_same (lies_in (run_of_held h) a (a + n)) (all_apart (live_in_runs hs)) (all_apart (live_of_held h))
      (λ yes_. let parts = lies_parts (run_of_held h) a (a + n) yes_ in all_apart_part (h.first * PAGE) ((h.first + h.pages) * PAGE) (live_in_runs hs) (live_of_held h) (part_of_run hs h order isin) (block_at a n) parts.0 parts.1))

  pub clear_but_here : (h : Held) → IsIn h hs → HasByte h a → (lies_in (run_of_held h) a (a + n) && all_but (live_of_held h)) ≡ (lies_somewhere && all_but (live_in_runs hs))
  clear_but_here h isin byte =
      sym (ap (λ t. t && all_but (live_in_runs hs)) (lies_here h isin byte)
      ∙ and_same (lies_in (run_of_held h) a (a + n)) (all_but (live_in_runs hs)) (all_but (live_of_held h))
      (λ yes_. let parts = lies_parts (run_of_held h) a (a + n) yes_ in all_but_part (h.first * PAGE) ((h.first + h.pages) * PAGE) (live_in_runs hs) (live_of_held h) (part_of_run hs h order isin) a (block_at a n) parts.0 parts.1))

  pub clear_nowhere : (t : Bool) → HasPage hs (a / PAGE) None → false ≡ (lies_somewhere && t)
  clear_nowhere t none = sym (ap (λ l. l && t) (lies_nowhere none))

  module _ (al : ℕ) (whole : 1 ≤ al) (freed : Option Extent) where
    front_here : (h : Held) (live own : List Block) → IsIn h hs → HasByte h a → IsPart (h.first * PAGE) ((h.first + h.pages) * PAGE) live own → is_at_front (map run_of_held hs) live (block_at a n) al ≡ is_front_of (run_of_held h) own (block_at a n) al
    front_here h live own isin byte part =
        any_run hs h (λ r. is_front_of r live (block_at a n) al) isin (λ g there yes_. only_holder hs h g a (a + n) order isin byte there (front_lies (run_of_held g) live (block_at a n) al whole yes_) (omega arith))
        ∙ front_part (h.first * PAGE) ((h.first + h.pages) * PAGE) live own part n al some whole a

    front_none : (live : List Block) → HasPage hs (a / PAGE) None → is_at_front (map run_of_held hs) live (block_at a n) al ≡ false
    front_none live none = no_run hs (λ r. is_front_of r live (block_at a n) al) (λ g there yes_. no_holder hs g a (a + n) none there (front_lies (run_of_held g) live (block_at a n) al whole yes_) (omega arith))

    abbrev at_front : Bool
    at_front = is_at_front (map run_of_held hs) (live_in_runs hs) (block_at a n) al || is_at_front (map run_of_held hs) (beside freed (live_in_runs hs)) (block_at a n) al

    -- FRONT: in either reading a block is at a front exactly where it is at one of the run that has its address
    pub fronts_here : (h : Held) → IsIn h hs → HasByte h a → (is_front_of (run_of_held h) (live_of_held h) (block_at a n) al || is_front_of (run_of_held h) (beside freed (live_of_held h)) (block_at a n) al) ≡ at_front
    fronts_here h isin byte =
        let part = part_of_run hs h order isin in
        ap (λ t. t || is_front_of (run_of_held h) (beside freed (live_of_held h)) (block_at a n) al) (sym (front_here h (live_in_runs hs) (live_of_held h) isin byte part))
        ∙ ap (λ t. is_at_front (map run_of_held hs) (live_in_runs hs) (block_at a n) al || t) (sym (front_here h (beside freed (live_in_runs hs)) (beside freed (live_of_held h)) isin byte (part_beside (h.first * PAGE) ((h.first + h.pages) * PAGE) (live_in_runs hs) (live_of_held h) (option_map block_of freed) part)))

    pub fronts_nowhere : HasPage hs (a / PAGE) None → false ≡ at_front
    fronts_nowhere none = sym (or_from (is_at_front (map run_of_held hs) (live_in_runs hs) (block_at a n) al) (is_at_front (map run_of_held hs) (beside freed (live_in_runs hs)) (block_at a n) al) (front_none (live_in_runs hs) none) (front_none (beside freed (live_in_runs hs)) none))

-- LIVE: a block is live exactly where it is so in the run that has its address
pub live_here : (hs : List Held) (h : Held) (c : Block) → AreRunsInOrder hs → IsIn h hs → HasByte h c.first → has_block (live_of_held h) c ≡ has_block (live_in_runs hs) c
live_here hs h c order isin byte = bool_same (has_block (live_of_held h) c) (has_block (live_in_runs hs) c)
    (λ there. in_run hs h c isin there)
    (λ there.
    let part = part_of_run hs h order isin in
    let one : 1 ≤ c.size = all_has (λ b. 1 ≤ b.size) (live_in_runs hs) c (spread_bytes (live_in_runs hs) (live_spread hs order)) there in
    let low = byte.0 in
    let high = byte.1 in
    elim (part.back c there) [
      | inl mine ↦ mine
      | inr out ↦ elim out [ inl before ↦ absurd (omega arith) | inr behind ↦ absurd (omega arith) ]
    ])

pub live_nowhere : (hs : List Held) (c : Block) → AreRunsInOrder hs → HasPage hs (c.first / PAGE) None → false ≡ has_block (live_in_runs hs) c
live_nowhere hs c order none = sym (false_from_ne_true (has_block (live_in_runs hs) c) (λ there.
    let g = in_some_run hs c there in
    let lies = lies_there g.0 c g.2 in
    let from = lies.0 in
    let to = lies.1 in
    let one : 1 ≤ c.size = all_has (λ b. 1 ≤ b.size) (live_in_runs hs) c (spread_bytes (live_in_runs hs) (live_spread hs order)) there in
    elim (all_in (λ h. (c.first / PAGE < h.first) ⊎ (h.first + h.pages ≤ c.first / PAGE)) hs g.0 none g.1) [ inl before ↦ omega arith | inr after ↦ omega arith ]))

-- ROOM: a run has room among all blocks exactly where it has room among its own
pub room_here : (hs : List Held) (h : Held) (n al : ℕ) → AreRunsInOrder hs → 1 ≤ n → 1 ≤ al → IsIn h hs → has_room (run_of_held h) (live_in_runs hs) n al ≡ has_room (run_of_held h) (live_of_held h) n al
room_here hs h n al order some whole isin = room_part (h.first * PAGE) ((h.first + h.pages) * PAGE) (live_in_runs hs) (live_of_held h) (part_of_run hs h order isin) n al some whole

-- the live bytes of a run are no more than its bytes
pub used_within : (h : Held) → h.used ≤ h.pages * PAGE
used_within h =
    let limit = h.sound.1 in
    let is = h.sound.3 in
    let fits = bytes_within (h.first * PAGE) ((h.first + h.pages) * PAGE) (live_of_held h) h.blocks.spread (omega arith) (λ c there. lies_there h c there) in
    omega arith
