-- Slots of nano's pages: where they lie, and what lists have of them.
use Rattle.std.proofs.Common.{◌≡◌, ◌≢◌, ℕ, ◌==◌, Bool, true, false, cond, not, ◌<◌, List, [], ◌∷◌, ◌++◌, ◌≤◌, ◌+◌, ◌-◌, ◌*◌, ◌/◌, ◌%◌, arith, refl, ap, sym, ◌∙◌, mul_comm, inl, inr}
use Rattle.std.specs.Prelude.{◌&&◌, ◌||◌, map, nat_lt, nat_le}
use Rattle.std.specs.List.{list_any}
use Rattle.std.proofs.lemmas.Bool.{cases_Bool, and_parts, false≢true}
use Rattle.std.proofs.lemmas.Bool.Decides.{nat_tests}
use Rattle.std.proofs.lemmas.Nat.{div-mul-add, mod-mul-add, mul-add-lt, div-add-mod'}
use Rattle.mz_base.specs.declared.range.TheConstants.{PAGE}
use Rattle.mz_base.specs.declared.profile.Profile.{Profile}
use Rattle.mz_base.specs.Space.{Block, block_at, block_end, blocks_apart, same_block, page_of, run_at, run_end}
use Rattle.mz_base.specs.Lists.{has_block, drop_block, add_block, insert_by}
use Rattle.mz_base.specs.Room.{lies_in}
use Rattle.mz_events.specs.Places.{Spot, keeper_at, nano_page, nano_start}
use Rattle.mz_events.specs.State.{State}
use Rattle.mz_events.specs.Separation.{IsSeparate, LiesAtHome}
use Rattle.mz_book.specs.Lights.{page_of_block, slot_address, slot_number}
use Rattle.mz_book.proofs.OwnerLemmas.{same_true, same_refl}
use Rattle.mz_book.proofs.ListLemmas.{or_elim, or_left, or_right}

-- the block is the slot j of the page of nano's block b
abbrev pub slot_test : Profile → ℕ → ℕ → Block → Bool
slot_test p b j x = (page_of x.first == page_of_block p b) && (slot_number x == j)

-- lists and tests

pub added_case : {A : Type 0} (test : A → Bool) (x y : A) (ys zs : List A) (d : Bool) → list_any test zs ≡ (test x || list_any test ys) → list_any test (cond d (x ∷ y ∷ ys) (y ∷ zs)) ≡ (test x || (test y || list_any test ys))
added_case test x y ys zs true h = refl
added_case test x y ys zs false h = ap (λ q. test y || q) h ∙ swap (test y) (test x) (list_any test ys)
  where
    swap : (u v w : Bool) → (u || (v || w)) ≡ (v || (u || w))
    swap true true w = refl
    swap true false w = refl
    swap false v w = refl

pub any_added : (test : Block → Bool) (x : Block) (bs : List Block) → list_any test (add_block x bs) ≡ (test x || list_any test bs)
unfolding insert_by
any_added test x [] = refl
any_added test x (y ∷ ys) = added_case test x y ys (add_block x ys) (nat_lt x.first y.first) (any_added test x ys)

dropped_case : (test : Block → Bool) (x y : Block) (ys zs : List Block) (d : Bool) → same_block x y ≡ d → test x ≡ false → list_any test zs ≡ list_any test ys → list_any test (cond (not d) (y ∷ zs) zs) ≡ (test y || list_any test ys)
dropped_case test x y ys zs true e n h = let z : test y ≡ false = ap test (sym (same_true x y e)) ∙ n in rw z h
dropped_case test x y ys zs false e n h = ap (λ q. test y || q) h

pub any_dropped : (test : Block → Bool) (x : Block) (bs : List Block) → test x ≡ false → list_any test (drop_block x bs) ≡ list_any test bs
any_dropped test x [] n = refl
any_dropped test x (y ∷ ys) n = dropped_case test x y ys (drop_block x ys) (same_block x y) refl n (any_dropped test x ys n)

pub any_snoc : {A : Type 0} (test : A → Bool) (xs : List A) (y : A) → list_any test (xs ++ y ∷ []) ≡ (list_any test xs || test y)
any_snoc test [] y = or_none (test y)
  where
    or_none : (b : Bool) → (b || false) ≡ b
    or_none true = refl
    or_none false = refl
any_snoc test (x ∷ xs) y = ap (λ q. test x || q) (any_snoc test xs y) ∙ again (test x) (list_any test xs) (test y)
  where
    again : (a b d : Bool) → (a || (b || d)) ≡ ((a || b) || d)
    again true b d = refl
    again false b d = refl

pub map_has : (f : Block → Block) (x : Block) (bs : List Block) → f x ≡ x → has_block bs x ≡ true → has_block (map f bs) x ≡ true
map_has f x [] e h = absurd (false≢true h)
map_has f x (y ∷ ys) e h =
    or_elim (same_block x y) (has_block ys x)
    (λ q. or_left (same_block x (f y)) (has_block (map f ys) x) (ap (same_block x) (ap f (sym (same_true x y q)) ∙ e) ∙ same_refl x))
    (λ q. or_right (same_block x (f y)) (has_block (map f ys) x) (map_has f x ys e q)) h

-- numbers

-- the slots of a block fit into its page
pub slot_end : (j n : ℕ) → 1 ≤ n → j < PAGE / n → j * n + n ≤ PAGE
slot_end j n some l =
    let m : j * n + (n - 1) < n * (PAGE / n) = mul-add-lt j n (n - 1) (PAGE / n) l (omega arith) in
    let d = div-add-mod' PAGE n in
    let e : n * (PAGE / n) ≡ PAGE / n * n = mul_comm n (PAGE / n) in
    omega arith

-- one slot ends before another begins
pub slot_before : (i j n : ℕ) → 1 ≤ n → i < j → i * n + n ≤ j * n
slot_before i j n some l =
    let m : i * n + (n - 1) < n * j = mul-add-lt i n (n - 1) j l (omega arith) in
    let e : n * j ≡ j * n = mul_comm n j in
    omega arith

pub div_whole : (j n : ℕ) → 1 ≤ n → j * n / n ≡ j
div_whole j n some = let e : j * n ≡ j * n + 0 = omega arith in ap (λ x. x / n) e ∙ div-mul-add j n 0 (omega arith)

pub mod_whole : (j n : ℕ) → 1 ≤ n → j * n % n ≡ 0
mod_whole j n some = let e : j * n ≡ j * n + 0 = omega arith in ap (λ x. x % n) e ∙ mod-mul-add j n 0 (omega arith)

pub page_div : (i u : ℕ) → u < PAGE → (i * PAGE + u) / PAGE ≡ i
page_div i u l = div-mul-add i PAGE u l

pub page_mod : (i u : ℕ) → u < PAGE → (i * PAGE + u) % PAGE ≡ u
page_mod i u l = mod-mul-add i PAGE u l

-- a block that lies in a page
pub page_at : (i : ℕ) (x : Block) → 1 ≤ x.size → lies_in (run_at i 1) x.first (block_end x) ≡ true → page_of x.first ≡ i
page_at i x some h =
    let t = and_parts (nat_le (i * PAGE) x.first) (nat_le (block_end x) ((i + 1) * PAGE)) h in
    let a : i * PAGE ≤ x.first = grind (arith, nat_tests, t.0) in
    let b : block_end x ≤ (i + 1) * PAGE = grind (arith, nat_tests, t.1) in
    let u : x.first - i * PAGE < PAGE = omega arith in
    let e : i * PAGE + (x.first - i * PAGE) ≡ x.first = omega arith in
    ap (λ y. y / PAGE) (sym e) ∙ page_div i (x.first - i * PAGE) u

-- a live block whose page is one of nano's is at that page
pub spot_is : (p : Profile) (s : State) (j : Spot) (x : Block) → IsSeparate p s → 1 ≤ x.size → nano_start p ≤ page_of x.first → LiesAtHome p s j x → j ≡ nano_page (page_of x.first)
spot_is p s (keeper_at k) x sep some n h =
    let below = sep.below_nano (keeper_at k) h.0 h.1 in
    let t = and_parts (nat_le (h.0.first * PAGE) x.first) (nat_le (block_end x) (run_end h.0 * PAGE)) h.2 in
    let b : block_end x ≤ run_end h.0 * PAGE = grind (arith, nat_tests, t.1) in
    absurd (omega arith)
spot_is p s (nano_page i) x sep some n h = ap nano_page (sym (page_at i x some h.2))

-- a whole slot of its page begins where its number says
pub slot_first : (x : Block) → x.first % PAGE % x.size ≡ 0 → x.first ≡ page_of x.first * PAGE + slot_number x * x.size
slot_first x whole =
    let d = div-add-mod' (x.first % PAGE) x.size in
    let e = div-add-mod' x.first PAGE in
    omega arith

pub slot_once : (x y : Block) → x.first % PAGE % x.size ≡ 0 → y.first % PAGE % y.size ≡ 0 → x.size ≡ y.size → page_of x.first ≡ page_of y.first → slot_number x ≡ slot_number y → x ≡ y
slot_once x y wx wy size page number =
    let a : page_of x.first * PAGE + slot_number x * x.size ≡ page_of y.first * PAGE + slot_number y * y.size = ap (λ i. i * PAGE + slot_number x * x.size) page ∙ (ap (λ i. page_of y.first * PAGE + i * x.size) number ∙ ap (λ i. page_of y.first * PAGE + slot_number y * i) size) in
    let first : x.first ≡ y.first = slot_first x wx ∙ (a ∙ sym (slot_first y wy)) in
    ap (λ i. block_at i x.size) first ∙ ap (block_at y.first) size

pub slots_apart : (x y : Block) → 1 ≤ x.size → x.first % PAGE % x.size ≡ 0 → y.first % PAGE % y.size ≡ 0 → x.size ≡ y.size → page_of x.first ≡ page_of y.first → slot_number x ≢ slot_number y → blocks_apart x y ≡ true
slots_apart x y some wx wy size page other =
    let fx = slot_first x wx in
    let fy : y.first ≡ page_of x.first * PAGE + slot_number y * x.size = slot_first y wy ∙ (ap (λ i. i * PAGE + slot_number y * y.size) (sym page) ∙ ap (λ i. page_of x.first * PAGE + slot_number y * i) (sym size)) in
    elim (cases_Bool (nat_lt (slot_number x) (slot_number y))) [
      | inl l ↦
          let b = slot_before (slot_number x) (slot_number y) x.size some (grind (arith, nat_tests, l)) in
          let q : nat_le (block_end x) y.first ≡ true = grind (arith, nat_tests) in
          or_left (nat_le (block_end x) y.first) (nat_le (block_end y) x.first) q
      | inr l ↦
          let m : slot_number y ≤ slot_number x = grind (arith, nat_tests, l) in
          let less : slot_number y < slot_number x = omega (arith, m, other) in
          let b = slot_before (slot_number y) (slot_number x) x.size some less in
          let q : nat_le (block_end y) x.first ≡ true = grind (arith, nat_tests) in
          or_right (nat_le (block_end x) y.first) (nat_le (block_end y) x.first) q
    ]

-- a new slot's own numbers
module _ (p : Profile) (b j n a : ℕ) (some : 1 ≤ n) (there : j < PAGE / n) (at : a ≡ slot_address p b j n) where
  small : j * n < PAGE
  small = let e = slot_end j n some there in omega arith

  pub new_page : page_of a ≡ page_of_block p b
  new_page = ap (λ x. x / PAGE) at ∙ page_div (page_of_block p b) (j * n) small

  pub new_rest : a % PAGE ≡ j * n
  new_rest = ap (λ x. x % PAGE) at ∙ page_mod (page_of_block p b) (j * n) small

  pub new_number : slot_number (block_at a n) ≡ j
  new_number = ap (λ x. x / n) new_rest ∙ div_whole j n some

  pub new_whole : a % PAGE % n ≡ 0
  new_whole = ap (λ x. x % n) new_rest ∙ mod_whole j n some
