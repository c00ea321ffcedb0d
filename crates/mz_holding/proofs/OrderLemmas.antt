-- Runs in order, by their places in the list.
use Rattle.std.proofs.Common.{◌≡◌, ℕ, ◌+◌, ◌-◌, ◌*◌, ◌<◌, ◌≤◌, true, false, List, [], ◌∷◌, length, get_or, take, drop, suc, zero, refl, sym, subst, ap, ◌∙◌, inl, inr, arith}
use Rattle.std.specs.Prelude.{map, sum_by, None}
use Rattle.std.specs.List.{All, AllWithin}
use Rattle.std.specs.List.Sorted.{IsNonDecreasingBy}
use Rattle.std.proofs.lemmas.List.{get_or-take, get_or-drop, length-take-le, length-drop}
use Rattle.std.proofs.lemmas.List.Elements.{All-nil, All-cons, All-head, All-get_or}
use Rattle.std.proofs.lemmas.List.Sums.{sum_by-cons}
use Rattle.std.proofs.lemmas.Bool.{cases_order, leb-true, leb-false}
use Rattle.std.specs.Prelude.{nat_le}
use Rattle.mz_base.specs.Lists.{run_bytes}
use Rattle.mz_holding.specs.declared.held.Held.{Held}
use Rattle.mz_holding.specs.LiveBlocks.{page_limit}
use Rattle.mz_holding.specs.HeldRuns.{run_of_held, AreRunsInOrder, HasPage}

-- each ends at or before the first page of those behind
pub order_at : (hs : List Held) (i j : ℕ) (d : Held) → AreRunsInOrder hs → i < j → j < length hs → (get_or hs i d).first + (get_or hs i d).pages ≤ (get_or hs j d).first
order_at [] i j d order less below = absurd (omega arith)
order_at (h ∷ hs) zero zero d order less below = absurd (omega arith)
order_at (h ∷ hs) zero (suc j) d order less below = All-get_or (λ g. h.first + h.pages ≤ g.first) hs j d (omega arith) order.0
order_at (h ∷ hs) (suc i) zero d order less below = absurd (omega arith)
order_at (h ∷ hs) (suc i) (suc j) d order less below = order_at hs i j d order.1 (omega arith) (omega arith)

pub not_falling : (hs : List Held) → AreRunsInOrder hs → IsNonDecreasingBy (λ h. h.first) hs
not_falling [] order i j d up below = absurd (omega arith)
not_falling (h ∷ hs) order zero zero d up below = omega arith
not_falling (h ∷ hs) order zero (suc j) d up below = let k : h.first + h.pages ≤ (get_or hs j d).first = All-get_or (λ g. h.first + h.pages ≤ g.first) hs j d (omega arith) order.0 in omega arith
not_falling (h ∷ hs) order (suc i) zero d up below = absurd (omega arith)
not_falling (h ∷ hs) order (suc i) (suc j) d up below = not_falling hs order.1 i j d (omega arith) (omega arith)

pub all_taken : (hs : List Held) (page i : ℕ) → i ≤ length hs → AllWithin (λ h. nat_le h.first page ≡ true) hs 0 i → All (λ h. h.first ≤ page) (take i hs)
all_taken hs page i within h k d below =
    let is = length-take-le i hs within in
    let short : k < i = omega arith in
    subst (λ (g : Held). g.first ≤ page) (sym (get_or-take i hs k d short)) (leb-true (get_or hs k d).first page (h k d (omega arith) short))

pub all_left_over : (hs : List Held) (page i : ℕ) → i ≤ length hs → AllWithin (λ h. nat_le h.first page ≡ false) hs i (length hs) → All (λ h. page < h.first) (drop i hs)
all_left_over hs page i within h k d below =
    let is = length-drop i hs in
    let short : i + k < length hs = omega arith in
    subst (λ (g : Held). page < g.first) (sym (get_or-drop i hs k d)) (leb-false (get_or hs (i + k) d).first page (h (i + k) d (omega arith) short))

-- where the last run that begins at or below a page ends there, no run has it
pub none_with : (hs : List Held) (page i : ℕ) (h : Held) → AreRunsInOrder hs → i < length hs → h ≡ get_or hs i h → h.first ≤ page → h.first + h.pages ≤ page → All (λ g. page < g.first) (drop (i + 1) hs) → HasPage hs page None
none_with hs page i h order within is from end above k d below = elim (cases_order k i) [
  | inl same ↦ inr (subst (λ (g : Held). g.first + g.pages ≤ page) (element k d below same) end)
  | inr other ↦ elim other [
    | inl less ↦ let before : (get_or hs k h).first + (get_or hs k h).pages ≤ (get_or hs i h).first = order_at hs k i h order less within in
        let at : (get_or hs i h).first ≡ h.first = ap (λ (g : Held). g.first) (sym is) in
        inr (subst (λ (g : Held). g.first + g.pages ≤ page) (either k h d below) (omega arith))
    | inr more ↦
        let len = length-drop (i + 1) hs in
        let up : page < (get_or (drop (i + 1) hs) (k - (i + 1)) d).first = All-get_or (λ g. page < g.first) (drop (i + 1) hs) (k - (i + 1)) d (omega arith) above in
        let at : i + 1 + (k - (i + 1)) ≡ k = omega arith in
        inl (subst (λ (g : Held). page < g.first) (get_or-drop (i + 1) hs (k - (i + 1)) d ∙ ap (λ j. get_or hs j d) at) up)
  ]
]
  where
    either : (k : ℕ) (e d : Held) → k < length hs → get_or hs k e ≡ get_or hs k d
    either k e d below = either_in hs k e d below
      where
        either_in : (xs : List Held) (k : ℕ) (e d : Held) → k < length xs → get_or xs k e ≡ get_or xs k d
        either_in [] k e d below = absurd (omega arith)
        either_in (x ∷ xs) zero e d below = refl
        either_in (x ∷ xs) (suc k) e d below = either_in xs k e d (omega arith)

    element : (k : ℕ) (d : Held) → k < length hs → k ≡ i → h ≡ get_or hs k d
    element k d below same = is ∙ ap (λ j. get_or hs j h) (sym same) ∙ either k h d below

-- SUM: runs in order have no more pages than the limit
pages_fit : (m : ℕ) (hs : List Held) → m ≤ page_limit → AreRunsInOrder hs → All (λ h. m ≤ h.first) hs → m * 16384 + sum_by run_bytes (map run_of_held hs) ≤ page_limit * 16384
pages_fit m [] most order from = omega arith
pages_fit m (h ∷ hs) most order from =
    let limit = h.sound.1 in
    let low : m ≤ h.first = All-head (λ g. m ≤ g.first) h hs from in
    let rest = pages_fit (h.first + h.pages) hs limit order.1 order.0 in
    let split = sum_by-cons run_bytes (run_of_held h) (map run_of_held hs) in
    omega arith

pub total_fits : (hs : List Held) → AreRunsInOrder hs → sum_by run_bytes (map run_of_held hs) ≤ page_limit * 16384
total_fits hs order = let fits = pages_fit 0 hs (omega arith) order (from_zero hs) in omega arith
  where
    from_zero : (xs : List Held) → All (λ h. 0 ≤ h.first) xs
    from_zero [] = All-nil (λ (h : Held). 0 ≤ h.first)
    from_zero (x ∷ xs) = All-cons (λ (h : Held). 0 ≤ h.first) x xs (omega arith) (from_zero xs)

-- the bytes of the runs from an index on, and the last of the first ones
pub sum_from : (hs : List Held) (i : ℕ) (h : Held) → i < length hs → h ≡ get_or hs i h → sum_by run_bytes (map run_of_held (drop i hs)) ≡ h.pages * 16384 + sum_by run_bytes (map run_of_held (drop (suc i) hs))
sum_from [] i h below is = absurd (omega arith)
sum_from (x ∷ xs) zero h below is = sum_by-cons run_bytes (run_of_held x) (map run_of_held xs) ∙ ap (λ (g : Held). g.pages * 16384 + sum_by run_bytes (map run_of_held xs)) (sym is)
sum_from (x ∷ xs) (suc i) h below is = sum_from xs i h (omega arith) is

pub taken_last : (hs : List Held) (page n : ℕ) (h : Held) → 0 < n → n ≤ length hs → h ≡ get_or hs (n - 1) h → All (λ g. g.first ≤ page) (take n hs) → h.first ≤ page
taken_last hs page n h some within is below =
    let len = length-take-le n hs within in
    subst (λ (g : Held). g.first ≤ page) (get_or-take n hs (n - 1) h (omega arith) ∙ sym is) (All-get_or (λ g. g.first ≤ page) (take n hs) (n - 1) h (omega arith) below)
