-- What a place keeps, part by part, as it changes.
use Rattle.std.proofs.Common.{◌≡◌, ℕ, ◌+◌, ◌-◌, ◌*◌, ◌≤◌, Bool, true, List, [], ◌∷◌, refl, sym, subst, ap, ◌∙◌, inl, inr, arith}
use Rattle.std.specs.Prelude.{map, filter, sum_by, Option, Some, None}
use Rattle.std.specs.Option.{IfSome}
use Rattle.std.proofs.lemmas.Bool.{cases_Bool}
use Rattle.mz_base.specs.Space.{Block, Run, block_at}
use Rattle.mz_base.specs.Lists.{has_block, add_block, drop_block, size_sum}
use Rattle.mz_events.specs.State.{Kept}
use Rattle.mz_holding.specs.declared.extent.Extent.{Extent}
use Rattle.mz_holding.specs.declared.held.Held.{Held}
use Rattle.mz_holding.specs.Gaps.{far}
use Rattle.mz_holding.specs.LiveBlocks.{page_limit}
use Rattle.mz_holding.specs.HeldRuns.{run_of_extent, live_of_held, live_in_runs, AreRunsInOrder}
use Rattle.mz_holding.proofs.ByteLemmas.{sum_add, sum_drop}
use Rattle.mz_holding.proofs.OrderLemmas.{total_fits}
use Rattle.mz_holding.proofs.GapLemmas.{all_has}
use Rattle.mz_holding.proofs.NeighbourLemmas.{spread_bytes}
use Rattle.mz_holding.proofs.RunLemmas.{live_spread, in_some_run, lies_there}
use Rattle.mz_holding.proofs.QueryLemmas.{used_sum, used_total}

-- it is the same where its parts are
abbrev pub parts : List Run → List Block → Option Block → List Run → Kept
parts rs live f cached = record { runs = rs; live = live; last_freed = f; cached = cached; taken = []; tiny_regions = 0; small_regions = 0 }

pub parts_same : (rs rs' : List Run) (live live' : List Block) (f f' : Option Block) (cached cached' : List Run) → rs ≡ rs' → live ≡ live' → f ≡ f' → cached ≡ cached' → parts rs live f cached ≡ parts rs' live' f' cached'
parts_same rs rs' live live' f f' cached cached' one two three four = ap (λ x. parts x live f cached) one ∙ ap (λ x. parts rs' x f cached) two ∙ ap (λ x. parts rs' live' x cached) three ∙ ap (λ x. parts rs' live' f' x) four

pub map_filter : (p : Run → Bool) (es : List Extent) → map run_of_extent (filter (λ e. p (run_of_extent e)) es) ≡ filter p (map run_of_extent es)
map_filter p [] = refl
map_filter p (e ∷ es) = elim (cases_Bool (p (run_of_extent e))) [
  | inl yes_ ↦ rw yes_ (ap (λ rs. run_of_extent e ∷ rs) (map_filter p es))
  | inr no_ ↦ rw no_ (map_filter p es)
]

-- what held of the last freed block holds of what is left of it
pub freed_kept : (P : Extent → Type 0) (o q : Option Extent) → IfSome o P → IfSome q (λ e. o ≡ Some e) → IfSome q P
freed_kept P o None h same = tt
freed_kept P o (Some e) h same = subst (λ x. IfSome x P) same h

-- the live bytes are no more than the pages
pub size_fits : (hs : List Held) → AreRunsInOrder hs → size_sum (live_in_runs hs) ≤ page_limit * 16384
size_fits hs order =
    let total = total_fits hs order in
    let used = used_total hs in
    let is = used_sum hs in
    omega arith

module _ (hs gs : List Held) (used a n : ℕ) (order : AreRunsInOrder hs) (after : AreRunsInOrder gs) (all : used ≡ sum_by (λ h. h.used) hs) where
  pub used_added : live_in_runs gs ≡ add_block (block_at a n) (live_in_runs hs) → used + n ≡ sum_by (λ h. h.used) gs
  used_added gained =
      let one = used_sum hs in
      let two = used_sum gs in
      let sum = sum_add (λ (b : Block). b.size) (block_at a n) (live_in_runs hs) in
      let same = ap size_sum gained in
      omega arith

  pub used_limit : live_in_runs gs ≡ add_block (block_at a n) (live_in_runs hs) → used + n ≤ page_limit * 16384
  used_limit gained =
      let is = used_added gained in
      let two = used_sum gs in
      let fits = size_fits gs after in
      omega arith

  pub used_dropped : live_in_runs gs ≡ drop_block (block_at a n) (live_in_runs hs) → has_block (live_in_runs hs) (block_at a n) ≡ true → used - n ≡ sum_by (λ h. h.used) gs
  used_dropped lost there =
      let one = used_sum hs in
      let two = used_sum gs in
      let sum = sum_drop (λ (b : Block). b.size) (block_at a n) (live_in_runs hs) (live_spread hs order) there in
      let same = ap size_sum lost in
      omega arith

  pub used_resized : (m : ℕ) → live_in_runs gs ≡ add_block (block_at a m) (drop_block (block_at a n) (live_in_runs hs)) → has_block (live_in_runs hs) (block_at a n) ≡ true → used - n + m ≡ sum_by (λ h. h.used) gs
  used_resized m changed there =
      let one = used_sum hs in
      let two = used_sum gs in
      let sum = sum_drop (λ (b : Block). b.size) (block_at a n) (live_in_runs hs) (live_spread hs order) there in
      let more = sum_add (λ (b : Block). b.size) (block_at a m) (drop_block (block_at a n) (live_in_runs hs)) in
      let same = ap size_sum changed in
      omega arith

  pub used_same : live_in_runs gs ≡ live_in_runs hs → used ≡ sum_by (λ h. h.used) gs
  used_same same = all ∙ used_sum hs ∙ ap size_sum (sym same) ∙ sym (used_sum gs)

-- the bytes of a live block are among all
pub used_has : (hs : List Held) (used a n : ℕ) → AreRunsInOrder hs → used ≡ sum_by (λ h. h.used) hs → has_block (live_in_runs hs) (block_at a n) ≡ true → n ≤ used
used_has hs used a n order all there =
    let one = used_sum hs in
    let sum = sum_drop (λ (b : Block). b.size) (block_at a n) (live_in_runs hs) (live_spread hs order) there in
    omega arith

-- a live block has a byte, and ends below the greatest number
pub live_fits : (hs : List Held) (a n : ℕ) → has_block (live_in_runs hs) (block_at a n) ≡ true → (1 ≤ n) × (a + n ≤ far)
live_fits hs a n there =
    let g = in_some_run hs (block_at a n) there in
    let lies = (lies_there g.0 (block_at a n) g.2).1 in
    let limit = g.0.sound.1 in
    (all_has (λ b. 1 ≤ b.size) (live_of_held g.0) (block_at a n) (spread_bytes (live_of_held g.0) g.0.blocks.spread) g.2, omega arith)

pub freed_byte : (o : Option Extent) (a n : ℕ) → IfSome o (λ e. (e.first ≡ a) × (e.len ≡ n)) → 1 ≤ n → IfSome o (λ e. 1 ≤ e.len)
freed_byte None a n same some = tt
freed_byte (Some e) a n same some = let is = same.1 in omega arith

pub freed_fits : (o : Option Extent) (a n : ℕ) → IfSome o (λ e. (e.first ≡ a) × (e.len ≡ n)) → a + n ≤ far → IfSome o (λ e. e.first + e.len ≤ far)
freed_fits None a n same fits = tt
freed_fits (Some e) a n same fits = let one = same.0 in let two = same.1 in omega arith
