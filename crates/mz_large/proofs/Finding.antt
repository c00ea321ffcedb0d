-- The run that holds a page.
use Rattle.std.proofs.Common.{◌≡◌, ℕ, ◌+◌, ◌/◌, ◌<◌, ◌≤◌, Bool, true, false, List, [], ◌∷◌, ◌++◌, length, map, Some, None, ap, sym, subst, ◌∙◌, refl, inl, inr, arith}
use Rattle.std.specs.Prelude.{nat_le, nat_lt, find}
use Rattle.std.specs.List.{All, HoldsAt, list_any}
use Rattle.std.proofs.lemmas.Bool.{and_parts, or_cases, or_from, or_parts, false≢true, leb-true, cond-true, cond-false, cond_both}
use Rattle.std.proofs.lemmas.Nat.{div-add-mod'}
use Rattle.std.proofs.lemmas.List.Elements.{All-head, All-tail}
use Rattle.mz_base.specs.declared.range.TheConstants.{PAGE}
use Rattle.mz_base.specs.Space.{Block, block_end, same_block}
use Rattle.mz_base.specs.Lists.{insert_by, has_block, add_block}
use Rattle.mz_ground.specs.Views.{SpanView}
use Rattle.mz_events.specs.Changes.{run_of}
use Rattle.mz_events.specs.Separation.{has_page}
use Rattle.mz_large.specs.Blocks.{IsTiled}
use Rattle.mz_large.specs.Large.{block_of, run_of_span, all_blocks}
use Rattle.mz_large.proofs.Tiled.{tiled-member, same_block-true}
use Rattle.mz_large.proofs.Places.{page-above}
use Rattle.mz_large.proofs.Runs.{has-added, has-still}
use Rattle.mz_large.proofs.OneOut.{at-place}

-- one of the tiled blocks that holds a page is the first to do so
page-found : (end : ℕ) (bs : List Block) (x page : ℕ) (b : Block) → IsTiled end x bs → has_block bs b ≡ true → has_page (run_of b) page ≡ true → find (λ r. has_page r page) (map run_of bs) ≡ Some (run_of b)
page-found end [] x page b h among here = absurd (false≢true among)
page-found end (c ∷ cs) x page b h among here =
    elim (or_cases (same_block b c) (has_block cs b) among) [
      | inl this ↦
          let is = same_block-true b c this in
          cond-true (has_page (run_of c) page) (Some (run_of c)) (find (λ r. has_page r page) (map run_of cs)) (subst (λ d. has_page (run_of d) page ≡ true) is here)
          ∙ ap (λ d. Some (run_of d)) (sym is)
      | inr later ↦
          let behind : block_end c ≤ b.first = (tiled-member end cs (block_end c) b h.2 later).low in
          let first = h.1.first in
          let size = h.1.size in
          let low = leb-true (b.first / PAGE) page (and_parts (nat_le (b.first / PAGE) page) (nat_lt page (b.first / PAGE + b.size / PAGE)) here).0 in
          cond-false (has_page (run_of c) page) (Some (run_of c)) (find (λ r. has_page r page) (map run_of cs))
          (page-above c page (omega (arith, div-add-mod' c.first PAGE, div-add-mod' c.size PAGE, div-add-mod' b.first PAGE)))
          ∙ page-found end cs (block_end c) page b h.2 later here
    ]

page-none : (bs : List Block) (page : ℕ) → list_any (λ b. has_page (run_of b) page) bs ≡ false → find (λ r. has_page r page) (map run_of bs) ≡ None
page-none [] page none = refl
page-none (c ∷ cs) page none =
    let parts = or_parts (has_page (run_of c) page) (list_any (λ b. has_page (run_of b) page) cs) none in
    cond-false (has_page (run_of c) page) (Some (run_of c)) (find (λ r. has_page r page) (map run_of cs)) parts.0 ∙ page-none cs page parts.1

-- the blocks of all runs have the live ones and those of the cached runs
has-live : (live : List Block) (cs : List SpanView) (b : Block) → has_block live b ≡ true → has_block (all_blocks live cs) b ≡ true
has-live live [] b among = among
has-live live (s ∷ ss) b among = has-live (add_block (block_of s) live) ss b (has-still b (block_of s) live among)

has-cached : (live : List Block) (front : List SpanView) (s : SpanView) (back : List SpanView) → has_block (all_blocks live (front ++ s ∷ back)) (block_of s) ≡ true
has-cached live [] s back = has-live (add_block (block_of s) live) back (block_of s) (has-added (block_of s) live)
has-cached live (t ∷ ts) s back = has-cached (add_block (block_of t) live) ts s back

-- and no others
none-added : (q : Block → Bool) (b : Block) (bs : List Block) → q b ≡ false → list_any q bs ≡ false → list_any q (add_block b bs) ≡ false
unfolding insert_by
none-added q b [] own none = or_from (q b) false own refl
none-added q b (c ∷ cs) own none =
    let parts = or_parts (q c) (list_any q cs) none in
    cond_both (nat_lt b.first c.first) (b ∷ c ∷ cs) (c ∷ add_block b cs) (λ l. list_any q l ≡ false)
    (λ _. or_from (q b) (list_any q (c ∷ cs)) own none)
    (λ _. or_from (q c) (list_any q (add_block b cs)) parts.0 (none-added q b cs own parts.1))

none-all : (q : Block → Bool) (live : List Block) (cs : List SpanView) → list_any q live ≡ false → All (λ s. q (block_of s) ≡ false) cs → list_any q (all_blocks live cs) ≡ false
none-all q live [] none others = none
none-all q live (s ∷ ss) none others =
    let N : SpanView → Type 0 = λ t. q (block_of t) ≡ false in
    none-all q (add_block (block_of s) live) ss (none-added q (block_of s) live (All-head N s ss others) none) (All-tail N s ss others)

pub found-live : (end : ℕ)
    (live : List Block) (cached : List SpanView) (page : ℕ) (b : Block) → IsTiled end 0 (all_blocks live cached) → has_block live b ≡ true → has_page (run_of b) page ≡ true →
    find (λ r. has_page r page) (map run_of (all_blocks live cached)) ≡ Some (run_of b)
found-live end live cached page b h among here = page-found end (all_blocks live cached) 0 page b h (has-live live cached b among) here

pub found-cached : (end : ℕ)
    (live : List Block) (cached : List SpanView) (page i : ℕ) (s : SpanView) → IsTiled end 0 (all_blocks live cached) → i < length cached → HoldsAt (λ t. t ≡ s) cached i →
    has_page (run_of_span s) page ≡ true → find (λ r. has_page r page) (map run_of (all_blocks live cached)) ≡ Some (run_of_span s)
found-cached end live cached page i s h within is here =
    let place = at-place cached i s within is in
    page-found end (all_blocks live cached) 0 page (block_of s) h (subst (λ l. has_block (all_blocks live l) (block_of s) ≡ true) (sym place.all) (has-cached live place.front s place.back)) here

pub found-nowhere : (live : List Block)
    (cached : List SpanView) (page : ℕ) → list_any (λ b. has_page (run_of b) page) live ≡ false → All (λ s. has_page (run_of_span s) page ≡ false) cached →
    find (λ r. has_page r page) (map run_of (all_blocks live cached)) ≡ None
found-nowhere live cached page none others = page-none (all_blocks live cached) page (none-all (λ b. has_page (run_of b) page) live cached none others)
