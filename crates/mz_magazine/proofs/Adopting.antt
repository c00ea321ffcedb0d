-- What a magazine's runs and last freed block are with a region more.
use Rattle.std.proofs.Common.{◌≡◌, ℕ, ◌+◌, ◌-◌, ◌*◌, ◌/◌, ◌%◌, ◌<◌, ◌≤◌, ◌⊎◌, List, [], ◌∷◌, Bool, true, false, Option, Some, None, map, refl, sym, ap, ◌∙◌, inl, inr, arith}
use Rattle.std.specs.Prelude.{◌||◌, ◌==◌, nat_le, fold}
use Rattle.std.specs.List.{All, list_any, list_all}
use Rattle.std.proofs.lemmas.Nat.{div-add-mod'}
use Rattle.std.proofs.lemmas.Bool.{cases_lt, and_parts, and_from, or_cases, or_parts, or_left, or_right, or_from, leb-true, le-leb, eq-eqb, ne_eqb, false≢true}
use Rattle.std.proofs.lemmas.List.Elements.{All-nil, All-cons, All-head, All-tail, All-weaker}
use Rattle.mz_base.specs.declared.range.TheConstants.{PAGE}
use Rattle.mz_base.specs.Space.{Block, Run, block_at, block_end, blocks_apart, runs_apart}
use Rattle.mz_base.specs.Lists.{insert_by, add_block, add_run}
use Rattle.mz_base.specs.Room.{lies_within, is_idle}
use Rattle.mz_region.specs.Views.{RegionView, IsRegion}
use Rattle.mz_magazine.specs.Row.{RowView, with_region_at}
use Rattle.mz_magazine.specs.Keeping.{IsWholePages, run_from, IsIdleFreed}
use Rattle.mz_magazine.proofs.Idle.{among, idle_from_test}
use Rattle.mz_magazine.proofs.Lists.{insert_nil, insert_here, insert_later, any_weaker}
use Rattle.mz_magazine.proofs.Parts.{InRow, each_in_row}
use Rattle.mz_magazine.proofs.Order.{multiples_apart}
use Rattle.mz_magazine.proofs.KeepingRuns.{AlignedAt, pages_of}
use Rattle.mz_magazine.proofs.KeepingFreed.{all_test_inserted}

-- a run apart from all of a row's begins at none of theirs
pub none_at_run : (Q N first : ℕ) (firsts : List ℕ) → IsWholePages Q N → list_all (λ t. runs_apart t (run_from Q N first)) (map (run_from Q N) firsts) ≡ true → list_any (λ a. a == first) firsts ≡ false
none_at_run Q N first [] whole h = refl
none_at_run Q N first (a ∷ rest) whole h =
    let none = whole.0 in
    let filled = whole.1 in
    let some : 1 ≤ Q * N / PAGE = omega (arith, div-add-mod' (Q * N) PAGE) in
    let parts = and_parts (runs_apart (run_from Q N a) (run_from Q N first)) (list_all (λ t. runs_apart t (run_from Q N first)) (map (run_from Q N) rest)) h in
    or_from (a == first) (list_any (λ x. x == first) rest) (ne_eqb a first (λ same.
    let page : a / PAGE ≡ first / PAGE = ap (λ x. x / PAGE) same in
    elim (or_cases (nat_le (a / PAGE + Q * N / PAGE) (first / PAGE)) (nat_le (first / PAGE + Q * N / PAGE) (a / PAGE)) parts.0) [
      | inl before ↦ let k = leb-true (a / PAGE + Q * N / PAGE) (first / PAGE) before in absurd (omega arith)
      | inr behind ↦ let k = leb-true (first / PAGE + Q * N / PAGE) (a / PAGE) behind in absurd (omega arith)
    ])) (none_at_run Q N first rest whole parts.1)

-- the runs of a row with a region more, at its place
pub insert_runs : (Q N first : ℕ) (firsts : List ℕ) → IsWholePages Q N → AlignedAt Q N first → All (AlignedAt Q N) firsts → map (run_from Q N) (insert_by (λ a. a) first firsts) ≡ add_run (run_from Q N first) (map (run_from Q N) firsts)
insert_runs Q N first [] whole at each = ap (λ l. map (run_from Q N) l) (insert_nil (λ a. a) first) ∙ sym (insert_nil (λ (t : Run). t.first) (run_from Q N first))
insert_runs Q N first (a ∷ rest) whole at each =
    let here = (pages_of Q N first whole at).first in
    let there = (pages_of Q N a whole (All-head (AlignedAt Q N) a rest each)).first in
    let key : Run → ℕ = λ t. t.first in
    let image : List ℕ → List Run = map (run_from Q N) in
    elim (cases_lt first a) [
      | inl less ↦
          let fewer : first / PAGE < a / PAGE = omega arith in
          ap image (insert_here (λ x. x) first a rest less) ∙ sym (insert_here key (run_from Q N first) (run_from Q N a) (map (run_from Q N) rest) fewer)
      | inr more ↦
          let upto : a / PAGE ≤ first / PAGE = omega arith in
          ap image (insert_later (λ x. x) first a rest more) ∙ ap (λ l. run_from Q N a ∷ l) (insert_runs Q N first rest whole at (All-tail (AlignedAt Q N) a rest each))
          ∙ sym (insert_later key (run_from Q N first) (run_from Q N a) (map (run_from Q N) rest) upto)
    ]

each_fails : (p : ℕ → Bool) (xs : List ℕ) → list_any p xs ≡ false → All (λ x. p x ≡ false) xs
each_fails p [] h = All-nil (λ x. p x ≡ false)
each_fails p (x ∷ xs) h = let parts = or_parts (p x) (list_any p xs) h in All-cons (λ y. p y ≡ false) x xs parts.0 (each_fails p xs parts.1)

all_pass : (p : Block → Bool) (xs : List Block) → All (λ x. p x ≡ true) xs → list_all p xs ≡ true
all_pass p [] h = refl
all_pass p (x ∷ xs) h = let P : Block → Type 0 = λ y. p y ≡ true in and_from (p x) (list_all p xs) (All-head P x xs h) (all_pass p xs (All-tail P x xs h))

all_folded : (p : Block → Bool) (live more : List Block) → list_all p live ≡ true → list_all p more ≡ true → list_all p (fold (λ bs b. add_block b bs) live more) ≡ true
all_folded p live [] each others = each
all_folded p live (b ∷ bs) each others =
    let parts = and_parts (p b) (list_all p bs) others in
    all_folded p (add_block b live) bs (all_test_inserted p (λ c. c.first) b live parts.0 each) parts.1

any_inserted : (p : ℕ → Bool) (x : ℕ) (xs : List ℕ) → list_any p xs ≡ true → list_any p (insert_by (λ a. a) x xs) ≡ true
any_inserted p x [] h = absurd (false≢true h)
any_inserted p x (y ∷ ys) h =
    elim (cases_lt x y) [
      | inl less ↦ ap (λ l. list_any p l) (insert_here (λ a. a) x y ys less) ∙ or_right (p x) (p y || list_any p ys) h
      | inr more ↦ ap (λ l. list_any p l) (insert_later (λ a. a) x y ys more) ∙ elim (or_cases (p y) (list_any p ys) h) [
        | inl here ↦ or_left (p y) (list_any p (insert_by (λ a. a) x ys)) here
        | inr later ↦ or_right (p y) (list_any p (insert_by (λ a. a) x ys)) (any_inserted p x ys later)
      ]
    ]

-- the last freed block stays idle where a region comes that begins at none of the row's
pub idle_adopted : (Q N : ℕ) (v : RowView) (r : RegionView) (freed : Option (ℕ × ℕ)) → All (λ a. a % (Q * N) ≡ 0) v.firsts → IsRegion Q N r → IsIdleFreed Q N v freed → list_any (λ a. a == r.first) v.firsts ≡ false → IsIdleFreed Q N (with_region_at r v) freed
idle_adopted Q N v r None aligned is had none = tt
idle_adopted Q N v r (Some p) aligned is had none =
    let some = had.2 in
    let test : Block → Bool = λ c. blocks_apart c (block_at p.0 (p.0 + p.1 - p.0)) in
    let whole : List Block = fold (λ bs b. add_block b bs) v.live r.live in
    let was : ℕ → Bool = λ a. is_idle a (a + Q * N) v.live p.0 (p.0 + p.1) in
    let found = among (λ a. (a % (Q * N) ≡ 0) × ((a == r.first) ≡ false)) was v.firsts (λ k d within. (aligned k d within, each_fails (λ a. a == r.first) v.firsts none k d within)) had.3 in
    let both = found.1 in
    let idle = idle_from_test found.0 (found.0 + Q * N) v.live p.0 (p.0 + p.1) (omega arith) found.2 in
    let from = idle.not_below in
    let upto = idle.not_above in
    let apart : (found.0 + Q * N ≤ r.first) ⊎ (r.first + Q * N ≤ found.0) =
    elim (cases_lt found.0 r.first) [
      | inl less ↦ inl (multiples_apart (Q * N) found.0 r.first both.0 is.at less)
      | inr not_less ↦ elim (cases_lt r.first found.0) [
        | inl more ↦ inr (multiples_apart (Q * N) r.first found.0 is.at both.0 more)
        | inr not_more ↦ absurd (false≢true (sym both.1 ∙ eq-eqb found.0 r.first (omega arith)))
      ]
    ] in
    let others : list_all test r.live ≡ true = all_pass test r.live (All-weaker (InRow Q r.first (r.first + Q * N)) (λ b. test b ≡ true) (λ b k.
    let low = k.low in
    let high = k.high in
    elim apart [
      | inl before ↦ or_right (nat_le (block_end b) p.0) (nat_le (p.0 + (p.0 + p.1 - p.0)) b.first) (le-leb (p.0 + (p.0 + p.1 - p.0)) b.first (omega arith))
      | inr behind ↦ or_left (nat_le (block_end b) p.0) (nat_le (p.0 + (p.0 + p.1 - p.0)) b.first) (le-leb (block_end b) p.0 (omega arith))
    ]) r.live (each_in_row Q r.first (r.first + Q * N) r.live is.row)) in
    let now : ℕ → Bool = λ a. is_idle a (a + Q * N) (fold (λ bs b. add_block b bs) v.live r.live) p.0 (p.0 + p.1) in
    let left : list_any now v.firsts ≡ true = any_weaker was now v.firsts (λ a passes.
    let parts = and_parts (lies_within a (a + Q * N) p.0 (p.0 + p.1)) (list_all test v.live) passes in
    and_from (lies_within a (a + Q * N) p.0 (p.0 + p.1)) (list_all test (fold (λ bs b. add_block b bs) v.live r.live)) parts.0 (all_folded test v.live r.live parts.1 others)) had.3 in
    (had.0, had.1, had.2, any_inserted now r.first v.firsts left)
