-- Cached runs beside a block: that one is out, and that the others stay.
use Rattle.std.proofs.Common.{◌≡◌, ℕ, zero, suc, ◌+◌, ◌/◌, ◌<◌, ◌≤◌, Bool, true, false, not, List, [], ◌∷◌, ◌++◌, length, map, Option, Some, None, refl, ap, sym, subst, ◌∙◌, inl, inr, arith}
use Rattle.std.specs.Prelude.{◌==◌, nat_lt, filter}
use Rattle.std.specs.List.{All, HoldsAt, list_all, list_any, remove}
use Rattle.std.proofs.lemmas.Bool.{and_parts, and_left, and_from, or_left, or_right, or_from, or_cases, cases_Bool, false≢true, ltb-true, ltb-false, ne_eqb, eq-eqb, cond-true, cond-false}
use Rattle.std.proofs.lemmas.Nat.{div-add-mod'}
use Rattle.std.proofs.lemmas.List.Elements.{All-nil, All-cons, All-head, All-tail}
use Rattle.mz_base.specs.declared.range.TheConstants.{PAGE}
use Rattle.mz_base.specs.Site.{Site}
use Rattle.mz_base.specs.Space.{Block, Run, block_end, blocks_apart, same_block, same_run, bytes_of}
use Rattle.mz_base.specs.Lists.{has_run, has_block, add_block, drop_run}
use Rattle.mz_ground.specs.Views.{SpanView}
use Rattle.mz_events.specs.Changes.{run_of}
use Rattle.mz_large.specs.Blocks.{IsPaged, IsTiled}
use Rattle.mz_large.specs.Large.{block_of, run_of_span, space_of, space_while, all_blocks}
use Rattle.mz_large.proofs.Tiled.{blocks_apart-comm, same_block-true}
use Rattle.mz_large.proofs.Places.{length-insert}
use Rattle.mz_large.proofs.Runs.{add-here, add-later, add-nil, apart-differ, apart-other, whole-bytes}

-- cached runs that are apart from a block begin elsewhere
pub differ-all : (b : Block) (cs : List SpanView) → 1 ≤ b.size → All (λ t. IsPaged (block_of t)) cs → All (λ t. blocks_apart (block_of t) b ≡ true) cs → All (λ t. b.first ≡ t.first → ⊥) cs
differ-all b [] own paged apart = All-nil (λ (t : SpanView). b.first ≡ t.first → ⊥)
differ-all b (s ∷ ss) own paged apart =
    let P : SpanView → Type 0 = λ t. IsPaged (block_of t) in
    let A : SpanView → Type 0 = λ t. blocks_apart (block_of t) b ≡ true in
    let some = (All-head P s ss paged).some in
    All-cons (λ (t : SpanView). b.first ≡ t.first → ⊥) s ss
    (apart-differ b (block_of s) own (omega arith) (blocks_apart-comm b (block_of s) ∙ All-head A s ss apart))
    (differ-all b ss own (All-tail P s ss paged) (All-tail A s ss apart))

-- and are other blocks, and other runs
pub other-blocks : (b : Block) (cs : List SpanView) → 1 ≤ b.size → All (λ t. IsPaged (block_of t)) cs → All (λ t. blocks_apart (block_of t) b ≡ true) cs → All (λ t. not (same_block b (bytes_of (run_of_span t))) ≡ true) cs
other-blocks b [] own paged apart = All-nil (λ (t : SpanView). not (same_block b (bytes_of (run_of_span t))) ≡ true)
other-blocks b (s ∷ ss) own paged apart =
    let P : SpanView → Type 0 = λ t. IsPaged (block_of t) in
    let A : SpanView → Type 0 = λ t. blocks_apart (block_of t) b ≡ true in
    let here = All-head P s ss paged in
    let some = here.some in
    All-cons (λ (t : SpanView). not (same_block b (bytes_of (run_of_span t))) ≡ true) s ss
    (ap not (ap (same_block b) (whole-bytes (block_of s) here) ∙ apart-other b (block_of s) own (omega arith) (All-head A s ss apart)))
    (other-blocks b ss own (All-tail P s ss paged) (All-tail A s ss apart))

other-run : (b c : Block) → IsPaged b → IsPaged c → blocks_apart c b ≡ true → not (same_run (run_of b) (run_of c)) ≡ true
other-run b c own other apart =
    let x = own.first in
    let y = other.first in
    let some = own.some in
    let more = other.some in
    let differ : b.first ≡ c.first → ⊥ = apart-differ b c (omega arith) (omega arith) (blocks_apart-comm b c ∙ apart) in
    ap not (and_left (b.first / PAGE == c.first / PAGE) (b.size / PAGE == c.size / PAGE) (ne_eqb (b.first / PAGE) (c.first / PAGE) (λ e. differ (omega (arith, div-add-mod' b.first PAGE, div-add-mod' c.first PAGE)))))

pub other-runs : (b : Block) (cs : List SpanView) → IsPaged b → All (λ t. IsPaged (block_of t)) cs → All (λ t. blocks_apart (block_of t) b ≡ true) cs → All (λ t. not (same_run (run_of b) (run_of_span t)) ≡ true) cs
other-runs b [] own paged apart = All-nil (λ (t : SpanView). not (same_run (run_of b) (run_of_span t)) ≡ true)
other-runs b (s ∷ ss) own paged apart =
    let P : SpanView → Type 0 = λ t. IsPaged (block_of t) in
    let A : SpanView → Type 0 = λ t. blocks_apart (block_of t) b ≡ true in
    All-cons (λ (t : SpanView). not (same_run (run_of b) (run_of_span t)) ≡ true) s ss
    (other-run b (block_of s) own (All-head P s ss paged) (All-head A s ss apart))
    (other-runs b ss own (All-tail P s ss paged) (All-tail A s ss apart))

pub same_run-refl : (r : Run) → same_run r r ≡ true
same_run-refl r = and_from (r.first == r.first) (r.pages == r.pages) (eq-eqb r.first r.first refl) (eq-eqb r.pages r.pages refl)

-- what passes a test stays, and the one that doesn't goes
pub kept-all : (q : Run → Bool) (cs : List SpanView) → All (λ t. q (run_of_span t) ≡ true) cs → filter q (map run_of_span cs) ≡ map run_of_span cs
kept-all q [] pass = refl
kept-all q (s ∷ ss) pass =
    let Q : SpanView → Type 0 = λ t. q (run_of_span t) ≡ true in
    cond-true (q (run_of_span s)) (run_of_span s ∷ filter q (map run_of_span ss)) (filter q (map run_of_span ss)) (All-head Q s ss pass)
    ∙ ap (λ l. run_of_span s ∷ l) (kept-all q ss (All-tail Q s ss pass))

pub kept-out : (q : Run → Bool)
    (front : List SpanView) (s : SpanView) (back : List SpanView) → q (run_of_span s) ≡ false → All (λ t. q (run_of_span t) ≡ true) (front ++ back) →
    filter q (map run_of_span (front ++ s ∷ back)) ≡ map run_of_span (front ++ back)
kept-out q [] s back out pass = cond-false (q (run_of_span s)) (run_of_span s ∷ filter q (map run_of_span back)) (filter q (map run_of_span back)) out ∙ kept-all q back pass
kept-out q (t ∷ ts) s back out pass =
    let Q : SpanView → Type 0 = λ u. q (run_of_span u) ≡ true in
    cond-true (q (run_of_span t)) (run_of_span t ∷ filter q (map run_of_span (ts ++ s ∷ back))) (filter q (map run_of_span (ts ++ s ∷ back))) (All-head Q t (ts ++ back) pass)
    ∙ ap (λ l. run_of_span t ∷ l) (kept-out q ts s back out (All-tail Q t (ts ++ back) pass))

pub filter-all : (q : Block → Bool) (bs : List Block) → list_all q bs ≡ true → filter q bs ≡ bs
filter-all q [] pass = refl
filter-all q (b ∷ bs) pass =
    let parts = and_parts (q b) (list_all q bs) pass in
    cond-true (q b) (b ∷ filter q bs) (filter q bs) parts.0 ∙ ap (λ l. b ∷ l) (filter-all q bs parts.1)

-- the run of a block that is apart from the others is dropped alone
drop-none : (end x : ℕ) (b : Block) (bs : List Block) → IsPaged b → IsTiled end x bs → list_all (λ c. blocks_apart c b) bs ≡ true → drop_run (run_of b) (map run_of bs) ≡ map run_of bs
drop-none end x b [] own h apart = refl
drop-none end x b (c ∷ cs) own h apart =
    let parts = and_parts (blocks_apart c b) (list_all (λ d. blocks_apart d b) cs) apart in
    cond-true (not (same_run (run_of b) (run_of c))) (run_of c ∷ drop_run (run_of b) (map run_of cs)) (drop_run (run_of b) (map run_of cs)) (other-run b c own h.1 parts.0)
    ∙ ap (λ l. run_of c ∷ l) (drop-none end (block_end c) b cs own h.2 parts.1)

drop-here : (end x : ℕ) (b : Block) (bs : List Block) → IsPaged b → IsTiled end x bs → list_all (λ c. blocks_apart c b) bs ≡ true → drop_run (run_of b) (map run_of (b ∷ bs)) ≡ map run_of bs
drop-here end x b bs own h apart =
    cond-false (not (same_run (run_of b) (run_of b))) (run_of b ∷ drop_run (run_of b) (map run_of bs)) (drop_run (run_of b) (map run_of bs)) (ap not (same_run-refl (run_of b)))
    ∙ drop-none end x b bs own h apart

pub runs-dropped : (end x : ℕ) (b : Block) (bs : List Block) → IsPaged b → IsTiled end x bs → list_all (λ c. blocks_apart c b) bs ≡ true → drop_run (run_of b) (map run_of (add_block b bs)) ≡ map run_of bs
runs-dropped end x b [] own h apart = ap (λ l. drop_run (run_of b) (map run_of l)) (add-nil b) ∙ drop-here end x b [] own h apart
runs-dropped end x b (c ∷ cs) own h apart =
    let parts = and_parts (blocks_apart c b) (list_all (λ d. blocks_apart d b) cs) apart in
    elim (cases_Bool (nat_lt b.first c.first)) [
      | inl low ↦ ap (λ l. drop_run (run_of b) (map run_of l)) (add-here b c cs (ltb-true b.first c.first low)) ∙ drop-here end x b (c ∷ cs) own h apart
      | inr high ↦
          ap (λ l. drop_run (run_of b) (map run_of l)) (add-later b c cs (ltb-false b.first c.first high))
          ∙ cond-true (not (same_run (run_of b) (run_of c))) (run_of c ∷ drop_run (run_of b) (map run_of (add_block b cs))) (drop_run (run_of b) (map run_of (add_block b cs))) (other-run b c own h.1 parts.0)
          ∙ ap (λ l. run_of c ∷ l) (runs-dropped end (block_end c) b cs own h.2 parts.1)
    ]

pub has-run : (b : Block) (bs : List Block) → has_block bs b ≡ true → has_run (map run_of bs) (run_of b) ≡ true
has-run b [] among = absurd (false≢true among)
has-run b (c ∷ cs) among =
    elim (or_cases (same_block b c) (has_block cs b) among) [
      | inl here ↦ or_left (same_run (run_of b) (run_of c)) (has_run (map run_of cs) (run_of b)) (ap (λ d. same_run (run_of b) (run_of d)) (sym (same_block-true b c here)) ∙ same_run-refl (run_of b))
      | inr later ↦ or_right (same_run (run_of b) (run_of c)) (has_run (map run_of cs) (run_of b)) (has-run b cs later)
    ]

pub has-cached : (front : List SpanView) (s : SpanView) (back : List SpanView) → has_run (map run_of_span (front ++ s ∷ back)) (run_of_span s) ≡ true
has-cached [] s back = or_left (same_run (run_of_span s) (run_of_span s)) (has_run (map run_of_span back) (run_of_span s)) (same_run-refl (run_of_span s))
has-cached (t ∷ ts) s back = or_right (same_run (run_of_span s) (run_of_span t)) (has_run (map run_of_span (ts ++ s ∷ back)) (run_of_span s)) (has-cached ts s back)

-- as many runs as blocks and cached runs
pub length-all : (live : List Block) (cs : List SpanView) → length (all_blocks live cs) ≡ length live + length cs
length-all live [] = omega arith
length-all live (s ∷ ss) = let more = length-insert (λ (c : Block). c.first) (block_of s) live in let rest = length-all (add_block (block_of s) live) ss in omega arith

pub length-out : (front : List SpanView) (s : SpanView) (back : List SpanView) → length (front ++ s ∷ back) ≡ length (front ++ back) + 1
length-out [] s back = omega arith
length-out (t ∷ ts) s back = let rest = length-out ts s back in omega arith

-- what holds of all cached runs holds of the one, and of the others
pub all-one : (P : SpanView → Type 0) (front : List SpanView) (s : SpanView) (back : List SpanView) → All P (front ++ s ∷ back) → P s
all-one P [] s back all = All-head P s back all
all-one P (t ∷ ts) s back all = all-one P ts s back (All-tail P t (ts ++ s ∷ back) all)

pub all-others : (P : SpanView → Type 0) (front : List SpanView) (s : SpanView) (back : List SpanView) → All P (front ++ s ∷ back) → All P (front ++ back)
all-others P [] s back all = All-tail P s back all
all-others P (t ∷ ts) s back all = All-cons P t (ts ++ back) (All-head P t (ts ++ s ∷ back) all) (all-others P ts s back (All-tail P t (ts ++ s ∷ back) all))

-- runs of one space are of it, where there are some
pub of-space : (o : Option Site) (cs : List SpanView) → All (λ t. o ≡ Some t.space) cs → All (λ t. space_of cs ≡ Some t.space) cs
of-space o [] all = All-nil (λ (t : SpanView). None ≡ Some t.space)
of-space o (s ∷ ss) all =
    let P : SpanView → Type 0 = λ t. o ≡ Some t.space in
    subst (λ x. All (λ (t : SpanView). x ≡ Some t.space) (s ∷ ss)) (All-head P s ss all) all

pub space-left : (o : Option Site) (cs : List SpanView) → All (λ t. o ≡ Some t.space) cs → space_of cs ≡ space_while (map run_of_span cs) o
space-left o [] all = refl
space-left o (s ∷ ss) all = let P : SpanView → Type 0 = λ t. o ≡ Some t.space in sym (All-head P s ss all)

-- the element at a place, with those before it and behind it
pub record IsAt (xs : List SpanView) (i : ℕ) (s : SpanView) : Type 0 where
  pub front : List SpanView
  pub back : List SpanView
  pub all : xs ≡ front ++ s ∷ back
  pub others : remove xs i ≡ front ++ back

pub at-place : (xs : List SpanView) (i : ℕ) (s : SpanView) → i < length xs → HoldsAt (λ t. t ≡ s) xs i → IsAt xs i s
at-place [] i s within is = absurd (omega arith)
at-place (x ∷ xs) zero s within is = record { front = []; back = xs; all = ap (λ t. t ∷ xs) (is x); others = refl }
at-place (x ∷ xs) (suc i) s within is =
    let rest = at-place xs i s (omega arith) (λ d. is d) in
    record { front = x ∷ rest.front; back = rest.back; all = ap (λ l. x ∷ l) rest.all; others = ap (λ l. x ∷ l) rest.others }

-- where none passes a test, none of the runs does
pub none-passes : (q : Run → Bool) (cs : List SpanView) → All (λ s. q (run_of_span s) ≡ false) cs → list_any q (map run_of_span cs) ≡ false
none-passes q [] none = refl
none-passes q (s ∷ ss) none =
    let N : SpanView → Type 0 = λ t. q (run_of_span t) ≡ false in
    or_from (q (run_of_span s)) (list_any q (map run_of_span ss)) (All-head N s ss none) (none-passes q ss (All-tail N s ss none))
