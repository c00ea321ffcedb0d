-- Regions of whole pages are runs: tests over the one are tests over the other.
use Rattle.std.proofs.Common.{◌≡◌, ℕ, ◌+◌, ◌-◌, ◌*◌, ◌/◌, ◌%◌, ◌<◌, ◌≤◌, List, [], ◌∷◌, Bool, true, false, Option, Some, length, map, refl, sym, ap, ◌∙◌, inl, inr, mul-add, arith}
use Rattle.std.specs.Prelude.{◌&&◌, ◌||◌, ◌==◌, nat_lt, find, sum_by, filter}
use Rattle.std.specs.List.{All, list_any}
use Rattle.std.specs.Option.{option_map}
use Rattle.std.proofs.lemmas.Nat.{div-add-mod'}
use Rattle.std.proofs.lemmas.Bool.{cases_Bool, cond-true, cond-false, lt-ltb, le-ltb, and_parts, and_from, eqb-true, eq-eqb}
use Rattle.std.proofs.lemmas.List.Sums.{sum_by-cons}
use Rattle.std.proofs.lemmas.List.Elements.{All-head, All-tail, All-weaker}
use Rattle.mz_base.specs.declared.range.TheConstants.{PAGE}
use Rattle.mz_base.specs.Space.{Block, Run, run_end, block_end}
use Rattle.mz_base.specs.Lists.{size_sum, run_bytes}
use Rattle.mz_base.specs.Room.{lies_in, lies_within, has_room, has_room_within, is_at_front, is_front_of, is_front_within}
use Rattle.mz_events.specs.State.{Kept}
use Rattle.mz_events.specs.Duties.{is_in_excess, is_sparse, is_unused}
use Rattle.mz_magazine.specs.Row.{lies_in_row, has_room_at, is_unused_at, is_sparse_at}
use Rattle.mz_magazine.specs.Keeping.{IsWholePages, run_from}
use Rattle.mz_magazine.proofs.Rooms.{multiple_of}
use Rattle.mz_magazine.proofs.Lists.{same_tests}
use Rattle.mz_base.specs.Space.{same_run}

-- the pages of a region that begins at a
pub record IsPages (Q N a : ℕ) : Type 0 where
  pub first : a / PAGE * PAGE ≡ a
  pub bytes : Q * N / PAGE * PAGE ≡ Q * N
  pub end : (a / PAGE + Q * N / PAGE) * PAGE ≡ a + Q * N

pub pages_of : (Q N a : ℕ) → IsWholePages Q N → a % (Q * N) ≡ 0 → IsPages Q N a
pages_of Q N a whole at =
    let none = whole.0 in
    let long : Q * N ≡ PAGE * (Q * N / PAGE) = omega (arith, div-add-mod' (Q * N) PAGE) in
    let aligned : a % PAGE ≡ 0 = multiple_of PAGE (Q * N / PAGE) a (ap (λ m. a % m) (sym long) ∙ at) in
    record {
      first = omega (arith, div-add-mod' a PAGE);
      bytes = omega (arith, div-add-mod' (Q * N) PAGE);
      end = omega (arith, div-add-mod' a PAGE, div-add-mod' (Q * N) PAGE);
    }

abbrev pub AlignedAt : ℕ → ℕ → ℕ → Type 0
AlignedAt Q N a = a % (Q * N) ≡ 0

-- a test of where a region's bytes begin and end
pub at_run : {X : Type 0} (Q N a : ℕ) (f : ℕ → ℕ → X) → IsPages Q N a → f ((run_from Q N a).first * PAGE) (run_end (run_from Q N a) * PAGE) ≡ f a (a + Q * N)
at_run Q N a f is = ap (λ s. f s ((a / PAGE + Q * N / PAGE) * PAGE)) is.first ∙ ap (f a) is.end

pub any_runs : (Q N : ℕ) (p : Run → Bool) (q : ℕ → Bool) (firsts : List ℕ) → All (λ a. p (run_from Q N a) ≡ q a) firsts → list_any p (map (run_from Q N) firsts) ≡ list_any q firsts
any_runs Q N p q [] h = refl
any_runs Q N p q (a ∷ rest_) h =
    let P : ℕ → Type 0 = λ b. p (run_from Q N b) ≡ q b in
    ap (λ b. b || list_any p (map (run_from Q N) rest_)) (All-head P a rest_ h) ∙ ap (λ b. q a || b) (any_runs Q N p q rest_ (All-tail P a rest_ h))

pub find_runs : (Q N : ℕ) (p : Run → Bool) (q : ℕ → Bool) (firsts : List ℕ) → All (λ a. (p (run_from Q N a) ≡ q a) × ((run_from Q N a).first * PAGE ≡ a)) firsts → option_map (λ r. r.first * PAGE) (find p (map (run_from Q N) firsts)) ≡ find q firsts
find_runs Q N p q [] h = refl
find_runs Q N p q (a ∷ rest_) h =
    let P : ℕ → Type 0 = λ b. (p (run_from Q N b) ≡ q b) × ((run_from Q N b).first * PAGE ≡ b) in
    let here = All-head P a rest_ h in
    let rest = find_runs Q N p q rest_ (All-tail P a rest_ h) in
    let image : Option Run → Option ℕ = option_map (λ r. r.first * PAGE) in
    elim (cases_Bool (q a)) [
      | inl passes ↦ ap image (cond-true (p (run_from Q N a)) (Some (run_from Q N a)) (find p (map (run_from Q N) rest_)) (here.0 ∙ passes)) ∙ ap Some here.1 ∙ sym (cond-true (q a) (Some a) (find q rest_) passes)
      | inr fails ↦ ap image (cond-false (p (run_from Q N a)) (Some (run_from Q N a)) (find p (map (run_from Q N) rest_)) (here.0 ∙ fails)) ∙ rest ∙ sym (cond-false (q a) (Some a) (find q rest_) fails)
    ]

pub lies_runs : (Q N : ℕ) (firsts : List ℕ) (x y : ℕ) → IsWholePages Q N → All (AlignedAt Q N) firsts → list_any (λ r. lies_in r x y) (map (run_from Q N) firsts) ≡ lies_in_row (Q * N) firsts x y
lies_runs Q N firsts x y whole h =
    any_runs Q N (λ r. lies_in r x y) (λ a. lies_within a (a + Q * N) x y) firsts
    (All-weaker (AlignedAt Q N) (λ a. lies_in (run_from Q N a) x y ≡ lies_within a (a + Q * N) x y) (λ a at. at_run Q N a (λ s e. lies_within s e x y) (pages_of Q N a whole at)) firsts h)

pub room_runs : (Q N n al : ℕ) (live : List Block) (firsts : List ℕ) → IsWholePages Q N → All (AlignedAt Q N) firsts → list_any (λ r. has_room r live n al) (map (run_from Q N) firsts) ≡ list_any (has_room_at (Q * N) live n al) firsts
room_runs Q N n al live firsts whole h =
    any_runs Q N (λ r. has_room r live n al) (has_room_at (Q * N) live n al) firsts
    (All-weaker (AlignedAt Q N) (λ a. has_room (run_from Q N a) live n al ≡ has_room_at (Q * N) live n al a) (λ a at. at_run Q N a (λ s e. has_room_within s e live n al) (pages_of Q N a whole at)) firsts h)

pub lowest_room : (Q N n al : ℕ) (live : List Block) (firsts : List ℕ) → IsWholePages Q N → All (AlignedAt Q N) firsts → option_map (λ r. r.first * PAGE) (find (λ r. has_room r live n al) (map (run_from Q N) firsts)) ≡ find (has_room_at (Q * N) live n al) firsts
lowest_room Q N n al live firsts whole h =
    find_runs Q N (λ r. has_room r live n al) (has_room_at (Q * N) live n al) firsts
    (All-weaker (AlignedAt Q N) (λ a. (has_room (run_from Q N a) live n al ≡ has_room_at (Q * N) live n al a) × ((run_from Q N a).first * PAGE ≡ a))
    (λ a at. let is = pages_of Q N a whole at in (at_run Q N a (λ s e. has_room_within s e live n al) is, is.first)) firsts h)

pub lowest_empty : (Q N : ℕ) (live : List Block) (firsts : List ℕ) → IsWholePages Q N → All (AlignedAt Q N) firsts → option_map (λ r. r.first * PAGE) (find (is_unused live) (map (run_from Q N) firsts)) ≡ find (is_unused_at (Q * N) live) firsts
lowest_empty Q N live firsts whole h =
    find_runs Q N (is_unused live) (is_unused_at (Q * N) live) firsts
    (All-weaker (AlignedAt Q N) (λ a. (is_unused live (run_from Q N a) ≡ is_unused_at (Q * N) live a) × ((run_from Q N a).first * PAGE ≡ a))
    (λ a at. let is = pages_of Q N a whole at in (at_run Q N a (λ s e. length (filter (λ b. lies_within s e b.first (block_end b)) live) == 0) is, is.first)) firsts h)

pub lowest_sparse_run : (Q N : ℕ) (live : List Block) (firsts : List ℕ) → IsWholePages Q N → All (AlignedAt Q N) firsts → option_map (λ r. r.first * PAGE) (find (is_sparse live) (map (run_from Q N) firsts)) ≡ find (is_sparse_at (Q * N) live) firsts
lowest_sparse_run Q N live firsts whole h =
    find_runs Q N (is_sparse live) (is_sparse_at (Q * N) live) firsts
    (All-weaker (AlignedAt Q N) (λ a. (is_sparse live (run_from Q N a) ≡ is_sparse_at (Q * N) live a) × ((run_from Q N a).first * PAGE ≡ a))
    (λ a at. let is = pages_of Q N a whole at in (
      at_run Q N a (λ s e. nat_lt (4 * size_sum (filter (λ b. lies_within s e b.first (block_end b)) live)) (3 * (Q * N / PAGE * PAGE))) is
          ∙ ap (λ m. nat_lt (4 * size_sum (filter (λ b. lies_within a (a + Q * N) b.first (block_end b)) live)) (3 * m)) is.bytes,
      is.first,
    )) firsts h)

-- the bytes of all runs
pub bytes_runs : (Q N : ℕ) (firsts : List ℕ) → IsWholePages Q N → All (AlignedAt Q N) firsts → sum_by run_bytes (map (run_from Q N) firsts) ≡ Q * N * length firsts
bytes_runs Q N [] whole h = omega arith
bytes_runs Q N (a ∷ rest_) whole h =
    let is = pages_of Q N a whole (All-head (AlignedAt Q N) a rest_ h) in
    let here = is.bytes in
    let rest = bytes_runs Q N rest_ whole (All-tail (AlignedAt Q N) a rest_ h) in
    let sum = sum_by-cons run_bytes (run_from Q N a) (map (run_from Q N) rest_) in
    let more : Q * N * (length rest_ + 1) ≡ Q * N * length rest_ + Q * N * 1 = mul-add (Q * N) (length rest_) 1 in
    let step : length (a ∷ rest_) ≡ length rest_ + 1 = omega arith in
    let all = ap (λ n. Q * N * n) step in
    omega arith

any_same : (b : Bool) (xs : List ℕ) → 1 ≤ length xs → list_any (λ _. b) xs ≡ b
any_same b [] some = absurd (omega arith)
any_same true (x ∷ xs) some = refl
any_same false (x ∷ []) some = refl
any_same false (x ∷ y ∷ ys) some = any_same false (y ∷ ys) (omega arith)

-- more idle bytes than one and a half regions and than a quarter of all
pub excess_runs : (Q N : ℕ) (k : Kept) (firsts : List ℕ) → IsWholePages Q N → All (AlignedAt Q N) firsts → 1 ≤ length firsts → k.runs ≡ map (run_from Q N) firsts
    → is_in_excess k ≡ (nat_lt (3 * (Q * N)) (2 * (Q * N * length firsts - size_sum k.live)) && nat_lt (size_sum k.live) (Q * N * length firsts - Q * N * length firsts / 4))
excess_runs Q N k firsts whole h some runs =
    let used = size_sum k.live in
    let all = bytes_runs Q N firsts whole h in
    let test : ℕ → List Run → Bool = λ m rs. list_any (λ r. nat_lt (3 * run_bytes r) (2 * (m - size_sum k.live))) rs && nat_lt (size_sum k.live) (m - m / 4) in
    ap (λ rs. test (sum_by run_bytes rs) rs) runs ∙ ap (λ m. test m (map (run_from Q N) firsts)) all
    ∙ ap (λ b. b && nat_lt (size_sum k.live) (Q * N * length firsts - Q * N * length firsts / 4))
    (any_runs Q N (λ r. nat_lt (3 * run_bytes r) (2 * (Q * N * length firsts - size_sum k.live))) (λ _. nat_lt (3 * (Q * N)) (2 * (Q * N * length firsts - size_sum k.live))) firsts
    (All-weaker (AlignedAt Q N) (λ a. nat_lt (3 * run_bytes (run_from Q N a)) (2 * (Q * N * length firsts - size_sum k.live)) ≡ nat_lt (3 * (Q * N)) (2 * (Q * N * length firsts - size_sum k.live)))
    (λ a at. ap (λ m. nat_lt (3 * m) (2 * (Q * N * length firsts - size_sum k.live))) (pages_of Q N a whole at).bytes) firsts h)
    ∙ any_same (nat_lt (3 * (Q * N)) (2 * (Q * N * length firsts - size_sum k.live))) firsts some)

-- without regions it has none
pub excess_none : (k : Kept) → k.runs ≡ [] → is_in_excess k ≡ false
excess_none k runs =
    let test : List Run → Bool = λ rs. list_any (λ r. nat_lt (3 * run_bytes r) (2 * (sum_by run_bytes rs - size_sum k.live))) rs && nat_lt (size_sum k.live) (sum_by run_bytes rs - sum_by run_bytes rs / 4) in
    ap test runs

pub excess_true : (l all used : ℕ) → l + l / 2 < all - used → (nat_lt (3 * l) (2 * (all - used)) && nat_lt used (all - all / 4)) ≡ nat_lt used (all - all / 4)
excess_true l all used more = ap (λ b. b && nat_lt used (all - all / 4)) (lt-ltb (3 * l) (2 * (all - used)) (omega arith))

pub excess_false : (l all used : ℕ) → all - used ≤ l + l / 2 → (nat_lt (3 * l) (2 * (all - used)) && nat_lt used (all - all / 4)) ≡ false
excess_false l all used less = ap (λ b. b && nat_lt used (all - all / 4)) (le-ltb (3 * l) (2 * (all - used)) (omega arith))

pub front_runs : (Q N al : ℕ) (b : Block) (live : List Block) (firsts : List ℕ) → IsWholePages Q N → All (AlignedAt Q N) firsts → is_at_front (map (run_from Q N) firsts) live b al ≡ list_any (λ a. is_front_within a (a + Q * N) live b al) firsts
front_runs Q N al b live firsts whole h =
    any_runs Q N (λ r. is_front_of r live b al) (λ a. is_front_within a (a + Q * N) live b al) firsts
    (All-weaker (AlignedAt Q N) (λ a. is_front_of (run_from Q N a) live b al ≡ is_front_within a (a + Q * N) live b al) (λ a at. at_run Q N a (λ s e. is_front_within s e live b al) (pages_of Q N a whole at)) firsts h)

-- two regions are one run exactly where they begin at one address
pub same_runs : (Q N a b : ℕ) → IsPages Q N a → IsPages Q N b → same_run (run_from Q N a) (run_from Q N b) ≡ (b == a)
same_runs Q N a b is other =
    same_tests (same_run (run_from Q N a) (run_from Q N b)) (b == a)
    (λ h.
    let parts = and_parts (a / PAGE == b / PAGE) (Q * N / PAGE == Q * N / PAGE) h in
    let pages = ap (λ n. n * PAGE) (eqb-true (a / PAGE) (b / PAGE) parts.0) in
    eq-eqb b a (sym other.first ∙ sym pages ∙ is.first))
    (λ h. and_from (a / PAGE == b / PAGE) (Q * N / PAGE == Q * N / PAGE) (eq-eqb (a / PAGE) (b / PAGE) (ap (λ n. n / PAGE) (sym (eqb-true b a h)))) (eq-eqb (Q * N / PAGE) (Q * N / PAGE) refl))

pub filter_runs : (Q N : ℕ) (p : Run → Bool) (q : ℕ → Bool) (firsts : List ℕ) → All (λ a. p (run_from Q N a) ≡ q a) firsts → filter p (map (run_from Q N) firsts) ≡ map (run_from Q N) (filter q firsts)
filter_runs Q N p q [] h = refl
filter_runs Q N p q (a ∷ rest_) h =
    let P : ℕ → Type 0 = λ b. p (run_from Q N b) ≡ q b in
    let here = All-head P a rest_ h in
    let rest = filter_runs Q N p q rest_ (All-tail P a rest_ h) in
    let image : List ℕ → List Run = map (run_from Q N) in
    elim (cases_Bool (q a)) [
      | inl passes ↦ cond-true (p (run_from Q N a)) (run_from Q N a ∷ filter p (map (run_from Q N) rest_)) (filter p (map (run_from Q N) rest_)) (here ∙ passes) ∙ ap (λ l. run_from Q N a ∷ l) rest ∙ ap image (sym (cond-true (q a) (a ∷ filter q rest_) (filter q rest_) passes))
      | inr fails ↦ cond-false (p (run_from Q N a)) (run_from Q N a ∷ filter p (map (run_from Q N) rest_)) (filter p (map (run_from Q N) rest_)) (here ∙ fails) ∙ rest ∙ ap image (sym (cond-false (q a) (a ∷ filter q rest_) (filter q rest_) fails))
    ]
