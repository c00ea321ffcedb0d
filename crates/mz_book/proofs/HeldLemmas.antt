-- Lists of keeper numbers, ascending.
use Rattle.std.proofs.Common.{◌≡◌, ℕ, ◌+◌, ◌<◌, ◌≤◌, ◌==◌, Bool, true, false, cond, not, List, [], ◌∷◌, ◌++◌, length, refl, ap, sym, ◌∙◌, arith}
use Rattle.std.specs.Prelude.{◌&&◌, ◌||◌, nat_lt, nat_le}
use Rattle.std.specs.List.{list_all}
use Rattle.std.proofs.lemmas.Bool.{and_parts, and_from, false≢true, eqb-true}
use Rattle.std.proofs.lemmas.Bool.Decides.{nat_tests}
use Rattle.mz_book.specs.Keepers.{is_among}
use Rattle.mz_book.specs.Account.{is_ascending}
use Rattle.mz_book.specs.Calls.{without}

pub or_none : (b : Bool) → (b || false) ≡ b
or_none true = refl
or_none false = refl

pub or_true : (b : Bool) → (b || true) ≡ true
or_true true = refl
or_true false = refl

or_again : (a b d : Bool) → (a || (b || d)) ≡ ((a || b) || d)
or_again true b d = refl
or_again false b d = refl

pub among_snoc : (j k : ℕ) (held : List ℕ) → is_among (held ++ k ∷ []) j ≡ (is_among held j || (k == j))
among_snoc j k [] = or_none (k == j)
among_snoc j k (x ∷ xs) = ap (λ b. (x == j) || b) (among_snoc j k xs) ∙ or_again (x == j) (is_among xs j) (k == j)

pub above_absent : (k : ℕ) (held : List ℕ) → list_all (λ x. nat_lt x k) held ≡ true → is_among held k ≡ false
above_absent k [] h = refl
above_absent k (x ∷ xs) h =
    let t = and_parts (nat_lt x k) (list_all (λ y. nat_lt y k) xs) h in
    let ne : (x == k) ≡ false = grind (arith, nat_tests, t.0) in
    rw ne (above_absent k xs t.1)

without_case : (j k x : ℕ) (b : Bool) (xs : List ℕ) → (x == k) ≡ b → is_among (without k xs) j ≡ (not (j == k) && is_among xs j)
    → is_among (cond (not b) (x ∷ without k xs) (without k xs)) j ≡ (not (j == k) && ((x == j) || is_among xs j))
without_case j k x true xs e h = grind (arith, nat_tests)
without_case j k x false xs e h = grind (arith, nat_tests)

and_false : (b : Bool) → (b && false) ≡ false
and_false true = refl
and_false false = refl

pub among_without : (j k : ℕ) (held : List ℕ) → is_among (without k held) j ≡ (not (j == k) && is_among held j)
among_without j k [] = sym (and_false (not (j == k)))
among_without j k (x ∷ xs) = without_case j k x (x == k) xs refl (among_without j k xs)

-- ascending lists

pub ascending_snoc : (b k : ℕ) (held : List ℕ) → is_ascending b held ≡ true → b ≤ k → list_all (λ x. nat_lt x k) held ≡ true → is_ascending b (held ++ k ∷ []) ≡ true
ascending_snoc b k [] h l a = let m : nat_le b k ≡ true = grind (arith, nat_tests) in and_from _ _ m refl
ascending_snoc b k (x ∷ xs) h l a =
    let t = and_parts (nat_le b x) (is_ascending (x + 1) xs) h in
    let u = and_parts (nat_lt x k) (list_all (λ y. nat_lt y k) xs) a in
    let m : x + 1 ≤ k = grind (arith, nat_tests, u.0) in
    and_from _ _ t.0 (ascending_snoc (x + 1) k xs t.1 m u.1)

ascending_from_less : (a b : ℕ) (xs : List ℕ) → a ≤ b → is_ascending b xs ≡ true → is_ascending a xs ≡ true
ascending_from_less a b [] l h = refl
ascending_from_less a b (x ∷ xs) l h =
    let t = and_parts (nat_le b x) (is_ascending (x + 1) xs) h in
    let m : nat_le a x ≡ true = grind (arith, nat_tests, t.0) in
    and_from _ _ m t.1

ascending_case : (b k x : ℕ) (xs : List ℕ) (d : Bool) → (x == k) ≡ d → b ≤ x → is_ascending (x + 1) (without k xs) ≡ true → is_ascending b (cond (not d) (x ∷ without k xs) (without k xs)) ≡ true
ascending_case b k x xs true e l h = ascending_from_less b (x + 1) (without k xs) (omega arith) h
ascending_case b k x xs false e l h = let m : nat_le b x ≡ true = grind (arith, nat_tests) in and_from _ _ m h

pub ascending_without : (b k : ℕ) (held : List ℕ) → is_ascending b held ≡ true → is_ascending b (without k held) ≡ true
ascending_without b k [] h = refl
ascending_without b k (x ∷ xs) h =
    let t = and_parts (nat_le b x) (is_ascending (x + 1) xs) h in
    let l : b ≤ x = grind (arith, nat_tests, t.0) in
    ascending_case b k x xs (x == k) refl l (ascending_without (x + 1) k xs t.1)

all_case : (n k x : ℕ) (xs : List ℕ) (d : Bool) → nat_lt x n ≡ true → list_all (λ y. nat_lt y n) (without k xs) ≡ true → list_all (λ y. nat_lt y n) (cond (not d) (x ∷ without k xs) (without k xs)) ≡ true
all_case n k x xs true l h = h
all_case n k x xs false l h = and_from _ _ l h

pub all_without : (n k : ℕ) (held : List ℕ) → list_all (λ x. nat_lt x n) held ≡ true → list_all (λ x. nat_lt x n) (without k held) ≡ true
all_without n k [] h = refl
all_without n k (x ∷ xs) h = let t = and_parts (nat_lt x n) (list_all (λ y. nat_lt y n) xs) h in all_case n k x xs (x == k) t.0 (all_without n k xs t.1)

pub all_snoc : (n k : ℕ) (held : List ℕ) → list_all (λ x. nat_lt x n) held ≡ true → k < n → list_all (λ x. nat_lt x n) (held ++ k ∷ []) ≡ true
all_snoc n k [] h l = let m : nat_lt k n ≡ true = grind (arith, nat_tests) in and_from _ _ m refl
all_snoc n k (x ∷ xs) h l = let t = and_parts (nat_lt x n) (list_all (λ y. nat_lt y n) xs) h in and_from _ _ t.0 (all_snoc n k xs t.1 l)

-- an ascending list below k has room for k
pub ascending_few : (b k : ℕ) (held : List ℕ) → is_ascending b held ≡ true → list_all (λ x. nat_lt x k) held ≡ true → b ≤ k → length held + b ≤ k
ascending_few b k [] h a l = omega arith
ascending_few b k (x ∷ xs) h a l =
    let t = and_parts (nat_le b x) (is_ascending (x + 1) xs) h in
    let u = and_parts (nat_lt x k) (list_all (λ y. nat_lt y k) xs) a in
    let m : x + 1 ≤ k = grind (arith, nat_tests, u.0) in
    let i : b ≤ x = grind (arith, nat_tests, t.0) in
    let r = ascending_few (x + 1) k xs t.1 u.1 m in
    omega arith

below_case : (k n x : ℕ) (b : Bool) (xs : List ℕ) → (x == k) ≡ b → nat_lt x n ≡ true → (is_among xs k ≡ true → k < n) → (b || is_among xs k) ≡ true → k < n
below_case k n x true xs e l f h = let same : x ≡ k = eqb-true x k e in grind (arith, nat_tests)
below_case k n x false xs e l f h = f h

pub among_below : (k n : ℕ) (held : List ℕ) → list_all (λ x. nat_lt x n) held ≡ true → is_among held k ≡ true → k < n
among_below k n [] a h = absurd (false≢true h)
among_below k n (x ∷ xs) a h =
    let t = and_parts (nat_lt x n) (list_all (λ y. nat_lt y n) xs) a in
    below_case k n x (x == k) xs refl t.0 (among_below k n xs t.1) h
