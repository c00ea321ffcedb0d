-- What a pass keeps after a step of its seat.
use Rattle.std.proofs.Common.{◌≡◌, ℕ, ◌+◌, ◌-◌, ◌*◌, ◌^◌, ◌<◌, ◌≤◌, ◌==◌, Bool, true, false, cond, not, List, [], ◌∷◌, ◌++◌, length, drop, set, refl, sym, ap, ◌∙◌, subst, arith, zero, suc, length-append, ⊎_elim, ◌⊎◌, if◌then◌else◌}
use Rattle.std.specs.Prelude.{nat_lt, nat_le}
use Rattle.std.specs.List.{list_all}
use Rattle.std.proofs.lemmas.Bool.{false≢true, and_parts, and_from, eqb-true, cases_Bool}
use Rattle.std.proofs.lemmas.Bool.Decides.{nat_tests}
use Rattle.std.proofs.Math.Seq.{drop-append_seam}
use Rattle.mz_events.specs.Hands.{own}
use Rattle.mz_book.specs.Account.{is_ascending, IsRecord}
use Rattle.mz_book.specs.Keepers.{is_among}
use Rattle.mz_base.specs.Lists.{insert_by}
use Rattle.mz_book.specs.declared.light.Light.{Light}
use Rattle.mz_book.specs.Lights.{same_light, has_light, drop_light}
use Rattle.mz_book.specs.Calls.{without}
use Rattle.mz_desk.specs.declared.view.View.{View}
use Rattle.mz_desk.specs.Steps.{Knows}
use Rattle.mz_register.specs.Passes.{last_own, IsKnowing}

pub none_of : {A : Type 0} (xs : List A) → length xs ≡ 0 → xs ≡ []
none_of [] e = refl
none_of (x ∷ xs) e = absurd (omega arith)

-- the record ends what the caller did in all that was seen

pub last_of : (v : View) → IsRecord v.caller v.seen v.noted → last_own v ≡ v.noted
last_of v r =
    let n : length (own v.caller v.seen) ≡ length r.before + length v.noted = ap length r.is ∙ length-append r.before v.noted in
    let d : length (own v.caller v.seen) - length v.noted ≡ length r.before = omega arith in
    ap (λ (k : ℕ). drop k (own v.caller v.seen)) d ∙ (ap (drop (length r.before)) r.is ∙ drop-append_seam r.before v.noted)

pub knowing_of : (v : View) → Knows v → length v.joined ≡ 0 → IsKnowing v
knowing_of v k n = record { limits = k.limits; caller = k.caller; lawful = k.lawful; recorded = last_of v k.recorded; counted = k.counted; owned = k.owned (none_of v.joined n) }

-- numbers that are held

pub all_push : (test : ℕ → Bool) (xs : List ℕ) (k : ℕ) → list_all test xs ≡ true → test k ≡ true → list_all test (xs ++ k ∷ []) ≡ true
all_push test [] k h t = and_from (test k) true t refl
all_push test (x ∷ xs) k h t = let a = and_parts (test x) (list_all test xs) h in and_from (test x) (list_all test (xs ++ k ∷ [])) a.0 (all_push test xs k a.1 t)

pub ascending_push : (b : ℕ) (xs : List ℕ) (k : ℕ) → is_ascending b xs ≡ true → list_all (λ x. nat_lt x k) xs ≡ true → b ≤ k → is_ascending b (xs ++ k ∷ []) ≡ true
ascending_push b [] k h t l = and_from (nat_le b k) true (grind (arith, nat_tests)) refl
ascending_push b (x ∷ xs) k h t l =
    let a = and_parts (nat_le b x) (is_ascending (x + 1) xs) h in
    let c = and_parts (nat_lt x k) (list_all (λ y. nat_lt y k) xs) t in
    let lt : x < k = grind (arith, nat_tests, c.0) in
    and_from (nat_le b x) (is_ascending (x + 1) (xs ++ k ∷ [])) a.0 (ascending_push (x + 1) xs k a.1 c.1 (omega arith))

-- a number above each one held isn't held
pub fresh : (xs : List ℕ) (k : ℕ) → list_all (λ x. nat_lt x k) xs ≡ true → is_among xs k ≡ false
fresh [] k h = refl
fresh (x ∷ xs) k h =
    let c = and_parts (nat_lt x k) (list_all (λ y. nat_lt y k) xs) h in
    let lt : x < k = grind (arith, nat_tests, c.0) in
    rw (Rattle.std.proofs.Common.ne_eqb x k (λ e. omega arith)) (fresh xs k c.1)

drop_case : (test : ℕ → Bool) (x : ℕ) (xs : List ℕ) (d : Bool) → test x ≡ true → list_all test xs ≡ true → list_all test (cond (not d) (x ∷ xs) xs) ≡ true
drop_case test x xs true t h = h
drop_case test x xs false t h = and_from (test x) (list_all test xs) t h

pub all_without : (test : ℕ → Bool) (k : ℕ) (xs : List ℕ) → list_all test xs ≡ true → list_all test (without k xs) ≡ true
all_without test k [] h = refl
all_without test k (x ∷ xs) h = let a = and_parts (test x) (list_all test xs) h in drop_case test x (without k xs) (x == k) a.0 (all_without test k xs a.1)

lower : (a b : ℕ) (xs : List ℕ) → a ≤ b → is_ascending b xs ≡ true → is_ascending a xs ≡ true
lower a b [] l h = refl
lower a b (x ∷ xs) l h = let c = and_parts (nat_le b x) (is_ascending (x + 1) xs) h in and_from (nat_le a x) (is_ascending (x + 1) xs) (grind (arith, nat_tests, c.0)) c.1

asc_case : (b x : ℕ) (xs : List ℕ) (d : Bool) → nat_le b x ≡ true → is_ascending (x + 1) xs ≡ true → is_ascending b (cond (not d) (x ∷ xs) xs) ≡ true
asc_case b x xs true l h = let le : b ≤ x = grind (arith, nat_tests, l) in lower b (x + 1) xs (omega arith) h
asc_case b x xs false l h = and_from (nat_le b x) (is_ascending (x + 1) xs) l h

pub ascending_without : (b k : ℕ) (xs : List ℕ) → is_ascending b xs ≡ true → is_ascending b (without k xs) ≡ true
ascending_without b k [] h = refl
ascending_without b k (x ∷ xs) h = let a = and_parts (nat_le b x) (is_ascending (x + 1) xs) h in asc_case b x (without k xs) (x == k) a.0 (ascending_without (x + 1) k xs a.1)

pub all_set : (test : ℕ → Bool) (xs : List ℕ) (i v : ℕ) → test v ≡ true → list_all test xs ≡ true → list_all test (set xs i v) ≡ true
all_set test [] i v t h = refl
all_set test (x ∷ xs) zero v t h = and_from (test v) (list_all test xs) t ((and_parts (test x) (list_all test xs) h).1)
all_set test (x ∷ xs) (suc i) v t h = let a = and_parts (test x) (list_all test xs) h in and_from (test x) (list_all test (set xs i v)) a.0 (all_set test xs i v t a.1)

-- lights that are held

insert_case : (test : Light → Bool) (l x : Light) (xs ys : List Light) (d : Bool) → test l ≡ true → list_all test (x ∷ xs) ≡ true → list_all test ys ≡ true → list_all test (if d then l ∷ x ∷ xs else x ∷ ys) ≡ true
insert_case test l x xs ys true t h g = and_from (test l) (list_all test (x ∷ xs)) t h
insert_case test l x xs ys false t h g = and_from (test x) (list_all test ys) ((and_parts (test x) (list_all test xs) h).0) g

pub all_insert : (test : Light → Bool) (key : Light → ℕ) (l : Light) (xs : List Light) → test l ≡ true → list_all test xs ≡ true → list_all test (insert_by key l xs) ≡ true
unfolding insert_by
all_insert test key l [] t h = and_from (test l) true t refl
all_insert test key l (x ∷ xs) t h = insert_case test l x xs (insert_by key l xs) (nat_lt (key l) (key x)) t h (all_insert test key l xs t ((and_parts (test x) (list_all test xs) h).1))

dropped_case : (test : Light → Bool) (x : Light) (xs : List Light) (d : Bool) → test x ≡ true → list_all test xs ≡ true → list_all test (cond (not d) (x ∷ xs) xs) ≡ true
dropped_case test x xs true t h = h
dropped_case test x xs false t h = and_from (test x) (list_all test xs) t h

pub all_dropped : (test : Light → Bool) (l : Light) (xs : List Light) → list_all test xs ≡ true → list_all test (drop_light l xs) ≡ true
all_dropped test l [] h = refl
all_dropped test l (x ∷ xs) h = let a = and_parts (test x) (list_all test xs) h in dropped_case test x (drop_light l xs) (same_light l x) a.0 (all_dropped test l xs a.1)

light_case : (l x : Light) → same_light l x ≡ true → l ≡ x
light_case l x h =
    let a = and_parts (l.block == x.block) (l.slot == x.slot) h in
    let b = eqb-true l.block x.block a.0 in
    let s = eqb-true l.slot x.slot a.1 in
    λ i. record { block = b i; slot = s i }

-- a light that is held is one of them
pub light_among : (test : Light → Bool) (l : Light) (xs : List Light) → has_light xs l ≡ true → list_all test xs ≡ true → test l ≡ true
light_among test l [] h a = absurd (false≢true h)
light_among test l (x ∷ xs) h a =
    let c = and_parts (test x) (list_all test xs) a in
    ⊎_elim (λ (y : same_light l x ≡ true). ap test (light_case l x y) ∙ c.0) (λ (z : same_light l x ≡ false). light_among test l xs (rw z at h) c.1) (cases_Bool (same_light l x))
