-- The slots that a seat carries.
use Rattle.std.proofs.Common.{◌≡◌, ℕ, Bool, true, false, ◌&&◌, List, [], ◌∷◌, ◌++◌, Option, Some, None, reverse, take, drop, length, zero, suc, ◌+◌, ◌-◌, ◌<◌, ◌≤◌, arith, get_or, length-drop, length-take-le, append_assoc, refl, sym, ap, ◌∙◌, subst, eq-eqb, ne_eqb}
use Rattle.std.specs.Prelude.{nat_le}
use Rattle.std.proofs.lemmas.Bool.{false≢true, and_parts}
use Rattle.std.proofs.lemmas.Bool.Decides.{nat_tests}
use Rattle.std.proofs.lemmas.List.{reverse-append, length-reverse}
use Rattle.std.proofs.Math.Seq.{drop-append_seam, take-append_seam}
use mathlib.Core.Option as m
use mathlib.Core.Option.{some-ne-none, some-injective}
use lib.ListN.{get_elem?}
use Rattle.atomic_table.specs.Table.{turned}
use Rattle.atomic_table.proofs.Lists.{drop_at}
use Rattle.mz_book.specs.Keepers.{is_among}
use Rattle.mz_book.specs.Account.{is_ascending}
use Rattle.mz_book.specs.Calls.{without}
use Rattle.mz_register.specs.Passes.{keys, bare, is_empty}

-- the value of the first of them
abbrev pub front : {A : Type 0} → A → List (ℕ × A) → A
front d [] = d
front d (x ∷ xs) = x.1

there : {A : Type 0} (xs : List A) (i : ℕ) → i < length xs → (x : A) × (get_elem? xs i ≡ m.some x)
there [] i h = absurd (omega arith)
there (x ∷ xs) zero h = (x, refl)
there (x ∷ xs) (suc i) h = there xs i (omega arith)

pub parts : (xs : List ℕ) (i k : ℕ) → i < length xs → get_or xs i 0 ≡ k → xs ≡ take i xs ++ k ∷ drop (i + 1) xs
parts [] i k l e = absurd (omega arith)
parts (x ∷ xs) zero k l e = λ j. e j ∷ xs
parts (x ∷ xs) (suc i) k l e =
    let m : suc i + 1 ≡ suc (i + 1) = omega arith in
    ap (λ ys. x ∷ ys) (parts xs i k (omega arith) e) ∙ ap (λ (n : ℕ). x ∷ (take i xs ++ k ∷ drop n (x ∷ xs))) (sym m)

-- a number that is among others stands somewhere
pub found_in : (k : ℕ) (xs : List ℕ) → is_among xs k ≡ true → ((j : ℕ) → j < length xs → get_or xs j 0 ≡ k → ⊥) → ⊥
found_in k [] h f = false≢true h
found_in k (x ∷ xs) h f = found_in k xs (rw (ne_eqb x k (λ e. f 0 (omega arith) e)) at h) (λ j l e. f (suc j) (omega arith) e)

-- among ascending numbers each is once

asc_in : (b : ℕ) (xs ys : List ℕ) (k : ℕ) → is_ascending b (xs ++ k ∷ ys) ≡ true → b ≤ k
asc_in b [] ys k h = let a = and_parts (nat_le b k) (is_ascending (k + 1) ys) h in grind (arith, nat_tests, a.0)
asc_in b (x ∷ xs) ys k h =
    let a = and_parts (nat_le b x) (is_ascending (x + 1) (xs ++ k ∷ ys)) h in
    let l : b ≤ x = grind (arith, nat_tests, a.0) in
    let r = asc_in (x + 1) xs ys k a.1 in
    omega arith

without_asc : (b k : ℕ) (ys : List ℕ) → is_ascending b ys ≡ true → k < b → without k ys ≡ ys
without_asc b k [] h l = refl
without_asc b k (y ∷ ys) h l =
    let a = and_parts (nat_le b y) (is_ascending (y + 1) ys) h in
    let m : b ≤ y = grind (arith, nat_tests, a.0) in
    rw (ne_eqb y k (λ e. omega arith)) (ap (λ zs. y ∷ zs) (without_asc (y + 1) k ys a.1 (omega arith)))

pub cut_asc : (b : ℕ) (xs ys : List ℕ) (k : ℕ) → is_ascending b (xs ++ k ∷ ys) ≡ true → without k (xs ++ k ∷ ys) ≡ xs ++ ys
cut_asc b [] ys k h = let a = and_parts (nat_le b k) (is_ascending (k + 1) ys) h in rw (eq-eqb k k refl) (without_asc (k + 1) k ys a.1 (omega arith))
cut_asc b (x ∷ xs) ys k h =
    let a = and_parts (nat_le b x) (is_ascending (x + 1) (xs ++ k ∷ ys)) h in
    let r = asc_in (x + 1) xs ys k a.1 in
    rw (ne_eqb x k (λ e. omega arith)) (ap (λ zs. x ∷ zs) (cut_asc (x + 1) xs ys k a.1))

pub reverse_last : (xs ys : List ℕ) (k : ℕ) → xs ≡ ys ++ k ∷ [] → reverse xs ≡ k ∷ reverse ys
reverse_last xs ys k e = ap reverse e ∙ reverse-append ys (k ∷ [])

both : (a b : Bool) → (a && b) ≡ true → (a ≡ true) × (b ≡ true)
both true b h = (refl, h)
both false b h = absurd (cc)

empty_is : {A : Type 0} (o : Option A) → is_empty o ≡ true → o ≡ None
empty_is None h = refl
empty_is (Some x) h = absurd (cc)

pub front_of : {A : Type 0} (xs : List (ℕ × Option A)) (k : ℕ) (ks : List ℕ) → keys xs ≡ k ∷ ks → bare xs ≡ true → (others : List (ℕ × Option A)) × (xs ≡ (k, None) ∷ others) × (keys others ≡ ks) × (bare others ≡ true)
front_of [] k ks e h = absurd (cc)
front_of {A} (x ∷ xs) k ks e h =
    let b = both (is_empty x.1) (bare xs) h in
    let n = empty_is x.1 b.0 in
    let i : x.0 ≡ k = cc in
    let r : keys xs ≡ ks = cc in
    let s : x ≡ (k, None) = λ j. (i j, n j) in
    (xs, ap (λ (y : ℕ × Option A). y ∷ xs) s, r, b.1)

pub no_keys : {A : Type 0} (xs : List (ℕ × Option A)) → keys xs ≡ [] → xs ≡ []
no_keys [] h = refl
no_keys (x ∷ xs) h = absurd (cc)

-- the slots are turned

take_one : {A : Type 0} (l : List A) (t : ℕ) (x : A) → get_elem? l t ≡ m.some x → take (suc t) l ≡ take t l ++ x ∷ []
take_one [] t x e = absurd (some-ne-none x (sym e))
take_one (y ∷ ys) zero x e = ap (λ z. z ∷ []) (some-injective y x e)
take_one (y ∷ ys) (suc t) x e = ap (λ zs. y ∷ zs) (take_one ys t x e)

pub turn_next : {A : Type 0} (l : List (ℕ × A)) (t : ℕ) → t < length l → turned (drop t l ++ take t l) ≡ drop (t + 1) l ++ take (t + 1) l
turn_next {A} l t h =
    let x = there l t h in
    let d : drop t l ≡ x.0 ∷ drop (suc t) l = drop_at l t x.0 x.1 in
    let s : suc t ≡ t + 1 = omega arith in
    let k : take (suc t) l ≡ take t l ++ x.0 ∷ [] = take_one l t x.0 x.1 in
    ap (λ (ys : List (ℕ × A)). turned (ys ++ take t l)) d
    ∙ (append_assoc (drop (suc t) l) (take t l) (x.0 ∷ []) ∙ (ap (λ (ys : List (ℕ × A)). drop (suc t) l ++ ys) (sym k) ∙ ap (λ (n : ℕ). drop n l ++ take n l) s))

keys_append : {A : Type 0} (xs ys : List (ℕ × A)) → keys (xs ++ ys) ≡ keys xs ++ keys ys
keys_append [] ys = refl
keys_append (x ∷ xs) ys = ap (λ zs. x.0 ∷ zs) (keys_append xs ys)

keys_take : {A : Type 0} (n : ℕ) (xs : List (ℕ × A)) → keys (take n xs) ≡ take n (keys xs)
keys_take zero xs = refl
keys_take (suc n) [] = refl
keys_take (suc n) (x ∷ xs) = ap (λ zs. x.0 ∷ zs) (keys_take n xs)

keys_drop : {A : Type 0} (n : ℕ) (xs : List (ℕ × A)) → keys (drop n xs) ≡ drop n (keys xs)
keys_drop zero xs = refl
keys_drop (suc n) [] = refl
keys_drop (suc n) (x ∷ xs) = keys_drop n xs

pub keys_length : {A : Type 0} (xs : List (ℕ × A)) → length (keys xs) ≡ length xs
keys_length [] = refl
keys_length (x ∷ xs) = ap suc (keys_length xs)

bare_append : {A : Type 0} (xs ys : List (ℕ × Option A)) → bare xs ≡ true → bare ys ≡ true → bare (xs ++ ys) ≡ true
bare_append [] ys h g = g
bare_append (x ∷ xs) ys h g = let b = both (is_empty x.1) (bare xs) h in ap (λ z. z && bare (xs ++ ys)) b.0 ∙ bare_append xs ys b.1 g

bare_take : {A : Type 0} (n : ℕ) (xs : List (ℕ × Option A)) → bare xs ≡ true → bare (take n xs) ≡ true
bare_take zero xs h = refl
bare_take (suc n) [] h = refl
bare_take (suc n) (x ∷ xs) h = let b = both (is_empty x.1) (bare xs) h in ap (λ z. z && bare (take n xs)) b.0 ∙ bare_take n xs b.1

bare_drop : {A : Type 0} (n : ℕ) (xs : List (ℕ × Option A)) → bare xs ≡ true → bare (drop n xs) ≡ true
bare_drop zero xs h = h
bare_drop (suc n) [] h = refl
bare_drop (suc n) (x ∷ xs) h = let b = both (is_empty x.1) (bare xs) h in bare_drop n xs b.1

-- as many turns as there are slots in front of vs
pub spun : {A : Type 0} (l l' : List (ℕ × Option A)) (us vs : List ℕ) (n : ℕ) → keys l ≡ us ++ vs → n ≡ length us → bare l ≡ true → l' ≡ drop n l ++ take n l → (keys l' ≡ vs ++ us) × (bare l' ≡ true)
spun l l' us vs n k e b is =
    let d : drop n (keys l) ≡ vs = ap (λ (i : ℕ). drop i (keys l)) e ∙ (ap (drop (length us)) k ∙ drop-append_seam us vs) in
    let t : take n (keys l) ≡ us = ap (λ (i : ℕ). take i (keys l)) e ∙ (ap (take (length us)) k ∙ take-append_seam us vs) in (
      ap keys is ∙ (keys_append (drop n l) (take n l) ∙ (ap (λ zs. zs ++ keys (take n l)) (keys_drop n l ∙ d) ∙ ap (λ zs. vs ++ zs) (keys_take n l ∙ t))),
      ap bare is ∙ bare_append (drop n l) (take n l) (bare_drop n l b) (bare_take n l b),
    )

pub reverse_parts : (xs ys : List ℕ) (k : ℕ) → reverse (xs ++ k ∷ ys) ≡ reverse ys ++ (k ∷ reverse xs)
reverse_parts xs ys k = reverse-append xs (k ∷ ys) ∙ (ap (λ zs. zs ++ reverse xs) (reverse-append (k ∷ []) ys) ∙ append_assoc (reverse ys) (k ∷ []) (reverse xs))

-- a keeper k that is held, the i-th: those before and behind it
pub record Round {A : Type 0} (hs : List ℕ) (i k : ℕ) (l : List (ℕ × Option A)) : Type 0 where
  pub is : hs ≡ take i hs ++ k ∷ drop (i + 1) hs
  pub behind : length hs - 1 - i ≡ length (reverse (drop (i + 1) hs))
  pub ahead : i ≡ length (reverse (take i hs))
  pub cut : keys l ≡ reverse (drop (i + 1) hs) ++ (k ∷ reverse (take i hs))
  pub bare_all : bare l ≡ true
  pub size : length l ≡ length hs

pub round : {A : Type 0} (hs hs' : List ℕ) (i k : ℕ) (l : List (ℕ × Option A)) → hs' ≡ hs → i < length hs' → get_or hs' i 0 ≡ k → keys l ≡ reverse hs → bare l ≡ true → Round hs i k l
round hs hs' i k l same lt at carried b =
    let lt' : i < length hs = subst (λ (zs : List ℕ). i < length zs) same lt in
    let is = parts hs i k lt' (ap (λ (zs : List ℕ). get_or zs i 0) (sym same) ∙ at) in
    record {
      is = is;
      behind = omega (arith, length-reverse (drop (i + 1) hs), length-drop (i + 1) hs);
      ahead = omega (arith, length-reverse (take i hs), length-take-le i hs);
      cut = carried ∙ (ap reverse is ∙ reverse_parts (take i hs) (drop (i + 1) hs) k);
      bare_all = b;
      size = omega (arith, keys_length l, ap length carried, length-reverse hs);
    }
