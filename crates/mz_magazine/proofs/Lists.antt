-- Lists with one element more, at its place, and without some.
use Rattle.std.proofs.Common.{◌≡◌, ℕ, ◌+◌, ◌<◌, ◌≤◌, List, [], ◌∷◌, ◌++◌, Bool, true, false, cond, Option, Some, None, length, refl, sym, ap, ◌∙◌, inl, inr, arith}
use Rattle.std.specs.Prelude.{nat_lt, find, filter, map, sum_by, ◌||◌}
use Rattle.std.specs.Option.{option_map}
use Rattle.std.specs.List.{All, list_any}
use Rattle.std.proofs.lemmas.List.Elements.{filter-append}
use Rattle.std.proofs.lemmas.List.Sums.{sum_by-cons}
use Rattle.std.proofs.lemmas.Bool.{cases_Bool, cond-true, cond-false, lt-ltb, le-ltb, or_from, or_cases, or_left, or_right, false≢true}
use Rattle.std.proofs.lemmas.List.Elements.{All-nil, All-cons, All-head, All-tail, All-same}
use Rattle.mz_base.specs.Lists.{insert_by}

-- the first place of a greater key, or a later one
pub insert_here : {A : Type 0} (key : A → ℕ) (x y : A) (ys : List A) → key x < key y → insert_by key x (y ∷ ys) ≡ x ∷ y ∷ ys
unfolding insert_by
insert_here key x y ys less = cond-true (nat_lt (key x) (key y)) (x ∷ y ∷ ys) (y ∷ insert_by key x ys) (lt-ltb (key x) (key y) less)

pub insert_later : {A : Type 0} (key : A → ℕ) (x y : A) (ys : List A) → key y ≤ key x → insert_by key x (y ∷ ys) ≡ y ∷ insert_by key x ys
unfolding insert_by
insert_later key x y ys more = cond-false (nat_lt (key x) (key y)) (x ∷ y ∷ ys) (y ∷ insert_by key x ys) (le-ltb (key x) (key y) more)

pub insert_nil : {A : Type 0} (key : A → ℕ) (x : A) → insert_by key x [] ≡ x ∷ []
unfolding insert_by
insert_nil key x = refl

-- behind those of no greater key, and before one of a greater
pub insert_between : {A : Type 0} (key : A → ℕ) (x : A) (xs ys : List A) → All (λ y. key y ≤ key x) xs → All (λ y. key x < key y) ys → insert_by key x (xs ++ ys) ≡ xs ++ x ∷ ys
insert_between key x [] [] low high = insert_nil key x
insert_between {A} key x [] (y ∷ ys) low high = let P : A → Type 0 = λ z. key x < key z in insert_here key x y ys (All-head P y ys high)
insert_between {A} key x (z ∷ zs) ys low high =
    let P : A → Type 0 = λ y. key y ≤ key x in
    insert_later key x z (zs ++ ys) (All-head P z zs low) ∙ ap (λ l. z ∷ l) (insert_between key x zs ys (All-tail P z zs low) high)

pub case_here : {A : Type 0} (key : A → ℕ) (x y : A) (ys : List A) → nat_lt (key x) (key y) ≡ true → insert_by key x (y ∷ ys) ≡ x ∷ y ∷ ys
unfolding insert_by
case_here key x y ys less = cond-true (nat_lt (key x) (key y)) (x ∷ y ∷ ys) (y ∷ insert_by key x ys) less

pub case_later : {A : Type 0} (key : A → ℕ) (x y : A) (ys : List A) → nat_lt (key x) (key y) ≡ false → insert_by key x (y ∷ ys) ≡ y ∷ insert_by key x ys
unfolding insert_by
case_later key x y ys more = cond-false (nat_lt (key x) (key y)) (x ∷ y ∷ ys) (y ∷ insert_by key x ys) more

-- within the first of two parts, where all of the second have greater keys
pub insert_within : {A : Type 0} (key : A → ℕ) (x : A) (ys zs : List A) → All (λ y. key x < key y) zs → insert_by key x (ys ++ zs) ≡ insert_by key x ys ++ zs
insert_within key x [] zs high = insert_between key x [] zs (All-nil (λ y. key y ≤ key x)) high ∙ ap (λ l. l ++ zs) (sym (insert_nil key x))
insert_within key x (y ∷ ys) zs high =
    elim (cases_Bool (nat_lt (key x) (key y))) [
      | inl less ↦ case_here key x y (ys ++ zs) less ∙ ap (λ l. l ++ zs) (sym (case_here key x y ys less))
      | inr more ↦ case_later key x y (ys ++ zs) more ∙ ap (λ l. y ∷ l) (insert_within key x ys zs high) ∙ ap (λ l. l ++ zs) (sym (case_later key x y ys more))
    ]

-- in the middle of three parts: behind all of the first
pub insert_behind : {A : Type 0} (key : A → ℕ) (x : A) (xs ys : List A) → All (λ y. key y ≤ key x) xs → insert_by key x (xs ++ ys) ≡ xs ++ insert_by key x ys
insert_behind key x [] ys low = refl
insert_behind {A} key x (z ∷ zs) ys low =
    let P : A → Type 0 = λ y. key y ≤ key x in
    insert_later key x z (zs ++ ys) (All-head P z zs low) ∙ ap (λ l. z ∷ l) (insert_behind key x zs ys (All-tail P z zs low))

-- what holds of each and of one more holds of each then, and the other way round
pub all_inserted : {A : Type 0} (P : A → Type 0) (key : A → ℕ) (x : A) (xs : List A) → P x → All P xs → All P (insert_by key x xs)
all_inserted P key x [] one each = All-same P (insert_by key x []) (x ∷ []) (insert_nil key x) (All-cons P x [] one each)
all_inserted P key x (y ∷ ys) one each =
    elim (cases_Bool (nat_lt (key x) (key y))) [
      | inl less ↦ All-same P (insert_by key x (y ∷ ys)) (x ∷ y ∷ ys) (case_here key x y ys less) (All-cons P x (y ∷ ys) one each)
      | inr more ↦ All-same P (insert_by key x (y ∷ ys)) (y ∷ insert_by key x ys) (case_later key x y ys more) (All-cons P y (insert_by key x ys) (All-head P y ys each) (all_inserted P key x ys one (All-tail P y ys each)))
    ]

pub all_but_inserted : {A : Type 0} (P : A → Type 0) (key : A → ℕ) (x : A) (xs : List A) → All P (insert_by key x xs) → All P xs
all_but_inserted P key x [] each = All-nil P
all_but_inserted P key x (y ∷ ys) each =
    elim (cases_Bool (nat_lt (key x) (key y))) [
      | inl less ↦ All-tail P x (y ∷ ys) (All-same P (x ∷ y ∷ ys) (insert_by key x (y ∷ ys)) (sym (case_here key x y ys less)) each)
      | inr more ↦
          let parts = All-same P (y ∷ insert_by key x ys) (insert_by key x (y ∷ ys)) (sym (case_later key x y ys more)) each in
          All-cons P y ys (All-head P y (insert_by key x ys) parts) (all_but_inserted P key x ys (All-tail P y (insert_by key x ys) parts))
    ]

-- what holds of each of two lists' elements holds of each of one's
pub all_left : {A : Type 0} (P : A → Type 0) (xs ys : List A) → All P (xs ++ ys) → All P xs
all_left P [] ys h = All-nil P
all_left P (x ∷ xs) ys h = All-cons P x xs (All-head P x (xs ++ ys) h) (all_left P xs ys (All-tail P x (xs ++ ys) h))

pub all_right : {A : Type 0} (P : A → Type 0) (xs ys : List A) → All P (xs ++ ys) → All P ys
all_right P [] ys h = h
all_right P (x ∷ xs) ys h = all_right P xs ys (All-tail P x (xs ++ ys) h)

-- a filter of those that all pass, or of those of which none does
pub filter_all : {A : Type 0} (p : A → Bool) (xs : List A) → All (λ x. p x ≡ true) xs → filter p xs ≡ xs
filter_all p [] h = refl
filter_all {A} p (x ∷ xs) h =
    let P : A → Type 0 = λ y. p y ≡ true in
    cond-true (p x) (x ∷ filter p xs) (filter p xs) (All-head P x xs h) ∙ ap (λ l. x ∷ l) (filter_all p xs (All-tail P x xs h))

pub filter_nothing : {A : Type 0} (p : A → Bool) (xs : List A) → All (λ x. p x ≡ false) xs → filter p xs ≡ []
filter_nothing p [] h = refl
filter_nothing {A} p (x ∷ xs) h =
    let P : A → Type 0 = λ y. p y ≡ false in
    cond-false (p x) (x ∷ filter p xs) (filter p xs) (All-head P x xs h) ∙ filter_nothing p xs (All-tail P x xs h)

-- and likewise of three parts
pub filter_parts : {A : Type 0} (p : A → Bool) (xs ys zs us vs ws : List A) → filter p xs ≡ us → filter p ys ≡ vs → filter p zs ≡ ws → filter p (xs ++ (ys ++ zs)) ≡ us ++ (vs ++ ws)
filter_parts p xs ys zs us vs ws a b c = filter-append p xs (ys ++ zs) ∙ ap (λ l. filter p xs ++ l) (filter-append p ys zs) ∙ (cc)

-- a test finds nothing where none passes, and elsewhere what it finds in the other part
pub any_nothing : {A : Type 0} (p : A → Bool) (xs : List A) → All (λ x. p x ≡ false) xs → list_any p xs ≡ false
any_nothing p [] h = refl
any_nothing {A} p (x ∷ xs) h =
    let P : A → Type 0 = λ y. p y ≡ false in
    or_from (p x) (list_any p xs) (All-head P x xs h) (any_nothing p xs (All-tail P x xs h))

pub any_behind : {A : Type 0} (p : A → Bool) (xs ys : List A) → All (λ x. p x ≡ false) xs → list_any p (xs ++ ys) ≡ list_any p ys
any_behind p [] ys h = refl
any_behind {A} p (x ∷ xs) ys h =
    let P : A → Type 0 = λ y. p y ≡ false in
    ap (λ b. b || list_any p (xs ++ ys)) (All-head P x xs h) ∙ any_behind p xs ys (All-tail P x xs h)

pub any_within : {A : Type 0} (p : A → Bool) (ys zs : List A) → All (λ x. p x ≡ false) zs → list_any p (ys ++ zs) ≡ list_any p ys
any_within p [] zs h = any_nothing p zs h
any_within p (y ∷ ys) zs h = ap (λ b. p y || b) (any_within p ys zs h)

pub any_left : {A : Type 0} (p : A → Bool) (xs ys : List A) → list_any p xs ≡ true → list_any p (xs ++ ys) ≡ true
any_left p [] ys h = absurd (false≢true h)
any_left p (x ∷ xs) ys h =
    elim (or_cases (p x) (list_any p xs) h) [
      | inl here ↦ or_left (p x) (list_any p (xs ++ ys)) here
      | inr later ↦ or_right (p x) (list_any p (xs ++ ys)) (any_left p xs ys later)
    ]

pub any_right : {A : Type 0} (p : A → Bool) (xs ys : List A) → list_any p ys ≡ true → list_any p (xs ++ ys) ≡ true
any_right p [] ys h = h
any_right p (x ∷ xs) ys h = or_right (p x) (list_any p (xs ++ ys)) (any_right p xs ys h)

pub any_weaker : {A : Type 0} (p q : A → Bool) (xs : List A) → ((x : A) → p x ≡ true → q x ≡ true) → list_any p xs ≡ true → list_any q xs ≡ true
any_weaker p q [] weaker h = h
any_weaker p q (x ∷ xs) weaker h =
    elim (or_cases (p x) (list_any p xs) h) [
      | inl here ↦ or_left (q x) (list_any q xs) (weaker x here)
      | inr later ↦ or_right (q x) (list_any q xs) (any_weaker p q xs weaker later)
    ]

-- likewise of what is found first
pub find_behind : {A : Type 0} (p : A → Bool) (xs ys : List A) → All (λ x. p x ≡ false) xs → find p (xs ++ ys) ≡ find p ys
find_behind p [] ys h = refl
find_behind {A} p (x ∷ xs) ys h =
    let P : A → Type 0 = λ y. p y ≡ false in
    cond-false (p x) (Some x) (find p (xs ++ ys)) (All-head P x xs h) ∙ find_behind p xs ys (All-tail P x xs h)

pub find_nothing : {A : Type 0} (p : A → Bool) (xs : List A) → All (λ x. p x ≡ false) xs → find p xs ≡ None
find_nothing p [] h = refl
find_nothing {A} p (x ∷ xs) h =
    let P : A → Type 0 = λ y. p y ≡ false in
    cond-false (p x) (Some x) (find p xs) (All-head P x xs h) ∙ find_nothing p xs (All-tail P x xs h)

pub find_within : {A : Type 0} (p : A → Bool) (ys zs : List A) → All (λ x. p x ≡ false) zs → find p (ys ++ zs) ≡ find p ys
find_within p [] zs h = find_nothing p zs h
find_within p (y ∷ ys) zs h = ap (λ o. cond (p y) (Some y) o) (find_within p ys zs h)

-- what is found first over the images of a function is the image of what is found over the elements
pub find_map : {A B : Type 0} (f : A → B) (p : B → Bool) (q : A → Bool) (xs : List A) → All (λ x. p (f x) ≡ q x) xs → find p (map f xs) ≡ option_map f (find q xs)
find_map f p q [] h = refl
find_map {A} {B} f p q (x ∷ xs) h =
    let P : A → Type 0 = λ y. p (f y) ≡ q y in
    let rest = find_map f p q xs (All-tail P x xs h) in
    let image : Option A → Option B = option_map f in
    elim (cases_Bool (q x)) [
      | inl passes ↦ cond-true (p (f x)) (Some (f x)) (find p (map f xs)) (All-head P x xs h ∙ passes) ∙ ap image (sym (cond-true (q x) (Some x) (find q xs) passes))
      | inr fails ↦ cond-false (p (f x)) (Some (f x)) (find p (map f xs)) (All-head P x xs h ∙ fails) ∙ rest ∙ ap image (sym (cond-false (q x) (Some x) (find q xs) fails))
    ]

-- tests are one where each passes when the other does
pub same_tests : (b c : Bool) → (b ≡ true → c ≡ true) → (c ≡ true → b ≡ true) → b ≡ c
same_tests true c there back = sym (there refl)
same_tests false true there back = back refl
same_tests false false there back = refl

-- the sum and the number with one more
pub sum_inserted : {A : Type 0} (key size : A → ℕ) (x : A) (xs : List A) → sum_by size (insert_by key x xs) ≡ size x + sum_by size xs
sum_inserted key size x [] = ap (λ l. sum_by size l) (insert_nil key x) ∙ sum_by-cons size x []
sum_inserted key size x (y ∷ ys) =
    elim (cases_Bool (nat_lt (key x) (key y))) [
      | inl less ↦ ap (λ l. sum_by size l) (case_here key x y ys less) ∙ sum_by-cons size x (y ∷ ys)
      | inr more ↦
          let deeper = sum_inserted key size x ys in
          let one = sum_by-cons size y (insert_by key x ys) in
          let two = sum_by-cons size y ys in
          ap (λ l. sum_by size l) (case_later key x y ys more) ∙ one ∙ omega arith
    ]

pub length_inserted : {A : Type 0} (key : A → ℕ) (x : A) (xs : List A) → length (insert_by key x xs) ≡ length xs + 1
length_inserted key x [] = ap (λ l. length l) (insert_nil key x)
length_inserted key x (y ∷ ys) =
    elim (cases_Bool (nat_lt (key x) (key y))) [
      | inl less ↦ let e = ap (λ l. length l) (case_here key x y ys less) in omega arith
      | inr more ↦ let e = ap (λ l. length l) (case_later key x y ys more) in let deeper = length_inserted key x ys in omega arith
    ]
