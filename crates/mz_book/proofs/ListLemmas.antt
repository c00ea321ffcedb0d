-- What a list of blocks has: after one more, without one, of those that pass a test; and lists and tests.
use Rattle.std.proofs.Common.{◌≡◌, Bool, true, false, cond, not, List, [], ◌∷◌, suc, zero, arith, subst, refl, ap, sym, ◌∙◌, inl, inr}
use Rattle.std.specs.Prelude.{◌&&◌, ◌||◌, filter, nat_lt, fold}
use Rattle.std.specs.List.{list_any, list_all, Contains}
use Rattle.std.proofs.lemmas.Bool.{cases_Bool, and_parts, and_from, false≢true}
use Rattle.mz_base.specs.Space.{Block, same_block}
use Rattle.mz_base.specs.Lists.{has_block, drop_block, add_block, insert_by}
use Rattle.mz_book.proofs.OwnerLemmas.{same_true, same_refl}

-- tests

pub or_elim : {P : Type 0} (a b : Bool) → (a ≡ true → P) → (b ≡ true → P) → (a || b) ≡ true → P
or_elim true b f g h = f refl
or_elim false b f g h = g h

pub or_left : (a b : Bool) → a ≡ true → (a || b) ≡ true
or_left true b h = refl
or_left false b h = absurd (false≢true h)

pub or_right : (a b : Bool) → b ≡ true → (a || b) ≡ true
or_right true b h = refl
or_right false b h = h

pub same_bool : (a b : Bool) → (a ≡ true → b ≡ true) → (b ≡ true → a ≡ true) → a ≡ b
same_bool true b f g = sym (f refl)
same_bool false true f g = g refl
same_bool false false f g = refl

pub not_false : (b : Bool) → not b ≡ true → b ≡ false
not_false true h = absurd (false≢true h)
not_false false h = refl

pub not_true : (b : Bool) → b ≡ false → not b ≡ true
not_true b h = ap not h

-- what a test finds

pub find_any : {A : Type 0} (test : A → Bool) (xs : List A) → list_any test xs ≡ true → (y : A) × (Contains xs y × (test y ≡ true))
find_any test [] h = absurd (false≢true h)
find_any test (x ∷ xs) h =
    or_elim (test x) (list_any test xs)
    (λ t. (x, ((0, omega arith, refl), t)))
    (λ t. let r = find_any test xs t in let l = r.1.0.1 in (r.0, ((suc r.1.0.0, omega arith, r.1.0.2), r.1.1)))
    h

pub any_from : {A : Type 0} (test : A → Bool) (xs : List A) (y : A) → Contains xs y → test y ≡ true → list_any test xs ≡ true
any_from test [] y c t = let l = c.1 in absurd (omega arith)
any_from test (x ∷ xs) y (zero, l, e) t = or_left (test x) (list_any test xs) (ap test e ∙ t)
any_from test (x ∷ xs) y (suc k, l, e) t = or_right (test x) (list_any test xs) (any_from test xs y (k, omega arith, e) t)

pub has_there : (bs : List Block) (x : Block) → has_block bs x ≡ true → Contains bs x
has_there bs x h = let r = find_any (same_block x) bs h in subst (Contains bs) (sym (same_true x r.0 r.1.1)) r.1.0

pub there_has : (bs : List Block) (x : Block) → Contains bs x → has_block bs x ≡ true
there_has bs x c = any_from (same_block x) bs x c (same_refl x)

-- one more, without one, those of a test

insert_case : (b x y : Block) (ys : List Block) (d : Bool) → has_block (insert_by (λ c. c.first) b ys) x ≡ (same_block x b || has_block ys x)
    → has_block (cond d (b ∷ y ∷ ys) (y ∷ insert_by (λ c. c.first) b ys)) x ≡ (same_block x b || (same_block x y || has_block ys x))
insert_case b x y ys true r = refl
insert_case b x y ys false r = ap (λ q. same_block x y || q) r ∙ swap (same_block x y) (same_block x b) (has_block ys x)
  where
    swap : (u v w : Bool) → (u || (v || w)) ≡ (v || (u || w))
    swap true true w = refl
    swap true false w = refl
    swap false v w = refl

pub has_added : (b x : Block) (bs : List Block) → has_block (add_block b bs) x ≡ (same_block x b || has_block bs x)
unfolding insert_by
has_added b x [] = refl
has_added b x (y ∷ ys) = insert_case b x y ys (nat_lt b.first y.first) (has_added b x ys)

drop_case : (b x y : Block) (ys zs : List Block) (d : Bool) → same_block b y ≡ d → has_block zs x ≡ (not (same_block x b) && has_block ys x)
    → has_block (cond (not d) (y ∷ zs) zs) x ≡ (not (same_block x b) && (same_block x y || has_block ys x))
drop_case b x y ys zs true e r = r ∙ sym (ap (λ z. not (same_block x b) && (same_block x z || has_block ys x)) (sym (same_true b y e)) ∙ gone (same_block x b) (has_block ys x))
  where
    gone : (u w : Bool) → (not u && (u || w)) ≡ (not u && w)
    gone true w = refl
    gone false w = refl
drop_case b x y ys zs false e r = elim (cases_Bool (same_block x b)) [
  | inl t ↦
      let n : same_block x y ≡ false = ap (λ z. same_block z y) (same_true x b t) ∙ e in
      ap (λ q. same_block x y || q) r ∙ rw (n, t) refl
  | inr t ↦ ap (λ q. same_block x y || q) r ∙ rw t refl
]

pub has_dropped : (b x : Block) (bs : List Block) → has_block (drop_block b bs) x ≡ (not (same_block x b) && has_block bs x)
has_dropped b x [] = elim (same_block x b) as (λ d. false ≡ (not d && false)) [ true ↦ refl | false ↦ refl ]
has_dropped b x (y ∷ ys) = drop_case b x y ys (drop_block b ys) (same_block b y) refl (has_dropped b x ys)

filter_case : (test : Block → Bool) (x y : Block) (ys zs : List Block) (d : Bool) → test y ≡ d → has_block zs x ≡ (test x && has_block ys x)
    → has_block (cond d (y ∷ zs) zs) x ≡ (test x && (same_block x y || has_block ys x))
filter_case test x y ys zs true e r = elim (cases_Bool (same_block x y)) [
  | inl t ↦ let u : test x ≡ true = ap test (same_true x y t) ∙ e in ap (λ q. same_block x y || q) r ∙ rw (t, u) refl
  | inr t ↦ ap (λ q. same_block x y || q) r ∙ rw t refl
]
filter_case test x y ys zs false e r = elim (cases_Bool (same_block x y)) [
  | inl t ↦ let u : test x ≡ false = ap test (same_true x y t) ∙ e in r ∙ rw u refl
  | inr t ↦ r ∙ rw t refl
]

pub has_filtered : (test : Block → Bool) (x : Block) (bs : List Block) → has_block (filter test bs) x ≡ (test x && has_block bs x)
has_filtered test x [] = elim (test x) as (λ d. false ≡ (d && false)) [ true ↦ refl | false ↦ refl ]
has_filtered test x (y ∷ ys) = filter_case test x y ys (filter test ys) (test y) refl (has_filtered test x ys)

pub has_all_added : (x : Block) (bs more : List Block) → has_block (fold (λ cs b. add_block b cs) bs more) x ≡ (has_block more x || has_block bs x)
has_all_added x bs [] = refl
has_all_added x bs (y ∷ ys) = has_all_added x (add_block y bs) ys ∙ (ap (λ q. has_block ys x || q) (has_added y x bs) ∙ swap (has_block ys x) (same_block x y) (has_block bs x))
  where
    swap : (u v w : Bool) → (u || (v || w)) ≡ ((v || u) || w)
    swap true true w = refl
    swap true false w = refl
    swap false true w = refl
    swap false false w = refl

all_kept_case : {A : Type 0} (x : A) (xs : List A) (d : Bool) → d ≡ true → cond d (x ∷ xs) xs ≡ x ∷ xs
all_kept_case x xs true e = refl
all_kept_case x xs false e = absurd (false≢true e)

pub all_kept : {A : Type 0} (test : A → Bool) (xs : List A) → list_all test xs ≡ true → filter test xs ≡ xs
all_kept test [] h = refl
all_kept test (x ∷ xs) h = let t = and_parts (test x) (list_all test xs) h in all_kept_case x (filter test xs) (test x) t.0 ∙ ap (λ ys. x ∷ ys) (all_kept test xs t.1)

pub all_at : {A : Type 0} (test : A → Bool) (xs : List A) (y : A) → list_all test xs ≡ true → Contains xs y → test y ≡ true
all_at test [] y h c = let l = c.1 in absurd (omega arith)
all_at test (x ∷ xs) y h (zero, l, e) = ap test (sym e) ∙ (and_parts (test x) (list_all test xs) h).0
all_at test (x ∷ xs) y h (suc k, l, e) = all_at test xs y ((and_parts (test x) (list_all test xs) h).1) (k, omega arith, e)

pub all_from : {A : Type 0} (test : A → Bool) (xs : List A) → ((y : A) → Contains xs y → test y ≡ true) → list_all test xs ≡ true
all_from test [] f = refl
all_from test (x ∷ xs) f = and_from (test x) (list_all test xs) (f x (0, omega arith, refl)) (all_from test xs (λ y c. let l = c.1 in f y (suc c.0, omega arith, c.2)))
