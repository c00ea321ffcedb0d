-- Names and the numbers of callers are read again from the words that they are written as.
use Rattle.std.proofs.Common.{codes, ◌≡◌, ℕ, suc, ◌+◌, ◌<◌, ◌^◌, true, false, List, [], ◌∷◌, ◌++◌, length, drop, eqb, ltb, leb, arith, refl, sym, ap, ◌∙◌, inl, inr, Some, None, length-append}
use Rattle.std.specs.Prelude.{◌&&◌}
use Rattle.std.specs.List.{list_all}
use Rattle.std.specs.Str.{bytes_eq}
use Rattle.std.specs.Fmt.{decimal}
use Rattle.std.proofs.lemmas.Bool.{and_parts, and_from, or_cases, false_from_ne_true, cond-true, leb-true, le-leb, lt-ltb, ltb-true, ne_eqb}
use Rattle.std.proofs.lemmas.List.Folds.{list_all-append}
use Rattle.std.proofs.lemmas.Slice.Eq.{bytes_eq-Decides}
use Rattle.std.proofs.Math.Seq.{take-append_seam}
use Rattle.mz_base.specs.Names.{is_null, is_letter, is_digit, is_letter_or_digit, is_base_name}
use Rattle.mz_words.specs.declared.name.BatchName.{BatchName}
use Rattle.mz_words.specs.declared.name.GivenName.{GivenName}
use Rattle.mz_words.specs.declared.name.Name.{Name}
use Rattle.mz_words.specs.Numbers.{is_from, number_of, number_from, caller_of}
use Rattle.mz_words.specs.Names.{is_batch_name, name_word, batch_word, given_word, name_fits, base_of, batch_of, given_of, name_of}
use Rattle.mz_words.proofs.NumberLemmas.{is_number-decimal, value_of-decimal}
use Rattle.mz_words.proofs.NameReading.{at_dot, at_dot-cons, number_of_number, number_from_number, base_of_base, base_none, batch_none}
use Rattle.mz_words.specs.declared.name.Name.TheVariants as name

pub number_of-decimal : (n : ℕ) → n < 2 ^ 64 → number_of (decimal n) ≡ Some n
number_of-decimal n lt = number_of_number (decimal n) (is_number-decimal n lt) ∙ ap (λ (m : ℕ). Some m) (value_of-decimal n lt)

pub number_from-decimal : (least most n : ℕ) → n < 2 ^ 64 → is_from least most n ≡ true → number_from least most (decimal n) ≡ Some n
number_from-decimal least most n lt e =
    number_from_number least most (decimal n) (is_number-decimal n lt) (rw (value_of-decimal n lt) e) ∙ ap (λ (m : ℕ). Some m) (value_of-decimal n lt)

pub caller_of-decimal : (callers n : ℕ) → n < 2 ^ 64 → ltb n callers ≡ true → caller_of callers (decimal n) ≡ Some n
caller_of-decimal callers n lt e = rw (number_of-decimal n lt) (cond-true _ _ _ e)

-- a base name has no dot
no_dot : (c : ℕ) → is_letter_or_digit c ≡ true → eqb c 46 ≡ false
no_dot c e = elim (or_cases (is_letter c) (is_digit c) e) [
  | inl l ↦ let low = leb-true _ _ (and_parts (leb 97 c) (leb c 122) l).0 in ne_eqb c 46 (λ h. absurd (omega (arith, low)))
  | inr d ↦ let low = leb-true _ _ (and_parts (leb 48 c) (leb c 57) d).0 in ne_eqb c 46 (λ h. absurd (omega (arith, low)))
]

all_letters : (w : List ℕ) → is_base_name w ≡ true → list_all is_letter_or_digit w ≡ true
all_letters [] e = refl
all_letters (c ∷ cs) e =
    let a = and_parts _ _ e in
    let b = and_parts _ _ a.0 in
    let d = and_parts (is_letter c) (list_all is_letter_or_digit cs) b.0 in
    and_from _ _ (rw d.0 refl) d.1

dot_behind : (w rest : List ℕ) → list_all is_letter_or_digit w ≡ true → at_dot (w ++ 46 ∷ rest) ≡ length w
dot_behind [] rest e = refl
dot_behind (c ∷ cs) rest e =
    let both = and_parts (is_letter_or_digit c) (list_all is_letter_or_digit cs) e in
    at_dot-cons c (cs ++ 46 ∷ rest) (no_dot c both.0) ∙ ap suc (dot_behind cs rest both.1)

no_base : (w rest : List ℕ) → is_base_name (w ++ 46 ∷ rest) ≡ true → ⊥
no_base w rest e =
    let all = all_letters (w ++ 46 ∷ rest) e in
    let both = and_parts (list_all is_letter_or_digit w) (list_all is_letter_or_digit (46 ∷ rest)) (sym (list_all-append is_letter_or_digit w (46 ∷ rest)) ∙ all) in
    let dot : (false && list_all is_letter_or_digit rest) ≡ true = both.1 in absurd cc

pub base_of-batch : (b : BatchName) → base_of (batch_word b) ≡ None
base_of-batch b = base_none (batch_word b) (false_from_ne_true _ (no_base b.base (decimal b.index)))

below_index : (n : ℕ) → ltb n 4096 ≡ true → is_from 0 4095 n ≡ true
below_index n e = let lt = ltb-true _ _ e in and_from _ _ (le-leb 0 n (omega arith)) (le-leb n 4095 (omega (arith, lt)))

drop_after : (w rest : List ℕ) → drop (length w + 1) (w ++ 46 ∷ rest) ≡ rest
drop_after [] rest = refl
drop_after (c ∷ cs) rest = let s : suc (length cs) + 1 ≡ suc (length cs + 1) = omega arith in rw s (drop_after cs rest)

pub batch_of-word : (b : BatchName) → name_fits (name.Batch b) ≡ true → batch_of (batch_word b) ≡ Some b
batch_of-word b e =
    let both = and_parts (is_base_name b.base) (ltb b.index 4096) e in
    let lt = ltb-true _ _ both.1 in
    let at = dot_behind b.base (decimal b.index) (all_letters b.base both.0) in
    let long : ltb (length b.base) (length (b.base ++ 46 ∷ decimal b.index)) ≡ true = lt-ltb _ _ (let l = length-append b.base (46 ∷ decimal b.index) in omega (arith, l)) in
    rw at (rw long (rw (take-append_seam b.base (46 ∷ decimal b.index)) (rw (base_of_base b.base both.0) (rw (drop_after b.base (decimal b.index)) (rw (number_from-decimal 0 4095 b.index (omega (arith, lt)) (below_index b.index both.1)) refl)))))

-- a given name is of no other form
no_batch : (w : List ℕ) → is_batch_name (64 ∷ w) ≡ false
no_batch w = rw (at_dot-cons 64 w refl) refl

pub batch_of-given : (g : GivenName) → batch_of (given_word g) ≡ None
batch_of-given g = batch_none (64 ∷ g.base) (no_batch g.base)

pub given_of-word : (g : GivenName) → is_base_name g.base ≡ true → given_of (given_word g) ≡ Some g
given_of-word g e = rw (base_of_base g.base e) refl

pub name_of-word : (n : Name) → name_fits n ≡ true → name_of (name_word n) ≡ Some n
name_of-word (name.Base b) e = rw (base_of_base b e) refl
name_of-word (name.Batch b) e = rw (base_of-batch b) (rw (batch_of-word b e) refl)
name_of-word (name.Given g) e = rw (batch_of-given g) (rw (given_of-word g e) refl)

pub same_word : (w : List ℕ) → bytes_eq w w ≡ true
same_word w = (bytes_eq-Decides w w).1 refl

pub below_callers : (callers n : ℕ) → callers < 2 ^ 64 → ltb n callers ≡ true → n < 2 ^ 64
below_callers callers n few h = let lt = ltb-true n callers h in omega (arith, lt)

null_is : (w : List ℕ) → is_null w ≡ true → codes "null" ≡ w
null_is w e = sym ((bytes_eq-Decides w (codes "null")).0 e)

null_name : (w : List ℕ) (n : Name) → name_of w ≡ Some n → is_null w ≡ true → ⊥
null_name w n e null = let bad : name_of (codes "null") ≡ Some n = ap name_of (null_is w null) ∙ e in absurd cc

pub not_null : (n : Name) → name_fits n ≡ true → is_null (name_word n) ≡ false
not_null n e = false_from_ne_true _ (null_name (name_word n) n (name_of-word n e))

pub batch_no_base : (b : BatchName) → is_base_name (batch_word b) ≡ false
batch_no_base b = false_from_ne_true _ (no_base b.base (decimal b.index))
