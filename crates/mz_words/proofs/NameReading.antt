-- Names that are read from words: a word of the form of a name is how the name that is read from it is written.
use Rattle.std.proofs.Common.{◌≡◌, ℕ, suc, ◌+◌, ◌<◌, ◌≤◌, Bool, true, false, List, [], ◌∷◌, ◌++◌, length, take, drop, eqb, ltb, leb, arith, refl, sym, ap, ◌∙◌, inl, inr, Option, Some, None}
use Rattle.std.specs.Prelude.{◌||◌, is_some}
use Rattle.std.specs.List.{position_or_len}
use Rattle.std.proofs.lemmas.Bool.{cases_Bool, and_parts, and_from, cond-true, cond-false, lt-ltb, ltb-true, ltb-false, eqb-true, both_ways, leb-true}
use Rattle.std.proofs.lemmas.List.{length-drop, nil_from_length}
use Rattle.mz_base.specs.Names.{is_base_name}
use Rattle.mz_words.specs.declared.name.BatchName.{BatchName}
use Rattle.mz_words.specs.declared.name.GivenName.{GivenName}
use Rattle.mz_words.specs.declared.name.Name.{Name}
use Rattle.mz_words.specs.Numbers.{value_of, is_number, is_from, is_number_from, number_of, number_from}
use Rattle.mz_words.specs.Names.{is_name, is_batch_name, is_given_name, name_word, batch_word, given_word, name_fits, base_of, batch_of, given_of, name_of}
use Rattle.mz_words.proofs.NumberLemmas.{decimal-value_of}
use Rattle.mz_words.proofs.NameLemmas.{is_some-batch_of}
use Rattle.mz_words.specs.declared.name.Name.TheVariants as name

-- numbers within limits
pub number_of_number : (w : List ℕ) → is_number w ≡ true → number_of w ≡ Some (value_of w)
number_of_number w e = cond-true (is_number w) (Some (value_of w)) None e

pub number_from_number : (least most : ℕ) (w : List ℕ) → is_number w ≡ true → is_from least most (value_of w) ≡ true → number_from least most w ≡ Some (value_of w)
number_from_number least most w e limits = rw e (cond-true _ _ _ limits)

pub base_of_base : (w : List ℕ) → is_base_name w ≡ true → base_of w ≡ Some w
base_of_base w e = cond-true (is_base_name w) (Some w) None e

-- the place of the first dot
abbrev pub at_dot : List ℕ → ℕ
at_dot w = position_or_len (λ c. eqb c 46) w

pub at_dot-cons : (b : ℕ) (bs : List ℕ) → eqb b 46 ≡ false → at_dot (b ∷ bs) ≡ suc (at_dot bs)
at_dot-cons b bs e = rw e (let s : 1 + at_dot bs ≡ suc (at_dot bs) = omega arith in s)

dot_parts : (w : List ℕ) → at_dot w < length w → take (at_dot w) w ++ 46 ∷ drop (at_dot w + 1) w ≡ w
dot_parts [] lt = absurd (omega arith)
dot_parts (b ∷ bs) lt =
    elim (cases_Bool (eqb b 46)) [
      | inl e ↦ rw e (ap (λ (x : ℕ). x ∷ bs) (sym (eqb-true b 46 e)))
      | inr e ↦
          let further = at_dot-cons b bs e in
          let shorter : at_dot bs < length bs = omega (arith, further) in
          let s : suc (at_dot bs) + 1 ≡ suc (at_dot bs + 1) = omega arith in
          rw further (rw s (ap (λ (x : List ℕ). b ∷ x) (dot_parts bs shorter)))
    ]

no_number : (w : List ℕ) → w ≡ [] → is_number w ≡ true → ⊥
no_number w e num = both_ways (is_number w) (rw e refl) num

has_dot : (w : List ℕ) → is_number (drop (at_dot w + 1) w) ≡ true → at_dot w < length w
has_dot w num =
    elim (cases_Bool (ltb (at_dot w) (length w))) [
      | inl e ↦ ltb-true _ _ e
      | inr e ↦
          let le : length w ≤ at_dot w = ltb-false _ _ e in
          absurd (no_number (drop (at_dot w + 1) w) (nil_from_length _ (omega (arith, length-drop (at_dot w + 1) w))) num)
    ]

-- the name of a block of a batch
pub record IsBatch (w : List ℕ) (b : BatchName) : Type 0 where
  pub read : batch_of w ≡ Some b
  pub word : batch_word b ≡ w
  pub fits : name_fits (name.Batch b) ≡ true

abbrev batch_name : List ℕ → ℕ → BatchName
batch_name base index = record { base = base; index = index }

below_4096 : (n : ℕ) → is_from 0 4095 n ≡ true → ltb n 4096 ≡ true
below_4096 n e = lt-ltb n 4096 (let most = leb-true n 4095 (and_parts (leb 0 n) (leb n 4095) e).1 in omega arith)

pub batch_read : (w : List ℕ) → is_batch_name w ≡ true → (b : BatchName) × IsBatch w b
batch_read w e =
    let p = at_dot w in
    let parts = and_parts (is_base_name (take p w)) (is_number_from 0 4095 (drop (p + 1) w)) e in
    let number = and_parts (is_number (drop (p + 1) w)) (is_from 0 4095 (value_of (drop (p + 1) w))) parts.1 in
    let dot : p < length w = has_dot w number.0 in
    let found : ltb p (length w) ≡ true = lt-ltb _ _ dot in
    let index = number_from_number 0 4095 (drop (p + 1) w) number.0 number.1 in (
      batch_name (take p w) (value_of (drop (p + 1) w)),
      record {
        read = rw found (rw (base_of_base (take p w) parts.0) (rw index refl));
        word = rw (decimal-value_of (drop (p + 1) w) number.0) (dot_parts w dot);
        fits = and_from _ _ parts.0 (below_4096 _ number.1);
      },
    )

-- a given name
pub record IsGiven (w : List ℕ) (g : GivenName) : Type 0 where
  pub read : given_of w ≡ Some g
  pub word : given_word g ≡ w
  pub fits : is_base_name g.base ≡ true

abbrev given_name : List ℕ → GivenName
given_name base = record { base = base }

pub given_read : (w : List ℕ) → is_given_name w ≡ true → (g : GivenName) × IsGiven w g
given_read [] e = absurd cc
given_read (c ∷ cs) e =
    let parts = and_parts (eqb c 64) (is_base_name cs) e in
    (given_name cs, record { read = rw parts.0 (rw (base_of_base cs parts.1) refl); word = ap (λ (x : ℕ). x ∷ cs) (sym (eqb-true c 64 parts.0)); fits = parts.1 })

-- a name of any form
pub record IsRead (w : List ℕ) (n : Name) : Type 0 where
  pub read : name_of w ≡ Some n
  pub word : name_word n ≡ w
  pub fits : name_fits n ≡ true

none_of : {A : Type 0} (o : Option A) → is_some o ≡ false → o ≡ None
none_of None e = refl
none_of (Some x) e = absurd cc

pub batch_none : (w : List ℕ) → is_batch_name w ≡ false → batch_of w ≡ None
batch_none w e = none_of (batch_of w) (is_some-batch_of w ∙ e)

pub base_none : (w : List ℕ) → is_base_name w ≡ false → base_of w ≡ None
base_none w e = cond-false (is_base_name w) (Some w) None e

longer_read : (w : List ℕ) → is_base_name w ≡ false → (is_batch_name w || is_given_name w) ≡ true → (n : Name) × IsRead w n
longer_read w plain e =
    elim (cases_Bool (is_batch_name w)) [
      | inl so ↦
          let b = batch_read w so in
          (name.Batch b.0, record { read = rw (base_none w plain) (rw b.1.read refl); word = b.1.word; fits = b.1.fits })
      | inr nay ↦
          let given : is_given_name w ≡ true = rw nay at e in
          let g = given_read w given in
          (name.Given g.0, record { read = rw (base_none w plain) (rw (batch_none w nay) (rw g.1.read refl)); word = g.1.word; fits = g.1.fits })
    ]

either_longer : (b1 b2 b3 : Bool) → b1 ≡ false → (b1 || b2 || b3) ≡ true → (b2 || b3) ≡ true
either_longer true b2 b3 plain e = absurd cc
either_longer false b2 b3 plain e = e

pub name_read : (w : List ℕ) → is_name w ≡ true → (n : Name) × IsRead w n
name_read w e =
    elim (cases_Bool (is_base_name w)) [
      | inl so ↦ (name.Base w, record { read = rw (base_of_base w so) refl; word = refl; fits = so })
      | inr nay ↦ longer_read w nay (either_longer (is_base_name w) (is_batch_name w) (is_given_name w) nay e)
    ]
