-- A word that is read as a number or a name is how that number or name is written.
use Rattle.std.proofs.Common.{◌≡◌, ℕ, ◌<◌, ◌^◌, Bool, true, false, List, [], ◌∷◌, eqb, ltb, cond, arith, refl, sym, ap, ◌∙◌, ◌⊎◌, inl, inr, Option, Some, None}
use Rattle.std.specs.Prelude.{is_some}
use Rattle.std.specs.Fmt.{decimal}
use Rattle.std.specs.Str.{bytes_eq}
use Rattle.std.proofs.lemmas.Bool.{lt-ltb, eqb-true, cases_Bool}
use Rattle.std.proofs.lemmas.Slice.Eq.{bytes_eq-Decides}
use Rattle.mz_base.specs.Names.{is_base_name}
use Rattle.mz_words.specs.declared.name.BatchName.{BatchName}
use Rattle.mz_words.specs.declared.name.GivenName.{GivenName}
use Rattle.mz_words.specs.declared.name.Name.{Name}
use Rattle.mz_words.specs.Numbers.{number_of, is_from, is_number, value_of, ◌>>=◌, is_u64, number_from, caller_of}
use Rattle.mz_words.specs.Names.{batch_word, given_word, name_word, name_fits, base_of, given_of, batch_of, name_of, longer_name_of}
use Rattle.mz_words.proofs.NumberLemmas.{number_parts, decimal-value_of}
use Rattle.mz_words.proofs.NameLemmas.{is_some-batch_of}
use Rattle.mz_words.proofs.NameReading.{batch_read}
use Rattle.mz_words.specs.declared.name.Name.TheVariants as name

-- what reading one value after another comes to
pub bind_parts : {A B : Type 0} (o : Option A) (f : A → Option B) (y : B) → (o >>= f) ≡ Some y → (x : A) × (o ≡ Some x) × (f x ≡ Some y)
bind_parts None f y h = absurd (cc)
bind_parts (Some x) f y h = (x, refl, h)

pub some_same : {A : Type 0} (x y : A) → Some x ≡ Some y → x ≡ y
some_same x y h = cc

pub if_parts : {A : Type 0} (b : Bool) (x y : A) → cond b (Some x) None ≡ Some y → (b ≡ true) × (x ≡ y)
if_parts true x y h = (refl, some_same x y h)
if_parts false x y h = absurd (cc)

pub when_parts : {A : Type 0} (b : Bool) (o : Option A) (y : A) → cond b o None ≡ Some y → (b ≡ true) × (o ≡ Some y)
when_parts true o y h = (refl, h)
when_parts false o y h = absurd (cc)

pub if_else : {A : Type 0} (b : Bool) (o p : Option A) (y : A) → cond b o p ≡ Some y → ((b ≡ true) × (o ≡ Some y)) ⊎ (p ≡ Some y)
if_else true o p y h = inl (refl, h)
if_else false o p y h = inr h

cases_option : {A : Type 0} (o : Option A) → (o ≡ None) ⊎ ((x : A) × (o ≡ Some x))
cases_option None = inl refl
cases_option (Some x) = inr (x, refl)

pub same_word : (w v : List ℕ) → bytes_eq w v ≡ true → w ≡ v
same_word w v h = (bytes_eq-Decides w v).0 h

-- numbers
pub number_spelled : (w : List ℕ) (n : ℕ) → number_of w ≡ Some n → (w ≡ decimal n) × (is_u64 n ≡ true)
number_spelled w n h =
    let p = if_parts (is_number w) (value_of w) n h in
    let below : value_of w < 2 ^ 64 = (number_parts w p.0).below in
    let same : value_of w ≡ n = p.1 in
    (sym (decimal-value_of w p.0) ∙ ap decimal same, lt-ltb _ _ (omega arith))

pub limited_spelled : (least most : ℕ) (w : List ℕ) (n : ℕ) → number_from least most w ≡ Some n → (w ≡ decimal n) × (is_from least most n ≡ true)
limited_spelled least most w n h =
    let b = bind_parts (number_of w) (λ m. cond (is_from least most m) (Some m) None) n h in
    let p = if_parts (is_from least most b.0) b.0 n b.2 in
    ((number_spelled w b.0 b.1).0 ∙ ap decimal p.1, ap (is_from least most) (sym p.1) ∙ p.0)

pub caller_spelled : (callers : ℕ) (w : List ℕ) (n : ℕ) → caller_of callers w ≡ Some n → (w ≡ decimal n) × (ltb n callers ≡ true)
caller_spelled callers w n h =
    let b = bind_parts (number_of w) (λ m. cond (ltb m callers) (Some m) None) n h in
    let p = if_parts (ltb b.0 callers) b.0 n b.2 in
    ((number_spelled w b.0 b.1).0 ∙ ap decimal p.1, ap (λ (m : ℕ). ltb m callers) (sym p.1) ∙ p.0)

-- names
pub base_spelled : (w v : List ℕ) → base_of w ≡ Some v → (w ≡ v) × (is_base_name v ≡ true)
base_spelled w v h = let p = if_parts (is_base_name w) w v h in (p.1, ap is_base_name (sym p.1) ∙ p.0)

pub given_spelled : (w : List ℕ) (g : GivenName) → given_of w ≡ Some g → (w ≡ given_word g) × (is_base_name g.base ≡ true)
given_spelled [] g h = absurd (cc)
given_spelled (c ∷ cs) g h =
    let p = when_parts (eqb c 64) _ g h in
    let b = bind_parts (base_of cs) _ g p.1 in
    let s = base_spelled cs b.0 b.1 in
    let same = ap (λ (x : GivenName). x.base) (some_same _ g b.2) in
    (ap (λ (x : ℕ). x ∷ cs) (eqb-true c 64 p.0) ∙ ap (λ (x : List ℕ). 64 ∷ x) (s.0 ∙ same), ap is_base_name (sym same) ∙ s.1)

batch_spelled : (w : List ℕ) (b : BatchName) → batch_of w ≡ Some b → (w ≡ batch_word b) × (name_fits (name.Batch b) ≡ true)
batch_spelled w b h =
    let r = batch_read w (sym (is_some-batch_of w) ∙ ap is_some h) in
    let same : r.0 ≡ b = some_same r.0 b (sym r.1.read ∙ h) in
    (sym r.1.word ∙ ap batch_word same, ap (λ (x : BatchName). name_fits (name.Batch x)) (sym same) ∙ r.1.fits)

pub record NameSpelled (w : List ℕ) (n : Name) : Type 0 where
  pub word : w ≡ name_word n
  pub fits : name_fits n ≡ true

is_name_of : (w : List ℕ) (m n : Name) → m ≡ n → w ≡ name_word m → name_fits m ≡ true → NameSpelled w n
is_name_of w m n same word fits = record { word = word ∙ ap name_word same; fits = ap name_fits (sym same) ∙ fits }

longer_spelled : (w : List ℕ) (n : Name) → longer_name_of w ≡ Some n → NameSpelled w n
longer_spelled w n h =
    elim (cases_option (batch_of w)) [
      | inl none ↦
          let rest : (given_of w >>= λ g. Some (name.Given g)) ≡ Some n = rw none at h in
          let g = bind_parts (given_of w) _ n rest in
          let s = given_spelled w g.0 g.1 in
          is_name_of w (name.Given g.0) n (some_same _ n g.2) s.0 s.1
      | inr b ↦
          let so : batch_of w ≡ Some b.0 = b.1 in
          let same : Some (name.Batch b.0) ≡ Some n = rw so at h in
          let s = batch_spelled w b.0 so in
          is_name_of w (name.Batch b.0) n (some_same _ n same) s.0 s.1
    ]

pub name_spelled : (w : List ℕ) (n : Name) → name_of w ≡ Some n → (w ≡ name_word n) × (name_fits n ≡ true)
name_spelled w n h =
    elim (cases_Bool (is_base_name w)) [
      | inl base ↦
          let same : Some (name.Base w) ≡ Some n = rw base at h in
          let s = is_name_of w (name.Base w) n (some_same _ n same) refl base in (s.word, s.fits)
      | inr other ↦
          let rest : longer_name_of w ≡ Some n = rw other at h in
          let s = longer_spelled w n rest in (s.word, s.fits)
    ]
