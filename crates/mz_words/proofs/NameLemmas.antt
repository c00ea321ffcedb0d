-- Names as words: what reading gives, and that each is written in one way.
use Rattle.std.proofs.Common.{◌≡◌, ℕ, ◌+◌, ◌≤◌, Bool, true, false, List, [], length, take, drop, eqb, ltb, cond, arith, refl, sym, ◌∙◌, inl, inr, Option, Some, None}
use Rattle.std.specs.Prelude.{◌&&◌, is_some}
use Rattle.std.specs.List.{position_or_len}
use Rattle.std.proofs.lemmas.Bool.{cases_Bool, and_right, ltb-false}
use Rattle.std.proofs.lemmas.List.{length-drop, nil_from_length}
use Rattle.mz_base.specs.Names.{is_base_name}
use Rattle.mz_words.specs.declared.name.BatchName.{BatchName}
use Rattle.mz_words.specs.Numbers.{value_of, is_number, is_from, is_number_from, ◌>>=◌, number_from}
use Rattle.mz_words.specs.Names.{is_batch_name, batch_of}

-- reading one word, and then more
if_case : {A B : Type 0} (b : Bool) (x : A) (f : A → Option B) (r : Bool) → is_some (f x) ≡ r → is_some (cond b (Some x) None >>= f) ≡ (b && r)
if_case true x f r e = e
if_case false x f r e = refl

bind_some : {A B : Type 0} (o : Option A) (f : A → B) → is_some (o >>= λ x. Some (f x)) ≡ is_some o
bind_some None f = refl
bind_some (Some x) f = refl

if_some : {A : Type 0} (b : Bool) (x : A) → is_some (cond b (Some x) None) ≡ b
if_some true x = refl
if_some false x = refl

pub is_some-number_from : (least most : ℕ) (w : List ℕ) → is_some (number_from least most w) ≡ is_number_from least most w
is_some-number_from least most w =
    if_case (is_number w) (value_of w) (λ n. cond (is_from least most n) (Some n) None) (is_from least most (value_of w)) (if_some (is_from least most (value_of w)) (value_of w))

no_number : (w : List ℕ) → w ≡ [] → is_number_from 0 4095 w ≡ false
no_number w e = rw e refl

past : (w : List ℕ) (p : ℕ) → length w ≤ p → drop (p + 1) w ≡ []
past w p le = nil_from_length (drop (p + 1) w) (omega (arith, length-drop (p + 1) w))

abbrev batch_name : List ℕ → ℕ → BatchName
batch_name base index = record { base = base; index = index }

pub is_some-batch_of : (w : List ℕ) → is_some (batch_of w) ≡ is_batch_name w
is_some-batch_of w =
    let p = position_or_len (λ c. eqb c 46) w in
    elim (cases_Bool (ltb p (length w))) [
      | inl lt ↦
          rw lt
          (if_case (is_base_name (take p w)) (take p w) (λ base. number_from 0 4095 (drop (p + 1) w) >>= λ index. Some (batch_name base index)) (is_number_from 0 4095 (drop (p + 1) w))
          (bind_some (number_from 0 4095 (drop (p + 1) w)) (batch_name (take p w)) ∙ is_some-number_from 0 4095 (drop (p + 1) w)))
      | inr ge ↦ rw ge (sym (and_right (is_base_name (take p w)) _ (no_number _ (past w p (ltb-false _ _ ge)))))
    ]
