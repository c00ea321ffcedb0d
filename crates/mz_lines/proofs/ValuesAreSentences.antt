-- Values that stand for sentences of a family: what is written of them is read again, and what is read is written.
use Rattle.std.proofs.Common.{◌≡◌, ℕ, ◌<◌, ◌≤◌, ◌^◌, true, map, List, [], length, arith, sym, ap, ◌∙◌, lit<, lit≤, Option, Some}
use Rattle.std.proofs.lemmas.List.{length-map}
use Rattle.mz_words.specs.declared.kind.Word.{Word}
use Rattle.mz_words.specs.declared.table.Form.{Form}
use Rattle.mz_words.specs.declared.table.Form.TheVariants as form
use Rattle.mz_words.specs.declared.sentence.Sentence.{Sentence}
use Rattle.mz_words.specs.Numbers.{◌>>=◌}
use Rattle.mz_words.specs.Kinds.{kind_of, word_text}
use Rattle.mz_words.specs.Table.{form_among, form_word, kinds_of}
use Rattle.mz_words.specs.Sentences.{words_fit, sentence_in, sentence_words, IsSentence}
use Rattle.mz_words.specs.Laws.{WordLaws}
use Rattle.mz_lines.specs.Laws.{Holds}
use Rattle.mz_lines.proofs.Options.{bind_parts, some_same}

-- a conversion to sentences of these forms, and back
pub record Converts (A : Type 0) (callers : ℕ) (forms : List Form) (to : A → Sentence) (of : Form → List Word → Option A) : Type 0 where
  pub told : (x : A) → of (to x).form (to x).words ≡ Some x
  pub form : (x : A) → form_among forms (form_word (to x).form) ≡ Some (to x).form
  pub kinds : (x : A) → map kind_of (to x).words ≡ kinds_of (to x).form
  pub back : (s : Sentence) (x : A) → IsSentence callers forms s → of s.form s.words ≡ Some x → to x ≡ s

pub of_some : {A : Type 0} (to : A → Sentence) (a x : A) (s : Sentence) → Some a ≡ Some x → to a ≡ s → to x ≡ s
of_some to a x s e h = ap to (sym (some_same a x e)) ∙ h

pub again : {A : Type 0} (callers : ℕ) (forms : List Form) (to : A → Sentence) (of : Form → List Word → Option A) → WordLaws → Converts A callers forms to of
    → (x : A) → callers < 2 ^ 64 → words_fit callers [] (to x).words ≡ true → (sentence_in callers forms (sentence_words (to x)) >>= λ s. of s.form s.words) ≡ Some x
again {A} callers forms to of k c x few h =
    ap (λ (o : Option Sentence). o >>= λ s. of s.form s.words)
    (k.sentences.again callers forms (to x) few (record { form = c.form x; kinds = c.kinds x; fits = h })) ∙ c.told x

pub spelled : {A : Type 0} (callers : ℕ) (forms : List Form) (to : A → Sentence) (of : Form → List Word → Option A) → WordLaws → Converts A callers forms to of
    → (ts : List (List ℕ)) (x : A) → (sentence_in callers forms ts >>= λ s. of s.form s.words) ≡ Some x → (ts ≡ sentence_words (to x)) × (words_fit callers [] (to x).words ≡ true)
spelled {A} callers forms to of k c ts x h =
    let p = bind_parts (sentence_in callers forms ts) (λ s. of s.form s.words) x h in
    let s = k.sentences.spelled callers forms ts p.0 p.1 in
    let e = c.back p.0 x s.1 p.2 in
    (s.0 ∙ ap sentence_words (sym e), ap (λ (y : Sentence). words_fit callers [] y.words) e ∙ s.1.fits)

-- without callers
pub holds : {A : Type 0} (forms : List Form) (to : A → Sentence) (of : Form → List Word → Option A) → WordLaws → Converts A 0 forms to of
    → Holds A (λ ts. sentence_in 0 forms ts >>= λ s. of s.form s.words) (λ x. sentence_words (to x)) (λ x. words_fit 0 [] (to x).words ≡ true)
holds forms to of k c = record {
  again = λ x h. again 0 forms to of k c x (lit< tt) h;
  spelled = spelled 0 forms to of k c;
  visible = λ x h. k.sentences.visible 0 (to x) (lit< tt) h;
}

-- no form has more than four words behind its own
few_kinds : (f : Form) → length (kinds_of f) ≤ 4
few_kinds form.Malloc = lit≤ tt
few_kinds _ = lit≤ tt

pub few_words : (s : Sentence) → map kind_of s.words ≡ kinds_of s.form → length (sentence_words s) ≤ 5
few_words s h =
    let few = few_kinds s.form in
    let same : length (map kind_of s.words) ≡ length (kinds_of s.form) = ap length h in
    let kinds : length (map kind_of s.words) ≡ length s.words = length-map s.words kind_of in
    let texts : length (map word_text s.words) ≡ length s.words = length-map s.words word_text in
    omega (arith, few, same, kinds, texts)
