-- A sentence and its text determine each other. Nothing here goes by the forms or the kinds.
use Rattle.std.proofs.Common.{◌≡◌, ℕ, ◌<◌, ◌^◌, Bool, true, List, [], ◌∷◌, ◌++◌, map, refl, sym, ap, ◌∙◌, inl, inr, subst, Option, Some, None}
use Rattle.std.specs.Prelude.{find}
use Rattle.std.specs.List.{list_all}
use Rattle.std.specs.Str.{bytes_eq}
use Rattle.std.proofs.lemmas.Bool.{and_parts, and_from}
use Rattle.std.proofs.lemmas.List.{append_assoc}
use Rattle.std.proofs.lemmas.Slice.Eq.{bytes_eq-Decides}
use Rattle.mz_words.specs.declared.kind.Kind.{Kind}
use Rattle.mz_words.specs.declared.kind.Word.{Word}
use Rattle.mz_words.specs.declared.table.Form.{Form}
use Rattle.mz_words.specs.declared.sentence.Sentence.{Sentence}
use Rattle.mz_words.specs.Numbers.{◌>>=◌}
use Rattle.mz_words.specs.Lines.{are_visible, are_short}
use Rattle.mz_words.specs.Kinds.{kind_of, word_fits, word_text, read_word, is_short_kind}
use Rattle.mz_words.specs.Table.{form_word, kinds_of, form_among}
use Rattle.mz_words.specs.Sentences.{words_fit, read_words, read_onto, sentence, sentence_behind, sentence_in, sentence_words, IsSentence}
use Rattle.mz_words.proofs.ReadIsWritten.{bind_parts, some_same, if_else}
use Rattle.mz_words.proofs.KindLaws.{written_is_read, read_is_written, plain_word}
use Rattle.mz_words.proofs.TableLaws.{form_visible, form_short}

-- words
pub words_written_are_read : (callers : ℕ) (before : List ℕ) (ws : List Word) → callers < 2 ^ 64 → words_fit callers before ws ≡ true → read_words callers before (map kind_of ws) (map word_text ws) ≡ Some ws
words_written_are_read callers before [] few h = refl
words_written_are_read callers before (w ∷ ws) few h =
    let p = and_parts (word_fits callers before w) (words_fit callers (word_text w) ws) h in
    rw (written_is_read callers before w few p.0, words_written_are_read callers (word_text w) ws few p.1) refl

pub record AreSpelled (callers : ℕ) (before : List ℕ) (ks : List Kind) (ts : List (List ℕ)) (ws : List Word) : Type 0 where
  pub texts : ts ≡ map word_text ws
  pub kinds : map kind_of ws ≡ ks
  pub fits : words_fit callers before ws ≡ true

are_spelled : (callers : ℕ) (before : List ℕ) (ks : List Kind) (ts : List (List ℕ)) (vs ws : List Word) → vs ≡ ws → AreSpelled callers before ks ts vs → AreSpelled callers before ks ts ws
are_spelled callers before ks ts vs ws e h = let P : List Word → Type 0 = λ x. AreSpelled callers before ks ts x in subst P e h

pub words_read_are_written : (callers : ℕ) (before : List ℕ) (ks : List Kind) (ts : List (List ℕ)) (ws : List Word) → read_words callers before ks ts ≡ Some ws → AreSpelled callers before ks ts ws
words_read_are_written callers before [] [] ws h = are_spelled callers before [] [] [] ws (some_same [] ws h) (record { texts = refl; kinds = refl; fits = refl })
words_read_are_written callers before [] (t ∷ ts) ws h = absurd cc
words_read_are_written callers before (k ∷ ks) [] ws h = absurd cc
words_read_are_written callers before (k ∷ ks) (t ∷ ts) ws h =
    let p = bind_parts (read_word callers before k t) _ ws h in
    let q = bind_parts (read_words callers t ks ts) _ ws p.2 in
    let a = read_is_written callers before k t p.0 p.1 in
    let b = words_read_are_written callers t ks ts q.0 q.1 in
    are_spelled callers before (k ∷ ks) (t ∷ ts) (p.0 ∷ q.0) ws (some_same (p.0 ∷ q.0) ws q.2) (record {
      texts = ap (λ (x : List ℕ). x ∷ ts) a.text ∙ ap (λ (x : List (List ℕ)). word_text p.0 ∷ x) b.texts;
      kinds = ap (λ (x : Kind). x ∷ map kind_of q.0) (sym a.kind) ∙ ap (λ (x : List Kind). k ∷ x) b.kinds;
      fits = and_from _ _ a.fits (ap (λ (x : List ℕ). words_fit callers x q.0) (sym a.text) ∙ b.fits);
    })

-- forms
found : {A : Type 0} (p : A → Bool) (xs : List A) (x : A) → find p xs ≡ Some x → p x ≡ true
found p [] x h = absurd cc
found p (y ∷ ys) x h = elim (if_else (p y) (Some y) (find p ys) x h) [
  | inl q ↦ ap p (sym (some_same y x q.1)) ∙ q.0
  | inr q ↦ found p ys x q
]

pub form_found : (forms : List Form) (t : List ℕ) (f : Form) → form_among forms t ≡ Some f → t ≡ form_word f
form_found forms t f h = (bytes_eq-Decides t (form_word f)).0 (found (λ g. bytes_eq t (form_word g)) forms f h)

-- sentences
pub sentence_written_is_read : (callers : ℕ) (forms : List Form) (s : Sentence) → callers < 2 ^ 64 → IsSentence callers forms s → sentence_in callers forms (sentence_words s) ≡ Some s
sentence_written_is_read callers forms s few h =
    ap (λ (o : Option Form). o >>= λ f. read_words callers [] (kinds_of f) (map word_text s.words) >>= λ ws. Some (sentence f ws)) h.form
    ∙ ap (λ (ks : List Kind). read_words callers [] ks (map word_text s.words) >>= λ ws. Some (sentence s.form ws)) (sym h.kinds)
    ∙ ap (λ (o : Option (List Word)). o >>= λ ws. Some (sentence s.form ws)) (words_written_are_read callers [] s.words few h.fits)

pub record IsSpelled (callers : ℕ) (forms : List Form) (ts : List (List ℕ)) (s : Sentence) : Type 0 where
  pub texts : ts ≡ sentence_words s
  pub fits : IsSentence callers forms s

pub sentence_read_is_written : (callers : ℕ) (forms : List Form) (ts : List (List ℕ)) (s : Sentence) → sentence_in callers forms ts ≡ Some s → IsSpelled callers forms ts s
sentence_read_is_written callers forms [] s h = absurd cc
sentence_read_is_written callers forms (t ∷ ts) s h =
    let p = bind_parts (form_among forms t) _ s h in
    let q = bind_parts (read_words callers [] (kinds_of p.0) ts) _ s p.2 in
    let w = form_found forms t p.0 p.1 in
    let a = words_read_are_written callers [] (kinds_of p.0) ts q.0 q.1 in
    let e : sentence p.0 q.0 ≡ s = some_same _ s q.2 in
    let P : Sentence → Type 0 = λ x. IsSpelled callers forms (t ∷ ts) x in
    subst P e (record {
      texts = ap (λ (x : List ℕ). x ∷ ts) w ∙ ap (λ (x : List (List ℕ)). form_word p.0 ∷ x) a.texts;
      fits = record { form = ap (form_among forms) (sym w) ∙ p.1; kinds = a.kinds; fits = a.fits };
    })

-- what their words are made of
words_visible : (callers : ℕ) (before : List ℕ) (ws : List Word) → callers < 2 ^ 64 → words_fit callers before ws ≡ true → are_visible (map word_text ws) ≡ true
words_visible callers before [] few h = refl
words_visible callers before (w ∷ ws) few h =
    let p = and_parts (word_fits callers before w) (words_fit callers (word_text w) ws) h in
    and_from _ _ (plain_word callers before w few p.0).visible (words_visible callers (word_text w) ws few p.1)

pub sentence_visible : (callers : ℕ) (s : Sentence) → callers < 2 ^ 64 → words_fit callers [] s.words ≡ true → are_visible (sentence_words s) ≡ true
sentence_visible callers s few h = and_from _ _ (form_visible s.form) (words_visible callers [] s.words few h)

words_short : (callers : ℕ) (before : List ℕ) (ws : List Word) → callers < 2 ^ 64 → words_fit callers before ws ≡ true → list_all is_short_kind (map kind_of ws) ≡ true
    → are_short (map word_text ws) ≡ true
words_short callers before [] few h short = refl
words_short callers before (w ∷ ws) few h short =
    let p = and_parts (word_fits callers before w) (words_fit callers (word_text w) ws) h in
    let k = and_parts (is_short_kind (kind_of w)) (list_all is_short_kind (map kind_of ws)) short in
    and_from _ _ ((plain_word callers before w few p.0).short k.0) (words_short callers (word_text w) ws few p.1 k.1)

pub sentence_short : (callers : ℕ) (s : Sentence) → callers < 2 ^ 64 → words_fit callers [] s.words ≡ true → list_all is_short_kind (map kind_of s.words) ≡ true
    → are_short (sentence_words s) ≡ true
sentence_short callers s few h short = and_from _ _ (form_short s.form) (words_short callers [] s.words few h short)

-- reading behind what was read
behind : (ws : List Word) → ws ++ [] ≡ ws
behind [] = refl
behind (w ∷ ws) = ap (λ (x : List Word). w ∷ x) (behind ws)

later : (done : List Word) (w : Word) (o : Option (List Word)) → (o >>= λ ws. Some ((done ++ w ∷ []) ++ ws)) ≡ ((o >>= λ ws. Some (w ∷ ws)) >>= λ ws. Some (done ++ ws))
later done w None = refl
later done w (Some ws) = ap (λ (x : List Word). Some x) (append_assoc done (w ∷ []) ws)

first_then : (done : List Word) (o : Option Word) (f : Word → Option (List Word)) (p : Option (List Word)) → ((w : Word) → f w ≡ (p >>= λ ws. Some ((done ++ w ∷ []) ++ ws)))
    → (o >>= f) ≡ ((o >>= λ w. p >>= λ ws. Some (w ∷ ws)) >>= λ ws. Some (done ++ ws))
first_then done None f p h = refl
first_then done (Some w) f p h = h w ∙ later done w p

pub onto_is : (callers : ℕ) (before : List ℕ) (done : List Word) (ks : List Kind) (ts : List (List ℕ)) → read_onto callers before done ks ts ≡ (read_words callers before ks ts >>= λ ws. Some (done ++ ws))
onto_is callers before done [] [] = ap (λ (x : List Word). Some x) (sym (behind done))
onto_is callers before done [] (t ∷ ts) = refl
onto_is callers before done (k ∷ ks) [] = refl
onto_is callers before done (k ∷ ks) (t ∷ ts) = first_then done (read_word callers before k t) (λ w. read_onto callers t (done ++ w ∷ []) ks ts) (read_words callers t ks ts) (λ w. onto_is callers t (done ++ w ∷ []) ks ts)

whole : (o : Option (List Word)) → (o >>= λ ws. Some ([] ++ ws)) ≡ o
whole None = refl
whole (Some ws) = refl

pub onto_nothing_is : (callers : ℕ) (ks : List Kind) (ts : List (List ℕ)) → read_onto callers [] [] ks ts ≡ read_words callers [] ks ts
onto_nothing_is callers ks ts = onto_is callers [] [] ks ts ∙ whole (read_words callers [] ks ts)

pub behind_is :
    (callers : ℕ) (f : Form) (ks : List Kind) (ts : List (List ℕ)) (none : List Word) (o : Option (List Word)) → none ≡ [] → ks ≡ kinds_of f → o ≡ read_onto callers [] none ks ts
    → (o >>= λ ws. Some (sentence f ws)) ≡ sentence_behind callers f ts
behind_is callers f ks ts none o empty kinds h =
    ap (λ (x : Option (List Word)). x >>= λ ws. Some (sentence f ws))
    (h ∙ ap (λ (x : List Word). read_onto callers [] x ks ts) empty ∙ onto_nothing_is callers ks ts ∙ ap (λ (x : List Kind). read_words callers [] x ts) kinds)
