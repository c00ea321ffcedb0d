-- Lines at the start of a round and their sentences determine each other.
use Rattle.std.proofs.Common.{◌≡◌, ℕ, ◌<◌, ◌≤◌, ◌^◌, true, map, List, [], length, refl, subst, sym, ap, ◌∙◌, lit<, Option, Some}
use Rattle.std.specs.Prelude.{is_some, is_none}
use Rattle.std.specs.List.{list_all}
use Rattle.mz_words.specs.declared.kind.Word.{Word}
use Rattle.mz_words.specs.declared.table.Form.{Form}
use Rattle.mz_words.specs.declared.table.Form.TheVariants as form
use Rattle.mz_words.specs.declared.table.TheConstants.{ROUND_LINES}
use Rattle.mz_words.specs.declared.sentence.Sentence.{Sentence}
use Rattle.mz_words.specs.Numbers.{◌>>=◌}
use Rattle.mz_words.specs.Lines.{are_visible, are_short}
use Rattle.mz_words.specs.Kinds.{kind_of, word_fits, is_short_kind}
use Rattle.mz_words.specs.Table.{form_among, form_word, kinds_of}
use Rattle.mz_words.specs.Sentences.{words_fit, sentence, sentence_in, sentence_words, IsSentence}
use Rattle.mz_words.specs.Laws.{WordLaws}
use Rattle.mz_lines.specs.declared.round_line.RoundLine.{RoundLine}
use Rattle.mz_lines.specs.declared.round_line.RoundLine.TheVariants as at
use Rattle.mz_lines.specs.declared.line.Line.{Line}
use Rattle.mz_lines.specs.declared.line.Line.TheVariants.{Round, Start}
use Rattle.mz_lines.specs.RoundLines.{start_sentence, start_of, start_words, start_fits}
use Rattle.mz_lines.specs.Lines.{line_words, line_fits}
use Rattle.mz_lines.specs.LineReading.{heading_of, heading_in}
use Rattle.mz_lines.proofs.Options.{bind_parts, some_same, bind_none}
use Rattle.mz_lines.proofs.ValuesAreSentences.{Converts, of_some, few_words}
use Rattle.mz_lines.proofs.WordsOfKinds.{no_value, of_each}

start_told : (x : RoundLine) → start_of (start_sentence x).form (start_sentence x).words ≡ Some x
start_told (at.Zone zone) = refl
start_told _ = refl

start_form : (x : RoundLine) → form_among ROUND_LINES (form_word (start_sentence x).form) ≡ Some (start_sentence x).form
start_form (at.Zone zone) = refl
start_form _ = refl

start_kinds : (x : RoundLine) → map kind_of (start_sentence x).words ≡ kinds_of (start_sentence x).form
start_kinds (at.Zone zone) = refl
start_kinds _ = refl

-- no word of such a line is the number of a caller, so that it is the same for any count of them
start_fits_for : (callers : ℕ) (x : RoundLine) → words_fit callers [] (start_sentence x).words ≡ start_fits x
unfolding word_fits
start_fits_for callers (at.Zone zone) = refl
start_fits_for callers _ = refl

same_start : (y x : RoundLine) → start_of (start_sentence y).form (start_sentence y).words ≡ Some x → start_sentence x ≡ start_sentence y
same_start y x h = of_some start_sentence y x (start_sentence y) (sym (start_told y) ∙ h) refl

told_start : (f : Form) (ws : List Word) → form_among ROUND_LINES (form_word f) ≡ Some f → map kind_of ws ≡ kinds_of f → (x : RoundLine) → start_of f ws ≡ Some x → start_sentence x ≡ sentence f ws
told_start f ws among kinds =
    of_each (λ g vs. (x : RoundLine) → start_of g vs ≡ Some x → start_sentence x ≡ sentence g vs) ROUND_LINES (form_word f) f ws among kinds
    (λ x h. no_value x h)
    (λ zone. same_start (at.Zone zone))
    (λ zone. same_start (at.Destroy zone))
    (λ zone addr. same_start (at.Size zone addr))
    (λ addr. same_start (at.Where addr))

pub starts : (callers : ℕ) → Converts RoundLine callers ROUND_LINES start_sentence start_of
starts callers = record { told = start_told; form = start_form; kinds = start_kinds; back = λ s x is h. told_start s.form s.words is.form is.kinds x h }

pub start_visible : WordLaws → (x : RoundLine) → start_fits x ≡ true → are_visible (start_words x) ≡ true
start_visible k x h = k.sentences.visible 0 (start_sentence x) (lit< tt) h

start_kinds_short : (x : RoundLine) → list_all is_short_kind (map kind_of (start_sentence x).words) ≡ true
start_kinds_short (at.Zone zone) = refl
start_kinds_short _ = refl

pub start_short : WordLaws → (x : RoundLine) → start_fits x ≡ true → are_short (start_words x) ≡ true
start_short k x h = k.sentences.short 0 (start_sentence x) (lit< tt) h (start_kinds_short x)

pub start_count : (x : RoundLine) → length (start_words x) ≤ 5
start_count x = few_words (start_sentence x) (start_kinds x)

-- the same with `round` among them
pub round_again : WordLaws → (callers : ℕ) → callers < 2 ^ 64 → heading_in callers (line_words Round) ≡ Some Round
round_again k callers few =
    ap (λ (o : Option Sentence). o >>= λ s. heading_of s.form s.words) (k.sentences.again callers ROUND_LINES (sentence form.Round []) few (record { form = refl; kinds = refl; fits = refl }))

headed : (x : RoundLine) → heading_of (start_sentence x).form (start_sentence x).words ≡ Some (Start x)
headed (at.Zone zone) = refl
headed _ = refl

pub heading_again : WordLaws → (callers : ℕ) (x : RoundLine) → callers < 2 ^ 64 → start_fits x ≡ true → heading_in callers (start_words x) ≡ Some (Start x)
heading_again k callers x few h =
    let is : IsSentence callers ROUND_LINES (start_sentence x) = record { form = start_form x; kinds = start_kinds x; fits = start_fits_for callers x ∙ h } in
    ap (λ (o : Option Sentence). o >>= λ s. heading_of s.form s.words) (k.sentences.again callers ROUND_LINES (start_sentence x) few is) ∙ headed x

-- and a sentence of the table of round lines is that of such a line
pub record HeadingSpelled (callers : ℕ) (ts : List (List ℕ)) (x : Line) : Type 0 where
  pub words : ts ≡ line_words x
  pub fits : line_fits callers x ≡ true

record IsHeading (callers : ℕ) (f : Form) (ws : List Word) : Type 0 where
  value : Line
  told : heading_of f ws ≡ Some value
  spelled : HeadingSpelled callers (sentence_words (sentence f ws)) value

round_is : (callers : ℕ) → IsHeading callers form.Round []
round_is callers = record { value = Round; told = refl; spelled = record { words = refl; fits = refl } }

start_is : (callers : ℕ) (x : RoundLine) → words_fit callers [] (start_sentence x).words ≡ true → IsHeading callers (start_sentence x).form (start_sentence x).words
start_is callers x fits = record { value = Start x; told = headed x; spelled = record { words = refl; fits = sym (start_fits_for callers x) ∙ fits } }

heading_is : (callers : ℕ) (f : Form) (ws : List Word) → map kind_of ws ≡ kinds_of f → form_among ROUND_LINES (form_word f) ≡ Some f → words_fit callers [] ws ≡ true → IsHeading callers f ws
heading_is callers f ws kinds among =
    of_each (λ g vs. words_fit callers [] vs ≡ true → IsHeading callers g vs) ROUND_LINES (form_word f) f ws among kinds
    (λ fits. round_is callers)
    (λ zone. start_is callers (at.Zone zone))
    (λ zone. start_is callers (at.Destroy zone))
    (λ zone addr. start_is callers (at.Size zone addr))
    (λ addr. start_is callers (at.Where addr))

pub heading_spelled : WordLaws → (callers : ℕ) (ts : List (List ℕ)) (x : Line) → heading_in callers ts ≡ Some x → HeadingSpelled callers ts x
heading_spelled k callers ts x h =
    let p = bind_parts (sentence_in callers ROUND_LINES ts) (λ s. heading_of s.form s.words) x h in
    let s = k.sentences.spelled callers ROUND_LINES ts p.0 p.1 in
    let d = heading_is callers p.0.form p.0.words s.1.kinds s.1.form s.1.fits in
    subst (λ (y : Line). HeadingSpelled callers ts y) (some_same d.value x (sym d.told ∙ p.2)) (record { words = s.0 ∙ d.spelled.words; fits = d.spelled.fits })

pub heading_unread : WordLaws → (callers : ℕ) (ts : List (List ℕ)) → is_none (heading_in callers ts) ≡ is_none (sentence_in callers ROUND_LINES ts)
heading_unread k callers ts =
    bind_none (sentence_in callers ROUND_LINES ts) (λ s. heading_of s.form s.words)
    (λ s h. let p = (k.sentences.spelled callers ROUND_LINES ts s h).1 in ap is_some (heading_is callers s.form s.words p.kinds p.form p.fits).told)
