-- Answers and their sentences determine each other.
use Rattle.std.proofs.Common.{◌≡◌, ◌≤◌, map, List, length, refl, sym, ◌∙◌, Some}
use Rattle.mz_words.specs.declared.kind.Word.{Word}
use Rattle.mz_words.specs.declared.table.Form.{Form}
use Rattle.mz_words.specs.declared.table.TheConstants.{ANSWERS}
use Rattle.mz_words.specs.Kinds.{kind_of}
use Rattle.mz_words.specs.Table.{form_among, form_word, kinds_of}
use Rattle.mz_words.specs.Sentences.{sentence}
use Rattle.mz_lines.specs.declared.answer.Answer.{Answer}
use Rattle.mz_lines.specs.declared.answer.Answer.TheVariants as answer
use Rattle.mz_lines.specs.Answers.{answer_sentence, answer_of, answer_words}
use Rattle.mz_lines.proofs.ValuesAreSentences.{Converts, of_some, few_words}
use Rattle.mz_lines.proofs.WordsOfKinds.{of_each}

answer_told : (x : Answer) → answer_of (answer_sentence x).form (answer_sentence x).words ≡ Some x
answer_told answer.Held = refl
answer_told _ = refl

answer_form : (x : Answer) → form_among ANSWERS (form_word (answer_sentence x).form) ≡ Some (answer_sentence x).form
answer_form answer.Held = refl
answer_form _ = refl

answer_kinds : (x : Answer) → map kind_of (answer_sentence x).words ≡ kinds_of (answer_sentence x).form
answer_kinds answer.Held = refl
answer_kinds _ = refl

same_answer : (y x : Answer) → answer_of (answer_sentence y).form (answer_sentence y).words ≡ Some x → answer_sentence x ≡ answer_sentence y
same_answer y x h = of_some answer_sentence y x (answer_sentence y) (sym (answer_told y) ∙ h) refl

told_answer : (f : Form) (ws : List Word) → form_among ANSWERS (form_word f) ≡ Some f → map kind_of ws ≡ kinds_of f → (x : Answer) → answer_of f ws ≡ Some x → answer_sentence x ≡ sentence f ws
told_answer f ws among kinds =
    of_each (λ g vs. (x : Answer) → answer_of g vs ≡ Some x → answer_sentence x ≡ sentence g vs) ANSWERS (form_word f) f ws among kinds
    (same_answer answer.Held)
    (same_answer answer.NoZone)
    (same_answer answer.Overflow)
    (same_answer answer.BadAlign)
    (same_answer answer.NotHeld)
    (λ s. same_answer (answer.WrongSize s))
    (same_answer answer.OutOfRange)
    (same_answer answer.NameTaken)
    (same_answer answer.TooMany)
    (same_answer answer.IsDefault)
    (λ n. same_answer (answer.HasLive n))
    (same_answer answer.Null)
    (same_answer answer.Nowhere)
    (same_answer answer.Done)
    (same_answer answer.NotLive)
    (λ a s. same_answer (answer.Block a s))
    (λ s. same_answer (answer.Size s))
    (λ shown. same_answer (answer.Bytes shown))
    (λ n. same_answer (answer.Got n))
    (λ n. same_answer (answer.Freed n))
    (λ name. same_answer (answer.Zone name))

pub answers : Converts Answer 0 ANSWERS answer_sentence answer_of
answers = record { told = answer_told; form = answer_form; kinds = answer_kinds; back = λ s x is h. told_answer s.form s.words is.form is.kinds x h }

pub answer_count : (x : Answer) → length (answer_words x) ≤ 5
answer_count x = few_words (answer_sentence x) (answer_kinds x)
