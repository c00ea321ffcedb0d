-- Commands and their sentences determine each other.
use Rattle.std.proofs.Common.{◌≡◌, ℕ, ◌<◌, ◌≤◌, ◌^◌, true, false, map, List, [], ◌∷◌, length, refl, sym, ap, ◌∙◌, codes, Option, Some, None}
use Rattle.std.specs.Prelude.{◌&&◌, ◌||◌, is_some, is_none}
use Rattle.std.specs.List.{list_all}
use Rattle.std.specs.Str.{bytes_eq}
use Rattle.std.proofs.lemmas.Bool.{and_parts}
use Rattle.std.proofs.lemmas.Slice.Eq.{bytes_eq-Decides}
use Rattle.mz_base.specs.Names.{is_base_name}
use Rattle.mz_words.specs.declared.kind.Word.{Word}
use Rattle.mz_words.specs.declared.kind.Word.TheVariants.{Number, Old, New}
use Rattle.mz_words.specs.declared.table.Form.{Form}
use Rattle.mz_words.specs.declared.table.Form.TheVariants as form
use Rattle.mz_words.specs.declared.table.TheConstants.{COMMANDS}
use Rattle.mz_words.specs.declared.sentence.Sentence.{Sentence}
use Rattle.mz_words.specs.declared.name.Name.{Name}
use Rattle.mz_words.specs.declared.name.Name.TheVariants as name
use Rattle.mz_words.specs.Names.{name_word, batch_word, given_word, name_fits, name_of, is_new}
use Rattle.mz_words.specs.Lines.{are_visible, are_short}
use Rattle.mz_words.specs.Kinds.{kind_of, word_fits, word_text, is_short_kind}
use Rattle.mz_words.specs.Table.{form_among, form_word, kinds_of}
use Rattle.mz_words.specs.Sentences.{words_fit, sentence, sentence_in, IsSentence}
use Rattle.mz_words.specs.Laws.{WordLaws}
use Rattle.mz_lines.specs.declared.renaming.Names.TheVariants.{Fresh, Renamed, KeptBatch, KeptGiven}
use Rattle.mz_lines.specs.declared.command.Command.{Command}
use Rattle.mz_lines.specs.declared.command.Command.TheVariants as command
use Rattle.mz_lines.specs.Commands.{command_sentence, command_of, command_in, command_words, command_fits}
use Rattle.mz_lines.proofs.Options.{some_same, bind_none}
use Rattle.mz_lines.proofs.ValuesAreSentences.{Converts, of_some, again, spelled, few_words}
use Rattle.mz_lines.proofs.WordsOfKinds.{of_each}

-- a command is told by its sentence
command_told : (c : Command) → command_of (command_sentence c).form (command_sentence c).words ≡ Some c
command_told (command.Use zone) = refl
command_told (command.Realloc (Fresh new) n) = refl
command_told (command.Realloc (Renamed old new) n) = refl
command_told (command.Realloc (KeptBatch b) n) = refl
command_told (command.Realloc (KeptGiven g) n) = refl
command_told _ = refl

-- and its form is one of the table of commands
command_form : (c : Command) → form_among COMMANDS (form_word (command_sentence c).form) ≡ Some (command_sentence c).form
command_form (command.Use zone) = refl
command_form _ = refl

command_kinds : (c : Command) → map kind_of (command_sentence c).words ≡ kinds_of (command_sentence c).form
command_kinds (command.Use zone) = refl
command_kinds _ = refl

-- and a sentence of the table of commands is that of a command
record IsCommand (f : Form) (ws : List Word) : Type 0 where
  value : Command
  told : command_of f ws ≡ Some value
  same : command_sentence value ≡ sentence f ws

-- a new name that is kept is the old one
kept : WordLaws → (old new : Name) → name_fits old ≡ true → name_fits new ≡ true → is_base_name (name_word new) ≡ false → is_new (name_word old) (name_word new) ≡ true → new ≡ old
kept k old new ho hn plain h =
    let either : (false || bytes_eq (name_word new) (name_word old)) ≡ true = rw plain at h in
    let same : name_word new ≡ name_word old = (bytes_eq-Decides (name_word new) (name_word old)).0 either in
    some_same new old (sym (k.names.again new hn) ∙ ap name_of same ∙ k.names.again old ho)

is_realloc : (old new : Name) (n : ℕ) → new ≡ old → sentence form.Realloc (Old (Some new) ∷ New new ∷ Number n ∷ []) ≡ sentence form.Realloc (Old (Some old) ∷ New new ∷ Number n ∷ [])
is_realloc old new n e = ap (λ (x : Name). sentence form.Realloc (Old (Some x) ∷ New new ∷ Number n ∷ [])) e

no_null : WordLaws → (new : Name) → name_fits new ≡ true → is_base_name (name_word new) ≡ false → is_new (codes "null") (name_word new) ≡ true → ⊥
no_null k new fits plain h =
    let either : (false || bytes_eq (name_word new) (codes "null")) ≡ true = rw plain at h in
    let same : name_word new ≡ codes "null" = (bytes_eq-Decides (name_word new) (codes "null")).0 either in
    let none : Some new ≡ None = sym (k.names.again new fits) ∙ ap name_of same in
    absurd cc

realloc_is : WordLaws → (callers : ℕ) (old : Option Name) (new : Name) (n : ℕ) → words_fit callers [] (Old old ∷ New new ∷ Number n ∷ []) ≡ true → IsCommand form.Realloc (Old old ∷ New new ∷ Number n ∷ [])
unfolding word_fits word_text
realloc_is k callers None (name.Base new) n fits = record { value = command.Realloc (Fresh new) n; told = refl; same = refl }
realloc_is k callers None (name.Batch b) n fits =
    let p = and_parts (name_fits (name.Batch b) && is_new (codes "null") (batch_word b)) _ fits in
    let q = and_parts (name_fits (name.Batch b)) (is_new (codes "null") (batch_word b)) p.0 in
    absurd (no_null k (name.Batch b) q.0 (k.names.no_base b) q.1)
realloc_is k callers None (name.Given g) n fits =
    let p = and_parts (name_fits (name.Given g) && is_new (codes "null") (given_word g)) _ fits in
    let q = and_parts (name_fits (name.Given g)) (is_new (codes "null") (given_word g)) p.0 in
    absurd (no_null k (name.Given g) q.0 refl q.1)
realloc_is k callers (Some old) (name.Base new) n fits = record { value = command.Realloc (Renamed old new) n; told = refl; same = refl }
realloc_is k callers (Some old) (name.Batch b) n fits =
    let p = and_parts (name_fits old) _ fits in
    let q = and_parts (name_fits (name.Batch b) && is_new (name_word old) (batch_word b)) _ p.1 in
    let r = and_parts (name_fits (name.Batch b)) (is_new (name_word old) (batch_word b)) q.0 in
    record { value = command.Realloc (KeptBatch b) n; told = refl; same = is_realloc old (name.Batch b) n (kept k old (name.Batch b) p.0 r.0 (k.names.no_base b) r.1) }
realloc_is k callers (Some old) (name.Given g) n fits =
    let p = and_parts (name_fits old) _ fits in
    let q = and_parts (name_fits (name.Given g) && is_new (name_word old) (given_word g)) _ p.1 in
    let r = and_parts (name_fits (name.Given g)) (is_new (name_word old) (given_word g)) q.0 in
    record { value = command.Realloc (KeptGiven g) n; told = refl; same = is_realloc old (name.Given g) n (kept k old (name.Given g) p.0 r.0 refl r.1) }

is_command : (callers : ℕ) (c : Command) → words_fit callers [] (command_sentence c).words ≡ true → IsCommand (command_sentence c).form (command_sentence c).words
is_command callers c fits = record { value = c; told = command_told c; same = refl }

command_is : WordLaws → (callers : ℕ) (f : Form) (ws : List Word) → map kind_of ws ≡ kinds_of f → form_among COMMANDS (form_word f) ≡ Some f → words_fit callers [] ws ≡ true → IsCommand f ws
command_is k callers f ws kinds among =
    of_each (λ g vs. words_fit callers [] vs ≡ true → IsCommand g vs) COMMANDS (form_word f) f ws among kinds
    (λ name n. is_command callers (command.Malloc name n))
    (λ name n m. is_command callers (command.Calloc name n m))
    (λ name n. is_command callers (command.Valloc name n))
    (λ name al n. is_command callers (command.Memalign name al n))
    (λ old new n. realloc_is k callers old new n)
    (λ name. is_command callers (command.Free name))
    (λ name off. is_command callers (command.FreeAt name off))
    (λ zone name. is_command callers (command.ZoneFree zone name))
    (λ name n. is_command callers (command.SizedFree name n))
    (λ name. is_command callers (command.Size name))
    (λ name byte. is_command callers (command.Fill name byte))
    (λ name off count. is_command callers (command.Show name off count))
    (λ name off target. is_command callers (command.Link name off target))
    (λ name to given. is_command callers (command.Give name to given))
    (λ name count n. is_command callers (command.Batch name count n))
    (λ name. is_command callers (command.Unbatch name))
    (λ zone. is_command callers (command.Use zone))

is_of : WordLaws → (callers : ℕ) (s : Sentence) → IsSentence callers COMMANDS s → IsCommand s.form s.words
is_of k callers s h = command_is k callers s.form s.words h.kinds h.form h.fits

-- so commands and their words determine each other
commands : WordLaws → (callers : ℕ) → Converts Command callers COMMANDS command_sentence command_of
commands k callers = record {
  told = command_told;
  form = command_form;
  kinds = command_kinds;
  back = λ s c is h. let d = is_of k callers s is in of_some command_sentence d.value c s (sym d.told ∙ h) d.same;
}

pub command_again : WordLaws → (callers : ℕ) (c : Command) → callers < 2 ^ 64 → command_fits callers c ≡ true → command_in callers (command_words c) ≡ Some c
command_again k callers c few h = again callers COMMANDS command_sentence command_of k (commands k callers) c few h

pub command_spelled : WordLaws → (callers : ℕ) (ts : List (List ℕ)) (c : Command) → command_in callers ts ≡ Some c → (ts ≡ command_words c) × (command_fits callers c ≡ true)
command_spelled k callers ts c h = spelled callers COMMANDS command_sentence command_of k (commands k callers) ts c h

pub command_visible : WordLaws → (callers : ℕ) (c : Command) → callers < 2 ^ 64 → command_fits callers c ≡ true → are_visible (command_words c) ≡ true
command_visible k callers c few h = k.sentences.visible callers (command_sentence c) few h

-- they are short, and few
command_kinds_short : (c : Command) → list_all is_short_kind (map kind_of (command_sentence c).words) ≡ true
command_kinds_short (command.Use zone) = refl
command_kinds_short _ = refl

pub command_short : WordLaws → (callers : ℕ) (c : Command) → callers < 2 ^ 64 → command_fits callers c ≡ true → are_short (command_words c) ≡ true
command_short k callers c few h = k.sentences.short callers (command_sentence c) few h (command_kinds_short c)

pub command_count : (c : Command) → length (command_words c) ≤ 5
command_count c = few_words (command_sentence c) (command_kinds c)

-- words are a command exactly where they are a sentence of the table
pub command_unread : WordLaws → (callers : ℕ) (ts : List (List ℕ)) → is_none (command_in callers ts) ≡ is_none (sentence_in callers COMMANDS ts)
command_unread k callers ts =
    bind_none (sentence_in callers COMMANDS ts) (λ s. command_of s.form s.words) (λ s h. ap is_some (is_of k callers s (k.sentences.spelled callers COMMANDS ts s h).1).told)
