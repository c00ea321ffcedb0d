-- Listed blocks are sentences, and entries are a ticket and an event.
use Rattle.std.proofs.Common.{◌≡◌, ℕ, ◌≤◌, true, List, [], ◌∷◌, length, arith, refl, sym, ap, ◌∙◌, subst, lit<, Option, Some}
use Rattle.std.specs.Fmt.{decimal}
use Rattle.std.proofs.lemmas.Bool.{and_parts, and_from}
use Rattle.mz_words.specs.declared.kind.Word.{Word}
use Rattle.mz_words.specs.declared.kind.Word.TheVariants as word
use Rattle.mz_words.specs.declared.table.Form.{Form}
use Rattle.mz_words.specs.declared.table.Form.TheVariants as form
use Rattle.mz_words.specs.declared.table.TheConstants.{LISTING}
use Rattle.mz_words.specs.declared.sentence.Sentence.{Sentence}
use Rattle.mz_words.specs.Numbers.{is_u64, number_of, ◌>>=◌}
use Rattle.mz_words.specs.Lines.{are_visible}
use Rattle.mz_words.specs.Sentences.{words_fit, sentence, sentence_in, sentence_words}
use Rattle.mz_lines.specs.Events.{event_fits, event_in}
use Rattle.mz_trace.specs.declared.run.RunEntry.{RunEntry}
use Rattle.mz_trace.specs.declared.tail.Listed.{Listed}
use Rattle.mz_trace.specs.TailTexts.{listed_sentence, listed_words, listed_fits}
use Rattle.mz_trace.specs.RunTexts.{entry_words}
use Rattle.mz_trace.specs.RunForms.{entry_fits}
use Rattle.mz_transcript.specs.Entries.{entry_in}
use Rattle.mz_transcript.specs.Listings.{listed_of, listed_in}
use Rattle.mz_transcript.proofs.TextLaws.{TextLaws, bind_parts, some_same}

-- listed blocks
listed_back : (f : Form) (ws : List Word) (b : Listed) → listed_of f ws ≡ Some b → listed_sentence b ≡ sentence f ws
listed_back form.Listed (word.Number a ∷ word.Number s ∷ word.Range range ∷ word.Zone zone ∷ []) b h = ap listed_sentence (sym (some_same _ b h))
listed_back _ _ b h = absurd cc

pub listed_again : TextLaws → (b : Listed) → listed_fits b ≡ true → listed_in (listed_words b) ≡ Some b
listed_again laws b h =
    ap (λ (o : Option Sentence). o >>= λ s. listed_of s.form s.words) (laws.words.sentences.again 0 LISTING (listed_sentence b) (lit< tt) (record { form = refl; kinds = refl; fits = h }))

pub listed_spelled : TextLaws → (ts : List (List ℕ)) (b : Listed) → listed_in ts ≡ Some b → (ts ≡ listed_words b) × (listed_fits b ≡ true)
listed_spelled laws ts b h =
    let p = bind_parts (sentence_in 0 LISTING ts) (λ s. listed_of s.form s.words) b h in
    let s = laws.words.sentences.spelled 0 LISTING ts p.0 p.1 in
    let e = listed_back p.0.form p.0.words b p.2 in
    (s.0 ∙ ap sentence_words (sym e), ap (λ (y : Sentence). words_fit 0 [] y.words) e ∙ s.1.fits)

pub listed_visible : TextLaws → (b : Listed) → listed_fits b ≡ true → are_visible (listed_words b) ≡ true
listed_visible laws b h = laws.words.sentences.visible 0 (listed_sentence b) (lit< tt) h

-- entries
pub step_again : TextLaws → (e : RunEntry) → entry_fits e ≡ true → entry_in (entry_words e) ≡ Some e
step_again laws e h =
    let p = and_parts (is_u64 e.ticket) (event_fits e.event) h in
    rw (laws.words.numbers.again e.ticket p.0, laws.lines.events.again e.event p.1) refl

pub step_spelled : TextLaws → (ts : List (List ℕ)) (e : RunEntry) → entry_in ts ≡ Some e → (ts ≡ entry_words e) × (entry_fits e ≡ true)
step_spelled laws [] e h = absurd cc
step_spelled laws (t ∷ ts) e h =
    let n = bind_parts (number_of t) _ e h in
    let x = bind_parts (event_in ts) _ e n.2 in
    let s = laws.words.numbers.spelled t n.0 n.1 in
    let w = laws.lines.events.spelled ts x.0 x.1 in
    subst (λ (y : RunEntry). (t ∷ ts ≡ entry_words y) × (entry_fits y ≡ true)) (some_same _ e x.2)
    (ap (λ (v : List ℕ). v ∷ ts) s.0 ∙ ap (λ (v : List (List ℕ)). decimal n.0 ∷ v) w.0, and_from _ _ s.1 w.1)

pub step_visible : TextLaws → (e : RunEntry) → entry_fits e ≡ true → are_visible (entry_words e) ≡ true
step_visible laws e h =
    let p = and_parts (is_u64 e.ticket) (event_fits e.event) h in
    and_from _ _ (laws.words.numbers.visible e.ticket p.0) (laws.lines.events.visible e.event p.1)

pub step_count : TextLaws → (e : RunEntry) → length (entry_words e) ≤ 6
step_count laws e = let few = laws.lines.few_events e.event in omega (arith, few)
