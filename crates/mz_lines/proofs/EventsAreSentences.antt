-- Events and their sentences determine each other.
use Rattle.std.proofs.Common.{◌≡◌, ◌≤◌, map, List, length, refl, sym, ◌∙◌, Some}
use Rattle.mz_words.specs.declared.kind.Word.{Word}
use Rattle.mz_words.specs.declared.table.Form.{Form}
use Rattle.mz_words.specs.declared.table.TheConstants.{EVENTS}
use Rattle.mz_words.specs.Kinds.{kind_of}
use Rattle.mz_words.specs.Table.{form_among, form_word, kinds_of}
use Rattle.mz_words.specs.Sentences.{sentence}
use Rattle.mz_events.specs.declared.event.Event.{Event}
use Rattle.mz_events.specs.declared.event.Event.TheVariants as event
use Rattle.mz_lines.specs.Events.{event_sentence, event_of, event_words}
use Rattle.mz_lines.proofs.ValuesAreSentences.{Converts, of_some, few_words}
use Rattle.mz_lines.proofs.WordsOfKinds.{of_each}

event_told : (x : Event) → event_of (event_sentence x).form (event_sentence x).words ≡ Some x
event_told (event.Shut zone) = refl
event_told _ = refl

event_form : (x : Event) → form_among EVENTS (form_word (event_sentence x).form) ≡ Some (event_sentence x).form
event_form (event.Shut zone) = refl
event_form _ = refl

event_kinds : (x : Event) → map kind_of (event_sentence x).words ≡ kinds_of (event_sentence x).form
event_kinds (event.Shut zone) = refl
event_kinds _ = refl

same_event : (y x : Event) → event_of (event_sentence y).form (event_sentence y).words ≡ Some x → event_sentence x ≡ event_sentence y
same_event y x h = of_some event_sentence y x (event_sentence y) (sym (event_told y) ∙ h) refl

told_event : (f : Form) (ws : List Word) → form_among EVENTS (form_word f) ≡ Some f → map kind_of ws ≡ kinds_of f → (x : Event) → event_of f ws ≡ Some x → event_sentence x ≡ sentence f ws
told_event f ws among kinds =
    of_each (λ g vs. (x : Event) → event_of g vs ≡ Some x → event_sentence x ≡ sentence g vs) EVENTS (form_word f) f ws among kinds
    (λ k first pages. same_event (event.Take k first pages))
    (λ k first pages. same_event (event.Back k first pages))
    (λ first from to. same_event (event.Move first from to))
    (λ k a s al. same_event (event.New k a s al))
    (λ k a s. same_event (event.End k a s))
    (λ k a s s2. same_event (event.Size k a s s2))
    (λ k n al. same_event (event.Full k n al))
    (λ zone pages al. same_event (event.Dry zone pages al))
    (λ k zone a s. same_event (event.No k zone a s))
    (λ zone. same_event (event.Open zone))
    (λ zone. same_event (event.Shut zone))

pub events : Converts Event 0 EVENTS event_sentence event_of
events = record { told = event_told; form = event_form; kinds = event_kinds; back = λ s x is h. told_event s.form s.words is.form is.kinds x h }

pub event_count : (x : Event) → length (event_words x) ≤ 5
event_count x = few_words (event_sentence x) (event_kinds x)
