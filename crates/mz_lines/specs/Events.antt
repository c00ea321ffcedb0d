-- Events, to and from sentences. This project's own.
use Rattle.std.specs.Prelude.{ℕ, Bool, List, [], ◌∷◌, Option, Some, None}
use Rattle.mz_words.specs.declared.kind.Word.{Word}
use Rattle.mz_words.specs.declared.kind.Word.TheVariants as word
use Rattle.mz_words.specs.declared.table.Form.{Form}
use Rattle.mz_words.specs.declared.table.Form.TheVariants as form
use Rattle.mz_words.specs.declared.sentence.Sentence.{Sentence}
use Rattle.mz_events.specs.declared.event.Event.{Event}
use Rattle.mz_events.specs.declared.event.Event.TheVariants as event
use Rattle.mz_words.specs.declared.table.TheConstants.{EVENTS}
use Rattle.mz_words.specs.Numbers.{◌>>=◌}
use Rattle.mz_words.specs.Sentences.{sentence, sentence_in, sentence_words, words_fit}

-- an event: its word, then its places and numbers
abbrev pub event_sentence : Event → Sentence
event_sentence (event.Take k first pages) = sentence form.Take (word.Place k ∷ word.Number first ∷ word.Number pages ∷ [])
event_sentence (event.Back k first pages) = sentence form.Back (word.Place k ∷ word.Number first ∷ word.Number pages ∷ [])
event_sentence (event.Move first from to) = sentence form.Move (word.Number first ∷ word.Place from ∷ word.Place to ∷ [])
event_sentence (event.New k a s al) = sentence form.New (word.Place k ∷ word.Number a ∷ word.Number s ∷ word.Number al ∷ [])
event_sentence (event.End k a s) = sentence form.End (word.Place k ∷ word.Number a ∷ word.Number s ∷ [])
event_sentence (event.Size k a s s2) = sentence form.Resize (word.Place k ∷ word.Number a ∷ word.Number s ∷ word.Number s2 ∷ [])
event_sentence (event.Full k n al) = sentence form.Full (word.Place k ∷ word.Number n ∷ word.Number al ∷ [])
event_sentence (event.Dry zone pages al) = sentence form.Dry (word.Small zone ∷ word.Number pages ∷ word.Number al ∷ [])
event_sentence (event.No k zone a s) = sentence form.No (word.Place k ∷ word.Small zone ∷ word.Number a ∷ word.Number s ∷ [])
event_sentence (event.Open zone) = sentence form.Open (word.Small zone ∷ [])
event_sentence (event.Shut zone) = sentence form.Shut (word.Small zone ∷ [])

-- the event that a sentence is
abbrev pub event_of : Form → List Word → Option Event
event_of form.Take (word.Place k ∷ word.Number first ∷ word.Number pages ∷ []) = Some (event.Take k first pages)
event_of form.Back (word.Place k ∷ word.Number first ∷ word.Number pages ∷ []) = Some (event.Back k first pages)
event_of form.Move (word.Number first ∷ word.Place from ∷ word.Place to ∷ []) = Some (event.Move first from to)
event_of form.New (word.Place k ∷ word.Number a ∷ word.Number s ∷ word.Number al ∷ []) = Some (event.New k a s al)
event_of form.End (word.Place k ∷ word.Number a ∷ word.Number s ∷ []) = Some (event.End k a s)
event_of form.Resize (word.Place k ∷ word.Number a ∷ word.Number s ∷ word.Number s2 ∷ []) = Some (event.Size k a s s2)
event_of form.Full (word.Place k ∷ word.Number n ∷ word.Number al ∷ []) = Some (event.Full k n al)
event_of form.Dry (word.Small zone ∷ word.Number pages ∷ word.Number al ∷ []) = Some (event.Dry zone pages al)
event_of form.No (word.Place k ∷ word.Small zone ∷ word.Number a ∷ word.Number s ∷ []) = Some (event.No k zone a s)
event_of form.Open (word.Small zone ∷ []) = Some (event.Open zone)
event_of form.Shut (word.Small zone ∷ []) = Some (event.Shut zone)
event_of _ _ = None

-- the event that words are
abbrev pub event_in : List (List ℕ) → Option Event
event_in ts = sentence_in 0 EVENTS ts >>= λ s. event_of s.form s.words

-- how an event is written
abbrev pub event_words : Event → List (List ℕ)
event_words x = sentence_words (event_sentence x)

-- an event that a line can have
abbrev pub event_fits : Event → Bool
event_fits x = words_fit 0 [] (event_sentence x).words
