-- Commands, to and from sentences. This project's own.
use Rattle.std.specs.Prelude.{ℕ, Bool, List, [], ◌∷◌, Option, Some, None}
use Rattle.mz_words.specs.declared.kind.Word.{Word}
use Rattle.mz_words.specs.declared.kind.Word.TheVariants.{Number, Caller, Base, Name as Named, Old, New, Given, Zone, Byte, ShowCount, BatchCount}
use Rattle.mz_words.specs.declared.table.Form.{Form}
use Rattle.mz_words.specs.declared.table.Form.TheVariants as form
use Rattle.mz_words.specs.declared.sentence.Sentence.{Sentence}
use Rattle.mz_words.specs.declared.name.Name.{Name}
use Rattle.mz_words.specs.declared.name.Name.TheVariants as name
use Rattle.mz_lines.specs.declared.renaming.Names.{Names}
use Rattle.mz_lines.specs.declared.renaming.Names.TheVariants.{Fresh, Renamed, KeptBatch, KeptGiven}
use Rattle.mz_lines.specs.declared.command.Command.{Command}
use Rattle.mz_lines.specs.declared.command.Command.TheVariants as command
use Rattle.mz_words.specs.Sentences.{sentence, sentence_in, sentence_words, words_fit}
use Rattle.mz_words.specs.Numbers.{◌>>=◌}
use Rattle.mz_words.specs.declared.table.TheConstants.{COMMANDS}

-- the two names of a `realloc`
abbrev pub old_name : Names → Option Name
old_name (Fresh new) = None
old_name (Renamed old new) = Some old
old_name (KeptBatch b) = Some (name.Batch b)
old_name (KeptGiven g) = Some (name.Given g)

abbrev pub new_name : Names → Name
new_name (Fresh new) = name.Base new
new_name (Renamed old new) = name.Base new
new_name (KeptBatch b) = name.Batch b
new_name (KeptGiven g) = name.Given g

-- the command of two such names
abbrev pub realloc_of : Option Name → Name → ℕ → Option Command
realloc_of None (name.Base new) n = Some (command.Realloc (Fresh new) n)
realloc_of None _ n = None
realloc_of (Some old) (name.Base new) n = Some (command.Realloc (Renamed old new) n)
realloc_of (Some old) (name.Batch b) n = Some (command.Realloc (KeptBatch b) n)
realloc_of (Some old) (name.Given g) n = Some (command.Realloc (KeptGiven g) n)

-- the sentence of a command
abbrev pub command_sentence : Command → Sentence
command_sentence (command.Malloc name n) = sentence form.Malloc (Base name ∷ Number n ∷ [])
command_sentence (command.Calloc name n m) = sentence form.Calloc (Base name ∷ Number n ∷ Number m ∷ [])
command_sentence (command.Valloc name n) = sentence form.Valloc (Base name ∷ Number n ∷ [])
command_sentence (command.Memalign name al n) = sentence form.Memalign (Base name ∷ Number al ∷ Number n ∷ [])
command_sentence (command.Realloc names n) = sentence form.Realloc (Old (old_name names) ∷ New (new_name names) ∷ Number n ∷ [])
command_sentence (command.Free name) = sentence form.Free (Named name ∷ [])
command_sentence (command.FreeAt name off) = sentence form.FreeAt (Named name ∷ Number off ∷ [])
command_sentence (command.ZoneFree zone name) = sentence form.ZoneFree (Zone zone ∷ Named name ∷ [])
command_sentence (command.SizedFree name n) = sentence form.SizedFree (Named name ∷ Number n ∷ [])
command_sentence (command.Size name) = sentence form.Size (Named name ∷ [])
command_sentence (command.Fill name byte) = sentence form.Fill (Named name ∷ Byte byte ∷ [])
command_sentence (command.Show name off count) = sentence form.Show (Named name ∷ Number off ∷ ShowCount count ∷ [])
command_sentence (command.Link name off target) = sentence form.Link (Named name ∷ Number off ∷ Named target ∷ [])
command_sentence (command.Give name to given) = sentence form.Give (Named name ∷ Caller to ∷ Given given ∷ [])
command_sentence (command.Batch name count n) = sentence form.Batch (Base name ∷ BatchCount count ∷ Number n ∷ [])
command_sentence (command.Unbatch name) = sentence form.Unbatch (Base name ∷ [])
command_sentence (command.Use zone) = sentence form.Use (Zone zone ∷ [])

-- the command that a sentence is
abbrev pub command_of : Form → List Word → Option Command
command_of form.Malloc (Base name ∷ Number n ∷ []) = Some (command.Malloc name n)
command_of form.Calloc (Base name ∷ Number n ∷ Number m ∷ []) = Some (command.Calloc name n m)
command_of form.Valloc (Base name ∷ Number n ∷ []) = Some (command.Valloc name n)
command_of form.Memalign (Base name ∷ Number al ∷ Number n ∷ []) = Some (command.Memalign name al n)
command_of form.Realloc (Old old ∷ New new ∷ Number n ∷ []) = realloc_of old new n
command_of form.Free (Named name ∷ []) = Some (command.Free name)
command_of form.FreeAt (Named name ∷ Number off ∷ []) = Some (command.FreeAt name off)
command_of form.ZoneFree (Zone zone ∷ Named name ∷ []) = Some (command.ZoneFree zone name)
command_of form.SizedFree (Named name ∷ Number n ∷ []) = Some (command.SizedFree name n)
command_of form.Size (Named name ∷ []) = Some (command.Size name)
command_of form.Fill (Named name ∷ Byte byte ∷ []) = Some (command.Fill name byte)
command_of form.Show (Named name ∷ Number off ∷ ShowCount count ∷ []) = Some (command.Show name off count)
command_of form.Link (Named name ∷ Number off ∷ Named target ∷ []) = Some (command.Link name off target)
command_of form.Give (Named name ∷ Caller to ∷ Given given ∷ []) = Some (command.Give name to given)
command_of form.Batch (Base name ∷ BatchCount count ∷ Number n ∷ []) = Some (command.Batch name count n)
command_of form.Unbatch (Base name ∷ []) = Some (command.Unbatch name)
command_of form.Use (Zone zone ∷ []) = Some (command.Use zone)
command_of _ _ = None

-- the command that words are
abbrev pub command_in : ℕ → List (List ℕ) → Option Command
command_in callers ts = sentence_in callers COMMANDS ts >>= λ s. command_of s.form s.words

-- how a command is written
abbrev pub command_words : Command → List (List ℕ)
command_words c = sentence_words (command_sentence c)

-- A clause sees a name as any bytes, and a number as any number. This test says which of them a command of a trace with so
-- many callers can have.
abbrev pub command_fits : ℕ → Command → Bool
command_fits callers c = words_fit callers [] (command_sentence c).words
