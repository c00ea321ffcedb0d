-- Entries of a printed run, from their words. This follows the code; that they are those of the texts is proved.
use Rattle.std.specs.Prelude.{ℕ, List, [], ◌∷◌, Option, Some, None}
use Rattle.mz_words.specs.Numbers.{number_of, ◌>>=◌}
use Rattle.mz_lines.specs.Events.{event_in}
use Rattle.mz_trace.specs.declared.run.RunEntry.{RunEntry}

-- an entry: its ticket and its event
abbrev pub entry_in : List (List ℕ) → Option RunEntry
entry_in [] = None
entry_in (t ∷ ts) = do
  ticket ← number_of t
  event ← event_in ts
  Some (record { ticket = ticket; event = event })
