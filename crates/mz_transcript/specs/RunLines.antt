-- The lines of a printed run: their words, and how words are read where a line is due. That the lines are those of the texts
-- is proved.
use Rattle.std.specs.Prelude.{ℕ, ◌&&◌, List, [], ◌∷◌, Option, None, Some, codes, if◌then◌else◌}
use Rattle.std.specs.Str.{bytes_eq}
use Rattle.mz_transcript.specs.declared.line.Counter.{Counter}
use Rattle.mz_transcript.specs.declared.line.Counter.TheVariants.{BlocksInUse, SizeInUse, MaxSizeInUse, SizeAllocated}
use Rattle.mz_transcript.specs.declared.line.RunLine.{RunLine}
use Rattle.mz_transcript.specs.declared.line.RunLine.TheVariants as line
use Rattle.mz_transcript.specs.declared.line.Due.{Due}
use Rattle.mz_transcript.specs.declared.line.Due.TheVariants as due
use Rattle.mz_words.specs.Numbers.{number_of, ◌>>=◌}
use Rattle.mz_lines.specs.Commands.{command_in}
use Rattle.mz_lines.specs.RoundLines.{start_in}
use Rattle.mz_lines.specs.Spaces.{profile_in}
use Rattle.mz_transcript.specs.Entries.{entry_in}
use Rattle.mz_lines.specs.Answers.{answer_in}
use Rattle.mz_transcript.specs.Listings.{listed_in}

-- the word in front of each of the statistics
abbrev pub counter_word : Counter → List ℕ
counter_word BlocksInUse = codes "blocks_in_use"
counter_word SizeInUse = codes "size_in_use"
counter_word MaxSizeInUse = codes "max_size_in_use"
counter_word SizeAllocated = codes "size_allocated"

-- the first two lines
abbrev pub first_in : List (List ℕ) → Option RunLine
first_in (w ∷ v ∷ []) = if bytes_eq w (codes "mzone-run") && bytes_eq v (codes "1") then Some line.First else None
first_in _ = None

abbrev pub space_in : List (List ℕ) → Option RunLine
space_in ws = profile_in ws >>= λ p. Some (line.Space p)

-- headings: `round`, `end`, and `caller` with a number
abbrev pub bare_heading : List ℕ → Option RunLine
bare_heading w = if bytes_eq w (codes "round") then Some line.Round else if bytes_eq w (codes "end") then Some line.End else None

abbrev pub caller_heading : List ℕ → List ℕ → Option RunLine
caller_heading w n = if bytes_eq w (codes "caller") then (number_of n >>= λ c. Some (line.Caller c)) else None

abbrev pub heading_of : List ℕ → List (List ℕ) → Option RunLine
heading_of w [] = bare_heading w
heading_of w (n ∷ []) = caller_heading w n
heading_of w (n ∷ x ∷ ws) = None

abbrev pub heading_in : List (List ℕ) → Option RunLine
heading_in [] = None
heading_in (w ∷ ws) = heading_of w ws

-- what is asked stands behind a `>`
abbrev pub start_line_in : List (List ℕ) → Option RunLine
start_line_in ws = start_in 0 ws >>= λ x. Some (line.Start x)

abbrev pub start_or_heading_in : List (List ℕ) → Option RunLine
start_or_heading_in [] = None
start_or_heading_in (w ∷ ws) = if bytes_eq w (codes ">") then start_line_in ws else heading_of w ws

abbrev pub call_line_in : ℕ → List (List ℕ) → Option RunLine
call_line_in callers ws = command_in callers ws >>= λ k. Some (line.Call k)

abbrev pub call_or_heading_in : ℕ → List (List ℕ) → Option RunLine
call_or_heading_in callers [] = None
call_or_heading_in callers (w ∷ ws) = if bytes_eq w (codes ">") then call_line_in callers ws else heading_of w ws

-- what became of it: entries, and the answer behind a `=`
abbrev pub answer_line_in : List (List ℕ) → Option RunLine
answer_line_in ws = answer_in ws >>= λ a. Some (line.Answer a)

abbrev pub entry_line_in : List (List ℕ) → Option RunLine
entry_line_in ws = entry_in ws >>= λ e. Some (line.Entry e)

abbrev pub told_in : List (List ℕ) → Option RunLine
told_in [] = None
told_in (w ∷ ws) = if bytes_eq w (codes "=") then answer_line_in ws else entry_line_in (w ∷ ws)

-- the listing, and the statistics
abbrev pub counted : Counter → List ℕ → List ℕ → Option RunLine
counted k w n = if bytes_eq w (counter_word k) then (number_of n >>= λ v. Some (line.Statistic k v)) else None

abbrev pub statistic_in : Counter → List (List ℕ) → Option RunLine
statistic_in k (w ∷ n ∷ []) = counted k w n
statistic_in k _ = None

abbrev pub listed_line_in : List (List ℕ) → Option RunLine
listed_line_in ws = listed_in ws >>= λ b. Some (line.Block b)

abbrev pub block_in : List (List ℕ) → Option RunLine
block_in [] = None
block_in (w ∷ ws) = if bytes_eq w (codes "block") then listed_line_in (w ∷ ws) else statistic_in BlocksInUse (w ∷ ws)

-- the line that words are where this is due
abbrev pub line_in : Due → List (List ℕ) → Option RunLine
line_in due.First ws = first_in ws
line_in due.Space ws = space_in ws
line_in due.Heading ws = heading_in ws
line_in due.Start ws = start_or_heading_in ws
line_in (due.Call callers) ws = call_or_heading_in callers ws
line_in due.Told ws = told_in ws
line_in due.Block ws = block_in ws
line_in (due.Statistic k) ws = statistic_in k ws
line_in due.Nothing ws = None
