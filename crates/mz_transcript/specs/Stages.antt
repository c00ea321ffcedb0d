-- What the lines of a printed run come to, one after the other, and at which line reading stops. This goes as the code goes;
-- that the line is the first bad one is proved.
use Rattle.std.specs.Prelude.{ℕ, ◌≡◌, ◌+◌, ◌==◌, ◌&&◌, Bool, nat_lt, nat_le, List, [], ◌∷◌, ◌++◌, length, Option, None, Some, if◌then◌else◌}
use Rattle.mz_base.specs.declared.profile.Profile.{Profile}
use Rattle.mz_words.specs.Numbers.{◌>>=◌}
use Rattle.mz_words.specs.Lines.{Cut, cuts, words_of, is_short}
use Rattle.mz_trace.specs.declared.round.TheConstants.{MOST_ROUNDS}
use Rattle.mz_lines.specs.declared.command.Command.{Command}
use Rattle.mz_lines.specs.declared.round_line.RoundLine.{RoundLine}
use Rattle.mz_trace.specs.declared.run.RunEntry.{RunEntry}
use Rattle.mz_trace.specs.declared.run.StartRecord.{StartRecord}
use Rattle.mz_trace.specs.declared.run.CallRecord.{CallRecord}
use Rattle.mz_trace.specs.declared.run.RunRound.{RunRound}
use Rattle.mz_trace.specs.declared.run.Run.{Run}
use Rattle.mz_trace.specs.declared.tail.Listed.{Listed}
use Rattle.mz_trace.specs.declared.tail.Figures.{Figures}
use Rattle.mz_lines.specs.Lines.{given_by}
use Rattle.mz_trace.specs.Given.{has_name, with_name}
use Rattle.mz_transcript.specs.declared.fault.RunFault.{RunFault}
use Rattle.mz_transcript.specs.declared.fault.RunFault.TheVariants as fault
use Rattle.mz_transcript.specs.declared.line.Counter.{Counter}
use Rattle.mz_transcript.specs.declared.line.Counter.TheVariants.{BlocksInUse, SizeInUse, MaxSizeInUse, SizeAllocated}
use Rattle.mz_transcript.specs.declared.line.RunLine.{RunLine}
use Rattle.mz_transcript.specs.declared.line.RunLine.TheVariants as line
use Rattle.mz_transcript.specs.declared.line.Due.{Due}
use Rattle.mz_transcript.specs.declared.line.Due.TheVariants as due
use Rattle.mz_transcript.specs.declared.book.Book.{Book}
use Rattle.mz_transcript.specs.declared.part.Part.{Part}
use Rattle.mz_transcript.specs.declared.part.Part.TheVariants.{Outside, Starts, Start, Section, Call}
use Rattle.mz_transcript.specs.declared.tail.Known.{Known}
use Rattle.mz_transcript.specs.declared.tail.Known.TheVariants as known
use Rattle.mz_transcript.specs.declared.stage.Stage.{Stage}
use Rattle.mz_transcript.specs.declared.stage.Stage.TheVariants.{First, Second, Rounds, Tail}
use Rattle.mz_transcript.specs.RunLines.{line_in}

-- what may come next
abbrev pub due_in : ℕ → Part → Due
due_in callers Outside = due.Heading
due_in callers (Starts ss) = due.Start
due_in callers (Start ss x es) = due.Told
due_in callers (Section ss ls cs) = due.Call callers
due_in callers (Call ss ls cs k es) = due.Told

abbrev pub due_statistic : Known → Due
due_statistic known.Nothing = due.Block
due_statistic (known.Blocks b) = due.Statistic SizeInUse
due_statistic (known.Size b s) = due.Statistic MaxSizeInUse
due_statistic (known.MaxSize b s m) = due.Statistic SizeAllocated
due_statistic (known.All s) = due.Nothing

abbrev pub due_of : Stage → Due
due_of First = due.First
due_of Second = due.Space
due_of (Rounds b part) = due_in b.profile.callers part
due_of (Tail r bs k) = due_statistic k

-- a further round, and no further round
abbrev pub blank_book : Profile → Book
blank_book p = record { profile = p; given = []; rounds = [] }

abbrev pub is_full : List RunRound → Bool
is_full rs = nat_le MOST_ROUNDS (length rs)

abbrev pub opened : Book → Option Stage
opened b = if is_full b.rounds then None else Some (Rounds b (Starts []))

abbrev pub ended : Book → Stage
ended b = Tail (record { profile = b.profile; rounds = b.rounds }) [] known.Nothing

-- with a round, if it has a section for each caller
abbrev pub with_round : Book → RunRound → Book
with_round b r = record { profile = b.profile; given = b.given; rounds = b.rounds ++ r ∷ [] }

abbrev pub closed : Book → List StartRecord → List (List CallRecord) → List CallRecord → Option Book
closed b ss ls cs = if length ls + 1 == b.profile.callers then Some (with_round b (record { starts = ss; callers = ls ++ cs ∷ [] })) else None

-- a command, whose name for a block that it gives is a new one
abbrev pub with_given : Book → List ℕ → Book
with_given b name = record { profile = b.profile; given = with_name b.given name; rounds = b.rounds }

abbrev pub book_named : Book → Option (List ℕ) → Option Book
book_named b None = Some b
book_named b (Some name) = if has_name b.given name then None else Some (with_given b name)

abbrev pub asked : Book → List StartRecord → List (List CallRecord) → List CallRecord → Command → Option Stage
asked b ss ls cs k = book_named b (given_by k) >>= λ c. Some (Rounds c (Call ss ls cs k []))

-- the section of the next caller
abbrev pub next_section : Book → List StartRecord → List (List CallRecord) → List CallRecord → ℕ → Option Stage
next_section b ss ls cs n = if (n == length ls + 1) && nat_lt n b.profile.callers then Some (Rounds b (Section ss (ls ++ cs ∷ []) [])) else None

-- one more line of the rounds
abbrev pub outside : Book → RunLine → Option Stage
outside b line.Round = opened b
outside b line.End = Some (ended b)
outside b _ = None

abbrev pub in_starts : Book → List StartRecord → RunLine → Option Stage
in_starts b ss (line.Start x) = Some (Rounds b (Start ss x []))
in_starts b ss (line.Caller n) = if n == 0 then Some (Rounds b (Section ss [] [])) else None
in_starts b ss _ = None

abbrev pub start_told : Book → List StartRecord → RoundLine → List RunEntry → RunLine → Option Stage
start_told b ss x es (line.Entry e) = Some (Rounds b (Start ss x (es ++ e ∷ [])))
start_told b ss x es (line.Answer a) = Some (Rounds b (Starts (ss ++ record { line = x; steps = es; answer = a } ∷ [])))
start_told b ss x es _ = None

abbrev pub in_section : Book → List StartRecord → List (List CallRecord) → List CallRecord → RunLine → Option Stage
in_section b ss ls cs (line.Call k) = asked b ss ls cs k
in_section b ss ls cs (line.Caller n) = next_section b ss ls cs n
in_section b ss ls cs line.Round = closed b ss ls cs >>= opened
in_section b ss ls cs line.End = closed b ss ls cs >>= λ c. Some (ended c)
in_section b ss ls cs _ = None

abbrev pub call_closed : Book → List StartRecord → List (List CallRecord) → List CallRecord → CallRecord → Option Stage
call_closed b ss ls cs d = Some (Rounds b (Section ss ls (cs ++ d ∷ [])))

abbrev pub call_told : Book → List StartRecord → List (List CallRecord) → List CallRecord → Command → List RunEntry → RunLine → Option Stage
call_told b ss ls cs k es (line.Entry e) = Some (Rounds b (Call ss ls cs k (es ++ e ∷ [])))
call_told b ss ls cs k es (line.Answer a) = call_closed b ss ls cs (record { command = k; steps = es; answer = a })
call_told b ss ls cs k es _ = None

abbrev pub rounds_with : Book → Part → RunLine → Option Stage
rounds_with b Outside v = outside b v
rounds_with b (Starts ss) v = in_starts b ss v
rounds_with b (Start ss x es) v = start_told b ss x es v
rounds_with b (Section ss ls cs) v = in_section b ss ls cs v
rounds_with b (Call ss ls cs k es) v = call_told b ss ls cs k es v

-- one more line behind them
abbrev pub known_with : Known → Counter → ℕ → Option Known
known_with known.Nothing BlocksInUse n = Some (known.Blocks n)
known_with (known.Blocks b) SizeInUse n = Some (known.Size b n)
known_with (known.Size b s) MaxSizeInUse n = Some (known.MaxSize b s n)
known_with (known.MaxSize b s m) SizeAllocated n = Some (known.All (record { blocks_in_use = b; size_in_use = s; max_size_in_use = m; size_allocated = n }))
known_with _ _ n = None

abbrev pub listed_with : Run → List Listed → Known → Listed → Option Stage
listed_with r bs known.Nothing b = Some (Tail r (bs ++ b ∷ []) known.Nothing)
listed_with r bs _ b = None

abbrev pub in_tail : Run → List Listed → Known → RunLine → Option Stage
in_tail r bs k (line.Block b) = listed_with r bs k b
in_tail r bs k (line.Statistic c n) = known_with k c n >>= λ j. Some (Tail r bs j)
in_tail r bs k _ = None

-- one more line
abbrev pub with_line : Stage → RunLine → Option Stage
with_line First line.First = Some Second
with_line Second (line.Space p) = Some (Rounds (blank_book p) Outside)
with_line (Rounds b part) v = rounds_with b part v
with_line (Tail r bs k) v = in_tail r bs k v
with_line _ _ = None

abbrev pub words_read : Stage → List (List ℕ) → Option Stage
words_read s ws = line_in (due_of s) ws >>= λ v. with_line s v

abbrev pub stage_read : Stage → Cut → Option Stage
stage_read s l = if is_short l then words_read s (words_of l.text) else None

-- a run with what stands behind it, or the number of the first line that is bad
abbrev pub RunAndTail : Type 0
RunAndTail = Run × Figures

pub data Outcome : Type 0 where
  good : RunAndTail → Outcome
  bad : ℕ → Outcome

abbrev pub finished : Stage → ℕ → Outcome
finished (Tail r bs (known.All s)) n = good (r, record { listing = bs; statistics = s })
finished _ n = bad n

-- the lines from line n on
abbrev pub after_line : (Stage → Outcome) → ℕ → Option Stage → Outcome
after_line go n None = bad n
after_line go n (Some s) = go s

abbrev pub reading : Stage → ℕ → List Cut → Outcome
reading s n [] = finished s n
reading s n (l ∷ ls) = after_line (λ t. reading t (n + 1) ls) n (stage_read s l)

abbrev pub reading_of : List ℕ → Outcome
reading_of bytes = reading First 1 (cuts bytes)

-- where memory is enough, a fault names the line at which reading stops
abbrev pub FaultIs : Outcome → RunFault → Type 0
FaultIs o (fault.Bad line) = o ≡ bad line
FaultIs o fault.NoMemory = Unit {0}
