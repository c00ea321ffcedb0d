-- How a call of the program ends, as its source and its sink show it. This project's own.
use Rattle.std.specs.Prelude.{ℕ, ◌≡◌, ◌≤◌, ◌+◌, List, [], ◌∷◌, ◌++◌, length, take, Option, None, Some, MatchOption, codes}
use Rattle.std.specs.Fmt.{decimal}
use Rattle.std.specs.Io.KnownBytes.{Consumes, IsAtEnd}
use Rattle.mz_io.specs.Count.{Rose}
use Rattle.mz_io.specs.Stream.{Takes}
use Rattle.mz_lines.specs.declared.why.Why.{Why}
use Rattle.mz_trace.specs.declared.run.Run.{Run}
use Rattle.mz_trace.specs.declared.trace.Trace.{Trace}
use Rattle.mz_trace.specs.Faults.{bad_line_of}
use Rattle.mz_lines.specs.Whys.{why_number}
use Rattle.mz_trace.specs.RunForms.{IsRunText}
use Rattle.mz_trace.specs.Texts.{IsTraceText, HasTrace}
use Rattle.mz_run.specs.declared.status.Status.{Status}
use Rattle.mz_run.specs.declared.status.Status.TheVariants.{Done, No, Usage, BadInput, ReadFault, WriteFault, NoMemory, TooLong}
use Rattle.mz_run.specs.declared.job.RunJob.TheVariants.{Trace as trace_job}
use Rattle.mz_run.specs.declared.job.Tool.TheVariants.{Check}
use Rattle.mz_run.specs.declared.job.Job.{Job}
use Rattle.mz_run.specs.declared.job.Job.TheVariants as jobs
use Rattle.mz_run.specs.Jobs.{job_of}
use Rattle.mz_run.specs.Built.{unbuilt_line, HasUnbuilt}
use Rattle.mz_lawful.specs.LawfulRun.{IsLawfulRun}
use Rattle.mz_lawful.specs.Tail.{tail_of}

-- the most bytes that an input may have
abbrev pub most_bytes : ℕ
most_bytes = 16777216

-- the number of each status
abbrev pub status_number : Status → ℕ
status_number Done = 0
status_number No = 1
status_number Usage = 2
status_number BadInput = 3
status_number ReadFault = 4
status_number WriteFault = 5
status_number NoMemory = 6
status_number TooLong = 7

-- What contracts see of a source and a sink together: the bytes that are left and how many reads have failed, the bytes
-- that were taken and how many writes have failed.
pub record Seen : Type 0 where
  pub left : Option (List ℕ)
  pub read_faults : ℕ
  pub taken : Option (List ℕ)
  pub write_faults : ℕ

abbrev pub seen : Option (List ℕ) → ℕ → Option (List ℕ) → ℕ → Seen
seen left read_faults taken write_faults = record { left = left; read_faults = read_faults; taken = taken; write_faults = write_faults }

-- neither count has fallen
pub record CountsKept (before after : Seen) : Type 0 where
  pub reads : before.read_faults ≤ after.read_faults
  pub writes : before.write_faults ≤ after.write_faults

-- nothing was read
pub record IsUnread (before after : Seen) : Type 0 where
  pub left : after.left ≡ before.left
  pub faults : after.read_faults ≡ before.read_faults

-- nothing was written
pub record IsUnwritten (before after : Seen) : Type 0 where
  pub taken : after.taken ≡ before.taken
  pub faults : after.write_faults ≡ before.write_faults

-- just these bytes were written
abbrev pub Wrote : Seen → Seen → List ℕ → Type 0
Wrote before after output = Takes before.taken after.taken output

-- a write failed, and what was written is the front of this output
pub record IsCutShort (before after : Seen) (output : List ℕ) : Type 0 where
  pub cause : Rose before.write_faults after.write_faults
  pub front : (k : ℕ) × Wrote before after (take k output)

-- a source gave its whole input: all bytes that it had left, and not too many
pub record IsInput (before after : Option (List ℕ)) (bytes : List ℕ) : Type 0 where
  pub read : Consumes before after bytes
  pub ended : IsAtEnd after
  pub few : length bytes ≤ most_bytes

-- a source gave one byte more than an input may have, and nothing further
pub record IsTooLong (before after : Option (List ℕ)) (bytes : List ℕ) : Type 0 where
  pub read : Consumes before after bytes
  pub count : length bytes ≡ most_bytes + 1

-- a source gave some of its bytes, at most one more than an input may have
pub record IsBounded (before after : Option (List ℕ)) : Type 0 where
  pub bytes : List ℕ
  pub read : Consumes before after bytes
  pub few : length bytes ≤ most_bytes + 1

-- a line: its text, and a line feed
abbrev pub line_of : List ℕ → List ℕ
line_of text = text ++ 10 ∷ []

-- the line for an input that is too long
abbrev pub too_long : List ℕ
too_long = line_of (codes "too long")

-- the line for a trace that is good
abbrev pub good_trace : List ℕ
good_trace = line_of (codes "ok")

-- the line for a line that is refused, by its number and the number of its why
abbrev pub bad_trace : ℕ → ℕ → List ℕ
bad_trace line why = line_of (codes "bad trace: line " ++ decimal line ++ codes ", why " ++ decimal why)

-- the number of the why that is no fault of a trace: the line isn't built
abbrev pub unbuilt_why : ℕ
unbuilt_why = 13

-- For every trace, number of callers and interleaving, the answers that `mzone run` prints, ordered by ticket, are one
-- lawful history of a plain allocator: each block is large enough, aligned and apart from every live block; null comes
-- only where each stated place is full; each caller reads its own bytes; and the blocks listed at the end are exactly
-- those left live.
--
-- The output is the text of a lawful run of the trace whose text the bytes are, and each of whose lines is built, with its
-- listing and statistics.
pub record IsRunOutput (bytes output : List ℕ) : Type 0 where
  pub trace : Trace
  pub run : Run
  pub text : IsTraceText bytes trace
  pub built : unbuilt_line trace.profile text.lines ≡ None
  pub lawful : IsLawfulRun trace run
  pub printed : IsRunText output run (tail_of run)

-- the output says the first bad line of the bytes, which are no text of a trace
pub record SaysBadLine (bytes output : List ℕ) : Type 0 where
  pub line : ℕ
  pub why : Why
  pub bad : bad_line_of bytes ≡ Some (line, why)
  pub printed : output ≡ bad_trace line (why_number why)

-- the output says the first line that isn't built of the trace whose text the bytes are
pub record SaysUnbuiltLine (bytes output : List ℕ) : Type 0 where
  pub line : ℕ
  pub unbuilt : HasUnbuilt bytes line
  pub printed : output ≡ bad_trace line unbuilt_why

-- the output says why the bytes aren't run
pub data IsRefusal (bytes output : List ℕ) : Type 0 where
  no_trace : SaysBadLine bytes output → IsRefusal bytes output
  not_built : SaysUnbuiltLine bytes output → IsRefusal bytes output

-- there were too many bytes, and the output says so
pub record SaysTooLong (before after : Option (List ℕ)) (output : List ℕ) : Type 0 where
  pub bytes : List ℕ
  pub input : IsTooLong before after bytes
  pub printed : output ≡ too_long

-- what `run` says of a whole input, by the status with which it then ends
abbrev pub RunSays : List ℕ → Status → List ℕ → Type 0
RunSays bytes Done output = IsRunOutput bytes output
RunSays bytes BadInput output = IsRefusal bytes output
RunSays bytes _ output = ⊥

-- what `check` says of a whole input
abbrev pub CheckSays : List ℕ → Status → List ℕ → Type 0
CheckSays bytes Done output = HasTrace bytes × (output ≡ good_trace)
CheckSays bytes No output = SaysBadLine bytes output
CheckSays bytes _ output = ⊥

-- what a call says of the bytes that a source gave: that they are too many, or what it says of the whole input
abbrev pub Says : (List ℕ → Status → List ℕ → Type 0) → Option (List ℕ) → Option (List ℕ) → Status → List ℕ → Type 0
Says says before after TooLong output = SaysTooLong before after output
Says says before after status output = (bytes : List ℕ) × IsInput before after bytes × says bytes status output

-- an output for this status was written
abbrev pub Printed : (Status → List ℕ → Type 0) → Seen → Seen → Status → Type 0
Printed prints before after status = (output : List ℕ) × prints status output × Wrote before after output

-- a write failed, and what was written is the front of an output for some status
abbrev pub PrintedFront : (Status → List ℕ → Type 0) → Seen → Seen → Type 0
PrintedFront prints before after = (status : Status) × (output : List ℕ) × prints status output × IsCutShort before after output

-- How a call ends that reads its input whole, by its status. Faults of reading and want of memory end it before anything
-- is written.
abbrev pub CallEnds : (List ℕ → Status → List ℕ → Type 0) → Seen → Seen → Status → Type 0
CallEnds says before after ReadFault = Rose before.read_faults after.read_faults × IsBounded before.left after.left × IsUnwritten before after
CallEnds says before after WriteFault = PrintedFront (Says says before.left after.left) before after
CallEnds says before after NoMemory = IsBounded before.left after.left × IsUnwritten before after
CallEnds says before after status = Printed (Says says before.left after.left) before after status

-- what a job says of a whole input, by the status with which it then ends
abbrev pub JobSays : Job → List ℕ → Status → List ℕ → Type 0
JobSays (jobs.Run trace_job) bytes status output = RunSays bytes status output
JobSays (jobs.Tool Check) bytes status output = CheckSays bytes status output

-- how a job ends
abbrev pub JobEnds : Job → Seen → Seen → Status → Type 0
JobEnds job before after status = CallEnds (JobSays job) before after status

-- the line for words that the program doesn't know
abbrev pub usage : List ℕ
usage = line_of (codes "usage: mzone run | stress SEED COUNT | check | audit | gen SEED COUNT | image | heap | regions")

-- how the call ends for such words
abbrev pub UsageEnds : Seen → Seen → Status → Type 0
UsageEnds before after Usage = IsUnread before after × Wrote before after usage
UsageEnds before after WriteFault = IsUnread before after × IsCutShort before after usage
UsageEnds before after _ = ⊥

-- how the call ends by its words: as the job that they name, or as one that tells the usage
abbrev pub MainEnds : List (List ℕ) → Seen → Seen → Status → Type 0
MainEnds words before after status = MatchOption (job_of words) (UsageEnds before after status) (λ job. JobEnds job before after status)
