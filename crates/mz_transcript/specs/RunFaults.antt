-- Which line of bytes that are no printed run is the first bad one. This project's own.
use Rattle.std.specs.Prelude.{ℕ, List, take, length, ◌≡◌, ◌<◌, ◌≤◌}
use Rattle.mz_transcript.specs.declared.fault.RunFault.{RunFault}
use Rattle.mz_transcript.specs.declared.fault.RunFault.TheVariants.{Bad, NoMemory}
use Rattle.mz_trace.specs.declared.run.Run.{Run}
use Rattle.mz_trace.specs.declared.tail.Figures.{Figures}
use Rattle.mz_words.specs.Lines.{cuts}
use Rattle.mz_trace.specs.RunForms.{IsRunText}

-- The bytes have n lines, and some printed run, with what stands behind it, begins with them.
pub record BeginsRun (bytes : List ℕ) (n : ℕ) : Type 0 where
  pub there : n ≤ length (cuts bytes)
  pub printed : List ℕ
  pub run : Run
  pub tail : Figures
  pub text : IsRunText printed run tail
  pub same : take n (cuts bytes) ≡ take n (cuts printed)

-- This line is the first bad one: fewer lines begin a printed run, and so many don't. A line that is missing is the one
-- behind the last.
pub record IsFirstBadLine (bytes : List ℕ) (line : ℕ) : Type 0 where
  pub before : (n : ℕ) → n < line → BeginsRun bytes n
  pub here : BeginsRun bytes line → ⊥

-- where memory is enough, the bytes are no printed run
abbrev pub HasNoRun : List ℕ → RunFault → Type 0
HasNoRun bytes (Bad line) = (r : Run) (t : Figures) → IsRunText bytes r t → ⊥
HasNoRun bytes NoMemory = Unit {0}

-- and the fault names the first bad line
abbrev pub TellsFirstBadLine : List ℕ → RunFault → Type 0
TellsFirstBadLine bytes (Bad line) = IsFirstBadLine bytes line
TellsFirstBadLine bytes NoMemory = Unit {0}
