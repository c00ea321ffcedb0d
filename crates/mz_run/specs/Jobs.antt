-- The words by which the program is asked to do something. They are this project's own.
use Rattle.std.specs.Prelude.{ℕ, List, [], ◌∷◌, Option, None, Some, codes, if◌then◌else◌}
use Rattle.std.specs.Str.{bytes_eq}
use Rattle.mz_run.specs.declared.job.RunJob.TheVariants.{Trace}
use Rattle.mz_run.specs.declared.job.Tool.TheVariants.{Check}
use Rattle.mz_run.specs.declared.job.Job.{Job}
use Rattle.mz_run.specs.declared.job.Job.TheVariants.{Run, Tool}

-- the job that a single word names
abbrev pub job_named : List ℕ → Option Job
job_named word =
    if bytes_eq word (codes "run") then Some (Run Trace)
    else (if bytes_eq word (codes "check") then Some (Tool Check)
    else None)

-- the job that the words name, if they name one
abbrev pub job_of : List (List ℕ) → Option Job
job_of [] = None
job_of (word ∷ []) = job_named word
job_of (word ∷ next ∷ words) = None
