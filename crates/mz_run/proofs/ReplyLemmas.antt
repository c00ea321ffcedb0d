-- How a call ends by what it says.
use Rattle.std.proofs.Common.{◌≡◌, ◌∙◌, ℕ, List, Result, Ok, Err, sym, subst}
use Rattle.std.specs.Prelude.{Option, None, MatchOption, IfOk}
use Rattle.std.specs.declared.alloc.AllocError.{AllocError}
use Rattle.mz_run.specs.declared.reply.Reply.{Reply}
use Rattle.mz_run.specs.declared.status.Status.{Status}
use Rattle.mz_run.specs.declared.status.Status.TheVariants.{Usage, BadInput}
use Rattle.mz_run.specs.declared.job.RunJob.{RunJob}
use Rattle.mz_run.specs.declared.job.RunJob.TheVariants.{Trace}
use Rattle.mz_run.specs.declared.job.Tool.{Tool}
use Rattle.mz_run.specs.declared.job.Tool.TheVariants.{Check}
use Rattle.mz_run.specs.declared.job.Job.{Job}
use Rattle.mz_run.specs.declared.job.Job.TheVariants as jobs
use Rattle.mz_run.specs.Jobs.{job_of}
use Rattle.mz_run.specs.Built.{HasUnbuilt}
use Rattle.mz_run.specs.Replies.{IsSaid, whole, front}
use Rattle.mz_run.specs.Top.{Seen, RunSays, CheckSays, CallEnds, JobEnds, MainEnds, bad_trace, not_built, usage, IsUnread, UsageEnds}

-- a line that isn't built is refused
pub unbuilt_said :
    (bytes : List ℕ) (line : ℕ) (r : Result Reply AllocError) → HasUnbuilt bytes line
    → IfOk r (λ reply. (reply.status ≡ BadInput) × (reply.output.items ≡ bad_trace line 13))
    → IfOk r (λ reply. RunSays bytes reply.status reply.output.items)
unbuilt_said bytes line (Ok reply) unbuilt said =
    subst (λ (s : Status). RunSays bytes s reply.output.items) (sym said.0)
    (not_built (record { line = line; unbuilt = unbuilt; printed = said.1 }))
unbuilt_said bytes line (Err e) unbuilt said = tt

-- words that the program doesn't know
pub usage_said :
    (before after : Seen) (ended : Status) → IsUnread before after
    → IsSaid before.taken after.taken before.write_faults after.write_faults Usage usage ended → UsageEnds before after ended
usage_said before after ended unread (whole is wrote) = subst (UsageEnds before after) (sym is) (unread, wrote)
usage_said before after ended unread (front k is cause wrote) =
    subst (UsageEnds before after) (sym is) (unread, record { cause = cause; front = (k, wrote) })

-- each job of a kind ends as what it does
pub run_ends : (job : RunJob) (before after : Seen) (s : Status) → CallEnds RunSays before after s → JobEnds (jobs.Run job) before after s
run_ends Trace before after s ends = ends

pub tool_ends : (tool : Tool) (before after : Seen) (s : Status) → CallEnds CheckSays before after s → JobEnds (jobs.Tool tool) before after s
tool_ends Check before after s ends = ends

-- where the words name no job
pub no_job :
    (words : List (List ℕ)) (job : Option Job) (before after : Seen) (s : Status) → job ≡ job_of words → job ≡ None → UsageEnds before after s
    → MainEnds words before after s
no_job words job before after s named none ends =
    subst (λ (o : Option Job). MatchOption o (UsageEnds before after s) (λ j. JobEnds j before after s)) (sym none ∙ named) ends
