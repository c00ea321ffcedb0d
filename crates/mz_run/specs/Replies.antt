-- What a call has to say before it writes. This project's own.
use Rattle.std.specs.Prelude.{ℕ, ◌≡◌, List, Option, Result, Ok, Err, take}
use Rattle.mz_io.specs.Count.{Rose}
use Rattle.mz_io.specs.Stream.{Takes}
use Rattle.mz_run.specs.declared.input.Input.{Input}
use Rattle.mz_run.specs.declared.input.Input.TheVariants as input
use Rattle.mz_run.specs.declared.input.InputError.{InputError}
use Rattle.mz_run.specs.declared.input.InputError.TheVariants as fault
use Rattle.mz_run.specs.declared.reply.Reply.{Reply}
use Rattle.mz_run.specs.declared.status.Status.{Status}
use Rattle.mz_run.specs.declared.status.Status.TheVariants.{ReadFault, WriteFault, NoMemory}
use Rattle.mz_run.specs.Top.{IsInput, IsTooLong}

-- what was read: the whole input, or one byte too many
abbrev pub IsRead : Option (List ℕ) → Option (List ℕ) → Input → Type 0
IsRead before after (input.Whole bytes) = IsInput before after bytes.items
IsRead before after input.TooLong = (bytes : List ℕ) × IsTooLong before after bytes

-- a sink has taken this output, and the call ended by this status, or it failed and has taken a front
pub data IsSaid (before after : Option (List ℕ)) (faults now : ℕ) (status : Status) (output : List ℕ) (ended : Status) : Type 0 where
  whole : ended ≡ status → Takes before after output → IsSaid before after faults now status output ended
  front :
      (k : ℕ) → ended ≡ WriteFault → Rose faults now → Takes before after (take k output)
      → IsSaid before after faults now status output ended

-- how a call ends that has this reply, or that has none
abbrev pub EndsWith : Option (List ℕ) → Option (List ℕ) → ℕ → ℕ → Result Reply InputError → Status → Type 0
EndsWith before after faults now (Ok reply) ended = IsSaid before after faults now reply.status reply.output.items ended
EndsWith before after faults now (Err fault.Failed) ended = (ended ≡ ReadFault) × (after ≡ before) × (now ≡ faults)
EndsWith before after faults now (Err fault.NoMemory) ended = (ended ≡ NoMemory) × (after ≡ before) × (now ≡ faults)
