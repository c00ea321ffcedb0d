-- What a step does.
use Rattle.std.specs.Prelude.{ℕ, ◌≡◌, ◌==◌, Option, Some, Result, Ok, Err, if◌then◌else◌}
use Rattle.mz_base.specs.Space.{Block, block_at}
use Rattle.mz_events.specs.declared.entry.Entry.{Entry}
use Rattle.mz_history.specs.declared.state.StepFault.{StepFault}
use Rattle.mz_history.specs.declared.state.StepFault.TheVariants.{Unlawful, NoMemory}
use Rattle.mz_events.specs.History.{IsLawful, after_entry}
use Rattle.mz_history.specs.Booked.{Booked}
use Rattle.mz_history.specs.Outcomes.{why_of_event}

-- a pair of an address and a size as a block
abbrev pub block_of_pair : ℕ × ℕ → Block
block_of_pair e = block_at e.0 e.1

-- the number of the first rule that the entry breaks on the state: the first is that its ticket is in turn
abbrev pub why_of_entry : Booked → Entry → Option ℕ
why_of_entry b e = if e.ticket == b.state.entries then why_of_event b.profile b.state e else Some 1

-- An entry that is lawful is done, and leaves the state after it; one that isn't is refused by its first why. A refusal, and
-- a want of memory, change nothing.
abbrev pub IsStep : Booked → Entry → Result (Unit {0}) StepFault → Booked → Type 0
IsStep old e (Ok _) new = IsLawful old.profile old.state e × (new ≡ record { profile = old.profile; state = after_entry old.profile old.state e })
IsStep old e (Err (Unlawful why)) new = (why_of_entry old e ≡ Some why) × (new ≡ old)
IsStep old e (Err NoMemory) new = new ≡ old
