-- When a verdict is right.
use Rattle.std.specs.Prelude.{◌≡◌, List, Some}
use Rattle.std.specs.Option.{option_map}
use Rattle.mz_base.specs.declared.profile.Profile.{Profile}
use Rattle.mz_events.specs.declared.entry.Entry.{Entry}
use Rattle.mz_history.specs.declared.verdict.Verdict.{Verdict}
use Rattle.mz_history.specs.declared.verdict.Verdict.TheVariants.{Lawful, Unlawful}
use Rattle.mz_events.specs.History.{IsLawfulHistory, breach_of, state_of}
use Rattle.mz_history.specs.Outcomes.{numbers_of}

-- The entries are a lawful history, and the state is the one that they leave; or their first breach is at the ticket, by the
-- rule of that number.
abbrev pub IsVerdict : Profile → List Entry → Verdict → Type 0
IsVerdict p entries (Lawful s) = IsLawfulHistory p entries × (s ≡ record { profile = p; state = state_of p entries })
IsVerdict p entries (Unlawful ticket why) = option_map numbers_of (breach_of p entries) ≡ Some (ticket, why)
