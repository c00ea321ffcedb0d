-- What it is for a record of a run not to fit, by the part that is wrong.
use Rattle.std.specs.Prelude.{ℕ, zero, suc, ◌≡◌, false, List, [], ◌∷◌}
use Rattle.mz_trace.specs.declared.run.Run.{Run}
use Rattle.mz_trace.specs.RunTexts.{trace_of}
use Rattle.mz_lawful.specs.Records.{caller_of}
use Rattle.mz_lawful.specs.Standing.{caller_at}
use Rattle.mz_lawful.specs.Settings.{low}
use Rattle.mz_lawful.specs.Tasks.{task_of}
use Rattle.mz_lawful.specs.Fitting.{IsAnswer, AreEntries, are_bytes_shown, is_rising_from}
use Rattle.mz_lawful.specs.LawfulRun.{Placed, placed_records, IsLawfulRun}

-- the run is a lawful one, of its own lines
abbrev pub IsLawful : Run → Type 0
IsLawful r = IsLawfulRun (trace_of r) r

-- there is an i-th record, and this holds of it
abbrev pub AtRecord : (Placed → Type 0) → List Placed → ℕ → Type 0
AtRecord P [] i = ⊥
AtRecord P (x ∷ xs) zero = P x
AtRecord P (x ∷ xs) (suc i) = AtRecord P xs i

-- the answer isn't that of its line
abbrev pub IsWronglyAnswered : Placed → Type 0
IsWronglyAnswered x = ¬ IsAnswer (task_of x.setting x.deed.line) x.deed.entries x.deed.answer

-- the entries aren't those of its line
abbrev pub HasOtherEntries : Placed → Type 0
HasOtherEntries x = ¬ AreEntries x.setting (caller_of x.deed.line) (task_of x.setting x.deed.line) x.deed.entries

-- a byte is shown that isn't the one that was written
abbrev pub ShowsOtherBytes : Placed → Type 0
ShowsOtherBytes x = are_bytes_shown (caller_at x.setting.standing (caller_of x.deed.line)) (task_of x.setting x.deed.line) x.deed.answer ≡ false

-- a ticket doesn't come after those that have to come before it
abbrev pub IsOutOfTurn : Placed → Type 0
IsOutOfTurn x = is_rising_from (low x.setting) x.deed.entries ≡ false

-- the same of the i-th record of a run, counted from 0 in the order of the text
abbrev pub WrongAnswer : Run → ℕ → Type 0
WrongAnswer r i = AtRecord IsWronglyAnswered (placed_records r) i

abbrev pub WrongEntries : Run → ℕ → Type 0
WrongEntries r i = AtRecord HasOtherEntries (placed_records r) i

abbrev pub WrongBytes : Run → ℕ → Type 0
WrongBytes r i = AtRecord ShowsOtherBytes (placed_records r) i

abbrev pub WrongOrder : Run → ℕ → Type 0
WrongOrder r i = AtRecord IsOutOfTurn (placed_records r) i
