-- When a run of a trace is lawful. This project's own.
use Rattle.std.specs.Prelude.{ℕ, ◌+◌, ◌≡◌, List, [], ◌∷◌, ◌++◌, fold}
use Rattle.std.specs.List.{AllByRecursion}
use Rattle.mz_events.specs.History.{IsLawfulHistory, by_ticket}
use Rattle.mz_trace.specs.declared.run.CallRecord.{CallRecord}
use Rattle.mz_trace.specs.declared.run.RunRound.{RunRound}
use Rattle.mz_trace.specs.declared.run.Run.{Run}
use Rattle.mz_trace.specs.declared.trace.Trace.{Trace}
use Rattle.mz_trace.specs.RunTexts.{trace_of}
use Rattle.mz_lawful.specs.Records.{LineRecord, start_records, call_records, entries_of_round, entries_of}
use Rattle.mz_lawful.specs.Standing.{Standing, first_standing, delivered}
use Rattle.mz_lawful.specs.Settings.{Setting}
use Rattle.mz_lawful.specs.After.{after_record}
use Rattle.mz_lawful.specs.Fitting.{FitsRecord}

-- a record in its place in a run
pub record Placed : Type 0 where
  pub setting : Setting
  pub deed : LineRecord

-- where the next line of the same caller stands
abbrev pub behind : Setting → LineRecord → Setting
behind s d = record s { before = s.before ++ d.entries; standing = after_record s d }

-- one record after another, each in its place, and where a further one would stand
abbrev pub placed : Setting → List LineRecord → List Placed
placed s [] = []
placed s (d ∷ ds) = record { setting = s; deed = d } ∷ placed (behind s d) ds

abbrev pub behind_all : Setting → List LineRecord → Setting
behind_all s ds = fold behind s ds

-- the next caller's first command stands where this caller's did, but for what this caller has done to what stands
abbrev pub beside_section : Setting → ℕ → List CallRecord → Setting
beside_section s c ds = record s { standing = (behind_all s (call_records c ds)).standing }

-- the records of the sections of callers from c on
abbrev pub placed_sections : Setting → ℕ → List (List CallRecord) → List Placed
placed_sections s c [] = []
placed_sections s c (ds ∷ sections) = placed s (call_records c ds) ++ placed_sections (beside_section s c ds) (c + 1) sections

abbrev pub beside_sections : Setting → ℕ → List (List CallRecord) → Setting
beside_sections s c [] = s
beside_sections s c (ds ∷ sections) = beside_sections (beside_section s c ds) (c + 1) sections

-- the records of a round, and where the next round stands
abbrev pub placed_round : Setting → RunRound → List Placed
placed_round s r = placed s (start_records r.starts) ++ placed_sections (behind_all s (start_records r.starts)) 0 r.callers

abbrev pub after_round : Setting → RunRound → Setting
after_round s r = record s {
  before = s.before ++ entries_of_round r;
  standing = delivered (beside_sections (behind_all s (start_records r.starts)) 0 r.callers).standing;
}

-- the records of rounds, and where a further round would stand
abbrev pub placed_rounds : Setting → List RunRound → List Placed
placed_rounds s [] = []
placed_rounds s (r ∷ rs) = placed_round s r ++ placed_rounds (after_round s r) rs

abbrev pub after_rounds : Setting → List RunRound → Setting
after_rounds s rs = fold after_round s rs

-- where the first line of a run stands: the history is the entries in order of their tickets
abbrev pub first_setting : Run → Setting
first_setting r = record { profile = r.profile; history = by_ticket (entries_of r); before = []; standing = first_standing }

-- all records of a run, each in its place, in the order of the text
abbrev pub placed_records : Run → List Placed
placed_records r = placed_rounds (first_setting r) r.rounds

-- what stands at the end of a run
abbrev pub last_standing : Run → Standing
last_standing r = (after_rounds (first_setting r) r.rounds).standing

-- A lawful run of a trace: its lines are the trace's; its entries, ordered by ticket, are a lawful history; and each record
-- fits. (That each line has one record, and each entry stands in one, is the form of a run.)
pub record IsLawfulRun (t : Trace) (r : Run) : Type 0 where
  pub trace : trace_of r ≡ t
  pub history : IsLawfulHistory r.profile (entries_of r)
  pub fitting : AllByRecursion (λ x. FitsRecord x.setting x.deed) (placed_records r)
