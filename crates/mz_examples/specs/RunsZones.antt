-- Worked runs of several rounds, callers and zones, and spoiled ones: what is given, and zones of their own.
use Rattle.std.specs.Prelude.{ℕ, List, [], ◌∷◌, codes}
use Rattle.mz_base.specs.declared.profile.Profile.{Profile}
use Rattle.mz_events.specs.declared.place.Place.TheVariants.{TinyDepot, Large}
use Rattle.mz_events.specs.declared.event.Event.TheVariants.{Take, Back, New, End, Full, No, Open, Shut}
use Rattle.mz_events.specs.declared.entry.Entry.{Entry}
use Rattle.mz_lines.specs.declared.answer.Answer.{Answer}
use Rattle.mz_lines.specs.declared.answer.Answer.TheVariants as answers
use Rattle.mz_lines.specs.declared.command.Command.TheVariants.{Malloc, Free, ZoneFree, Fill, Show, Give, Use}
use Rattle.mz_lines.specs.declared.round_line.RoundLine.TheVariants as line
use Rattle.mz_trace.specs.declared.run.CallRecord.{CallRecord}
use Rattle.mz_trace.specs.declared.run.StartRecord.{StartRecord}
use Rattle.mz_trace.specs.declared.run.RunRound.{RunRound}
use Rattle.mz_trace.specs.declared.run.Run.{Run}
use Rattle.mz_trace.specs.declared.tail.Figures.{Figures}
use Rattle.mz_words.specs.declared.name.GivenName.{GivenName}
use Rattle.mz_words.specs.declared.name.Name.TheVariants.{Given}
use Rattle.mz_examples.specs.Examples.{profile_of, entry_of, magazine}
use Rattle.mz_examples.specs.Rows.{second}
use Rattle.mz_examples.specs.Edges.{entry_of_other, two_callers}
use Rattle.mz_examples.specs.Records.{record_of, start_of, round_of_records, figures}
use Rattle.mz_examples.specs.RunsRows.{name_a, name_b, new_at, makes_a_block}

-- two callers, two magazines, 128 pages
abbrev pub two_in_128 : Profile
two_in_128 = record (profile_of 128) { callers = 2; magazines = 2 }

-- the name @a
abbrev pub given_a : GivenName
given_a = record { base = codes "a" }

-- the block of 600 bytes is made and given to caller 1
abbrev pub makes_and_gives : List CallRecord
makes_and_gives = makes_a_block 600 608 ∷ record_of (Give name_a 1 given_a) [] answers.Done ∷ []

-- a line of caller 1 fills what it was given
abbrev pub fills_given : Answer → CallRecord
fills_given answer = record_of (Fill (Given given_a) 7) [] answer

-- Row `giving`, by what caller 1 does in the first round, and by what becomes of caller 0's `free` in the second.
abbrev pub gives : List CallRecord → CallRecord → Run
gives others frees = record {
  profile = two_in_128;
  rounds =
      round_of_records (makes_and_gives ∷ others ∷ [])
      ∷ round_of_records
      ((frees ∷ [])
      ∷ (fills_given answers.Done ∷ record_of (Free (Given given_a)) (entry_of_other 4 (End magazine 0 608) ∷ []) answers.Done ∷ [])
      ∷ [])
      ∷ [];
}

abbrev pub row_giving : Run
row_giving = gives [] (record_of (Free name_a) [] answers.NotHeld)

-- Row `zones`: the first round opens a zone and makes a block there; by the event that opens it, and the answer to `zfree`.
abbrev pub two_zones_in_64 : Profile
two_zones_in_64 = record (profile_of 64) { zones = 2 }

abbrev pub draft : List ℕ
draft = codes "draft"

abbrev pub default : List ℕ
default = codes "default"

-- the zone is opened, under this number
abbrev pub opens : ℕ → StartRecord
opens z = start_of (line.Zone draft) (entry_of 0 (Open z) ∷ []) answers.Done

-- a block of 16 bytes is made in it
abbrev pub makes_in_second : CallRecord
makes_in_second =
    record_of (Malloc (codes "a") 10)
    (entry_of 1 (Full second 16 16) ∷ entry_of 2 (Full (TinyDepot 1) 16 16) ∷ entry_of 3 (Take second 0 64) ∷ entry_of 4 (New second 0 16 16) ∷ [])
    (answers.Block 0 16)

-- it is to be freed as one of zone 0
abbrev pub freed_in_default : List Entry → Answer → CallRecord
freed_in_default es answer = record_of (ZoneFree default name_a) es answer

abbrev pub not_of_default : List Entry
not_of_default = entry_of 5 (No second 0 0 16) ∷ []

abbrev pub first_zone_round : StartRecord → CallRecord → RunRound
first_zone_round opening denied = record {
  starts = opening ∷ [];
  callers = (record_of (Use draft) [] answers.Done ∷ makes_in_second ∷ denied ∷ []) ∷ [];
}

-- the second: the zone has a live block, which then ends
abbrev pub second_zone_round : Answer → RunRound
second_zone_round answer = record {
  starts = start_of (line.Destroy draft) [] answer ∷ start_of (line.Destroy default) [] answers.IsDefault ∷ [];
  callers = (record_of (Free name_a) (entry_of 6 (End second 0 16) ∷ []) answers.Done ∷ []) ∷ [];
}

-- the third: it is destroyed, and there is no such zone any more
abbrev pub third_zone_round : List Entry → RunRound
third_zone_round es = record {
  starts = start_of (line.Destroy draft) es answers.Done ∷ start_of (line.Size draft 0) [] answers.NoZone ∷ [];
  callers = [] ∷ [];
}

abbrev pub destroys : List Entry
destroys = entry_of 7 (Shut 1) ∷ entry_of 8 (Back second 0 64) ∷ []

-- the row, by the record of `zfree`, and the answer to the first `destroy`
abbrev pub zones : CallRecord → Answer → Run
zones denied answer = record {
  profile = two_zones_in_64;
  rounds = first_zone_round (opens 1) denied ∷ second_zone_round answer ∷ third_zone_round destroys ∷ [];
}

abbrev pub row_zones : Run
row_zones = zones (freed_in_default not_of_default answers.NotLive) (answers.HasLive 1)

-- nothing is live, and no page in use
abbrev pub zones_tail : Figures
zones_tail = figures [] 0 0 16 0

-- the block is freed as one of its own zone; by the entries and the answer
abbrev pub freed_in_own : List Entry → Answer → Run
freed_in_own es answer = record { profile = two_zones_in_64; rounds = first_zone_round (opens 1) (record_of (ZoneFree draft name_a) es answer) ∷ [] }

abbrev pub ends_in_second : List Entry
ends_in_second = entry_of 5 (End second 0 16) ∷ []

-- it is said not to be one of it
abbrev pub not_of_second : List Entry
not_of_second = entry_of 5 (No second 1 0 16) ∷ []

-- in a space with three zones the zone is opened under number 2
abbrev pub opened_as_2 : Run
opened_as_2 = record {
  profile = record two_zones_in_64 { zones = 3 };
  rounds = record { starts = opens 2 ∷ []; callers = [] ∷ [] } ∷ [];
}

-- A zone with a large block that was freed and a tiny region is destroyed; by the order in which the runs go back.
abbrev pub destroyed : List Entry → Run
destroyed backs = record {
  profile = record two_zones_in_64 { pages = 128 };
  rounds =
      record {
        starts = opens 1 ∷ [];
        callers =
            (record_of (Use draft) [] answers.Done ∷ makes_in_second
            ∷ record_of (Malloc (codes "b") 40000) (entry_of 5 (Full (Large 1) 3 1) ∷ entry_of 6 (Take (Large 1) 64 3) ∷ entry_of 7 (New (Large 1) 1048576 49152 16) ∷ [])
            (answers.Block 1048576 49152)
            ∷ record_of (Free name_b) (entry_of 8 (End (Large 1) 1048576 49152) ∷ []) answers.Done ∷ record_of (Free name_a) (entry_of 9 (End second 0 16) ∷ []) answers.Done
            ∷ []) ∷ [];
      }
      ∷ record { starts = start_of (line.Destroy draft) (entry_of 10 (Shut 1) ∷ backs) answers.Done ∷ []; callers = [] ∷ [] }
      ∷ [];
}

abbrev pub in_ascending_order : List Entry
in_ascending_order = entry_of 11 (Back second 0 64) ∷ entry_of 12 (Back (Large 1) 64 3) ∷ []

abbrev pub in_descending_order : List Entry
in_descending_order = entry_of 11 (Back (Large 1) 64 3) ∷ entry_of 12 (Back second 0 64) ∷ []

-- Round lines that are refused, or only ask; by their answers.
abbrev pub asks : Answer → Answer → Answer → Answer → Run
asks taken full there inside = record {
  profile = two_zones_in_64;
  rounds =
      record {
        starts = opens 1 ∷ start_of (line.Zone draft) [] taken ∷ start_of (line.Zone (codes "other")) [] full ∷ start_of (line.Destroy default) [] answers.IsDefault ∷ [];
        callers = (record_of (Use (codes "other")) [] answers.NoZone ∷ record_of (Use draft) [] answers.Done ∷ makes_in_second ∷ []) ∷ [];
      }
      ∷ record {
        starts =
            start_of (line.Where 0) [] there ∷ start_of (line.Where 8) [] answers.Nowhere ∷ start_of (line.Size draft 0) [] (answers.Size 16)
            ∷ start_of (line.Size draft 8) [] inside ∷ start_of (line.Size default 0) [] (answers.Size 0) ∷ [];
        callers = [] ∷ [];
      }
      ∷ [];
}

abbrev pub row_asks : Run
row_asks = asks answers.NameTaken answers.TooMany (answers.Zone draft) (answers.Size 0)

-- caller 1 makes the first block of 48 bytes
abbrev pub made_by_other : List Entry
made_by_other =
    entry_of_other 0 (Full magazine 48 16) ∷ entry_of_other 1 (Full (TinyDepot 0) 48 16) ∷ entry_of_other 2 (Take magazine 0 64) ∷ entry_of_other 3 (New magazine 0 48 16) ∷ []

-- In one round caller 1 makes, fills and frees a block, and then caller 0 makes and fills it, whose lines stand first in
-- the text; by what caller 0 is shown in the next round.
abbrev pub one_after_the_other : List ℕ → Run
one_after_the_other shown = record {
  profile = two_callers;
  rounds =
      round_of_records
      ((record_of (Malloc (codes "a") 48) (new_at 5 0 48) (answers.Block 0 48) ∷ record_of (Fill name_a 3) [] answers.Done ∷ [])
      ∷ (record_of (Malloc (codes "b") 48) made_by_other (answers.Block 0 48) ∷ record_of (Fill name_b 7) [] answers.Done
      ∷ record_of (Free name_b) (entry_of_other 4 (End magazine 0 48) ∷ []) answers.Done ∷ [])
      ∷ [])
      ∷ round_of_records ((record_of (Show name_a 0 2) [] (answers.Bytes shown) ∷ []) ∷ [] ∷ [])
      ∷ [];
}
