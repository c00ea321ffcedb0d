-- A test that tells an entry that meets a duty, for the worked examples.
use Rattle.std.proofs.Common.{◌≡◌, Bool, true, List, Some, inl, inr}
use Rattle.std.specs.Prelude.{nat_lt, not, ◌||◌}
use Rattle.std.specs.List.{list_all}
use Rattle.std.proofs.lemmas.Bool.{lt-ltb, or_cases}
use Rattle.mz_base.specs.declared.profile.Profile.{Profile}
use Rattle.mz_events.specs.declared.entry.Entry.{Entry}
use Rattle.mz_events.specs.Duties.{is_that}
use Rattle.mz_record.specs.Moments.{duty_left, MeetsDuty}
use Rattle.mz_examples.proofs.UndisturbedTest.{all_at, flipped}

-- x isn't the event of d between e and d
abbrev pub is_not_between : Entry → Entry → Entry → Bool
is_not_between e d x = not (nat_lt e.ticket x.ticket) || (not (nat_lt x.ticket d.ticket) || not (is_that d.event x.event))

pub meets : {p : Profile} {h : List Entry} {e d : Entry} → duty_left p h e ≡ Some d.event → list_all (is_not_between e d) h ≡ true → MeetsDuty p h e d
meets {p = p} {h = h} {e = e} {d = d} due none = record {
  duty = due;
  at_once = λ x at after before.
      elim (or_cases (not (nat_lt e.ticket x.ticket)) _ (all_at (is_not_between e d) h x none at)) [
        | inl denied ↦ absurd (flipped (nat_lt e.ticket x.ticket) (lt-ltb e.ticket x.ticket after) denied)
        | inr rest ↦ elim (or_cases (not (nat_lt x.ticket d.ticket)) _ rest) [
          | inl denied ↦ absurd (flipped (nat_lt x.ticket d.ticket) (lt-ltb x.ticket d.ticket before) denied)
          | inr other ↦ other
        ]
      ];
}
