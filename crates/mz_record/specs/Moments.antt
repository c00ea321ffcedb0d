-- The state at an entry of a history and after its first entries, and the duty that an entry leaves. This project's own.
use Rattle.std.specs.Prelude.{ℕ, ◌≡◌, ◌<◌, nat_lt, List, [], ◌∷◌, filter, map, take, not, Option, None, Some, IsTrue, Contains}
use Rattle.mz_base.specs.declared.profile.Profile.{Profile}
use Rattle.mz_events.specs.declared.entry.Entry.{Entry}
use Rattle.mz_events.specs.declared.event.Event.{Event}
use Rattle.mz_events.specs.Duties.{is_that}
use Rattle.mz_events.specs.Effect.{touched}
use Rattle.mz_events.specs.State.{State, opening, value_at}
use Rattle.mz_events.specs.History.{after_entry, after_all, by_ticket}

-- the state that the entries with tickets below t leave
abbrev pub state_before : Profile → List Entry → ℕ → State
state_before p h t = after_all p opening (filter (λ e. nat_lt e.ticket t) (by_ticket h))

-- the state that the first t entries leave
abbrev pub state_at : Profile → List Entry → ℕ → State
state_at p h t = after_all p opening (take t (by_ticket h))

-- the first that is one
abbrev pub first_some : {A : Type 0} → List (Option A) → Option A
first_some [] = None
first_some (None ∷ os) = first_some os
first_some (Some d ∷ os) = Some d

-- the duty that stands, right after the entry, at a spot that it touched
abbrev pub duty_left : Profile → List Entry → Entry → Option Event
duty_left p h e = let s = after_entry p (state_before p h e.ticket) e in first_some (map (λ j. (value_at s j).duty) (touched p e.event))

-- The second entry meets the duty that the first leaves: it is the first one behind it that is this event.
pub record MeetsDuty (p : Profile) (h : List Entry) (e met : Entry) : Type 0 where
  pub duty : duty_left p h e ≡ Some met.event
  pub at_once : (x : Entry) → Contains h x → e.ticket < x.ticket → x.ticket < met.ticket → IsTrue (not (is_that met.event x.event))

-- each entry leaves a duty that the next one meets, and the last leaves none
abbrev pub MeetDuties : Profile → List Entry → Entry → List Entry → Type 0
MeetDuties p h e [] = duty_left p h e ≡ None
MeetDuties p h e (met ∷ es) = MeetsDuty p h e met × MeetDuties p h met es
