-- Books before and after an event.
use Rattle.std.proofs.Common.{◌≡◌, ℕ, ◌+◌, List, [], ◌∷◌, ◌++◌, sym, ap, ◌∙◌, subst, max}
use Rattle.std.specs.Prelude.{None, ◌↔◌}
use Rattle.mz_base.specs.declared.profile.Profile.{Profile}
use Rattle.mz_events.specs.declared.entry.Entry.{Entry}
use Rattle.mz_events.specs.declared.event.Event.{Event}
use Rattle.mz_events.specs.Places.{Spot}
use Rattle.mz_events.specs.State.{Value, State, opening, live_size}
use Rattle.mz_events.specs.Effect.{values_after, zones_after, after}
use Rattle.mz_events.specs.Rules.{first_broken}
use Rattle.mz_events.specs.Fitting.{FitsByEvent}
use Rattle.mz_events.specs.History.{IsLawful, AreLawful, after_all}
use Rattle.mz_events.specs.Separation.{IsSeparate, IsAscending}
use Rattle.mz_history.specs.Booked.{Booked, IsBooked}
use Rattle.mz_history.specs.BookedStates.{state_with}
use Rattle.mz_history.specs.Ready.{IsReady}
use Rattle.mz_history.proofs.SpotLemmas.{same_spot-refl}
use Rattle.mz_history.proofs.ReadyLemmas.{ready}
use Rattle.mz_history.proofs.AfterLemmas.{StatesJoined, StatesOne, fits_unbroken, state_is, booked_after}

abbrev pub LawOfEvents : Type 0
LawOfEvents = (p : Profile) (s : State) (c : ℕ) → FitsByEvent p s c

abbrev pub LawOfPages : Type 0
LawOfPages = (p : Profile) (entries : List Entry) → AreLawful p opening entries → IsSeparate p (after_all p opening entries)

abbrev pub LawOfLists : Type 0
LawOfLists = (p : Profile) (entries : List Entry) → AreLawful p opening entries → IsAscending p (after_all p opening entries)

-- an event that breaks no rule can be done in the slots
pub ready_books : LawOfEvents → LawOfPages → LawOfLists → (p : Profile) (s : State) (c : ℕ) (e : Event) → IsBooked p s → first_broken p s c e ≡ None → IsReady s.values e
ready_books law pages lists p s c e booked unbroken =
    let reached = booked.reached in
    ready p s c booked.limits (law p s c) (subst (IsSeparate p) (sym reached.2) (pages p reached.0 reached.1)) (subst (IsAscending p) (sym reached.2) (lists p reached.0 reached.1)) booked.sound
    same_spot-refl e (fits_unbroken p s c e unbroken)

abbrev pub LawOfJoined : Type 0
LawOfJoined = (p : Profile) (s : State) (xs ys : List Entry) → AreLawful p s (xs ++ ys) ↔ (AreLawful p s xs × AreLawful p (after_all p s xs) ys)

abbrev pub LawOfOne : Type 0
LawOfOne = (p : Profile) (s : State) (e : Entry) → AreLawful p s (e ∷ []) ↔ IsLawful p s e

-- the books after it
pub books_after : LawOfEvents → LawOfJoined → LawOfOne → StatesJoined → StatesOne → (p : Profile) (s : State) (c : ℕ) (e : Event) (slots : List (Spot × Value)) (zones : List ℕ) (entries greatest : ℕ)
    → IsBooked p s → first_broken p s c e ≡ None → slots ≡ values_after p s c e → zones ≡ zones_after s.open_zones e → entries ≡ s.entries + 1 → greatest ≡ max s.greatest (live_size slots)
    → IsBooked p (state_with slots zones entries greatest)
books_after law joined one states state p s c e slots zones entries greatest booked unbroken a b d f =
    subst (IsBooked p) (sym (state_is p s c e slots zones entries greatest a b d f))
    (booked_after (λ p s xs ys h. (joined p s xs ys).1 h) (λ p s e h. (one p s e).1 h) states state p s c e (law p s c) booked (fits_unbroken p s c e unbroken))

pub view_after : (p : Profile) (s : State) (c : ℕ) (e : Event) (slots : List (Spot × Value)) (zones : List ℕ) (entries greatest : ℕ) (b : Booked) → record { profile = p; state = s } ≡ b
    → slots ≡ values_after p s c e → zones ≡ zones_after s.open_zones e → entries ≡ s.entries + 1 → greatest ≡ max s.greatest (live_size slots)
    → ◌≡◌ {A = Booked} (record { profile = p; state = state_with slots zones entries greatest }) (record { profile = b.profile; state = after b.profile b.state c e })
view_after p s c e slots zones entries greatest b seen f g h i =
    ap (λ (t : State). record { profile = p; state = t }) (state_is p s c e slots zones entries greatest f g h i)
    ∙ ap (λ (x : Booked). record { profile = x.profile; state = after x.profile x.state c e }) seen
