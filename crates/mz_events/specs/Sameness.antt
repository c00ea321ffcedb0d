-- When two states are one, in whatever order their spots were first touched. This project's own.
use Rattle.std.specs.Prelude.{ℕ, ◌≡◌, Bool, true, not, ◌&&◌, List, [], ◌∷◌, sum_by, IsTrue, ◌↔◌, None}
use Rattle.std.specs.List.{list_any, Contains}
use Rattle.std.specs.List.Sorted.{IsPermutation}
use Rattle.mz_base.specs.declared.profile.Profile.{Profile}
use Rattle.mz_base.specs.Space.{Block, Run}
use Rattle.mz_events.specs.declared.place.Place.{Place}
use Rattle.mz_events.specs.declared.event.Event.{Event}
use Rattle.mz_events.specs.declared.entry.Entry.{Entry}
use Rattle.mz_events.specs.Places.{Spot, same_spot}
use Rattle.mz_events.specs.State.{Value, State, value_at, kept_at, is_open, live_blocks, placed_runs, live_size, kept_of}
use Rattle.mz_events.specs.Effect.{after}
use Rattle.mz_events.specs.Rules.{Rule, keeps, Fits, first_broken}
use Rattle.mz_events.specs.History.{AreLawful, after_all, owes_nothing, first_breach}

-- the list has a value for the spot
abbrev pub has_spot : List (Spot × Value) → Spot → Bool
has_spot pairs j = list_any (λ pair. same_spot j pair.0) pairs

-- no spot stands twice in the list
abbrev pub has_each_once : List (Spot × Value) → Bool
has_each_once [] = true
has_each_once (pair ∷ pairs) = not (has_spot pairs pair.0) && has_each_once pairs

-- each spot stands once among the values of a state, as it does in all that entries leave
abbrev pub IsOnce : State → Type 0
IsOnce s = IsTrue (has_each_once s.values)

-- Two states are the same where each spot has the same value in both, the same zones are open, and the numbers are
-- equal. The order of the values, and blank ones among them, make no difference.
pub record IsSame (s t : State) : Type 0 where
  pub values : (j : Spot) → value_at s j ≡ value_at t j
  pub zones : (z : ℕ) → is_open s z ≡ is_open t z
  pub entries : s.entries ≡ t.entries
  pub greatest : s.greatest ≡ t.greatest

-- What no one can tell apart of two states: the rules that an event keeps, and the first that it breaks; what events
-- leave; which entries are lawful, and their first breach; whether a duty stands; the live blocks, the runs, the sum of
-- the live sizes, and what each place keeps.
pub record AreAlike (p : Profile) (s t : State) : Type 0 where
  pub rules : (r : Rule) (c : ℕ) (e : Event) → keeps r p s c e ≡ keeps r p t c e
  pub fits : (c : ℕ) (e : Event) → Fits p s c e → Fits p t c e
  pub broken : (c : ℕ) (e : Event) → first_broken p s c e ≡ first_broken p t c e
  pub event : (c : ℕ) (e : Event) → IsSame (after p s c e) (after p t c e)
  pub entries : (es : List Entry) → IsSame (after_all p s es) (after_all p t es)
  pub lawful : (es : List Entry) → AreLawful p s es → AreLawful p t es
  pub breach : (es : List Entry) → first_breach p s es ≡ first_breach p t es
  pub owing : owes_nothing s ≡ owes_nothing t
  pub live : IsPermutation (live_blocks s) (live_blocks t)
  pub runs : IsPermutation (placed_runs s) (placed_runs t)
  pub size : live_size s.values ≡ live_size t.values
  pub kept : (k : Place) → kept_of p s k ≡ kept_of p t k

-- What the lists of a state have to do with the values at its spots.
pub record IsBySpot (s : State) : Type 0 where
  pub owing : IsTrue (owes_nothing s) ↔ ((j : Spot) → (value_at s j).duty ≡ None)
  pub live : (j : Spot) (b : Block) → Contains {X = Spot × Block} (live_blocks s) (j, b) ↔ Contains (kept_at s j).live b
  pub runs : (j : Spot) (r : Run) → Contains {X = Spot × Run} (placed_runs s) (j, r) ↔ Contains (kept_at s j).runs r
  pub size : live_size s.values ≡ sum_by (λ (x : Spot × Block). x.1.size) (live_blocks s)
