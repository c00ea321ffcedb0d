-- What several calls of a book add up to. This project's own.
use Rattle.std.specs.Prelude.{◌≡◌, ℕ, ◌+◌, ◌-◌, ◌≤◌, ◌==◌, Bool, true, ◌&&◌, ◌||◌, not, List, [], ◌∷◌, ◌++◌, length, IsTrue}
use Rattle.mz_base.specs.declared.profile.Profile.{Profile}
use Rattle.mz_events.specs.declared.place.Place.{Place}
use Rattle.mz_events.specs.declared.entry.Entry.{Entry}
use Rattle.mz_events.specs.Places.{Spot, keeper_at}
use Rattle.mz_events.specs.State.{is_open}
use Rattle.mz_events.specs.Effect.{touches}
use Rattle.mz_events.specs.Hands.{own}
use Rattle.mz_book.specs.declared.pair.Pair.{Pair}
use Rattle.mz_book.specs.Keepers.{is_held}
use Rattle.mz_book.specs.Pairs.{pairs_after}
use Rattle.mz_book.specs.Account.{Account, state_of, holds_spot}

-- the pairs after these entries of a caller
abbrev pub pairs_through : ℕ → List Pair → List Entry → List Pair
pairs_through c pairs [] = pairs
pairs_through c pairs (e ∷ es) = pairs_through c (pairs_after c pairs e.event) es

-- the entry is one of c that touches the spot
abbrev pub is_own_touch : Profile → ℕ → Spot → Entry → Bool
is_own_touch p c j e = (e.caller == c) && touches p e.event j

-- whether an entry of c touches the spot, or begun says that one did before
unfoldable pub has_begun : Profile → ℕ → Spot → Bool → List Entry → Bool
has_begun p c j begun [] = begun
has_begun p c j begun (e ∷ es) = has_begun p c j (begun || is_own_touch p c j e) es

-- once an entry of c touched the spot, no other caller's entry touches it
unfoldable pub is_undisturbed : Profile → ℕ → Spot → Bool → List Entry → Bool
is_undisturbed p c j begun [] = true
is_undisturbed p c j begun (e ∷ es) = ((e.caller == c) || not (begun && touches p e.event j)) && is_undisturbed p c j (begun || is_own_touch p c j e) es

-- what no call on keepers and entries changes
pub record IsSame (s t : Account) : Type 0 where
  pub name : t.name ≡ s.name
  pub profile : t.profile ≡ s.profile
  pub caller : t.caller ≡ s.caller
  pub site : t.site ≡ s.site
  pub between : t.between ≡ s.between
  pub lights : t.lights ≡ s.lights
  pub settled : t.settled ≡ s.settled
  pub founds : t.founds ≡ s.founds
  pub found : t.found ≡ s.found

-- the record grew by just these entries, while others came, and n holds at most were counted
pub record Adds (s : Account) (mine : List Entry) (n : ℕ) (t : Account) : Type 0 where
  pub more : List Entry
  pub same : IsSame s t
  pub seen : t.seen ≡ s.seen ++ more
  pub own_is : own s.caller more ≡ mine
  pub alone : IsTrue s.between → more ≡ mine
  pub noted : t.noted ≡ s.noted ++ mine
  pub pairs : t.pairs ≡ pairs_through s.caller s.pairs mine
  pub spare : t.spare ≡ s.spare - length mine
  pub holds : t.holds ≤ s.holds + n
  pub zones : (z : ℕ) → is_open (state_of t) z ≡ is_open (state_of s) z

-- and once an own entry touched a place that has a keeper, or where it was held before, no other caller's entry touches it
pub record Grows (s : Account) (mine : List Entry) (n : ℕ) (t : Account) : Type 0 where
  pub adds : Adds s mine n t
  pub undisturbed : (q : Place) → IsTrue (is_undisturbed s.profile s.caller (keeper_at q) (holds_spot s (keeper_at q)) adds.more)

-- and each such place that was held before, or that an own entry touched, is still held
pub record GrowsHolding (s : Account) (mine : List Entry) (n : ℕ) (t : Account) : Type 0 where
  pub grows : Grows s mine n t
  pub still : (q : Place) → IsTrue (has_begun s.profile s.caller (keeper_at q) (holds_spot s (keeper_at q)) grows.adds.more) → IsTrue (is_held s.profile t.held (keeper_at q))
