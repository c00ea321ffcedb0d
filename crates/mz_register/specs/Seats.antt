-- What a seat of a register does in a call. This project's own.
use Rattle.std.specs.Prelude.{◌≡◌, ◌≢◌, ℕ, ◌+◌, ◌≤◌, true, List, ◌∷◌, ◌++◌, Option, None}
use Rattle.atomic_table.specs.Seated.{TableId}
use Rattle.atomic_table.specs.declared.shared.Seat.{Seat}
use Rattle.mz_base.specs.declared.profile.Profile.{Profile}
use Rattle.mz_events.specs.declared.entry.Entry.{Entry}
use Rattle.mz_events.specs.State.{value_at, opening}
use Rattle.mz_events.specs.History.{after_all}
use Rattle.mz_events.specs.Holding.{AreAway}
use Rattle.mz_events.specs.Standing.{Keeping, Stands}
use Rattle.mz_book.specs.Keepers.{place_at, keeper_spot, is_among, is_held}
use Rattle.mz_desk.specs.declared.view.View.{View}
use Rattle.mz_book.specs.declared.light.Clash.{Clash}
use Rattle.mz_desk.specs.Views.{site_at, locked, looked, clashed}
use Rattle.mz_desk.specs.Needs.{Seated, IsIdle}
use Rattle.mz_desk.specs.Steps.{Knows}

-- the seat is one of the table, and of a register of this profile
pub record IsSeatOf {V : Type 0} (z : TableId) (p : Profile) (seat : Seat (Option V) View) : Type 0 where
  pub table : seat.table_id ≡ z
  pub profile : seat.me.0.profile ≡ p

-- the locked keeper k was taken, which leaves its slot empty: it stands for its place after all that was seen then, and no duty stands there
pub record Takes {V : Type 0} (keeping : V → Keeping) (me : Seated V) (k : ℕ) (x : V) (me' : Seated V) : Type 0 where
  pub counter : ℕ
  pub others : List Entry
  pub away : AreAway me.0.profile me.0.caller (is_held me.0.profile me.0.held) others
  pub view : me'.0 ≡ looked me.0 others counter
  pub carried : me'.1 ≡ (k, None) ∷ me.1
  pub stands : Stands (keeping x) (site_at me.0.space) me.0.profile (place_at me.0.profile k) (value_at (after_all me.0.profile opening (me.0.seen ++ others)) (keeper_spot me.0.profile k)).kept
  pub calm : (value_at (after_all me.0.profile opening (me.0.seen ++ others)) (keeper_spot me.0.profile k)).duty ≡ None
  pub knows : Knows (looked me.0 others counter)

-- the keeper k was taken last, which left its slot empty; the keeper x stands for its place, and no duty stands there
pub record CanPutBack {V : Type 0} (keeping : V → Keeping) (me : Seated V) (k : ℕ) (x : V) : Type 0 where
  pub idle : IsIdle me.0
  pub held : is_among me.0.held k ≡ true
  pub others : List (ℕ × Option V)
  pub last : me.1 ≡ (k, None) ∷ others
  pub stands : Stands (keeping x) (site_at me.0.space) me.0.profile (place_at me.0.profile k) (value_at (after_all me.0.profile opening me.0.seen) (keeper_spot me.0.profile k)).kept
  pub calm : (value_at (after_all me.0.profile opening me.0.seen) (keeper_spot me.0.profile k)).duty ≡ None

-- the keeper k was locked, after tries that found it taken
pub record Locks {V : Type 0} (me : Seated V) (k : ℕ) (me' : Seated V) : Type 0 where
  pub from : ℕ
  pub clashes : List Clash
  pub view : me'.0 ≡ record (locked me.0 k from) { clashes = clashes }
  pub carried : me'.1 ≡ me.1

-- the keeper k was locked and taken
pub record Gets {V : Type 0} (keeping : V → Keeping) (me : Seated V) (k : ℕ) (x : V) (me' : Seated V) : Type 0 where
  pub from : ℕ
  pub clashes : List Clash
  pub counter : ℕ
  pub others : List Entry
  pub away : AreAway me.0.profile me.0.caller (is_held me.0.profile me.0.held) others
  pub view : me'.0 ≡ record (looked (locked me.0 k from) others counter) { clashes = clashes }
  pub carried : me'.1 ≡ (k, None) ∷ me.1
  pub stands : Stands (keeping x) (site_at me.0.space) me.0.profile (place_at me.0.profile k) (value_at (after_all me.0.profile opening (me.0.seen ++ others)) (keeper_spot me.0.profile k)).kept
  pub calm : (value_at (after_all me.0.profile opening (me.0.seen ++ others)) (keeper_spot me.0.profile k)).duty ≡ None
  pub knows : Knows me'.0

-- the lock of k was tried in vain: its word was another seat's
pub record Misses {V : Type 0} (me : Seated V) (k word : ℕ) (me' : Seated V) : Type 0 where
  pub some : 1 ≤ word
  pub most : word ≤ me.0.profile.callers
  pub other : word ≢ me.0.caller + 1
  pub view : me'.0 ≡ clashed me.0 (k + 1) 0 word
  pub carried : me'.1 ≡ me.1
