-- What each kind of step tells the seat that makes it. This project's own.
use Rattle.std.specs.Prelude.{◌≡◌, ◌≢◌, ◌⊎◌, ℕ, ◌+◌, ◌-◌, ◌*◌, ◌^◌, ◌<◌, ◌≤◌, false, List, [], ◌∷◌, ◌++◌, length, slice_index, slice_index_or, Option, Some, None}
use Rattle.atomic_table.specs.Table.{Step, rest}
use Rattle.mz_base.specs.Space.{Block}
use Rattle.mz_base.specs.Limits.{IsWithinLimits}
use Rattle.mz_events.specs.declared.entry.Entry.{Entry}
use Rattle.mz_events.specs.declared.event.Event.{Event}
use Rattle.mz_events.specs.State.{value_at, opening}
use Rattle.mz_events.specs.Changes.{one_for}
use Rattle.mz_events.specs.History.{AreLawful, after_all}
use Rattle.mz_events.specs.Holding.{AreAway}
use Rattle.mz_events.specs.Standing.{Keeping, Stands}
use Rattle.mz_book.specs.Keepers.{place_at, keeper_spot, is_held}
use Rattle.mz_book.specs.Pairs.{hand_among, owners}
use Rattle.mz_book.specs.Lights.{has_slot}
use Rattle.mz_book.specs.Account.{is_live, IsRecord}
use Rattle.mz_desk.specs.declared.view.View.{View}
use Rattle.mz_desk.specs.Views.{site_at, clashed, locked, looked, drawn, freed, lit, unlit, knowing, settled_first}
use Rattle.mz_desk.specs.Needs.{Seated}

-- What a seat knows by all that it has seen: those entries are lawful, its record is what of its own came since the opening, tickets don't wrap, and
-- as long as it took in no other seat, each pair that it has is there once, and live.
pub record Knows (v : View) : Type 0 where
  pub limits : IsWithinLimits v.profile
  pub caller : v.caller < v.profile.callers
  pub lawful : AreLawful v.profile opening v.seen
  pub recorded : IsRecord v.caller v.seen v.noted
  pub counted : length v.seen ≤ (v.profile.callers + 1) * 2 ^ 58
  pub owned : v.joined ≡ [] → (b : Block) → owners v.pairs b ≤ one_for (is_live (after_all v.profile opening v.seen) b)
  pub sized : length v.settled ≡ v.profile.nano

-- take-lock: the lock was free and is the seat's, as the history then had some number of entries; or another seat has it, that of one of
-- the callers
pub record TriesLock {V : Type 0} (st : Step (Option V)) (me : Seated V) (n : ℕ) (me' : Seated V) : Type 0 where
  pub carried : me'.1 ≡ me.1
  pub from : ℕ
  pub got : n ≡ 0 → me'.0 ≡ locked me.0 (st.word - 1) from
  pub missed : n ≢ 0 → me'.0 ≡ clashed me.0 st.word 0 n
  pub other : n ≢ me.0.caller + 1
  pub most : n ≤ me.0.profile.callers

-- look: entries of others came, which touch no place held before; and the keeper that was taken stands for its place
pub record Looks {V : Type 0} (keeping : V → Keeping) (st : Step (Option V)) (me : Seated V) (n : ℕ) (me' : Seated V) : Type 0 where
  pub others : List Entry
  pub away : AreAway me.0.profile me.0.caller (is_held me.0.profile me.0.held) others
  pub view : me'.0 ≡ looked me.0 others n
  pub keeper : V
  pub carried : me'.1 ≡ (slice_index me.0.taking 0, Some keeper) ∷ me.1
  pub stands : Stands (keeping keeper) (site_at me.0.space) me.0.profile (place_at me.0.profile (slice_index me.0.taking 0)) (value_at (after_all me.0.profile opening (me.0.seen ++ others)) (keeper_spot me.0.profile (slice_index me.0.taking 0))).kept
  pub calm : (value_at (after_all me.0.profile opening (me.0.seen ++ others)) (keeper_spot me.0.profile (slice_index me.0.taking 0))).duty ≡ None
  pub knows : Knows (looked me.0 others n)

-- draw-ticket: entries of others came, which touch no held place, and then the seat's own
pub record Draws {V : Type 0} (e : Event) (st : Step (Option V)) (me : Seated V) (n : ℕ) (me' : Seated V) : Type 0 where
  pub others : List Entry
  pub away : AreAway me.0.profile me.0.caller (is_held me.0.profile me.0.held) others
  pub ticket : n ≡ length (me.0.seen ++ others)
  pub view : me'.0 ≡ drawn me.0 others n e
  pub carried : me'.1 ≡ me.1
  pub knows : Knows (drawn me.0 others n e)

-- free-lock: the keeper was put back, and the lock let go
pub record Frees {V : Type 0} (st : Step (Option V)) (me : Seated V) (n : ℕ) (me' : Seated V) : Type 0 where
  pub view : me'.0 ≡ freed me.0 (st.word - 1)
  pub carried : me'.1 ≡ rest me.1

-- take-light: the word was as expected, and the light is held; else it was another, which never is where the slot is to be live
pub record TriesLight {V : Type 0} (b j : ℕ) (st : Step (Option V)) (me : Seated V) (n : ℕ) (me' : Seated V) : Type 0 where
  pub carried : me'.1 ≡ me.1
  pub got : n ≡ st.first → me'.0 ≡ lit me.0 st.word b j st.first
  pub idle : n ≡ st.first → st.first ≡ 0 → has_slot me.0.profile (hand_among me.0.caller me.0.pairs) b j ≡ false
  pub missed : n ≢ st.first → me'.0 ≡ clashed me.0 st.word st.first n
  pub never : n ≢ st.first → st.first ≡ 0

-- store-light
pub record StoresLight {V : Type 0} (b j : ℕ) (st : Step (Option V)) (me : Seated V) (n : ℕ) (me' : Seated V) : Type 0 where
  pub carried : me'.1 ≡ me.1
  pub view : me'.0 ≡ unlit me.0 b j

-- settle-class: the block had no class, and has this one; or it had this one; or it has another
pub record TriesClass {V : Type 0} (b : ℕ) (st : Step (Option V)) (me : Seated V) (n : ℕ) (me' : Seated V) : Type 0 where
  pub carried : me'.1 ≡ me.1
  pub first : n ≡ 0 → me'.0 ≡ settled_first me.0 st.word b st.second
  pub again : n ≢ 0 → n ≡ st.second → me'.0 ≡ clashed (knowing me.0 b st.second) st.word 0 n
  pub other : n ≢ 0 → n ≢ st.second → me'.0 ≡ clashed me.0 st.word 0 n
  pub most : n ≤ 16
  pub known : (slice_index_or me.0.settled b 0 ≡ 0) ⊎ (slice_index_or me.0.settled b 0 ≡ n)
