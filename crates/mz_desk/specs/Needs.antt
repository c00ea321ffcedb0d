-- What the view of a seat has to show before each kind of step. This project's own.
use Rattle.std.specs.Prelude.{◌≡◌, ℕ, ◌^◌, ◌<◌, ◌≤◌, true, false, List, [], ◌∷◌, length, Option, Some, None}
use Rattle.atomic_table.specs.Table.{Me}
use Rattle.mz_events.specs.declared.event.Event.{Event}
use Rattle.mz_events.specs.State.{value_at, opening}
use Rattle.mz_events.specs.Changes.{one_for}
use Rattle.mz_events.specs.History.{after_all}
use Rattle.mz_events.specs.Standing.{Keeping, Stands}
use Rattle.mz_book.specs.Keepers.{keeper_count, place_at, keeper_spot, is_among}
use Rattle.mz_book.specs.Pairs.{hand_among}
use Rattle.mz_book.specs.Lights.{has_slot, has_light, light_at}
use Rattle.mz_book.specs.Calls.{CanNote}
use Rattle.mz_desk.specs.declared.view.View.{View}
use Rattle.mz_desk.specs.Views.{site_at, view_account}

-- a seat: its view, and the keepers that it carries
abbrev pub Seated : Type 0 → Type 0
Seated V = Me (Option V) View

-- a seat that isn't in the middle of a hold
pub record IsIdle (v : View) : Type 0 where
  pub live : v.live ≡ true
  pub none : v.taking ≡ []

-- take-lock: the keeper isn't held yet
pub record CanLock (v : View) (k : ℕ) : Type 0 where
  pub idle : IsIdle v
  pub fresh : is_among v.held k ≡ false
  pub exists : k < keeper_count v.profile

-- look: the keeper is locked, and not taken yet
pub record CanLook (v : View) (k : ℕ) : Type 0 where
  pub live : v.live ≡ true
  pub taking : v.taking ≡ k ∷ []

-- draw-ticket: a book of this seat with room for one entry may note the event
pub record CanDraw (v : View) (e : Event) : Type 0 where
  pub idle : IsIdle v
  pub room : length v.noted < 2 ^ 58
  pub note : CanNote (view_account v [] 1 0 0 None) e

-- free-lock: the keeper was taken last, stands for its place, and no duty stands there
pub record CanFree {V : Type 0} (keeping : V → Keeping) (me : Seated V) (k : ℕ) (x : V) : Type 0 where
  pub idle : IsIdle me.0
  pub held : is_among me.0.held k ≡ true
  pub others : List (ℕ × Option V)
  pub last : me.1 ≡ (k, Some x) ∷ others
  pub stands : Stands (keeping x) (site_at me.0.space) me.0.profile (place_at me.0.profile k) (value_at (after_all me.0.profile opening me.0.seen) (keeper_spot me.0.profile k)).kept
  pub calm : (value_at (after_all me.0.profile opening me.0.seen) (keeper_spot me.0.profile k)).duty ≡ None

-- take-light: the light isn't held, and where the slot is to be live its pair is in the hand
pub record CanLight (v : View) (b j expect : ℕ) : Type 0 where
  pub live : v.live ≡ true
  pub block : b < v.profile.nano
  pub slot : j < 1024
  pub kind : expect ≤ 1
  pub free : has_light v.lights (light_at b j) ≡ false
  pub owned : expect ≡ 1 → has_slot v.profile (hand_among v.caller v.pairs) b j ≡ true

-- store-light: the light is held, and the word tells whether the pair is in the hand
pub record CanUnlight (v : View) (b j word : ℕ) : Type 0 where
  pub live : v.live ≡ true
  pub held : has_light v.lights (light_at b j) ≡ true
  pub tells : word ≡ one_for (has_slot v.profile (hand_among v.caller v.pairs) b j)

-- settle-class: a class, for a block of nano
pub record CanClass (v : View) (b class : ℕ) : Type 0 where
  pub live : v.live ≡ true
  pub block : b < v.profile.nano
  pub least : 1 ≤ class
  pub most : class ≤ 16
