-- Where a request stands between two calls of the book.
use Rattle.std.specs.Prelude.{◌≡◌, ◌⊎◌, ℕ, ◌+◌, ◌≤◌, true, false, List, [], ◌∷◌, ◌++◌, length, Some, None, Result, Ok, Err, IsTrue}
use Rattle.std.specs.Int.{IsPowerOfTwo}
use Rattle.std.specs.List.{All}
use Rattle.mz_base.specs.Space.{block_at}
use Rattle.mz_base.specs.Room.{any_has_room}
use Rattle.mz_ground.specs.Views.{SpanView}
use Rattle.mz_events.specs.declared.place.Place.{Place}
use Rattle.mz_events.specs.declared.place.Place.TheVariants.{Pages, Large}
use Rattle.mz_events.specs.declared.event.Event.{Event}
use Rattle.mz_events.specs.declared.event.Event.TheVariants.{Take, Back, Move, New, Full, Dry}
use Rattle.mz_events.specs.declared.entry.Entry.{Entry}
use Rattle.mz_events.specs.Places.{depot_of, is_size_of, Spot, same_spot, spot_of}
use Rattle.mz_events.specs.State.{Kept, is_open}
use Rattle.mz_events.specs.Room.{wide}
use Rattle.mz_events.specs.Changes.{with_block, pages_without}
use Rattle.mz_events.specs.Leaving.{left_by}
use Rattle.mz_events.specs.Standing.{Keeping, Stands}
use Rattle.mz_record.specs.Served.{events, AreFlushes}
use Rattle.mz_book.specs.Account.{Account, state_of, known, holds_spot, entry_at}
use Rattle.mz_book.specs.Growth.{Grows, GrowsHolding}
use Rattle.mz_rack.specs.declared.lot.Null.{Null}
use Rattle.mz_rack.specs.declared.lot.Null.TheVariants.{Ranged}
use Rattle.mz_rack.specs.declared.lot.Null.TheVariants as null
use Rattle.mz_rack.specs.declared.way.Way.{Way}
use Rattle.mz_rack.specs.declared.region.AnyRegion.{AnyRegion}
use Rattle.mz_rack.specs.Regions.{run_in}
use Rattle.mz_rack.specs.Ways.{IsWay}
use Rattle.mz_rack.specs.Answering.{HasNoRoom}

abbrev pub at_magazine : Way → Spot
at_magazine w = spot_of w.magazine

abbrev pub at_depot : Way → Spot
at_depot w = spot_of (depot_of w.magazine)

abbrev pub at_large : Way → Spot
at_large w = spot_of (Large w.zone)

abbrev pub at_pages : Spot
at_pages = spot_of Pages

-- the keeper stands for the place, as the book knows it
abbrev pub Keeps : Account → Place → Keeping → Type 0
Keeps s q v = Stands v s.site s.profile q (known s (spot_of q)).kept

-- some region has room, the last freed block counted as idle
abbrev pub HasRoom : Kept → ℕ → ℕ → Type 0
HasRoom k n al = any_has_room k.runs (wide k) n al ≡ true

-- the way's zone is open, n is a size of its range, and al an alignment
pub record CanAsk (s : Account) (w : Way) (n al : ℕ) : Type 0 where
  pub way : IsWay s.profile w
  pub zone_open : IsTrue (is_open (state_of s) w.zone)
  pub size : IsTrue (is_size_of w.magazine n)
  pub power : IsPowerOfTwo al
  pub range : al ≤ 16384

-- the magazine is held, and no duty stands at it
pub record Ready (s : Account) (w : Way) (n al : ℕ) : Type 0 where
  pub can : CanAsk s w n al
  pub here : IsTrue (holds_spot s (at_magazine w))
  pub calm : (known s (at_magazine w)).duty ≡ None

-- the event that a magazine's answer is noted as, and what the magazine keeps then
abbrev pub tried_event : Way → ℕ → ℕ → Result SpanView ℕ → Event
tried_event w n al (Ok s) = New w.magazine s.first n al
tried_event w n al (Err i) = Full w.magazine n al

abbrev pub tried_kept : ℕ → Result SpanView ℕ → Kept → Kept
tried_kept n (Ok s) k = with_block (block_at s.first n) k
tried_kept n (Err i) k = k

-- a span of n bytes of the space; or there is no room, and this is the ticket that says so
abbrev pub IsTried : Account → Way → ℕ → ℕ → ℕ → Result SpanView ℕ → Type 0
IsTried s w n al ticket (Ok x) = (x.space ≡ s.site) × (length x.bytes ≡ n)
IsTried s w n al ticket (Err i) = (i ≡ ticket) × HasNoRoom (known s (at_magazine w)).kept n al

-- the magazine made a block, or was found full
pub record Tried (s : Account) (w : Way) (n al : ℕ) (got : Result SpanView ℕ) (t : Account) : Type 0 where
  pub ticket : ℕ
  pub since : GrowsHolding s (entry_at ticket s.caller (tried_event w n al got) ∷ []) 0 t
  pub held : t.held ≡ s.held
  pub learns : known t (at_magazine w) ≡ left_by s.caller (tried_event w n al got) (tried_kept n got (known s (at_magazine w)).kept) None
  pub others : (j : Spot) → IsTrue (holds_spot s j) → same_spot j (at_magazine w) ≡ false → known t j ≡ known s j
  pub is : IsTried s w n al ticket got

-- the magazine alone is held, and was found full
pub record IsFull (s : Account) (w : Way) (n al : ℕ) : Type 0 where
  pub can : CanAsk s w n al
  pub held : s.held ≡ w.k ∷ []
  pub calm : (known s (at_magazine w)).duty ≡ None
  pub last : (known s (at_magazine w)).last ≡ Some (record { caller = s.caller; event = Full w.magazine n al })

-- the depot is held too
pub record HoldsBoth (s : Account) (w : Way) (n al : ℕ) : Type 0 where
  pub can : CanAsk s w n al
  pub held : s.held ≡ w.k ∷ w.d ∷ []
  pub calm_k : (known s (at_magazine w)).duty ≡ None
  pub calm_d : (known s (at_depot w)).duty ≡ None
  pub last_k : (known s (at_magazine w)).last ≡ Some (record { caller = s.caller; event = Full w.magazine n al })

-- a region moved from the depot to the magazine, and the block was made; nothing is held
pub record IsMovedOver (s : Account) (w : Way) (n al f : ℕ) (x : SpanView) (t : Account) : Type 0 where
  pub i : ℕ
  pub j : ℕ
  pub grows : Grows s (entry_at i s.caller (Move f w.depot w.magazine) ∷ entry_at j s.caller (New w.magazine x.first n al) ∷ []) 0 t
  pub nothing_held : t.held ≡ []
  pub space : x.space ≡ s.site
  pub size : length x.bytes ≡ n

-- the depot was found full too
pub record AreFull (s : Account) (w : Way) (n al : ℕ) : Type 0 where
  pub both : HoldsBoth s w n al
  pub last_d : (known s (at_depot w)).last ≡ Some (record { caller = s.caller; event = Full (depot_of w.magazine) n al })

-- all four are held, and no duty stands
pub record AllHeld (s : Account) (w : Way) : Type 0 where
  pub held : s.held ≡ w.k ∷ w.d ∷ w.l ∷ w.p ∷ []
  pub calm_k : (known s (at_magazine w)).duty ≡ None
  pub calm_d : (known s (at_depot w)).duty ≡ None
  pub calm_l : (known s (at_large w)).duty ≡ None
  pub calm_p : (known s at_pages).duty ≡ None

-- and magazine and depot were found full
pub record Seeks (s : Account) (w : Way) (n al : ℕ) : Type 0 where
  pub can : CanAsk s w n al
  pub all : AllHeld s w
  pub last_k : (known s (at_magazine w)).last ≡ Some (record { caller = s.caller; event = Full w.magazine n al })
  pub last_d : (known s (at_depot w)).last ≡ Some (record { caller = s.caller; event = Full (depot_of w.magazine) n al })

-- the magazine has the region and the block; all are still held
pub record IsFresh (s : Account) (w : Way) (n al : ℕ) (r : AnyRegion) (x : SpanView) (t : Account) : Type 0 where
  pub i : ℕ
  pub j : ℕ
  pub since : GrowsHolding s (entry_at i s.caller (Take w.magazine (run_in r).first w.pages) ∷ entry_at j s.caller (New w.magazine x.first n al) ∷ []) 0 t
  pub all : AllHeld t w
  pub pages : (known t at_pages).kept ≡ pages_without w.magazine (run_in r) (known s at_pages).kept
  pub depot : (known t (at_depot w)).kept ≡ (known s (at_depot w)).kept
  pub large : (known t (at_large w)).kept ≡ (known s (at_large w)).kept
  pub space : x.space ≡ s.site
  pub size : length x.bytes ≡ n

-- nothing is held any more
pub record LetsGo (s t : Account) : Type 0 where
  pub after : t ≡ record s { held = [] }

-- the last that was seen is the caller's dry of this ticket, and it left no duty
pub record IsDried (t : Account) (z w al i : ℕ) : Type 0 where
  pub before : List Entry
  pub seen : t.seen ≡ before ++ entry_at i t.caller (Dry z w al) ∷ []
  pub calm_p : (known t at_pages).duty ≡ None
  pub calm_l : (known t (spot_of (Large z))).duty ≡ None

-- what a search for pages notes on its way: the pages are dry, or a run of large goes back to them
abbrev pub IsFlush : ℕ → ℕ → ℕ → Event → Type 0
IsFlush z w al e = (e ≡ Dry z w al) ⊎ ((f : ℕ) × (n : ℕ) × (e ≡ Back (Large z) f n))

-- as often as the pages were dry, the oldest cached run went back to them: each of 16 at most
pub record AreFlushed (t : Account) (z w al : ℕ) (flushes : List Entry) : Type 0 where
  pub are : AreFlushes t.profile t.seen z w al flushes
  pub each : All (λ e. IsFlush z w al e.event) flushes
  pub few : length flushes ≤ 32

-- the entries of caller c serve the request with this span, or with none, as t has seen, and so many keepers are taken
pub data IsServed (c : ℕ) (t : Account) (w : Way) (n al : ℕ) (es : List Entry) (holds : ℕ) (got : Result SpanView Null) : Type 0 where
  by_magazine :
      (x : SpanView) → events es ≡ New w.magazine x.first n al ∷ []
      → holds ≡ 1 → got ≡ Ok x → IsServed c t w n al es holds got
  by_depot :
      (x : SpanView) (f : ℕ) → events es ≡ Full w.magazine n al ∷ Move f w.depot w.magazine ∷ New w.magazine x.first n al ∷ []
      → holds ≡ 2 → got ≡ Ok x → IsServed c t w n al es holds got
  by_fresh_region :
      (x : SpanView) (f m d i j : ℕ) (flushes : List Entry)
      → es ≡ entry_at m c (Full w.magazine n al) ∷ entry_at d c (Full w.depot n al) ∷ (flushes ++ entry_at i c (Take w.magazine f w.pages) ∷ entry_at j c (New w.magazine x.first n al) ∷ [])
      → AreFlushed t w.zone w.pages w.pages flushes → holds ≡ 4 → got ≡ Ok x → IsServed c t w n al es holds got
  null_in_range :
      (m d p : ℕ) (flushes : List Entry)
      → es ≡ entry_at m c (Full w.magazine n al) ∷ entry_at d c (Full w.depot n al) ∷ (flushes ++ entry_at p c (Dry w.zone w.pages w.pages) ∷ [])
      → AreFlushed t w.zone w.pages w.pages flushes → holds ≡ 4 → got ≡ Err (Ranged m d p) → IsServed c t w n al es holds got

abbrev pub IsGot : Account → Way → ℕ → Result SpanView Null → Type 0
IsGot t w n (Ok x) = (x.space ≡ t.site) × (length x.bytes ≡ n)
IsGot t w n (Err (Ranged m d p)) = IsDried t w.zone w.pages w.pages p
IsGot t w n (Err (null.Large c p)) = ⊥

-- The request is served: the record grew by just that, behind the entries in front, for which k keepers were taken, and
-- nothing is held.
pub record Served (front : List Entry) (k : ℕ) (s : Account) (w : Way) (n al : ℕ) (got : Result SpanView Null) (t : Account) : Type 0 where
  pub mine : List Entry
  pub holds : ℕ
  pub grows : Grows s mine holds t
  pub nothing_held : t.held ≡ []
  pub served : IsServed s.caller t w n al (front ++ mine) (k + holds) got
  pub is : IsGot t w n got
