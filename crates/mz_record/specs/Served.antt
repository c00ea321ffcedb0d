-- Which entries fit a request. A request goes to the caller's magazine, then to the depot, then to the free pages, and
-- large ones to the cache first; all after libmalloc in outline, the exact entries being this project's own.
use Rattle.std.specs.Prelude.{ℕ, zero, suc, ◌*◌, ◌%◌, ◌≡◌, ◌<◌, ◌≤◌, Bool, true, false, List, [], ◌∷◌, ◌++◌, map, Option, None, Some, IsTrue, Contains, ◌⊎◌}
use Rattle.std.specs.List.{flat_map}
use Rattle.std.specs.Option.{option_to_list}
use Rattle.mz_base.specs.declared.profile.Profile.{Profile}
use Rattle.mz_base.specs.declared.range.TheConstants.{PAGE}
use Rattle.mz_base.specs.declared.range.Range.{Range}
use Rattle.mz_base.specs.declared.range.Range.TheVariants as range
use Rattle.mz_base.specs.Sizes.{route_of, units_of, good_size_of}
use Rattle.mz_base.specs.Space.{Block, block_at}
use Rattle.mz_events.specs.declared.place.Place.{Place}
use Rattle.mz_events.specs.declared.place.Place.TheVariants.{Tiny, Small, Large, Nano}
use Rattle.mz_events.specs.declared.event.Event.{Event}
use Rattle.mz_events.specs.declared.event.Event.TheVariants.{Take, Move, New, Size, Full, Dry}
use Rattle.mz_events.specs.declared.entry.Entry.{Entry}
use Rattle.mz_events.specs.Places.{depot_of, spot_of, Spot}
use Rattle.mz_events.specs.State.{kept_at}
use Rattle.mz_events.specs.Room.{best_fit}
use Rattle.mz_events.specs.Effect.{touches}
use Rattle.mz_events.specs.Changes.{run_of}
use Rattle.mz_record.specs.Moments.{state_before, duty_left, first_some, MeetsDuty}

-- a request by a caller, in a zone, for some bytes at an alignment
pub record Request : Type 0 where
  pub caller : ℕ
  pub zone : ℕ
  pub bytes : ℕ
  pub align : ℕ

-- the size of the block that serves the request
abbrev pub size_for : Request → ℕ
size_for q = good_size_of q.bytes

-- What serves requests in regions: the magazine of the caller, and the pages of a region.
pub record Regional : Type 0 where
  pub magazine : Place
  pub pages : ℕ

-- what does so in a range, if the range has regions; no request is routed to nano, which serves beside tiny, nor to medium
abbrev pub regional_in : Profile → Request → Range → Option Regional
regional_in p q range.Nano = None
regional_in p q range.Tiny = Some (record { magazine = Tiny q.zone (q.caller % p.magazines); pages = 64 })
regional_in p q range.Small = Some (record { magazine = Small q.zone (q.caller % p.magazines); pages = 512 })
regional_in p q range.Medium = None
regional_in p q range.Large = None

-- what serves the request so, if its range has regions
abbrev pub regional_for : Profile → Request → Option Regional
regional_for p q = regional_in p q (route_of q.bytes)

-- the request is one for whole pages
abbrev pub IsForLarge : Request → Type 0
IsForLarge q = route_of q.bytes ≡ range.Large

abbrev pub events : List Entry → List Event
events es = map (λ e. e.event) es

-- pages have no run of w pages at al, and so the oldest cached run of the zone is given back; as often as that happens
abbrev pub AreFlushes : Profile → List Entry → ℕ → ℕ → ℕ → List Entry → Type 0
AreFlushes p h z w al [] = Unit {0}
AreFlushes p h z w al (dry ∷ []) = ⊥
AreFlushes p h z w al (dry ∷ given ∷ es) = (dry.event ≡ Dry z w al) × MeetsDuty p h dry given × AreFlushes p h z w al es

-- pages have no run of w pages at al, and no run of the zone is cached
pub record IsLastDry (p : Profile) (h : List Entry) (z w al : ℕ) (dry : Entry) : Type 0 where
  pub event : dry.event ≡ Dry z w al
  pub no_duty : duty_left p h dry ≡ None

-- The entries es of the history h serve the request with this block, or with none, in one of eight ways. The first five
-- are those of tiny and small requests, the others those of large ones.
pub data IsServed (p : Profile) (h : List Entry) (q : Request) (es : List Entry) (got : Option Block) : Type 0 where
  by_nano :
      (a : ℕ) → q.zone ≡ 0 → 0 < p.nano → q.bytes ≤ 256 → q.align ≡ 16
      → events es ≡ New Nano a (size_for q) 16 ∷ []
      → got ≡ Some (block_at a (size_for q)) → IsServed p h q es got
  by_magazine :
      (r : Regional) (a : ℕ) → regional_for p q ≡ Some r
      → events es ≡ New r.magazine a (size_for q) q.align ∷ []
      → got ≡ Some (block_at a (size_for q)) → IsServed p h q es got
  by_depot :
      (r : Regional) (a f : ℕ) → regional_for p q ≡ Some r
      → events es ≡ Full r.magazine (size_for q) q.align ∷ Move f (depot_of r.magazine) r.magazine ∷ New r.magazine a (size_for q) q.align ∷ []
      → got ≡ Some (block_at a (size_for q)) → IsServed p h q es got
  by_fresh_region :
      (r : Regional) (a f : ℕ) (fulls flushes rest : List Entry) → regional_for p q ≡ Some r → es ≡ fulls ++ flushes ++ rest
      → events fulls ≡ Full r.magazine (size_for q) q.align ∷ Full (depot_of r.magazine) (size_for q) q.align ∷ []
      → AreFlushes p h q.zone r.pages r.pages flushes
      → events rest ≡ Take r.magazine f r.pages ∷ New r.magazine a (size_for q) q.align ∷ []
      → got ≡ Some (block_at a (size_for q)) → IsServed p h q es got
  null_in_range :
      (r : Regional) (fulls flushes : List Entry) (last : Entry) → regional_for p q ≡ Some r → es ≡ fulls ++ flushes ++ last ∷ []
      → events fulls ≡ Full r.magazine (size_for q) q.align ∷ Full (depot_of r.magazine) (size_for q) q.align ∷ []
      → AreFlushes p h q.zone r.pages r.pages flushes
      → IsLastDry p h q.zone r.pages r.pages last
      → got ≡ None → IsServed p h q es got
  by_cache :
      (e : Entry) (a s : ℕ) → IsForLarge q → es ≡ e ∷ [] → e.event ≡ New (Large q.zone) a s q.align
      → best_fit (kept_at (state_before p h e.ticket) (spot_of (Large q.zone))).cached (units_of q.bytes) ≡ Some (run_of (block_at a s))
      → got ≡ Some (block_at a s) → IsServed p h q es got
  by_fresh_run :
      (f : ℕ) (full : Entry) (flushes rest : List Entry) → IsForLarge q → es ≡ full ∷ flushes ++ rest
      → full.event ≡ Full (Large q.zone) (units_of q.bytes) 1
      → AreFlushes p h q.zone (units_of q.bytes) 1 flushes
      → events rest ≡ Take (Large q.zone) f (units_of q.bytes) ∷ New (Large q.zone) (f * PAGE) (size_for q) q.align ∷ []
      → got ≡ Some (block_at (f * PAGE) (size_for q)) → IsServed p h q es got
  null_in_large :
      (full last : Entry) (flushes : List Entry) → IsForLarge q → es ≡ full ∷ flushes ++ last ∷ []
      → full.event ≡ Full (Large q.zone) (units_of q.bytes) 1
      → AreFlushes p h q.zone (units_of q.bytes) 1 flushes
      → IsLastDry p h q.zone (units_of q.bytes) 1 last
      → got ≡ None → IsServed p h q es got

-- an event that finds the pages dry
abbrev pub is_dry : Event → Bool
is_dry (Dry z w al) = true
is_dry _ = false

-- at this place, the ticket t is behind one of the entries that touches it, and before one that finds the pages dry
pub record IsWithin (p : Profile) (es : List Entry) (j : Spot) (t : ℕ) : Type 0 where
  pub earlier : Entry
  pub dry : Entry
  pub has_earlier : Contains es earlier
  pub touched : IsTrue (touches p earlier.event j)
  pub behind : earlier.ticket < t
  pub has_dry : Contains es dry
  pub is_dry : IsTrue (is_dry dry.event)
  pub before : t < dry.ticket

-- At each place, from the first of the entries that touches it to the last that finds the pages dry, nobody but caller c touches it.
abbrev pub IsUndisturbed : Profile → List Entry → ℕ → List Entry → Type 0
IsUndisturbed p h c es = (x : Entry) (j : Spot) → Contains h x → IsTrue (touches p x.event j) → IsWithin p es j x.ticket → x.caller ≡ c

-- the entries serve the request so, and no other caller disturbs them
pub record Serves (p : Profile) (h : List Entry) (q : Request) (es : List Entry) (got : Option Block) : Type 0 where
  pub served : IsServed p h q es got
  pub undisturbed : IsUndisturbed p h q.caller es

-- So many such requests, one after another, each served by itself; the first that gets no block is the last.
abbrev pub ServeInTurn : Profile → List Entry → Request → ℕ → List Entry → Type 0
ServeInTurn p h q zero es = es ≡ []
ServeInTurn p h q (suc k) es =
    Serves p h q es None
    ⊎ ((mine : List Entry) × (rest : List Entry) × (b : Block) × (es ≡ mine ++ rest) × Serves p h q mine (Some b) × ServeInTurn p h q k rest)

-- the block that an event makes, or that it changes to another size
abbrev pub block_made : Event → Option Block
block_made (New k a s al) = Some (block_at a s)
block_made (Size k a s t) = Some (block_at a t)
block_made _ = None

-- the blocks that entries make or change, in order, and the first of them
abbrev pub blocks_made : List Entry → List Block
blocks_made es = flat_map (λ e. option_to_list (block_made e.event)) es

abbrev pub first_made : List Entry → Option Block
first_made es = first_some (map (λ e. block_made e.event) es)
