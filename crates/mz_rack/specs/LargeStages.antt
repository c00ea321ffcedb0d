-- Where a request for large stands between two calls of the book.
use Rattle.std.specs.Prelude.{◌≡◌, ℕ, ◌+◌, ◌*◌, ◌<◌, ◌≤◌, false, List, [], ◌∷◌, ◌++◌, length, Some, None, Result, Ok, Err, IsTrue}
use Rattle.std.specs.Int.{IsPowerOfTwo}
use Rattle.mz_base.specs.declared.profile.Profile.{Profile}
use Rattle.mz_base.specs.declared.range.TheConstants.{PAGE}
use Rattle.mz_base.specs.Space.{block_at}
use Rattle.mz_ground.specs.Views.{SpanView}
use Rattle.mz_large.specs.Large.{block_of, run_of_span}
use Rattle.mz_events.specs.declared.place.Place.TheVariants.{Pages, Large}
use Rattle.mz_events.specs.declared.event.Event.{Event}
use Rattle.mz_events.specs.declared.event.Event.TheVariants.{Take, New, Full, Dry}
use Rattle.mz_events.specs.declared.entry.Entry.{Entry}
use Rattle.mz_events.specs.Places.{Spot, spot_of}
use Rattle.mz_events.specs.State.{is_open, kept_at}
use Rattle.mz_events.specs.Room.{any_fits, best_fit}
use Rattle.mz_events.specs.Changes.{pages_without}
use Rattle.mz_record.specs.Moments.{state_before}
use Rattle.mz_book.specs.Keepers.{keeper_count, keeper_of}
use Rattle.mz_book.specs.Account.{Account, state_of, known, entry_at}
use Rattle.mz_book.specs.Growth.{Grows, GrowsHolding}
use Rattle.mz_rack.specs.declared.lot.Null.{Null}
use Rattle.mz_rack.specs.declared.lot.Null.TheVariants as null
use Rattle.mz_rack.specs.declared.way.LargeWay.{LargeWay}
use Rattle.mz_rack.specs.Stages.{at_pages, IsDried, AreFlushed}
use Rattle.mz_rack.specs.Seeking.{cached_in}

-- large of a zone and the free pages, with their keepers' numbers
pub record IsLargeWay (p : Profile) (w : LargeWay) : Type 0 where
  pub zone : w.zone < p.zones
  pub l : w.l ≡ keeper_of p (Large w.zone)
  pub pages_is : w.p ≡ keeper_of p Pages
  pub l_below : w.l < w.p
  pub p_below : w.p < keeper_count p

abbrev pub large_spot : LargeWay → Spot
large_spot w = spot_of (Large w.zone)

-- the zone is open, n pages are a run of large, and al is an alignment
pub record CanAskLarge (s : Account) (w : LargeWay) (n al : ℕ) : Type 0 where
  pub way : IsLargeWay s.profile w
  pub zone_open : IsTrue (is_open (state_of s) w.zone)
  pub pages : 3 ≤ n
  pub power : IsPowerOfTwo al
  pub range : al ≤ 16384

-- large alone is held, and no duty stands there
pub record ReadyLarge (s : Account) (w : LargeWay) (n al : ℕ) : Type 0 where
  pub can : CanAskLarge s w n al
  pub held : s.held ≡ w.l ∷ []
  pub calm : (known s (large_spot w)).duty ≡ None

-- the event that large's answer is noted as
abbrev pub cache_event : LargeWay → ℕ → ℕ → Result SpanView ℕ → Event
cache_event w n al (Ok x) = New (Large w.zone) x.first (length x.bytes) al
cache_event w n al (Err i) = Full (Large w.zone) n 1

-- before the entry of this ticket, the span's run was the best fit among the cached ones
abbrev pub WasBest : Account → ℕ → ℕ → ℕ → SpanView → Type 0
WasBest t z n ticket x = best_fit (kept_at (state_before t.profile t.seen ticket) (spot_of (Large z))).cached n ≡ Some (run_of_span x)

-- a span of the space, which was the best fit; or none fits, and this is the ticket that says so
abbrev pub IsFromCache : Account → LargeWay → ℕ → ℕ → Result SpanView ℕ → Type 0
IsFromCache t w n ticket (Ok x) = (x.space ≡ t.site) × WasBest t w.zone n ticket x
IsFromCache t w n ticket (Err i) = (i ≡ ticket) × (any_fits (cached_in t w.zone) n ≡ false)

-- a cached run is a block, or none was fit
pub record TriedCache (s : Account) (w : LargeWay) (n al : ℕ) (got : Result SpanView ℕ) (t : Account) : Type 0 where
  pub ticket : ℕ
  pub since : GrowsHolding s (entry_at ticket s.caller (cache_event w n al got) ∷ []) 0 t
  pub held : t.held ≡ s.held
  pub calm : (known t (large_spot w)).duty ≡ None
  pub is : IsFromCache t w n ticket got

-- large alone is held, and no cached run fits
pub record NoneFits (s : Account) (w : LargeWay) (n al : ℕ) : Type 0 where
  pub ready : ReadyLarge s w n al
  pub none : any_fits (cached_in s w.zone) n ≡ false

-- large and the pages are held, and no duty stands there
pub record BothHeld (s : Account) (w : LargeWay) : Type 0 where
  pub held : s.held ≡ w.l ∷ w.p ∷ []
  pub calm_l : (known s (large_spot w)).duty ≡ None
  pub calm_p : (known s at_pages).duty ≡ None

-- and no cached run fits
pub record SeeksRun (s : Account) (w : LargeWay) (n al : ℕ) : Type 0 where
  pub can : CanAskLarge s w n al
  pub both : BothHeld s w
  pub none : any_fits (cached_in s w.zone) n ≡ false

-- large has the run, and it is a block; both are still held
pub record IsFreshRun (s : Account) (w : LargeWay) (n al : ℕ) (x : SpanView) (t : Account) : Type 0 where
  pub i : ℕ
  pub j : ℕ
  pub since : GrowsHolding s (entry_at i s.caller (Take (Large w.zone) (run_of_span x).first n) ∷ entry_at j s.caller (New (Large w.zone) x.first (length x.bytes) al) ∷ []) 0 t
  pub both : BothHeld t w
  pub pages : (known t at_pages).kept ≡ pages_without (Large w.zone) (run_of_span x) (known s at_pages).kept

-- the entries of caller c serve the request with this span, or with none, as t has seen, and so many keepers are taken
pub data IsServedLarge (c : ℕ) (t : Account) (w : LargeWay) (n al : ℕ) (es : List Entry) (holds : ℕ) (got : Result SpanView Null) : Type 0 where
  by_cache :
      (x : SpanView) (i : ℕ) → es ≡ entry_at i c (New (Large w.zone) x.first (length x.bytes) al) ∷ []
      → WasBest t w.zone n i x → holds ≡ 1 → got ≡ Ok x → IsServedLarge c t w n al es holds got
  by_fresh_run :
      (x : SpanView) (f m i j : ℕ) (flushes : List Entry)
      → es ≡ entry_at m c (Full (Large w.zone) n 1) ∷ (flushes ++ entry_at i c (Take (Large w.zone) f n) ∷ entry_at j c (New (Large w.zone) (f * PAGE) (n * PAGE) al) ∷ [])
      → AreFlushed t w.zone n 1 flushes → block_of x ≡ block_at (f * PAGE) (n * PAGE) → holds ≡ 2 → got ≡ Ok x → IsServedLarge c t w n al es holds got
  null_in_large :
      (m p : ℕ) (flushes : List Entry)
      → es ≡ entry_at m c (Full (Large w.zone) n 1) ∷ (flushes ++ entry_at p c (Dry w.zone n 1) ∷ [])
      → AreFlushed t w.zone n 1 flushes → holds ≡ 2 → got ≡ Err (null.Large m p) → IsServedLarge c t w n al es holds got

abbrev pub IsGotLarge : Account → LargeWay → ℕ → Result SpanView Null → Type 0
IsGotLarge t w n (Ok x) = x.space ≡ t.site
IsGotLarge t w n (Err (null.Large c p)) = IsDried t w.zone n 1 p
IsGotLarge t w n (Err (null.Ranged m d p)) = ⊥

-- The request is served: the record grew by just that, behind the entries in front, for which k keepers were taken, and
-- nothing is held.
pub record ServedLarge (front : List Entry) (k : ℕ) (s : Account) (w : LargeWay) (n al : ℕ) (got : Result SpanView Null) (t : Account) : Type 0 where
  pub mine : List Entry
  pub holds : ℕ
  pub grows : Grows s mine holds t
  pub nothing_held : t.held ≡ []
  pub served : IsServedLarge s.caller t w n al (front ++ mine) (k + holds) got
  pub is : IsGotLarge t w n got
