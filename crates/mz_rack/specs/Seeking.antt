-- Where the search for free pages stands between two calls of the book.
use Rattle.std.specs.Prelude.{◌≡◌, ℕ, ◌*◌, ◌<◌, ◌≤◌, false, List, [], ◌∷◌, ◌++◌, length, None, Result, Ok, Err, IsTrue}
use Rattle.std.specs.List.{All}
use Rattle.mz_base.specs.Space.{Run, run_at}
use Rattle.mz_ground.specs.Views.{SpanView}
use Rattle.mz_events.specs.declared.place.Place.TheVariants.{Pages, Large}
use Rattle.mz_events.specs.declared.event.Event.TheVariants.{Back, Dry}
use Rattle.mz_events.specs.declared.entry.Entry.{Entry}
use Rattle.mz_events.specs.Places.{Spot, same_spot, spot_of}
use Rattle.mz_events.specs.State.{is_open, opening}
use Rattle.mz_events.specs.History.{AreLawful}
use Rattle.mz_events.specs.Standing.{Keeping, Stands}
use Rattle.mz_record.specs.Moments.{MeetsDuty}
use Rattle.mz_record.specs.Served.{AreFlushes}
use Rattle.mz_book.specs.Account.{Account, state_of, known, holds_spot, entry_at}
use Rattle.mz_book.specs.Growth.{GrowsHolding}
use Rattle.mz_large.specs.Large.{run_of_span}
use Rattle.mz_rack.specs.Runs.{out_of_pages, IsFoundRun}
use Rattle.mz_rack.specs.Stages.{at_pages, Keeps, IsDried, IsFlush}

-- large of zone z and the free pages are held, no duty stands there, and the zone is open; w pages are sought at a multiple of al
pub record CanSeek (s : Account) (z w al : ℕ) : Type 0 where
  pub zone : z < s.profile.zones
  pub zone_open : IsTrue (is_open (state_of s) z)
  pub large : IsTrue (holds_spot s (spot_of (Large z)))
  pub pages : IsTrue (holds_spot s at_pages)
  pub calm_l : (known s (spot_of (Large z))).duty ≡ None
  pub calm_p : (known s at_pages).duty ≡ None
  pub some : 1 ≤ w
  pub some_alignment : 1 ≤ al

-- the cached runs of zone z, as the book knows them
abbrev pub cached_in : Account → ℕ → List Run
cached_in s z = (known s (spot_of (Large z))).kept.cached

-- the same keepers are held, and what the book knows of their places stays, but for large of zone z and the free pages
pub record KeepsOthers (s : Account) (z : ℕ) (t : Account) : Type 0 where
  pub held : t.held ≡ s.held
  pub others : (j : Spot) → IsTrue (holds_spot s j) → same_spot j (spot_of (Large z)) ≡ false → same_spot j at_pages ≡ false → known t j ≡ known s j

-- the entry of caller c that says that the pages have no such run
abbrev pub dry_at : ℕ → ℕ → ℕ → ℕ → ℕ → Entry
dry_at i c z w al = entry_at i c (Dry z w al)

-- The pages were dry, and the oldest cached run of the zone went back to them, by a duty, in each history that goes on.
pub record IsFlushed (s : Account) (z w al : ℕ) (t : Account) : Type 0 where
  pub i : ℕ
  pub j : ℕ
  pub f : ℕ
  pub n : ℕ
  pub since : GrowsHolding s (dry_at i s.caller z w al ∷ entry_at j s.caller (Back (Large z) f n) ∷ []) 0 t
  pub can : CanSeek t z w al
  pub stays : KeepsOthers s z t
  pub fewer : cached_in s z ≡ run_at f n ∷ cached_in t z
  pub met : (h later : List Entry) → AreLawful t.profile opening h → h ≡ t.seen ++ later → MeetsDuty t.profile h (dry_at i s.caller z w al) (entry_at j s.caller (Back (Large z) f n))

-- the pages were dry, and nothing is cached
pub record IsEmpty (s : Account) (z w al i : ℕ) (t : Account) : Type 0 where
  pub since : GrowsHolding s (dry_at i s.caller z w al ∷ []) 0 t
  pub can : CanSeek t z w al
  pub stays : KeepsOthers s z t
  pub same : cached_in t z ≡ cached_in s z
  pub last : IsDried t z w al i

abbrev pub Flushes : Account → ℕ → ℕ → ℕ → Result (Unit {0}) ℕ → Account → Type 0
Flushes s z w al (Ok u) t = IsFlushed s z w al t
Flushes s z w al (Err i) t = IsEmpty s z w al i t

-- the last dry of a search that finds no run
abbrev pub last_dry : ℕ → ℕ → ℕ → ℕ → Result SpanView ℕ → List Entry
last_dry c z w al (Ok x) = []
last_dry c z w al (Err i) = dry_at i c z w al ∷ []

-- the lowest free run is out, or the pages are dry and nothing is cached
abbrev pub IsFound : Account → ℕ → ℕ → ℕ → Result SpanView ℕ → Type 0
IsFound t z w al (Ok x) = IsFoundRun t.site t.profile (known t at_pages).kept w al x
IsFound t z w al (Err i) = IsDried t z w al i

-- The pages were searched, with as many flushes as it took, each for one cached run.
pub record Sought (s : Account) (z w al : ℕ) (got : Result SpanView ℕ) (t : Account) : Type 0 where
  pub flushes : List Entry
  pub flushed : List Run
  pub since : GrowsHolding s (flushes ++ last_dry s.caller z w al got) 0 t
  pub each : All (λ e. IsFlush z w al e.event) flushes
  pub cached : cached_in s z ≡ flushed ++ cached_in t z
  pub few : length flushes ≡ 2 * length flushed
  pub can : CanSeek t z w al
  pub stays : KeepsOthers s z t
  pub are : (h later : List Entry) → AreLawful t.profile opening h → h ≡ t.seen ++ later → AreFlushes t.profile h z w al flushes
  pub is : IsFound t z w al got

-- the keeper stands for the free pages, without the run that is out
abbrev pub KeepsSought : Account → Result SpanView ℕ → Keeping → Type 0
KeepsSought t (Ok x) v = Stands v t.site t.profile Pages (out_of_pages (run_of_span x) (known t at_pages).kept)
KeepsSought t (Err i) v = Keeps t Pages v
