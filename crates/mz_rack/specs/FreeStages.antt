-- Where a free stands between two calls of the book.
use Rattle.std.specs.Prelude.{◌≡◌, ◌⊎◌, ℕ, ◌≤◌, false, nat_lt, List, [], ◌∷◌, ◌++◌, length, Some, None, IsTrue}
use Rattle.std.specs.List.{All, list_all}
use Rattle.mz_base.specs.Limits.{IsWithinLimits}
use Rattle.mz_base.specs.declared.profile.Profile.{Profile}
use Rattle.mz_base.specs.Space.{Block, block_at}
use Rattle.mz_base.specs.Lists.{has_block}
use Rattle.mz_ground.specs.Views.{SpanView}
use Rattle.mz_events.specs.declared.place.Place.{Place}
use Rattle.mz_events.specs.declared.place.Place.TheVariants.{Large}
use Rattle.mz_events.specs.declared.event.Event.TheVariants.{Back, Move, End, No}
use Rattle.mz_events.specs.declared.entry.Entry.{Entry}
use Rattle.mz_events.specs.Places.{zone_of, depot_of, exists_in, spot_of}
use Rattle.mz_events.specs.State.{is_open}
use Rattle.mz_events.specs.Duties.{is_that, recirculation, empty_depot_region, duty_of_end}
use Rattle.mz_events.specs.Standing.{Keeping}
use Rattle.mz_record.specs.Moments.{duty_left, MeetDuties}
use Rattle.mz_record.specs.Dropped.{IsDropped}
use Rattle.mz_book.specs.Keepers.{keeper_of, keeper_spot, is_among}
use Rattle.mz_book.specs.Account.{Account, state_of, known, hand, holds_spot, StandsFor, entry_at}
use Rattle.mz_book.specs.Calls.{without}
use Rattle.mz_book.specs.Growth.{Grows, GrowsHolding}
use Rattle.mz_rack.specs.declared.way.Way.{Way}
use Rattle.mz_rack.specs.declared.way.LargeWay.{LargeWay}
use Rattle.mz_rack.specs.declared.home.Home.{Home}
use Rattle.mz_rack.specs.declared.home.Home.TheVariants.{Magazine, Depot}
use Rattle.mz_rack.specs.declared.home.Home.TheVariants as home
use Rattle.mz_rack.specs.Lots.{LotView}
use Rattle.mz_rack.specs.Ways.{IsWay}
use Rattle.mz_rack.specs.Freeing.{block_of}
use Rattle.mz_rack.specs.Stages.{at_magazine, at_depot, Keeps}
use Rattle.mz_rack.specs.LargeStages.{IsLargeWay, large_spot}
use Rattle.mz_rack.specs.Ending.{has_blocks}
use Rattle.mz_rack.specs.Flushing.{IsOldest}
use Rattle.mz_large.specs.Large.{run_of_span}

-- nothing is held, and the block is in the hand
pub record CanLook (s : Account) (p : Profile) (l : LotView) : Type 0 where
  pub limits : IsWithinLimits p
  pub profile : s.profile ≡ p
  pub nothing_held : s.held ≡ []
  pub some : 1 ≤ length l.span.bytes
  pub in_hand : IsTrue (has_block (hand s) (block_of l))

-- other entries came, and nothing is held
pub record PassedBy (s t : Account) : Type 0 where
  pub holds : ℕ
  pub grows : Grows s [] holds t
  pub nothing_held : t.held ≡ []

-- the keeper of number k is held, and stands for a place where the block is live and no duty stands
pub record IsThere (s : Account) (k : ℕ) (b : Block) (v : Keeping) (t : Account) : Type 0 where
  pub since : GrowsHolding s [] 1 t
  pub held : t.held ≡ k ∷ []
  pub stands : StandsFor t k v
  pub calm : (known t (keeper_spot t.profile k)).duty ≡ None
  pub live : IsTrue (has_block (known t (keeper_spot t.profile k)).kept.live b)

-- the block lives in a place of an open zone, whose keeper alone is held, and no duty stands there
pub record LivesIn (s : Account) (q : Place) (b : Block) : Type 0 where
  pub blocks : IsTrue (has_blocks q)
  pub exists : IsTrue (exists_in s.profile q)
  pub zone_open : IsTrue (is_open (state_of s) (zone_of q))
  pub held : s.held ≡ keeper_of s.profile q ∷ []
  pub calm : (known s (spot_of q)).duty ≡ None
  pub live : IsTrue (has_block (known s (spot_of q)).kept.live b)
  pub in_hand : IsTrue (has_block (hand s) b)

-- the block lives in this home, whose keeper alone is held
abbrev pub HasHome : Account → Block → Home → Type 0
HasHome s b (Magazine w v) = IsWay s.profile w × LivesIn s w.magazine b × Keeps s w.magazine v
HasHome s b (Depot w v) = IsWay s.profile w × LivesIn s (depot_of w.magazine) b × Keeps s (depot_of w.magazine) v
HasHome s b (home.Large w v) = IsLargeWay s.profile w × LivesIn s (Large w.zone) b × Keeps s (Large w.zone) v

-- the zone of a home
abbrev pub home_zone : Home → ℕ
home_zone (Magazine w v) = w.zone
home_zone (Depot w v) = w.zone
home_zone (home.Large w v) = w.zone

-- and that is in zone z
abbrev pub IsHome : Account → ℕ → Block → Home → Type 0
IsHome s z b h = (home_zone h ≡ z) × HasHome s b h

-- after other entries, some of which may have moved its region
pub record LivesAt (s : Account) (z : ℕ) (b : Block) (h : Home) (t : Account) : Type 0 where
  pub holds : ℕ
  pub since : GrowsHolding s [] holds t
  pub home : IsHome t z b h

abbrev pub block_in : SpanView → Block
block_in x = block_at x.first (length x.bytes)

-- the last entry that was seen is this one
pub record IsLast (t : Account) (e : Entry) : Type 0 where
  pub before : List Entry
  pub seen : t.seen ≡ before ++ e ∷ []

-- the block has ended in its place, which owes what its end calls for
pub record HasEnded (s : Account) (q : Place) (b : Block) (t : Account) : Type 0 where
  pub ticket : ℕ
  pub since : GrowsHolding s (entry_at ticket s.caller (End q b.first b.size) ∷ []) 0 t
  pub last : IsLast t (entry_at ticket s.caller (End q b.first b.size))
  pub held : t.held ≡ s.held
  pub owes : (known t (spot_of q)).duty ≡ duty_of_end q (known t (spot_of q)).kept

-- large of a zone is held, and owes the pages its oldest run, which is out
pub record OwesRun (s : Account) (w : LargeWay) (x : SpanView) : Type 0 where
  pub way : IsLargeWay s.profile w
  pub zone_open : IsTrue (is_open (state_of s) w.zone)
  pub held : s.held ≡ w.l ∷ []
  pub duty : (known s (large_spot w)).duty ≡ Some (Back (Large w.zone) (run_of_span x).first (run_of_span x).pages)
  pub oldest : IsOldest s.site (known s (large_spot w)).kept x

-- the run is back, no duty is left, and nothing is held
pub record HasPushed (s : Account) (w : LargeWay) (x : SpanView) (t : Account) : Type 0 where
  pub ticket : ℕ
  pub grows : Grows s (entry_at ticket s.caller (Back (Large w.zone) (run_of_span x).first (run_of_span x).pages) ∷ []) 1 t
  pub nothing_held : t.held ≡ []
  pub left : duty_left s.profile t.seen (entry_at ticket s.caller (Back (Large w.zone) (run_of_span x).first (run_of_span x).pages)) ≡ None

-- the magazine alone is held, and owes its depot the region at page f
pub record OwesMove (s : Account) (w : Way) (f : ℕ) : Type 0 where
  pub way : IsWay s.profile w
  pub zone_open : IsTrue (is_open (state_of s) w.zone)
  pub held : s.held ≡ w.k ∷ []
  pub duty : (known s (at_magazine w)).duty ≡ Some (Move f w.magazine w.depot)
  pub by : recirculation w.magazine (known s (at_magazine w)).kept ≡ Some (Move f w.magazine w.depot)

-- the depot is the last that is held, and owes the pages its region without live blocks, if it has one
pub record OwesBack (s : Account) (w : Way) : Type 0 where
  pub way : IsWay s.profile w
  pub zone_open : IsTrue (is_open (state_of s) w.zone)
  pub here : IsTrue (is_among s.held w.d)
  pub below_pages : IsTrue (list_all (λ k. nat_lt k w.p) s.held)
  pub owes : (known s (at_depot w)).duty ≡ empty_depot_region w.depot (known s (at_depot w)).kept

-- what the depot owed is settled by these entries, and it is given back
pub record Settles (s : Account) (w : Way) (t : Account) : Type 0 where
  pub mine : List Entry
  pub holds : ℕ
  pub grows : Grows s mine holds t
  pub few : length mine ≤ 1
  pub held : t.held ≡ without w.d s.held
  pub stays : IsTrue (holds_spot s (at_magazine w)) → known t (at_magazine w) ≡ known s (at_magazine w)
  pub settled : ((known s (at_depot w)).duty ≡ None) × (mine ≡ [])
      ⊎ ((f : ℕ) × (i : ℕ) × ((known s (at_depot w)).duty ≡ Some (Back w.depot f w.pages)) × (mine ≡ entry_at i s.caller (Back w.depot f w.pages) ∷ [])
      × (duty_left s.profile t.seen (entry_at i s.caller (Back w.depot f w.pages)) ≡ None))

-- the region has moved, and each duty was met; nothing is held
pub record HasMoved (s : Account) (w : Way) (f : ℕ) (t : Account) : Type 0 where
  pub ticket : ℕ
  pub rest : List Entry
  pub holds : ℕ
  pub grows : Grows s (entry_at ticket s.caller (Move f w.magazine w.depot) ∷ rest) holds t
  pub few : length rest ≤ 1
  pub nothing_held : t.held ≡ []
  pub none_again : All (λ e. is_that (Move f w.magazine w.depot) e.event ≡ false) rest
  pub met : MeetDuties s.profile t.seen (entry_at ticket s.caller (Move f w.magazine w.depot)) rest

-- the block is dropped by just these entries, and nothing is held
pub record IsOver (s : Account) (b : Block) (t : Account) : Type 0 where
  pub mine : List Entry
  pub holds : ℕ
  pub few : length mine ≤ 3
  pub grows : Grows s mine holds t
  pub nothing_held : t.held ≡ []
  pub dropped : IsDropped s.profile t.seen b mine

-- one entry says that the block isn't of zone z, and nothing is held
pub record IsDenied (s : Account) (z : ℕ) (b : Block) (i : ℕ) (t : Account) : Type 0 where
  pub place : Place
  pub grows : Grows s (entry_at i s.caller (No place z b.first b.size) ∷ []) 0 t
  pub nothing_held : t.held ≡ []
