-- How a request is answered. That it goes from the magazine to the depot and on to fresh pages is after libmalloc; the exact
-- entries, and which places are held meanwhile, are this project's own.
use Rattle.std.specs.Prelude.{◌≡◌, ℕ, ◌≤◌, Bool, false, List, [], ◌∷◌, ◌++◌, length, map, Option, Some, None, Result, Ok, Err, not, IsTrue, if◌then◌else◌}
use Rattle.std.specs.List.{list_all}
use Rattle.mz_base.specs.declared.profile.Profile.{Profile}
use Rattle.mz_base.specs.Site.{Site}
use Rattle.mz_base.specs.Space.{Block, block_at}
use Rattle.mz_events.specs.declared.event.Event.{Event}
use Rattle.mz_events.specs.declared.event.Event.TheVariants.{Move, New, Full}
use Rattle.mz_events.specs.declared.entry.Entry.{Entry}
use Rattle.mz_events.specs.Places.{is_large}
use Rattle.mz_events.specs.State.{is_open}
use Rattle.mz_record.specs.Served.{events, Serves}
use Rattle.mz_book.specs.Account.{Account, state_of, HoldsNothing}
use Rattle.mz_book.specs.Calls.{is_at_nano}
use Rattle.mz_book.specs.Growth.{Grows}
use Rattle.mz_rack.specs.declared.lot.Null.{Null}
use Rattle.mz_rack.specs.declared.lot.Null.TheVariants.{Ranged, Large}
use Rattle.mz_rack.specs.Lots.{LotView}
use Rattle.mz_rack.specs.Ways.{request_of}

-- nothing is held, the zone is open, the profile is the rack's, and there is room for n entries
pub record CanServe (s : Account) (p : Profile) (z n : ℕ) : Type 0 where
  pub profile : s.profile ≡ p
  pub zone_open : IsTrue (is_open (state_of s) z)
  pub nothing_held : HoldsNothing s
  pub room : n ≤ s.spare

-- How many keepers serve a request by these events: the magazine or large alone; large and the pages; magazine and depot; or
-- all four.
abbrev pub keepers_for : List Event → ℕ
keepers_for (New k a n al ∷ es) = 1
keepers_for (Full k n al ∷ Move f from to ∷ es) = 2
keepers_for (Full k n al ∷ es) = if is_large k then 2 else 4
keepers_for es = 0

-- the block of the lot that came, or none
abbrev pub block_got : Result LotView Null → Option Block
block_got (Ok l) = Some (block_at l.span.first (length l.span.bytes))
block_got (Err e) = None

-- the first entry says that no cached run fits
abbrev pub is_large_full : List Event → Bool
is_large_full (Full k n al ∷ es) = is_large k
is_large_full es = false

-- The tickets that are told are those of the first entries, which say what was full, and of the last, which says dry. Where a null
-- is one in large, the first is that of the cache.
abbrev pub TellsTickets : Null → List Entry → Type 0
TellsTickets (Ranged m d p) es = (is_large_full (events es) ≡ false) × ((between : List ℕ) × (map (λ e. e.ticket) es ≡ m ∷ d ∷ between ++ p ∷ []))
TellsTickets (Large c p) es = IsTrue (is_large_full (events es)) × ((between : List ℕ) × (map (λ e. e.ticket) es ≡ c ∷ between ++ p ∷ []))

-- a lot is of the zone, and its bytes are of the space; where there is none its tickets are told
abbrev pub IsAnswer : ℕ → Site → List Entry → Result LotView Null → Type 0
IsAnswer z x es (Ok l) = (l.zone ≡ z) × (l.span.space ≡ x)
IsAnswer z x es (Err e) = TellsTickets e es

-- The caller's request for n bytes at al in zone z is answered: the record grew by just the entries that serve it, 36 at most, only
-- the keepers of its case were taken, nothing is held, and no block of nano was made.
pub record Answers (s : Account) (z n al : ℕ) (got : Result LotView Null) (t : Account) : Type 0 where
  pub mine : List Entry
  pub few : length mine ≤ 36
  pub grows : Grows s mine (keepers_for (events mine)) t
  pub nothing_held : HoldsNothing t
  pub serves : Serves s.profile t.seen (request_of s.caller z n al) mine (block_got got)
  pub answer : IsAnswer z s.site mine got
  pub outside_nano : IsTrue (list_all (λ e. not (is_at_nano e.event)) mine)
