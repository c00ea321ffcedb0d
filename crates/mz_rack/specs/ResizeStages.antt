-- Where a block that is to have another size stands between two calls of the book.
use Rattle.std.specs.Prelude.{◌≡◌, ℕ, ◌+◌, ◌<◌, ◌==◌, Bool, true, false, ◌&&◌, ◌||◌, not, List, [], ◌∷◌, length, min, take, IsTrue}
use Rattle.std.specs.List.{list_any, list_all}
use Rattle.mz_base.specs.declared.profile.Profile.{Profile}
use Rattle.mz_base.specs.Site.{Site}
use Rattle.mz_base.specs.Space.{Block, block_at, blocks_apart}
use Rattle.mz_base.specs.Room.{lies_in}
use Rattle.mz_base.specs.Lists.{has_block}
use Rattle.mz_ground.specs.Views.{SpanView}
use Rattle.mz_events.specs.declared.place.Place.{Place}
use Rattle.mz_events.specs.declared.event.Event.TheVariants.{Size}
use Rattle.mz_events.specs.declared.entry.Entry.{Entry}
use Rattle.mz_events.specs.Places.{is_magazine, is_depot, is_size_of}
use Rattle.mz_events.specs.State.{Kept}
use Rattle.mz_events.specs.Changes.{resized}
use Rattle.mz_events.specs.Standing.{Keeping, Stands}
use Rattle.mz_record.specs.Served.{events}
use Rattle.mz_record.specs.Resized.{IsHemmedIn, lies_in_nano_pages}
use Rattle.mz_book.specs.Account.{Account, state_of}
use Rattle.mz_book.specs.Growth.{Grows}
use Rattle.mz_rack.specs.Lots.{LotView}
use Rattle.mz_rack.specs.Freeing.{block_of}
use Rattle.mz_rack.specs.FreeStages.{block_in}
use Rattle.mz_rack.specs.Resizing.{KeepsBytes}

-- it stands for a magazine or a depot of the span's space, where the span is a live block and n is a size
pub record MayResize (v : Keeping) (x : SpanView) (n : ℕ) : Type 0 where
  pub space : Site
  pub profile : Profile
  pub place : Place
  pub kept : Kept
  pub stands : Stands v space profile place kept
  pub regions : IsTrue (is_magazine place || is_depot place)
  pub size : IsTrue (is_size_of place n)
  pub of_space : x.space ≡ space
  pub live : IsTrue (has_block kept.live (block_in x))

-- the bytes up to n from the block's start are in one of the runs and in no other live block
abbrev pub has_room_to : Kept → Block → ℕ → Bool
has_room_to k b n =
    list_any (λ r. lies_in r b.first (b.first + n)) k.runs && list_all (λ c. (c.first == b.first) || blocks_apart c (block_at b.first n)) k.live

-- the span x is y now, of n bytes, and the bytes that both have are kept
pub record IsRefit (x : SpanView) (n : ℕ) (y : SpanView) : Type 0 where
  pub space : y.space ≡ x.space
  pub first : y.first ≡ x.first
  pub size : length y.bytes ≡ n
  pub bytes : let both = min (length x.bytes) n in take both y.bytes ≡ take both x.bytes

-- the live block x has n bytes now; or it would grow and has no room for that, and nothing changed
abbrev pub Refits : Kept → SpanView → ℕ → (Kept → Type 0) → Bool → SpanView → Type 0
Refits k x n is true y = IsTrue (has_room_to k (block_in x) n) × IsRefit x n y × is (resized (block_in x) (block_at x.first n) k)
Refits k x n is false y = (has_room_to k (block_in x) n ≡ false) × (length x.bytes < n) × (y ≡ x) × is k

-- the lot l got n bytes by one entry, and is m; or it was hemmed in, and nothing changed
abbrev pub IsDone : Account → LotView → ℕ → List Entry → Bool → LotView → Type 0
IsDone t l n es true m = (k : Place) × (events es ≡ Size k (block_of l).first (block_of l).size n ∷ []) × (block_of m ≡ block_at l.span.first n) × KeepsBytes l m
IsDone t l n es false m = (es ≡ []) × (m ≡ l) × ((block_of l).size < n) × IsHemmedIn (state_of t) (block_of l) n

-- the lot, which lay in a region, was to get n bytes there; nothing is held
pub record IsSettled (s : Account) (l : LotView) (n : ℕ) (got : Bool) (t : Account) (m : LotView) : Type 0 where
  pub mine : List Entry
  pub holds : ℕ
  pub grows : Grows s mine holds t
  pub nothing_held : t.held ≡ []
  pub in_region : IsTrue (not (lies_in_nano_pages s.profile (block_of l)))
  pub done : IsDone t l n mine got m
