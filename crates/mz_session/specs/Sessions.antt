-- What contracts see of a session, what holds of it between two commands, and the standing for which it stands. This project's own.
use Rattle.std.specs.Prelude.{ℕ, ◌≡◌, ◌≤◌, ◌==◌, nat_lt, true, ◌||◌, Bool, List, [], ◌∷◌, ◌++◌, map, None, Some, IsTrue, Contains, is_some}
use Rattle.std.specs.List.{list_all, list_any}
use Rattle.std.specs.Str.{bytes_eq}
use Rattle.mz_base.specs.declared.profile.Profile.{Profile}
use Rattle.mz_base.specs.Space.{Block}
use Rattle.mz_events.specs.State.{is_open}
use Rattle.mz_words.specs.declared.name.Name.{Name}
use Rattle.mz_words.specs.declared.name.Name.TheVariants.{Given}
use Rattle.mz_record.specs.Bytes.{is_shown_as}
use Rattle.mz_lawful.specs.Names.{same_name}
use Rattle.mz_lawful.specs.Standing.{Holding, Gift, Standing, default_zone, caller_at, held_at, bytes_of}
use Rattle.mz_book.specs.Account.{HoldsNothing, state_of, hand}
use Rattle.mz_book.specs.Living.{times}
use Rattle.mz_zone.specs.declared.zone.Zone.{Zone}
use Rattle.mz_zone.specs.Blocks.{BlockView, IsAtItsSlot, block_of}
use Rattle.mz_zone.specs.Calling.{AtView, IsSeatedAt, HasSlot}
use Rattle.mz_zone.specs.Counts.{has_nano}
use Rattle.mz_session.specs.declared.parcel.Parcel.{Parcel}
use Rattle.mz_session.specs.Names.{NamedBlocks, views_named, block_with, holding_of, holding_named}
use Rattle.mz_session.specs.Seats.{HasOneSeat}

-- a space for one caller, of one zone
pub record IsForOne (p : Profile) : Type 0 where
  pub callers : p.callers ≡ 1
  pub zones : p.zones ≡ 1

-- What contracts see of a session: its zone, the account of its book with nano where it is there, the names that are held with their
-- blocks, and the blocks that are on their way, in order.
pub record SessionView : Type 0 where
  pub zone : Zone
  pub at : AtView
  pub blocks : NamedBlocks
  pub parcels : List Parcel

-- the blocks that the session keeps: under names, on their way, and besides these
abbrev pub views_kept : SessionView → List BlockView → List BlockView
views_kept s loose = views_named s.blocks ++ map (λ g. g.block) s.parcels ++ loose

abbrev pub blocks_kept : SessionView → List BlockView → List Block
blocks_kept s loose = map block_of (views_kept s loose)

-- the block is one of zone 0 and of this space, and where it is one of nano its slot is in the caller's hand
pub record IsOurs (v : AtView) (b : BlockView) : Type 0 where
  pub zone : b.zone ≡ 0
  pub space : b.span.space ≡ v.book.site
  pub slot : HasSlot v.nano b.base b.slot
  pub place : IsAtItsSlot b

-- blocks on their way come under names of their own, which nobody holds
abbrev pub AreNewNames : NamedBlocks → List Parcel → Type 0
AreNewNames bs [] = Unit {0}
AreNewNames bs (g ∷ gs) = (block_with bs (Given g.name) ≡ None) × ((h : Parcel) → Contains gs h → h.name ≡ g.name → ⊥) × AreNewNames bs gs

-- What holds of a session where it keeps these blocks besides those with names and those on their way. The zone is zone 0, nothing is
-- held, nano is there just where it has pages, and has no other seat, and the blocks in the caller's hand are just those that are kept, each once; nobody else owns any.
pub record Keeps (s : SessionView) (loose : List BlockView) : Type 0 where
  pub profile : s.zone.profile ≡ s.at.book.profile
  pub zone : s.zone.zone ≡ 0
  pub for_one : IsForOne s.at.book.profile
  pub caller : s.at.book.caller ≡ 0
  pub alone : IsTrue s.at.book.between
  pub zone_open : IsTrue (is_open (state_of s.at.book) 0)
  pub nothing_held : HoldsNothing s.at.book
  pub seated : IsSeatedAt s.at.book s.at.nano
  pub nano : has_nano s.at.nano ≡ nat_lt 0 s.at.book.profile.nano
  pub one_seat : HasOneSeat s.at.nano
  pub ours : (b : BlockView) → Contains (views_kept s loose) b → IsOurs s.at b
  pub in_hand : (b : Block) → times b (hand s.at.book) ≡ times b (blocks_kept s loose)
  pub once : (b : Block) → times b (hand s.at.book) ≤ 1
  pub mine : IsTrue (list_all (λ h. h.caller == 0) s.at.book.pairs)
  pub new_names : AreNewNames s.blocks s.parcels

-- and between two commands, where it keeps no others
abbrev pub IsKept : SessionView → Type 0
IsKept s = Keeps s []

-- the session before the first command
pub record IsOpened (p : Profile) (s : SessionView) : Type 0 where
  pub kept : IsKept s
  pub profile : s.at.book.profile ≡ p
  pub seen : s.at.book.seen ≡ []
  pub blocks : s.blocks ≡ []
  pub parcels : s.parcels ≡ []

-- a block was given under this name: it has the name, or is on its way
abbrev pub is_given : SessionView → List ℕ → Bool
is_given s name = is_some (block_with s.blocks (Given (record { base = name }))) || list_any (λ g. bytes_eq g.name.base name) s.parcels

-- the parcels are these gifts to caller 0, and nothing is known of the bytes of these that isn't so
abbrev pub ArePassed : List Parcel → List Gift → Type 0
ArePassed [] [] = Unit {0}
ArePassed [] (x ∷ xs) = ⊥
ArePassed (g ∷ gs) [] = ⊥
ArePassed (g ∷ gs) (x ∷ xs) = (x ≡ record { to = 0; holding = holding_of (Given g.name) g.block; bytes = x.bytes }) × IsTrue (is_shown_as x.bytes g.block.span.bytes) × ArePassed gs xs

-- no name is held twice
abbrev pub AreHeldOnce : List Holding → Type 0
AreHeldOnce [] = Unit {0}
AreHeldOnce (h ∷ hs) = ((g : Holding) → Contains hs g → IsTrue (same_name g.name h.name) → ⊥) × AreHeldOnce hs

-- The session stands for a standing: the zone default alone is open, the blocks on their way are those of the gifts, and caller 0 is in
-- that zone, holds just these names, each once, and knows of the bytes of their blocks nothing that isn't so.
pub record StandsFor (s : SessionView) (v : Standing) : Type 0 where
  pub zones : v.zones ≡ (0, default_zone) ∷ []
  pub gifts : ArePassed s.parcels v.gifts
  pub zone : (caller_at v 0).zone ≡ default_zone
  pub held : (name : Name) → held_at (caller_at v 0) name ≡ holding_named s.blocks name
  pub held_once : AreHeldOnce (caller_at v 0).held
  pub known : (name : Name) (b : BlockView) → block_with s.blocks name ≡ Some b → is_shown_as (bytes_of (caller_at v 0) (block_of b)) b.span.bytes ≡ true
