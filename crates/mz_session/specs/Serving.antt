-- When a session serves a command, and the parts of that. This project's own.
use Rattle.std.specs.Prelude.{ℕ, ◌*◌, ◌^◌, ◌<◌, ◌≤◌, ◌≡◌, ◌||◌, true, false, List, [], ◌∷◌, ◌++◌, length, map, max, Option, None, Some, Result, Ok, Err, IsTrue, Contains}
use Rattle.std.specs.List.{AllByRecursion}
use Rattle.std.specs.Option.{option_map}
use Rattle.mz_base.specs.Space.{Block}
use Rattle.mz_events.specs.declared.entry.Entry.{Entry}
use Rattle.mz_words.specs.declared.name.Name.{Name}
use Rattle.mz_words.specs.declared.name.Name.TheVariants.{Base, Batch, Given}
use Rattle.mz_lines.specs.declared.answer.Answer.{Answer}
use Rattle.mz_lines.specs.declared.command.Command.{Command}
use Rattle.mz_lines.specs.declared.command.Command.TheVariants.{Realloc}
use Rattle.mz_lines.specs.declared.renaming.Names.{Names}
use Rattle.mz_lines.specs.Commands.{old_name, new_name}
use Rattle.mz_lines.specs.Lines.{command_gives}
use Rattle.mz_trace.specs.declared.tail.Figures.{Figures}
use Rattle.mz_record.specs.Bytes.{is_shown_as}
use Rattle.mz_record.specs.Served.{Serves as ServesRequest}
use Rattle.mz_record.specs.Dropped.{IsDropped}
use Rattle.mz_record.specs.Resized.{Resize, IsReallocated}
use Rattle.mz_lawful.specs.Records.{LineRecord, call}
use Rattle.mz_lawful.specs.Standing.{Standing, delivered}
use Rattle.mz_lawful.specs.Settings.{Setting, above, least_ticket}
use Rattle.mz_lawful.specs.Tasks.{is_alignment, is_wrong_size, request_of}
use Rattle.mz_lawful.specs.Fitting.{FitsRecord, is_rising_from}
use Rattle.mz_lawful.specs.After.{bytes_kept, after_record}
use Rattle.mz_lawful.specs.Tail.{listing_of, statistics_of}
use Rattle.mz_book.specs.Account.{state_of}
use Rattle.mz_rack.specs.declared.lot.Null.{Null}
use Rattle.mz_zone.specs.declared.fault.CallocFault.{CallocFault}
use Rattle.mz_zone.specs.declared.fault.CallocFault.TheVariants as calloc
use Rattle.mz_zone.specs.declared.fault.AlignFault.{AlignFault}
use Rattle.mz_zone.specs.declared.fault.AlignFault.TheVariants as align
use Rattle.mz_zone.specs.declared.fault.SizeFault.{SizeFault}
use Rattle.mz_zone.specs.declared.fault.SizeFault.TheVariants as size
use Rattle.mz_zone.specs.Blocks.{BlockView, block_of}
use Rattle.mz_zone.specs.Answering.{IsCleared, block_got, slot_got}
use Rattle.mz_zone.specs.Counts.{Tries, counts_of}
use Rattle.mz_session.specs.declared.parcel.Parcel.{Parcel}
use Rattle.mz_session.specs.Names.{block_with}
use Rattle.mz_session.specs.Changes.{AreWith}
use Rattle.mz_session.specs.Sessions.{SessionView, Keeps, IsKept, StandsFor, is_given}

-- where a command stands, the last so far: all that was noted before it comes before, and its own entries follow
abbrev pub setting_of : SessionView → SessionView → Standing → Setting
setting_of s t v = record { profile = s.at.book.profile; history = t.at.book.seen; before = s.at.book.seen; standing = v }

-- what became of a command of caller 0
abbrev pub record_of : Command → List Entry → Answer → LineRecord
record_of command entries answer = record { line = call 0 command; entries = entries; answer = answer }

-- The history grew by just these entries, which are the caller's, with tickets above all others. Names and parcels are as before.
pub record Notes (s : SessionView) (entries : List Entry) (t : SessionView) : Type 0 where
  pub zone : t.zone ≡ s.zone
  pub blocks : t.blocks ≡ s.blocks
  pub parcels : t.parcels ≡ s.parcels
  pub profile : t.at.book.profile ≡ s.at.book.profile
  pub seen : t.at.book.seen ≡ s.at.book.seen ++ entries
  pub mine : AllByRecursion (λ e. e.caller ≡ 0) entries
  pub rising : is_rising_from (above s.at.book.seen) entries ≡ true

-- the block that came, if one did
abbrev pub view_got : Result BlockView Null → List BlockView
view_got (Ok b) = b ∷ []
view_got (Err e) = []

-- A request for n bytes at al was made: nano was tried if it is one for nano, and it is served with the block that came, which the session
-- keeps, or with none.
pub record Makes (s : SessionView) (n al : ℕ) (got : Result BlockView Null) (t : SessionView) : Type 0 where
  pub mine : List Entry
  pub notes : Notes s mine t
  pub serves : ServesRequest s.at.book.profile t.at.book.seen (request_of 0 0 n al) mine (block_got got)
  pub tries : Tries s.at 0 n al (slot_got got) t.at
  pub keeps : Keeps t (view_got got)

-- the block that was kept besides those with names and those on their way ended
pub record Ends (s : SessionView) (b : BlockView) (t : SessionView) : Type 0 where
  pub mine : List Entry
  pub notes : Notes s mine t
  pub dropped : IsDropped s.at.book.profile t.at.book.seen (block_of b) mine
  pub kept : IsKept t

-- Nothing was noted, and the session keeps these blocks besides those with names and those on their way.
pub record Rests (s : SessionView) (loose : List BlockView) (t : SessionView) : Type 0 where
  pub notes : Notes s [] t
  pub keeps : Keeps t loose

-- The first n times m bytes of the block that came are 0. Where these are 2^64 or more nothing was done.
abbrev pub MakesCleared : SessionView → ℕ → ℕ → Result BlockView CallocFault → SessionView → Type 0
MakesCleared s n m (Ok b) t = (n * m < 2 ^ 64) × Makes s (n * m) 16 (Ok b) t × IsCleared (n * m) b
MakesCleared s n m (Err (calloc.Null e)) t = (n * m < 2 ^ 64) × Makes s (n * m) 16 (Err e) t
MakesCleared s n m (Err calloc.Overflow) t = (2 ^ 64 ≤ n * m) × Rests s [] t

-- The alignment is raised to at least 16. Where it is a bad one nothing was done.
abbrev pub MakesAligned : SessionView → ℕ → ℕ → Result BlockView AlignFault → SessionView → Type 0
MakesAligned s al n (Ok b) t = IsTrue (is_alignment al) × Makes s n (max al 16) (Ok b) t
MakesAligned s al n (Err (align.Null e)) t = IsTrue (is_alignment al) × Makes s n (max al 16) (Err e) t
MakesAligned s al n (Err align.BadAlign) t = (is_alignment al ≡ false) × Rests s [] t

-- the block ended, where it can have been asked for with n bytes, or is still there
abbrev pub EndsOfSize : SessionView → BlockView → ℕ → Result (Unit {0}) SizeFault → SessionView → Type 0
EndsOfSize s b n (Ok u) t = (is_wrong_size (block_of b) n ≡ false) × Ends s b t
EndsOfSize s b n (Err (size.WrongSize c held)) t = IsTrue (is_wrong_size (block_of b) n) × (c ≡ b) × (held ≡ length b.span.bytes) × Rests s (b ∷ []) t
EndsOfSize s b n (Err (size.NotLive e)) t = ⊥

-- what is asked of a block: caller 0 wants n bytes, after all that was noted and at the latest after so many entries
abbrev pub resize_of : SessionView → BlockView → ℕ → ℕ → Resize
resize_of s b n high = record { caller = 0; zone = b.zone; block = block_of b; bytes = n; low = above s.at.book.seen; high = high }

-- The entries give the block n bytes, at a moment after all that was noted before and before the first of them.
abbrev pub AreResizing : SessionView → BlockView → ℕ → List Entry → Option Block → SessionView → Type 0
AreResizing s b n mine got t =
    IsReallocated s.at.book.profile t.at.book.seen (resize_of s b n (least_ticket (length t.at.book.seen) mine)) mine got

-- Where the block moved, and where it was to and no other came, nano was tried if that was a request for it; where it stays nothing was.
abbrev pub TriesToMove : SessionView → BlockView → ℕ → Option BlockView → SessionView → Type 0
TriesToMove s b n None t = Tries s.at 0 n 16 None t.at
TriesToMove s b n (Some d) t =
    (d.span.first ≡ b.span.first → counts_of t.at ≡ counts_of s.at) × ((d.span.first ≡ b.span.first → ⊥) → Tries s.at 0 n 16 d.slot t.at)

-- The block became another one of its zone, in its place or elsewhere, with its bytes as far as they were kept; or none
-- came, and it is still there.
pub record Remakes (s : SessionView) (b : BlockView) (n : ℕ) (got : Option BlockView) (t : SessionView) : Type 0 where
  pub mine : List Entry
  pub notes : Notes s mine t
  pub resizing : AreResizing s b n mine (option_map block_of got) t
  pub tries : TriesToMove s b n got t
  pub keeps : Keeps t (elim got [ None ↦ b ∷ [] | Some d ↦ d ∷ [] ])
  pub bytes : (d : BlockView) → got ≡ Some d → is_shown_as (bytes_kept n (block_of b) (block_of d) (map (λ x. Some x) b.span.bytes)) d.span.bytes ≡ true

abbrev pub RemakesOrNot : SessionView → BlockView → ℕ → Result BlockView (BlockView × Null) → SessionView → Type 0
RemakesOrNot s b n (Ok d) t = Remakes s b n (Some d) t
RemakesOrNot s b n (Err e) t = (e.0 ≡ b) × Remakes s b n None t

-- The blocks with names are others, and nothing else has changed.
pub record Renames (s t : SessionView) : Type 0 where
  pub zone : t.zone ≡ s.zone
  pub at : t.at ≡ s.at
  pub parcels : t.parcels ≡ s.parcels

-- The block lost its name, and the session keeps it besides the others. Where the name had none nothing has changed.
abbrev pub Takes : SessionView → Name → Option BlockView → SessionView → Type 0
Takes s name None t = (block_with s.blocks name ≡ None) × (t ≡ s)
Takes s name (Some b) t = (block_with s.blocks name ≡ Some b) × Renames s t × AreWith s.blocks name None t.blocks × Keeps t (b ∷ [])

-- The block got the name.
pub record Holds (s : SessionView) (name : Name) (b : BlockView) (t : SessionView) : Type 0 where
  pub renames : Renames s t
  pub blocks : AreWith s.blocks name (Some b) t.blocks
  pub kept : IsKept t

-- The name can be that of a block that is kept besides: it has no block, and isn't one of those on their way.
pub record IsFree (s : SessionView) (name : Name) : Type 0 where
  pub unnamed : block_with s.blocks name ≡ None
  pub not_coming : (g : Parcel) → Contains s.parcels g → name ≡ Given g.name → ⊥

-- A command of caller 0 was served with this answer. Its entries are the caller's and come behind all others, and the record
-- that they make with the answer fits: whatever standing the session stood for, it stands for what the record leaves. No name is one
-- under which a block was given, but that which the command gives.
pub record Serves (s : SessionView) (command : Command) (answer : Answer) (t : SessionView) : Type 0 where
  pub entries : List Entry
  pub kept : IsKept t
  pub profile : t.at.book.profile ≡ s.at.book.profile
  pub seen : t.at.book.seen ≡ s.at.book.seen ++ entries
  pub mine : AllByRecursion (λ e. e.caller ≡ 0) entries
  pub fits : (v : Standing) → StandsFor s v → FitsRecord (setting_of s t v) (record_of command entries answer)
  pub stands : (v : Standing) → StandsFor s v → StandsFor t (after_record (setting_of s t v) (record_of command entries answer))
  pub given : (name : List ℕ) → is_given t name ≡ true → (is_given s name || command_gives name command) ≡ true

-- the new name of a block is its old one, or a base name
abbrev pub IsKeptOrBase : Name → Name → Type 0
IsKeptOrBase old (Base new) = Unit {0}
IsKeptOrBase old (Batch new) = old ≡ Batch new
IsKeptOrBase old (Given new) = old ≡ Given new

-- any command that gives the block of one name n bytes and another name was served so
abbrev pub ServesResize : SessionView → Name → Name → ℕ → Answer → SessionView → Type 0
ServesResize s old new n answer t = (names : Names) → old_name names ≡ Some old → new_name names ≡ new → Serves s (Realloc names n) answer t

-- All is as before, but that the slots in the seat's hand may stand in another order.
pub record AreAtRest (s t : SessionView) : Type 0 where
  pub zone : t.zone ≡ s.zone
  pub book : t.at.book ≡ s.at.book
  pub blocks : t.blocks ≡ s.blocks
  pub parcels : t.parcels ≡ s.parcels
  pub kept : IsKept t

-- The blocks on their way have come: the history is as before, and whatever standing the session stood for, it stands for what that is
-- at the end of a round.
pub record Delivers (s t : SessionView) : Type 0 where
  pub kept : IsKept t
  pub profile : t.at.book.profile ≡ s.at.book.profile
  pub seen : t.at.book.seen ≡ s.at.book.seen
  pub parcels : t.parcels ≡ []
  pub stands : (v : Standing) → StandsFor s v → StandsFor t (delivered v)
  pub given : (name : List ℕ) → is_given t name ≡ true → is_given s name ≡ true

-- these are the figures behind what the session has served, whatever standing it stands for
abbrev pub HasTail : SessionView → Figures → Type 0
HasTail s figures =
    (v : Standing) → StandsFor s v
    → figures ≡ record { listing = listing_of v (state_of s.at.book); statistics = statistics_of s.at.book.profile (state_of s.at.book) }
