-- What a line is to do, or the answer by which it is refused: that of the first test that holds, in order. This project's
-- own; what `memalign` and `free_definite_size` refuse is after libmalloc in outline.
use Rattle.std.specs.Prelude.{ℕ, ◌+◌, ◌*◌, ◌^◌, ◌==◌, Bool, true, false, not, ◌&&◌, ◌||◌, nat_lt, nat_le, max, is_some, List, Option, None, Some, if◌then◌else◌}
use Rattle.std.specs.List.{list_any, range_with_len}
use Rattle.mz_base.specs.declared.profile.Profile.{Profile}
use Rattle.mz_base.specs.declared.range.TheConstants.{PAGE}
use Rattle.mz_base.specs.declared.range.Range.{Range}
use Rattle.mz_base.specs.declared.range.Range.TheVariants as range
use Rattle.mz_base.specs.Sizes.{route_of}
use Rattle.mz_base.specs.Space.{Block}
use Rattle.mz_lines.specs.declared.answer.Answer.{Answer}
use Rattle.mz_lines.specs.declared.answer.Answer.TheVariants as answers
use Rattle.mz_lines.specs.declared.command.Command.{Command}
use Rattle.mz_lines.specs.declared.command.Command.TheVariants.{Malloc, Calloc, Valloc, Memalign, Realloc, Free, FreeAt, ZoneFree, SizedFree, Size, Fill, Show, Link, Give, Batch, Unbatch, Use}
use Rattle.mz_lines.specs.declared.round_line.RoundLine.{RoundLine}
use Rattle.mz_lines.specs.declared.round_line.RoundLine.TheVariants as round_line
use Rattle.mz_lines.specs.Commands.{old_name, new_name}
use Rattle.mz_words.specs.declared.name.Name.{Name}
use Rattle.mz_words.specs.declared.name.Name.TheVariants as names
use Rattle.mz_events.specs.State.{State}
use Rattle.mz_record.specs.Served.{Request}
use Rattle.mz_record.specs.Zones.{zone_at, live_from, live_in_zone}
use Rattle.mz_lawful.specs.Names.{same_name}
use Rattle.mz_lawful.specs.Records.{Line, start, call}
use Rattle.mz_lawful.specs.Standing.{Holding, Caller, Standing, caller_at, zone_number, zone_name, lowest_closed, held_at, held_from, is_held, is_batch_held, batch_held}
use Rattle.mz_lawful.specs.Settings.{Setting, now}

-- What a line is to do.
pub data Task : Type 0 where
  -- nothing: it is refused, with this answer
  refused : Answer → Task
  -- a request is to be served, the block gets the name, and its first bytes, so many, are 0
  serving : Name → Request → ℕ → Task
  -- the held block is to have n bytes, and the name in place of the one it has
  resizing : Name → Holding → ℕ → Task
  -- the held block is to end, and its name with it
  dropping : Holding → Task
  -- it is to be said that the block isn't one of the zone
  denying : ℕ → Block → Task
  -- nothing, but that this is answered
  telling : Answer → Task
  -- all bytes of the block are to be this one
  filling : Block → ℕ → Task
  -- from an offset on, so many bytes of the block are to be shown
  showing : Block → ℕ → ℕ → Task
  -- at an offset, an address is to be written into the block
  linking : Block → ℕ → ℕ → Task
  -- the held block goes to a caller, and has another name there
  giving : Holding → ℕ → Name → Task
  -- requests are to be served, so many, and the blocks get names of the batch
  batching : List ℕ → ℕ → Request → Task
  -- these are to end, one after another
  unbatching : List Holding → Task
  -- the zone of this name is the caller's from now on
  using : List ℕ → Task
  -- a zone is to be opened, under this number and this name
  opening_zone : ℕ → List ℕ → Task
  -- a zone is to be destroyed
  destroying_zone : ℕ → Task

-- the line is refused with this answer where the test holds
abbrev pub refuse_if : Bool → Answer → Task → Task
refuse_if test answer task = if test then refused answer else task

-- it is refused where no zone of this name is open; else this is done in the zone
abbrev pub in_zone : Standing → List ℕ → (ℕ → Task) → Task
in_zone v name task = elim (zone_number v name) [ None ↦ refused answers.NoZone | Some z ↦ task z ]

-- it is refused where the caller doesn't hold the name; else this is done with what it holds
abbrev pub with_held : Caller → Name → (Holding → Task) → Task
with_held me name task = elim (held_at me name) [ None ↦ refused answers.NotHeld | Some h ↦ task h ]

-- the numbers at whose multiples blocks can be asked for: the powers of two from 8 to 16,384
abbrev pub is_alignment : ℕ → Bool
is_alignment al = list_any (λ k. al == 2 ^ k) (range_with_len 3 12)

-- two ranges are one
abbrev pub same_range : Range → Range → Bool
same_range range.Nano range.Nano = true
same_range range.Tiny range.Tiny = true
same_range range.Small range.Small = true
same_range range.Medium range.Medium = true
same_range range.Large range.Large = true
same_range _ _ = false

-- A request for n bytes isn't one that such a block could serve: it is larger, or is routed to another range. By its size
-- a block of nano's counts as tiny.
abbrev pub is_wrong_size : Block → ℕ → Bool
is_wrong_size b n = nat_lt b.size n || not (same_range (route_of n) (route_of b.size))

-- a request by caller c in zone z
abbrev pub request_of : ℕ → ℕ → ℕ → ℕ → Request
request_of c z n al = record { caller = c; zone = z; bytes = n; align = al }

-- it is refused where the caller holds the name, and where its zone isn't open; else this is done in that zone
abbrev pub with_new : Standing → Caller → Name → (ℕ → Task) → Task
with_new v me name task = refuse_if (is_held me name) answers.Held (in_zone v me.zone task)

-- a block of n bytes under a new name
abbrev pub plain : Standing → ℕ → Name → ℕ → Task
plain v c name n = with_new v (caller_at v c) name (λ z. serving name (request_of c z n 16) 0)

-- a name for another size: of a new block where there is no old name
abbrev pub resize : Standing → ℕ → Option Name → Name → ℕ → Task
resize v c None new n = plain v c new n
resize v c (Some old) new n =
    let me = caller_at v c in
    with_held me old (λ h. refuse_if (not (same_name new old) && is_held me new) answers.Held (resizing new h n))

-- the end of the block that begins at an address
abbrev pub drop_from : Caller → ℕ → Task
drop_from me a = elim (held_from me a) [ None ↦ refused answers.NotHeld | Some h ↦ dropping h ]

-- the end of a held block, if it was served in zone z
abbrev pub drop_in_zone : ℕ → Holding → Task
drop_in_zone z h = if h.zone == z then dropping h else denying z h.block

-- what a command by caller c is to do
abbrev pub task_of_call : Setting → ℕ → Command → Task
task_of_call s c (Malloc name n) = plain s.standing c (names.Base name) n
task_of_call s c (Calloc name n m) =
    with_new s.standing (caller_at s.standing c) (names.Base name)
    (λ z. refuse_if (nat_le (2 ^ 64) (n * m)) answers.Overflow (serving (names.Base name) (request_of c z (n * m) 16) (n * m)))
task_of_call s c (Valloc name n) =
    with_new s.standing (caller_at s.standing c) (names.Base name) (λ z. serving (names.Base name) (request_of c z n PAGE) 0)
task_of_call s c (Memalign name al n) =
    with_new s.standing (caller_at s.standing c) (names.Base name)
    (λ z. refuse_if (not (is_alignment al)) answers.BadAlign (serving (names.Base name) (request_of c z n (max al 16)) 0))
task_of_call s c (Realloc names n) = resize s.standing c (old_name names) (new_name names) n
task_of_call s c (Free name) = with_held (caller_at s.standing c) name dropping
task_of_call s c (FreeAt name off) = let me = caller_at s.standing c in with_held me name (λ h. drop_from me (h.block.first + off))
task_of_call s c (ZoneFree zone name) = with_held (caller_at s.standing c) name (λ h. in_zone s.standing zone (λ z. drop_in_zone z h))
task_of_call s c (SizedFree name n) =
    with_held (caller_at s.standing c) name (λ h. refuse_if (is_wrong_size h.block n) (answers.WrongSize h.block.size) (dropping h))
task_of_call s c (Size name) = telling (answers.Size (elim (held_at (caller_at s.standing c) name) [ None ↦ 0 | Some h ↦ h.block.size ]))
task_of_call s c (Fill name byte) = with_held (caller_at s.standing c) name (λ h. filling h.block byte)
task_of_call s c (Show name off count) =
    with_held (caller_at s.standing c) name (λ h. refuse_if (nat_lt h.block.size (off + count)) answers.OutOfRange (showing h.block off count))
task_of_call s c (Link name off target) =
    let me = caller_at s.standing c in
    with_held me name (λ h. with_held me target (λ t. refuse_if (nat_lt h.block.size (off + 8)) answers.OutOfRange (linking h.block off t.block.first)))
task_of_call s c (Give name to given) = with_held (caller_at s.standing c) name (λ h. giving h to (names.Given given))
task_of_call s c (Batch name count n) =
    let me = caller_at s.standing c in
    refuse_if (is_batch_held me name count) answers.Held (in_zone s.standing me.zone (λ z. batching name count (request_of c z n 16)))
task_of_call s c (Unbatch name) = unbatching (batch_held (caller_at s.standing c) name)
task_of_call s c (Use zone) = in_zone s.standing zone (λ z. using zone)

-- the size of the zone's live block that begins at the address, and 0 where none does
abbrev pub size_in_zone : State → ℕ → ℕ → ℕ
size_in_zone s z a = elim (live_from s a) [ None ↦ 0 | Some x ↦ if zone_at x.0 == z then x.1.size else 0 ]

-- the zone of the live block that begins at the address
abbrev pub zone_there : Standing → State → ℕ → Answer
zone_there v s a = elim (live_from s a) [ None ↦ answers.Nowhere | Some x ↦ answers.Zone (zone_name v (zone_at x.0)) ]

-- a zone of this name, under the lowest number that is closed
abbrev pub open_lowest : Profile → Standing → List ℕ → Task
open_lowest p v name = elim (lowest_closed p v) [ None ↦ refused answers.TooMany | Some z ↦ opening_zone z name ]

-- what a line at the start of a round is to do
abbrev pub task_of_start : Setting → RoundLine → Task
task_of_start s (round_line.Zone zone) = refuse_if (is_some (zone_number s.standing zone)) answers.NameTaken (open_lowest s.profile s.standing zone)
task_of_start s (round_line.Destroy zone) =
    in_zone s.standing zone
    (λ z. refuse_if (z == 0) answers.IsDefault (refuse_if (nat_lt 0 (live_in_zone (now s) z)) (answers.HasLive (live_in_zone (now s) z)) (destroying_zone z)))
task_of_start s (round_line.Size zone addr) = in_zone s.standing zone (λ z. telling (answers.Size (size_in_zone (now s) z addr)))
task_of_start s (round_line.Where addr) = telling (zone_there s.standing (now s) addr)

-- what a line is to do
abbrev pub task_of : Setting → Line → Task
task_of s (start l) = task_of_start s l
task_of s (call c command) = task_of_call s c command
