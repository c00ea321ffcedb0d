-- What stands between two lines of a run: which zones are open under which names, what each caller holds, and what is on
-- its way from one caller to another. This project's own.
use Rattle.std.specs.Prelude.{ℕ, ◌==◌, Bool, not, List, [], ◌∷◌, ◌++◌, filter, find, fold, is_some, Option, None, Some, codes}
use Rattle.std.specs.List.{list_any, range_with_len}
use Rattle.std.specs.Option.{option_map}
use Rattle.std.specs.Str.{bytes_eq}
use Rattle.mz_base.specs.declared.profile.Profile.{Profile}
use Rattle.mz_base.specs.Lists.{insert_by}
use Rattle.mz_base.specs.Space.{Block, same_block}
use Rattle.mz_words.specs.declared.count.TheConstants.{MOST_IN_BATCH}
use Rattle.mz_words.specs.declared.name.Name.{Name}
use Rattle.mz_record.specs.Bytes.{Bytes, fresh}
use Rattle.mz_lawful.specs.Names.{same_name, is_in_batch, index_of}

-- a name with its block, and the zone in which the block was served
pub record Holding : Type 0 where
  pub name : Name
  pub block : Block
  pub zone : ℕ

-- A caller: the names that it holds, its zone's name, and what it knows of the bytes of its blocks. Bytes are those of a
-- live block and not of a name; of a block that isn't there nothing is known.
pub record Caller : Type 0 where
  pub held : List Holding
  pub zone : List ℕ
  pub known : List (Block × Bytes)

-- a block on its way to a caller, that is to have it under this name
pub record Gift : Type 0 where
  pub to : ℕ
  pub holding : Holding
  pub bytes : Bytes

-- The names of the open zones by number, the callers by number, and the gifts of this round, in order. A caller that isn't
-- there is a newcomer.
pub record Standing : Type 0 where
  pub zones : List (ℕ × List ℕ)
  pub callers : List (ℕ × Caller)
  pub gifts : List Gift

-- the name of zone 0
abbrev pub default_zone : List ℕ
default_zone = codes "default"

abbrev pub newcomer : Caller
newcomer = record { held = []; zone = default_zone; known = [] }

-- what stands before the first line
abbrev pub first_standing : Standing
first_standing = record { zones = (0, default_zone) ∷ []; callers = []; gifts = [] }

-- a caller, by its number
abbrev pub caller_at : Standing → ℕ → Caller
caller_at v c = elim (find (λ x. x.0 == c) v.callers) [ None ↦ newcomer | Some x ↦ x.1 ]

-- the same, but that this is caller c
abbrev pub with_caller : ℕ → Caller → Standing → Standing
with_caller c me v = record v { callers = (c, me) ∷ filter (λ x. not (x.0 == c)) v.callers }

-- the open zone of this name
abbrev pub zone_number : Standing → List ℕ → Option ℕ
zone_number v name = option_map (λ x. x.0) (find (λ x. bytes_eq x.1 name) v.zones)

-- the name of an open zone
abbrev pub zone_name : Standing → ℕ → List ℕ
zone_name v z = elim (find (λ x. x.0 == z) v.zones) [ None ↦ [] | Some x ↦ x.1 ]

-- the lowest number of a zone that isn't open
abbrev pub lowest_closed : Profile → Standing → Option ℕ
lowest_closed p v = find (λ z. not (list_any (λ x. x.0 == z) v.zones)) (range_with_len 0 p.zones)

-- what a caller holds under a name, or none
abbrev pub held_at : Caller → Name → Option Holding
held_at me name = find (λ h. same_name h.name name) me.held

abbrev pub is_held : Caller → Name → Bool
is_held me name = is_some (held_at me name)

-- what it holds of which the block begins at the address, or none
abbrev pub held_from : Caller → ℕ → Option Holding
held_from me a = find (λ h. h.block.first == a) me.held

-- a name of one of the first so many blocks of the batch is held
abbrev pub is_batch_held : Caller → List ℕ → ℕ → Bool
is_batch_held me base count = list_any (λ h. is_in_batch base count h.name) me.held

-- the names of the batch that are held, by number
unfoldable pub by_index : List Holding → List Holding
by_index [] = []
by_index (h ∷ hs) = insert_by (λ x. index_of x.name) h (by_index hs)

abbrev pub batch_held : Caller → List ℕ → List Holding
batch_held me base = by_index (filter (λ h. is_in_batch base MOST_IN_BATCH h.name) me.held)

-- what a caller knows of the bytes of a block
abbrev pub bytes_of : Caller → Block → Bytes
bytes_of me b = elim (find (λ x. same_block b x.0) me.known) [ None ↦ fresh b.size | Some x ↦ x.1 ]

-- the caller that holds this, too
abbrev pub holding : Holding → Caller → Caller
holding h me = record me { held = h ∷ me.held }

-- and the caller that no longer holds the name
abbrev pub without_name : Name → Caller → Caller
without_name name me = record me { held = filter (λ h. not (same_name h.name name)) me.held }

-- the caller that knows nothing of the block
abbrev pub forgetting : Block → Caller → Caller
forgetting b me = record me { known = filter (λ x. not (same_block b x.0)) me.known }

-- and the one that knows these bytes of it
abbrev pub knowing : Block → Bytes → Caller → Caller
knowing b bs me = record me { known = (b, bs) ∷ filter (λ x. not (same_block b x.0)) me.known }

-- with one more gift on its way
abbrev pub with_gift : Gift → Standing → Standing
with_gift g v = record v { gifts = v.gifts ++ g ∷ [] }

-- the gift has come
abbrev pub received : Standing → Gift → Standing
received v g = with_caller g.to (knowing g.holding.block g.bytes (holding g.holding (caller_at v g.to))) v

-- what stands after the end of a round: all gifts have come, in order
abbrev pub delivered : Standing → Standing
delivered v = fold received (record v { gifts = [] }) v.gifts
