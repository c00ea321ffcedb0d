-- The slots of nano's blocks, and their lights. A light is the slot's word while a caller holds it. Slots of one size in a block
-- are after libmalloc; lights are this project's own.
use Rattle.std.specs.Prelude.{ℕ, ◌+◌, ◌*◌, ◌/◌, ◌%◌, ◌==◌, Bool, nat_lt, ◌&&◌, not, List, [], ◌∷◌, filter, if◌then◌else◌}
use Rattle.std.specs.List.{list_any}
use Rattle.mz_base.specs.declared.range.TheConstants.{PAGE}
use Rattle.mz_base.specs.declared.profile.Profile.{Profile}
use Rattle.mz_base.specs.Space.{Block, page_of}
use Rattle.mz_base.specs.Lists.{insert_by}
use Rattle.mz_events.specs.Places.{nano_page, nano_start}
use Rattle.mz_events.specs.State.{State, kept_at}
use Rattle.mz_book.specs.declared.light.Light.{Light}

-- the bytes of a slot of this class
abbrev pub slot_size : ℕ → ℕ
slot_size class = 16 * class

-- how many slots a block of this class has
abbrev pub slots_of : ℕ → ℕ
slots_of class = PAGE / slot_size class

-- the page of nano's block b
abbrev pub page_of_block : Profile → ℕ → ℕ
page_of_block p b = nano_start p + b

-- the address of the slot j of the block b, where slots have n bytes
abbrev pub slot_address : Profile → ℕ → ℕ → ℕ → ℕ
slot_address p b j n = page_of_block p b * PAGE + j * n

-- which slot of its page the block is, where it is one
abbrev pub slot_number : Block → ℕ
slot_number x = x.first % PAGE / x.size

-- one of these blocks is the slot's pair: it begins in the page, as the slot j of its size
abbrev pub has_slot : Profile → List Block → ℕ → ℕ → Bool
has_slot p blocks b j = list_any (λ x. (page_of x.first == page_of_block p b) && (slot_number x == j)) blocks

-- the slot's pair is live
abbrev pub is_slot_live : Profile → State → ℕ → ℕ → Bool
is_slot_live p s b j = has_slot p (kept_at s (nano_page (page_of_block p b))).live b j

abbrev pub light_at : ℕ → ℕ → Light
light_at b j = record { block = b; slot = j }

abbrev pub same_light : Light → Light → Bool
same_light l m = (l.block == m.block) && (l.slot == m.slot)

-- the light is one of these
abbrev pub has_light : List Light → Light → Bool
has_light lights l = list_any (same_light l) lights

-- a block has at most 1,024 slots, and lights are ordered by block and slot
abbrev pub light_number : Light → ℕ
light_number l = l.block * 1024 + l.slot

-- the lights with this one among them
abbrev pub add_light : Light → List Light → List Light
add_light l lights = insert_by light_number l lights

-- the lights without this one
abbrev pub drop_light : Light → List Light → List Light
drop_light l lights = filter (λ m. not (same_light l m)) lights

-- The lights that are held, as the slot words tell, from the i-th word on: a word that is neither 0 nor 1 is held.
abbrev pub lights_from : ℕ → List ℕ → List Light
lights_from i [] = []
lights_from i (w ∷ ws) = if nat_lt w 2 then lights_from (i + 1) ws else light_at (i / 1024) (i % 1024) ∷ lights_from (i + 1) ws
