-- What contracts see of a book: one plain record, its account. This project's own.
use Rattle.std.specs.Prelude.{◌≡◌, ℕ, ◌+◌, ◌-◌, ◌*◌, ◌<◌, ◌≤◌, ◌^◌, Bool, nat_lt, nat_le, ◌&&◌, true, List, [], ◌∷◌, ◌++◌, length, min, slice_index_or, Option, IsTrue, if◌then◌else◌}
use Rattle.std.specs.List.{list_any, list_all}
use Rattle.mz_base.specs.declared.profile.Profile.{Profile}
use Rattle.mz_base.specs.Limits.{IsWithinLimits}
use Rattle.mz_base.specs.Site.{Site}
use Rattle.mz_base.specs.Space.{Block, same_block}
use Rattle.mz_events.specs.declared.entry.Entry.{Entry}
use Rattle.mz_events.specs.declared.event.Event.{Event}
use Rattle.mz_events.specs.Places.{Spot}
use Rattle.mz_events.specs.State.{Value, State, value_at, opening, live_blocks}
use Rattle.mz_events.specs.History.{AreLawful, after_all}
use Rattle.mz_events.specs.Hands.{own}
use Rattle.mz_events.specs.Changes.{one_for}
use Rattle.mz_events.specs.Standing.{Keeping, Stands}
use Rattle.mz_book.specs.declared.light.Light.{Light}
use Rattle.mz_book.specs.declared.light.Asked.{Asked}
use Rattle.mz_book.specs.declared.pair.Pair.{Pair}
use Rattle.mz_book.specs.Keepers.{keeper_count, place_at, keeper_spot, is_held}
use Rattle.mz_book.specs.Pairs.{hand_among, owners}
use Rattle.mz_book.specs.Lights.{has_light, light_at, has_slot, is_slot_live}

-- All that contracts see of a book.
pub record Account : Type 0 where
  -- which book it is; no call changes it
  pub name : List ℕ
  pub profile : Profile
  pub caller : ℕ
  -- the space in which its keepers stand for their places
  pub site : Site
  -- it is used between rounds: no other caller acts beside it, so that its words are those of the history
  pub between : Bool
  -- the numbers of the keepers that it holds
  pub held : List ℕ
  -- entries with which the history by ticket begins, its own among them
  pub seen : List Entry
  -- its record: the entries that it noted
  pub noted : List Entry
  -- the pairs of its caller, and between rounds those of all callers
  pub pairs : List Pair
  -- how many entries it can still note
  pub spare : ℕ
  -- how often it held a keeper
  pub holds : ℕ
  -- the lights that it holds, by block and slot
  pub lights : List Light
  -- for each block of nano its class, and 0 where the book knows of none
  pub settled : List ℕ
  -- how often it found another word than it asked for, and what it asked then
  pub founds : ℕ
  pub found : Option Asked

-- the state after all that the book has seen
abbrev pub state_of : Account → State
state_of s = after_all s.profile opening s.seen

-- what the book knows of a spot that it holds
abbrev pub known : Account → Spot → Value
known s j = value_at (state_of s) j

-- the book's keepers are those of these spots
abbrev pub holds_spot : Account → Spot → Bool
holds_spot s j = is_held s.profile s.held j

-- the pairs that the caller owns
abbrev pub hand : Account → List Block
hand s = hand_among s.caller s.pairs

-- the class of a block of nano, and 0 where the book knows of none
abbrev pub class_of : Account → ℕ → ℕ
class_of s b = slice_index_or s.settled b 0

-- the light of a slot is held
abbrev pub holds_light : Account → ℕ → ℕ → Bool
holds_light s b j = has_light s.lights (light_at b j)

-- the pair of a slot is in the hand
abbrev pub owns_slot : Account → ℕ → ℕ → Bool
owns_slot s b j = has_slot s.profile (hand s) b j

-- the word of a slot, as the history and the lights tell: 2 and the caller where its light is held, else 1 where its pair is
-- live, and 0 where it isn't
abbrev pub slot_word : Account → ℕ → ℕ → ℕ
slot_word s b j = if holds_light s b j then 2 + s.caller else one_for (is_slot_live s.profile (state_of s) b j)

-- no keeper and no light is held
pub record HoldsNothing (s : Account) : Type 0 where
  pub keepers : s.held ≡ []
  pub lights : s.lights ≡ []

-- the keeper stands for the place of number k, as the book knows it
abbrev pub StandsFor : Account → ℕ → Keeping → Type 0
StandsFor s k v = Stands v s.site s.profile (place_at s.profile k) (known s (keeper_spot s.profile k)).kept

abbrev pub entry_at : ℕ → ℕ → Event → Entry
entry_at n c e = record { ticket = n; caller = c; event = e }

-- a stored count after one more
abbrev pub one_more : ℕ → ℕ
one_more n = min (n + 1) (2 ^ 64 - 1)

-- the block is live somewhere
abbrev pub is_live : State → Block → Bool
is_live s b = list_any (λ x. same_block b x.1) (live_blocks s)

-- strictly ascending, from b on
abbrev pub is_ascending : ℕ → List ℕ → Bool
is_ascending b [] = true
is_ascending b (x ∷ xs) = nat_le b x && is_ascending (x + 1) xs

-- the record is what of the caller's own entries came since some moment
pub record IsRecord (c : ℕ) (seen noted : List Entry) : Type 0 where
  pub before : List Entry
  pub is : own c seen ≡ before ++ noted

-- What holds of every book between its calls. Each pair of its hand is there once, and is live in the state after what it has
-- seen.
pub record IsOrderly (s : Account) : Type 0 where
  pub limits : IsWithinLimits s.profile
  pub caller : s.caller < s.profile.callers
  pub lawful : AreLawful s.profile opening s.seen
  pub recorded : IsRecord s.caller s.seen s.noted
  pub ascending : IsTrue (is_ascending 0 s.held)
  pub below : IsTrue (list_all (λ k. nat_lt k (keeper_count s.profile)) s.held)
  -- the record and what can still be noted, and all that was seen, so that tickets don't wrap
  pub few : length s.noted + s.spare ≤ 2 ^ 58
  pub counted : length s.seen ≤ (s.profile.callers + 1) * 2 ^ 58
  pub owned : (b : Block) → owners s.pairs b ≤ one_for (is_live (state_of s) b)
  pub settled : length s.settled ≡ s.profile.nano
  pub classes : IsTrue (list_all (λ c. nat_le c 16) s.settled)
