-- What each call of a book needs, and what it does to the book's account. This project's own.
use Rattle.std.specs.Prelude.{◌≡◌, ◌≢◌, ◌⊎◌, ℕ, ◌-◌, ◌%◌, ◌<◌, ◌≤◌, Bool, false, nat_lt, ◌&&◌, ◌||◌, List, [], ◌∷◌, ◌++◌, length, filter, not, ◌==◌, slice_set, Some, None, Result, Ok, Err, IsTrue, if◌then◌else◌}
use Rattle.std.specs.List.{list_all}
use Rattle.mz_base.specs.Space.{block_at, page_of}
use Rattle.mz_base.specs.Lists.{has_block}
use Rattle.mz_events.specs.declared.entry.Entry.{Entry}
use Rattle.mz_events.specs.declared.event.Event.{Event}
use Rattle.mz_events.specs.declared.event.Event.TheVariants.{Take, Back, Move, New, End, Size, Full, Dry, No, Open, Shut}
use Rattle.mz_events.specs.declared.place.Place.TheVariants.{Nano}
use Rattle.mz_events.specs.Places.{is_nano, zone_of, nano_start, Spot}
use Rattle.mz_events.specs.State.{is_open}
use Rattle.mz_events.specs.Effect.{touches, value_after}
use Rattle.mz_events.specs.Rules.{Fits}
use Rattle.mz_events.specs.Holding.{changes_zones, ReadsHeld, AreAway}
use Rattle.mz_book.specs.declared.light.Light.{Light}
use Rattle.mz_book.specs.declared.light.Found.{Found}
use Rattle.mz_book.specs.declared.light.Asked.TheVariants.{Settle, HoldLight}
use Rattle.mz_book.specs.Keepers.{keeper_count, keeper_spot, is_among}
use Rattle.mz_book.specs.Pairs.{pairs_after, is_in_hand}
use Rattle.mz_book.specs.Lights.{slot_size, slots_of, slot_address, slot_number, page_of_block, light_at, add_light, drop_light}
use Rattle.mz_book.specs.Account.{Account, state_of, known, holds_spot, hand, class_of, holds_light, owns_slot, slot_word, entry_at, one_more}

-- a keeper number above each one held
pub record CanHold (s : Account) (k : ℕ) : Type 0 where
  pub exists : k < keeper_count s.profile
  pub above_held : IsTrue (list_all (λ x. nat_lt x k) s.held)

-- The keeper of number k is held, and n is the count of holds now. Entries of others came, which touch no place held before; what
-- the book knew of those stays. No duty stands at k's place.
pub record Gains (s : Account) (k n : ℕ) (t : Account) : Type 0 where
  pub others : List Entry
  pub away : AreAway s.profile s.caller (holds_spot s) others
  pub alone : IsTrue s.between → others ≡ []
  pub after : t ≡ record s { held = s.held ++ k ∷ []; seen = s.seen ++ others; holds = n }
  pub stays : (j : Spot) → IsTrue (holds_spot s j) → known t j ≡ known s j
  pub zones : (z : ℕ) → is_open (state_of t) z ≡ is_open (state_of s) z
  pub calm : (known t (keeper_spot s.profile k)).duty ≡ None

-- the keeper is gained, and the hold is counted
abbrev pub Holds : Account → ℕ → Account → Type 0
Holds s k t = Gains s k (one_more s.holds) t

-- the event makes, ends, resizes or denies a block of nano
abbrev pub is_at_nano : Event → Bool
is_at_nano (New k a n al) = is_nano k
is_at_nano (End k a n) = is_nano k
is_at_nano (Size k a n m) = is_nano k
is_at_nano (No k z a n) = is_nano k
is_at_nano (Take k f w) = false
is_at_nano (Back k f w) = false
is_at_nano (Move f from to) = false
is_at_nano (Full k n al) = false
is_at_nano (Dry z w al) = false
is_at_nano (Open z) = false
is_at_nano (Shut z) = false

-- what the event's rule reads is held, and it is lawful as far as that tells
pub record CanNoteHeld (s : Account) (e : Event) : Type 0 where
  pub held : ReadsHeld s.profile (holds_spot s) e
  pub fits : Fits s.profile (state_of s) s.caller e

-- A new block of nano is a slot of a block that is settled, at its alignment; the slot's light is held, and the pair isn't in the
-- hand.
pub record CanMakeSlot (s : Account) (a n al : ℕ) : Type 0 where
  pub block : ℕ
  pub slot : ℕ
  pub below : block < s.profile.nano
  pub light : IsTrue (holds_light s block slot)
  pub class : 1 ≤ class_of s block
  pub there : slot < slots_of (class_of s block)
  pub size : n ≡ slot_size (class_of s block)
  pub address : a ≡ slot_address s.profile block slot n
  pub some : 1 ≤ al
  pub aligned : a % al ≡ 0
  pub fresh : has_block (hand s) (block_at a n) ≡ false
  pub zone_open : IsTrue (is_open (state_of s) (zone_of Nano))

-- a block of nano ends while its slot's light is held
pub record CanEndSlot (s : Account) (a n : ℕ) : Type 0 where
  pub block : ℕ
  pub below : block < s.profile.nano
  pub page : page_of a ≡ page_of_block s.profile block
  pub light : IsTrue (holds_light s block (slot_number (block_at a n)))
  pub zone_open : IsTrue (is_open (state_of s) (zone_of Nano))

-- a block of nano was taken for one of an open zone that isn't nano's
pub record CanDenySlot (s : Account) (z a n : ℕ) : Type 0 where
  pub page : nano_start s.profile ≤ page_of a
  pub zone : z < s.profile.zones
  pub zone_open : IsTrue (is_open (state_of s) z)
  pub of_another : z ≢ zone_of Nano
  pub nano_open : IsTrue (is_open (state_of s) (zone_of Nano))

-- What is asked of an event at nano: the hand, the light and the settled class tell that it is lawful. No block there is resized.
abbrev pub CanNoteAtNano : Account → Event → Type 0
CanNoteAtNano s (New k a n al) = CanMakeSlot s a n al
CanNoteAtNano s (End k a n) = CanEndSlot s a n
CanNoteAtNano s (No k z a n) = CanDenySlot s z a n
CanNoteAtNano s (Size k a n m) = ⊥
CanNoteAtNano s (Take k f w) = ⊥
CanNoteAtNano s (Back k f w) = ⊥
CanNoteAtNano s (Move f from to) = ⊥
CanNoteAtNano s (Full k n al) = ⊥
CanNoteAtNano s (Dry z w al) = ⊥
CanNoteAtNano s (Open z) = ⊥
CanNoteAtNano s (Shut z) = ⊥

-- There is room for an entry; zones open and shut between rounds alone; a block that ends, changes its size or is denied is in
-- the hand; and the event is lawful, as what is held tells, or at nano the hand, the light and the settled class.
pub record CanNote (s : Account) (e : Event) : Type 0 where
  pub room : 1 ≤ s.spare
  pub between : IsTrue (changes_zones e) → IsTrue s.between
  pub in_hand : IsTrue (is_in_hand (hand s) e)
  pub by_held : is_at_nano e ≡ false → CanNoteHeld s e
  pub at_nano : IsTrue (is_at_nano e) → CanNoteAtNano s e

-- whether the zone y is open after the event, where this says whether it was before
abbrev pub opened_after : Event → ℕ → Bool → Bool
opened_after (Open z) y was = (z == y) || was
opened_after (Shut z) y was = not (y == z) && was
opened_after _ y was = was

-- Entries of others came, which touch no held place, and then the caller's own. The last fields say what the book knows then of
-- the places that it holds, and which zones are open.
pub record Notes (s : Account) (e : Event) (n : ℕ) (t : Account) : Type 0 where
  pub others : List Entry
  pub away : AreAway s.profile s.caller (holds_spot s) others
  pub alone : IsTrue s.between → others ≡ []
  pub ticket : n ≡ length (s.seen ++ others)
  pub after : t ≡ record s {
    seen = (s.seen ++ others) ++ entry_at n s.caller e ∷ [];
    noted = s.noted ++ entry_at n s.caller e ∷ [];
    pairs = pairs_after s.caller s.pairs e;
    spare = s.spare - 1;
  }
  pub learns : (j : Spot) → IsTrue (holds_spot s j) → known t j ≡ (if touches s.profile e j then value_after (state_of s) s.caller e j else known s j)
  pub zones : (y : ℕ) → is_open (state_of t) y ≡ opened_after e y (is_open (state_of s) y)

-- the keeper is held, and no duty stands at its place
pub record CanRelease (s : Account) (k : ℕ) : Type 0 where
  pub held : IsTrue (is_among s.held k)
  pub calm : (known s (keeper_spot s.profile k)).duty ≡ None

-- the numbers without k
abbrev pub without : ℕ → List ℕ → List ℕ
without k held = filter (λ x. not (x == k)) held

pub record Releases (s : Account) (k : ℕ) (t : Account) : Type 0 where
  pub after : t ≡ record s { held = without k s.held }

pub record CanSettle (s : Account) (b class : ℕ) : Type 0 where
  pub below : b < s.profile.nano
  pub least : 1 ≤ class
  pub most : class ≤ 16

-- the block has this class from now on, and had no other
pub record IsSettled (s : Account) (b class : ℕ) (t : Account) : Type 0 where
  pub no_other : (class_of s b ≡ 0) ⊎ (class_of s b ≡ class)
  pub after : t ≡ record s { settled = slice_set s.settled b class }

-- the block has another class, which is counted
pub record IsOtherwise (s : Account) (b class word : ℕ) (t : Account) : Type 0 where
  pub some : 1 ≤ word
  pub most : word ≤ 16
  pub other : word ≢ class
  pub known : (class_of s b ≡ 0) ⊎ (class_of s b ≡ word)
  pub alone : IsTrue s.between → class_of s b ≡ word
  pub after : t ≡ record s { founds = one_more s.founds; found = Some (Settle b class) }

abbrev pub Settles : Account → ℕ → ℕ → Result (Unit {0}) Found → Account → Type 0
Settles s b class (Ok _) t = IsSettled s b class t
Settles s b class (Err f) t = IsOtherwise s b class f.word t

-- The light isn't held. Where the slot is to be idle, it is one of a block that is settled; where it is to be live, its pair is
-- in the hand.
pub record CanHoldLight (s : Account) (b j expect : ℕ) : Type 0 where
  pub below : b < s.profile.nano
  pub kind : expect ≤ 1
  pub free : holds_light s b j ≡ false
  pub settled : expect ≡ 0 → 1 ≤ class_of s b
  pub there : expect ≡ 0 → j < slots_of (class_of s b)
  pub owned : expect ≡ 1 → IsTrue (owns_slot s b j)

-- the word was as expected, and the light is held; a slot that was idle has no pair in the hand
pub record IsLit (s : Account) (b j expect : ℕ) (l : Light) (t : Account) : Type 0 where
  pub light : l ≡ light_at b j
  pub idle : expect ≡ 0 → owns_slot s b j ≡ false
  pub alone : IsTrue s.between → slot_word s b j ≡ expect
  pub after : t ≡ record s { lights = add_light (light_at b j) s.lights }

-- the word was another one, which is counted; so it never is where the slot's pair is in the hand
pub record IsUnlit (s : Account) (b j expect word : ℕ) (t : Account) : Type 0 where
  pub idle : expect ≡ 0
  pub other : word ≢ expect
  pub alone : IsTrue s.between → slot_word s b j ≡ word
  pub after : t ≡ record s { founds = one_more s.founds; found = Some (HoldLight b j expect) }

abbrev pub HoldsLight : Account → ℕ → ℕ → ℕ → Result Light Found → Account → Type 0
HoldsLight s b j expect (Ok l) t = IsLit s b j expect l t
HoldsLight s b j expect (Err f) t = IsUnlit s b j expect f.word t

-- The light is held, and `live` says whether the slot's pair is live: it is in the hand of the caller who holds the light
-- exactly where it is live.
pub record CanReleaseLight (s : Account) (l : Light) (live : Bool) : Type 0 where
  pub held : IsTrue (holds_light s l.block l.slot)
  pub tells : live ≡ owns_slot s l.block l.slot

pub record ReleasesLight (s : Account) (l : Light) (t : Account) : Type 0 where
  pub after : t ≡ record s { lights = drop_light l s.lights }
