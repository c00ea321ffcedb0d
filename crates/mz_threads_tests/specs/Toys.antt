-- Keepers by number, of a small profile in which nothing but two pages is free, and what clients do with a book of them.
use Rattle.std.specs.Prelude.{◌≡◌, ℕ, ◌-◌, ◌==◌, ◌<◌, ◌≤◌, true, false, List, [], ◌∷◌, ◌++◌, length, slice_set, Option, Some, None, if◌then◌else◌}
use Rattle.std.specs.List.{All}
use Rattle.std.specs.Option.{MatchOption}
use Rattle.atomic_table.specs.Seated.{TableId}
use Rattle.mz_base.specs.declared.profile.Profile.{Profile}
use Rattle.mz_base.specs.Site.{Site}
use Rattle.mz_events.specs.declared.entry.Entry.{Entry}
use Rattle.mz_events.specs.declared.event.Event.{Event}
use Rattle.mz_events.specs.declared.event.Event.TheVariants.{Full, New, End}
use Rattle.mz_events.specs.declared.place.Place.TheVariants.{Tiny, TinyDepot, Large, Nano}
use Rattle.mz_events.specs.State.{nothing_kept, is_open}
use Rattle.mz_events.specs.Standing.{Keeping, of_regions, of_large, of_pages}
use Rattle.mz_book.specs.declared.light.Asked.{Asked}
use Rattle.mz_book.specs.declared.light.Asked.TheVariants.{Settle, HoldLight}
use Rattle.mz_book.specs.Pairs.{pair_at}
use Rattle.mz_book.specs.Account.{Account, state_of, HoldsNothing, class_of, entry_at, one_more}
use Rattle.mz_book.specs.Plain.{opening_account}
use Rattle.mz_register.specs.declared.pass.Pass.{Pass}
use Rattle.mz_register.specs.declared.register.Register.{Register}
use Rattle.mz_register.specs.Passes.{IsOf}
use Rattle.mz_register.specs.Accounts.{pass_account}

-- two pages of nano behind two others; two callers; zone 0 alone, with one magazine of each range
abbrev pub toy_profile : Profile
toy_profile = record { pages = 4; callers = 2; magazines = 1; nano = 2; most_gen = 1; zones = 1 }

-- the space in which they stand
abbrev pub toy_site : Site
toy_site = record { name = 0; block = 0; origin = 0; size = 0 }

-- what the keeper of this number keeps
abbrev pub toy : ℕ → Keeping
toy n =
    if n == 0 then of_regions (record { depot = false; quantum = 16; pages = 64; room = 0; space = None; kept = nothing_kept })
    else (if n == 1 then of_regions (record { depot = true; quantum = 16; pages = 64; room = 0; space = None; kept = nothing_kept })
    else (if n == 2 then of_regions (record { depot = false; quantum = 512; pages = 512; room = 0; space = None; kept = nothing_kept })
    else (if n == 3 then of_regions (record { depot = true; quantum = 512; pages = 512; room = 0; space = None; kept = nothing_kept })
    else (if n == 4 then of_large (record { room = 0; space = None; kept = nothing_kept })
    else of_pages (record { space = toy_site; free = true ∷ true ∷ []; tiny_blanks = 0; small_blanks = 0 })))))

-- a magazine of tiny, and its depot, have no room for a block of 16 bytes
abbrev pub tiny_full : Event
tiny_full = Full (Tiny 0 0) 16 16

abbrev pub depot_full : Event
depot_full = Full (TinyDepot 0) 16 16

-- the block at the slot 3 of class 4 in nano's block 1, which is page 3, is made, and ends
abbrev pub slot_is_made : Event
slot_is_made = New Nano 49344 64 16

abbrev pub slot_ends : Event
slot_ends = End Nano 49344 64

-- The account of a book with room for r entries of which nothing was asked yet; then, when caller 0 settled block 1, asked in vain
-- for another class of it, and made the block; when the book acts as caller 1, to whom the block was given; and when that caller
-- took the slot for an idle one, in vain, and ended its block.
abbrev pub with_room : ℕ → Account
with_room r = record (opening_account toy_profile toy_site) { spare = r }

abbrev pub with_slot : ℕ → Account
with_slot r = record (with_room r) {
  seen = entry_at 0 0 slot_is_made ∷ [];
  noted = entry_at 0 0 slot_is_made ∷ [];
  pairs = pair_at 0 49344 64 ∷ [];
  settled = 0 ∷ 4 ∷ [];
  founds = 1;
  found = Some (Settle 1 5);
}

abbrev pub with_given_slot : ℕ → Account
with_given_slot r = record (with_slot r) { caller = 1; noted = []; pairs = pair_at 1 49344 64 ∷ [] }

abbrev pub with_ended_slot : ℕ → Account
with_ended_slot r = record (with_given_slot r) {
  seen = entry_at 0 0 slot_is_made ∷ entry_at 1 1 slot_ends ∷ [];
  noted = entry_at 1 1 slot_ends ∷ [];
  pairs = [];
  founds = 2;
  found = Some (HoldLight 1 3 0);
}

-- large of zone 0 has no room for a byte
abbrev pub large_is_full : Event
large_is_full = Full (Large 0) 1 1

-- a book of toys that holds nothing, has room for n entries, and whose zone is open
pub record MayBeFull (s : Account) (n : ℕ) : Type 0 where
  pub profile : s.profile ≡ toy_profile
  pub caller : s.caller < 2
  pub nothing_held : s.held ≡ []
  pub room : n ≤ s.spare
  pub zone_open : is_open (state_of s) 0 ≡ true

-- the entry was noted, and nothing is held
pub record WasFull (s : Account) (ticket : ℕ) (t : Account) : Type 0 where
  pub name : t.name ≡ s.name
  pub caller : t.caller ≡ s.caller
  pub profile : t.profile ≡ s.profile
  pub between : t.between ≡ s.between
  pub nothing_held : t.held ≡ []
  pub lights : t.lights ≡ s.lights
  pub noted : t.noted ≡ s.noted ++ entry_at ticket s.caller large_is_full ∷ []
  pub spare : t.spare ≡ s.spare - 1
  pub zones : is_open (state_of t) 0 ≡ is_open (state_of s) 0

-- n such entries were noted, and nothing is held
pub record WereFull (s : Account) (n : ℕ) (t : Account) : Type 0 where
  pub later : List Entry
  pub noted : t.noted ≡ s.noted ++ later
  pub count : length later ≡ n
  pub each : All (λ e. (e.caller ≡ s.caller) × (e.event ≡ large_is_full)) later
  pub name : t.name ≡ s.name
  pub caller : t.caller ≡ s.caller
  pub profile : t.profile ≡ s.profile
  pub between : t.between ≡ s.between
  pub nothing_held : t.held ≡ []
  pub lights : t.lights ≡ s.lights
  pub spare : t.spare ≡ s.spare - n
  pub zones : is_open (state_of t) 0 ≡ is_open (state_of s) 0

-- a book that holds no light, with the class 1 settled for the first block of nano
pub record MayLight (s : Account) : Type 0 where
  pub some : 1 ≤ s.profile.nano
  pub dark : s.lights ≡ []
  pub settled : class_of s 0 ≡ 1

-- with the class 1 for the first block
abbrev pub with_first : Account → Account
with_first s = record s { settled = slice_set s.settled 0 1 }

-- this was asked in vain, which is counted
abbrev pub in_vain : Asked → Account → Account
in_vain a s = record s { founds = one_more s.founds; found = Some a }

-- Of n tries for a light so many took it, and each of these gave it back: nothing is held that wasn't before, and where all took it, nothing
-- is left of them.
pub record WasLit (s : Account) (n taken : ℕ) (t : Account) : Type 0 where
  pub few : taken ≤ n
  pub same : t ≡ record s { founds = t.founds; found = t.found }
  pub all : taken ≡ n → t ≡ s

-- how often the light was got in 1,000 tries, where the class was settled
abbrev pub HasLit : Account → Option ℕ → Account → Type 0
HasLit s got t = MatchOption got (t ≡ in_vain (Settle 0 1) s) (λ n. WasLit (with_first s) 1000 n t)

-- the profile of a register
abbrev pub profile_of : {V : Type 0} → Register V → Profile
profile_of r = r.opening.profile

-- the pass is one of the register
abbrev pub BelongsTo : {V : Type 0} → Register V → Pass V → Type 0
BelongsTo r x = IsOf r.table.shared.table_id r.opening.profile (pass_account x)

-- the account of the pass of caller c, which holds nothing
pub record IsIdleAs (z : TableId) (p : Profile) (c : ℕ) (s : Account) : Type 0 where
  pub of : IsOf z p s
  pub caller : s.caller ≡ c
  pub idle : HoldsNothing s

-- the pass is that of caller c at the register, and holds nothing
abbrev pub SitsAt : {V : Type 0} → Register V → ℕ → Pass V → Type 0
SitsAt r c x = IsIdleAs r.table.shared.table_id r.opening.profile c (pass_account x)

-- and it has seen nothing yet, and has room for n entries
pub record IsReady {V : Type 0} (n : ℕ) (r : Register V) (c : ℕ) (x : Pass V) : Type 0 where
  pub sits : SitsAt r c x
  pub room : n ≤ (pass_account x).spare
  pub seen : (pass_account x).seen ≡ []

-- both passes of a register of toys
pub record AreReady {V : Type 0} (n : ℕ) (r : Register V) (x y : Pass V) : Type 0 where
  pub profile : r.opening.profile ≡ toy_profile
  pub first : IsReady n r 0 x
  pub second : IsReady n r 1 y

-- the plain book that the register's passes were handed into holds nothing
pub record IsIn {V : Type 0} (r : Register V) (t : Account) : Type 0 where
  pub profile : t.profile ≡ r.opening.profile
  pub idle : HoldsNothing t
