-- A register that is opened, with a pass for each caller. This project's own.
use Rattle.std.specs.Prelude.{◌≡◌, ◌⊎◌, ℕ, ◌+◌, ◌≤◌, false, true, Vec, List, [], ◌∷◌, length, replicate, slice_get, Some, None}
use Rattle.std.specs.Vec.{vec_capacity}
use Rattle.std.specs.declared.alloc.Global.{Global}
use Rattle.atomic_table.specs.Seated.{TableId}
use Rattle.mz_base.specs.declared.profile.Profile.{Profile}
use Rattle.mz_base.specs.Site.{Site}
use Rattle.mz_events.specs.declared.entry.Entry.{Entry}
use Rattle.mz_book.specs.declared.pair.Pair.{Pair}
use Rattle.mz_book.specs.Pairs.{hand_among}
use Rattle.mz_book.specs.Account.{Account, hand}
use Rattle.mz_desk.specs.declared.view.View.{View}
use Rattle.mz_desk.specs.Views.{Opened, site_at, pairs_of}
use Rattle.mz_register.specs.declared.pass.Pass.{Pass}
use Rattle.mz_register.specs.Passes.{table_numbers}
use Rattle.mz_register.specs.Accounts.{pass_account}

-- the account of the pass of caller c, of which nothing was asked yet, at a register that was opened with these: it has seen the history, noted
-- nothing, and has the caller's hand
pub record IsFresh (z : TableId) (p : Profile) (x : Site) (history : List Entry) (pairs : List Pair) (c : ℕ) (t : Account) : Type 0 where
  pub name : t.name ≡ table_numbers z
  pub profile : t.profile ≡ p
  pub caller : t.caller ≡ c
  pub site : t.site ≡ x
  pub between : t.between ≡ false
  pub held : t.held ≡ []
  pub seen : t.seen ≡ history
  pub noted : t.noted ≡ []
  pub hand : hand t ≡ hand_among c pairs
  pub spare : t.spare ≡ 0
  pub holds : t.holds ≡ 0
  pub lights : t.lights ≡ []
  pub settled : t.settled ≡ replicate p.nano 0
  pub founds : t.founds ≡ 0
  pub found : t.found ≡ None

-- a pass for each caller of the book, in order, at a register on this table and of this profile
pub record IsOpened {V : Type 0} (s : Account) (z : TableId) (p : Profile) (passes : List (Pass V)) : Type 0 where
  pub profile : p ≡ s.profile
  pub count : length passes ≡ s.profile.callers
  pub each : (c : ℕ) (x : Pass V) → slice_get passes c ≡ Some x → IsFresh z s.profile s.site s.seen s.pairs c (pass_account x)

-- as its account is when it is opened with what the key says
abbrev pub IsNew : {V : Type 0} → TableId → Opened → ℕ → Pass V → Type 0
IsNew z key c x = IsFresh z key.profile (site_at key.space) key.history key.pairs c (pass_account x)

-- seat 0, which gave the numbers below c: it did nothing else, and has the pairs of its own caller and of the numbers that aren't given
pub record IsGiver (key : Opened) (c : ℕ) (v : View) : Type 0 where
  pub live : v.live ≡ true
  pub profile : v.profile ≡ key.profile
  pub space : v.space ≡ key.space
  pub start : v.start ≡ key.history
  pub caller : v.caller ≡ 0
  pub given : v.given ≡ c
  pub held : v.held ≡ []
  pub taking : v.taking ≡ []
  pub seen : v.seen ≡ key.history
  pub noted : v.noted ≡ []
  pub lights : v.lights ≡ []
  pub settled : v.settled ≡ replicate key.profile.nano 0
  pub joined : v.joined ≡ []
  pub pairs : (k : ℕ) → (k ≡ 0) ⊎ (c ≤ k) → pairs_of k v.pairs ≡ pairs_of k key.pairs

-- the pass of caller 0, whose seat gave the numbers below c
pub record IsFirst {V : Type 0} (z : TableId) (key : Opened) (c : ℕ) (x : Pass V) : Type 0 where
  pub table : x.seat.table_id ≡ z
  pub giver : IsGiver key c x.seat.me.0
  pub noted : length x.noted.items ≡ 0
  pub limit : x.limit ≡ 0
  pub holds : x.holds ≡ 0
  pub founds : x.founds ≡ 0
  pub found : x.found ≡ None

-- passes of callers, from c on
abbrev pub AreNew : {V : Type 0} → TableId → Opened → ℕ → List (Pass V) → Type 0
AreNew z key c [] = Unit {0}
AreNew z key c (x ∷ xs) = IsNew z key c x × AreNew z key (c + 1) xs

-- the passes of the callers below c, in order
pub record AreDealt {V : Type 0} (z : TableId) (key : Opened) (c : ℕ) (passes : List (Pass V)) : Type 0 where
  pub first : Pass V
  pub others : List (Pass V)
  pub all : passes ≡ first ∷ others
  pub gives : IsFirst z key c first
  pub new : AreNew z key 1 others
  pub count : length others + 1 ≡ c

-- an empty list with room for n numbers
pub record IsBlank (n : ℕ) (x : Vec ℕ Global) : Type 0 where
  pub empty : x.items ≡ []
  pub room : n ≤ vec_capacity x

abbrev pub AreBlank : ℕ → List (Vec ℕ Global) → Type 0
AreBlank n [] = Unit {0}
AreBlank n (x ∷ xs) = IsBlank n x × AreBlank n xs
