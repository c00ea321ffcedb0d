-- All passes come in, and the register is a plain book again. This project's own.
use Rattle.std.specs.Prelude.{◌≡◌, ◌≢◌, ◌⊎◌, ℕ, ◌+◌, ◌<◌, ◌==◌, true, false, Vec, List, [], ◌∷◌, ◌++◌, length, map, slice_get, Option, Some}
use Rattle.std.specs.List.{All}
use Rattle.std.specs.declared.alloc.Global.{Global}
use mathlib.Core.Option as m
use lib.ListN.{get_elem?}
use Rattle.core.specs.Mem.Slots.{slots_items, slots_len, IsFull}
use Rattle.atomic_table.specs.Seated.{TableId}
use Rattle.atomic_table.specs.declared.owned.Closed.{Closed}
use Rattle.atomic_table.specs.declared.shared.Seat.{Seat}
use Rattle.mz_base.specs.declared.profile.Profile.{Profile}
use Rattle.mz_events.specs.declared.entry.Entry.{Entry}
use Rattle.mz_events.specs.State.{opening}
use Rattle.mz_events.specs.Changes.{one_for}
use Rattle.mz_events.specs.History.{AreLawful}
use Rattle.mz_events.specs.Hands.{own}
use Rattle.mz_events.specs.Holding.{changes_zones}
use Rattle.mz_events.specs.Standing.{Keeping}
use Rattle.mz_book.specs.Pairs.{hand_among}
use Rattle.mz_book.specs.Account.{Account, HoldsNothing, hand, class_of}
use Rattle.mz_book.specs.Owners.{pairs_told}
use Rattle.mz_book.specs.Handed.{pairs_since}
use Rattle.mz_book.specs.Plain.{site_of}
use Rattle.mz_desk.specs.declared.view.View.{View}
use Rattle.mz_desk.specs.Views.{Opened}
use Rattle.mz_desk.specs.Rule.{Homes}
use Rattle.mz_desk.specs.Seats.{joined_view}
use Rattle.mz_desk.specs.Ending.{Ended}
use Rattle.mz_register.specs.declared.pass.Pass.{Pass}
use Rattle.mz_register.specs.declared.register.Register.{Register}
use Rattle.mz_register.specs.Passes.{IsOf}
use Rattle.mz_register.specs.Accounts.{pass_account}

-- the account of the plain book with which a register was opened, while nothing more can be noted in it
abbrev pub former : {V : Type 0} → (V → Keeping) → Register V → Account
former keeping r = record {
  name = [];
  profile = r.opening.profile;
  caller = r.rest.caller;
  site = site_of (keeping r.opening.site.value);
  between = true;
  held = [];
  seen = r.opening.history.items;
  noted = own r.rest.caller r.opening.history.items;
  pairs = pairs_told r.opening.quanta.items r.opening.history.items;
  spare = 0;
  holds = r.rest.holds;
  lights = [];
  settled = r.opening.classes.items;
  founds = r.rest.founds;
  found = r.rest.found;
}

-- the account of a book while nothing more can be noted in it
abbrev pub unspared : Account → Account
unspared s = record s { spare = 0 }

-- the account of a pass, which holds nothing
pub record IsIdleOf (z : TableId) (p : Profile) (s : Account) : Type 0 where
  pub of : IsOf z p s
  pub idle : HoldsNothing s

-- how many of these passes are of caller c
abbrev pub passes_of : {V : Type 0} → ℕ → List (Pass V) → ℕ
passes_of c [] = 0
passes_of c (x ∷ xs) = one_for ((pass_account x).caller == c) + passes_of c xs

-- these are all passes of the register on this table, in any order, one for each caller, and none holds anything
pub record AreAll {V : Type 0} (z : TableId) (p : Profile) (passes : List (Pass V)) : Type 0 where
  pub each : (i : ℕ) (x : Pass V) → slice_get passes i ≡ Some x → IsIdleOf z p (pass_account x)
  pub one : (c : ℕ) → c < p.callers → passes_of c passes ≡ 1

-- the pass of caller 0 stands here
pub record IsFirstAt {V : Type 0} (passes : List (Pass V)) (i : ℕ) : Type 0 where
  pub pass : Pass V
  pub at : slice_get passes i ≡ Some pass
  pub caller : (pass_account pass).caller ≡ 0

-- seat 0 after it took in these, one after another
abbrev pub joined_through : View → List View → View
joined_through v [] = v
joined_through v (w ∷ ws) = joined_through (joined_view v w) ws

abbrev pub views_of : {V : Type 0} → List (Pass V) → List View
views_of passes = map (λ x. x.seat.me.0) passes

-- the seat of the pass of caller 0 took in all others; these are the records, its own before those of the others; and this is where that pass
-- had the numbers of its keepers
pub record AreIn {V : Type 0} (z : TableId) (passes : List (Pass V)) (seat : Seat (Option V) View) (noted : List (Vec Entry Global)) (held : Vec ℕ Global) : Type 0 where
  pub first : Pass V
  pub front : List (Pass V)
  pub back : List (Pass V)
  pub all : passes ≡ front ++ first ∷ back
  pub caller : (pass_account first).caller ≡ 0
  pub table : seat.table_id ≡ z
  pub view : seat.me.0 ≡ joined_through first.seat.me.0 (views_of (front ++ back))
  pub records : noted ≡ map (λ x. x.noted) (first ∷ (front ++ back))
  pub held_is : held ≡ first.held

-- The table of a register was closed, all of whose seats were in seat 0: what ended is what its words and places have.
pub record IsClosed {V : Type 0} (keeping : V → Keeping) (key : Opened) (z : TableId) (v : View) (closed : Closed (Option V) Global) : Type 0 where
  pub words : slots_len closed.words ≡ z.words
  pub slots : slots_len closed.slots ≡ z.slots
  pub full : IsFull closed.words × IsFull closed.slots
  pub homes : Homes V
  pub ended : Ended keeping key v (slots_items closed.words) homes
  pub count : length homes ≡ length (slots_items closed.slots)
  pub same : (k : ℕ) (y : Option V) → get_elem? homes k ≡ m.some (m.some y) → get_elem? (slots_items closed.slots) k ≡ m.some y

-- the register and its former book are the same to its passes
pub record IsSame {V : Type 0} (keeping : V → Keeping) (r q : Register V) : Type 0 where
  pub table : q.table.shared.table_id ≡ r.table.shared.table_id
  pub profile : q.opening.profile ≡ r.opening.profile
  pub former : former keeping q ≡ former keeping r

-- the part of a caller, whose pass had this account: what it had seen begins the history, its record is all that it has in it since the
-- opening, its hand is that of its pass, and blocks have the classes that it knew
pub record IsPassOf (s : Account) (later : List Entry) (t : Account) (x : Account) : Type 0 where
  pub rest : List Entry
  pub seen : s.seen ++ later ≡ x.seen ++ rest
  pub noted : x.noted ≡ own x.caller later
  pub hand : hand_among x.caller t.pairs ≡ hand x
  pub settled : (b : ℕ) → class_of x b ≢ 0 → class_of t b ≡ class_of x b

-- a pass knows this class of the block
pub record IsKnownToOne {V : Type 0} (passes : List (Pass V)) (b class : ℕ) : Type 0 where
  pub index : ℕ
  pub pass : Pass V
  pub at : slice_get passes index ≡ Some pass
  pub knows : class_of (pass_account pass) b ≡ class

-- The account of the plain book that passes were handed into, where the former book had s. Its history is the former one followed by all
-- records, by ticket; and of the rest only pairs and classes change. The pairs are those from before with what was noted since. No zone was
-- opened or shut. A class that a block had stays, and each is one that it had or that a pass knew.
pub record HandsIn {V : Type 0} (s : Account) (passes : List (Pass V)) (t : Account) : Type 0 where
  pub later : List Entry
  pub after : t ≡ record s { seen = s.seen ++ later; noted = own s.caller (s.seen ++ later); pairs = t.pairs; settled = t.settled }
  pub lawful : AreLawful s.profile opening (s.seen ++ later)
  pub below : All (λ e. e.caller < s.profile.callers) later
  pub zones : All (λ e. changes_zones e.event ≡ false) later
  pub pairs : t.pairs ≡ pairs_since s.pairs later
  pub classes : (b : ℕ) → class_of s b ≢ 0 → class_of t b ≡ class_of s b
  pub told : (b : ℕ) → class_of t b ≢ 0 → (class_of t b ≡ class_of s b) ⊎ IsKnownToOne passes b (class_of t b)
  pub each : (i : ℕ) (x : Pass V) → slice_get passes i ≡ Some x → IsPassOf s later t (pass_account x)
