-- The register rule: what holds of the words, the keepers at home and the views of a register between any two steps. This project's
-- own.
use Rattle.std.specs.Prelude.{◌≡◌, ◌≢◌, ◌⊎◌, ℕ, ◌+◌, ◌^◌, ◌<◌, ◌≤◌, ◌==◌, true, false, List, [], ◌++◌, length, drop, slice_index, slice_index_or, Option, Some, None, IsTrue}
use Rattle.std.specs.List.{All, list_any}
use mathlib.Core.Option as m
use lib.ListN.{get_elem?}
use Rattle.atomic_table.specs.Table as table
use Rattle.mz_base.specs.declared.profile.Profile.{Profile}
use Rattle.mz_base.specs.Limits.{IsWithinLimits}
use Rattle.mz_base.specs.Space.{Block}
use Rattle.mz_base.specs.Lists.{has_block}
use Rattle.mz_events.specs.declared.entry.Entry.{Entry}
use Rattle.mz_events.specs.Places.{nano_page}
use Rattle.mz_events.specs.State.{State, value_at, kept_at, opening}
use Rattle.mz_events.specs.Changes.{one_for}
use Rattle.mz_events.specs.Effect.{touches}
use Rattle.mz_events.specs.History.{AreLawful, after_all}
use Rattle.mz_events.specs.Hands.{own, hand_through}
use Rattle.mz_events.specs.Holding.{changes_zones, AreAway}
use Rattle.mz_events.specs.Standing.{Keeping, Stands}
use Rattle.mz_book.specs.declared.pair.Pair.{Pair}
use Rattle.mz_book.specs.Keepers.{keeper_count, place_at, keeper_spot, is_among, is_held}
use Rattle.mz_book.specs.Pairs.{hand_among, owners}
use Rattle.mz_book.specs.Lights.{slot_size, page_of_block, has_slot, is_slot_live, has_light, light_at}
use Rattle.mz_book.specs.Account.{is_live}
use Rattle.mz_book.specs.Rule.{AreInOneHand}
use Rattle.mz_book.specs.Handed.{AreHanded}
use Rattle.mz_desk.specs.declared.view.Since.{Since}
use Rattle.mz_desk.specs.declared.view.TakenIn.{TakenIn}
use Rattle.mz_desk.specs.declared.view.View.{View}
use Rattle.mz_desk.specs.Words.{lock_word, class_word, light_word, word_count}
use Rattle.mz_desk.specs.Views.{Opened, site_at, has_lock, took_in, knows_class, all_pairs, pairs_of}

-- the opening history, and then the entries of all seats
abbrev pub all_of : Opened → List Entry → List Entry
all_of key later = key.history ++ later

-- the state that they leave
abbrev pub state_after : Opened → List Entry → State
state_after key later = after_all key.profile opening (all_of key later)

-- each class of these that isn't 0 is the word of its block
abbrev pub AreSettled : Profile → List ℕ → List ℕ → Type 0
AreSettled p words classes = (b : ℕ) → b < p.nano → slice_index_or classes b 0 ≢ 0 → class_word p words b ≡ slice_index_or classes b 0

abbrev pub Homes : Type 0 → Type 0
Homes V = List (m.Option (Option V))

-- the keeper k is at home, stands for its place, and no duty stands there
pub record AtHome {V : Type 0} (keeping : V → Keeping) (key : Opened) (st : State) (homes : Homes V) (k : ℕ) : Type 0 where
  pub keeper : V
  pub here : get_elem? homes k ≡ m.some (m.some (Some keeper))
  pub stands : Stands (keeping keeper) (site_at key.space) key.profile (place_at key.profile k) (value_at st (keeper_spot key.profile k)).kept
  pub calm : (value_at st (keeper_spot key.profile k)).duty ≡ None

-- an entry of another caller than i doesn't touch the place of the keeper k
abbrev pub LeavesAlone : Profile → ℕ → ℕ → Entry → Type 0
LeavesAlone p i k e = e.caller ≢ i → touches p e.event (keeper_spot p k) ≡ false

-- since that entry of the history none of another caller touched the keeper's place
pub record IsAloneSince (p : Profile) (i : ℕ) (history : List Entry) (v : View) (x : Since) : Type 0 where
  pub there : IsTrue (has_lock v x.keeper)
  pub within : x.from ≤ length history
  pub alone : All (LeavesAlone p i x.keeper) (drop x.from history)

-- the pair is one of the seat's own caller, or of seat 0 and of a number that isn't given yet, or of a seat that it took in
abbrev pub IsWhose : ℕ → View → Pair → Type 0
IsWhose i v h = (h.caller ≡ i) ⊎ (((i ≡ 0) × (v.given ≤ h.caller)) ⊎ IsTrue (took_in v h.caller))

-- What holds of the view of the seat i, where it isn't spent. The history is what the seat has seen and some rest, in which nobody
-- else touched a place that it holds; its record is all that its caller has in it; the words of its locks and lights show it; and
-- the classes that it knows, and those that seats that it took in knew, are the words. Its hand is what its record makes of its caller's hand at the opening. As long as it took in no other, each of its pairs is there once, and live by what it has seen.
pub record SeatKeeps {V : Type 0} (keeping : V → Keeping) (key : Opened) (later : List Entry) (words : List ℕ) (homes : Homes V) (i : ℕ) (v : View) : Type 0 where
  pub profile : v.profile ≡ key.profile
  pub space : v.space ≡ key.space
  pub start : v.start ≡ key.history
  pub dealt : v.dealt ≡ key.pairs
  pub caller : v.caller ≡ i
  pub rest : List Entry
  pub seen : all_of key later ≡ v.seen ++ rest
  pub away : AreAway key.profile i (is_held key.profile v.held) rest
  pub noted : v.noted ≡ own i later
  pub held : (k : ℕ) → is_among v.held k ≡ true → (k < keeper_count key.profile) × (lock_word words k ≡ i + 1)
  pub taking : (k : ℕ) → is_among v.taking k ≡ true → (k < keeper_count key.profile) × (lock_word words k ≡ i + 1) × AtHome keeping key (state_after key later) homes k
  pub since : All (IsAloneSince key.profile i (all_of key later) v) v.since
  pub timed : (k : ℕ) → has_lock v k ≡ true → list_any (λ x. x.keeper == k) v.since ≡ true
  pub owned : v.joined ≡ [] → (b : Block) → owners v.pairs b ≤ one_for (is_live (after_all key.profile opening v.seen) b)
  pub whose : All (IsWhose i v) v.pairs
  pub hand : hand_among i v.pairs ≡ hand_through (hand_among i key.pairs) v.noted
  pub lights : (b j : ℕ) → has_light v.lights (light_at b j) ≡ true → (b < key.profile.nano) × (j < 1024) × (light_word key.profile words b j ≡ 2 + i)
  pub sized : length v.settled ≡ key.profile.nano
  pub settled : (b : ℕ) → slice_index_or v.settled b 0 ≢ 0 → class_word key.profile words b ≡ slice_index_or v.settled b 0
  pub known : All (λ x. AreSettled key.profile words x.settled) v.joined

-- the seat whose number the lock word of k shows
pub record LockOwner (words : List ℕ) (views : List View) (k : ℕ) : Type 0 where
  pub seat : ℕ
  pub view : View
  pub at : get_elem? views seat ≡ m.some view
  pub live : view.live ≡ true
  pub is : lock_word words k ≡ seat + 1
  pub has_it : has_lock view k ≡ true

-- the seat whose number the word of a slot shows: where the slot's pair is live, it is in its hand
pub record LightOwner (p : Profile) (st : State) (words : List ℕ) (views : List View) (b j : ℕ) : Type 0 where
  pub seat : ℕ
  pub view : View
  pub at : get_elem? views seat ≡ m.some view
  pub live : view.live ≡ true
  pub is : light_word p words b j ≡ 2 + seat
  pub has_it : has_light view.lights (light_at b j) ≡ true
  pub mine : is_slot_live p st b j ≡ true → has_slot p (hand_among seat view.pairs) b j ≡ true

-- the seat c is spent
pub record IsSpent (views : List View) (c : ℕ) : Type 0 where
  pub view : View
  pub at : get_elem? views c ≡ m.some view
  pub spent : view.live ≡ false

-- A seat that was taken in: the history is what it had seen and some rest, its record is all that its caller has in it, its pairs
-- are its caller's, and its hand is what that makes of its caller's hand at the opening.
pub record IsTaken (key : Opened) (views : List View) (later : List Entry) (x : TakenIn) : Type 0 where
  pub rest : List Entry
  pub seen : all_of key later ≡ x.seen ++ rest
  pub noted : x.noted ≡ own x.caller later
  pub whose : All (λ h. h.caller ≡ x.caller) x.pairs
  pub hand : hand_among x.caller x.pairs ≡ hand_through (hand_among x.caller key.pairs) x.noted
  pub spent : IsSpent views x.caller

-- of what the register was opened with
pub record OpeningKeeps (key : Opened) : Type 0 where
  pub limits : IsWithinLimits key.profile
  pub short : length key.history ≤ 2 ^ 58
  pub in_one_hand : AreInOneHand (after_all key.profile opening key.history) key.pairs

-- Part 1 and 2: the counter is the length of the history, which is lawful; no caller has more than 2^58 entries in it since the opening; each entry since then is
-- of a seat, and ends, resizes and denies only what is in its caller's hand then; and none opens or shuts a zone.
pub record HistoryKeeps (key : Opened) (counter seats : ℕ) (later : List Entry) : Type 0 where
  pub counts : counter ≡ length (all_of key later)
  pub lawful : AreLawful key.profile opening (all_of key later)
  pub bounded : (c : ℕ) → length (own c later) ≤ 2 ^ 58
  pub below : All (λ e. e.caller < seats) later
  pub no_zone : All (λ e. changes_zones e.event ≡ false) later
  pub handed : AreHanded key.pairs later

-- Part 3: where the lock word of k is 0 the keeper is at home; else a seat has it.
pub record LocksKeep {V : Type 0} (keeping : V → Keeping) (key : Opened) (st : State) (words : List ℕ) (homes : Homes V) (views : List View) : Type 0 where
  pub free : (k : ℕ) → k < keeper_count key.profile → lock_word words k ≡ 0 → AtHome keeping key st homes k
  pub owned : (k : ℕ) → k < keeper_count key.profile → lock_word words k ≢ 0 → LockOwner words views k

-- Part 5: each live block is in exactly one hand, and hands hold live blocks alone. Seat 0 gives the numbers, and has the pairs of
-- those that aren't given yet, as they were at the opening; a seat that is spent has none.
pub record HandsKeep (key : Opened) (st : State) (later : List Entry) (views : List View) : Type 0 where
  pub in_one_hand : AreInOneHand st (all_pairs views)
  pub gives : (v : View) → get_elem? views 0 ≡ m.some v → v.live ≡ true → v.given ≡ length views
  pub undealt : (v : View) (c : ℕ) → get_elem? views 0 ≡ m.some v → v.live ≡ true → v.given ≤ c → pairs_of c v.pairs ≡ pairs_of c key.pairs
  pub taken : (i : ℕ) (v : View) → get_elem? views i ≡ m.some v → v.live ≡ true → All (IsTaken key views later) v.joined
  pub spent : (i : ℕ) (v : View) → get_elem? views i ≡ m.some v → v.live ≡ false → v.pairs ≡ []

-- Part 6: the word of a slot is 1 where its pair is live and 0 where it isn't; or a seat holds its light.
pub record LightsKeep (p : Profile) (st : State) (words : List ℕ) (views : List View) : Type 0 where
  pub each : (b j : ℕ) → b < p.nano → j < 1024 → (light_word p words b j ≡ one_for (is_slot_live p st b j)) ⊎ LightOwner p st words views b j

-- Part 7: class words are at most 16, and the size of each live block of nano is that of its class; a class that isn't 0 at the opening
-- stays.
pub record ClassesKeep (key : Opened) (st : State) (words : List ℕ) : Type 0 where
  pub most : (b : ℕ) → b < key.profile.nano → class_word key.profile words b ≤ 16
  pub of_class : (b : ℕ) (x : Block) → b < key.profile.nano → has_block (kept_at st (nano_page (page_of_block key.profile b))).live x ≡ true → x.size ≡ slot_size (class_word key.profile words b)
  pub stays : AreSettled key.profile words key.classes

-- a seat that isn't spent knows this class of the block
pub record IsKnown (views : List View) (b class : ℕ) : Type 0 where
  pub seat : ℕ
  pub view : View
  pub at : get_elem? views seat ≡ m.some view
  pub live : view.live ≡ true
  pub knows : knows_class view b class ≡ true

-- and a class that isn't 0 is that of the opening, or a seat knows it
abbrev pub AreTold : Opened → List ℕ → List View → Type 0
AreTold key words views = (b : ℕ) → b < key.profile.nano → class_word key.profile words b ≢ 0 → (class_word key.profile words b ≡ slice_index_or key.classes b 0) ⊎ IsKnown views b (class_word key.profile words b)

-- all seven parts, for the entries that came since the opening
pub record Kept {V : Type 0} (keeping : V → Keeping) (key : Opened) (s : table.State (Option V) View) (later : List Entry) : Type 0 where
  pub words : length s.words ≡ word_count key.profile
  pub homes : length s.homes ≡ keeper_count key.profile
  pub few : length s.views ≤ key.profile.callers
  pub opened : OpeningKeeps key
  pub history : HistoryKeeps key (slice_index s.words 0) (length s.views) later
  pub locks : LocksKeep keeping key (state_after key later) s.words s.homes s.views
  pub seats : (i : ℕ) (v : View) → get_elem? s.views i ≡ m.some v → v.live ≡ true → SeatKeeps keeping key later s.words s.homes i v
  pub hands : HandsKeep key (state_after key later) later s.views
  pub lights : LightsKeep key.profile (state_after key later) s.words s.views
  pub classes : ClassesKeep key (state_after key later) s.words
  pub told : AreTold key s.words s.views

abbrev pub Rule : {V : Type 0} → (V → Keeping) → Opened → table.State (Option V) View → Type 0
Rule keeping key s = (later : List Entry) × Kept keeping key s later
