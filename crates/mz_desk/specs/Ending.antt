-- A register whose seats are all in. This project's own.
use Rattle.std.specs.Prelude.{◌≡◌, ◌≢◌, ◌⊎◌, ℕ, ◌<◌, ◌≤◌, true, List, [], ◌++◌, length, slice_index, slice_index_or}
use Rattle.std.specs.List.{All}
use Rattle.mz_events.specs.declared.entry.Entry.{Entry}
use Rattle.mz_events.specs.State.{opening}
use Rattle.mz_events.specs.Changes.{one_for}
use Rattle.mz_events.specs.History.{AreLawful, after_all}
use Rattle.mz_events.specs.Hands.{own, hand_through}
use Rattle.mz_events.specs.Standing.{Keeping}
use Rattle.mz_book.specs.Keepers.{keeper_count}
use Rattle.mz_book.specs.Pairs.{hand_among}
use Rattle.mz_book.specs.Lights.{is_slot_live}
use Rattle.mz_book.specs.Rule.{AreInOneHand}
use Rattle.mz_book.specs.Handed.{AreHanded}
use Rattle.mz_desk.specs.declared.view.TakenIn.{TakenIn}
use Rattle.mz_desk.specs.declared.view.View.{View}
use Rattle.mz_desk.specs.Words.{class_word, light_word}
use Rattle.mz_desk.specs.Views.{Opened, took_in, knows_class}
use Rattle.mz_desk.specs.Rule.{all_of, state_after, AreSettled, Homes, AtHome, ClassesKeep}

-- seat 0 holds nothing, and took in the seats of all other callers
pub record TookAll (v : View) : Type 0 where
  pub live : v.live ≡ true
  pub first : v.caller ≡ 0
  pub no_keeper : v.held ≡ []
  pub none_taking : v.taking ≡ []
  pub no_light : v.lights ≡ []
  pub all : (c : ℕ) → 1 ≤ c → c < v.profile.callers → took_in v c ≡ true

-- What a seat had seen begins the history; its record is all that its caller has in it since the opening, and its hand what that makes of
-- the one at the opening; and the classes that it knew are the words.
pub record IsPartOf (key : Opened) (words : List ℕ) (later : List Entry) (x : TakenIn) : Type 0 where
  pub rest : List Entry
  pub seen : all_of key later ≡ x.seen ++ rest
  pub noted : x.noted ≡ own x.caller later
  pub hand : hand_among x.caller x.pairs ≡ hand_through (hand_among x.caller key.pairs) x.noted
  pub settled : AreSettled key.profile words x.settled

-- the seat's own part
abbrev pub part_of : View → TakenIn
part_of v = record { caller = v.caller; seen = v.seen; noted = v.noted; pairs = v.pairs; settled = v.settled }

-- At the opening each live block was in exactly one hand. The history is lawful, the counter is its length, and each entry since the
-- opening is of a caller, and ends, resizes and denies only what is in its hand then; all seats' records are parts of it, and the pairs of
-- those that were taken in are their callers'; all keepers are at home; and slot and class words say what is live; and each class is
-- that of the opening, or one that a seat knew.
pub record Ended {V : Type 0} (keeping : V → Keeping) (key : Opened) (v : View) (words : List ℕ) (homes : Homes V) : Type 0 where
  pub opened : AreInOneHand (after_all key.profile opening key.history) key.pairs
  pub later : List Entry
  pub counts : slice_index words 0 ≡ length (all_of key later)
  pub lawful : AreLawful key.profile opening (all_of key later)
  pub below : All (λ e. e.caller < key.profile.callers) later
  pub handed : AreHanded key.pairs later
  pub mine : IsPartOf key words later (part_of v)
  pub others : All (IsPartOf key words later) v.joined
  pub whose : All (λ x. All (λ h. h.caller ≡ x.caller) x.pairs) v.joined
  pub in_one_hand : AreInOneHand (state_after key later) v.pairs
  pub home : (k : ℕ) → k < keeper_count key.profile → AtHome keeping key (state_after key later) homes k
  pub lights : (b j : ℕ) → b < key.profile.nano → j < 1024 → light_word key.profile words b j ≡ one_for (is_slot_live key.profile (state_after key later) b j)
  pub classes : ClassesKeep key (state_after key later) words
  pub told : (b : ℕ) → b < key.profile.nano → class_word key.profile words b ≢ 0 → (class_word key.profile words b ≡ slice_index_or key.classes b 0) ⊎ (knows_class v b (class_word key.profile words b) ≡ true)
