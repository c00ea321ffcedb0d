-- The laws of histories, hands and numbers on which the register rule stands, together.
use Rattle.std.specs.Prelude.{◌≡◌, ℕ, ◌+◌, ◌<◌, ◌≤◌, Bool, false, ◌&&◌, ◌||◌, not, List, [], ◌∷◌, ◌++◌, length, IsTrue, ◌↔◌}
use Rattle.mz_base.specs.declared.profile.Profile.{Profile}
use Rattle.mz_events.specs.declared.entry.Entry.{Entry}
use Rattle.mz_events.specs.declared.event.Event.{Event}
use Rattle.mz_events.specs.Places.{Spot}
use Rattle.mz_base.specs.Space.{Block}
use Rattle.mz_base.specs.Lists.{has_block}
use Rattle.mz_events.specs.State.{State, opening, value_at, kept_at}
use Rattle.mz_events.specs.Effect.{touches, after}
use Rattle.mz_events.specs.History.{IsLawful, AreLawful, after_entry, after_all}
use Rattle.mz_events.specs.Hands.{own, hand_after, hand_through}
use Rattle.mz_events.specs.Holding.{AreAway, IsKnownThrough}
use Rattle.mz_book.specs.declared.light.Light.{Light}
use Rattle.mz_book.specs.declared.pair.Pair.{Pair}
use Rattle.mz_book.specs.Keepers.{keeper_count, keeper_spot, is_among, is_held}
use Rattle.mz_book.specs.Pairs.{hand_among, pairs_after, is_in_hand}
use Rattle.mz_book.specs.Lights.{has_slot, is_slot_live, same_light, has_light, add_light, drop_light}
use Rattle.mz_book.specs.Account.{Account}
use Rattle.mz_book.specs.Calls.{CanNote}
use Rattle.mz_book.specs.Noting.{HandsAreKept, NoteIsKept}
use Rattle.mz_book.specs.Rule.{AreInOneHand}
use Rattle.mz_book.specs.Handed.{pairs_since, AreHanded}

pub record DeskLaws : Type 0 where
  pub untouched : (p : Profile) (s : State) (c : ℕ) (e : Event) (j : Spot) → touches p e j ≡ false → value_at (after p s c e) j ≡ value_at s j
  pub one : (p : Profile) (s : State) (e : Entry) → AreLawful p s (e ∷ []) ↔ IsLawful p s e
  pub joined : (p : Profile) (s : State) (xs ys : List Entry) → AreLawful p s (xs ++ ys) ↔ (AreLawful p s xs × AreLawful p (after_all p s xs) ys)
  pub after_one : (p : Profile) (s : State) (e : Entry) → after_all p s (e ∷ []) ≡ after_entry p s e
  pub after_joined : (p : Profile) (s : State) (xs ys : List Entry) → after_all p s (xs ++ ys) ≡ after_all p (after_all p s xs) ys
  pub counted : (p : Profile) (s : State) (xs : List Entry) → (after_all p s xs).entries ≡ s.entries + length xs
  pub own_joined : (c : ℕ) (xs ys : List Entry) → own c (xs ++ ys) ≡ own c xs ++ own c ys
  pub hand_joined : (hand : List Block) (xs ys : List Entry) → hand_through hand (xs ++ ys) ≡ hand_through (hand_through hand xs) ys
  pub hand_own : (c : ℕ) (pairs : List Pair) (e : Event) → hand_among c (pairs_after c pairs e) ≡ hand_after (hand_among c pairs) e
  pub hand_since : (c : ℕ) (pairs : List Pair) (es : List Entry) → hand_among c (pairs_since pairs es) ≡ hand_through (hand_among c pairs) (own c es)
  pub handed_more : (pairs : List Pair) (es : List Entry) (e : Entry) → AreHanded pairs es → IsTrue (is_in_hand (hand_among e.caller (pairs_since pairs es)) e.event) → AreHanded pairs (es ++ e ∷ [])
  pub known_through : (p : Profile) (c : ℕ) (held : Spot → Bool) (s : State) (es : List Entry) → AreAway p c held es → IsKnownThrough p c held s es
  pub held_at : (p : Profile) (held : List ℕ) (k : ℕ) → k < keeper_count p → is_held p held (keeper_spot p k) ≡ is_among held k
  pub sizes : (p : Profile) (es : List Entry) (j : Spot) (x : Block) → AreLawful p opening es → IsTrue (has_block (kept_at (after_all p opening es) j).live x) → 1 ≤ x.size
  pub noted : (s : Account) (e : Event) → HandsAreKept s → CanNote s e → NoteIsKept s e
  pub slot_live : (p : Profile) (es : List Entry) (pairs : List Pair) (c b j : ℕ) → AreLawful p opening es → AreInOneHand (after_all p opening es) pairs → IsTrue (has_slot p (hand_among c pairs) b j) → IsTrue (is_slot_live p (after_all p opening es) b j)
  pub slot_once : (p : Profile) (es : List Entry) (pairs : List Pair) (c d b j : ℕ) → AreLawful p opening es → AreInOneHand (after_all p opening es) pairs → IsTrue (has_slot p (hand_among c pairs) b j) → IsTrue (has_slot p (hand_among d pairs) b j) → c ≡ d
  pub light_taken : (lights : List Light) (l m : Light) → has_light (add_light l lights) m ≡ (same_light m l || has_light lights m)
  pub light_given : (lights : List Light) (l m : Light) → has_light (drop_light l lights) m ≡ (not (same_light m l) && has_light lights m)
