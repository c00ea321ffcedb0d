-- What holds of hands, lights and classes before an event of a caller, and after it, whatever lights others hold. This project's own.
use Rattle.std.specs.Prelude.{◌≡◌, ℕ, ◌<◌, false, nat_le, IsTrue}
use Rattle.std.specs.List.{list_all}
use Rattle.mz_base.specs.Limits.{IsWithinLimits}
use Rattle.mz_events.specs.declared.event.Event.{Event}
use Rattle.mz_events.specs.declared.place.Place.{Place}
use Rattle.mz_events.specs.Places.{keeper_at}
use Rattle.mz_events.specs.State.{State, opening}
use Rattle.mz_events.specs.Effect.{touches, after}
use Rattle.mz_events.specs.Rules.{Fits}
use Rattle.mz_events.specs.History.{AreLawful}
use Rattle.mz_book.specs.Keepers.{keeper_count, keeper_spot, is_among}
use Rattle.mz_book.specs.Pairs.{hand_among, pairs_after}
use Rattle.mz_book.specs.Lights.{has_slot, is_slot_live}
use Rattle.mz_book.specs.Account.{Account, state_of, holds_spot, holds_light, owns_slot}
use Rattle.mz_book.specs.Rule.{AreInOneHand, AreOfClass}

-- each live block is in one hand, and hands hold live blocks alone; live blocks of nano are of their class; and a light that the caller
-- holds is one of a slot, whose pair it owns where that is live
pub record HandsAreKept (s : Account) : Type 0 where
  pub limits : IsWithinLimits s.profile
  pub caller : s.caller < s.profile.callers
  pub lawful : AreLawful s.profile opening s.seen
  pub classes : IsTrue (list_all (λ c. nat_le c 16) s.settled)
  pub in_one_hand : AreInOneHand (state_of s) s.pairs
  pub of_class : AreOfClass s.profile (state_of s) s.settled
  pub of_slots : (b j : ℕ) → IsTrue (holds_light s b j) → (b < s.profile.nano) × (j < 1024)
  pub lit_is_owned : (b j : ℕ) → IsTrue (holds_light s b j) → IsTrue (is_slot_live s.profile (state_of s) b j) → IsTrue (owns_slot s b j)

-- the state after an event of the account's caller
abbrev pub state_with : Account → Event → State
state_with s e = after s.profile (state_of s) s.caller e

-- The event is lawful, and it all holds after it. Only at slots whose lights the caller holds does it change what is live, and it touches no place
-- of a keeper that isn't held.
pub record NoteIsKept (s : Account) (e : Event) : Type 0 where
  pub fits : Fits s.profile (state_of s) s.caller e
  pub in_one_hand : AreInOneHand (state_with s e) (pairs_after s.caller s.pairs e)
  pub of_class : AreOfClass s.profile (state_with s e) s.settled
  pub dark : (b j : ℕ) → b < s.profile.nano → j < 1024 → holds_light s b j ≡ false → is_slot_live s.profile (state_with s e) b j ≡ is_slot_live s.profile (state_of s) b j
  pub lit_is_owned : (b j : ℕ) → IsTrue (holds_light s b j) → IsTrue (is_slot_live s.profile (state_with s e) b j) → IsTrue (has_slot s.profile (hand_among s.caller (pairs_after s.caller s.pairs e)) b j)
  pub elsewhere : (q : Place) → holds_spot s (keeper_at q) ≡ false → touches s.profile e (keeper_at q) ≡ false
  pub far : (k : ℕ) → k < keeper_count s.profile → is_among s.held k ≡ false → touches s.profile e (keeper_spot s.profile k) ≡ false
