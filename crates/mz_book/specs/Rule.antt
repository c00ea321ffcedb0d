-- What a plain book keeps between its calls: keepers at home stand for the last state, hands are just the live blocks, and slot
-- and class words say what is live. This project's own.
use Rattle.std.specs.Prelude.{◌≡◌, ℕ, ◌+◌, ◌*◌, ◌<◌, ◌≤◌, ◌^◌, ◌==◌, Bool, true, false, nat_lt, ◌&&◌, ◌||◌, not, List, length, slice_index_or, Option, Some, None, is_none, IsTrue, if◌then◌else◌}
use Rattle.std.specs.Coded.{Coded-set, coded_ℕ, coded_bool, ×_prop, →_prop, Π_prop}
use Rattle.mz_base.specs.declared.profile.Profile.{Profile}
use Rattle.mz_base.specs.Site.{Site}
use Rattle.mz_base.specs.Space.{Block}
use Rattle.mz_base.specs.Lists.{has_block}
use Rattle.mz_events.specs.Places.{nano_page}
use Rattle.mz_events.specs.State.{State, value_at, kept_at}
use Rattle.mz_events.specs.Changes.{one_for}
use Rattle.mz_events.specs.Standing.{Keeping, Stands, stands_once}
use Rattle.mz_book.specs.declared.pair.Pair.{Pair}
use Rattle.mz_book.specs.Keepers.{keeper_count, place_at, keeper_spot, is_among}
use Rattle.mz_book.specs.Pairs.{hand_among, owners}
use Rattle.mz_book.specs.Lights.{slot_size, page_of_block, has_slot, is_slot_live}
use Rattle.mz_book.specs.Account.{Account, is_live, state_of, holds_light, owns_slot}

-- there is a value, and P holds of it
abbrev pub IsThere : {V : Type 0} → (V → Type 0) → Option V → Type 0
IsThere P None = ⊥
IsThere P (Some v) = P v

-- A keeper that isn't held is at home: it stands for its place, at which no duty stands. One that is held is out.
abbrev pub IsHome : {V : Type 0} → (V → Keeping) → Site → Profile → State → List ℕ → List (Option V) → ℕ → Type 0
IsHome keeping x p s held ks k = (is_among held k ≡ false → IsThere (λ v. Stands (keeping v) x p (place_at p k) (value_at s (keeper_spot p k)).kept) (slice_index_or ks k None) × ((is_none (value_at s (keeper_spot p k)).duty) ≡ true))
    × (is_among held k ≡ true → is_none (slice_index_or ks k None) ≡ true)

-- and so it is with each keeper
abbrev pub AreHome : {V : Type 0} → (V → Keeping) → Site → Profile → State → List ℕ → List (Option V) → Type 0
AreHome keeping x p s held ks = (k : ℕ) → k < keeper_count p → IsHome keeping x p s held ks k

-- each live block is in exactly one hand, and hands hold live blocks alone
abbrev pub AreInOneHand : State → List Pair → Type 0
AreInOneHand s pairs = (b : Block) → owners pairs b ≡ one_for (is_live s b)

-- the size of each live block of nano is that of its block's class
abbrev pub AreOfClass : Profile → State → List ℕ → Type 0
AreOfClass p s classes = (b : ℕ) (x : Block) → b < p.nano → has_block (kept_at s (nano_page (page_of_block p b))).live x ≡ true → x.size ≡ slot_size (slice_index_or classes b 0)

-- A slot word is 0 or 1, as its pair is live or not; or it is 2 and the caller, who holds the light and owns the pair where that
-- is live.
abbrev pub is_word : ℕ → Bool → Bool → ℕ → Bool
is_word c live owned w = if nat_lt w 2 then w == one_for live else (w == 2 + c) && (not live || owned)

-- and so is each slot word
abbrev pub AreWords : Profile → State → ℕ → List Pair → List ℕ → Type 0
AreWords p s c pairs words = (b j : ℕ) → b < p.nano → j < 1024 → is_word c (is_slot_live p s b j) (has_slot p (hand_among c pairs) b j) (slice_index_or words (b * 1024 + j) 0) ≡ true

-- Of a plain book: its history, with what can still be noted, is bounded; each live block is in exactly one hand, and hands hold
-- live blocks alone; the size of each live block of nano is that of its class; and a light whose pair is live is held only by the
-- caller in whose hand the pair is.
pub record KeepsRule (s : Account) : Type 0 where
  pub few : length s.seen + s.spare ≤ 2 ^ 58
  pub in_one_hand : AreInOneHand (state_of s) s.pairs
  pub of_class : AreOfClass s.profile (state_of s) s.settled
  pub lit_is_owned : (b j : ℕ) → b < s.profile.nano → j < 1024 → IsTrue (holds_light s b j) → IsTrue (is_slot_live s.profile (state_of s) b j) → IsTrue (owns_slot s b j)

-- Each holds in one way at most, so that a ghost field can store it.

there_once : {V : Type 0} (P : V → Type 0) → ((v : V) → IsProp (P v)) → (o : Option V) → IsProp (IsThere P o)
there_once P h None = λ x y. absurd x
there_once P h (Some v) = h v

pub home_once : {V : Type 0} (keeping : V → Keeping) (x : Site) (p : Profile) (s : State) (held : List ℕ) (ks : List (Option V)) → IsProp (AreHome keeping x p s held ks)
home_once keeping x p s held ks =
    Π_prop (λ k. →_prop (×_prop (→_prop (×_prop (there_once (λ v. Stands (keeping v) x p (place_at p k) (value_at s (keeper_spot p k)).kept) (λ v. stands_once (keeping v) x p (place_at p k) (value_at s (keeper_spot p k)).kept) (slice_index_or ks k None)) (Coded-set coded_bool _ _)))
    (→_prop (Coded-set coded_bool _ _))))

pub in_one_hand_once : (s : State) (pairs : List Pair) → IsProp (AreInOneHand s pairs)
in_one_hand_once s pairs = Π_prop (λ b. Coded-set coded_ℕ _ _)

pub of_class_once : (p : Profile) (s : State) (classes : List ℕ) → IsProp (AreOfClass p s classes)
of_class_once p s classes = Π_prop (λ b. Π_prop (λ x. →_prop (→_prop (Coded-set coded_ℕ _ _))))

pub words_once : (p : Profile) (s : State) (c : ℕ) (pairs : List Pair) (words : List ℕ) → IsProp (AreWords p s c pairs words)
words_once p s c pairs words = Π_prop (λ b. Π_prop (λ j. →_prop (→_prop (Coded-set coded_bool _ _))))
