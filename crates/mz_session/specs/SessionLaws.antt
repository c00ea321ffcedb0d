-- The laws on which a session rests, together.
use Rattle.std.specs.Prelude.{◌≡◌, ℕ, ◌+◌, true, false, List, [], ◌∷◌, ◌++◌, length, take, Option, Some, slice_get, IsTrue, Contains, ◌↔◌}
use Rattle.std.specs.Option.{option_to_list}
use Rattle.mz_base.specs.declared.profile.Profile.{Profile}
use Rattle.mz_base.specs.Space.{Block}
use Rattle.mz_base.specs.Lists.{has_block, drop_block}
use Rattle.mz_events.specs.declared.entry.Entry.{Entry}
use Rattle.mz_events.specs.declared.event.Event.{Event}
use Rattle.mz_events.specs.Places.{Spot, same_spot}
use Rattle.mz_events.specs.State.{State, opening, value_at, kept_at}
use Rattle.mz_events.specs.Effect.{touches, value_after, after}
use Rattle.mz_events.specs.History.{IsLawful, AreLawful, after_all}
use Rattle.mz_events.specs.Fitting.{FitsByEvent}
use Rattle.mz_events.specs.Sameness.{IsOnce, IsBySpot}
use Rattle.mz_events.specs.Separation.{IsSeparate, IsAscending}
use Rattle.mz_events.specs.Forms.{HasForm}
use Rattle.mz_events.specs.Hands.{hand_through}
use Rattle.mz_record.specs.Bytes.{fresh, is_shown_as}
use Rattle.mz_record.specs.Moments.{state_at}
use Rattle.mz_record.specs.Served.{Request, IsServed, Serves, first_made, blocks_made}
use Rattle.mz_record.specs.Dropped.{IsDropped}
use Rattle.mz_book.specs.declared.pair.Pair.{Pair}
use Rattle.mz_book.specs.Account.{Account, IsOrderly, known, hand}
use Rattle.mz_book.specs.Pairs.{hand_among}
use Rattle.mz_book.specs.Growth.{pairs_through}

pub record SessionLaws : Type 0 where
  pub through : (c : ℕ) (pairs : List Pair) (es : List Entry) → hand_among c (pairs_through c pairs es) ≡ hand_through (hand_among c pairs) es
  pub served : (p : Profile) (h : List Entry) (q : Request) (es : List Entry) (got : Option Block) (hand : List Block) → IsServed p h q es got → hand_through hand es ≡ hand ++ option_to_list got
  pub later_served :
      (p : Profile) (h later : List Entry) (q : Request) (es : List Entry) (got : Option Block)
      → AreLawful p opening (h ++ later) → ((e : Entry) → Contains es e → Contains h e) → Serves p h q es got → Serves p (h ++ later) q es got
  pub later_dropped :
      (p : Profile) (h later : List Entry) (b : Block) (es : List Entry)
      → AreLawful p opening (h ++ later) → ((e : Entry) → Contains es e → Contains h e) → IsDropped p h b es → IsDropped p (h ++ later) b es
  pub blocks_served : (p : Profile) (h : List Entry) (q : Request) (es : List Entry) (got : Option Block) → IsServed p h q es got → blocks_made es ≡ option_to_list got
  pub dropped : (p : Profile) (h : List Entry) (b : Block) (es : List Entry) (hand : List Block) → IsDropped p h b es → hand_through hand es ≡ drop_block b hand
  pub made : (p : Profile) (h : List Entry) (q : Request) (es : List Entry) (got : Option Block) → IsServed p h q es got → got ≡ first_made es
  pub unknown : (shown : List ℕ) → is_shown_as (fresh (length shown)) shown ≡ true
  pub joined : (p : Profile) (s : State) (xs ys : List Entry) → AreLawful p s (xs ++ ys) ↔ (AreLawful p s xs × AreLawful p (after_all p s xs) ys)
  pub one : (p : Profile) (s : State) (e : Entry) → AreLawful p s (e ∷ []) ↔ IsLawful p s e
  pub fits : (p : Profile) (s : State) (c : ℕ) → FitsByEvent p s c
  pub separate : (p : Profile) (es : List Entry) → AreLawful p opening es → IsSeparate p (after_all p opening es)
  pub index : (p : Profile) (s : State) (es : List Entry) → AreLawful p s es → (i : ℕ) (e : Entry) → slice_get es i ≡ Some e → e.ticket ≡ s.entries + i
  pub ascending : (p : Profile) (es : List Entry) → AreLawful p opening es → IsAscending p (after_all p opening es)
  pub forms : (p : Profile) (es : List Entry) (j : Spot) (b : Block) → AreLawful p opening es → IsTrue (has_block (kept_at (after_all p opening es) j).live b) → HasForm (after_all p opening es) j b
  pub somewhere : (s : Account) (b : Block) → IsOrderly s → IsTrue (has_block (hand s) b) → (j : Spot) × IsTrue (has_block (known s j).kept.live b)
  pub touched : (p : Profile) (s : State) (c : ℕ) (e : Event) (j : Spot) → touches p e j ≡ true → value_at (after p s c e) j ≡ value_after s c e j
  pub untouched : (p : Profile) (s : State) (c : ℕ) (e : Event) (j : Spot) → touches p e j ≡ false → value_at (after p s c e) j ≡ value_at s j
  pub spots : (j k : Spot) → (same_spot j k ≡ true) ↔ (j ≡ k)
  pub once_first : IsOnce opening
  pub once : (p : Profile) (s : State) (es : List Entry) → IsOnce s → IsOnce (after_all p s es)
  pub by_spot : (s : State) → IsOnce s → IsBySpot s
  pub moment : (p : Profile) (h : List Entry) (n : ℕ) → AreLawful p opening h → state_at p h n ≡ after_all p opening (take n h)
