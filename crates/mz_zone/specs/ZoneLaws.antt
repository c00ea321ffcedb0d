-- The laws on which the calls of a zone rest, together.
use Rattle.std.specs.Prelude.{◌≡◌, ℕ, ◌+◌, ◌<◌, ◌≤◌, true, false, not, ◌&&◌, ◌||◌, List, [], ◌∷◌, ◌++◌, length, Option, Some, slice_get, IsTrue, Contains, ◌↔◌}
use Rattle.std.specs.List.{list_all}
use Rattle.mz_base.specs.declared.profile.Profile.{Profile}
use Rattle.mz_base.specs.Space.{Block, Run, block_at, page_of}
use Rattle.mz_events.specs.Room.{best_fit}
use Rattle.mz_events.specs.BestFit.{IsBestFit}
use Rattle.std.specs.Option.{option_to_list}
use Rattle.mz_base.specs.Lists.{has_block, drop_block}
use Rattle.mz_events.specs.Hands.{hand_through}
use Rattle.mz_book.specs.declared.pair.Pair.{Pair}
use Rattle.mz_book.specs.Pairs.{hand_among}
use Rattle.mz_base.specs.Sizes.{route_of, good_size_of}
use Rattle.mz_base.specs.Laws.{IsLeastSize}
use Rattle.mz_events.specs.declared.event.Event.{Event}
use Rattle.mz_events.specs.declared.event.Event.TheVariants.{New, End}
use Rattle.mz_events.specs.declared.entry.Entry.{Entry}
use Rattle.mz_events.specs.declared.place.Place.TheVariants.{Nano}
use Rattle.mz_events.specs.Places.{Spot}
use Rattle.mz_events.specs.State.{State, opening, value_at, is_open}
use Rattle.mz_events.specs.Effect.{touches, after, value_after}
use Rattle.mz_events.specs.History.{AreLawful, after_all}
use Rattle.mz_events.specs.Holding.{changes_zones}
use Rattle.mz_events.specs.Separation.{IsSeparate, IsAscending}
use Rattle.mz_record.specs.Bytes.{Bytes, fresh, kept_in_place, is_shown_as}
use Rattle.mz_record.specs.Moments.{state_at}
use Rattle.mz_record.specs.Served.{Request, IsServed, Serves, IsUndisturbed, is_dry, blocks_made}
use Rattle.mz_record.specs.Dropped.{IsDropped}
use Rattle.mz_book.specs.declared.light.Light.{Light}
use Rattle.mz_book.specs.Account.{Account, IsOrderly, entry_at, hand, known, owns_slot}
use Rattle.mz_book.specs.Calls.{CanMakeSlot, CanEndSlot, CanNote, Notes}
use Rattle.mz_book.specs.Growth.{Adds, GrowsHolding, pairs_through}
use Rattle.mz_book.specs.Lights.{slot_size, slots_of, slot_address, slot_number, page_of_block, light_at, same_light, has_light, add_light, drop_light}

pub record ZoneLaws : Type 0 where
  pub noted : (s t : Account) (e : Event) (n : ℕ) → CanNote s e → changes_zones e ≡ false → Notes s e n t → GrowsHolding s (entry_at n s.caller e ∷ []) 0 t
  pub nothing : (s : Account) → GrowsHolding s [] 0 s
  pub added : (s t u : Account) (xs ys : List Entry) (m n : ℕ) → Adds s xs m t → Adds t ys n u → Adds s (xs ++ ys) (m + n) u
  pub slot_owned : (s : Account) (b : ℕ) (x : Block) → page_of x.first ≡ page_of_block s.profile b → IsTrue (has_block (hand s) x) → IsTrue (owns_slot s b (slot_number x))
  pub slot_fresh : (s : Account) (b j class n a : ℕ) → 1 ≤ class → j < slots_of class → n ≡ slot_size class → a ≡ slot_address s.profile b j n → owns_slot s b j ≡ false → has_block (hand s) (block_at a n) ≡ false
  pub slot_made : (s t : Account) (a n al k : ℕ) (may : CanMakeSlot s a n al) → Notes s (New Nano a n al) k t → (b j : ℕ) → owns_slot t b j ≡ (same_light (light_at b j) (light_at may.block may.slot) || owns_slot s b j)
  pub slot_ended : (s t : Account) (a n k : ℕ) (may : CanEndSlot s a n) → IsOrderly s → IsTrue (has_block (hand s) (block_at a n)) → Notes s (End Nano a n) k t → (b j : ℕ) → owns_slot t b j ≡ (not (same_light (light_at b j) (light_at may.block (slot_number (block_at a n)))) && owns_slot s b j)
  pub light_taken : (lights : List Light) (l m : Light) → has_light (add_light l lights) m ≡ (same_light m l || has_light lights m)
  pub light_back : (lights : List Light) (l : Light) → has_light lights l ≡ false → drop_light l (add_light l lights) ≡ lights
  pub leaves : (p : Profile) (s : State) (c : ℕ) (e : Event) (j : Spot) → touches p e j ≡ true → value_at (after p s c e) j ≡ value_after s c e j
  pub index : (p : Profile) (s : State) (es : List Entry) → AreLawful p s es → (i : ℕ) (e : Entry) → slice_get es i ≡ Some e → e.ticket ≡ s.entries + i
  pub calm : (p : Profile) (h : List Entry) (c : ℕ) (es : List Entry) → IsTrue (list_all (λ e. not (is_dry e.event)) es) → IsUndisturbed p h c es
  pub state_later : (p : Profile) (h later : List Entry) (n : ℕ) → AreLawful p opening (h ++ later) → n ≤ length h → state_at p (h ++ later) n ≡ state_at p h n
  pub served_later : (p : Profile) (h later : List Entry) (q : Request) (es : List Entry) (got : Option Block) → AreLawful p opening (h ++ later) → ((e : Entry) → Contains es e → Contains h e) → Serves p h q es got → Serves p (h ++ later) q es got
  pub dropped_later : (p : Profile) (h later : List Entry) (b : Block) (es : List Entry) → AreLawful p opening (h ++ later) → ((e : Entry) → Contains es e → Contains h e) → IsDropped p h b es → IsDropped p (h ++ later) b es
  pub same_size : (bs : Bytes) → kept_in_place (length bs) bs ≡ bs
  pub unknown : (shown : List ℕ) → is_shown_as (fresh (length shown)) shown ≡ true
  pub good_size : (n : ℕ) → IsLeastSize (route_of n) n (good_size_of n)
  pub best : (cached : List Run) (w : ℕ) (r : Run) → (best_fit cached w ≡ Some r) ↔ IsBestFit cached w r
  pub through : (c : ℕ) (pairs : List Pair) (es : List Entry) → hand_among c (pairs_through c pairs es) ≡ hand_through (hand_among c pairs) es
  pub zero_open : (p : Profile) (entries : List Entry) → AreLawful p opening entries → IsTrue (is_open (after_all p opening entries) 0)
  pub hand_served : (p : Profile) (h : List Entry) (q : Request) (es : List Entry) (got : Option Block) (hand : List Block) → IsServed p h q es got → hand_through hand es ≡ hand ++ option_to_list got
  pub blocks_served : (p : Profile) (h : List Entry) (q : Request) (es : List Entry) (got : Option Block) → IsServed p h q es got → blocks_made es ≡ option_to_list got
  pub blocks_dropped : (p : Profile) (h : List Entry) (b : Block) (es : List Entry) → IsDropped p h b es → blocks_made es ≡ []
  pub hand_dropped : (p : Profile) (h : List Entry) (b : Block) (es : List Entry) (hand : List Block) → IsDropped p h b es → hand_through hand es ≡ drop_block b hand
  pub separate : (p : Profile) (es : List Entry) → AreLawful p opening es → IsSeparate p (after_all p opening es)
  pub ascending : (p : Profile) (es : List Entry) → AreLawful p opening es → IsAscending p (after_all p opening es)
  pub somewhere : (s : Account) (b : Block) → IsOrderly s → IsTrue (has_block (hand s) b) → (j : Spot) × IsTrue (has_block (known s j).kept.live b)
