-- What is in a hand: that it is live, and which slots of nano are there, before an event and after it.
use Rattle.std.proofs.Common.{◌≡◌, ℕ, ◌==◌, Bool, true, false, not, ◌<◌, List, [], ◌∷◌, ◌≤◌, ◌/◌, arith, subst, refl, ap, sym, ◌∙◌, eq-eqb, inl, inr}
use Rattle.std.specs.Prelude.{◌&&◌, ◌||◌}
use Rattle.std.proofs.lemmas.Bool.{cases_Bool, eqb-true, and_parts, and_from, false≢true}
use Rattle.mz_base.specs.declared.range.TheConstants.{PAGE}
use Rattle.mz_base.specs.declared.profile.Profile.{Profile}
use Rattle.mz_base.specs.Space.{Block, block_at, same_block, page_of}
use Rattle.mz_base.specs.Lists.{has_block, drop_block}
use Rattle.mz_events.specs.declared.place.Place.TheVariants.{Nano}
use Rattle.mz_events.specs.declared.entry.Entry.{Entry}
use Rattle.mz_events.specs.declared.event.Event.{Event}
use Rattle.mz_events.specs.declared.event.Event.TheVariants.{New, End}
use Rattle.mz_events.specs.Places.{Spot, nano_page}
use Rattle.mz_events.specs.State.{kept_at, opening}
use Rattle.mz_events.specs.Hands.{hand_after, hand_through}
use Rattle.mz_book.specs.declared.pair.Pair.{Pair}
use Rattle.mz_book.specs.HistoryLaws.{HistoryLaws}
use Rattle.mz_book.specs.Pairs.{hand_among, pairs_after}
use Rattle.mz_book.specs.Growth.{pairs_through}
use Rattle.mz_book.specs.Lights.{slot_size, slots_of, slot_address, slot_number, page_of_block, has_slot, light_at, same_light}
use Rattle.mz_book.specs.Account.{Account, IsOrderly, state_of, known, hand, owns_slot, is_live}
use Rattle.mz_book.specs.Calls.{CanMakeSlot, CanEndSlot, Notes}
use Rattle.mz_book.proofs.OwnerLemmas.{same_refl, hand_live}
use Rattle.mz_book.proofs.PairLemmas.{hand_is}
use Rattle.mz_book.proofs.ListLemmas.{not_false, same_bool, find_any, any_from, has_there, there_has, has_dropped}
use Rattle.mz_book.proofs.LiveLemmas.{from_live}
use Rattle.mz_book.proofs.SlotLemmas.{slot_test, any_dropped, any_snoc, new_page, new_number}
use Rattle.mz_book.proofs.NanoLemmas.{hand_at, one_slot}

pub hand_through_all : (c : ℕ) (pairs : List Pair) (es : List Entry) → hand_among c (pairs_through c pairs es) ≡ hand_through (hand_among c pairs) es
hand_through_all c pairs [] = refl
hand_through_all c pairs (e ∷ es) = hand_through_all c (pairs_after c pairs e.event) es ∙ ap (λ bs. hand_through bs es) (hand_is c pairs e.event)

pub in_hand_live : (s : Account) (b : Block) → IsOrderly s → has_block (hand s) b ≡ true → is_live (state_of s) b ≡ true
in_hand_live s b o h = hand_live (state_of s) s.pairs s.caller b (o.owned b) h

pub in_hand_somewhere : (L : HistoryLaws) (s : Account) (b : Block) → IsOrderly s → has_block (hand s) b ≡ true → (j : Spot) × (has_block (known s j).kept.live b ≡ true)
in_hand_somewhere L s b o h = from_live L (state_of s) b (L.once s.profile opening s.seen L.once_first) (in_hand_live s b o h)

-- slots

pub slot_owned : (s : Account) (b : ℕ) (x : Block) → page_of x.first ≡ page_of_block s.profile b → has_block (hand s) x ≡ true → owns_slot s b (slot_number x) ≡ true
slot_owned s b x page h =
    any_from (slot_test s.profile b (slot_number x)) (hand s) x (has_there (hand s) x h)
    (and_from (page_of x.first == page_of_block s.profile b) (slot_number x == slot_number x) (eq-eqb _ _ page) (eq-eqb (slot_number x) (slot_number x) refl))

pub slot_fresh : (s : Account) (b j class n a : ℕ) → 1 ≤ class → j < slots_of class → n ≡ slot_size class → a ≡ slot_address s.profile b j n → owns_slot s b j ≡ false → has_block (hand s) (block_at a n) ≡ false
slot_fresh s b j class n a some there size at none = elim (cases_Bool (has_block (hand s) (block_at a n))) [
  | inl y ↦
      let byte : 1 ≤ n = omega arith in
      let there_n : j < PAGE / n = subst (λ m. j < PAGE / m) (sym size) there in
      let number = new_number s.profile b j n a byte there_n at in
      let mine : owns_slot s b (slot_number (block_at a n)) ≡ true = slot_owned s b (block_at a n) (new_page s.profile b j n a byte there_n at) y in
      absurd (false≢true (sym none ∙ (ap (owns_slot s b) (sym number) ∙ mine)))
  | inr z ↦ z
]

-- a block in the page of nano's block i, there the slot g, is the slot j of the block b where these are the same
test_is : (p : Profile) (b j i g : ℕ) (x : Block) → page_of x.first ≡ page_of_block p i → slot_number x ≡ g → slot_test p b j x ≡ same_light (light_at b j) (light_at i g)
test_is p b j i g x page number = same_bool (slot_test p b j x) (same_light (light_at b j) (light_at i g))
    (λ y.
    let u = and_parts (page_of x.first == page_of_block p b) (slot_number x == j) y in
    let e : page_of_block p i ≡ page_of_block p b = sym page ∙ eqb-true (page_of x.first) (page_of_block p b) u.0 in
    let same : b ≡ i = omega arith in
    and_from (b == i) (j == g) (eq-eqb b i same) (eq-eqb j g (sym (eqb-true (slot_number x) j u.1) ∙ number)))
    (λ y.
    let u = and_parts (b == i) (j == g) y in
    let same = eqb-true b i u.0 in
    let at = eqb-true j g u.1 in
    and_from (page_of x.first == page_of_block p b) (slot_number x == j) (eq-eqb (page_of x.first) (page_of_block p b) (page ∙ ap (page_of_block p) (sym same))) (eq-eqb (slot_number x) j (number ∙ sym at)))

slots_then : (s t : Account) (e : Event) (k : ℕ) → Notes s e k t → (b j : ℕ) → owns_slot t b j ≡ has_slot s.profile (hand_after (hand s) e) b j
slots_then s t e k h b j = ap (λ (u : Account). owns_slot u b j) h.after ∙ ap (λ bs. has_slot s.profile bs b j) (hand_is s.caller s.pairs e)

turn : (a b : Bool) → (a || b) ≡ (b || a)
turn true true = refl
turn true false = refl
turn false true = refl
turn false false = refl

pub slot_made : (s t : Account) (a n al k : ℕ) (may : CanMakeSlot s a n al) → Notes s (New Nano a n al) k t → (b j : ℕ) → owns_slot t b j ≡ (same_light (light_at b j) (light_at may.block may.slot) || owns_slot s b j)
slot_made s t a n al k may h b j =
    let p = s.profile in
    let new = block_at a n in
    let some = may.class in
    let size = may.size in
    let byte : 1 ≤ n = omega arith in
    let there : may.slot < PAGE / n = subst (λ m. may.slot < PAGE / m) (sym size) may.there in
    let is = test_is p b j may.block may.slot new (new_page p may.block may.slot n a byte there may.address) (new_number p may.block may.slot n a byte there may.address) in
    slots_then s t (New Nano a n al) k h b j ∙ (any_snoc (slot_test p b j) (hand s) new ∙ (turn (owns_slot s b j) (slot_test p b j new) ∙ ap (λ q. q || owns_slot s b j) is))

module _ (L : HistoryLaws) (s : Account) (a n : ℕ) (o : IsOrderly s) (mine : has_block (hand s) (block_at a n) ≡ true) (b j : ℕ) where
  abbrev old : Block
  old = block_at a n

  -- what is in the hand in the page of b is live there
  at_page : (x : Block) → has_block (hand s) x ≡ true → page_of x.first ≡ page_of_block s.profile b → has_block (kept_at (state_of s) (nano_page (page_of_block s.profile b))).live x ≡ true
  at_page x h page = subst (λ i. has_block (kept_at (state_of s) (nano_page i)).live x ≡ true) page (hand_at L s.profile s.seen o.lawful s.pairs s.caller x (o.owned x) h (omega arith))

  gone : slot_test s.profile b j old ≡ true → has_slot s.profile (drop_block old (hand s)) b j ≡ false
  gone y = elim (cases_Bool (has_slot s.profile (drop_block old (hand s)) b j)) [
    | inl h ↦
        let i = page_of_block s.profile b in
        let r = find_any (slot_test s.profile b j) (drop_block old (hand s)) h in
        let x = r.0 in
        let u = and_parts (page_of a == i) (slot_number old == j) y in
        let v = and_parts (page_of x.first == i) (slot_number x == j) r.1.1 in
        let w = and_parts (not (same_block x old)) (has_block (hand s) x) (sym (has_dropped old x (hand s)) ∙ there_has (drop_block old (hand s)) x r.1.0) in
        let xl = at_page x w.1 (eqb-true (page_of x.first) i v.0) in
        let ol = at_page old mine (eqb-true (page_of a) i u.0) in
        let is : x ≡ old = one_slot L s.profile s.seen o.lawful i x old xl ol (eqb-true (slot_number x) j v.1 ∙ sym (eqb-true (slot_number old) j u.1)) in
        absurd (false≢true (sym (not_false (same_block x old) w.0) ∙ (ap (λ z. same_block z old) is ∙ same_refl old)))
    | inr z ↦ z
  ]

  dropped : has_slot s.profile (drop_block old (hand s)) b j ≡ (not (slot_test s.profile b j old) && owns_slot s b j)
  dropped = elim (cases_Bool (slot_test s.profile b j old)) [
    | inl y ↦ gone y ∙ sym (ap (λ q. not q && owns_slot s b j) y)
    | inr z ↦ any_dropped (slot_test s.profile b j) old (hand s) z ∙ sym (ap (λ q. not q && owns_slot s b j) z)
  ]

pub slot_ended : (L : HistoryLaws) (s t : Account) (a n k : ℕ) (may : CanEndSlot s a n) → IsOrderly s → has_block (hand s) (block_at a n) ≡ true → Notes s (End Nano a n) k t → (b j : ℕ) → owns_slot t b j ≡ (not (same_light (light_at b j) (light_at may.block (slot_number (block_at a n)))) && owns_slot s b j)
slot_ended L s t a n k may o mine h b j =
    let is = test_is s.profile b j may.block (slot_number (block_at a n)) (block_at a n) may.page refl in
    slots_then s t (End Nano a n) k h b j ∙ (dropped L s a n o mine b j ∙ ap (λ q. not q && owns_slot s b j) is)
