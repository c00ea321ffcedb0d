-- Where the blocks that a session keeps lie: no two of them begin at one address, or have one slot of nano.
use Rattle.std.proofs.Common.{◌≡◌, ℕ, ◌+◌, ◌-◌, ◌*◌, ◌/◌, ◌<◌, ◌≤◌, ◌==◌, true, false, List, ◌∷◌, Option, Some, None, length, refl, ap, sym, subst, ◌∙◌, inl, inr, arith, eq-eqb}
use Rattle.std.specs.Prelude.{nat_le, IsTrue, Contains}
use Rattle.std.proofs.Math.Nat.{mul-div-le}
use Rattle.std.proofs.lemmas.Nat.{mul-add-lt}
use Rattle.std.proofs.lemmas.Bool.{cases_Bool, and_parts, and_from, false≢true, eqb-true}
use Rattle.std.proofs.lemmas.Bool.Decides.{nat_tests}
use Rattle.mz_base.specs.declared.profile.Profile.{Profile}
use Rattle.mz_base.specs.declared.range.TheConstants.{PAGE}
use Rattle.mz_base.specs.Space.{Block, block_end, run_end, blocks_apart, same_block}
use Rattle.mz_base.specs.Lists.{has_block}
use Rattle.mz_events.specs.Places.{Spot, keeper_at, nano_page, place_of, is_nano, nano_start}
use Rattle.mz_events.specs.State.{State, kept_at}
use Rattle.mz_events.specs.Separation.{IsSeparate, LiesAtHome}
use Rattle.mz_book.specs.Account.{Account, IsOrderly, state_of, hand}
use Rattle.mz_nano.specs.declared.view.Held.{Held}
use Rattle.mz_nano.specs.Lists.{is_at}
use Rattle.mz_nano.specs.Rule.{slots}
use Rattle.mz_zone.specs.Blocks.{BlockView, IsAtSlot, IsAtSlotIf, block_of}
use Rattle.mz_zone.specs.Calling.{Seated, IsSeatedAt, HasSlot}
use Rattle.mz_session.specs.Names.{name_from}
use Rattle.mz_session.specs.SessionLaws.{SessionLaws}
use Rattle.mz_session.specs.Sessions.{SessionView, views_kept, Keeps}
use Rattle.mz_session.proofs.CountLemmas.{same-self, counted-there}
use Rattle.mz_session.proofs.KeepLemmas.{either-true, view-counted, there-first, kept-named, kept-loose, kept-beside}
use Rattle.mz_session.proofs.NameLemmas.{from-names}

-- blocks that have bytes and begin at one address aren't apart
not-apart : (b c : Block) → 1 ≤ b.size → 1 ≤ c.size → b.first ≡ c.first → blocks_apart b c ≡ true → ⊥
not-apart b c some_b some_c first apart = elim (either-true (nat_le (block_end b) c.first) (nat_le (block_end c) b.first) apart) [
  | inl here ↦ let low : block_end b ≤ c.first = grind (arith, nat_tests, here) in omega (arith, low, some_b, first)
  | inr there ↦ let low : block_end c ≤ b.first = grind (arith, nat_tests, there) in omega (arith, low, some_c, first)
]

-- a slot begins within its page
slot-low : (c j : ℕ) → 1 ≤ c → j < slots c → 16 * c * j < 16384
unfolding slots
slot-low c j some there =
    let m : j * c + (c - 1) < c * (1024 / c) = mul-add-lt j c (c - 1) (1024 / c) there (omega arith) in
    let d : c * (1024 / c) ≤ 1024 = mul-div-le 1024 c in
    let t : 16 * c * j ≡ 16 * (j * c) = grind arith in
    omega (arith, m, d, t)

-- the block of a slot is live on the page of nano in which the slot lies
on-page : (s : State) (p : Profile) (j : Spot) (x : BlockView) (h : Held) → IsSeparate p s → IsAtSlot x h → x.base ≡ nano_start p * PAGE
    → IsTrue (has_block (kept_at s j).live (block_of x)) → LiesAtHome p s j (block_of x) → j ≡ nano_page (nano_start p + h.block)
on-page s p (keeper_at k) x h separate at base live home =
    let low = separate.below_nano (keeper_at k) home.0 home.1 in
    let parts = and_parts (nat_le (home.0.first * PAGE) x.span.first) (nat_le (block_end (block_of x)) (run_end home.0 * PAGE)) home.2 in
    let end : block_end (block_of x) ≤ run_end home.0 * PAGE = grind (arith, nat_tests, parts.1) in
    let first = at.first in
    let size = at.size in
    let some = at.class_.0 in
    absurd (omega (arith, low, end, first, size, some, base))
on-page s p (nano_page i) x h separate at base live home =
    let parts = and_parts (nat_le (i * PAGE) x.span.first) (nat_le (block_end (block_of x)) ((i + 1) * PAGE)) home.2 in
    let start : i * PAGE ≤ x.span.first = grind (arith, nat_tests, parts.0) in
    let end : block_end (block_of x) ≤ (i + 1) * PAGE = grind (arith, nat_tests, parts.1) in
    let first = at.first in
    let size = at.size in
    let some = at.class_.0 in
    let low = slot-low h.class h.slot some at.slot in
    ap nano_page (omega (arith, start, end, first, size, some, low, base))

-- a slot is one of the nano that is there, which begins with the profile's nano pages
base-of : (n : Option Seated) (base : ℕ) (h : Held) (s : Account) → IsSeatedAt s n → HasSlot n base (Some h) → base ≡ nano_start s.profile * PAGE
base-of None base h s seated has = absurd has
base-of (Some x) base h s seated has = has.0 ∙ seated.first

module _ (L : SessionLaws) (s : SessionView) (loose : List BlockView) (kept : Keeps s loose) (orderly : IsOrderly s.at.book) where
  -- a block that is kept is in the caller's hand
  pub in-hand : (x : BlockView) → Contains (views_kept s loose) x → has_block (hand s.at.book) (block_of x) ≡ true
  in-hand x there =
      let some = view-counted (views_kept s loose) x there in
      let same = kept.in_hand (block_of x) in
      counted-there (block_of x) (hand s.at.book) (omega (arith, some, same))

  -- and so it is live somewhere
  lives : (x : BlockView) → Contains (views_kept s loose) x → (j : Spot) × IsTrue (has_block (kept_at (state_of s.at.book) j).live (block_of x))
  lives x there = L.somewhere s.at.book (block_of x) orderly (in-hand x there)

  -- two blocks that begin at one address are one
  pub one-start : (x y : BlockView) → Contains (views_kept s loose) x → Contains (views_kept s loose) y → x.span.first ≡ y.span.first → same_block (block_of x) (block_of y) ≡ true
  one-start x y x_there y_there first =
      let i = lives x x_there in
      let j = lives y y_there in
      let ascending = L.ascending s.at.book.profile s.at.book.seen orderly.lawful in
      elim ((L.separate s.at.book.profile s.at.book.seen orderly.lawful).blocks_are_apart i.0 j.0 (block_of x) (block_of y) i.1 j.1) [
        | inl same ↦ subst (λ c. same_block (block_of x) c ≡ true) same.1 (same-self (block_of x))
        | inr apart ↦ absurd (not-apart (block_of x) (block_of y) (ascending.sizes i.0 (block_of x) i.1) (ascending.sizes j.0 (block_of y) j.1) first apart)
      ]

  at-slot : (x : BlockView) (h : Held) → Contains (views_kept s loose) x → x.slot ≡ Some h → IsAtSlot x h
  at-slot x h there is = subst (IsAtSlotIf x) is (kept.ours x there).place

  page-of : (x : BlockView) (h : Held) (there : Contains (views_kept s loose) x) → x.slot ≡ Some h → (lives x there).0 ≡ nano_page (nano_start s.at.book.profile + h.block)
  page-of x h there is =
      let i = lives x there in
      let separate = L.separate s.at.book.profile s.at.book.seen orderly.lawful in
      on-page (state_of s.at.book) s.at.book.profile i.0 x h separate (at-slot x h there is)
      (base-of s.at.nano x.base h s.at.book kept.seated (subst (HasSlot s.at.nano x.base) is (kept.ours x there).slot))
      i.1 (separate.at_home i.0 (block_of x) i.1)

  -- two blocks that have one slot are one
  pub one-slot :
      (x y : BlockView) (h k : Held) → Contains (views_kept s loose) x → Contains (views_kept s loose) y → x.slot ≡ Some h → y.slot ≡ Some k
      → k.block ≡ h.block → k.slot ≡ h.slot → same_block (block_of x) (block_of y) ≡ true
  one-slot x y h k x_there y_there is_x is_y block slot =
      let i = lives x x_there in
      let j = lives y y_there in
      let at_i = page-of x h x_there is_x in
      let at_j : j.0 ≡ i.0 = page-of y k y_there is_y ∙ ap (λ n. nano_page (nano_start s.at.book.profile + n)) block ∙ sym at_i in
      let form = L.forms s.at.book.profile s.at.book.seen i.0 (block_of x) orderly.lawful i.1 in
      let size : length y.span.bytes ≡ length x.span.bytes = form.alike (ap (λ q. is_nano (place_of q)) at_i) (block_of y) (subst (λ q. has_block (kept_at (state_of s.at.book) q).live (block_of y) ≡ true) at_j j.1) in
      let at_x = at-slot x h x_there is_x in
      let at_y = at-slot y k y_there is_y in
      let size_x = at_x.size in
      let size_y = at_y.size in
      let class_ : k.class ≡ h.class = omega (arith, size, size_x, size_y) in
      let off : 16 * k.class * k.slot ≡ 16 * h.class * h.slot = ap (λ n. 16 * n * k.slot) class_ ∙ ap (λ n. 16 * h.class * n) slot in
      let base_x = base-of s.at.nano x.base h s.at.book kept.seated (subst (HasSlot s.at.nano x.base) is_x (kept.ours x x_there).slot) in
      let base_y = base-of s.at.nano y.base k s.at.book kept.seated (subst (HasSlot s.at.nano y.base) is_y (kept.ours y y_there).slot) in
      let first_x = at_x.first in
      let first_y = at_y.first in
      let first : x.span.first ≡ y.span.first = omega (arith, first_x, first_y, base_x, base_y, block, off) in
      and_from (x.span.first == y.span.first) (length x.span.bytes == length y.span.bytes) (eq-eqb x.span.first y.span.first first)
      (eq-eqb (length x.span.bytes) (length y.span.bytes) (sym size))

  -- the slot of another block is another one
  pub other-slot :
      (x y : BlockView) (h k : Held) → Contains (views_kept s loose) x → Contains (views_kept s loose) y → x.slot ≡ Some h → y.slot ≡ Some k
      → same_block (block_of x) (block_of y) ≡ false → is_at h.block h.slot k ≡ false
  other-slot x y h k x_there y_there is_x is_y other = elim (cases_Bool (is_at h.block h.slot k)) [
    | inl same ↦
        let parts = and_parts (k.block == h.block) (k.slot == h.slot) same in
        absurd (false≢true (sym other ∙ one-slot x y h k x_there y_there is_x is_y (eqb-true k.block h.block parts.0) (eqb-true k.slot h.slot parts.1)))
    | inr apart ↦ apart
  ]

none-or : {A : Type 0} (o : Option A) → ((n : A) → o ≡ Some n → ⊥) → o ≡ None
none-or None never = refl
none-or (Some n) never = absurd (never n refl)

-- no name has a block that begins where one does that is kept besides
pub no-start : (L : SessionLaws) (s : SessionView) (x : BlockView) (loose : List BlockView) → Keeps s (x ∷ loose) → IsOrderly s.at.book → name_from s.blocks x.span.first ≡ None
no-start L s x loose kept orderly = none-or (name_from s.blocks x.span.first) (λ n is.
    let found = from-names s.blocks x.span.first n is in
    let named = kept-named s (x ∷ loose) found.0 found.1 in
    let same = one-start L s (x ∷ loose) kept orderly found.0 x named (kept-loose s (x ∷ loose) x (there-first x loose)) found.2 in
    false≢true (sym (kept-beside s x loose kept found.0 (kept-named s loose found.0 found.1)) ∙ same))
