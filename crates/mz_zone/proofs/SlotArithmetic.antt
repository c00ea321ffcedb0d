-- Where the slots of nano lie, in numbers.
use Rattle.std.proofs.Common.{◌≡◌, ℕ, ◌+◌, ◌-◌, ◌*◌, ◌/◌, ◌%◌, ◌<◌, ◌≤◌, arith, ap, sym, subst, ◌∙◌, mul_comm, lit<}
use Rattle.std.proofs.Math.Nat.{mul-div-mul_left, mul-div-le}
use Rattle.std.proofs.lemmas.Nat.{div-mul-add, mod-mul-add, mul-add-lt}
use Rattle.mz_base.specs.declared.range.TheConstants.{PAGE}
use Rattle.mz_base.specs.declared.profile.Profile.{Profile}
use Rattle.mz_base.specs.Space.{block_at, page_of}
use Rattle.mz_events.specs.Places.{nano_start}
use Rattle.mz_book.specs.Lights.{slots_of, slot_address, slot_number, page_of_block}
use Rattle.mz_nano.specs.Rule.{slots}

-- both crates count the slots of a class alike
pub slots_alike : (c : ℕ) → slots_of c ≡ slots c
unfolding slots
slots_alike c = mul-div-mul_left {m = 16} 1024 c (lit< tt)

-- a slot of a page ends within it
slot_end : (j n : ℕ) → 1 ≤ n → j < 16384 / n → j * n + n ≤ 16384
slot_end j n some l =
    let m : j * n + (n - 1) < n * (16384 / n) = mul-add-lt j n (n - 1) (16384 / n) l (omega arith) in
    let d : n * (16384 / n) ≤ 16384 = mul-div-le 16384 n in
    omega arith

-- the slot j of class c, in the page of the block b of nano, begins at a
module _ (p : Profile) (b j c a : ℕ) (some : 1 ≤ c) (there : j < slots c) (at : a ≡ nano_start p * PAGE + b * 16384 + 16 * c * j) where
  turned : 16 * c * j ≡ j * (16 * c)
  turned = mul_comm (16 * c) j

  -- its bytes before it, in the page, and the slot
  inside : j * (16 * c) + 16 * c ≤ 16384
  inside = slot_end j (16 * c) (omega arith) (subst (λ m. j < m) (sym (slots_alike c)) there)

  begins : a ≡ (nano_start p + b) * 16384 + j * (16 * c)
  begins = let t = turned in omega (arith, at)

  pub slot_begins : a ≡ slot_address p b j (16 * c)
  slot_begins = begins

  pub slot_page : page_of a ≡ page_of_block p b
  slot_page = let i = inside in ap (λ x. x / 16384) begins ∙ div-mul-add (nano_start p + b) 16384 (j * (16 * c)) (omega arith)

  in_page : a % 16384 ≡ j * (16 * c)
  in_page = let i = inside in ap (λ x. x % 16384) begins ∙ mod-mul-add (nano_start p + b) 16384 (j * (16 * c)) (omega arith)

  pub slot_is : slot_number (block_at a (16 * c)) ≡ j
  slot_is =
      let e : j * (16 * c) ≡ j * (16 * c) + 0 = omega arith in
      ap (λ x. x / (16 * c)) (in_page ∙ e) ∙ div-mul-add j (16 * c) 0 (omega arith)

  pub slot_aligned : a % 16 ≡ 0
  slot_aligned =
      let t : j * (16 * c) ≡ (j * c) * 16 = omega (arith, mul_comm (j * c) 16, times j c) in
      let e : a ≡ ((nano_start p + b) * 1024 + j * c) * 16 + 0 = omega (arith, begins) in
      ap (λ x. x % 16) e ∙ mod-mul-add ((nano_start p + b) * 1024 + j * c) 16 0 (lit< tt)
    where
      times : (j c : ℕ) → j * (16 * c) ≡ 16 * (j * c)
      times j c = grind arith
