-- Slots by place: where a member is, and what the map of all members answers.
use Rattle.std.proofs.Common.{◌≡◌, ◌≢◌, ℕ, zero, suc, ◌<◌, ◌≤◌, ◌⊎◌, ◌&&◌, ◌||◌, Bool, true, false, Option, Some, None, List, length, get_or, set, if◌then◌else◌, ap, sym, refl, ◌∙◌, inl, inr, arith}
use Rattle.std.proofs.lemmas.Bool.{cases_eq, cases_lt, eq-eqb, ne_eqb, lt-ltb, le-ltb}
use Rattle.std.proofs.lemmas.List.{get_or-set_same, get_or-set_other}
use Rattle.std.proofs.lemmas.List.{length-set}
use Rattle.std.specs.Ordering.{nat_cmp}
use Rattle.std.specs.FinMap as map
use Rattle.std.specs.FinMap.{get-empty}
use Rattle.mz_lists.specs.Numbers.{NumbersView}
use Rattle.mz_lists.specs.Slots.{has_member, length_at, members_below, members_of}
use Rattle.mz_lists.proofs.MapLemmas.{get_inserted, get_not_inserted}

-- a list after one write
pub at_set : (xs ys : List ℕ) (i v : ℕ) → ys ≡ set xs i v → i < length xs → get_or ys i 0 ≡ v
at_set xs ys i v e lt = ap (λ zs. get_or zs i 0) e ∙ get_or-set_same xs i v 0 lt

pub off_set : (xs ys : List ℕ) (i v j : ℕ) → ys ≡ set xs i v → j ≢ i → get_or ys j 0 ≡ get_or xs j 0
off_set xs ys i v j e ne = ap (λ zs. get_or zs j 0) e ∙ get_or-set_other xs i j v 0 ne

pub len_set : (xs ys : List ℕ) (i v : ℕ) → ys ≡ set xs i v → length ys ≡ length xs
len_set xs ys i v e = ap length e ∙ length-set xs i v

pub len_written : (xs ys : NumbersView) (i v : ℕ) → ys ≡ record xs { items = set xs.items i v } → length ys.items ≡ length xs.items
len_written xs ys i v e = len_set xs.items ys.items i v (ap (λ (n : NumbersView). n.items) e)

or_true : (b : Bool) → (b || true) ≡ true
or_true true = refl
or_true false = refl

and_false : (b : Bool) → (b && false) ≡ false
and_false true = refl
and_false false = refl

pub not_both : (b : Bool) → b ≡ true → b ≡ false → ⊥
not_both b p q = cc

module _ (next prev : List ℕ) (q : ℕ) where
  pub member_is : q < length next → (get_or next q 0 ≡ q) ⊎ (get_or next q 0 ≢ get_or prev q 0) → has_member next prev q ≡ true
  unfolding has_member
  member_is lt (inl e) = rw (lt-ltb q (length next) lt, eq-eqb (get_or next q 0) q e) refl
  member_is lt (inr ne) = rw (lt-ltb q (length next) lt, ne_eqb (get_or next q 0) (get_or prev q 0) ne) (or_true _)

  pub member_not : get_or next q 0 ≡ get_or prev q 0 → get_or next q 0 ≢ q → has_member next prev q ≡ false
  unfolding has_member
  member_not e ne = rw (ne_eqb (get_or next q 0) q ne, eq-eqb (get_or next q 0) (get_or prev q 0) e) (and_false _)

  pub none_above : length next ≤ q → has_member next prev q ≡ false
  unfolding has_member
  none_above h = rw (le-ltb q (length next) h) refl

  pub member_below : has_member next prev q ≡ true → q < length next
  member_below m = elim (cases_lt q (length next)) [ inl l ↦ l | inr g ↦ absurd (not_both _ m (none_above g)) ]

pub member_alike : (next prev next' prev' : List ℕ) (q : ℕ) → length next' ≡ length next → get_or next' q 0 ≡ get_or next q 0 → get_or prev' q 0 ≡ get_or prev q 0 → has_member next' prev' q ≡ has_member next prev q
unfolding has_member
member_alike next prev next' prev' q l n p = rw (l, n, p) refl

-- the member at a place, or that there is none
member_of : List ℕ → List ℕ → List ℕ → ℕ → Option ℕ
member_of next prev lengths q = if has_member next prev q then Some (length_at lengths q) else None

member_here : (next prev lengths : List ℕ) (q : ℕ) → has_member next prev q ≡ true → member_of next prev lengths q ≡ Some (length_at lengths q)
unfolding member_of
member_here next prev lengths q m = rw m refl

member_nowhere : (next prev lengths : List ℕ) (q : ℕ) → has_member next prev q ≡ false → member_of next prev lengths q ≡ None
unfolding member_of
member_nowhere next prev lengths q m = rw m refl

module _ (next prev lengths : List ℕ) where
  below : ℕ → map.FinMap nat_cmp ℕ
  below n = members_below next prev lengths n

  step : (n : ℕ) → (b : Bool) → has_member next prev n ≡ b → below (suc n) ≡ (if b then map.insert (below n) n (length_at lengths n) else below n)
  unfolding below members_below
  step n b e = rw e refl

  get_above : (n q : ℕ) → n ≤ q → map.get (below n) q ≡ None
  unfolding below members_below
  get_above zero q h = get-empty nat_cmp q
  get_above (suc n) q h =
      let ne : q ≢ n = omega arith in
      let rest = get_above n q (omega arith) in
      elim (has_member next prev n) as (λ b. has_member next prev n ≡ b → map.get (below (suc n)) q ≡ None) [
        | true ↦ λ e. ap (λ m. map.get m q) (step n true e) ∙ get_not_inserted (below n) n (length_at lengths n) q ne ∙ rest
        | false ↦ λ e. ap (λ m. map.get m q) (step n false e) ∙ rest
      ] refl

  get_below : (n q : ℕ) → q < n → map.get (below n) q ≡ member_of next prev lengths q
  get_below zero q h = absurd (omega arith)
  get_below (suc n) q h = elim (cases_eq q n) [
    | inl same ↦ elim (has_member next prev n) as (λ b. has_member next prev n ≡ b → map.get (below (suc n)) q ≡ member_of next prev lengths q) [
      | true ↦ λ e. ap (λ m. map.get m q) (step n true e) ∙ get_inserted (below n) n (length_at lengths n) q same
          ∙ sym (ap (member_of next prev lengths) same ∙ member_here next prev lengths n e)
      | false ↦ λ e. ap (λ m. map.get m q) (step n false e) ∙ get_above n q (omega arith)
          ∙ sym (ap (member_of next prev lengths) same ∙ member_nowhere next prev lengths n e)
    ] refl
    | inr ne ↦
        let rest = get_below n q (omega arith) in
        elim (has_member next prev n) as (λ b. has_member next prev n ≡ b → map.get (below (suc n)) q ≡ member_of next prev lengths q) [
          | true ↦ λ e. ap (λ m. map.get m q) (step n true e) ∙ get_not_inserted (below n) n (length_at lengths n) q ne ∙ rest
          | false ↦ λ e. ap (λ m. map.get m q) (step n false e) ∙ rest
        ] refl
  ]

  -- what the map answers at a place
  get_is : (q : ℕ) → map.get (members_of next prev lengths) q ≡ member_of next prev lengths q
  unfolding below
  get_is q = elim (cases_lt q (length next)) [
    | inl l ↦ get_below (length next) q l
    | inr g ↦ get_above (length next) q g ∙ sym (member_nowhere next prev lengths q (none_above next prev q g))
  ]

  pub get_member : (q : ℕ) → has_member next prev q ≡ true → map.get (members_of next prev lengths) q ≡ Some (length_at lengths q)
  get_member q m = get_is q ∙ member_here next prev lengths q m

  pub get_no_member : (q : ℕ) → has_member next prev q ≡ false → map.get (members_of next prev lengths) q ≡ None
  get_no_member q m = get_is q ∙ member_nowhere next prev lengths q m

member_of-alike : (next prev lengths next' prev' lengths' : List ℕ) (q : ℕ) → has_member next' prev' q ≡ has_member next prev q → length_at lengths' q ≡ length_at lengths q
    → member_of next' prev' lengths' q ≡ member_of next prev lengths q
unfolding member_of
member_of-alike next prev lengths next' prev' lengths' q m l = rw (m, l) refl

-- two maps answer alike where a place has the same member
pub get_alike : (next prev lengths next' prev' lengths' : List ℕ) (q : ℕ) → has_member next' prev' q ≡ has_member next prev q → length_at lengths' q ≡ length_at lengths q
    → map.get (members_of next' prev' lengths') q ≡ map.get (members_of next prev lengths) q
get_alike next prev lengths next' prev' lengths' q m l =
    get_is next' prev' lengths' q ∙ member_of-alike next prev lengths next' prev' lengths' q m l ∙ sym (get_is next prev lengths q)
