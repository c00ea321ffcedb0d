-- The index of a list of slots.
use Rattle.std.proofs.Common.{◌≡◌, ℕ, ◌+◌, ◌-◌, ◌<◌, ◌≤◌, Bool, true, false, cond, List, [], ◌∷◌, ◌++◌, length, take, get_or, suc, zero, refl, sym, ap, ◌∙◌, subst, inl, inr, arith, add-one, Option, Some, None}
use Rattle.std.specs.Prelude.{slice_set, ◌==◌}
use Rattle.std.specs.Option.{option_map}
use Rattle.std.specs.Ordering.{nat_cmp, ordering_then, is_eq, ordering_reverse}
use Rattle.std.specs.declared.cmp.Ordering.{Ordering}
use Rattle.std.specs.declared.cmp.Ordering.TheVariants.{Less, Equal, Greater}
use Rattle.std.specs.BTreeMap.{BTreeMap, get, is_at}
use Rattle.std.proofs.lemmas.Bool.{cases_Bool, cond-true, cond-false, false≢true, or_from}
use Rattle.std.proofs.lemmas.Cmp.{nat_cmp_total}
use Rattle.std.proofs.lemmas.Map.Lookups.{CmpEqualImpliesEq, exact_pairs, exact_unsigned}
use Rattle.std.proofs.lemmas.List.Sums.{sum_by-set, sum_by_push}
use Rattle.mz_events.specs.declared.place.Place.TheVariants.{Pages, Tiny, TinyDepot, Small, SmallDepot, Large, Nano}
use Rattle.mz_events.specs.Places.{Spot, same_spot, keeper_at, nano_page}
use Rattle.mz_events.specs.State.{Value, blank, live_size, write}
use Rattle.mz_events.specs.Sameness.{has_spot}
use Rattle.mz_base.specs.Lists.{size_sum}
use Rattle.mz_spots.specs.SlotLists.{found_at, IsSlotFor}
use Rattle.mz_spots.specs.Indexes.{numbers_of, by_numbers, place_in, IsIndex}
use Rattle.mz_spots.proofs.SpotLemmas.{same_spot-true, same_spot-refl, cond_swap}
use Rattle.mz_spots.proofs.SlotLemmas.{slot_found}

-- ---- spots and their numbers

of_numbers : ℕ → ℕ → ℕ → Spot
of_numbers n z m =
    cond (n == 0) (keeper_at Pages) (cond (n == 1) (keeper_at (Tiny z m)) (cond (n == 2) (keeper_at (TinyDepot z)) (cond (n == 3) (keeper_at (Small z m))
    (cond (n == 4) (keeper_at (SmallDepot z)) (cond (n == 5) (keeper_at (Large z)) (cond (n == 6) (keeper_at Nano) (nano_page z)))))))

numbers_back : (j : Spot) → of_numbers (numbers_of j).0 (numbers_of j).1.0 (numbers_of j).1.1 ≡ j
unfolding of_numbers
numbers_back (keeper_at Pages) = refl
numbers_back (keeper_at (Tiny z m)) = refl
numbers_back (keeper_at (TinyDepot z)) = refl
numbers_back (keeper_at (Small z m)) = refl
numbers_back (keeper_at (SmallDepot z)) = refl
numbers_back (keeper_at (Large z)) = refl
numbers_back (keeper_at Nano) = refl
numbers_back (nano_page i) = refl

numbers_exact : (j k : Spot) → numbers_of j ≡ numbers_of k → j ≡ k
numbers_exact j k h = sym (numbers_back j) ∙ ap (λ (n : ℕ × (ℕ × ℕ)). of_numbers n.0 n.1.0 n.1.1) h ∙ numbers_back k

order_exact : CmpEqualImpliesEq by_numbers
order_exact = exact_pairs nat_cmp (λ (x y : ℕ × ℕ). ordering_then (nat_cmp x.0 y.0) (nat_cmp x.1 y.1)) exact_unsigned (exact_pairs nat_cmp nat_cmp exact_unsigned exact_unsigned)

equal_from : (o : Ordering) → is_eq o ≡ true → o ≡ Equal
equal_from Less h = absurd (false≢true h)
equal_from Equal h = refl
equal_from Greater h = absurd (false≢true h)

tied : (o : Ordering) → o ≡ ordering_reverse o → o ≡ Equal
tied Less h = cc
tied Equal h = refl
tied Greater h = cc

nat_itself : (n : ℕ) → nat_cmp n n ≡ Equal
nat_itself n = tied (nat_cmp n n) (nat_cmp_total.antisymm n n)

itself : (n : ℕ × (ℕ × ℕ)) → is_at (by_numbers n) n ≡ true
itself n = rw (nat_itself n.0, nat_itself n.1.0, nat_itself n.1.1) refl

-- the numbers of two spots are equal where the spots are one
pub same_numbers : (j k : Spot) → is_at (by_numbers (numbers_of j)) (numbers_of k) ≡ same_spot k j
same_numbers j k = elim (cases_Bool (same_spot k j)) [
  | inl one ↦ subst (λ (i : Spot). is_at (by_numbers (numbers_of j)) (numbers_of i) ≡ true) (sym (same_spot-true k j one)) (itself (numbers_of j)) ∙ sym one
  | inr two ↦ elim (cases_Bool (is_at (by_numbers (numbers_of j)) (numbers_of k))) [
    | inl equal ↦
        let one : j ≡ k = numbers_exact j k (order_exact (numbers_of j) (numbers_of k) (equal_from (by_numbers (numbers_of j) (numbers_of k)) equal)) in
        absurd (false≢true (sym two ∙ subst (λ (i : Spot). same_spot k i ≡ true) (sym one) (same_spot-refl k)))
    | inr other ↦ other ∙ sym two
  ]
]

-- ---- where the slot of a spot stands

next_some : (o : Option ℕ) (i : ℕ) → option_map (λ n. n + 1) o ≡ Some i → (n : ℕ) × (o ≡ Some n) × (n + 1 ≡ i)
next_some None i h = cc
next_some (Some n) i h = (n, refl, cc)

next_none : (o : Option ℕ) → option_map (λ n. n + 1) o ≡ None → o ≡ None
next_none None h = refl
next_none (Some n) h = cc

module _ (j : Spot) where
  head_none : (b : Bool) (o : Option ℕ) → cond b (Some 0) (option_map (λ n. n + 1) o) ≡ None → (b ≡ false) × (o ≡ None)
  head_none true o h = cc
  head_none false o h = (refl, next_none o h)

  pub place_none : (values : List (Spot × Value)) → place_in values j ≡ None → has_spot values j ≡ false
  place_none [] h = refl
  place_none (x ∷ xs) h = let parts = head_none (same_spot j x.0) (place_in xs j) h in or_from (same_spot j x.0) (has_spot xs j) parts.0 (place_none xs parts.1)

  -- it is the first that has the spot
  pub place_some : (values : List (Spot × Value)) (i : ℕ) (d : Spot × Value) → place_in values j ≡ Some i → (i < length values) × (same_spot j (get_or values i d).0 ≡ true) × (has_spot (take i values) j ≡ false) × (found_at values j ≡ Some (get_or values i d))
  place_some [] i d h = cc
  place_some (x ∷ xs) i d h = elim (cases_Bool (same_spot j x.0)) [
    | inl same ↦
        let here : Some 0 ≡ Some i = sym (cond-true (same_spot j x.0) (Some 0) (option_map (λ n. n + 1) (place_in xs j)) same) ∙ h in
        let zero_is : 0 ≡ i = cc in
        subst (λ (i : ℕ). (i < length (x ∷ xs)) × (same_spot j (get_or (x ∷ xs) i d).0 ≡ true) × (has_spot (take i (x ∷ xs)) j ≡ false) × (found_at (x ∷ xs) j ≡ Some (get_or (x ∷ xs) i d))) zero_is
        (omega arith, same, refl, cond-true (same_spot j x.0) (Some x) (found_at xs j) same)
    | inr other ↦
        let more = next_some (place_in xs j) i (sym (cond-false (same_spot j x.0) (Some 0) (option_map (λ n. n + 1) (place_in xs j)) other) ∙ h) in
        let rest = place_some xs more.0 d more.1 in
        let below = rest.0 in
        subst (λ (i : ℕ). (i < length (x ∷ xs)) × (same_spot j (get_or (x ∷ xs) i d).0 ≡ true) × (has_spot (take i (x ∷ xs)) j ≡ false) × (found_at (x ∷ xs) j ≡ Some (get_or (x ∷ xs) i d))) (sym (add-one more.0) ∙ more.2)
        (omega arith, rest.1, or_from (same_spot j x.0) (has_spot (take more.0 xs) j) other rest.2, cond-false (same_spot j x.0) (Some x) (found_at xs j) other ∙ rest.3)
  ]

  pub found_none : (values : List (Spot × Value)) → place_in values j ≡ None → found_at values j ≡ None
  found_none [] h = refl
  found_none (x ∷ xs) h = let parts = head_none (same_spot j x.0) (place_in xs j) h in cond-false (same_spot j x.0) (Some x) (found_at xs j) parts.0 ∙ found_none xs parts.1

  pub slot_placed : (values : List (Spot × Value)) (i : ℕ) → place_in values j ≡ Some i → IsSlotFor values values i j
  slot_placed values i h = let d : Spot × Value = (j, blank) in let at = place_some values i d h in slot_found j values i d at.0 at.1 at.2

  -- a new slot behind the others
  next_cond : (b : Bool) (n : ℕ) (o : Option ℕ) → option_map (λ n. n + 1) (cond b (Some n) o) ≡ cond b (Some (n + 1)) (option_map (λ n. n + 1) o)
  next_cond true n o = refl
  next_cond false n o = refl

  place_more : (values : List (Spot × Value)) (v : Value) (k : Spot) → place_in values j ≡ None → place_in (values ++ (j, v) ∷ []) k ≡ cond (same_spot k j) (Some (length values)) (place_in values k)
  place_more [] v k h = refl
  place_more (x ∷ xs) v k h =
      let parts = head_none (same_spot j x.0) (place_in xs j) h in
      ap (λ (o : Option ℕ). cond (same_spot k x.0) (Some 0) (option_map (λ n. n + 1) o)) (place_more xs v k parts.1)
      ∙ ap (cond (same_spot k x.0) (Some 0)) (next_cond (same_spot k j) (length xs) (place_in xs k))
      ∙ ap (λ (n : ℕ). cond (same_spot k x.0) (Some 0) (cond (same_spot k j) (Some n) (option_map (λ n. n + 1) (place_in xs k)))) (add-one (length xs))
      ∙ cond_swap (same_spot k x.0) (same_spot k j) (Some 0) (Some (suc (length xs))) (option_map (λ n. n + 1) (place_in xs k)) (λ at_x at_j.
      false≢true (sym parts.0 ∙ subst (λ i. same_spot j i ≡ true) (sym (same_spot-true k j at_j) ∙ same_spot-true k x.0 at_x) (same_spot-refl j)))

  pub index_more : (m n : BTreeMap (ℕ × (ℕ × ℕ)) ℕ) (values : List (Spot × Value)) → IsIndex m values → place_in values j ≡ None
      → ((q : ℕ × (ℕ × ℕ)) → get by_numbers n q ≡ cond (is_at (by_numbers (numbers_of j)) q) (Some (length values)) (get by_numbers m q)) → IsIndex n (values ++ (j, blank) ∷ [])
  index_more m n values index none put = λ k.
      put (numbers_of k) ∙ ap (λ (b : Bool). cond b (Some (length values)) (get by_numbers m (numbers_of k))) (same_numbers j k)
      ∙ ap (cond (same_spot k j) (Some (length values))) (index k) ∙ sym (place_more values blank k none)

-- another value in a slot
place_set : (values : List (Spot × Value)) (i : ℕ) (g d : Spot × Value) (k : Spot) → i < length values → (get_or values i d).0 ≡ g.0 → place_in (slice_set values i g) k ≡ place_in values k
place_set [] i g d k below same = absurd (omega arith)
place_set (x ∷ xs) zero g d k below same = ap (λ (j : Spot). cond (same_spot k j) (Some 0) (option_map (λ n. n + 1) (place_in xs k))) (sym same)
place_set (x ∷ xs) (suc i) g d k below same = ap (λ (o : Option ℕ). cond (same_spot k x.0) (Some 0) (option_map (λ n. n + 1) o)) (place_set xs i g d k (omega arith) same)

pub index_set : (m : BTreeMap (ℕ × (ℕ × ℕ)) ℕ) (values : List (Spot × Value)) (i : ℕ) (g d : Spot × Value) → i < length values → (get_or values i d).0 ≡ g.0 → IsIndex m values → IsIndex m (slice_set values i g)
index_set m values i g d below same index = λ k. index k ∙ sym (place_set values i g d k below same)

-- ---- a slot that is out

-- what is written twice to a slot is the last
write_twice : (values : List (Spot × Value)) (j : Spot) (u v : Value) → write (write values j u) j v ≡ write values j v
unfolding write
write_twice [] j u v = cond-true (same_spot j j) ((j, v) ∷ []) ((j, u) ∷ (j, v) ∷ []) (same_spot-refl j)
write_twice (x ∷ xs) j u v = elim (cases_Bool (same_spot j x.0)) [
  | inl same ↦
      ap (λ l. write l j v) (cond-true (same_spot j x.0) ((x.0, u) ∷ xs) (x ∷ write xs j u) same)
      ∙ cond-true (same_spot j x.0) ((x.0, v) ∷ xs) ((x.0, u) ∷ write xs j v) same
      ∙ sym (cond-true (same_spot j x.0) ((x.0, v) ∷ xs) (x ∷ write xs j v) same)
  | inr other ↦
      ap (λ l. write l j v) (cond-false (same_spot j x.0) ((x.0, u) ∷ xs) (x ∷ write xs j u) other)
      ∙ cond-false (same_spot j x.0) ((x.0, v) ∷ write xs j u) (x ∷ write (write xs j u) j v) other
      ∙ ap (λ l. x ∷ l) (write_twice xs j u v)
      ∙ sym (cond-false (same_spot j x.0) ((x.0, v) ∷ xs) (x ∷ write xs j v) other)
]

pub written_again : (old new : List (Spot × Value)) (i : ℕ) (j : Spot) (u v : Value) → IsSlotFor old new i j → write (slice_set new i (j, u)) j v ≡ write old j v
written_again old new i j u v at = ap (λ (l : List (Spot × Value)). write l j v) (at.writes u) ∙ write_twice old j u v

-- ---- the sum of all live bytes

size_at : (values : List (Spot × Value)) (i : ℕ) (g h : Spot × Value) → i < length values → live_size (slice_set values i g) + size_sum (get_or values i h).1.kept.live ≡ live_size values + size_sum g.1.kept.live
size_at values i g h below = sum_by-set (λ (x : Spot × Value). size_sum x.1.kept.live) values i g h below

pub size_within : (values : List (Spot × Value)) (i : ℕ) (h : Spot × Value) → i < length values → size_sum (get_or values i h).1.kept.live ≤ live_size values
size_within values i h below = let sums = size_at values i (h.0, blank) h below in omega arith

pub size_set : (values : List (Spot × Value)) (i : ℕ) (g h : Spot × Value) (used less more now : ℕ) → i < length values → h ≡ get_or values i h → used ≡ live_size values → less ≡ size_sum h.1.kept.live → more ≡ size_sum g.1.kept.live
    → now ≡ used - less + more → now ≡ live_size (slice_set values i g)
size_set values i g h used less more now below is u l m n =
    let sums = size_at values i g h below in
    let within = size_within values i h below in
    let there : less ≡ size_sum (get_or values i h).1.kept.live = l ∙ ap (λ (x : Spot × Value). size_sum x.1.kept.live) is in
    omega arith

pub size_more : (values : List (Spot × Value)) (j : Spot) → live_size (values ++ (j, blank) ∷ []) ≡ live_size values
size_more values j = let sums = sum_by_push (λ (x : Spot × Value). size_sum x.1.kept.live) values (j, blank) in omega arith
