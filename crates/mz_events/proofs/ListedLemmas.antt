-- The list of values: look-up finds what is listed, runs are counted, and all live blocks by address are in order.
use Rattle.std.proofs.Common.{◌≡◌, ℕ, ◌+◌, ◌<◌, ◌≤◌, Bool, true, false, cond, not, List, [], ◌∷◌, ◌++◌, length, length-append, refl, ap, sym, subst, ◌∙◌, inl, inr, arith, suc}
use Rattle.std.specs.Prelude.{filter, map, sum_by, nat_lt}
use Rattle.std.specs.List.{flat_map}
use Rattle.std.proofs.lemmas.Bool.{and_parts, not-true, false≢true, cases_Bool, or_parts, false_from_ne_true, cond-true, cond-false}
use Rattle.std.proofs.lemmas.List.Elements.{filter-append}
use Rattle.std.proofs.lemmas.List.Sums.{sum_by-cons}
use Rattle.mz_base.specs.declared.profile.Profile.{Profile}
use Rattle.mz_base.specs.Space.{Block, Run, block_end}
use Rattle.mz_base.specs.Lists.{insert_by}
use Rattle.mz_events.specs.declared.event.Event.{Event}
use Rattle.mz_events.specs.Places.{Spot, same_spot}
use Rattle.mz_events.specs.State.{Kept, Value, State, kept_at, blank, look_up, write}
use Rattle.mz_events.specs.Effect.{touched, value_after, write_all, after}
use Rattle.mz_events.specs.Sameness.{has_spot, has_each_once, IsOnce}
use Rattle.mz_events.specs.Separation.{InOrder, by_address}
use Rattle.mz_events.proofs.SpotLemmas.{same_spot-true, same_spot-refl, look_up-write}
use Rattle.mz_events.proofs.InOrderLemmas.{IsIn, in_filter, in_insert, in_append, order_insert, Beside, all_in}

pub values-after : (p : Profile) (s : State) (c : ℕ) (e : Event) → (after p s c e).values ≡ write_all (value_after s c e) (touched p e) s.values
unfolding after
values-after p s c e = refl

write_none : (k : Spot) (v : Value) → write [] k v ≡ (k, v) ∷ []
unfolding write
write_none k v = refl

write_here : (pair : Spot × Value) (pairs : List (Spot × Value)) (k : Spot) (v : Value) → same_spot k pair.0 ≡ true → write (pair ∷ pairs) k v ≡ (pair.0, v) ∷ pairs
unfolding write
write_here pair pairs k v h = cond-true (same_spot k pair.0) ((pair.0, v) ∷ pairs) (pair ∷ write pairs k v) h

write_later : (pair : Spot × Value) (pairs : List (Spot × Value)) (k : Spot) (v : Value) → same_spot k pair.0 ≡ false → write (pair ∷ pairs) k v ≡ pair ∷ write pairs k v
unfolding write
write_later pair pairs k v h = cond-false (same_spot k pair.0) ((pair.0, v) ∷ pairs) (pair ∷ write pairs k v) h

spot_swap : (j k : Spot) → same_spot j k ≡ false → same_spot k j ≡ false
spot_swap j k h = false_from_ne_true (same_spot k j) (λ t. false≢true (sym h ∙ subst (λ i. same_spot i k ≡ true) (same_spot-true k j t) (same_spot-refl k)))

-- ONCE: where each spot stands once, look-up finds what is listed
once_parts : (q : Spot × Value) (qs : List (Spot × Value)) → has_each_once (q ∷ qs) ≡ true → (has_spot qs q.0 ≡ false) × (has_each_once qs ≡ true)
once_parts q qs h = let parts = and_parts (not (has_spot qs q.0)) (has_each_once qs) h in (not-true (has_spot qs q.0) parts.0, parts.1)

listed_in : (pairs : List (Spot × Value)) (q : Spot × Value) (j : Spot) → IsIn q pairs → has_spot pairs j ≡ false → same_spot j q.0 ≡ false
listed_in [] q j there h = absurd there
listed_in (pair ∷ pairs) q j (inl e) h = ap (λ (x : Spot × Value). same_spot j x.0) e ∙ (or_parts (same_spot j pair.0) (has_spot pairs j) h).0
listed_in (pair ∷ pairs) q j (inr later) h = listed_in pairs q j later (or_parts (same_spot j pair.0) (has_spot pairs j) h).1

pub look_up-in : (values : List (Spot × Value)) (q : Spot × Value) → has_each_once values ≡ true → IsIn q values → look_up values q.0 ≡ q.1
unfolding look_up
look_up-in [] q h there = absurd there
look_up-in (pair ∷ pairs) q h (inl e) = cond-true (same_spot q.0 pair.0) pair.1 (look_up pairs q.0) (subst (λ (x : Spot × Value). same_spot q.0 x.0 ≡ true) e (same_spot-refl q.0)) ∙ ap (λ (x : Spot × Value). x.1) (sym e)
look_up-in (pair ∷ pairs) q h (inr later) = cond-false (same_spot q.0 pair.0) pair.1 (look_up pairs q.0) (spot_swap pair.0 q.0 (listed_in pairs q pair.0 later (once_parts pair pairs h).0)) ∙ look_up-in pairs q (once_parts pair pairs h).1 later

-- COUNT: the runs of the spots that a test chooses
module _ (test : Spot → Bool) where
  abbrev pub run_count : Spot → Value → ℕ
  run_count j v = cond (test j) (length v.kept.runs) 0

  abbrev pub counted : List (Spot × Value) → ℕ
  counted [] = 0
  counted (pair ∷ pairs) = run_count pair.0 pair.1 + counted pairs

  none_counted : (b : Bool) → cond b (length {A = Run} []) 0 ≡ 0
  none_counted true = refl
  none_counted false = refl

  pub counted-write : (values : List (Spot × Value)) (k : Spot) (v : Value) → counted (write values k v) + run_count k (look_up values k) ≡ counted values + run_count k v
  unfolding look_up
  counted-write [] k v =
      let one : counted (write [] k v) ≡ run_count k v + 0 = ap counted (write_none k v) in
      let two : run_count k blank ≡ 0 = none_counted (test k) in
      omega arith
  counted-write (pair ∷ pairs) k v = elim (cases_Bool (same_spot k pair.0)) [
    | inl yes_ ↦
        let at : k ≡ pair.0 = same_spot-true k pair.0 yes_ in
        let one : counted (write (pair ∷ pairs) k v) ≡ run_count pair.0 v + counted pairs = ap counted (write_here pair pairs k v yes_) in
        let same : run_count pair.0 v ≡ run_count k v = ap (λ j. run_count j v) (sym at) in
        let two : run_count k (look_up (pair ∷ pairs) k) ≡ run_count k pair.1 = ap (run_count k) (cond-true (same_spot k pair.0) pair.1 (look_up pairs k) yes_) in
        let three : run_count k pair.1 ≡ run_count pair.0 pair.1 = ap (λ j. run_count j pair.1) at in
        let whole : counted (pair ∷ pairs) ≡ run_count pair.0 pair.1 + counted pairs = refl in
        omega (arith, one, same, two, three, whole)
    | inr no_ ↦
        let one : counted (write (pair ∷ pairs) k v) ≡ run_count pair.0 pair.1 + counted (write pairs k v) = ap counted (write_later pair pairs k v no_) in
        let two : run_count k (look_up (pair ∷ pairs) k) ≡ run_count k (look_up pairs k) = ap (run_count k) (cond-false (same_spot k pair.0) pair.1 (look_up pairs k) no_) in
        let rest : counted (write pairs k v) + run_count k (look_up pairs k) ≡ counted pairs + run_count k v = counted-write pairs k v in
        let whole : counted (pair ∷ pairs) ≡ run_count pair.0 pair.1 + counted pairs = refl in
        omega (arith, one, two, rest, whole)
  ]

  -- where each spot has as many runs as before, so have all
  counted-same : (f : Spot → Value) (js : List Spot) (values : List (Spot × Value)) → ((j : Spot) → run_count j (f j) ≡ run_count j (look_up values j)) → counted (write_all f js values) ≡ counted values
  unfolding write_all
  counted-same f [] values same = refl
  counted-same f (k ∷ js) values same =
      let rest = counted-same f js (write values k (f k)) (λ j. elim (cases_Bool (same_spot j k)) [
        | inl yes_ ↦ ap (λ i. run_count j (f i)) (same_spot-true j k yes_) ∙ ap (run_count j) (sym (look_up-write values k (f k) j ∙ cond-true (same_spot j k) (f k) (look_up values j) yes_))
        | inr no_ ↦ same j ∙ ap (run_count j) (sym (look_up-write values k (f k) j ∙ cond-false (same_spot j k) (f k) (look_up values j) no_))
      ]) in
      let here = counted-write values k (f k) in
      let at = same k in
      omega (arith, rest, here, at)

  -- and the sum over two spots, one of which has no runs that count, or which are of one kind
  counted-two : (f : Spot → Value) (j k : Spot) (values : List (Spot × Value)) → same_spot k j ≡ false → counted (write_all f (j ∷ k ∷ []) values) + (run_count j (look_up values j) + run_count k (look_up values k)) ≡ counted values + (run_count j (f j) + run_count k (f k))
  unfolding write_all
  counted-two f j k values other =
      let one = counted-write values j (f j) in
      let two = counted-write (write values j (f j)) k (f k) in
      let at : run_count k (look_up (write values j (f j)) k) ≡ run_count k (look_up values k) = ap (run_count k) (look_up-write values j (f j) k ∙ cond-false (same_spot k j) (f j) (look_up values k) other) in
      omega (arith, one, two, at)

  pub counted_after-same : (p : Profile) (s : State) (c : ℕ) (e : Event) → ((j : Spot) → run_count j (value_after s c e j) ≡ run_count j (look_up s.values j)) → counted (after p s c e).values ≡ counted s.values
  counted_after-same p s c e same = ap counted (values-after p s c e) ∙ counted-same (value_after s c e) (touched p e) s.values same

  pub counted_after-two : (p : Profile) (s : State) (c : ℕ) (e : Event) (j k : Spot) → touched p e ≡ j ∷ k ∷ [] → same_spot k j ≡ false → counted (after p s c e).values + (run_count j (look_up s.values j) + run_count k (look_up s.values k)) ≡ counted s.values + (run_count j (value_after s c e j) + run_count k (value_after s c e k))
  counted_after-two p s c e j k is other =
      let at : counted (after p s c e).values ≡ counted (write_all (value_after s c e) (j ∷ k ∷ []) s.values) = ap counted (values-after p s c e ∙ ap (λ js. write_all (value_after s c e) js s.values) is) in
      let two = counted-two (value_after s c e) j k s.values other in
      omega (arith, at, two)

  -- the same as the runs of all places that the test chooses
  chosen_map : (j : Spot) (rs : List Run) → length (filter (λ (x : Spot × Run). test x.0) (map (λ r. (j, r)) rs)) ≡ cond (test j) (length rs) 0
  chosen_map j [] = sym (none_counted (test j))
  chosen_map j (r ∷ rs) = elim (cases_Bool (test j)) [
    | inl yes_ ↦
        ap length (cond-true (test j) ((j, r) ∷ filter (λ (x : Spot × Run). test x.0) (map (λ t. (j, t)) rs)) (filter (λ (x : Spot × Run). test x.0) (map (λ t. (j, t)) rs)) yes_)
        ∙ ap suc (chosen_map j rs ∙ cond-true (test j) (length rs) 0 yes_) ∙ sym (cond-true (test j) (suc (length rs)) 0 yes_)
    | inr no_ ↦
        ap length (cond-false (test j) ((j, r) ∷ filter (λ (x : Spot × Run). test x.0) (map (λ t. (j, t)) rs)) (filter (λ (x : Spot × Run). test x.0) (map (λ t. (j, t)) rs)) no_)
        ∙ chosen_map j rs ∙ cond-false (test j) (length rs) 0 no_ ∙ sym (cond-false (test j) (suc (length rs)) 0 no_)
  ]

  pub counted_is : (values : List (Spot × Value)) → length (filter (λ (x : Spot × Run). test x.0) (flat_map (λ (pair : Spot × Value). map (λ r. (pair.0, r)) pair.1.kept.runs) values)) ≡ counted values
  counted_is [] = refl
  counted_is (pair ∷ pairs) =
      ap length (filter-append (λ (x : Spot × Run). test x.0) (map (λ r. (pair.0, r)) pair.1.kept.runs) (flat_map (λ (q : Spot × Value). map (λ r. (q.0, r)) q.1.kept.runs) pairs))
      ∙ length-append (filter (λ (x : Spot × Run). test x.0) (map (λ r. (pair.0, r)) pair.1.kept.runs)) (filter (λ (x : Spot × Run). test x.0) (flat_map (λ (q : Spot × Value). map (λ r. (q.0, r)) q.1.kept.runs) pairs))
      ∙ ap (λ n. n + length (filter (λ (x : Spot × Run). test x.0) (flat_map (λ (q : Spot × Value). map (λ r. (q.0, r)) q.1.kept.runs) pairs))) (chosen_map pair.0 pair.1.kept.runs)
      ∙ ap (λ n. run_count pair.0 pair.1 + n) (counted_is pairs)

-- ALL: elements of which each two are apart, in order
module _ {A : Type 0} (first end : A → ℕ) where
  abbrev pub AreBeside : List A → Type 0
  AreBeside [] = Unit {0}
  AreBeside (x ∷ xs) = (first x < end x) × ((y : A) → IsIn y xs → Beside first end y x) × AreBeside xs

  beside_append : (xs ys : List A) → AreBeside xs → AreBeside ys → ((x y : A) → IsIn x xs → IsIn y ys → Beside first end y x) → AreBeside (xs ++ ys)
  beside_append [] ys h g both = g
  beside_append (x ∷ xs) ys h g both =
      (h.0, (λ y there. elim (in_append xs ys y there) [ inl l ↦ h.1 y l | inr r ↦ both x y (inl refl) r ]), beside_append xs ys h.2 g (λ z y there other. both z y (inr there) other))

-- in order of one number of each
unfoldable sorted : {A : Type 0} → (A → ℕ) → List A → List A
sorted key [] = []
sorted key (x ∷ xs) = insert_by key x (sorted key xs)

module _ {A : Type 0} (first end : A → ℕ) where
  in_sorted : (xs : List A) (x : A) → IsIn x (sorted first xs) → IsIn x xs
  unfolding sorted
  in_sorted [] x there = there
  in_sorted (y ∷ ys) x there = elim (in_insert first y (sorted first ys) x there) [
    | inl e ↦ inl e
    | inr later ↦ inr (in_sorted ys x later)
  ]

  sorted_order : (xs : List A) → AreBeside first end xs → InOrder first end (sorted first xs)
  unfolding sorted
  sorted_order [] h = tt
  sorted_order (x ∷ xs) h = order_insert first end x (sorted first xs) h.0 (λ y there. h.1 y (in_sorted xs y there)) (sorted_order xs h.2)

  sum_insert : (f : A → ℕ) (x : A) (xs : List A) → sum_by f (insert_by first x xs) ≡ f x + sum_by f xs
  unfolding insert_by
  sum_insert f x [] = sum_by-cons f x []
  sum_insert f x (y ∷ ys) = elim (cases_Bool (nat_lt (first x) (first y))) [
    | inl less ↦ ap (sum_by f) (cond-true (nat_lt (first x) (first y)) (x ∷ y ∷ ys) (y ∷ insert_by first x ys) less) ∙ sum_by-cons f x (y ∷ ys)
    | inr more ↦
        let one : sum_by f (cond (nat_lt (first x) (first y)) (x ∷ y ∷ ys) (y ∷ insert_by first x ys)) ≡ f y + sum_by f (insert_by first x ys) = ap (sum_by f) (cond-false (nat_lt (first x) (first y)) (x ∷ y ∷ ys) (y ∷ insert_by first x ys) more) ∙ sum_by-cons f y (insert_by first x ys) in
        let rest : sum_by f (insert_by first x ys) ≡ f x + sum_by f ys = sum_insert f x ys in
        let two : sum_by f (y ∷ ys) ≡ f y + sum_by f ys = sum_by-cons f y ys in
        omega (arith, one, rest, two)
  ]

  sum_sorted : (f : A → ℕ) (xs : List A) → sum_by f (sorted first xs) ≡ sum_by f xs
  unfolding sorted
  sum_sorted f [] = refl
  sum_sorted f (x ∷ xs) = sum_insert f x (sorted first xs) ∙ ap (λ n. f x + n) (sum_sorted f xs) ∙ sym (sum_by-cons f x xs)

  -- what lies in order up to a number is at most that number together
  module _ (size : A → ℕ) (is : (x : A) → first x + size x ≡ end x) where
    pub order_sum : (xs : List A) (low top : ℕ) → low ≤ top → ((x : A) → IsIn x xs → low ≤ first x) → ((x : A) → IsIn x xs → end x ≤ top) → InOrder first end xs → low + sum_by size xs ≤ top
    order_sum [] low top space from to h = omega arith
    order_sum (x ∷ xs) low top space from to h =
        let here : low ≤ first x = from x (inl refl) in
        let there : end x ≤ top = to x (inl refl) in
        let span : first x + size x ≡ end x = is x in
        let rest : end x + sum_by size xs ≤ top = order_sum xs (end x) top there (λ y in'. all_in (λ u. end x ≤ first u) xs y h.1 in') (λ y in'. to y (inr in')) h.2 in
        let one : sum_by size (x ∷ xs) ≡ size x + sum_by size xs = sum_by-cons size x xs in
        omega (arith, here, there, span, rest, one)

    pub beside_sum : (xs : List A) (top : ℕ) → ((x : A) → IsIn x xs → end x ≤ top) → AreBeside first end xs → sum_by size xs ≤ top
    beside_sum xs top to h =
        let whole : 0 + sum_by size (sorted first xs) ≤ top = order_sum (sorted first xs) 0 top (omega arith) (λ x there. omega arith) (λ x there. to x (in_sorted xs x there)) (sorted_order xs h) in
        let same = sum_sorted size xs in
        omega (arith, whole, same)

  pub beside_filter : (test : A → Bool) (xs : List A) → AreBeside first end xs → AreBeside first end (filter test xs)
  beside_filter test [] h = tt
  beside_filter test (x ∷ xs) h = elim (cases_Bool (test x)) [
    | inl yes_ ↦ subst (AreBeside first end) (sym (cond-true (test x) (x ∷ filter test xs) (filter test xs) yes_)) (h.0, (λ y there. h.1 y (in_filter test xs y there).0), beside_filter test xs h.2)
    | inr no_ ↦ subst (AreBeside first end) (sym (cond-false (test x) (x ∷ filter test xs) (filter test xs) no_)) (beside_filter test xs h.2)
  ]

-- what the spots keep, each with its spot
module _ {A : Type 0} (first end : A → ℕ) (list : Kept → List A) where
  abbrev pub item_first : Spot × A → ℕ
  item_first x = first x.1

  abbrev pub item_end : Spot × A → ℕ
  item_end x = end x.1

  abbrev pub items : List (Spot × Value) → List (Spot × A)
  items values = flat_map (λ pair. map (λ b. (pair.0, b)) (list pair.1.kept)) values

  spot_items : (j : Spot) (bs : List A) (x : Spot × A) → IsIn x (map (λ b. (j, b)) bs) → (x.0 ≡ j) × IsIn x.1 bs
  spot_items j [] x there = absurd there
  spot_items j (b ∷ bs) x (inl e) = (ap (λ (y : Spot × A). y.0) e, inl (ap (λ (y : Spot × A). y.1) e))
  spot_items j (b ∷ bs) x (inr later) = let rest = spot_items j bs x later in (rest.0, inr rest.1)

  spot_beside : (j : Spot) (bs : List A) → InOrder first end bs → AreBeside item_first item_end (map (λ b. (j, b)) bs)
  spot_beside j [] h = tt
  spot_beside j (b ∷ bs) h = (h.0, (λ y there. inr (all_in (λ c. end b ≤ first c) bs y.1 h.1 (spot_items j bs y there).1)), spot_beside j bs h.2)

  of_some : (values : List (Spot × Value)) (x : Spot × A) → IsIn x (items values) → (q : Spot × Value) × IsIn q values × (x.0 ≡ q.0) × IsIn x.1 (list q.1.kept)
  of_some [] x there = absurd there
  of_some (pair ∷ pairs) x there = elim (in_append (map (λ b. (pair.0, b)) (list pair.1.kept)) (items pairs) x there) [
    | inl here ↦ let it = spot_items pair.0 (list pair.1.kept) x here in (pair, inl refl, it.0, it.1)
    | inr later ↦ let it = of_some pairs x later in (it.0, inr it.1, it.2, it.3)
  ]

  beside_listed : (values : List (Spot × Value)) → has_each_once values ≡ true → ((q : Spot × Value) → IsIn q values → InOrder first end (list q.1.kept)) → ((q r : Spot × Value) (b c : A) → IsIn q values → IsIn r values → same_spot q.0 r.0 ≡ false → IsIn b (list q.1.kept) → IsIn c (list r.1.kept) → Beside first end c b) → AreBeside item_first item_end (items values)
  beside_listed [] once order apart = tt
  beside_listed (pair ∷ pairs) once order apart = beside_append item_first item_end (map (λ b. (pair.0, b)) (list pair.1.kept)) (items pairs) (spot_beside pair.0 (list pair.1.kept) (order pair (inl refl)))
      (beside_listed pairs (once_parts pair pairs once).1 (λ q there. order q (inr there)) (λ q r b c there other differ in_q in_r. apart q r b c (inr there) (inr other) differ in_q in_r))
      (λ x y here later.
      let one = spot_items pair.0 (list pair.1.kept) x here in
      let two = of_some pairs y later in
      apart pair two.0 x.1 y.1 (inl refl) (inr two.1) (listed_in pairs two.0 pair.0 two.1 (once_parts pair pairs once).0) one.1 two.3)

  -- what is listed is what look-up finds
  pub kept_somewhere : (s : State) (x : Spot × A) → IsOnce s → IsIn x (items s.values) → IsIn x.1 (list (kept_at s x.0))
  kept_somewhere s x once there =
      let it = of_some s.values x there in
      subst (λ j. IsIn x.1 (list (kept_at s j))) (sym it.2) (subst (λ (v : Value). IsIn x.1 (list v.kept)) (sym (look_up-in s.values it.0 once it.1)) it.3)

  -- where they are apart by look-up, each two of the list are
  pub all_beside : (s : State) → IsOnce s → ((j : Spot) → InOrder first end (list (kept_at s j))) → ((j k : Spot) (b c : A) → same_spot j k ≡ false → IsIn b (list (kept_at s j)) → IsIn c (list (kept_at s k)) → Beside first end c b) → AreBeside item_first item_end (items s.values)
  all_beside s once order apart = beside_listed s.values once
      (λ q there. subst (λ (v : Value). InOrder first end (list v.kept)) (look_up-in s.values q once there) (order q.0))
      (λ q r b c there other differ in_q in_r. apart q.0 r.0 b c differ
      (subst (λ (v : Value). IsIn b (list v.kept)) (sym (look_up-in s.values q once there)) in_q)
      (subst (λ (v : Value). IsIn c (list v.kept)) (sym (look_up-in s.values r once other)) in_r))

by_address_is : (xs : List (Spot × Block)) → by_address xs ≡ sorted (λ (x : Spot × Block). x.1.first) xs
unfolding by_address sorted
by_address_is [] = refl
by_address_is (x ∷ xs) = ap (insert_by (λ (y : Spot × Block). y.1.first) x) (by_address_is xs)

-- ALL: by address, all live blocks are in order
pub all_in_order : (xs : List (Spot × Block)) → AreBeside (λ x. x.1.first) (λ x. block_end x.1) xs → InOrder (λ x. x.1.first) (λ x. block_end x.1) (by_address xs)
all_in_order xs h = subst (InOrder (λ x. x.1.first) (λ x. block_end x.1)) (sym (by_address_is xs)) (sorted_order (λ (x : Spot × Block). x.1.first) (λ x. block_end x.1) xs h)
