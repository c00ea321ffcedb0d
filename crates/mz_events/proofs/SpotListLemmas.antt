-- Lists of spots with their values, each spot once: what they give doesn't depend on their order.
use Rattle.std.proofs.Common.{◌≡◌, Bool, true, false, cond, not, List, [], ◌∷◌, ◌++◌, refl, ap, sym, subst, ◌∙◌, inl, inr, append_assoc}
use Rattle.std.specs.Prelude.{◌||◌, filter}
use Rattle.std.specs.List.{list_all, flat_map}
use Rattle.std.specs.List.Sorted.{IsPermutation}
use Rattle.std.proofs.lemmas.Bool.{and_parts, and_from, or_parts, or_from, false≢true, cases_Bool, not-true, not_from_false, false_from_ne_true}
use Rattle.std.proofs.lemmas.List.Sorted.{IsPermutation-refl, IsPermutation-sym, IsPermutation-trans, IsPermutation-append_right, IsPermutation-append_left, IsPermutation-append_comm}
use Rattle.mz_events.specs.Places.{Spot, same_spot}
use Rattle.mz_events.specs.State.{Value, blank, look_up, write}
use Rattle.mz_events.specs.Effect.{write_all}
use Rattle.mz_events.specs.Sameness.{has_spot, has_each_once}
use Rattle.mz_events.proofs.SpotLemmas.{same_spot-true, same_spot-refl}

-- a list without one spot
abbrev pub without_spot : Spot → List (Spot × Value) → List (Spot × Value)
without_spot j pairs = filter (λ pair. not (same_spot j pair.0)) pairs

-- two spots are one in either order
pub same_spot-sym : (j k : Spot) → same_spot j k ≡ same_spot k j
same_spot-sym j k = elim (cases_Bool (same_spot j k)) [
  | inl y ↦ y ∙ sym (subst (λ i. same_spot k i ≡ true) (sym (same_spot-true j k y)) (same_spot-refl k))
  | inr n ↦ n ∙ sym (false_from_ne_true (same_spot k j) (λ y. false≢true (sym n ∙ subst (λ i. same_spot j i ≡ true) (sym (same_spot-true k j y)) (same_spot-refl j))))
]

-- a spot that the list hasn't is blank
pub absent_is_blank : (pairs : List (Spot × Value)) (j : Spot) → has_spot pairs j ≡ false → look_up pairs j ≡ blank
unfolding look_up
absent_is_blank [] j h = refl
absent_is_blank (q ∷ qs) j h =
    let parts = or_parts (same_spot j q.0) (has_spot qs j) h in
    rw parts.0 (absent_is_blank qs j parts.1)

look_up-here : (q : Spot × Value) (qs : List (Spot × Value)) (j : Spot) → same_spot j q.0 ≡ true → look_up (q ∷ qs) j ≡ q.1
unfolding look_up
look_up-here q qs j h = rw h refl

look_up-there : (q : Spot × Value) (qs : List (Spot × Value)) (j : Spot) → same_spot j q.0 ≡ false → look_up (q ∷ qs) j ≡ look_up qs j
unfolding look_up
look_up-there q qs j h = rw h refl

look_up-none : (j : Spot) → look_up [] j ≡ blank
unfolding look_up
look_up-none j = refl

first_once : (q : Spot × Value) (qs : List (Spot × Value)) → has_each_once (q ∷ qs) ≡ true → (has_spot qs q.0 ≡ false) × (has_each_once qs ≡ true)
first_once q qs h = let parts = and_parts (not (has_spot qs q.0)) (has_each_once qs) h in (not-true (has_spot qs q.0) parts.0, parts.1)

-- behind the first pair its spot is blank
first_gone : (q : Spot × Value) (qs : List (Spot × Value)) (j : Spot) → has_each_once (q ∷ qs) ≡ true → same_spot j q.0 ≡ true → look_up qs j ≡ blank
first_gone q qs j once same = absent_is_blank qs j (subst (λ i. has_spot qs i ≡ false) (sym (same_spot-true j q.0 same)) (first_once q qs once).0)

without-same : (j : Spot) (q : Spot × Value) (qs : List (Spot × Value)) → same_spot j q.0 ≡ true → without_spot j (q ∷ qs) ≡ without_spot j qs
without-same j q qs h = rw h refl

without-other : (j : Spot) (q : Spot × Value) (qs : List (Spot × Value)) → same_spot j q.0 ≡ false → without_spot j (q ∷ qs) ≡ q ∷ without_spot j qs
without-other j q qs h = rw h refl

look_up-without : (j k : Spot) (pairs : List (Spot × Value)) → look_up (without_spot j pairs) k ≡ cond (same_spot k j) blank (look_up pairs k)
look_up-without j k [] = elim (cases_Bool (same_spot k j)) [
  | inl y ↦ rw y (look_up-none k)
  | inr n ↦ rw n refl
]
look_up-without j k (q ∷ qs) = elim (cases_Bool (same_spot j q.0)) [
  | inl y ↦
      let e : j ≡ q.0 = same_spot-true j q.0 y in
      ap (λ ps. look_up ps k) (without-same j q qs y) ∙ (look_up-without j k qs ∙ elim (cases_Bool (same_spot k j)) [
        | inl z ↦ rw z refl
        | inr z ↦ rw z (sym (look_up-there q qs k (subst (λ i. same_spot k i ≡ false) e z)))
      ])
  | inr n ↦
      ap (λ ps. look_up ps k) (without-other j q qs n) ∙ elim (cases_Bool (same_spot k q.0)) [
        | inl z ↦
            let other : same_spot k j ≡ false = false_from_ne_true (same_spot k j) (λ y. false≢true (sym n ∙ subst (λ i. same_spot i q.0 ≡ true) (same_spot-true k j y) z)) in
            look_up-here q (without_spot j qs) k z ∙ rw other (sym (look_up-here q qs k z))
        | inr z ↦
            look_up-there q (without_spot j qs) k z ∙ (look_up-without j k qs ∙ ap (λ v. cond (same_spot k j) blank v) (sym (look_up-there q qs k z)))
      ]
]

has_spot-without : (j k : Spot) (pairs : List (Spot × Value)) → has_spot pairs k ≡ false → has_spot (without_spot j pairs) k ≡ false
has_spot-without j k [] h = refl
has_spot-without j k (q ∷ qs) h =
    let parts = or_parts (same_spot k q.0) (has_spot qs k) h in
    let rest = has_spot-without j k qs parts.1 in
    elim (cases_Bool (same_spot j q.0)) [
      | inl y ↦ ap (λ ps. has_spot ps k) (without-same j q qs y) ∙ rest
      | inr n ↦ ap (λ ps. has_spot ps k) (without-other j q qs n) ∙ or_from (same_spot k q.0) (has_spot (without_spot j qs) k) parts.0 rest
    ]

once-without : (j : Spot) (pairs : List (Spot × Value)) → has_each_once pairs ≡ true → has_each_once (without_spot j pairs) ≡ true
once-without j [] h = refl
once-without j (q ∷ qs) h =
    let parts = first_once q qs h in
    let rest = once-without j qs parts.1 in
    elim (cases_Bool (same_spot j q.0)) [
      | inl y ↦ ap has_each_once (without-same j q qs y) ∙ rest
      | inr n ↦ ap has_each_once (without-other j q qs n) ∙ and_from (not (has_spot (without_spot j qs) q.0)) (has_each_once (without_spot j qs)) (not_from_false (has_spot (without_spot j qs) q.0) (has_spot-without j q.0 qs parts.0)) rest
    ]

-- a list without a spot that it hasn't is the list
without-absent : (j : Spot) (pairs : List (Spot × Value)) → has_spot pairs j ≡ false → without_spot j pairs ≡ pairs
without-absent j [] h = refl
without-absent j (q ∷ qs) h =
    let parts = or_parts (same_spot j q.0) (has_spot qs j) h in
    without-other j q qs parts.0 ∙ ap (λ ps. q ∷ ps) (without-absent j qs parts.1)

-- what each pair gives, where a blank one gives nothing
module _ {A : Type 0} (g : (Spot × Value) → List A) (blank_gives : (j : Spot) → g (j, blank) ≡ []) where
  -- one spot's part can stand in front
  pub one_in_front : (j : Spot) (pairs : List (Spot × Value)) → has_each_once pairs ≡ true → IsPermutation (flat_map g pairs) (g (j, look_up pairs j) ++ flat_map g (without_spot j pairs))
  one_in_front j [] h =
      let e : g (j, look_up [] j) ≡ [] = ap (λ v. g (j, v)) (look_up-none j) ∙ blank_gives j in
      subst (λ (xs : List A). IsPermutation [] (xs ++ [])) (sym e) (IsPermutation-refl [])
  one_in_front j (q ∷ qs) h = elim (cases_Bool (same_spot j q.0)) [
    | inl y ↦
        let at : g (j, look_up (q ∷ qs) j) ≡ g q = ap (λ v. g (j, v)) (look_up-here q qs j y) ∙ ap (λ i. g (i, q.1)) (same_spot-true j q.0 y) in
        let rest : without_spot j (q ∷ qs) ≡ qs = without-same j q qs y ∙ without-absent j qs (subst (λ i. has_spot qs i ≡ false) (sym (same_spot-true j q.0 y)) (first_once q qs h).0) in
        let e : g q ++ flat_map g qs ≡ g (j, look_up (q ∷ qs) j) ++ flat_map g (without_spot j (q ∷ qs)) = sym (ap (λ xs. xs ++ flat_map g (without_spot j (q ∷ qs))) at ∙ ap (λ ps. g q ++ flat_map g ps) rest) in
        subst (IsPermutation (g q ++ flat_map g qs)) e (IsPermutation-refl (g q ++ flat_map g qs))
    | inr n ↦
        let x : List A = g (j, look_up qs j) in
        let y : List A = flat_map g (without_spot j qs) in
        let rest : IsPermutation (flat_map g qs) (x ++ y) = one_in_front j qs (first_once q qs h).1 in
        let front : IsPermutation (g q ++ flat_map g qs) (g q ++ (x ++ y)) = IsPermutation-append_right (g q) (flat_map g qs) (x ++ y) rest in
        let turn : IsPermutation ((g q ++ x) ++ y) ((x ++ g q) ++ y) = IsPermutation-append_left y (g q ++ x) (x ++ g q) (IsPermutation-append_comm (g q) x) in
        let turned : IsPermutation (g q ++ (x ++ y)) (x ++ (g q ++ y)) = subst (λ zs. IsPermutation zs (x ++ (g q ++ y))) (append_assoc (g q) x y) (subst (IsPermutation ((g q ++ x) ++ y)) (append_assoc x (g q) y) turn) in
        let e : x ++ (g q ++ y) ≡ g (j, look_up (q ∷ qs) j) ++ flat_map g (without_spot j (q ∷ qs)) = sym (ap (λ v. g (j, v) ++ flat_map g (without_spot j (q ∷ qs))) (look_up-there q qs j n) ∙ ap (λ ps. x ++ flat_map g ps) (without-other j q qs n)) in
        subst (IsPermutation (g q ++ flat_map g qs)) e (IsPermutation-trans (g q ++ flat_map g qs) (g q ++ (x ++ y)) (x ++ (g q ++ y)) front turned)
  ]

  none_of_blank : (pairs : List (Spot × Value)) → has_each_once pairs ≡ true → ((j : Spot) → look_up pairs j ≡ blank) → flat_map g pairs ≡ []
  none_of_blank [] h all = refl
  none_of_blank (q ∷ qs) h all =
      let here : q.1 ≡ blank = sym (look_up-here q qs q.0 (same_spot-refl q.0)) ∙ all q.0 in
      let nothing : g q ≡ [] = ap (λ v. g (q.0, v)) here ∙ blank_gives q.0 in
      let rest = none_of_blank qs (first_once q qs h).1 (λ j. elim (cases_Bool (same_spot j q.0)) [
        | inl y ↦ first_gone q qs j h y
        | inr n ↦ sym (look_up-there q qs j n) ∙ all j
      ]) in
      ap (λ xs. xs ++ flat_map g qs) nothing ∙ rest

  -- two lists with the same value at each spot give the same, in some order
  pub gives_same : (ps qs : List (Spot × Value)) → has_each_once ps ≡ true → has_each_once qs ≡ true → ((j : Spot) → look_up ps j ≡ look_up qs j) → IsPermutation (flat_map g ps) (flat_map g qs)
  gives_same [] qs h k all = subst (IsPermutation []) (sym (none_of_blank qs k (λ j. sym (all j) ∙ look_up-none j))) (IsPermutation-refl [])
  gives_same (p ∷ ps) qs h k all =
      let there : look_up qs p.0 ≡ p.1 = sym (all p.0) ∙ look_up-here p ps p.0 (same_spot-refl p.0) in
      let front : IsPermutation (flat_map g qs) (g (p.0, look_up qs p.0) ++ flat_map g (without_spot p.0 qs)) = one_in_front p.0 qs k in
      let front' : IsPermutation (flat_map g qs) (g p ++ flat_map g (without_spot p.0 qs)) = subst (λ v. IsPermutation (flat_map g qs) (g (p.0, v) ++ flat_map g (without_spot p.0 qs))) there front in
      let rest = gives_same ps (without_spot p.0 qs) (first_once p ps h).1 (once-without p.0 qs k) (λ j. elim (cases_Bool (same_spot j p.0)) [
        | inl y ↦ first_gone p ps j h y ∙ sym (look_up-without p.0 j qs ∙ ap (λ b. cond b blank (look_up qs j)) y)
        | inr n ↦ sym (look_up-there p ps j n) ∙ (all j ∙ sym (look_up-without p.0 j qs ∙ ap (λ b. cond b blank (look_up qs j)) n))
      ]) in
      IsPermutation-trans (flat_map g (p ∷ ps)) (g p ++ flat_map g (without_spot p.0 qs)) (flat_map g qs)
      (IsPermutation-append_right (g p) (flat_map g ps) (flat_map g (without_spot p.0 qs)) rest)
      (IsPermutation-sym (flat_map g qs) (g p ++ flat_map g (without_spot p.0 qs)) front')

-- a write leaves each spot once
or_again : (a b : Bool) → (a || (a || b)) ≡ (a || b)
or_again true b = refl
or_again false b = refl

or_swap : (a b c : Bool) → (a || (b || c)) ≡ (b || (a || c))
or_swap true true c = refl
or_swap true false c = refl
or_swap false b c = refl

has_spot-write : (pairs : List (Spot × Value)) (k : Spot) (v : Value) (j : Spot) → has_spot (write pairs k v) j ≡ (same_spot j k || has_spot pairs j)
unfolding write
has_spot-write [] k v j = refl
has_spot-write (q ∷ qs) k v j = elim (cases_Bool (same_spot k q.0)) [
  | inl y ↦ rw y (sym (ap (λ i. same_spot j i || (same_spot j q.0 || has_spot qs j)) (same_spot-true k q.0 y) ∙ or_again (same_spot j q.0) (has_spot qs j)))
  | inr n ↦ rw n (ap (λ b. same_spot j q.0 || b) (has_spot-write qs k v j) ∙ or_swap (same_spot j q.0) (same_spot j k) (has_spot qs j))
]

pub once-write : (pairs : List (Spot × Value)) (k : Spot) (v : Value) → has_each_once pairs ≡ true → has_each_once (write pairs k v) ≡ true
unfolding write
once-write [] k v h = refl
once-write (q ∷ qs) k v h = elim (cases_Bool (same_spot k q.0)) [
  | inl y ↦ rw y h
  | inr n ↦
      let parts = first_once q qs h in
      let absent : has_spot (write qs k v) q.0 ≡ false = has_spot-write qs k v q.0 ∙ or_from (same_spot q.0 k) (has_spot qs q.0) (same_spot-sym q.0 k ∙ n) parts.0 in
      rw n (and_from (not (has_spot (write qs k v) q.0)) (has_each_once (write qs k v)) (not_from_false (has_spot (write qs k v) q.0) absent) (once-write qs k v parts.1))
]

pub once-write_all : (f : Spot → Value) (js : List Spot) (pairs : List (Spot × Value)) → has_each_once pairs ≡ true → has_each_once (write_all f js pairs) ≡ true
unfolding write_all
once-write_all f [] pairs h = h
once-write_all f (j ∷ js) pairs h = once-write_all f js (write pairs j (f j)) (once-write pairs j (f j) h)

-- a test that each pair passes, and a blank one too, is passed at each spot
module _ (test : Value → Bool) (blank_passes : test blank ≡ true) where
  pub all_at_spots : (pairs : List (Spot × Value)) → list_all (λ pair. test pair.1) pairs ≡ true → (j : Spot) → test (look_up pairs j) ≡ true
  all_at_spots [] h j = ap test (look_up-none j) ∙ blank_passes
  all_at_spots (q ∷ qs) h j =
      let parts = and_parts (test q.1) (list_all (λ pair. test pair.1) qs) h in
      elim (cases_Bool (same_spot j q.0)) [
        | inl y ↦ ap test (look_up-here q qs j y) ∙ parts.0
        | inr n ↦ ap test (look_up-there q qs j n) ∙ all_at_spots qs parts.1 j
      ]

  pub all_from_spots : (pairs : List (Spot × Value)) → has_each_once pairs ≡ true → ((j : Spot) → test (look_up pairs j) ≡ true) → list_all (λ pair. test pair.1) pairs ≡ true
  all_from_spots [] h all = refl
  all_from_spots (q ∷ qs) h all =
      and_from (test q.1) (list_all (λ pair. test pair.1) qs) (ap test (sym (look_up-here q qs q.0 (same_spot-refl q.0))) ∙ all q.0)
      (all_from_spots qs (first_once q qs h).1 (λ j. elim (cases_Bool (same_spot j q.0)) [
        | inl y ↦ ap test (first_gone q qs j h y) ∙ blank_passes
        | inr n ↦ ap test (sym (look_up-there q qs j n)) ∙ all j
      ]))
