-- The blocks of a batch by number: where no lower number is held, they begin with the block of this one, and the others are those without it.
use Rattle.std.proofs.Common.{◌≡◌, ℕ, ◌<◌, Bool, true, false, cond, not, List, [], ◌∷◌, filter, Option, Some, None, refl, ap, sym, subst, ◌∙◌, ◌⊎◌, inl, inr, ⊎_elim, arith}
use Rattle.std.specs.Prelude.{nat_lt, find, Contains, IsTrue}
use Rattle.std.specs.Str.{bytes_eq}
use Rattle.std.proofs.lemmas.Bool.{false≢true, cases_Bool, and_parts, and_from, lt-ltb, le-ltb, ltb-true, ltb-false}
use Rattle.std.proofs.lemmas.Option.{none-some}
use Rattle.std.proofs.lemmas.Slice.Eq.{bytes_eq-Decides}
use Rattle.mz_base.specs.Lists.{insert_by}
use Rattle.mz_words.specs.declared.name.Name.{Name}
use Rattle.mz_words.specs.declared.name.Name.TheVariants.{Base, Batch, Given}
use Rattle.mz_lawful.specs.Names.{same_name, batch_name, is_in_batch, index_of}
use Rattle.mz_lawful.specs.Standing.{Holding, by_index}
use Rattle.mz_session.specs.Sessions.{AreHeldOnce}
use Rattle.mz_session.proofs.CountLemmas.{some-is}
use Rattle.mz_session.proofs.HeldLemmas.{held_in}
use Rattle.mz_session.proofs.NameLemmas.{name-self, same-is-name, first-or-later, here-first, later-too}

abbrev key : Holding → ℕ
key h = index_of h.name

-- an element is put before all of greater keys, and behind one of a smaller key

abbrev IsBelow : Holding → List Holding → Type 0
IsBelow h xs = (y : Holding) → Contains xs y → key h < key y

insert-front : (x : Holding) (ys : List Holding) → IsBelow x ys → insert_by key x ys ≡ x ∷ ys
unfolding insert_by
insert-front x [] below = refl
insert-front x (y ∷ ys) below = ap (λ d. cond d (x ∷ y ∷ ys) (y ∷ insert_by key x ys)) (lt-ltb (key x) (key y) (below y (here-first y ys)))

not-less : (m n : ℕ) → n < m → nat_lt m n ≡ false
not-less m n below = le-ltb m n (omega (arith, below))

insert-behind : (x h : Holding) (ys : List Holding) → key h < key x → insert_by key x (h ∷ ys) ≡ h ∷ insert_by key x ys
unfolding insert_by
insert-behind x h ys below = ap (λ d. cond d (x ∷ h ∷ ys) (h ∷ insert_by key x ys)) (not-less (key x) (key h) below)

-- and those that are put in order stay the same
put-case :
    (x y : Holding) (ys : List Holding) (z : Holding) (d : Bool) → (Contains (insert_by key x ys) z → (x ≡ z) ⊎ Contains ys z)
    → Contains (cond d (x ∷ y ∷ ys) (y ∷ insert_by key x ys)) z → (x ≡ z) ⊎ Contains (y ∷ ys) z
put-case x y ys z true rest there = first-or-later x (y ∷ ys) z there
put-case x y ys z false rest there =
    ⊎_elim (λ (here : y ≡ z). inr (subst (λ w. Contains (y ∷ ys) w) here (here-first y ys)))
    (λ (later : Contains (insert_by key x ys) z). ⊎_elim (λ (new : x ≡ z). inl new) (λ (old : Contains ys z). inr (later-too y ys z old)) (rest later))
    (first-or-later y (insert_by key x ys) z there)

put-among : (x : Holding) (ys : List Holding) (z : Holding) → Contains (insert_by key x ys) z → (x ≡ z) ⊎ Contains ys z
unfolding insert_by
put-among x [] z there = first-or-later x [] z there
put-among x (y ∷ ys) z there = put-case x y ys z (nat_lt (key x) (key y)) (put-among x ys z) there

ordered-among : (xs : List Holding) (z : Holding) → Contains (by_index xs) z → Contains xs z
unfolding by_index
ordered-among [] z there = there
ordered-among (x ∷ xs) z there =
    ⊎_elim (λ (new : x ≡ z). subst (λ w. Contains (x ∷ xs) w) new (here-first x xs)) (λ (old : Contains (by_index xs) z). later-too x xs z (ordered-among xs z old))
    (put-among x (by_index xs) z there)

-- what passes a test

filtered-case :
    (f : Holding → Bool) (x : Holding) (xs : List Holding) (z : Holding) (d : Bool) → f x ≡ d
    → (Contains (filter f xs) z → Contains xs z × (f z ≡ true)) → Contains (cond d (x ∷ filter f xs) (filter f xs)) z → Contains (x ∷ xs) z × (f z ≡ true)
filtered-case f x xs z true passes rest there =
    ⊎_elim (λ (here : x ≡ z). (subst (λ w. Contains (x ∷ xs) w) here (here-first x xs), subst (λ w. f w ≡ true) here passes))
    (λ (later : Contains (filter f xs) z). let old = rest later in (later-too x xs z old.0, old.1))
    (first-or-later x (filter f xs) z there)
filtered-case f x xs z false passes rest there = let old = rest there in (later-too x xs z old.0, old.1)

filtered : (f : Holding → Bool) (xs : List Holding) (z : Holding) → Contains (filter f xs) z → Contains xs z × (f z ≡ true)
filtered f [] z there = absurd (let low = there.1 in omega (arith, low))
filtered f (x ∷ xs) z there = filtered-case f x xs z (f x) refl (filtered f xs z) there

all-pass : (f : Holding → Bool) (xs : List Holding) → ((y : Holding) → Contains xs y → f y ≡ true) → filter f xs ≡ xs
all-pass f [] pass = refl
all-pass f (x ∷ xs) pass =
    ap (λ d. cond d (x ∷ filter f xs) (filter f xs)) (pass x (here-first x xs)) ∙ ap (λ ys. x ∷ ys) (all-pass f xs (λ y there. pass y (later-too x xs y there)))

-- each name that stands among these is held
named-there : (xs : List Holding) (y : Holding) → Contains xs y → held_in xs y.name ≡ None → ⊥
named-there [] y there none = let low = there.1 in omega (arith, low)
named-there (x ∷ xs) y there none = elim (cases_Bool (same_name x.name y.name)) [
  | inl same ↦ none-some x (sym none ∙ ap (λ d. cond d (Some x) (held_in xs y.name)) same)
  | inr other ↦
      ⊎_elim (λ (here : x ≡ y). false≢true (sym other ∙ ap (λ z. same_name z.name y.name) here ∙ name-self y.name))
      (λ (later : Contains xs y). named-there xs y later (sym (ap (λ d. cond d (Some x) (held_in xs y.name)) other) ∙ none))
      (first-or-later x xs y there)
]

-- the first of some by number, and the others

abbrev others : Name → Holding → Bool
others name y = not (same_name y.name name)

abbrev IsLowest : (Holding → Bool) → Holding → List Holding → Type 0
IsLowest f h xs = (y : Holding) → Contains xs y → f y ≡ true → same_name y.name h.name ≡ false → key h < key y

abbrev IsFirstOf : (Holding → Bool) → Holding → List Holding → Type 0
IsFirstOf f h xs = by_index (filter f xs) ≡ h ∷ by_index (filter f (filter (others h.name) xs))

not-named : (name : Name) (x : Holding) (xs : List Holding) → same_name x.name name ≡ true → ((g : Holding) → Contains xs g → IsTrue (same_name g.name x.name) → ⊥) → (y : Holding) → Contains xs y → same_name y.name name ≡ false
not-named name x xs same once y there = elim (cases_Bool (same_name y.name name)) [
  | inl again ↦ absurd (once y there (ap (same_name y.name) (same-is-name x.name name same) ∙ again))
  | inr other ↦ other
]

here-step :
    (f : Holding → Bool) (h : Holding) (xs : List Holding) → f h ≡ true → ((y : Holding) → Contains xs y → same_name y.name h.name ≡ false) → IsLowest f h xs
    → IsFirstOf f h (h ∷ xs)
unfolding by_index
here-step f h xs passes apart lowest =
    ap (λ d. by_index (cond d (h ∷ filter f xs) (filter f xs))) passes
    ∙ insert-front h (by_index (filter f xs))
    (λ y there. let old = filtered f xs y (ordered-among (filter f xs) y there) in lowest y old.0 old.1 (apart y old.0))
    ∙ ap (λ ys. h ∷ by_index (filter f ys))
    (sym (ap (λ d. cond (not d) (h ∷ filter (others h.name) xs) (filter (others h.name) xs)) (name-self h.name)
    ∙ all-pass (others h.name) xs (λ y there. ap not (apart y there))))

later-case :
    (f : Holding → Bool) (h x : Holding) (xs : List Holding) (d : Bool) → f x ≡ d → (f x ≡ true → key h < key x) → IsFirstOf f h xs
    → by_index (cond d (x ∷ filter f xs) (filter f xs)) ≡ h ∷ by_index (cond d (x ∷ filter f (filter (others h.name) xs)) (filter f (filter (others h.name) xs)))
unfolding by_index
later-case f h x xs true passes low rest =
    ap (insert_by key x) rest ∙ insert-behind x h (by_index (filter f (filter (others h.name) xs))) (low passes)
later-case f h x xs false passes low rest = rest

later-step :
    (f : Holding → Bool) (h x : Holding) (xs : List Holding) → same_name x.name h.name ≡ false → (f x ≡ true → key h < key x) → IsFirstOf f h xs → IsFirstOf f h (x ∷ xs)
later-step f h x xs other low rest =
    later-case f h x xs (f x) refl low rest
    ∙ ap (λ ys. h ∷ by_index (filter f ys))
    (sym (ap (λ d. cond (not d) (x ∷ filter (others h.name) xs) (filter (others h.name) xs)) other))

pub lowest-first :
    (f : Holding → Bool) (h : Holding) (xs : List Holding) → f h ≡ true → AreHeldOnce xs → held_in xs h.name ≡ Some h → IsLowest f h xs → IsFirstOf f h xs
lowest-first f h [] passes once found lowest = absurd (none-some h found)
lowest-first f h (x ∷ xs) passes once found lowest = elim (cases_Bool (same_name x.name h.name)) [
  | inl same ↦
      let is : x ≡ h = some-is x h (sym (ap (λ d. cond d (Some x) (held_in xs h.name)) same) ∙ found) in
      subst (λ y. IsFirstOf f h (y ∷ xs)) (sym is)
      (here-step f h xs passes (not-named h.name x xs same once.0) (λ y there. lowest y (later-too x xs y there)))
  | inr other ↦
      later-step f h x xs other (λ met. lowest x (here-first x xs) met other)
      (lowest-first f h xs passes once.1 (sym (ap (λ d. cond d (Some x) (held_in xs h.name)) other) ∙ found) (λ y there. lowest y (later-too x xs y there)))
]

-- at a batch: the block of number k, where none of a lower number is held
above-name :
    (base : List ℕ) (count k : ℕ) (xs : List Holding) → ((i : ℕ) → i < k → held_in xs (batch_name base i) ≡ None)
    → (y : Holding) → Contains xs y → (n : Name) → y.name ≡ n → is_in_batch base count n ≡ true → same_name n (batch_name base k) ≡ false → k < index_of n
above-name base count k xs lower y there (Base a) is within other = absurd (false≢true within)
above-name base count k xs lower y there (Given g) is within other = absurd (false≢true within)
above-name base count k xs lower y there (Batch b) is within other =
    let parts = and_parts (bytes_eq b.base base) (nat_lt b.index count) within in
    let name : Batch b ≡ batch_name base b.index = ap (λ w. batch_name w b.index) ((bytes_eq-Decides b.base base).0 parts.0) in
    elim (cases_Bool (nat_lt k b.index)) [
      | inl above ↦ ltb-true k b.index above
      | inr low ↦ elim (cases_Bool (nat_lt b.index k)) [
        | inl below ↦ absurd (named-there xs y there (ap (held_in xs) (is ∙ name) ∙ lower b.index (ltb-true b.index k below)))
        | inr high ↦
            let least = ltb-false k b.index low in
            let most = ltb-false b.index k high in
            let same : b.index ≡ k = omega (arith, least, most) in
            absurd (false≢true (sym other ∙ ap (λ n. same_name n (batch_name base k)) (name ∙ ap (batch_name base) same) ∙ name-self (batch_name base k)))
      ]
    ]

pub batch-begins :
    (base : List ℕ) (count k : ℕ) (h : Holding) (xs : List Holding) → h.name ≡ batch_name base k → k < count → AreHeldOnce xs → held_in xs (batch_name base k) ≡ Some h
    → ((i : ℕ) → i < k → held_in xs (batch_name base i) ≡ None)
    → IsFirstOf (λ g. is_in_batch base count g.name) h xs
batch-begins base count k h xs is within once found lower =
    lowest-first (λ g. is_in_batch base count g.name) h xs
    (ap (is_in_batch base count) is ∙ and_from (bytes_eq base base) (nat_lt k count) ((bytes_eq-Decides base base).1 refl) (lt-ltb k count within)) once
    (ap (held_in xs) is ∙ found)
    (λ y there passes other.
    subst (λ j. j < key y) (sym (ap index_of is)) (above-name base count k xs lower y there y.name refl passes (ap (same_name y.name) (sym is) ∙ other)))

-- and where no number is held, there are none
none-first : (base : List ℕ) (count : ℕ) (xs : List Holding) → ((i : ℕ) → held_in xs (batch_name base i) ≡ None) → (y : Holding) → Contains xs y → (n : Name) → y.name ≡ n → is_in_batch base count n ≡ false
none-first base count xs free y there (Base a) is = refl
none-first base count xs free y there (Given g) is = refl
none-first base count xs free y there (Batch b) is = elim (cases_Bool (is_in_batch base count (Batch b))) [
  | inl within ↦
      let parts = and_parts (bytes_eq b.base base) (nat_lt b.index count) within in
      let name : Batch b ≡ batch_name base b.index = ap (λ w. batch_name w b.index) ((bytes_eq-Decides b.base base).0 parts.0) in
      absurd (named-there xs y there (ap (held_in xs) (is ∙ name) ∙ free b.index))
  | inr without ↦ without
]

none-pass : (f : Holding → Bool) (xs : List Holding) → ((y : Holding) → Contains xs y → f y ≡ false) → filter f xs ≡ []
none-pass f [] fail = refl
none-pass f (x ∷ xs) fail =
    ap (λ d. cond d (x ∷ filter f xs) (filter f xs)) (fail x (here-first x xs)) ∙ none-pass f xs (λ y there. fail y (later-too x xs y there))

pub batch-empty :
    (base : List ℕ) (count : ℕ) (xs : List Holding) → ((i : ℕ) → held_in xs (batch_name base i) ≡ None) → by_index (filter (λ h. is_in_batch base count h.name) xs) ≡ []
unfolding by_index
batch-empty base count xs free = ap by_index (none-pass (λ h. is_in_batch base count h.name) xs (λ y there. none-first base count xs free y there y.name refl))
