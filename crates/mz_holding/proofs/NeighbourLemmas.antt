-- Neighbours in an ascending list make a gap.
use Rattle.std.proofs.Common.{◌≡◌, ℕ, ◌+◌, ◌<◌, ◌≤◌, ◌⊎◌, ◌++◌, Bool, true, false, cond, List, [], ◌∷◌, refl, sym, subst, ap, ◌∙◌, inl, inr, arith, append_assoc, not}
use Rattle.std.specs.Prelude.{IsTrue, nat_le, nat_lt, ◌==◌, ◌&&◌, Option, Some, None, Result, Ok, Err, OnOk, OnErr}
use Rattle.std.specs.List.{All, filter, list_all}
use Rattle.std.proofs.lemmas.Bool.{or_left, or_right, or_cases, and_parts, and_left, false≢true, cases_Bool, cases_lt, cases_order, le-leb, leb-true, leb-false, lt-ltb, le-ltb, ne_eqb, eq-eqb, cond-true, cond-false}
use Rattle.std.proofs.lemmas.Map.Keys.{le_from_is_le}
use Rattle.std.specs.Cmp.{nat_cmp_is}
use Rattle.std.proofs.Common.{Less, Equal, Greater}
use Rattle.std.specs.BTreeMap.{insert_entry, is_at}
use Rattle.std.specs.Map.{lookup, remove_entry}
use Rattle.mz_base.specs.Lists.{insert_by}
use Rattle.mz_base.specs.Lists.{add_block, drop_block}
use Rattle.mz_base.specs.Space.{blocks_apart, block_at}
use Rattle.std.proofs.lemmas.List.Elements.{All-nil, All-cons, All-head, All-tail, All-append, All-weaker, All-same, All-filter, filter_agree}
use Rattle.std.specs.Ordering.{nat_cmp, is_le, is_eq, match_ordering}
use Rattle.std.specs.BTreeMap.Range.{entries_between, range_contains}
use Rattle.std.specs.declared.ops.Bound.TheVariants.{Included, Excluded, Unbounded}
use Rattle.mz_base.specs.Space.{Block, block_end, same_block}
use Rattle.mz_base.specs.Lists.{has_block}
use Rattle.mz_holding.specs.Gaps.{IsGap, far, AreSpread, IsFirstOf, IsLastOf, block_of_pair, blocks_of_pairs, end_or_none, first_or_far, size_found}
use Rattle.mz_holding.proofs.GapLemmas.{HaveBytes, same_self, same_is, all_has, bool_same}

pub spread_bytes : (live : List Block) → AreSpread live → HaveBytes live
spread_bytes [] h = All-nil (λ c. 1 ≤ c.size)
spread_bytes (b ∷ bs) h = All-cons (λ c. 1 ≤ c.size) b bs h.0 (spread_bytes bs h.3)

spread_right : (xs ys : List Block) → AreSpread (xs ++ ys) → AreSpread ys
spread_right [] ys h = h
spread_right (x ∷ xs) ys h = spread_right xs ys h.3

all_left : (P : Block → Type 0) (xs ys : List Block) → All P (xs ++ ys) → All P xs
all_left P [] ys h = All-nil P
all_left P (x ∷ xs) ys h = All-cons P x xs (All-head P x (xs ++ ys) h) (all_left P xs ys (All-tail P x (xs ++ ys) h))

all_right : (P : Block → Type 0) (xs ys : List Block) → All P (xs ++ ys) → All P ys
all_right P [] ys h = h
all_right P (x ∷ xs) ys h = all_right P xs ys (All-tail P x (xs ++ ys) h)

has_middle : (xs : List Block) (b : Block) (ys : List Block) → has_block (xs ++ b ∷ ys) b ≡ true
has_middle [] b ys = or_left (same_block b b) (has_block ys b) (same_self b)
has_middle (x ∷ xs) b ys = or_right (same_block b x) (has_block (xs ++ b ∷ ys) b) (has_middle xs b ys)

-- those before one end no later than it does
ends_before : (xs : List Block) (b : Block) (ys : List Block) → AreSpread (xs ++ b ∷ ys) → All (λ c. block_end c ≤ block_end b) xs
ends_before [] b ys h = All-nil (λ c. block_end c ≤ block_end b)
ends_before (x ∷ xs) b ys h =
    let at : block_end x ≤ b.first = All-head (λ c. block_end x ≤ c.first) b ys (all_right (λ c. block_end x ≤ c.first) xs (b ∷ ys) h.2) in
    All-cons (λ c. block_end c ≤ block_end b) x xs (omega arith) (ends_before xs b ys h.3)

split_append : (xs : List (ℕ × ℕ)) (e : ℕ × ℕ) (ys : List (ℕ × ℕ)) → blocks_of_pairs (xs ++ e ∷ ys) ≡ blocks_of_pairs xs ++ block_of_pair e ∷ blocks_of_pairs ys
split_append [] e ys = refl
split_append (x ∷ xs) e ys = ap (λ bs. block_of_pair x ∷ bs) (split_append xs e ys)

blocks_append : (xs ys : List (ℕ × ℕ)) → blocks_of_pairs (xs ++ ys) ≡ blocks_of_pairs xs ++ blocks_of_pairs ys
blocks_append [] ys = refl
blocks_append (x ∷ xs) ys = ap (λ bs. block_of_pair x ∷ bs) (blocks_append xs ys)

no_less : (es : List (ℕ × ℕ)) (o : Option (ℕ × ℕ)) → IsFirstOf es o → AreSpread (blocks_of_pairs es) → All (λ c. first_or_far o ≤ c.first) (blocks_of_pairs es)
no_less es None is h = subst (λ xs. All (λ c. far ≤ c.first) (blocks_of_pairs xs)) (sym is) (All-nil (λ c. far ≤ c.first))
no_less es (Some e) is h =
    let g : AreSpread (block_of_pair e ∷ blocks_of_pairs is.0) = subst (λ xs. AreSpread (blocks_of_pairs xs)) is.1 h in
    subst (λ xs. All (λ c. e.0 ≤ c.first) (blocks_of_pairs xs)) (sym is.1) (All-cons (λ c. e.0 ≤ c.first) (block_of_pair e) (blocks_of_pairs is.0) (omega arith) (All-weaker (λ c. block_end (block_of_pair e) ≤ c.first) (λ c. e.0 ≤ c.first) (λ c k. let m : e.0 + e.1 ≤ c.first = k in omega arith) (blocks_of_pairs is.0) g.2))

no_more : (es : List (ℕ × ℕ)) (bs : List Block) (o : Option (ℕ × ℕ)) → IsLastOf es o → AreSpread (blocks_of_pairs es ++ bs) → All (λ c. block_end c ≤ end_or_none o) (blocks_of_pairs es)
no_more es bs None is h = subst (λ xs. All (λ c. block_end c ≤ 0) (blocks_of_pairs xs)) (sym is) (All-nil (λ c. block_end c ≤ 0))
no_more es bs (Some e) is h =
    let split : blocks_of_pairs es ≡ blocks_of_pairs is.0 ++ block_of_pair e ∷ [] = ap blocks_of_pairs is.1 ∙ split_append is.0 e [] in
    let g : AreSpread (blocks_of_pairs is.0 ++ block_of_pair e ∷ bs) = subst AreSpread (append_assoc (blocks_of_pairs is.0) (block_of_pair e ∷ []) bs) (subst (λ xs. AreSpread (xs ++ bs)) split h) in
    All-same (λ c. block_end c ≤ e.0 + e.1) (blocks_of_pairs es) (blocks_of_pairs is.0 ++ block_of_pair e ∷ []) split
    (All-append (λ c. block_end c ≤ e.0 + e.1) (blocks_of_pairs is.0) (block_of_pair e ∷ []) (ends_before (blocks_of_pairs is.0) (block_of_pair e) bs g) (All-cons (λ c. block_end c ≤ e.0 + e.1) (block_of_pair e) [] (omega arith) (All-nil (λ c. block_end c ≤ e.0 + e.1))))

has_left : (xs ys : List Block) (b : Block) → has_block xs b ≡ true → has_block (xs ++ ys) b ≡ true
has_left [] ys b h = absurd (false≢true h)
has_left (x ∷ xs) ys b h = elim (or_cases (same_block b x) (has_block xs b) h) [
  | inl here ↦ or_left (same_block b x) (has_block (xs ++ ys) b) here
  | inr later ↦ or_right (same_block b x) (has_block (xs ++ ys) b) (has_left xs ys b later)
]

has_right : (xs ys : List Block) (b : Block) → has_block ys b ≡ true → has_block (xs ++ ys) b ≡ true
has_right [] ys b h = h
has_right (x ∷ xs) ys b h = or_right (same_block b x) (has_block (xs ++ ys) b) (has_right xs ys b h)

last_there : (es : List (ℕ × ℕ)) (o : Option (ℕ × ℕ)) (a : ℕ) → IsLastOf es o → All (λ c. c.first < a) (blocks_of_pairs es) → (end_or_none o ≤ 0) ⊎ ((c : Block) × (has_block (blocks_of_pairs es) c ≡ true) × (c.first < a) × (block_end c ≡ end_or_none o))
last_there es None a is less = inl (omega arith)
last_there es (Some e) a is less =
    let there : has_block (blocks_of_pairs es) (block_of_pair e) ≡ true = subst (λ bs. has_block bs (block_of_pair e) ≡ true) (sym (ap blocks_of_pairs is.1 ∙ split_append is.0 e [])) (has_middle (blocks_of_pairs is.0) (block_of_pair e) []) in
    inr (block_of_pair e, there, all_has (λ c. c.first < a) (blocks_of_pairs es) (block_of_pair e) less there, refl)

first_there : (es : List (ℕ × ℕ)) (o : Option (ℕ × ℕ)) (a : ℕ) → IsFirstOf es o → All (λ c. a ≤ c.first) (blocks_of_pairs es) → (far ≤ first_or_far o) ⊎ ((c : Block) × (has_block (blocks_of_pairs es) c ≡ true) × (a ≤ c.first) × (c.first ≡ first_or_far o))
first_there es None a is more = inl (omega arith)
first_there es (Some e) a is more =
    let there : has_block (blocks_of_pairs es) (block_of_pair e) ≡ true = subst (λ xs. has_block (blocks_of_pairs xs) (block_of_pair e) ≡ true) (sym is.1) (or_left (same_block (block_of_pair e) (block_of_pair e)) (has_block (blocks_of_pairs is.0) (block_of_pair e)) (same_self (block_of_pair e))) in
    inr (block_of_pair e, there, all_has (λ c. a ≤ c.first) (blocks_of_pairs es) (block_of_pair e) more there, refl)

-- SPLIT: the last of the lower and the first of the upper make a gap
pub gap_of_split : (es fs : List (ℕ × ℕ)) (a : ℕ) (o p : Option (ℕ × ℕ)) → AreSpread (blocks_of_pairs (es ++ fs)) → All (λ c. c.first < a) (blocks_of_pairs es) → All (λ c. a ≤ c.first) (blocks_of_pairs fs) → IsLastOf es o → IsFirstOf fs p → IsGap 0 far (blocks_of_pairs (es ++ fs)) a (end_or_none o) (first_or_far p)
gap_of_split es fs a o p h less more last first =
    let g : AreSpread (blocks_of_pairs es ++ blocks_of_pairs fs) = subst AreSpread (blocks_append es fs) h in
    subst (λ bs. IsGap 0 far bs a (end_or_none o) (first_or_far p)) (sym (blocks_append es fs)) (record {
      none = All-append (λ c. (block_end c ≤ end_or_none o) ⊎ (first_or_far p ≤ c.first)) (blocks_of_pairs es) (blocks_of_pairs fs)
          (All-weaker (λ c. block_end c ≤ end_or_none o) (λ c. (block_end c ≤ end_or_none o) ⊎ (first_or_far p ≤ c.first)) (λ c k. inl k) (blocks_of_pairs es) (no_more es (blocks_of_pairs fs) o last g))
          (All-weaker (λ c. first_or_far p ≤ c.first) (λ c. (block_end c ≤ end_or_none o) ⊎ (first_or_far p ≤ c.first)) (λ c k. inr k) (blocks_of_pairs fs) (no_less fs p first (spread_right (blocks_of_pairs es) (blocks_of_pairs fs) g)));
      below = elim (last_there es o a last less) [ inl none ↦ inl none | inr at ↦ inr (at.0, has_left (blocks_of_pairs es) (blocks_of_pairs fs) at.0 at.1, at.2, at.3) ];
      above = elim (first_there fs p a first more) [ inl none ↦ inl none | inr at ↦ inr (at.0, has_right (blocks_of_pairs es) (blocks_of_pairs fs) at.0 at.1, at.2, at.3) ];
    })

-- an ascending list in two parts, by a test on addresses
none_lower : (es : List (ℕ × ℕ)) (a : ℕ) → All (λ c. a ≤ c.first) (blocks_of_pairs es) → (filter (λ e. not (nat_le a e.0)) es ≡ []) × (filter (λ e. nat_le a e.0) es ≡ es)
none_lower [] a h = (refl, refl)
none_lower (e ∷ es) a h =
    let rest = none_lower es a (All-tail (λ c. a ≤ c.first) (block_of_pair e) (blocks_of_pairs es) h) in
    let yes_ : nat_le a e.0 ≡ true = le-leb a e.0 (All-head (λ c. a ≤ c.first) (block_of_pair e) (blocks_of_pairs es) h) in
    (rw yes_ rest.0, rw yes_ (ap (λ xs. e ∷ xs) rest.1))

pub sorted_split : (es : List (ℕ × ℕ)) (a : ℕ) → AreSpread (blocks_of_pairs es) → es ≡ filter (λ e. not (nat_le a e.0)) es ++ filter (λ e. nat_le a e.0) es
sorted_split [] a h = refl
sorted_split (e ∷ es) a h = elim (cases_Bool (nat_le a e.0)) [
  | inr no_ ↦ rw no_ (ap (λ xs. e ∷ xs) (sorted_split es a h.3))
  | inl yes_ ↦
      let up : a ≤ e.0 = leb-true a e.0 yes_ in
      let rest = none_lower es a (All-weaker (λ c. e.0 + e.1 ≤ c.first) (λ c. a ≤ c.first) (λ c k. let m : e.0 + e.1 ≤ c.first = k in omega arith) (blocks_of_pairs es) h.2) in
      rw yes_ (sym (ap (λ xs. xs ++ e ∷ filter (λ f. nat_le a f.0) es) rest.0 ∙ ap (λ xs. e ∷ xs) rest.1))
]

pub all_lower : (es : List (ℕ × ℕ)) (a : ℕ) → All (λ c. c.first < a) (blocks_of_pairs (filter (λ e. not (nat_le a e.0)) es))
all_lower [] a = All-nil (λ c. c.first < a)
all_lower (e ∷ es) a = elim (cases_Bool (nat_le a e.0)) [
  | inr no_ ↦ rw no_ (All-cons (λ c. c.first < a) (block_of_pair e) (blocks_of_pairs (filter (λ f. not (nat_le a f.0)) es)) (leb-false a e.0 no_) (all_lower es a))
  | inl yes_ ↦ rw yes_ (all_lower es a)
]

pub all_upper : (es : List (ℕ × ℕ)) (a : ℕ) → All (λ c. a ≤ c.first) (blocks_of_pairs (filter (λ e. nat_le a e.0) es))
all_upper [] a = All-nil (λ c. a ≤ c.first)
all_upper (e ∷ es) a = elim (cases_Bool (nat_le a e.0)) [
  | inl yes_ ↦ rw yes_ (All-cons (λ c. a ≤ c.first) (block_of_pair e) (blocks_of_pairs (filter (λ f. nat_le a f.0) es)) (leb-true a e.0 yes_) (all_upper es a))
  | inr no_ ↦ rw no_ (all_upper es a)
]

is_le_is : (a q : ℕ) → is_le (nat_cmp a q) ≡ nat_le a q
is_le_is a q = bool_same (is_le (nat_cmp a q)) (nat_le a q) (λ h. le-leb a q (le_from_is_le a q h)) (λ h.
    let least : a ≤ q = leb-true a q h in
    elim (cases_lt a q) [
      | inl less ↦ ap is_le (sym (nat_cmp_is a q Less less))
      | inr not_less ↦ let same : a ≡ q = omega arith in ap is_le (sym (nat_cmp_is a q Equal same))
    ])

-- ---- adding and dropping
pub add_before : (b c : Block) (bs : List Block) → b.first < c.first → add_block b (c ∷ bs) ≡ b ∷ c ∷ bs
unfolding insert_by
add_before b c bs h = cond-true (nat_lt b.first c.first) (b ∷ c ∷ bs) (c ∷ insert_by (λ d. d.first) b bs) (lt-ltb b.first c.first h)

pub add_behind : (b c : Block) (bs : List Block) → c.first ≤ b.first → add_block b (c ∷ bs) ≡ c ∷ add_block b bs
unfolding insert_by
add_behind b c bs h = cond-false (nat_lt b.first c.first) (b ∷ c ∷ bs) (c ∷ insert_by (λ d. d.first) b bs) (le-ltb b.first c.first h)

pub add_none : (b : Block) → add_block b [] ≡ b ∷ []
unfolding insert_by
add_none b = refl

pub all_add : (P : Block → Type 0) (b : Block) (bs : List Block) → P b → All P bs → All P (add_block b bs)
all_add P b [] h all = subst (All P) (sym (add_none b)) (All-cons P b [] h (All-nil P))
all_add P b (c ∷ bs) h all = elim (cases_lt b.first c.first) [
  | inl less ↦ subst (All P) (sym (add_before b c bs less)) (All-cons P b (c ∷ bs) h all)
  | inr more ↦ subst (All P) (sym (add_behind b c bs more)) (All-cons P c (add_block b bs) (All-head P c bs all) (all_add P b bs h (All-tail P c bs all)))
]

abbrev pub Apart : List Block → Block → Type 0
Apart live b = IsTrue (list_all (λ c. blocks_apart c b) live)

pub spread_add : (b : Block) (bs : List Block) → 1 ≤ b.size → block_end b ≤ far → Apart bs b → AreSpread bs → AreSpread (add_block b bs)
spread_add b [] some fits apart h = subst AreSpread (sym (add_none b)) (some, fits, All-nil (λ c. block_end b ≤ c.first), tt)
spread_add b (c ∷ bs) some fits apart h =
    let parts = and_parts (blocks_apart c b) (list_all (λ d. blocks_apart d b) bs) apart in
    let one = h.0 in
    let numbers : (block_end c ≤ b.first) ⊎ (block_end b ≤ c.first) = elim (or_cases (nat_le (block_end c) b.first) (nat_le (block_end b) c.first) parts.0) [ inl low ↦ inl (leb-true (block_end c) b.first low) | inr high ↦ inr (leb-true (block_end b) c.first high) ] in
    elim (cases_lt b.first c.first) [
      | inl less ↦
          let before : block_end b ≤ c.first = elim numbers [ inl low ↦ absurd (omega arith) | inr high ↦ high ] in
          subst AreSpread (sym (add_before b c bs less)) (some, fits, All-cons (λ d. block_end b ≤ d.first) c bs before (All-weaker (λ d. block_end c ≤ d.first) (λ d. block_end b ≤ d.first) (λ d k. let m : block_end c ≤ d.first = k in omega arith) bs h.2), h)
      | inr more ↦
          let behind : block_end c ≤ b.first = elim numbers [ inl low ↦ low | inr high ↦ absurd (omega arith) ] in
          subst AreSpread (sym (add_behind b c bs more)) (h.0, h.1, all_add (λ d. block_end c ≤ d.first) b bs behind h.2, spread_add b bs some fits parts.1 h.3)
    ]

pub spread_filter : (test : Block → Bool) (bs : List Block) → AreSpread bs → AreSpread (filter test bs)
spread_filter test [] h = tt
spread_filter test (c ∷ bs) h = elim (cases_Bool (test c)) [
  | inl yes_ ↦ rw yes_ (h.0, h.1, All-filter test (λ d. block_end c ≤ d.first) bs h.2, spread_filter test bs h.3)
  | inr no_ ↦ rw no_ (spread_filter test bs h.3)
]

-- the map's insert is add_block
pub insert_is_add : (es : List (ℕ × ℕ)) (a s : ℕ) → 1 ≤ s → AreSpread (blocks_of_pairs es) → Apart (blocks_of_pairs es) (block_at a s) → blocks_of_pairs (insert_entry nat_cmp es a s) ≡ add_block (block_at a s) (blocks_of_pairs es)
insert_is_add [] a s some h apart = sym (add_none (block_at a s))
insert_is_add (e ∷ es) a s some h apart =
    let parts = and_parts (blocks_apart (block_of_pair e) (block_at a s)) (list_all (λ d. blocks_apart d (block_at a s)) (blocks_of_pairs es)) apart in
    let one : 1 ≤ e.1 = h.0 in
    elim (cases_order a e.0) [
      | inl same ↦ absurd (elim (or_cases (nat_le (e.0 + e.1) a) (nat_le (a + s) e.0) parts.0) [
        | inl low ↦ let k = leb-true (e.0 + e.1) a low in omega arith
        | inr high ↦ let k = leb-true (a + s) e.0 high in omega arith
      ])
      | inr other ↦ elim other [
        | inl less ↦ ap (λ o. blocks_of_pairs (match_ordering o ((a, s) ∷ e ∷ es) ((e.0, s) ∷ es) (e ∷ insert_entry nat_cmp es a s))) (sym (nat_cmp_is a e.0 Less less)) ∙ sym (add_before (block_at a s) (block_of_pair e) (blocks_of_pairs es) less)
        | inr more ↦ ap (λ o. blocks_of_pairs (match_ordering o ((a, s) ∷ e ∷ es) ((e.0, s) ∷ es) (e ∷ insert_entry nat_cmp es a s))) (sym (nat_cmp_is a e.0 Greater more)) ∙ ap (λ bs. block_of_pair e ∷ bs) (insert_is_add es a s some h.3 parts.1) ∙ sym (add_behind (block_at a s) (block_of_pair e) (blocks_of_pairs es) (omega arith))
      ]
    ]

-- what begins elsewhere stays
pub none_dropped : (bs : List Block) (b : Block) → All (λ c. b.first < c.first) bs → drop_block b bs ≡ bs
none_dropped [] b h = refl
none_dropped (c ∷ bs) b h =
    let less = All-head (λ d. b.first < d.first) c bs h in
    let other : same_block b c ≡ false = and_left (b.first == c.first) (b.size == c.size) (ne_eqb b.first c.first (λ same. omega arith)) in
    rw other (ap (λ xs. c ∷ xs) (none_dropped bs b (All-tail (λ d. b.first < d.first) c bs h)))

is_at_is : (a q : ℕ) → is_at (nat_cmp a) q ≡ (q == a)
is_at_is a q = elim (cases_order a q) [
  | inl same ↦ ap is_eq (sym (nat_cmp_is a q Equal same)) ∙ sym (eq-eqb q a (sym same))
  | inr other ↦ elim other [
    | inl less ↦ ap is_eq (sym (nat_cmp_is a q Less less)) ∙ sym (ne_eqb q a (λ same. omega arith))
    | inr more ↦ ap is_eq (sym (nat_cmp_is a q Greater more)) ∙ sym (ne_eqb q a (λ same. omega arith))
  ]
]

pub lookup_is_size : (es : List (ℕ × ℕ)) (a : ℕ) → lookup (is_at (nat_cmp a)) es ≡ size_found (blocks_of_pairs es) a
lookup_is_size [] a = refl
lookup_is_size (e ∷ es) a = ap (λ t. cond t (Some e.1) (lookup (is_at (nat_cmp a)) es)) (is_at_is a e.0) ∙ ap (λ o. cond (e.0 == a) (Some e.1) o) (lookup_is_size es a)

pub remove_is_drop : (es : List (ℕ × ℕ)) (a s : ℕ) → AreSpread (blocks_of_pairs es) → has_block (blocks_of_pairs es) (block_at a s) ≡ true → blocks_of_pairs (remove_entry (is_at (nat_cmp a)) es) ≡ drop_block (block_at a s) (blocks_of_pairs es)
remove_is_drop [] a s h there = refl
remove_is_drop (e ∷ es) a s h there =
    let one : 1 ≤ e.1 = h.0 in
    let step = ap (λ t. blocks_of_pairs (cond t es (e ∷ remove_entry (is_at (nat_cmp a)) es))) (is_at_is a e.0) in
    elim (or_cases (same_block (block_at a s) (block_of_pair e)) (has_block (blocks_of_pairs es) (block_at a s)) there) [
      | inl here ↦
          let is : block_at a s ≡ block_of_pair e = same_is (block_at a s) (block_of_pair e) here in
          let at : e.0 ≡ a = sym (ap (λ (b : Block). b.first) is) in
          let rest = none_dropped (blocks_of_pairs es) (block_at a s) (All-weaker (λ c. e.0 + e.1 ≤ c.first) (λ c. a < c.first) (λ c k. let m : e.0 + e.1 ≤ c.first = k in omega arith) (blocks_of_pairs es) h.2) in
          step ∙ ap (λ t. blocks_of_pairs (cond t es (e ∷ remove_entry (is_at (nat_cmp a)) es))) (eq-eqb e.0 a at)
          ∙ sym (ap (λ t. cond (not t) (block_of_pair e ∷ drop_block (block_at a s) (blocks_of_pairs es)) (drop_block (block_at a s) (blocks_of_pairs es))) here ∙ rest)
      | inr later ↦
          let more : e.0 + e.1 ≤ a = all_has (λ c. e.0 + e.1 ≤ c.first) (blocks_of_pairs es) (block_at a s) h.2 later in
          let other : (e.0 == a) ≡ false = ne_eqb e.0 a (λ same. omega arith) in
          let other' : same_block (block_at a s) (block_of_pair e) ≡ false = and_left (a == e.0) (s == e.1) (ne_eqb a e.0 (λ same. omega arith)) in
          step ∙ ap (λ t. blocks_of_pairs (cond t es (e ∷ remove_entry (is_at (nat_cmp a)) es))) other ∙ ap (λ bs. block_of_pair e ∷ bs) (remove_is_drop es a s h.3 later)
          ∙ sym (ap (λ t. cond (not t) (block_of_pair e ∷ drop_block (block_at a s) (blocks_of_pairs es)) (drop_block (block_at a s) (blocks_of_pairs es))) other')
    ]

-- what the two ranges of a map at a show is a gap
pub gap_of_ranges : (es : List (ℕ × ℕ)) (a : ℕ) (o p : Option (ℕ × ℕ)) → AreSpread (blocks_of_pairs es) → IsLastOf (entries_between nat_cmp Unbounded (Excluded a) es) o → IsFirstOf (entries_between nat_cmp (Included a) Unbounded es) p → IsGap 0 far (blocks_of_pairs es) a (end_or_none o) (first_or_far p)
gap_of_ranges es a o p h last first =
    let lower : entries_between nat_cmp Unbounded (Excluded a) es ≡ filter (λ e. not (nat_le a e.0)) es = filter_agree (λ e. range_contains nat_cmp Unbounded (Excluded a) e.0) (λ e. not (nat_le a e.0)) (λ e. ap not (is_le_is a e.0)) es in
    let upper : entries_between nat_cmp (Included a) Unbounded es ≡ filter (λ e. nat_le a e.0) es = filter_agree (λ e. range_contains nat_cmp (Included a) Unbounded e.0) (λ e. nat_le a e.0) (λ e. and_true (is_le (nat_cmp a e.0)) ∙ is_le_is a e.0) es in
    let split = sorted_split es a h in
    subst (λ xs. IsGap 0 far (blocks_of_pairs xs) a (end_or_none o) (first_or_far p)) (sym split)
    (gap_of_split (filter (λ e. not (nat_le a e.0)) es) (filter (λ e. nat_le a e.0) es) a o p (subst (λ xs. AreSpread (blocks_of_pairs xs)) split h) (all_lower es a) (all_upper es a) (subst (λ xs. IsLastOf xs o) lower last) (subst (λ xs. IsFirstOf xs p) upper first))
  where
    and_true : (b : Bool) → (b && true) ≡ b
    and_true true = refl
    and_true false = refl

pairs_fit : (es : List (ℕ × ℕ)) → AreSpread (blocks_of_pairs es) → All (λ e. e.0 + e.1 ≤ far) es
pairs_fit [] h = All-nil (λ (e : ℕ × ℕ). e.0 + e.1 ≤ far)
pairs_fit (e ∷ es) h = All-cons (λ f. f.0 + f.1 ≤ far) e es h.1 (pairs_fit es h.3)

all_last : (P : (ℕ × ℕ) → Type 0) (xs : List (ℕ × ℕ)) (e : ℕ × ℕ) → All P (xs ++ e ∷ []) → P e
all_last P [] e h = All-head P e [] h
all_last P (x ∷ xs) e h = all_last P xs e (All-tail P x (xs ++ e ∷ []) h)

pub last_fits : (es : List (ℕ × ℕ)) (test : (ℕ × ℕ) → Bool) (o : Option (ℕ × ℕ)) → AreSpread (blocks_of_pairs es) → IsLastOf (filter test es) o → end_or_none o ≤ far
last_fits es test None h is = omega arith
last_fits es test (Some e) h is = all_last (λ f. f.0 + f.1 ≤ far) is.0 e (subst (All (λ f. f.0 + f.1 ≤ far)) is.1 (All-filter test (λ f. f.0 + f.1 ≤ far) es (pairs_fit es h)))

-- after a call that can fail, one of two facts
pub either_way : {T E : Type 0} (r : Result T E) (P Q : Type 0) → OnOk r P → OnErr r Q → P ⊎ Q
either_way (Ok x) P Q p q = inl p
either_way (Err e) P Q p q = inr q

-- ---- a block with another size
add_front : (b : Block) (bs : List Block) → All (λ c. b.first < c.first) bs → add_block b bs ≡ b ∷ bs
add_front b [] less = add_none b
add_front b (c ∷ bs) less = add_before b c bs (All-head (λ d. b.first < d.first) c bs less)

-- the map's insert at a key that is there
pub insert_is_resize : (es : List (ℕ × ℕ)) (a n m : ℕ) → AreSpread (blocks_of_pairs es) → has_block (blocks_of_pairs es) (block_at a n) ≡ true → blocks_of_pairs (insert_entry nat_cmp es a m) ≡ add_block (block_at a m) (drop_block (block_at a n) (blocks_of_pairs es))
insert_is_resize [] a n m h there = absurd (false≢true there)
insert_is_resize (e ∷ es) a n m h there =
    let one : 1 ≤ e.1 = h.0 in
    elim (or_cases (same_block (block_at a n) (block_of_pair e)) (has_block (blocks_of_pairs es) (block_at a n)) there) [
      | inl here ↦
          let is : block_at a n ≡ block_of_pair e = same_is (block_at a n) (block_of_pair e) here in
          let at : a ≡ e.0 = ap (λ (b : Block). b.first) is in
          let behind = All-weaker (λ c. e.0 + e.1 ≤ c.first) (λ c. a < c.first) (λ c k. let g : e.0 + e.1 ≤ c.first = k in omega arith) (blocks_of_pairs es) h.2 in
          ap (λ o. blocks_of_pairs (match_ordering o ((a, m) ∷ e ∷ es) ((e.0, m) ∷ es) (e ∷ insert_entry nat_cmp es a m))) (sym (nat_cmp_is a e.0 Equal at))
          ∙ ap (λ x. block_at x m ∷ blocks_of_pairs es) (sym at) ∙ sym (add_front (block_at a m) (blocks_of_pairs es) behind)
          ∙ ap (add_block (block_at a m)) (sym (ap (λ t. cond (not t) (block_of_pair e ∷ drop_block (block_at a n) (blocks_of_pairs es)) (drop_block (block_at a n) (blocks_of_pairs es))) here ∙ none_dropped (blocks_of_pairs es) (block_at a n) behind))
      | inr later ↦
          let more : e.0 + e.1 ≤ a = all_has (λ c. e.0 + e.1 ≤ c.first) (blocks_of_pairs es) (block_at a n) h.2 later in
          let other : same_block (block_at a n) (block_of_pair e) ≡ false = and_left (a == e.0) (n == e.1) (ne_eqb a e.0 (λ same. omega arith)) in
          ap (λ o. blocks_of_pairs (match_ordering o ((a, m) ∷ e ∷ es) ((e.0, m) ∷ es) (e ∷ insert_entry nat_cmp es a m))) (sym (nat_cmp_is a e.0 Greater (omega arith)))
          ∙ ap (λ bs. block_of_pair e ∷ bs) (insert_is_resize es a n m h.3 later)
          ∙ sym (add_behind (block_at a m) (block_of_pair e) (drop_block (block_at a n) (blocks_of_pairs es)) (omega arith))
          ∙ ap (add_block (block_at a m)) (sym (ap (λ t. cond (not t) (block_of_pair e ∷ drop_block (block_at a n) (blocks_of_pairs es)) (drop_block (block_at a n) (blocks_of_pairs es))) other))
    ]

-- what follows where a call was Ok, or an error
pub on_ok : {T E : Type 0} (r : Result T E) (P Q : Type 0) → (P → Q) → OnOk r P → OnOk r Q
on_ok (Ok x) P Q f p = f p
on_ok (Err e) P Q f p = tt

pub on_err : {T E : Type 0} (r : Result T E) (P Q : Type 0) → (P → Q) → OnErr r P → OnErr r Q
on_err (Ok x) P Q f p = tt
on_err (Err e) P Q f p = f p
