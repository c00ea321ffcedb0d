-- A walk from gap to gap finds room exactly where some idle run has it.
use Rattle.std.proofs.Common.{◌≡◌, ℕ, ◌+◌, ◌-◌, ◌*◌, ◌<◌, ◌≤◌, ◌⊎◌, Bool, true, false, cond, List, [], ◌∷◌, refl, sym, subst, ap, ◌∙◌, inl, inr, arith}
use Rattle.std.specs.Prelude.{◌==◌, nat_le, map, min, Option, Some, None}
use Rattle.std.specs.List.{All, list_any, list_all}
use Rattle.std.proofs.lemmas.Bool.{or_cases, or_left, or_right, and_parts, and_from, false≢true, false_from_ne_true, cases_Bool, cond-true, cond-false, cases_order, cases_lt, leb-true, le-leb, eqb-true, eq-eqb, ne_eqb}
use Rattle.std.proofs.lemmas.List.Elements.{All-weaker}
use Rattle.mz_base.specs.declared.range.TheConstants.{PAGE}
use Rattle.mz_base.specs.Space.{Block, Run, block_at, block_end, run_end, blocks_apart, least_multiple, same_block}
use Rattle.mz_base.specs.Lists.{has_block}
use Rattle.mz_base.specs.Room.{lies_in, starts, has_room_from, has_room}
use Rattle.mz_holding.specs.Gaps.{IsGap, AreSpread, far, size_found}
use Rattle.mz_holding.proofs.GapLemmas.{multiple-above, same_is, all_has, all_from_has, bool_same, apart_numbers, numbers_apart, ends_pass, pass_ends, bounds_clear, clear_bounds}
use Rattle.mz_holding.proofs.NeighbourLemmas.{spread_bytes}
use Rattle.mz_holding.proofs.SpreadLemmas.{pairwise}

-- no idle run that begins below x has room, no block reaches over x, and an idle run can begin at x
pub record Walked (r : Run) (live : List Block) (n al x : ℕ) : Type 0 where
  pub from : r.first * PAGE ≤ x
  pub clear : All (λ c. (block_end c ≤ x) ⊎ (x ≤ c.first)) live
  pub at : list_any (λ s. s == x) (starts r live) ≡ true
  pub none : (y : ℕ) → list_any (λ s. s == y) (starts r live) ≡ true → y < x → has_room_from r live n al y ≡ false

-- the size that was found is this one
abbrev pub is_found : Option ℕ → ℕ → Bool
is_found None n = false
is_found (Some s) n = s == n

pub size_of_has : (bs : List Block) (d : Block) → AreSpread bs → has_block bs d ≡ true → size_found bs d.first ≡ Some d.size
size_of_has [] d h there = absurd (false≢true there)
size_of_has (b ∷ bs) d h there = elim (or_cases (same_block d b) (has_block bs d) there) [
  | inl here ↦ let is = same_is d b here in ap (λ t. cond t (Some b.size) (size_found bs d.first)) (eq-eqb b.first d.first (sym (ap (λ (c : Block). c.first) is))) ∙ ap (λ (c : Block). Some c.size) (sym is)
  | inr later ↦
      let behind : block_end b ≤ d.first = all_has (λ c. block_end b ≤ c.first) bs d h.2 later in
      let one = h.0 in
      ap (λ t. cond t (Some b.size) (size_found bs d.first)) (ne_eqb b.first d.first (λ same. omega arith)) ∙ size_of_has bs d h.3 later
]

pub found_fits : (bs : List Block) (a s : ℕ) → AreSpread bs → size_found bs a ≡ Some s → (1 ≤ s) × (a + s ≤ far)
found_fits [] a s h found = absurd (none_some s found)
  where
    none_some : (i : ℕ) → ◌≡◌ {A = Option ℕ} None (Some i) → ⊥
    none_some i h = cc
found_fits (b ∷ bs) a s h found = elim (cases_Bool (b.first == a)) [
  | inl here ↦
      let is : b.size ≡ s = some_same b.size s (sym (cond-true (b.first == a) (Some b.size) (size_found bs a) here) ∙ found) in
      let at = eqb-true b.first a here in
      let one = h.0 in
      let fits = h.1 in
      (omega arith, omega arith)
  | inr other ↦ found_fits bs a s h.3 (sym (cond-false (b.first == a) (Some b.size) (size_found bs a) other) ∙ found)
]
  where
    some_same : (i j : ℕ) → ◌≡◌ {A = Option ℕ} (Some i) (Some j) → i ≡ j
    some_same i j h = cc

module _ (r : Run) (live : List Block) (n al : ℕ) (some : 1 ≤ n) (whole : 1 ≤ al) (spread : AreSpread live) where
  abbrev Clear : ℕ → ℕ → Type 0
  Clear x y = All (λ c. (block_end c ≤ x) ⊎ (y ≤ c.first)) live

  pub room_parts : (x : ℕ) → has_room_from r live n al x ≡ true → (r.first * PAGE ≤ x) × (least_multiple al x + n ≤ run_end r * PAGE) × Clear x (least_multiple al x + n)
  room_parts x h =
      let parts = and_parts (lies_in r x (least_multiple al x + n)) (list_all (λ c. blocks_apart c (block_at x (least_multiple al x + n - x))) live) h in
      let within = and_parts (nat_le (r.first * PAGE) x) (nat_le (least_multiple al x + n) (run_end r * PAGE)) parts.0 in
      let up = multiple-above al x whole in (
        leb-true (r.first * PAGE) x within.0,
        leb-true (least_multiple al x + n) (run_end r * PAGE) within.1,
        All-weaker (λ c. (block_end c ≤ x) ⊎ (x + (least_multiple al x + n - x) ≤ c.first)) (λ c. (block_end c ≤ x) ⊎ (least_multiple al x + n ≤ c.first)) (λ c k. elim k [ inl before ↦ inl before | inr behind ↦ inr (omega arith) ]) live (apart_numbers live (block_at x (least_multiple al x + n - x)) parts.1),
      )

  pub room_from : (x : ℕ) → r.first * PAGE ≤ x → least_multiple al x + n ≤ run_end r * PAGE → Clear x (least_multiple al x + n) → has_room_from r live n al x ≡ true
  room_from x from fits clear =
      let up = multiple-above al x whole in
      and_from (lies_in r x (least_multiple al x + n)) (list_all (λ c. blocks_apart c (block_at x (least_multiple al x + n - x))) live)
      (and_from (nat_le (r.first * PAGE) x) (nat_le (least_multiple al x + n) (run_end r * PAGE)) (le-leb (r.first * PAGE) x from) (le-leb (least_multiple al x + n) (run_end r * PAGE) fits))
      (numbers_apart live (block_at x (least_multiple al x + n - x)) (All-weaker (λ c. (block_end c ≤ x) ⊎ (least_multiple al x + n ≤ c.first)) (λ c. (block_end c ≤ x) ⊎ (x + (least_multiple al x + n - x) ≤ c.first)) (λ c k. elim k [ inl before ↦ inl before | inr behind ↦ inr (omega arith) ]) live clear))

  pub walk_start : Clear (r.first * PAGE) (r.first * PAGE) → Walked r live n al (r.first * PAGE)
  walk_start clear = record {
    from = omega arith;
    clear = clear;
    at = or_left ((r.first * PAGE) == (r.first * PAGE)) (list_any (λ s. s == (r.first * PAGE)) (map block_end live)) (eq-eqb (r.first * PAGE) (r.first * PAGE) refl);
    none = λ y there less. false_from_ne_true (has_room_from r live n al y) (λ yes_. let low = (room_parts y yes_).0 in omega arith);
  }

  any_start : (q : ℕ → Bool) → list_any q (starts r live) ≡ true → (y : ℕ) × (list_any (λ s. s == y) (starts r live) ≡ true) × (q y ≡ true)
  any_start q h = elim (or_cases (q (r.first * PAGE)) (list_any q (map block_end live)) h) [
    | inl here ↦ (r.first * PAGE, or_left ((r.first * PAGE) == (r.first * PAGE)) (list_any (λ s. s == (r.first * PAGE)) (map block_end live)) (eq-eqb (r.first * PAGE) (r.first * PAGE) refl), here)
    | inr later ↦
        let c = ends_pass q live later in
        (block_end c.0, or_right ((r.first * PAGE) == block_end c.0) (list_any (λ s. s == block_end c.0) (map block_end live)) (pass_ends (λ s. s == block_end c.0) live c.0 c.1 (eq-eqb (block_end c.0) (block_end c.0) refl)), c.2)
  ]

  no_room : ((y : ℕ) → list_any (λ s. s == y) (starts r live) ≡ true → has_room_from r live n al y ≡ false) → has_room r live n al ≡ false
  no_room each = false_from_ne_true (has_room r live n al) (λ yes_. let at = any_start (has_room_from r live n al) yes_ in false≢true (sym (each at.0 at.1) ∙ at.2))

  module _ (x low high : ℕ) (walked : Walked r live n al x) (gap : IsGap 0 far live x low high) (top : run_end r * PAGE ≤ far) where
    low_here : low ≤ x
    low_here = elim gap.below [
      | inl zero ↦ omega arith
      | inr at ↦ let is = at.3 in let less = at.2 in elim (all_has (λ c. (block_end c ≤ x) ⊎ (x ≤ c.first)) live at.0 walked.clear at.1) [ inl before ↦ omega arith | inr behind ↦ absurd (omega arith) ]
    ]

    -- TEST: one comparison
    pub room_at_gap : has_room_from r live n al x ≡ nat_le (least_multiple al x + n) (min high (run_end r * PAGE))
    room_at_gap = bool_same (has_room_from r live n al x) (nat_le (least_multiple al x + n) (min high (run_end r * PAGE)))
        (λ h.
        let parts = room_parts x h in
        let up = multiple-above al x whole in
        let fits = parts.1 in
        let in' = bounds_clear 0 far live x low high gap (spread_bytes live spread) x (least_multiple al x + n) (omega arith) (omega arith) (omega arith) (omega arith) parts.2 in
        let down = in'.down in
        le-leb (least_multiple al x + n) (min high (run_end r * PAGE)) (omega arith))
        (λ h.
        let most = leb-true (least_multiple al x + n) (min high (run_end r * PAGE)) h in
        room_from x walked.from (omega arith) (clear_bounds 0 far live x low high gap (spread_bytes live spread) x (least_multiple al x + n) low_here (omega arith)))

    -- a start above x is the end of a block at or behind high
    behind_high : (y : ℕ) → list_any (λ s. s == y) (starts r live) ≡ true → x < y → (c : Block) × (has_block live c ≡ true) × (block_end c ≡ y) × (high ≤ c.first)
    behind_high y there more =
        let from = walked.from in
        elim (or_cases ((r.first * PAGE) == y) (list_any (λ s. s == y) (map block_end live)) there) [
          | inl here ↦ let is = eqb-true (r.first * PAGE) y here in absurd (omega arith)
          | inr later ↦
              let c = ends_pass (λ s. s == y) live later in
              let is = eqb-true (block_end c.0) y c.2 in
              let below = low_here in
              (c.0, c.1, is, elim (all_has (λ d. (block_end d ≤ low) ⊎ (high ≤ d.first)) live c.0 gap.none c.1) [ inl before ↦ absurd (omega arith) | inr behind ↦ behind ])
        ]

    -- STEP: on to the end of the block that begins at high
    pub walk_step : (s : ℕ) → has_room_from r live n al x ≡ false → high < run_end r * PAGE → size_found live high ≡ Some s → Walked r live n al (high + s)
    walk_step s tested more found = elim gap.above [
      | inl none ↦ absurd (omega arith)
      | inr at ↦
          let d = at.0 in
          let is : at.0.first ≡ high = at.3 in
          let up = at.2 in
          let size : at.0.size ≡ s = some_same at.0.size s (sym (size_of_has live at.0 spread at.1) ∙ ap (size_found live) is ∙ found) in
          let end : block_end at.0 ≡ high + s = omega arith in
          let from = walked.from in
          subst (Walked r live n al) end (record {
            from = omega arith;
            clear = all_from_has (λ c. (block_end c ≤ block_end at.0) ⊎ (block_end at.0 ≤ c.first)) live (λ c there. elim (pairwise live c at.0 spread there at.1) [
              | inl same ↦ inl (let e : block_end c ≡ block_end at.0 = ap block_end same in omega arith)
              | inr apart ↦ elim apart [ inl before ↦ inl (omega arith) | inr behind ↦ inr behind ]
            ]);
            at = or_right ((r.first * PAGE) == block_end at.0) (list_any (λ s. s == block_end at.0) (map block_end live)) (pass_ends (λ s. s == block_end at.0) live at.0 at.1 (eq-eqb (block_end at.0) (block_end at.0) refl));
            none = λ y there less. elim (cases_order y x) [
              | inl same ↦ subst (λ z. has_room_from r live n al z ≡ false) (sym same) tested
              | inr other ↦ elim other [
                | inl lower ↦ walked.none y there lower
                | inr higher ↦
                    let c = behind_high y there higher in
                    let ends = c.2 in
                    let behind = c.3 in
                    let one : 1 ≤ c.0.size = all_has (λ e. 1 ≤ e.size) live c.0 (spread_bytes live spread) c.1 in
                    absurd (elim (pairwise live c.0 at.0 spread c.1 at.1) [
                      | inl same ↦ let e : block_end c.0 ≡ block_end at.0 = ap block_end same in omega arith
                      | inr apart ↦ elim apart [ inl before ↦ omega arith | inr after ↦ omega arith ]
                    ])
              ]
            ];
          })
    ]
      where
        some_same : (i j : ℕ) → ◌≡◌ {A = Option ℕ} (Some i) (Some j) → i ≡ j
        some_same i j h = cc

    -- there is such a block
    pub found_at_high : high < run_end r * PAGE → size_found live high ≡ None → ⊥
    found_at_high more none = elim gap.above [
      | inl most ↦ absurd (omega arith)
      | inr at ↦ some_none at.0.size (sym (size_of_has live at.0 spread at.1) ∙ ap (size_found live) at.3 ∙ none)
    ]
      where
        some_none : (i : ℕ) → ◌≡◌ {A = Option ℕ} (Some i) None → ⊥
        some_none i h = cc

    pub high_here : high < run_end r * PAGE → x ≤ high
    high_here more = elim gap.above [
      | inl most ↦ absurd (omega arith)
      | inr at ↦ let is = at.3 in let up = at.2 in omega arith
    ]

    -- END: behind the run
    pub walk_end : has_room_from r live n al x ≡ false → run_end r * PAGE ≤ high → has_room r live n al ≡ false
    walk_end tested past = no_room (λ y there. elim (cases_order y x) [
      | inl same ↦ subst (λ z. has_room_from r live n al z ≡ false) (sym same) tested
      | inr other ↦ elim other [
        | inl lower ↦ walked.none y there lower
        | inr higher ↦
            let c = behind_high y there higher in
            let ends = c.2 in
            let behind = c.3 in
            let up = multiple-above al y whole in
            false_from_ne_true (has_room_from r live n al y) (λ yes_. let fits = (room_parts y yes_).1 in omega arith)
      ]
    ])

  pub walk_over : (x : ℕ) → Walked r live n al x → run_end r * PAGE ≤ x → has_room r live n al ≡ false
  walk_over x walked past = no_room (λ y there. elim (cases_lt y x) [
    | inl lower ↦ walked.none y there lower
    | inr not_lower ↦ let up = multiple-above al y whole in false_from_ne_true (has_room_from r live n al y) (λ yes_. let fits = (room_parts y yes_).1 in omega arith)
  ])

  pub walk_found : (x : ℕ) → Walked r live n al x → has_room_from r live n al x ≡ true → has_room r live n al ≡ true
  walk_found x walked yes_ = member (starts r live) walked.at
    where
      member : (xs : List ℕ) → list_any (λ s. s == x) xs ≡ true → list_any (has_room_from r live n al) xs ≡ true
      member [] h = absurd (false≢true h)
      member (s ∷ xs) h = elim (or_cases (s == x) (list_any (λ t. t == x) xs) h) [
        | inl here ↦ or_left (has_room_from r live n al s) (list_any (has_room_from r live n al) xs) (subst (λ t. has_room_from r live n al t ≡ true) (sym (eqb-true s x here)) yes_)
        | inr later ↦ or_right (has_room_from r live n al s) (list_any (has_room_from r live n al) xs) (member xs later)
      ]

-- LIVE: rule 12 is a look-up
pub has_is_found : (bs : List Block) (a n : ℕ) → AreSpread bs → has_block bs (block_at a n) ≡ is_found (size_found bs a) n
has_is_found bs a n h = bool_same (has_block bs (block_at a n)) (is_found (size_found bs a) n)
    (λ there. ap (λ o. is_found o n) (size_of_has bs (block_at a n) h there) ∙ eq-eqb n n refl)
    (λ found. back bs h found)
  where
    back : (cs : List Block) → AreSpread cs → is_found (size_found cs a) n ≡ true → has_block cs (block_at a n) ≡ true
    back [] g found = absurd (false≢true found)
    back (c ∷ cs) g found = elim (cases_Bool (c.first == a)) [
      | inl here ↦
          let size = eqb-true c.size n (sym (ap (λ o. is_found o n) (cond-true (c.first == a) (Some c.size) (size_found cs a) here)) ∙ found) in
          or_left (same_block (block_at a n) c) (has_block cs (block_at a n)) (and_from (a == c.first) (n == c.size) (eq-eqb a c.first (sym (eqb-true c.first a here))) (eq-eqb n c.size (sym size)))
      | inr other ↦ or_right (same_block (block_at a n) c) (has_block cs (block_at a n)) (back cs g.3 (sym (ap (λ o. is_found o n) (cond-false (c.first == a) (Some c.size) (size_found cs a) other)) ∙ found))
    ]
