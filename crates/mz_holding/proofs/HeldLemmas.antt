-- Tests of one run, by the gaps between its blocks.
use Rattle.std.proofs.Common.{◌≡◌, ℕ, ◌+◌, ◌-◌, ◌*◌, ◌/◌, ◌%◌, ◌<◌, ◌≤◌, ◌⊎◌, Bool, true, false, List, [], ◌∷◌, ◌++◌, sym, subst, ap, ◌∙◌, inl, inr, arith}
use Rattle.std.specs.Prelude.{◌&&◌, ◌||◌, ◌==◌, nat_le, nat_lt, max, min, Option, Some, None}
use Rattle.std.specs.List.{list_all}
use Rattle.std.specs.Option.{option_map, option_to_list, IfSome}
use Rattle.std.proofs.Math.Nat.{mul-le-mul_right, mul-mod_left, mod-lt}
use Rattle.std.proofs.lemmas.Nat.{div-add-mod'}
use Rattle.std.proofs.lemmas.Bool.{and_parts, and_from, or_cases, or_left, or_right, or_from, cases_lt, cases_order, leb-true, le-leb, ltb-true, lt-ltb, eqb-true, eq-eqb}
use Rattle.std.proofs.lemmas.List.Elements.{All-cons, All-weaker}
use Rattle.mz_base.specs.declared.range.TheConstants.{PAGE}
use Rattle.mz_base.specs.Space.{Block, Run, block_at, block_end, run_end, blocks_apart, least_multiple, units_for, same_block}
use Rattle.mz_base.specs.Lists.{has_block, size_sum}
use Rattle.std.proofs.lemmas.List.Sums.{sum_by-cons}
use Rattle.mz_base.specs.Room.{lies_in, is_front_of}
use Rattle.mz_holding.specs.declared.extent.Extent.{Extent}
use Rattle.mz_holding.specs.HeldRuns.{block_of}
use Rattle.mz_holding.specs.Gaps.{IsGap, AreSpread, far}
use Rattle.mz_holding.proofs.GapLemmas.{HaveBytes, bool_same, same_self, all_has, apart_in_gap, front_in_gap, front_is_in_gap, gap_lower, gap_upper, multiple-above}
use Rattle.mz_holding.proofs.NeighbourLemmas.{spread_bytes}
use Rattle.mz_holding.proofs.SpreadLemmas.{pairwise}
use Rattle.mz_holding.proofs.PartLemmas.{all_at, all_from}

-- the n bytes from a lie between low and high
abbrev pub lies_from : ℕ → ℕ → ℕ → ℕ → Bool
lies_from low high a n = nat_le low a && nat_le a high && nat_le n (high - a)

pub lies_from_parts : (low high a n : ℕ) → lies_from low high a n ≡ true → (low ≤ a) × (a + n ≤ high)
lies_from_parts low high a n h =
    let outer = and_parts (nat_le low a && nat_le a high) (nat_le n (high - a)) h in
    let inner = and_parts (nat_le low a) (nat_le a high) outer.0 in
    let left = leb-true a high inner.1 in
    let room = leb-true n (high - a) outer.1 in
    (leb-true low a inner.0, omega arith)

pub parts_lies_from : (low high a n : ℕ) → low ≤ a → a + n ≤ high → lies_from low high a n ≡ true
parts_lies_from low high a n from to = and_from (nat_le low a && nat_le a high) (nat_le n (high - a)) (and_from (nat_le low a) (nat_le a high) (le-leb low a from) (le-leb a high (omega arith))) (le-leb n (high - a) (omega arith))

-- CLIP: a gap among all bytes is one of a stretch, where it is cut at its ends
pub clip : (start end : ℕ) (live : List Block) (a low high : ℕ) → end ≤ far → IsGap 0 far live a low high → IsGap start end live a (max low start) (min high end)
clip start end live a low high top gap = record {
  none = All-weaker (λ c. (block_end c ≤ low) ⊎ (high ≤ c.first)) (λ c. (block_end c ≤ max low start) ⊎ (min high end ≤ c.first)) (λ c h. elim h [ inl before ↦ inl (omega arith) | inr behind ↦ inr (omega arith) ]) live gap.none;
  below = elim (cases_lt start low) [
    | inr not_less ↦ inl (omega arith)
    | inl less ↦ elim gap.below [
      | inl zero ↦ inl (omega arith)
      | inr at ↦ let is = at.3 in inr (at.0, at.1, at.2, omega arith)
    ]
  ];
  above = elim (cases_lt high end) [
    | inr not_less ↦ inl (omega arith)
    | inl less ↦ elim gap.above [
      | inl most ↦ inl (omega arith)
      | inr at ↦ let is = at.3 in inr (at.0, at.1, at.2, omega arith)
    ]
  ];
}

module _ (r : Run) (live : List Block) (a n low high : ℕ) (spread : AreSpread live) (some : 1 ≤ n) (above : r.first * PAGE ≤ a) (below : a < run_end r * PAGE) (from : r.first * PAGE ≤ low) (to : high ≤ run_end r * PAGE) where
  -- the bytes lie in the run
  lies_true : a + n ≤ run_end r * PAGE → lies_in r a (a + n) ≡ true
  lies_true fits = and_from (nat_le (r.first * PAGE) a) (nat_le (a + n) (run_end r * PAGE)) (le-leb (r.first * PAGE) a above) (le-leb (a + n) (run_end r * PAGE) fits)

  lies_fits : lies_in r a (a + n) ≡ true → a + n ≤ run_end r * PAGE
  lies_fits h = leb-true (a + n) (run_end r * PAGE) (and_parts (nat_le (r.first * PAGE) a) (nat_le (a + n) (run_end r * PAGE)) h).1

  -- CLEAR: they do so and meet no block exactly where they lie in the gap
  pub clear_in_gap : IsGap (r.first * PAGE) (run_end r * PAGE) live a low high → lies_from low high a n ≡ (lies_in r a (a + n) && list_all (λ c. blocks_apart c (block_at a n)) live)
  clear_in_gap gap = bool_same (lies_from low high a n) (lies_in r a (a + n) && list_all (λ c. blocks_apart c (block_at a n)) live)
      (λ h.
      let parts = lies_from_parts low high a n h in
      let left = parts.0 in
      let right = parts.1 in
      let fits : a + n ≤ run_end r * PAGE = omega arith in
      and_from (lies_in r a (a + n)) (list_all (λ c. blocks_apart c (block_at a n)) live) (lies_true fits)
      (apart_in_gap (r.first * PAGE) (run_end r * PAGE) live (block_at a n) low high gap (spread_bytes live spread) some above fits ∙ and_from (nat_le low a) (nat_le (a + n) high) (le-leb low a left) (le-leb (a + n) high right)))
      (λ h.
      let parts = and_parts (lies_in r a (a + n)) (list_all (λ c. blocks_apart c (block_at a n)) live) h in
      let inside = and_parts (nat_le low a) (nat_le (a + n) high) (sym (apart_in_gap (r.first * PAGE) (run_end r * PAGE) live (block_at a n) low high gap (spread_bytes live spread) some above (lies_fits parts.0)) ∙ parts.1) in
      parts_lies_from low high a n (leb-true low a inside.0) (leb-true (a + n) high inside.1))

  -- BUT: the same, where a block that begins at a is left aside
  pub clear_but_in_gaps : (top bottom : ℕ) → IsGap (r.first * PAGE) (run_end r * PAGE) live a low top → IsGap (r.first * PAGE) (run_end r * PAGE) live (a + 1) bottom high → lies_from low high a n ≡ (lies_in r a (a + n) && list_all (λ c. (c.first == a) || blocks_apart c (block_at a n)) live)
  clear_but_in_gaps top bottom gap next = bool_same (lies_from low high a n) (lies_in r a (a + n) && list_all (λ c. (c.first == a) || blocks_apart c (block_at a n)) live)
      (λ h.
      let parts = lies_from_parts low high a n h in
      let left = parts.0 in
      let right = parts.1 in
      let fits : a + n ≤ run_end r * PAGE = omega arith in
      and_from (lies_in r a (a + n)) (list_all (λ c. (c.first == a) || blocks_apart c (block_at a n)) live) (lies_true fits)
      (all_from (λ c. (c.first == a) || blocks_apart c (block_at a n)) live (λ c there. each c there left right)))
      (λ h.
      let parts = and_parts (lies_in r a (a + n)) (list_all (λ c. (c.first == a) || blocks_apart c (block_at a n)) live) h in
      let fits = lies_fits parts.0 in
      parts_lies_from low high a n (elim gap.below [
        | inl none ↦ omega arith
        | inr at ↦ let is = at.3 in let less = at.2 in elim (numbers at.0 (all_at (λ c. (c.first == a) || blocks_apart c (block_at a n)) live at.0 parts.1 at.1)) [
          | inl same ↦ absurd (omega arith)
          | inr apart ↦ elim apart [ inl before ↦ omega arith | inr behind ↦ absurd (omega arith) ]
        ]
      ]) (elim next.above [
        | inl none ↦ omega arith
        | inr at ↦ let is = at.3 in let more = at.2 in elim (numbers at.0 (all_at (λ c. (c.first == a) || blocks_apart c (block_at a n)) live at.0 parts.1 at.1)) [
          | inl same ↦ absurd (omega arith)
          | inr apart ↦ elim apart [ inl before ↦ absurd (omega arith) | inr behind ↦ omega arith ]
        ]
      ]))
    where
      numbers : (c : Block) → ((c.first == a) || blocks_apart c (block_at a n)) ≡ true → (c.first ≡ a) ⊎ ((block_end c ≤ a) ⊎ (a + n ≤ c.first))
      numbers c h = elim (or_cases (c.first == a) (blocks_apart c (block_at a n)) h) [
        | inl here ↦ inl (eqb-true c.first a here)
        | inr apart ↦ elim (or_cases (nat_le (block_end c) a) (nat_le (a + n) c.first) apart) [
          | inl before ↦ inr (inl (leb-true (block_end c) a before))
          | inr behind ↦ inr (inr (leb-true (a + n) c.first behind))
        ]
      ]

      before_it : (c : Block) → block_end c ≤ a → ((c.first == a) || blocks_apart c (block_at a n)) ≡ true
      before_it c less = or_right (c.first == a) (blocks_apart c (block_at a n)) (or_left (nat_le (block_end c) a) (nat_le (a + n) c.first) (le-leb (block_end c) a less))

      behind_it : (c : Block) → a + n ≤ c.first → ((c.first == a) || blocks_apart c (block_at a n)) ≡ true
      behind_it c more = or_right (c.first == a) (blocks_apart c (block_at a n)) (or_right (nat_le (block_end c) a) (nat_le (a + n) c.first) (le-leb (a + n) c.first more))

      each : (c : Block) → has_block live c ≡ true → low ≤ a → a + n ≤ high → ((c.first == a) || blocks_apart c (block_at a n)) ≡ true
      each c there left right =
          let one : 1 ≤ c.size = all_has (λ d. 1 ≤ d.size) live c (spread_bytes live spread) there in
          elim (cases_order c.first a) [
            | inl same ↦ or_left (c.first == a) (blocks_apart c (block_at a n)) (eq-eqb c.first a same)
            | inr other ↦ elim other [
              | inl less ↦ before_it c (elim (all_has (λ d. (block_end d ≤ low) ⊎ (top ≤ d.first)) live c gap.none there) [
                | inl before ↦ omega arith
                | inr behind ↦ elim gap.above [ inl most ↦ absurd (omega arith) | inr at ↦ let is = at.3 in let up = at.2 in absurd (omega arith) ]
              ])
              | inr more ↦ behind_it c (elim (all_has (λ d. (block_end d ≤ bottom) ⊎ (high ≤ d.first)) live c next.none there) [
                | inr behind ↦ omega arith
                | inl before ↦ elim next.below [
                  | inl none ↦ absurd (omega arith)
                  | inr at ↦
                      let is = at.3 in
                      let less = at.2 in
                      elim (pairwise live c at.0 spread there at.1) [
                        | inl same ↦ let first : c.first ≡ at.0.first = ap (λ (d : Block). d.first) same in absurd (omega arith)
                        | inr apart ↦ elim apart [ inl lower ↦ absurd (omega arith) | inr upper ↦ absurd (omega arith) ]
                      ]
                ]
              ])
            ]
          ]

-- the least multiple is a exactly where a is at or above x by less than al
pub least_is : (al x a : ℕ) → 1 ≤ al → a % al ≡ 0 → (least_multiple al x == a) ≡ (nat_le x a && nat_lt (a - x) al)
least_is al x a whole aligned = bool_same (least_multiple al x == a) (nat_le x a && nat_lt (a - x) al)
    (λ h.
    let is : least_multiple al x ≡ a = eqb-true (least_multiple al x) a h in
    let up = multiple-above al x whole in
    let near : least_multiple al x < x + al = omega arith in
    and_from (nat_le x a) (nat_lt (a - x) al) (le-leb x a (omega arith)) (lt-ltb (a - x) al (omega arith)))
    (λ h.
    let parts = and_parts (nat_le x a) (nat_lt (a - x) al) h in
    let below : x ≤ a = leb-true x a parts.0 in
    let near : a - x < al = ltb-true (a - x) al parts.1 in
    let up = multiple-above al x whole in
    let quotient : a / al ≡ units_for al x = elim (cases_lt (units_for al x) (a / al)) [
      | inl less ↦ let more : (units_for al x + 1) * al ≤ a / al * al = mul-le-mul_right al (omega arith) in absurd (omega arith)
      | inr not_less ↦ elim (cases_lt (a / al) (units_for al x)) [
        | inl less ↦ let more : (a / al + 1) * al ≤ units_for al x * al = mul-le-mul_right al (omega arith) in absurd (omega arith)
        | inr same ↦ omega arith
      ]
    ] in
    eq-eqb (least_multiple al x) a (sym (ap (λ q. q * al) quotient) ∙ whole_is))
  where
    whole_is : a / al * al ≡ a
    whole_is = omega arith

-- the n bytes from a are at the front between low and high
abbrev pub is_near_from : ℕ → ℕ → ℕ → ℕ → ℕ → Bool
is_near_from low high a n al = nat_le low a && nat_lt (a - low) al && nat_le a high && nat_le n (high - a)

-- FRONT: a block is at a front exactly where it is so in the gap
pub front_is_near : (r : Run) (live : List Block) (a n al low high : ℕ) → HaveBytes live → 1 ≤ n → 1 ≤ al → a % al ≡ 0 → r.first * PAGE ≤ low → high ≤ run_end r * PAGE → IsGap (r.first * PAGE) (run_end r * PAGE) live a low high → is_near_from low high a n al ≡ is_front_of r live (block_at a n) al
front_is_near r live a n al low high bytes some whole aligned from to gap =
    bool_same (is_near_from low high a n al) (front_in_gap r low high (block_at a n) al)
    (λ h.
    let one = and_parts (nat_le low a && nat_lt (a - low) al && nat_le a high) (nat_le n (high - a)) h in
    let two = and_parts (nat_le low a && nat_lt (a - low) al) (nat_le a high) one.0 in
    let left = leb-true a high two.1 in
    let room = leb-true n (high - a) one.1 in
    let is : max (r.first * PAGE) low ≡ low = omega arith in
    subst (λ x. ((least_multiple al x == a) && lies_in r x (a + n) && nat_le (a + n) high) ≡ true) (sym is)
    (and_from ((least_multiple al low == a) && lies_in r low (a + n)) (nat_le (a + n) high)
    (and_from (least_multiple al low == a) (lies_in r low (a + n)) (least_is al low a whole aligned ∙ two.0)
    (and_from (nat_le (r.first * PAGE) low) (nat_le (a + n) (run_end r * PAGE)) (le-leb (r.first * PAGE) low from) (le-leb (a + n) (run_end r * PAGE) (omega arith))))
    (le-leb (a + n) high (omega arith))))
    (λ h.
    let is : max (r.first * PAGE) low ≡ low = omega arith in
    let g = subst (λ x. ((least_multiple al x == a) && lies_in r x (a + n) && nat_le (a + n) high) ≡ true) is h in
    let one = and_parts ((least_multiple al low == a) && lies_in r low (a + n)) (nat_le (a + n) high) g in
    let two = and_parts (least_multiple al low == a) (lies_in r low (a + n)) one.0 in
    let most = leb-true (a + n) high one.1 in
    and_from (nat_le low a && nat_lt (a - low) al && nat_le a high) (nat_le n (high - a))
    (and_from (nat_le low a && nat_lt (a - low) al) (nat_le a high) (sym (least_is al low a whole aligned) ∙ two.0) (le-leb a high (omega arith))) (le-leb n (high - a) (omega arith)))
    ∙ sym (front_is_in_gap r live (block_at a n) al whole low high gap bytes some)

-- so many bytes lie before the least multiple
pub pad_is : (al x pad : ℕ) → 1 ≤ al → (x + pad) % al ≡ 0 → pad < al → x + pad ≡ least_multiple al x
pad_is al x pad whole aligned less = sym (eqb-true (least_multiple al x) (x + pad) (least_is al x (x + pad) whole aligned ∙ and_from (nat_le x (x + pad)) (nat_lt (x + pad - x) al) (le-leb x (x + pad) (omega arith)) (lt-ltb (x + pad - x) al (omega arith))))

pub pad_over : (al x : ℕ) → 1 ≤ al → (x + (al - x % al)) % al ≡ 0
pad_over al x whole =
    let split = div-add-mod' x al in
    let less = mod-lt x whole in
    let is : x + (al - x % al) ≡ (x / al + 1) * al = omega arith in
    ap (λ y. y % al) is ∙ mul-mod_left (x / al + 1) al

-- the last freed block beside the live ones, where there is one
abbrev pub beside : Option Extent → List Block → List Block
beside o live = option_to_list (option_map block_of o) ++ live

module _ (r : Run) (live : List Block) (a n al low high : ℕ) (spread : AreSpread live) (some : 1 ≤ n) (whole : 1 ≤ al) (aligned : a % al ≡ 0) (from : r.first * PAGE ≤ low) (to : high ≤ run_end r * PAGE) (gap : IsGap (r.first * PAGE) (run_end r * PAGE) live a low high) where
  abbrev in_wide : Bool
  in_wide = is_front_of r live (block_at a n) al

  abbrev in_narrow : Option Extent → Bool
  in_narrow o = is_front_of r (beside o live) (block_at a n) al

  near_is : is_near_from low high a n al ≡ in_wide
  near_is = front_is_near r live a n al low high (spread_bytes live spread) some whole aligned from to gap

  pub front_found : (o : Option Extent) → is_near_from low high a n al ≡ true → true ≡ (in_wide || in_narrow o)
  front_found o h = sym (or_left in_wide (in_narrow o) (sym near_is ∙ h))

  pub front_alone : (o : Option Extent) → is_near_from low high a n al ≡ false → o ≡ None → false ≡ (in_wide || in_narrow o)
  front_alone o h none = subst (λ q. false ≡ (in_wide || in_narrow q)) (sym none) (sym (or_from in_wide in_wide wide_no wide_no))
    where
      wide_no : in_wide ≡ false
      wide_no = sym near_is ∙ h

  beside_is : (o : Option Extent) (e : Extent) (t : Bool) → is_near_from low high a n al ≡ false → o ≡ Some e → t ≡ in_narrow (Some e) → t ≡ (in_wide || in_narrow o)
  beside_is o e t h is yes_ = yes_ ∙ ap (λ w. w || in_narrow (Some e)) (sym (sym near_is ∙ h)) ∙ ap (λ q. in_wide || in_narrow q) (sym is)

  beside_bytes : (o : Option Extent) (e : Extent) → o ≡ Some e → IfSome o (λ d. 1 ≤ d.len) → HaveBytes (block_of e ∷ live)
  beside_bytes o e is byte = All-cons (λ c. 1 ≤ c.size) (block_of e) live (subst (λ q. IfSome q (λ d. 1 ≤ d.len)) is byte) (spread_bytes live spread)

  pub front_lower : (o : Option Extent) (e : Extent) (t : Bool) → is_near_from low high a n al ≡ false → o ≡ Some e → IfSome o (λ d. 1 ≤ d.len) → e.first < a → t ≡ is_near_from (max low (e.first + e.len)) high a n al → t ≡ (in_wide || in_narrow o)
  front_lower o e t h is byte less near = beside_is o e t h is (near ∙ front_is_near r (block_of e ∷ live) a n al (max low (e.first + e.len)) high (beside_bytes o e is byte) some whole aligned (omega arith) to (gap_lower (r.first * PAGE) (run_end r * PAGE) live a low high (block_of e) gap less))

  pub front_upper : (o : Option Extent) (e : Extent) (t : Bool) → is_near_from low high a n al ≡ false → o ≡ Some e → IfSome o (λ d. 1 ≤ d.len) → a ≤ e.first → t ≡ is_near_from low (min high e.first) a n al → t ≡ (in_wide || in_narrow o)
  front_upper o e t h is byte more near = beside_is o e t h is (near ∙ front_is_near r (block_of e ∷ live) a n al low (min high e.first) (beside_bytes o e is byte) some whole aligned from (omega arith) (gap_upper (r.first * PAGE) (run_end r * PAGE) live a low high (block_of e) gap more))

-- BYTES: blocks that are apart have no more bytes than the stretch in which they lie
pub bytes_within : (start end : ℕ) (live : List Block) → AreSpread live → start ≤ end → ((c : Block) → has_block live c ≡ true → (start ≤ c.first) × (block_end c ≤ end)) → start + size_sum live ≤ end
bytes_within start end [] spread room within = omega arith
bytes_within start end (b ∷ bs) spread room within =
    let here = within b (or_left (same_block b b) (has_block bs b) (same_self b)) in
    let from = here.0 in
    let to = here.1 in
    let rest = bytes_within (block_end b) end bs spread.3 to (λ c there. (all_has (λ d. block_end b ≤ d.first) bs c spread.2 there, (within c (or_right (same_block c b) (has_block bs c) there)).1)) in
    let split = sum_by-cons (λ (c : Block). c.size) b bs in
    omega arith
