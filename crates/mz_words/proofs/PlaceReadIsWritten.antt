-- A word that is read as a place, as bytes or as a range is how these are written.
use Rattle.std.proofs.Common.{◌≡◌, ℕ, ◌+◌, ◌-◌, ◌*◌, ◌/◌, ◌%◌, ◌<◌, ◌≤◌, true, false, List, [], ◌∷◌, ◌++◌, length, take, drop, eqb, ltb, leb, cond, arith, refl, sym, ap, ◌∙◌, inl, inr, Some, None, codes}
use Rattle.std.specs.Prelude.{not, ◌&&◌, position}
use Rattle.std.specs.List.{list_all}
use Rattle.std.specs.Fmt.{decimal}
use Rattle.std.specs.Str.{bytes_eq}
use Rattle.std.proofs.lemmas.Bool.{and_parts, and_from, lt-ltb, le-ltb, leb-true, eqb-true}
use Rattle.std.proofs.lemmas.Bool.Decides.{nat_tests}
use Rattle.std.proofs.lemmas.List.{append_assoc, take-append-drop, nil_from_length}
use Rattle.mz_base.specs.Names.{is_digit}
use Rattle.mz_events.specs.declared.place.Place.{Place}
use Rattle.mz_words.specs.Numbers.{is_from, ◌>>=◌, small_number_of, is_u32}
use Rattle.mz_base.specs.declared.range.Range.{Range}
use Rattle.mz_base.specs.declared.range.Range.TheVariants as range
use Rattle.mz_words.specs.Ranges.{range_word, is_listed_range, range_of}
use Rattle.mz_words.specs.Places.{place_word, place_in, zone_place_of, place_of, place_fits}
use Rattle.mz_words.specs.Hex.{hex_digit, hex_word, hex_value, bytes_of, shown_of, are_shown}
use Rattle.mz_words.proofs.ReadIsWritten.{bind_parts, some_same, if_parts, if_else, same_word, limited_spelled}
use Rattle.mz_events.specs.declared.place.Place.TheVariants as place

pub small_spelled : (w : List ℕ) (n : ℕ) → small_number_of w ≡ Some n → (w ≡ decimal n) × (is_u32 n ≡ true)
small_spelled w n h =
    let p = limited_spelled 0 4294967295 w n h in
    let limits : is_from 0 4294967295 n ≡ true = p.1 in
    let most : n ≤ 4294967295 = leb-true _ _ (and_parts (leb 0 n) (leb n 4294967295) limits).1 in
    (p.0, lt-ltb _ _ (omega arith))

-- places
pub record PlaceSpelled (w : List ℕ) (k : Place) : Type 0 where
  pub word : w ≡ place_word k
  pub fits : place_fits k ≡ true

is_place : (w : List ℕ) (j k : Place) → j ≡ k → w ≡ place_word j → place_fits j ≡ true → PlaceSpelled w k
is_place w j k same word fits = record { word = word ∙ ap place_word same; fits = ap place_fits (sym same) ∙ fits }

behind_zone : (z c x : ℕ) (rest v : List ℕ) → eqb c x ≡ true → rest ≡ v → decimal z ++ c ∷ rest ≡ decimal z ++ x ∷ v
behind_zone z c x rest v h e = ap (λ (d : ℕ). decimal z ++ d ∷ rest) (eqb-true c x h) ∙ ap (λ (r : List ℕ). decimal z ++ x ∷ r) e

tiny_spelled :
    (z c : ℕ) (rest : List ℕ) (k : Place) → is_u32 z ≡ true → eqb c 116 ≡ true
    → cond (bytes_eq rest (codes "d")) (Some (place.TinyDepot z)) (small_number_of rest >>= λ mag. Some (place.Tiny z mag)) ≡ Some k → PlaceSpelled (decimal z ++ c ∷ rest) k
tiny_spelled z c rest k hz hc h =
    elim (if_else (bytes_eq rest (codes "d")) _ _ k h) [
      | inl p ↦ is_place _ (place.TinyDepot z) k (some_same _ k p.1) (behind_zone z c 116 rest (codes "d") hc (same_word rest (codes "d") p.0)) hz
      | inr q ↦
          let m = bind_parts (small_number_of rest) _ k q in
          let s = small_spelled rest m.0 m.1 in
          is_place _ (place.Tiny z m.0) k (some_same _ k m.2)
          (behind_zone z c 116 rest (decimal m.0) hc s.0 ∙ sym (append_assoc (decimal z) (codes "t") (decimal m.0))) (and_from _ _ hz s.1)
    ]

small_place_spelled :
    (z c : ℕ) (rest : List ℕ) (k : Place) → is_u32 z ≡ true → eqb c 115 ≡ true
    → cond (bytes_eq rest (codes "d")) (Some (place.SmallDepot z)) (small_number_of rest >>= λ mag. Some (place.Small z mag)) ≡ Some k → PlaceSpelled (decimal z ++ c ∷ rest) k
small_place_spelled z c rest k hz hc h =
    elim (if_else (bytes_eq rest (codes "d")) _ _ k h) [
      | inl p ↦ is_place _ (place.SmallDepot z) k (some_same _ k p.1) (behind_zone z c 115 rest (codes "d") hc (same_word rest (codes "d") p.0)) hz
      | inr q ↦
          let m = bind_parts (small_number_of rest) _ k q in
          let s = small_spelled rest m.0 m.1 in
          is_place _ (place.Small z m.0) k (some_same _ k m.2)
          (behind_zone z c 115 rest (decimal m.0) hc s.0 ∙ sym (append_assoc (decimal z) (codes "s") (decimal m.0))) (and_from _ _ hz s.1)
    ]

large_spelled :
    (z c : ℕ) (rest : List ℕ) (k : Place) → is_u32 z ≡ true → cond (eqb c 108 && eqb (length rest) 0) (Some (place.Large z)) None ≡ Some k → PlaceSpelled (decimal z ++ c ∷ rest) k
large_spelled z c rest k hz h =
    let p = if_parts (eqb c 108 && eqb (length rest) 0) (place.Large z) k h in
    let q = and_parts (eqb c 108) (eqb (length rest) 0) p.0 in
    is_place _ (place.Large z) k p.1 (behind_zone z c 108 rest [] q.0 (nil_from_length rest (eqb-true (length rest) 0 q.1))) hz

place_in_spelled : (z : ℕ) (rest : List ℕ) (k : Place) → is_u32 z ≡ true → place_in z rest ≡ Some k → PlaceSpelled (decimal z ++ rest) k
place_in_spelled z [] k hz h = absurd (cc)
place_in_spelled z (c ∷ rest) k hz h =
    elim (if_else (eqb c 116) _ _ k h) [
      | inl p ↦ tiny_spelled z c rest k hz p.0 p.1
      | inr q ↦ elim (if_else (eqb c 115) _ _ k q) [
        | inl p ↦ small_place_spelled z c rest k hz p.0 p.1
        | inr r ↦ large_spelled z c rest k hz r
      ]
    ]

zone_place_spelled : (w : List ℕ) (k : Place) → zone_place_of w ≡ Some k → PlaceSpelled w k
zone_place_spelled w k h =
    let i = bind_parts (position (λ c. not (is_digit c)) w) _ k h in
    let z = bind_parts (small_number_of (take i.0 w)) _ k i.2 in
    let s = small_spelled (take i.0 w) z.0 z.1 in
    let p = place_in_spelled z.0 (drop i.0 w) k s.1 z.2 in
    record { word = sym (take-append-drop i.0 w) ∙ ap (λ (v : List ℕ). v ++ drop i.0 w) s.0 ∙ p.word; fits = p.fits }

pub place_spelled : (w : List ℕ) (k : Place) → place_of w ≡ Some k → (w ≡ place_word k) × (place_fits k ≡ true)
place_spelled w k h =
    let s : PlaceSpelled w k = elim (if_else (bytes_eq w (codes "p")) _ _ k h) [
      | inl p ↦ is_place w place.Pages k (some_same _ k p.1) (same_word w (codes "p") p.0) refl
      | inr q ↦ elim (if_else (bytes_eq w (codes "n")) _ _ k q) [
        | inl p ↦ is_place w place.Nano k (some_same _ k p.1) (same_word w (codes "n") p.0) refl
        | inr r ↦ zone_place_spelled w k r
      ]
    ] in (s.word, s.fits)

-- hexadecimal digits
low_spelled : (c x : ℕ) → is_from 48 57 c ≡ true → c - 48 ≡ x → (c ≡ hex_digit x) × (x < 16)
low_spelled c x h e =
    let least : 48 ≤ c = leb-true _ _ (and_parts (leb 48 c) (leb c 57) h).0 in
    let most : c ≤ 57 = leb-true _ _ (and_parts (leb 48 c) (leb c 57) h).1 in
    let below : ltb x 10 ≡ true = lt-ltb _ _ (omega arith) in
    (rw below (omega arith), omega arith)

high_spelled : (c x : ℕ) → is_from 97 102 c ≡ true → c - 87 ≡ x → (c ≡ hex_digit x) × (x < 16)
high_spelled c x h e =
    let least : 97 ≤ c = leb-true _ _ (and_parts (leb 97 c) (leb c 102) h).0 in
    let most : c ≤ 102 = leb-true _ _ (and_parts (leb 97 c) (leb c 102) h).1 in
    let above : ltb x 10 ≡ false = le-ltb _ _ (omega arith) in
    (rw above (omega arith), omega arith)

digit_spelled : (c x : ℕ) → hex_value c ≡ Some x → (c ≡ hex_digit x) × (x < 16)
digit_spelled c x h =
    elim (if_else (is_from 48 57 c) _ _ x h) [
      | inl p ↦ low_spelled c x p.0 (some_same _ x p.1)
      | inr q ↦ let p = if_parts (is_from 97 102 c) (c - 87) x q in high_spelled c x p.0 p.1
    ]

pub record BytesSpelled (w bs : List ℕ) : Type 0 where
  pub word : w ≡ hex_word bs
  pub fits : list_all (is_from 0 255) bs ≡ true

are_bytes : (w cs bs : List ℕ) → cs ≡ bs → w ≡ hex_word cs → list_all (is_from 0 255) cs ≡ true → BytesSpelled w bs
are_bytes w cs bs same word fits = record { word = word ∙ ap hex_word same; fits = ap (list_all (is_from 0 255)) (sym same) ∙ fits }

pair_word : (a b x y : ℕ) (rest more : List ℕ) → a ≡ hex_digit x → b ≡ hex_digit y → x < 16 → y < 16 → rest ≡ hex_word more → a ∷ b ∷ rest ≡ hex_word ((16 * x + y) ∷ more)
pair_word a b x y rest more ea eb hx hy er =
    let high : x ≡ (16 * x + y) / 16 = omega arith in
    let low : y ≡ (16 * x + y) % 16 = omega arith in
    ap (λ (c : ℕ). c ∷ b ∷ rest) (ea ∙ ap hex_digit high) ∙ ap (λ (c : ℕ). hex_digit ((16 * x + y) / 16) ∷ c ∷ rest) (eb ∙ ap hex_digit low)
    ∙ ap (λ (r : List ℕ). hex_digit ((16 * x + y) / 16) ∷ hex_digit ((16 * x + y) % 16) ∷ r) er

bytes_spelled : (w bs : List ℕ) → bytes_of w ≡ Some bs → BytesSpelled w bs
bytes_spelled [] bs h = are_bytes [] [] bs (some_same [] bs h) refl refl
bytes_spelled (a ∷ []) bs h = absurd (cc)
bytes_spelled (a ∷ b ∷ rest) bs h =
    let x = bind_parts (hex_value a) _ bs h in
    let y = bind_parts (hex_value b) _ bs x.2 in
    let m = bind_parts (bytes_of rest) _ bs y.2 in
    let sx = digit_spelled a x.0 x.1 in
    let sy = digit_spelled b y.0 y.1 in
    let sm = bytes_spelled rest m.0 m.1 in
    let lx : x.0 < 16 = sx.1 in
    let ly : y.0 < 16 = sy.1 in
    let v = 16 * x.0 + y.0 in
    let byte : is_from 0 255 (16 * x.0 + y.0) ≡ true = grind (arith, nat_tests) in
    are_bytes (a ∷ b ∷ rest) ((16 * x.0 + y.0) ∷ m.0) bs (some_same _ bs m.2) (pair_word a b x.0 y.0 rest m.0 sx.0 sy.0 lx ly sm.word) (and_from _ _ byte sm.fits)

pub shown_spelled : (w bs : List ℕ) → shown_of w ≡ Some bs → (w ≡ hex_word bs) × (are_shown bs ≡ true)
shown_spelled w bs h =
    let b = bind_parts (bytes_of w) _ bs h in
    let p = if_parts (is_from 1 64 (length b.0)) b.0 bs b.2 in
    let s = bytes_spelled w b.0 b.1 in
    (s.word ∙ ap hex_word p.1, ap are_shown (sym p.1) ∙ and_from _ _ s.fits p.0)

-- ranges
is_range : (w : List ℕ) (q r : Range) → q ≡ r → w ≡ range_word q → is_listed_range q ≡ true → (w ≡ range_word r) × (is_listed_range r ≡ true)
is_range w q r same word fits = (word ∙ ap range_word same, ap is_listed_range (sym same) ∙ fits)

pub range_spelled : (w : List ℕ) (r : Range) → range_of w ≡ Some r → (w ≡ range_word r) × (is_listed_range r ≡ true)
range_spelled w r h = elim (if_else (bytes_eq w (codes "nano")) _ _ r h) [
  | inl p ↦ is_range w range.Nano r (some_same _ r p.1) (same_word w (codes "nano") p.0) refl
  | inr q ↦ elim (if_else (bytes_eq w (codes "tiny")) _ _ r q) [
    | inl p ↦ is_range w range.Tiny r (some_same _ r p.1) (same_word w (codes "tiny") p.0) refl
    | inr u ↦ elim (if_else (bytes_eq w (codes "small")) _ _ r u) [
      | inl p ↦ is_range w range.Small r (some_same _ r p.1) (same_word w (codes "small") p.0) refl
      | inr v ↦ let p = if_parts (bytes_eq w (codes "large")) range.Large r v in is_range w range.Large r p.1 (same_word w (codes "large") p.0) refl
    ]
  ]
]
