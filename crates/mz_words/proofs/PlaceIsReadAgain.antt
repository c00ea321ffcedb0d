-- Places, bytes and ranges are read again from the words that they are written as.
use Rattle.std.proofs.Common.{◌≡◌, ℕ, ◌+◌, ◌*◌, ◌/◌, ◌%◌, ◌<◌, ◌≤◌, ◌^◌, Bool, true, false, List, [], ◌∷◌, ◌++◌, length, take, drop, eqb, ltb, cond, arith, refl, sym, ap, ◌∙◌, inl, inr, Option, Some, codes}
use Rattle.std.specs.Prelude.{not, position}
use Rattle.std.specs.List.{list_all}
use Rattle.std.specs.Fmt.{decimal}
use Rattle.std.specs.Str.{bytes_eq}
use Rattle.std.proofs.lemmas.Bool.{and_parts, and_left, ltb-true, cases_Bool}
use Rattle.std.proofs.lemmas.Bool.Decides.{nat_tests}
use Rattle.std.proofs.lemmas.List.{append_assoc}
use Rattle.std.proofs.Math.Seq.{take-append_seam, drop-append_seam}
use Rattle.mz_base.specs.Names.{is_digit}
use Rattle.mz_events.specs.declared.place.Place.{Place}
use Rattle.mz_words.specs.Numbers.{is_from, are_digits, ◌>>=◌, small_number_of, is_u32}
use Rattle.mz_base.specs.declared.range.Range.{Range}
use Rattle.mz_base.specs.declared.range.Range.TheVariants as range
use Rattle.mz_words.specs.Ranges.{range_word, is_listed_range, range_of}
use Rattle.mz_words.specs.Places.{place_word, place_in, zone_place_of, place_of, place_fits}
use Rattle.mz_words.specs.Hex.{hex_digit, hex_word, hex_value, bytes_of, shown_of, are_shown}
use Rattle.mz_words.proofs.NumberLemmas.{number_parts, all_digits, is_number-decimal}
use Rattle.mz_words.proofs.NumberIsReadAgain.{limited_again, found_at}
use Rattle.mz_events.specs.declared.place.Place.TheVariants as place

-- numbers of zones and magazines
pub small_again : (n : ℕ) → is_u32 n ≡ true → small_number_of (decimal n) ≡ Some n
small_again n h =
    let below : n < 2 ^ 32 = ltb-true _ _ h in
    let limits : is_from 0 4294967295 n ≡ true = grind (arith, nat_tests) in
    limited_again 0 4294967295 n limits (omega arith)

pub digits_of_small : (n : ℕ) → is_u32 n ≡ true → are_digits (decimal n) ≡ true
digits_of_small n h =
    let below : n < 2 ^ 32 = ltb-true _ _ h in
    (number_parts (decimal n) (is_number-decimal n (omega arith))).digits

-- a word that begins with a digit isn't one that begins with a letter
digit_is_no : (c x : ℕ) → is_digit c ≡ true → 57 < x → eqb c x ≡ false
digit_is_no c x h lt = grind (arith, nat_tests)

pub digits_are_no : (w rest xs : List ℕ) (x : ℕ) → are_digits w ≡ true → 57 < x → bytes_eq (w ++ rest) (x ∷ xs) ≡ false
digits_are_no [] rest xs x h lt = absurd (cc)
digits_are_no (c ∷ cs) rest xs x h lt =
    let parts = and_parts (is_digit c) (list_all is_digit cs) h in
    and_left (eqb c x) _ (digit_is_no c x parts.0 lt)

not_not : (cs : List ℕ) → list_all is_digit cs ≡ true → list_all (λ c. not (not (is_digit c))) cs ≡ true
not_not [] h = refl
not_not (c ∷ cs) h =
    let parts = and_parts (is_digit c) (list_all is_digit cs) h in
    rw parts.0 (not_not cs parts.1)

-- a place of a zone: its number, and what stands behind it
zone_place : (z c : ℕ) (cs : List ℕ) → is_u32 z ≡ true → is_digit c ≡ false → place_of (decimal z ++ c ∷ cs) ≡ place_in z (c ∷ cs)
zone_place z c cs h other =
    let digits = digits_of_small z h in
    let w = decimal z ++ c ∷ cs in
    let at : position (λ x. not (is_digit x)) w ≡ Some (length (decimal z)) =
    found_at (λ x. not (is_digit x)) (decimal z) c cs (not_not (decimal z) (all_digits (decimal z) digits)) (ap not other) in
    ap (λ (t : Bool). cond t (Some place.Pages) (cond (bytes_eq w (codes "n")) (Some place.Nano) (zone_place_of w))) (digits_are_no (decimal z) (c ∷ cs) [] 112 digits (omega arith))
    ∙ ap (λ (t : Bool). cond t (Some place.Nano) (zone_place_of w)) (digits_are_no (decimal z) (c ∷ cs) [] 110 digits (omega arith))
    ∙ ap (λ (o : Option ℕ). o >>= λ i. small_number_of (take i w) >>= λ zone. place_in zone (drop i w)) at
    ∙ ap (λ (v : List ℕ). small_number_of v >>= λ zone. place_in zone (drop (length (decimal z)) w)) (take-append_seam (decimal z) (c ∷ cs))
    ∙ ap (λ (o : Option ℕ). o >>= λ zone. place_in zone (drop (length (decimal z)) w)) (small_again z h)
    ∙ ap (λ (v : List ℕ). place_in z v) (drop-append_seam (decimal z) (c ∷ cs))

pub nothing_behind : (w : List ℕ) → w ++ [] ≡ w
nothing_behind [] = refl
nothing_behind (c ∷ cs) = ap (λ (x : List ℕ). c ∷ x) (nothing_behind cs)

no_depot : (m : ℕ) → is_u32 m ≡ true → bytes_eq (decimal m) (codes "d") ≡ false
no_depot m h = ap (λ (w : List ℕ). bytes_eq w (codes "d")) (sym (nothing_behind (decimal m))) ∙ digits_are_no (decimal m) [] [] 100 (digits_of_small m h) (omega arith)

tiny_again : (z m : ℕ) → is_u32 m ≡ true → place_in z (116 ∷ decimal m) ≡ Some (place.Tiny z m)
tiny_again z m h = rw (no_depot m h, small_again m h) refl

small_place_again : (z m : ℕ) → is_u32 m ≡ true → place_in z (115 ∷ decimal m) ≡ Some (place.Small z m)
small_place_again z m h = rw (no_depot m h, small_again m h) refl

pub place_again : (k : Place) → place_fits k ≡ true → place_of (place_word k) ≡ Some k
place_again place.Pages h = refl
place_again (place.Tiny z m) h =
    let p = and_parts (is_u32 z) (is_u32 m) h in
    ap place_of (append_assoc (decimal z) (codes "t") (decimal m)) ∙ zone_place z 116 (decimal m) p.0 refl ∙ tiny_again z m p.1
place_again (place.TinyDepot z) h = zone_place z 116 (100 ∷ []) h refl
place_again (place.Small z m) h =
    let p = and_parts (is_u32 z) (is_u32 m) h in
    ap place_of (append_assoc (decimal z) (codes "s") (decimal m)) ∙ zone_place z 115 (decimal m) p.0 refl ∙ small_place_again z m p.1
place_again (place.SmallDepot z) h = zone_place z 115 (100 ∷ []) h refl
place_again (place.Large z) h = zone_place z 108 [] h refl
place_again place.Nano h = refl

-- hexadecimal digits
low_digit : (n : ℕ) → n < 10 → hex_value (48 + n) ≡ Some n
low_digit n h = grind (arith, nat_tests)

high_digit : (n : ℕ) → n < 16 → 10 ≤ n → hex_value (87 + n) ≡ Some n
high_digit n h k = grind (arith, nat_tests)

digit_again : (n : ℕ) → n < 16 → hex_value (hex_digit n) ≡ Some n
digit_again n h =
    elim (cases_Bool (ltb n 10)) [
      | inl low ↦ rw low (low_digit n (ltb-true _ _ low))
      | inr high ↦ rw high (high_digit n h (grind (arith, nat_tests)))
    ]

pub bytes_again : (bs : List ℕ) → list_all (is_from 0 255) bs ≡ true → bytes_of (hex_word bs) ≡ Some bs
bytes_again [] h = refl
bytes_again (b ∷ bs) h =
    let parts = and_parts (is_from 0 255 b) (list_all (is_from 0 255) bs) h in
    let byte : b ≤ 255 = grind (arith, nat_tests) in
    let high : b / 16 < 16 = omega arith in
    let low : b % 16 < 16 = omega arith in
    let whole : 16 * (b / 16) + b % 16 ≡ b = omega arith in
    rw (digit_again (b / 16) high, digit_again (b % 16) low, bytes_again bs parts.1) (ap (λ (x : ℕ). Some (x ∷ bs)) whole)

pub shown_again : (bs : List ℕ) → are_shown bs ≡ true → shown_of (hex_word bs) ≡ Some bs
shown_again bs h =
    let parts = and_parts (list_all (is_from 0 255) bs) (is_from 1 64 (length bs)) h in
    rw (bytes_again bs parts.0, parts.1) refl

-- ranges
pub range_again : (r : Range) → is_listed_range r ≡ true → range_of (range_word r) ≡ Some r
range_again range.Nano h = refl
range_again range.Tiny h = refl
range_again range.Small h = refl
range_again range.Medium h = absurd cc
range_again range.Large h = refl
