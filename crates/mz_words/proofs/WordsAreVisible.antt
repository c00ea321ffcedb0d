-- Words have neither spaces nor line feeds, and at most 21 bytes, but for those that show bytes.
use Rattle.std.proofs.Common.{◌≡◌, ℕ, ◌+◌, ◌<◌, ◌≤◌, ◌^◌, Bool, true, false, List, [], ◌∷◌, ◌++◌, length, ltb, leb, arith, refl, ◌∙◌, ◌/◌, ◌%◌, inl, inr}
use Rattle.std.specs.Prelude.{not, ◌&&◌}
use Rattle.std.specs.List.{list_all}
use Rattle.std.specs.Fmt.{decimal}
use Rattle.std.proofs.lemmas.Bool.{and_parts, and_from, ltb-true, leb-true, not-true, cases_Bool}
use Rattle.std.proofs.lemmas.Bool.Decides.{nat_tests}
use Rattle.std.proofs.lemmas.Fmt.{length-decimal-le}
use Rattle.std.proofs.lemmas.List.{length-append}
use Rattle.std.proofs.lemmas.List.Folds.{list_all-append}
use Rattle.mz_base.specs.Names.{is_base_name, is_letter, is_letter_or_digit, is_null, is_digit}
use Rattle.mz_base.specs.declared.range.Range.{Range}
use Rattle.mz_base.specs.declared.range.Range.TheVariants as range
use Rattle.mz_events.specs.declared.place.Place.{Place}
use Rattle.mz_events.specs.declared.place.Place.TheVariants as place
use Rattle.mz_words.specs.declared.name.Name.{Name}
use Rattle.mz_words.specs.declared.name.Name.TheVariants as name
use Rattle.mz_words.specs.Numbers.{is_from, is_u32}
use Rattle.mz_words.specs.Names.{name_word, name_fits}
use Rattle.mz_words.specs.Places.{place_word, place_fits}
use Rattle.mz_words.specs.Hex.{hex_digit, hex_word}
use Rattle.mz_words.specs.Lines.{is_visible, is_visible_word}
use Rattle.mz_words.specs.Ranges.{range_word}
use Rattle.mz_words.proofs.NumberIsReadAgain.{and_three}
use Rattle.mz_words.proofs.NumberLemmas.{is_number-decimal, number_parts, all_digits}

pub record IsBase (c : ℕ) (cs : List ℕ) : Type 0 where
  pub letter : is_letter c ≡ true
  pub rest : list_all is_letter_or_digit cs ≡ true
  pub few : length cs ≤ 15
  pub some : is_null (c ∷ cs) ≡ false

pub base_parts : (c : ℕ) (cs : List ℕ) → is_base_name (c ∷ cs) ≡ true → IsBase c cs
base_parts c cs h =
    let out = and_parts (is_letter c && list_all is_letter_or_digit cs && leb (length cs) 15) (not (is_null (c ∷ cs))) h in
    let front = and_three (is_letter c) (list_all is_letter_or_digit cs) (leb (length cs) 15) out.0 in
    record { letter = front.0; rest = front.1; few = leb-true _ _ front.2; some = not-true _ out.1 }

-- bytes that can be seen, and at most so many
pub record IsSeen (most : ℕ) (t : List ℕ) : Type 0 where
  pub visible : is_visible_word t ≡ true
  pub few : length t ≤ most

behind : (m n : ℕ) (s t : List ℕ) → IsSeen m s → IsSeen n t → IsSeen (m + n) (s ++ t)
behind m n s t h k = record {
  visible = list_all-append is_visible s t ∙ and_from _ _ h.visible k.visible;
  few = let a = h.few in let b = k.few in omega (arith, a, b, length-append s t);
}

within : (m : ℕ) (t : List ℕ) → m ≤ 21 → IsSeen m t → IsSeen 21 t
within m t le h = record { visible = h.visible; few = let few = h.few in omega (arith, few, le) }

all_visible : (p : ℕ → Bool) → ((c : ℕ) → p c ≡ true → is_visible c ≡ true) → (cs : List ℕ) → list_all p cs ≡ true → is_visible_word cs ≡ true
all_visible p each [] h = refl
all_visible p each (c ∷ cs) h = let parts = and_parts (p c) (list_all p cs) h in and_from _ _ (each c parts.0) (all_visible p each cs parts.1)

-- numbers
digits_seen : (digits n : ℕ) → 0 < digits → n < 10 ^ digits → n < 2 ^ 64 → IsSeen digits (decimal n)
digits_seen digits n some lt few = record {
  visible = all_visible is_digit (λ c h. grind (arith, nat_tests)) (decimal n) (all_digits (decimal n) (number_parts (decimal n) (is_number-decimal n few)).digits);
  few = length-decimal-le digits n some lt few;
}

pub number_seen : (n : ℕ) → n < 2 ^ 64 → IsSeen 20 (decimal n)
number_seen n lt = digits_seen 20 n (omega arith) (omega arith) lt

small_seen : (n : ℕ) → is_u32 n ≡ true → IsSeen 10 (decimal n)
small_seen n h = let lt : n < 2 ^ 32 = ltb-true _ _ h in digits_seen 10 n (omega arith) (omega arith) (omega arith)

-- names
pub base_seen : (w : List ℕ) → is_base_name w ≡ true → IsSeen 16 w
base_seen [] h = record { visible = refl; few = omega arith }
base_seen (c ∷ cs) h =
    let b = base_parts c cs h in
    let first : is_visible c ≡ true = let letter = b.letter in grind (arith, nat_tests) in
    record { visible = and_from _ _ first (all_visible is_letter_or_digit (λ d k. grind (arith, nat_tests)) cs b.rest); few = let few = b.few in omega (arith, few) }

pub name_seen : (n : Name) → name_fits n ≡ true → IsSeen 21 (name_word n)
name_seen (name.Base w) h = within 16 w (omega arith) (base_seen w h)
name_seen (name.Batch b) h =
    let p = and_parts (is_base_name b.base) (ltb b.index 4096) h in
    let lt : b.index < 4096 = ltb-true _ _ p.1 in
    behind 16 5 b.base (46 ∷ decimal b.index) (base_seen b.base p.0) (behind 1 4 (46 ∷ []) (decimal b.index) (record { visible = refl; few = omega arith }) (digits_seen 4 b.index (omega arith) (omega arith) (omega arith)))
name_seen (name.Given g) h = within 17 (64 ∷ g.base) (omega arith) (behind 1 16 (64 ∷ []) g.base (record { visible = refl; few = omega arith }) (base_seen g.base h))

-- places: a zone's number, at most two letters, and a magazine's number
zone_seen : (z c : ℕ) (cs : List ℕ) → is_u32 z ≡ true → IsSeen 2 (c ∷ cs) → IsSeen 21 (decimal z ++ c ∷ cs)
zone_seen z c cs h k = within 12 (decimal z ++ c ∷ cs) (omega arith) (behind 10 2 (decimal z) (c ∷ cs) (small_seen z h) k)

magazine_seen : (z m c : ℕ) → is_u32 z ≡ true → is_u32 m ≡ true → is_visible c ≡ true → IsSeen 21 (decimal z ++ c ∷ [] ++ decimal m)
magazine_seen z m c h k seen = behind 11 10 (decimal z ++ c ∷ []) (decimal m) (behind 10 1 (decimal z) (c ∷ []) (small_seen z h) (record { visible = and_from _ _ seen refl; few = omega arith })) (small_seen m k)

pub place_seen : (k : Place) → place_fits k ≡ true → IsSeen 21 (place_word k)
place_seen place.Pages h = record { visible = refl; few = omega arith }
place_seen (place.Tiny z m) h = let p = and_parts (is_u32 z) (is_u32 m) h in magazine_seen z m 116 p.0 p.1 refl
place_seen (place.TinyDepot z) h = zone_seen z 116 (100 ∷ []) h (record { visible = refl; few = omega arith })
place_seen (place.Small z m) h = let p = and_parts (is_u32 z) (is_u32 m) h in magazine_seen z m 115 p.0 p.1 refl
place_seen (place.SmallDepot z) h = zone_seen z 115 (100 ∷ []) h (record { visible = refl; few = omega arith })
place_seen (place.Large z) h = zone_seen z 108 [] h (record { visible = refl; few = omega arith })
place_seen place.Nano h = record { visible = refl; few = omega arith }

-- ranges
pub range_seen : (r : Range) → IsSeen 21 (range_word r)
range_seen range.Nano = record { visible = refl; few = omega arith }
range_seen _ = record { visible = refl; few = omega arith }

-- bytes
hex_digit_visible : (n : ℕ) → n < 16 → is_visible (hex_digit n) ≡ true
hex_digit_visible n h =
    elim (cases_Bool (ltb n 10)) [
      | inl low ↦ rw low (grind (arith, nat_tests))
      | inr high ↦ rw high (grind (arith, nat_tests))
    ]

pub hex_visible : (bs : List ℕ) → list_all (is_from 0 255) bs ≡ true → is_visible_word (hex_word bs) ≡ true
hex_visible [] h = refl
hex_visible (b ∷ bs) h =
    let p = and_parts (is_from 0 255 b) (list_all (is_from 0 255) bs) h in
    let byte : b ≤ 255 = grind (arith, nat_tests) in
    let high : b / 16 < 16 = omega arith in
    let low : b % 16 < 16 = omega arith in
    and_from _ _ (hex_digit_visible (b / 16) high) (and_from _ _ (hex_digit_visible (b % 16) low) (hex_visible bs p.1))
