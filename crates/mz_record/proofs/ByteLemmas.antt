-- How many bytes there are, and which are kept.
use Rattle.std.proofs.Common.{◌≡◌, ℕ, zero, suc, ◌+◌, ◌-◌, ◌≤◌, true, List, [], ◌∷◌, ◌++◌, Option, Some, None, map, take, drop, length, replicate, ap, refl, ◌∙◌, arith, length-append, append-nil}
use Rattle.std.specs.Prelude.{◌==◌}
use Rattle.std.proofs.lemmas.Bool.{eqb-true, and_parts, false≢true}
use Rattle.std.proofs.lemmas.List.{length-replicate, length-drop, length-take, length-map}
use Rattle.std.proofs.Math.Seq.{take-length}
use Rattle.mz_record.specs.Bytes.{Bytes, fresh, cleared, linked, low_bytes, kept, kept_in_place, is_shown_as}

-- the byte 0
abbrev zero_byte : Option ℕ
zero_byte = Some 0

pub count_cleared : (n : ℕ) (bs : Bytes) → n ≤ length bs → length (cleared n bs) ≡ length bs
count_cleared n bs within =
    omega (arith, within, length-append (replicate n zero_byte) (drop n bs), length-replicate n zero_byte, length-drop n bs)

pub count_low : (k a : ℕ) → length (low_bytes k a) ≡ k
count_low zero a = refl
count_low (suc k) a = ap suc (count_low k _)

pub count_linked : (off a : ℕ) (bs : Bytes) → off + 8 ≤ length bs → length (linked off a bs) ≡ length bs
count_linked off a bs within =
    let middle : Bytes = map (λ x. Some x) (low_bytes 8 a) in
    omega (
      arith,
      within,
      length-append (take off bs ++ middle) (drop (off + 8) bs),
      length-append (take off bs) middle,
      length-map (low_bytes 8 a) (λ (x : ℕ). Some x),
      count_low 8 a,
      length-take off bs,
      length-drop (off + 8) bs,
    )

-- an unknown byte
abbrev none : Option ℕ
none = None

pub count_kept : (n s : ℕ) (bs : Bytes) → n ≤ s → length (kept n s bs) ≡ s
count_kept n s bs few =
    omega (
      arith,
      few,
      length-append (take n bs) (fresh (s - length (take n bs))),
      length-replicate (s - length (take n bs)) none,
      length-take n bs,
    )

pub keeps_all : (bs : Bytes) → kept_in_place (length bs) bs ≡ bs
keeps_all bs =
    let all : take (length bs) bs ≡ bs = take-length bs in
    let none_left : length bs - length (take (length bs) bs) ≡ 0 = omega (arith, ap length all) in
    ap (λ (n : ℕ). take (length bs) bs ++ fresh n) none_left ∙ append-nil (take (length bs) bs) ∙ all

pub shown_unknown : (shown : List ℕ) → is_shown_as (fresh (length shown)) shown ≡ true
shown_unknown [] = refl
shown_unknown (x ∷ xs) = shown_unknown xs

pub shown_known : (bs shown : List ℕ) → is_shown_as (map (λ b. Some b) bs) shown ≡ true → shown ≡ bs
shown_known [] [] same = refl
shown_known [] (x ∷ xs) same = absurd (false≢true same)
shown_known (b ∷ bs) [] same = absurd (false≢true same)
shown_known (b ∷ bs) (x ∷ xs) same =
    let parts = and_parts (b == x) (is_shown_as (map (λ y. Some y) bs) xs) same in
    rw (eqb-true b x parts.0, shown_known bs xs parts.1) refl

pub less_none : (s : ℕ) → s - 0 ≡ s
less_none s = omega arith
