-- The search for the lowest free run, a free run of the map at a time.
use Rattle.std.proofs.Common.{◌≡◌, ℕ, ◌+◌, ◌-◌, ◌*◌, ◌/◌, ◌%◌, ◌^◌, ◌<◌, ◌≤◌, List, Bool, true, false, not, length, map, min, get_or, refl, sym, ap, ◌∙◌, inl, inr, arith}
use Rattle.std.proofs.lemmas.Bool.{cases_lt, false≢true}
use Rattle.std.proofs.lemmas.List.{length-map, get_or-map}
use Rattle.std.proofs.lemmas.Nat.{div-add-mod'}
use Rattle.std.proofs.Math.Nat.{mul-le-mul_right, mul-mod_left}
use Rattle.mz_bits.specs.Runs.{HasNoNext, IsNext, IsRunOf}
use Rattle.mz_pages.specs.FreeRuns.{IsFree, HasNoFree, IsLowestFree}

-- ---- multiples

-- what is missing to a multiple
pub gap_aligned : (f al : ℕ) → 1 ≤ al → (f + (al - f % al)) % al ≡ 0
gap_aligned f al some =
    let parts = div-add-mod' f al in
    let next : f + (al - f % al) ≡ (f / al + 1) * al = omega arith in
    ap (λ m. m % al) next ∙ mul-mod_left (f / al + 1) al

-- two multiples lie apart
multiples_apart : (al x y : ℕ) → 1 ≤ al → x % al ≡ 0 → y % al ≡ 0 → x < y → x + al ≤ y
multiples_apart al x y some ex ey less =
    let px : x / al * al ≡ x = omega (arith, div-add-mod' x al) in
    let py : y / al * al ≡ y = omega (arith, div-add-mod' y al) in
    elim (cases_lt (x / al) (y / al)) [
      | inl l ↦ let more : x / al + 1 ≤ y / al = omega arith in let up : (x / al + 1) * al ≤ y / al * al = mul-le-mul_right al more in omega arith
      | inr g ↦ let down : y / al * al ≤ x / al * al = mul-le-mul_right al g in absurd (omega arith)
    ]

-- no multiple lies in the gap
gap_least : (al f gap g : ℕ) → 1 ≤ al → (f + gap) % al ≡ 0 → gap < al → g % al ≡ 0 → f ≤ g → f + gap ≤ g
gap_least al f gap g some ends short multiple above = elim (cases_lt g (f + gap)) [
  | inl l ↦ let far = multiples_apart al g (f + gap) some multiple ends l in absurd (omega arith)
  | inr h ↦ h
]

-- ---- free and out
flipped : (b : Bool) → not b ≡ true → b ≡ false
flipped true e = sym e
flipped false e = refl

-- a page of a free run isn't out
pub free_place : (first : ℕ) (out : List Bool) (g w k : ℕ) (d : Bool) → IsFree first (map not out) g w → g - first ≤ k → k < g - first + w → get_or out k d ≡ false
free_place first out g w k d h low high =
    let long : length (map not out) ≡ length out = length-map out not in
    let above = h.above in
    let below = h.below in
    flipped (get_or out k d) (sym (get_or-map not out k d d (omega arith)) ∙ h.each k d low high)

-- a page that is out is in no free run
out_place : {A : Type 0} (first : ℕ) (out : List Bool) (g w k : ℕ) → IsFree first (map not out) g w → g - first ≤ k → k < g - first + w → get_or out k true ≡ true → A
out_place first out g w k h low high e = absurd (false≢true (sym (free_place first out g w k true h low high) ∙ e))

-- pages that aren't out are free
pub not_out : (first : ℕ) (out : List Bool) (i gap w n : ℕ) → 1 ≤ w → n ≡ gap + w → i + n ≤ length out → ((k : ℕ) (d : Bool) → i ≤ k → k < i + n → get_or out k d ≡ false) → IsFree first (map not out) (first + (i + gap)) w
not_out first out i gap w n some e inside clear =
    let long : length (map not out) ≡ length out = length-map out not in
    record {
      above = omega arith;
      below = omega arith;
      each = λ k d low high. get_or-map not out k d d (omega arith) ∙ ap not (clear k d (omega arith) (omega arith));
    }

-- ---- the steps of the search

-- no free run begins before the place from
abbrev pub Passed : ℕ → List Bool → ℕ → ℕ → ℕ → Type 0
Passed first out w al from = (g : ℕ) → g % al ≡ 0 → IsFree first (map not out) g w → first + from ≤ g

-- nor before the next place that isn't out
pub reach : (first : ℕ) (out : List Bool) (w al from i : ℕ) → 1 ≤ w → Passed first out w al from → IsNext false out from i → Passed first out w al i
reach first out w al from i some passed next g a h = elim (cases_lt g (first + i)) [
  | inl l ↦
      let above : first + from ≤ g = passed g a h in
      let low : from ≤ g - first = omega arith in
      let high : g - first < i = omega arith in
      let here : g - first ≤ g - first = omega arith in
      let in_run : g - first < g - first + w = omega arith in
      out_place first out g w (g - first) h here in_run (next.before (g - first) true low high)
  | inr g' ↦ g'
]

-- nor in a run that is too short
pub pass : (first : ℕ) (out : List Bool) (w al i gap wanted n : ℕ) → 1 ≤ al → Passed first out w al i → (first + i + gap) % al ≡ 0 → gap < al → wanted ≤ gap + w → IsRunOf false out i wanted n → n < wanted → Passed first out w al (i + n)
pass first out w al i gap wanted n some passed ends short most run fewer g a h = elim (cases_lt g (first + (i + n))) [
  | inl l ↦
      let long : length (map not out) ≡ length out = length-map out not in
      let from : first + i ≤ g = passed g a h in
      let far : first + i + gap ≤ g = gap_least al (first + i) gap g some ends short a from in
      let below = h.below in
      let low : g - first ≤ i + n = omega arith in
      let high : i + n < g - first + w = omega arith in
      let inside : i + n < length out = omega arith in
      out_place first out g w (i + n) h low high (run.ends fewer inside true)
  | inr g' ↦ g'
]

-- a run that is long enough has the lowest
pub fits : (first : ℕ) (out : List Bool) (w al i gap wanted n : ℕ) → 1 ≤ w → 1 ≤ al → Passed first out w al i → (first + i + gap) % al ≡ 0 → gap < al → wanted ≡ min (gap + w) (2 ^ 64 - 1) → IsRunOf false out i wanted n → n ≡ wanted →
    first + length out < 2 ^ 63 → IsLowestFree first (map not out) w al (first + (i + gap))
fits first out w al i gap wanted n some one passed ends short most run all small =
    let within = run.within in
    let enough : n ≡ gap + w = omega arith in
    record {
      aligned = ap (λ m. m % al) (omega arith) ∙ ends;
      is_free = not_out first out i gap w n some enough (omega arith) run.each;
      lowest = λ g a h. let far = gap_least al (first + i) gap g one ends short a (passed g a h) in omega arith;
    }

-- where all pages that are left are out, no run is free
pub none_left : (first : ℕ) (out : List Bool) (w al from : ℕ) → 1 ≤ w → Passed first out w al from → HasNoNext false out from → HasNoFree first (map not out) w al
none_left first out w al from some passed none g a h =
    let long : length (map not out) ≡ length out = length-map out not in
    let above : first + from ≤ g = passed g a h in
    let below = h.below in
    let low : from ≤ g - first = omega arith in
    let high : g - first < length out = omega arith in
    let here : g - first ≤ g - first = omega arith in
    let in_run : g - first < g - first + w = omega arith in
    out_place first out g w (g - first) h here in_run (none (g - first) true low high)

-- a run of pages that aren't out has one, where one is wanted
pub moves : (out : List Bool) (from i wanted n : ℕ) → 1 ≤ wanted → IsNext false out from i → IsRunOf false out i wanted n → 1 ≤ n
moves out from i wanted n some next run = elim (cases_lt n 1) [
  | inl l ↦
      let none : i + n ≡ i = omega arith in
      let within = next.within in
      let fewer : n < wanted = omega arith in
      let inside : i + n < length out = omega arith in
      absurd (false≢true (sym (next.there true) ∙ ap (λ k. get_or out k true) (sym none) ∙ run.ends fewer inside true))
  | inr g ↦ g
]
