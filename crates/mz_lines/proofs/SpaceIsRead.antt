-- The second line: a profile within the limits and its words determine each other.
use Rattle.std.proofs.Common.{◌≡◌, ℕ, ◌<◌, ◌≤◌, ◌^◌, true, List, [], ◌∷◌, length, arith, refl, sym, subst, Option, Some, codes, Bool}
use Rattle.std.specs.Prelude.{nat_le}
use Rattle.std.specs.List.{list_all}
use Rattle.std.specs.Fmt.{decimal}
use Rattle.std.specs.Str.{bytes_eq}
use Rattle.std.proofs.lemmas.Bool.{le-leb, lt-ltb}
use Rattle.std.proofs.lemmas.Slice.Eq.{bytes_eq-Decides}
use Rattle.mz_base.specs.Limits.{IsWithinLimits}
use Rattle.mz_base.specs.declared.profile.Profile.{Profile}
use Rattle.mz_words.specs.Numbers.{number_of, ◌>>=◌}
use Rattle.mz_words.specs.Lines.{is_visible_word, are_visible}
use Rattle.mz_words.specs.Laws.{WordLaws}
use Rattle.mz_lines.specs.Spaces.{space_words, is_within_limits, if_within_limits, field_of, if_last, profile_in}
use Rattle.mz_lines.proofs.LimitLemmas.{limits_are, limits_again}
use Rattle.mz_lines.proofs.Options.{bind_parts, when_parts, some_same}

number_is : WordLaws → (w : List ℕ) (n : ℕ) → number_of w ≡ Some n → decimal n ≡ w
number_is k w n e = sym (k.numbers.spelled w n e).0

joined : (w label n : List ℕ) (v : ℕ) (ws : List (List ℕ)) → w ≡ label → decimal v ≡ n → w ∷ n ∷ ws ≡ label ∷ decimal v ∷ ws
joined w label n v ws e1 e2 = rw (e1, e2) refl

field_is : WordLaws → (label : List ℕ) (ws : List (List ℕ)) (o : ℕ × List (List ℕ)) → field_of label ws ≡ Some o → ws ≡ label ∷ decimal o.0 ∷ o.1
field_is k label [] o e = absurd cc
field_is k label (w ∷ []) o e = absurd cc
field_is k label (w ∷ n ∷ ws) o e =
    let h = when_parts (bytes_eq w label) (number_of n >>= λ v. Some (v, ws)) o e in
    let b = bind_parts (number_of n) (λ v. let made : ℕ × List (List ℕ) = (v, ws) in Some made) o h.1 in
    let pair : ℕ × List (List ℕ) = (b.0, ws) in
    let same : pair ≡ o = some_same pair o b.2 in
    subst (λ (x : ℕ × List (List ℕ)). w ∷ n ∷ ws ≡ label ∷ decimal x.0 ∷ x.1) same (joined w label n b.0 ws ((bytes_eq-Decides w label).0 h.0) (number_is k n b.0 b.1))

if_last_is : (ws : List (List ℕ)) (o : Option Profile) (p : Profile) → if_last ws o ≡ Some p → (ws ≡ []) × (o ≡ Some p)
if_last_is [] o p e = (refl, e)
if_last_is (w ∷ ws) o p e = absurd cc

abbrev profile_made : ℕ → ℕ → ℕ → ℕ → ℕ → ℕ → Profile
profile_made p c m n g z = record { pages = p; callers = c; magazines = m; nano = n; most_gen = g; zones = z }

six :
    (words r1 r2 r3 r4 r5 r6 : List (List ℕ)) (p c m n g z : ℕ)
    → words ≡ codes "space" ∷ decimal p ∷ r1 → r1 ≡ codes "callers" ∷ decimal c ∷ r2 → r2 ≡ codes "magazines" ∷ decimal m ∷ r3
    → r3 ≡ codes "nano" ∷ decimal n ∷ r4 → r4 ≡ codes "gen" ∷ decimal g ∷ r5 → r5 ≡ codes "zones" ∷ decimal z ∷ r6 → r6 ≡ [] → words ≡ space_words (profile_made p c m n g z)
six words r1 r2 r3 r4 r5 r6 p c m n g z e1 e2 e3 e4 e5 e6 e7 = rw (e1, e2, e3, e4, e5, e6, e7) refl

record IsSpace (words : List (List ℕ)) (p : Profile) : Type 0 where
  words_are : words ≡ space_words p
  fits : is_within_limits p ≡ true

profile_is : WordLaws → (words : List (List ℕ)) (p : Profile) → profile_in words ≡ Some p → IsSpace words p
profile_is k words q e =
    let p = bind_parts (field_of (codes "space") words) _ q e in
    let c = bind_parts (field_of (codes "callers") p.0.1) _ q p.2 in
    let m = bind_parts (field_of (codes "magazines") c.0.1) _ q c.2 in
    let n = bind_parts (field_of (codes "nano") m.0.1) _ q m.2 in
    let g = bind_parts (field_of (codes "gen") n.0.1) _ q n.2 in
    let z = bind_parts (field_of (codes "zones") g.0.1) _ q g.2 in
    let last = if_last_is z.0.1 (if_within_limits (profile_made p.0.0 c.0.0 m.0.0 n.0.0 g.0.0 z.0.0)) q z.2 in
    let limited = when_parts (is_within_limits (profile_made p.0.0 c.0.0 m.0.0 n.0.0 g.0.0 z.0.0)) (Some (profile_made p.0.0 c.0.0 m.0.0 n.0.0 g.0.0 z.0.0)) q last.1 in
    let same : profile_made p.0.0 c.0.0 m.0.0 n.0.0 g.0.0 z.0.0 ≡ q = some_same (profile_made p.0.0 c.0.0 m.0.0 n.0.0 g.0.0 z.0.0) q limited.1 in
    subst (λ (x : Profile). IsSpace words x) same (record {
      words_are =
          six words p.0.1 c.0.1 m.0.1 n.0.1 g.0.1 z.0.1 p.0.0 c.0.0 m.0.0 n.0.0 g.0.0 z.0.0 (field_is k (codes "space") words p.0 p.1) (field_is k (codes "callers") p.0.1 c.0 c.1)
          (field_is k (codes "magazines") c.0.1 m.0 m.1) (field_is k (codes "nano") m.0.1 n.0 n.1) (field_is k (codes "gen") n.0.1 g.0 g.1) (field_is k (codes "zones") g.0.1 z.0 z.1) last.0;
      fits = limited.0;
    })

below_64 : (n most : ℕ) → n ≤ most → most < 2 ^ 64 → n < 2 ^ 64
below_64 n most le lt = omega arith

pub profile_again : WordLaws → (p : Profile) → IsWithinLimits p → profile_in (space_words p) ≡ Some p
profile_again k p h =
    rw (k.numbers.again p.pages (lt-ltb _ _ (below_64 p.pages 16384 h.pages.1 (omega arith))))
    (rw (k.numbers.again p.callers (lt-ltb _ _ (below_64 p.callers 16 h.callers.1 (omega arith))))
    (rw (k.numbers.again p.magazines (lt-ltb _ _ (below_64 p.magazines 16 h.magazines.1 (omega arith))))
    (rw (k.numbers.again p.nano (lt-ltb _ _ (below_64 p.nano 1024 h.nano.1 (omega arith))))
    (rw (k.numbers.again p.most_gen (lt-ltb _ _ (below_64 p.most_gen 68719476735 h.most_gen.1 (omega arith))))
    (rw (k.numbers.again p.zones (lt-ltb _ _ (below_64 p.zones 4 h.zones.1 (omega arith))))
    (rw (limits_again p h) refl))))))

-- and its words are few and can be seen
number_seen : WordLaws → (n most : ℕ) → n ≤ most → most < 2 ^ 64 → is_visible_word (decimal n) ≡ true
number_seen k n most le lt = k.numbers.visible n (lt-ltb _ _ (below_64 n most le lt))

pub space_visible : WordLaws → (p : Profile) → IsWithinLimits p → are_visible (space_words p) ≡ true
space_visible k p h =
    rw (
      number_seen k p.pages 16384 h.pages.1 (omega arith),
      number_seen k p.callers 16 h.callers.1 (omega arith),
      number_seen k p.magazines 16 h.magazines.1 (omega arith),
      number_seen k p.nano 1024 h.nano.1 (omega arith),
      number_seen k p.most_gen 68719476735 h.most_gen.1 (omega arith),
      number_seen k p.zones 4 h.zones.1 (omega arith),
    ) refl

abbrev pub within : ℕ → List (List ℕ) → Bool
within most words = list_all (λ w. nat_le (length w) most) words

number_short : WordLaws → (n most : ℕ) → n ≤ most → most < 2 ^ 64 → nat_le (length (decimal n)) 20 ≡ true
number_short k n most le lt = le-leb (length (decimal n)) 20 (k.numbers.short n (lt-ltb _ _ (below_64 n most le lt)))

pub space_short : WordLaws → (p : Profile) → IsWithinLimits p → within 20 (space_words p) ≡ true
space_short k p h =
    rw (
      number_short k p.pages 16384 h.pages.1 (omega arith),
      number_short k p.callers 16 h.callers.1 (omega arith),
      number_short k p.magazines 16 h.magazines.1 (omega arith),
      number_short k p.nano 1024 h.nano.1 (omega arith),
      number_short k p.most_gen 68719476735 h.most_gen.1 (omega arith),
      number_short k p.zones 4 h.zones.1 (omega arith),
    ) refl

pub profile_spelled : WordLaws → (ts : List (List ℕ)) (p : Profile) → profile_in ts ≡ Some p → (ts ≡ space_words p) × IsWithinLimits p
profile_spelled k ts p h = let s = profile_is k ts p h in (s.words_are, limits_are p s.fits)
