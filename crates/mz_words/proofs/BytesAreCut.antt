-- Bytes that are cut into lines.
use Rattle.std.proofs.Common.{◌≡◌, ◌≢◌, ℕ, suc, ◌+◌, ◌-◌, ◌<◌, ◌≤◌, Bool, true, false, List, [], ◌∷◌, ◌++◌, length, take, drop, eqb, ltb, cond, arith, refl, sym, ap, ◌∙◌, inl, inr, Some, None}
use Rattle.std.specs.Prelude.{position}
use Rattle.std.specs.List.{position_or_len}
use Rattle.std.proofs.lemmas.Bool.{cases_Bool, ltb-true, ltb-false, eqb-false, eqb-true}
use Rattle.std.proofs.lemmas.List.{take_all, length-drop, nil_from_length}
use Rattle.std.proofs.lemmas.List.Splits.{join_with_byte-slice_split}
use Rattle.mz_words.specs.Lines.{Cut, longer, cuts, words_of, line_of}

abbrev pub at_feed : List ℕ → ℕ
at_feed bs = position_or_len (λ b. eqb b 10) bs

abbrev pub ended_by : Bool → List ℕ → Cut
ended_by ended text = record { text = text; ended = ended }

-- the lines give the bytes back, so that bytes with the same lines are the same
abbrev joined : List Cut → List ℕ
joined [] = []
joined (l ∷ ls) = l.text ++ (cond l.ended (10 ∷ []) [] ++ joined ls)

joined-longer : (b : ℕ) (ls : List Cut) → joined (longer b ls) ≡ b ∷ joined ls
joined-longer b [] = refl
joined-longer b (l ∷ ls) = refl

joined-cuts : (bs : List ℕ) → joined (cuts bs) ≡ bs
joined-cuts [] = refl
joined-cuts (b ∷ bs) =
    elim (cases_Bool (eqb b 10)) [
      | inl e ↦ rw e (rw (joined-cuts bs) (ap (λ (x : ℕ). x ∷ bs) (sym (eqb-true b 10 e))))
      | inr e ↦ rw e (joined-longer b (cuts bs) ∙ ap (λ (x : List ℕ). b ∷ x) (joined-cuts bs))
    ]

pub same_cuts : (bs cs : List ℕ) → cuts bs ≡ cuts cs → bs ≡ cs
same_cuts bs cs e = sym (joined-cuts bs) ∙ ap joined e ∙ joined-cuts cs

-- a line that is ended is one of its words
pub ended_is_line : (l : Cut) → l.ended ≡ true → l ≡ line_of (words_of l.text)
ended_is_line l e = ap (λ (t : Bool). ended_by t l.text) e ∙ ap (ended_by true) (sym (join_with_byte-slice_split 32 l.text))

-- one byte further
at_feed-cons : (b : ℕ) (bs : List ℕ) → eqb b 10 ≡ false → at_feed (b ∷ bs) ≡ suc (at_feed bs)
at_feed-cons b bs e = rw e (let s : 1 + at_feed bs ≡ suc (at_feed bs) = omega arith in s)

-- the line before a line feed
pub cuts_at : (bs : List ℕ) → at_feed bs < length bs → cuts bs ≡ ended_by true (take (at_feed bs) bs) ∷ cuts (drop (at_feed bs + 1) bs)
cuts_at [] lt = absurd (omega arith)
cuts_at (b ∷ bs) lt =
    elim (cases_Bool (eqb b 10)) [
      | inl e ↦ rw e refl
      | inr e ↦
          let further = at_feed-cons b bs e in
          let shorter : at_feed bs < length bs = omega (arith, further) in
          let s : suc (at_feed bs) + 1 ≡ suc (at_feed bs + 1) = omega arith in
          let rest = cuts_at bs shorter in
          rw further (rw s (rw e (rw rest refl)))
    ]

-- bytes without a line feed
none_case : (b : ℕ) (bs : List ℕ) → eqb b 10 ≡ false → ((cs : List ℕ) → cs ≡ bs → cs ≢ [] → cuts bs ≡ ended_by false bs ∷ []) → cuts (b ∷ bs) ≡ ended_by false (b ∷ bs) ∷ []
none_case b [] e rest = rw e refl
none_case b (d ∷ bs) e rest = let whole : cuts (d ∷ bs) ≡ ended_by false (d ∷ bs) ∷ [] = rest (d ∷ bs) refl (λ h. cc) in rw (e, whole) refl

pub cuts_none : (bs : List ℕ) → bs ≢ [] → length bs ≤ at_feed bs → cuts bs ≡ ended_by false bs ∷ []
cuts_none [] some le = absurd (some refl)
cuts_none (b ∷ bs) some le =
    elim (cases_Bool (eqb b 10)) [
      | inl e ↦ let front : at_feed (b ∷ bs) ≡ 0 = rw e refl in absurd (omega (arith, front))
      | inr e ↦ let further = at_feed-cons b bs e in none_case b bs e (λ cs same some. cuts_none bs (λ h. some (same ∙ h)) (omega (arith, further)))
    ]

-- the same, from what is found
rest_is : (bs : List ℕ) (i : ℕ) → take (length bs - i) (drop i bs) ≡ drop i bs
rest_is bs i = take_all (length bs - i) (drop i bs) (omega (arith, length-drop i bs))

same_place : (i p : ℕ) (found : Bool) → Some i ≡ cond found (Some p) None → (found ≡ true) × (p ≡ i)
same_place i p true e = (refl, cc)
same_place i p false e = absurd cc

no_place : (p : ℕ) (found : Bool) → None ≡ cond found (Some p) None → found ≡ false
no_place p true e = absurd cc
no_place p false e = refl

pub first_of : (bs : List ℕ) (i : ℕ) → Some i ≡ position (λ b. eqb b 10) bs → cuts bs ≡ ended_by true (take i bs) ∷ cuts (take (length bs - (i + 1)) (drop (i + 1) bs))
first_of bs i found =
    let at = same_place i (at_feed bs) (ltb (at_feed bs) (length bs)) found in
    rw (rest_is bs (i + 1), ← at.1) (cuts_at bs (ltb-true _ _ at.0))

pub only_of : (bs : List ℕ) → None ≡ position (λ b. eqb b 10) bs → false ≡ eqb (length bs) 0 → cuts bs ≡ ended_by false bs ∷ cuts (take (length bs - length bs) (drop (length bs) bs))
only_of bs missing some =
    let past : length bs ≤ at_feed bs = ltb-false _ _ (no_place (at_feed bs) (ltb (at_feed bs) (length bs)) missing) in
    let nothing : drop (length bs) bs ≡ [] = nil_from_length _ (omega (arith, length-drop (length bs) bs)) in
    rw (rest_is bs (length bs), nothing) (cuts_none bs (λ e. eqb-false _ _ (sym some) (ap length e)) past)
