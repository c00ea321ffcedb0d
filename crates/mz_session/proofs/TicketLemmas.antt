-- Entries whose tickets are their indices: those behind others rise above them.
use Rattle.std.proofs.Common.{◌≡◌, ℕ, suc, ◌+◌, true, List, [], ◌∷◌, ◌++◌, Some, length, max, refl, sym, subst, arith}
use Rattle.std.specs.Prelude.{nat_le, slice_get}
use Rattle.std.proofs.lemmas.Bool.{and_from, le-leb}
use Rattle.mz_events.specs.declared.entry.Entry.{Entry}
use Rattle.mz_lawful.specs.Settings.{above}
use Rattle.mz_lawful.specs.Fitting.{is_rising_from}

-- the tickets are k, k + 1 and so on
abbrev pub CountsFrom : ℕ → List Entry → Type 0
CountsFrom k [] = Unit {0}
CountsFrom k (e ∷ es) = (e.ticket ≡ k) × CountsFrom (k + 1) es

pub counts-indices : (k : ℕ) (es : List Entry) → ((i : ℕ) (e : Entry) → slice_get es i ≡ Some e → e.ticket ≡ k + i) → CountsFrom k es
counts-indices k [] index = tt
counts-indices k (e ∷ es) index =
    let first = index 0 e refl in
    (omega (arith, first), counts-indices (k + 1) es (λ i d at. let next = index (suc i) d at in omega (arith, next)))

-- entries that count up in two parts
pub counts-parts : (k : ℕ) (es ds : List Entry) → CountsFrom k (es ++ ds) → CountsFrom k es × CountsFrom (k + length es) ds
counts-parts k [] ds counts = (tt, let same : k ≡ k + 0 = omega arith in subst (λ (n : ℕ). CountsFrom n ds) same counts)
counts-parts k (e ∷ es) ds counts =
    let rest = counts-parts (k + 1) es ds counts.1 in
    let same : k + 1 + length es ≡ k + length (e ∷ es) = omega arith in
    ((counts.0, rest.0), subst (λ (n : ℕ). CountsFrom n ds) same rest.1)

rising-counted : (k : ℕ) (es : List Entry) → CountsFrom k es → is_rising_from k es ≡ true
rising-counted k [] counts = refl
rising-counted k (e ∷ es) counts =
    and_from (nat_le k e.ticket) (is_rising_from (e.ticket + 1) es) (le-leb k e.ticket (omega (arith, counts.0)))
    (subst (λ (n : ℕ). is_rising_from (n + 1) es ≡ true) (sym counts.0) (rising-counted (k + 1) es counts.1))

above-from : (k : ℕ) (es : List Entry) → CountsFrom k es → max k (above es) ≡ k + length es
above-from k [] counts = omega arith
above-from k (e ∷ es) counts = let rest = above-from (k + 1) es counts.1 in omega (arith, rest, counts.0)

-- those that count from 0 are as many as the number above them
pub above-counted : (es : List Entry) → CountsFrom 0 es → above es ≡ length es
above-counted es counts = let many = above-from 0 es counts in omega (arith, many)

-- entries behind others rise above all of them
pub rising-behind : (before es : List Entry) → CountsFrom 0 (before ++ es) → is_rising_from (above before) es ≡ true
rising-behind before es counts =
    let parts = counts-parts 0 before es counts in
    let many : 0 + length before ≡ above before = let a = above-from 0 before parts.0 in omega (arith, a) in
    subst (λ (n : ℕ). is_rising_from n es ≡ true) many (rising-counted (0 + length before) es parts.1)
