-- All records together have as many entries as came since the opening.
use Rattle.std.proofs.Common.{◌≡◌, ℕ, ◌+◌, ◌<◌, ◌==◌, Bool, true, false, cond, List, [], ◌∷◌, length, refl, ap, ◌∙◌, arith, ⊎_elim, eq-eqb, ne_eqb, suc, sym, Some}
use Rattle.std.specs.Prelude.{slice_get}
use Rattle.std.specs.List.{All}
use Rattle.std.proofs.lemmas.Bool.{cases_eq}
use Rattle.std.proofs.lemmas.List.Elements.{All-head, All-tail}
use Rattle.mz_events.specs.declared.entry.Entry.{Entry}
use Rattle.mz_events.specs.Changes.{one_for}
use Rattle.mz_events.specs.Hands.{own}
use Rattle.mz_register.specs.declared.pass.Pass.{Pass}
use Rattle.mz_register.specs.Merged.{count_noted}
use Rattle.mz_register.specs.HandIn.{passes_of}

own_case : (e : Entry) (es : List Entry) (b : Bool) → length (cond b (e ∷ es) es) ≡ one_for b + length es
own_case e es true = omega arith
own_case e es false = omega arith

either_way : (a b : ℕ) → (a == b) ≡ (b == a)
either_way a b = ⊎_elim (λ (e : a ≡ b). eq-eqb a b e ∙ sym (eq-eqb b a (sym e))) (λ (n : a ≡ b → ⊥). ne_eqb a b n ∙ sym (ne_eqb b a (λ i. n (sym i)))) (cases_eq a b)

-- how many of these entries are of the passes' callers
abbrev own_all : {V : Type 0} → List (Pass V) → List Entry → ℕ
own_all [] es = 0
own_all (x ∷ xs) es = length (own x.seat.me.0.caller es) + own_all xs es

next_all : {V : Type 0} (xs : List (Pass V)) (e : Entry) (es : List Entry) → own_all xs (e ∷ es) ≡ passes_of e.caller xs + own_all xs es
next_all [] e es = omega arith
next_all (x ∷ xs) e es =
    let c = x.seat.me.0.caller in
    let a : length (own c (e ∷ es)) ≡ one_for (e.caller == c) + length (own c es) = own_case e (own c es) (e.caller == c) in
    let b : one_for (e.caller == c) ≡ one_for (c == e.caller) = ap one_for (either_way e.caller c) in
    let r = next_all xs e es in
    omega arith

none_all : {V : Type 0} (xs : List (Pass V)) → own_all xs [] ≡ 0
none_all [] = refl
none_all (x ∷ xs) = let r = none_all xs in omega arith

all_own : {V : Type 0} (n : ℕ) (xs : List (Pass V)) → ((c : ℕ) → c < n → passes_of c xs ≡ 1) → (es : List Entry) → All (λ e. e.caller < n) es → own_all xs es ≡ length es
all_own n xs one [] h = none_all xs
all_own n xs one (e ∷ es) h =
    let a = next_all xs e es in
    let b = one e.caller (All-head (λ (d : Entry). d.caller < n) e es h) in
    let r = all_own n xs one es (All-tail (λ (d : Entry). d.caller < n) e es h) in
    omega arith

noted_all : {V : Type 0} (xs : List (Pass V)) (later : List Entry) → ((i : ℕ) (x : Pass V) → slice_get xs i ≡ Some x → x.noted.items ≡ own x.seat.me.0.caller later) → count_noted xs ≡ own_all xs later
noted_all [] later f = refl
noted_all (x ∷ xs) later f =
    let a = ap length (f 0 x refl) in
    let r = noted_all xs later (λ i y e. f (suc i) y e) in
    omega arith

-- where each pass noted its caller's entries, and there is just one for each caller, all are noted
pub all_noted : {V : Type 0} (n : ℕ) (xs : List (Pass V)) (later : List Entry) → ((c : ℕ) → c < n → passes_of c xs ≡ 1) → All (λ e. e.caller < n) later → ((i : ℕ) (x : Pass V) → slice_get xs i ≡ Some x → x.noted.items ≡ own x.seat.me.0.caller later) → count_noted xs ≡ length later
all_noted n xs later one below f = noted_all xs later f ∙ all_own n xs one later below
