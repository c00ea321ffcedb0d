-- The entries with tickets below a number are the first ones, where tickets are indices.
use Rattle.std.proofs.Common.{◌≡◌, ℕ, zero, suc, ◌+◌, ◌≤◌, true, false, List, [], ◌∷◌, take, refl, ap, ◌∙◌, arith, Some}
use Rattle.std.specs.Prelude.{nat_lt, filter, slice_get, if◌then◌else◌}
use Rattle.std.proofs.lemmas.Bool.Decides.{nat_tests}
use Rattle.mz_base.specs.declared.profile.Profile.{Profile}
use Rattle.mz_events.specs.declared.entry.Entry.{Entry}
use Rattle.mz_events.specs.State.{opening}
use Rattle.mz_events.specs.History.{after_all, by_ticket}
use Rattle.mz_record.specs.Moments.{state_before}

-- tickets are indices, counted from b on
abbrev AreIndices : ℕ → List Entry → Type 0
AreIndices b h = (i : ℕ) (e : Entry) → slice_get h i ≡ Some e → e.ticket ≡ b + i

behind : (b : ℕ) (x : Entry) (h : List Entry) → AreIndices b (x ∷ h) → AreIndices (b + 1) h
behind b x h at i e y = let z : e.ticket ≡ b + suc i = at (suc i) e y in omega arith

pub none_below : (b n : ℕ) (h : List Entry) → n ≤ b → AreIndices b h → filter (λ e. nat_lt e.ticket n) h ≡ []
none_below b n [] few at = refl
none_below b n (x ∷ h) few at =
    let z : x.ticket ≡ b + 0 = at 0 x refl in
    let test : nat_lt x.ticket n ≡ false = grind (arith, nat_tests, z, few) in
    ap (λ c. if c then x ∷ filter (λ e. nat_lt e.ticket n) h else filter (λ e. nat_lt e.ticket n) h) test ∙ none_below (b + 1) n h (omega arith) (behind b x h at)

-- the first m of them are those below b + m
pub first_below : (b m : ℕ) (h : List Entry) → AreIndices b h → filter (λ e. nat_lt e.ticket (b + m)) h ≡ take m h
first_below b zero h at = none_below b (b + 0) h (omega arith) at
first_below b (suc m) [] at = refl
first_below b (suc m) (x ∷ h) at =
    let n = b + suc m in
    let z : x.ticket ≡ b + 0 = at 0 x refl in
    let test : nat_lt x.ticket n ≡ true = grind (arith, nat_tests, z) in
    let next : b + suc m ≡ (b + 1) + m = omega arith in
    ap (λ c. if c then x ∷ filter (λ e. nat_lt e.ticket n) h else filter (λ e. nat_lt e.ticket n) h) test
    ∙ ap (λ es. x ∷ es) (ap (λ k. filter (λ e. nat_lt e.ticket k) h) next ∙ first_below (b + 1) m h (behind b x h at))

-- so the state before a ticket is that after as many entries
pub before_is : (p : Profile) (h : List Entry) (n : ℕ) → by_ticket h ≡ h → AreIndices 0 h → state_before p h n ≡ after_all p opening (take n h)
before_is p h n order at =
    let zero_first : n ≡ 0 + n = omega arith in
    ap (λ es. after_all p opening (filter (λ e. nat_lt e.ticket n) es)) order
    ∙ ap (λ es. after_all p opening es) (ap (λ k. filter (λ e. nat_lt e.ticket k) h) zero_first ∙ first_below 0 n h at)
