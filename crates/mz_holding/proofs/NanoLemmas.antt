-- The live blocks of a page of nano, which are of one size.
use Rattle.std.proofs.Common.{◌≡◌, ℕ, ◌+◌, ◌-◌, ◌*◌, ◌≤◌, List, [], ◌∷◌, true, length, refl, sym, ◌∙◌, arith}
use Rattle.std.specs.Prelude.{nat_le, ◌&&◌, ◌==◌, Option, Some, None, SomeIff, IfSome}
use Rattle.std.specs.List.{list_all}
use Rattle.std.proofs.lemmas.Bool.{and_parts, and_from, and_left, le-leb, leb-true, eq-eqb, ne_eqb}
use Rattle.std.proofs.lemmas.List.Elements.{All-head, All-tail}
use Rattle.std.proofs.lemmas.List.Sums.{sum_by-cons}
use Rattle.mz_base.specs.Space.{Block, block_at, blocks_apart}
use Rattle.mz_base.specs.Lists.{drop_block, size_sum}
use Rattle.mz_holding.specs.Gaps.{AreSpread, IsGap, far}
use Rattle.mz_holding.specs.NanoPages.{AllOfSize}
use Rattle.mz_holding.proofs.GapLemmas.{bool_same, apart_in_gap, all_has, all_from_has}
use Rattle.mz_holding.proofs.NeighbourLemmas.{spread_bytes}
use Rattle.mz_holding.proofs.SpreadLemmas.{has_filter}

pub apart_between : (live : List Block) (a n low high : ℕ) → IsGap 0 far live a low high → AreSpread live → 1 ≤ n → a + n ≤ far → (nat_le low a && nat_le a high && nat_le n (high - a)) ≡ list_all (λ c. blocks_apart c (block_at a n)) live
apart_between live a n low high gap spread some fits =
    let is = apart_in_gap 0 far live (block_at a n) low high gap (spread_bytes live spread) some (omega arith) fits in
    bool_same (nat_le low a && nat_le a high && nat_le n (high - a)) (list_all (λ c. blocks_apart c (block_at a n)) live)
    (λ h.
    let outer = and_parts (nat_le low a && nat_le a high) (nat_le n (high - a)) h in
    let inner = and_parts (nat_le low a) (nat_le a high) outer.0 in
    let x = leb-true a high inner.1 in
    let y = leb-true n (high - a) outer.1 in
    is ∙ and_from (nat_le low a) (nat_le (a + n) high) inner.0 (le-leb (a + n) high (omega arith)))
    (λ h.
    let parts = and_parts (nat_le low a) (nat_le (a + n) high) (sym is ∙ h) in
    let x = leb-true (a + n) high parts.1 in
    and_from (nat_le low a && nat_le a high) (nat_le n (high - a)) (and_from (nat_le low a) (nat_le a high) parts.0 (le-leb a high (omega arith))) (le-leb n (high - a) (omega arith)))

pub sizes_same : (size n : ℕ) (live : List Block) → AllOfSize size live → size ≡ n → list_all (λ c. c.size == n) live ≡ true
sizes_same size n [] all same = refl
sizes_same size n (b ∷ bs) all same = and_from (b.size == n) (list_all (λ c. c.size == n) bs) (eq-eqb b.size n (All-head (λ c. c.size ≡ size) b bs all ∙ same)) (sizes_same size n bs (All-tail (λ c. c.size ≡ size) b bs all) same)

pub sizes_other : (size n : ℕ) (live : List Block) → AllOfSize size live → (size ≡ n → ⊥) → (length live == 0) ≡ list_all (λ c. c.size == n) live
sizes_other size n [] all other = refl
sizes_other size n (b ∷ bs) all other = ne_eqb (length (b ∷ bs)) 0 (λ e. omega arith) ∙ sym (and_left (b.size == n) (list_all (λ c. c.size == n) bs) (ne_eqb b.size n (λ e. other (sym (All-head (λ c. c.size ≡ size) b bs all) ∙ e))))

pub sizes_fewer : (size : ℕ) (live : List Block) (b : Block) → AllOfSize size live → AllOfSize size (drop_block b live)
sizes_fewer size live b all = all_from_has (λ c. c.size ≡ size) (drop_block b live) (λ c there. all_has (λ d. d.size ≡ size) live c all (and_parts _ _ (sym (has_filter _ live c) ∙ there)).0)

pub sum_of_size : (size : ℕ) (live : List Block) → AllOfSize size live → length live * size ≡ size_sum live
sum_of_size size [] all = omega arith
sum_of_size size (b ∷ bs) all =
    let here : b.size ≡ size = All-head (λ c. c.size ≡ size) b bs all in
    let rest = sum_of_size size bs (All-tail (λ c. c.size ≡ size) b bs all) in
    let split = sum_by-cons (λ (c : Block). c.size) b bs in
    let more : length (b ∷ bs) * size ≡ length bs * size + size = omega arith in
    omega arith

pub told : (o : Option ℕ) (B : Type 0) (v n : ℕ) → SomeIff o B v → v ≡ n → IfSome o (λ m. m ≡ n)
told None B v n is same = tt
told (Some m) B v n is same = is.1 ∙ same
