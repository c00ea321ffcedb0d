use Rattle.std.proofs.Common.{◌≡◌, ℕ, ◌+◌, ◌-◌, ◌*◌, ◌/◌, ◌%◌, ◌≤◌, arith}
use Rattle.mz_bits.proofs.ViewLemmas.{bits_of-zeros}
use Rattle.mz_bits.proofs.bits.Bits.make.Goals as goal

-- a number rounded up to a multiple of 64 is one
whole : (n p : ℕ) → p ≡ n + (64 - n % 64) % 64 → (n ≤ 64 * (p / 64)) × (64 * (p / 64) ≤ p)
whole n p e = (omega arith, omega arith)

pub invariant_of-result : goal.invariant_of-result
invariant_of-result c =
    let w = whole c.args.n c.in-Some.padded c.in-Some.ensures.1 in
    let top = c.in-Some.ensures in
    let long : c.in_ok-words.words.len ≡ c.in-Some.padded / 64 = c.in_ok-words.ensures.len in
    let all = c.in_ok-words.words.ok.0 in
    record { room = omega arith; small = omega arith }

pub returns : goal.returns
returns c =
    let w = whole c.args.n c.in-Some.padded c.in-Some.ensures.1 in
    bits_of-zeros c.in_ok-words.words.items (c.in-Some.padded / 64) c.args.n (c.in_ok-words.ensures.items_if_clones_equal (λ y e. e)) w.0
