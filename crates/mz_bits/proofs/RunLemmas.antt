-- A list with a run of it made one value.
use Rattle.std.proofs.Common.{◌≡◌, ℕ, ◌+◌, ◌-◌, ◌<◌, ◌≤◌, ◌⊎◌, List, ◌∷◌, ◌++◌, Bool, length, get_or, set, take, drop, replicate, sym, ap, ◌∙◌, inl, inr, arith, add-one, length-append, length-drop}
use Rattle.std.proofs.lemmas.Bool.{cases_lt}
use Rattle.std.proofs.lemmas.List.{length-take-le, length-replicate, get_or-drop, get_or-take, get_or-append_right, get_or_append_left, get_or-replicate, set_split, same_lists}
use Rattle.mz_bits.specs.Runs.{with_run, HasRun}

pub length-with_run : (bits : List Bool) (i n : ℕ) (v : Bool) → i + n ≤ length bits → length (with_run bits i n v) ≡ length bits
length-with_run bits i n v h =
    let front : length (take i bits) ≡ i = length-take-le i bits (omega arith) in
    let run : length (replicate n v) ≡ n = length-replicate n v in
    let back : length (drop (i + n) bits) ≡ length bits - (i + n) = length-drop (i + n) bits in
    length-append (take i bits) (replicate n v ++ drop (i + n) bits) ∙ ap (λ m. length (take i bits) + m) (length-append (replicate n v) (drop (i + n) bits)) ∙ omega arith

-- in the run
pub with_run-inside : (bits : List Bool) (i n : ℕ) (v : Bool) (k : ℕ) (d : Bool) → i + n ≤ length bits → i ≤ k → k < i + n → get_or (with_run bits i n v) k d ≡ v
with_run-inside bits i n v k d h low high =
    let rest = drop (i + n) bits in
    let here : k - i < length (replicate n v) = let long : length (replicate n v) ≡ n = length-replicate n v in omega arith in
    get_or-append_right (take i bits) (replicate n v ++ rest) i k d (length-take-le i bits (omega arith)) low ∙ get_or_append_left (replicate n v) rest d (k - i) here ∙ get_or-replicate n (k - i) v d (omega arith)

-- before it and after it
pub with_run-outside : (bits : List Bool) (i n : ℕ) (v : Bool) (k : ℕ) (d : Bool) → i + n ≤ length bits → (k < i) ⊎ (i + n ≤ k) → get_or (with_run bits i n v) k d ≡ get_or bits k d
with_run-outside bits i n v k d h (inl low) =
    let front : length (take i bits) ≡ i = length-take-le i bits (omega arith) in
    get_or_append_left (take i bits) (replicate n v ++ drop (i + n) bits) d k (omega arith) ∙ get_or-take i bits k d low
with_run-outside bits i n v k d h (inr high) =
    let rest = drop (i + n) bits in
    let there : i + n + (k - i - n) ≡ k = omega arith in
    get_or-append_right (take i bits) (replicate n v ++ rest) i k d (length-take-le i bits (omega arith)) (omega arith) ∙ get_or-append_right (replicate n v) rest n (k - i) d (length-replicate n v) (omega arith)
    ∙ get_or-drop (i + n) bits (k - i - n) d ∙ ap (λ j. get_or bits j d) there

-- a place is in the run or not
pub in_or_out : (i n k : ℕ) → ((i ≤ k) × (k < i + n)) ⊎ ((k < i) ⊎ (i + n ≤ k))
in_or_out i n k = elim (cases_lt k i) [
  | inl l ↦ inr (inl l)
  | inr g ↦ elim (cases_lt k (i + n)) [ inl l ↦ inl (g, l) | inr m ↦ inr (inr m) ]
]

-- what has these bits is the list with the run
pub with_run_from : (bits new : List Bool) (i n : ℕ) (v : Bool) → i + n ≤ length bits → length new ≡ length bits → ((k : ℕ) (d : Bool) → i ≤ k → k < i + n → get_or new k d ≡ v) →
    ((k : ℕ) (d : Bool) → k < length bits → (k < i) ⊎ (i + n ≤ k) → get_or new k d ≡ get_or bits k d) → new ≡ with_run bits i n v
with_run_from bits new i n v h long inside outside =
    let long' : length (with_run bits i n v) ≡ length bits = length-with_run bits i n v h in
    same_lists new (with_run bits i n v) (long ∙ sym long') (λ k d l. elim (in_or_out i n k) [
      | inl w ↦ inside k d w.0 w.1 ∙ sym (with_run-inside bits i n v k d h w.0 w.1)
      | inr o ↦ outside k d (omega arith) o ∙ sym (with_run-outside bits i n v k d h o)
    ])

-- a run of one
pub with_run-one : (bits : List Bool) (i : ℕ) (v : Bool) → i < length bits → with_run bits i 1 v ≡ set bits i v
with_run-one bits i v h = ap (λ m. take i bits ++ v ∷ drop m bits) (add-one i) ∙ sym (set_split bits i v h)

-- all of it, as it is read
pub with_run-reads : (bits : List Bool) (i n : ℕ) (v : Bool) → i + n ≤ length bits → HasRun bits (with_run bits i n v) i n v
with_run-reads bits i n v h = record {
  count = length-with_run bits i n v h;
  inside = λ k d low high. with_run-inside bits i n v k d h low high;
  outside = λ k d away. with_run-outside bits i n v k d h away;
}
