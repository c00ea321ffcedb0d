-- Bytes that are read from hexadecimal digits, two for each.
use Rattle.std.proofs.Common.{◌≡◌, ℕ, ◌+◌, ◌*◌, ◌<◌, ◌≤◌, Bool, false, List, [], ◌∷◌, ◌++◌, length, get_or, set, take, drop, arith, refl, sym, ap, ◌∙◌, cond, Option, Some, None, length-append}
use Rattle.std.proofs.lemmas.List.{take_more_set, take_all, append_assoc, length-take-le}
use Rattle.std.proofs.Math.ListN.{length-set}
use Rattle.mz_words.specs.Numbers.{is_from, ◌>>=◌}
use Rattle.mz_words.specs.Hex.{hex_value, bytes_of, shown_of}

-- bytes in front of those that are read
abbrev pub before : List ℕ → Option (List ℕ) → Option (List ℕ)
before bs None = None
before bs (Some more) = Some (bs ++ more)

-- so many bytes stand for the front of the word, and the rest is to be read
pub record Shows (word bytes rest : List ℕ) (count : ℕ) : Type 0 where
  pub read : bytes_of word ≡ before (take count bytes) (bytes_of rest)
  pub room : count ≤ 64
  pub whole : length bytes ≡ 64

-- one more byte
before_one : (bs : List ℕ) (v : ℕ) (more : Option (List ℕ)) → before bs (more >>= λ ms. Some (v ∷ ms)) ≡ before (bs ++ v ∷ []) more
before_one bs v None = refl
before_one bs v (Some ms) = ap (λ (x : List ℕ). Some x) (sym (append_assoc bs (v ∷ []) ms))

pair_read :
    (a b h l : ℕ) (rs : List ℕ) → Some h ≡ hex_value a → Some l ≡ hex_value b
    → bytes_of (a ∷ b ∷ rs) ≡ (bytes_of rs >>= λ bs. Some ((16 * h + l) ∷ bs))
pair_read a b h l rs eh el =
    ap (λ (o : Option ℕ). o >>= λ x. hex_value b >>= λ y. bytes_of rs >>= λ bs. Some ((16 * x + y) ∷ bs)) (sym eh)
    ∙ ap (λ (o : Option ℕ). o >>= λ y. bytes_of rs >>= λ bs. Some ((16 * h + y) ∷ bs)) (sym el)

pub shown_more :
    (word bytes rest : List ℕ) (count h l n : ℕ) → Shows word bytes rest count → count < 64 → 2 ≤ length rest → length rest ≤ n + 2
    → Some h ≡ hex_value (get_or rest 0 0) → Some l ≡ hex_value (get_or rest 1 0)
    → Shows word (set bytes count (16 * h + l)) (take n (drop 2 rest)) (count + 1)
shown_more word bytes [] count h l n so_far room two le eh el = absurd (omega arith)
shown_more word bytes (a ∷ []) count h l n so_far room two le eh el = absurd (omega arith)
shown_more word bytes (a ∷ b ∷ rs) count h l n so_far room two le eh el =
    let v = 16 * h + l in
    let all : take n rs ≡ rs = take_all n rs (omega arith) in
    let fits : count < length bytes = omega (arith, so_far.whole) in
    let front : take (count + 1) (set bytes count v) ≡ take count bytes ++ v ∷ [] = take_more_set bytes count v fits in
    record {
      read =
          so_far.read ∙ ap (before (take count bytes)) (pair_read a b h l rs eh el) ∙ before_one (take count bytes) v (bytes_of rs)
          ∙ ap (λ (x : List ℕ). before x (bytes_of rs)) (sym front) ∙ ap (λ (x : List ℕ). before (take (count + 1) (set bytes count v)) (bytes_of x)) (sym all);
      room = omega arith;
      whole = length-set bytes count v ∙ so_far.whole;
    }

-- more than 64 bytes aren't shown
too_long : (bs ms : List ℕ) → 64 < length (bs ++ ms) → is_from 1 64 (length (bs ++ ms)) ≡ false
too_long bs ms h = grind arith

abbrev shown_if : Option (List ℕ) → Option (List ℕ)
shown_if o = o >>= λ bs. cond (is_from 1 64 (length bs)) (Some bs) None

step_none : (bs : List ℕ) (v : ℕ) (o : Option (List ℕ)) → length bs ≡ 64 → shown_if (before bs (o >>= λ ms. Some (v ∷ ms))) ≡ None
step_none bs v None e = refl
step_none bs v (Some ms) e =
    let long : 64 < length (bs ++ v ∷ ms) = omega (arith, length-append bs (v ∷ ms)) in
    ap (λ (t : Bool). cond t (Some (bs ++ v ∷ ms)) None) (too_long bs (v ∷ ms) long)

value_none : (bs rs : List ℕ) (h : ℕ) (o : Option ℕ) → length bs ≡ 64 → shown_if (before bs (o >>= λ y. bytes_of rs >>= λ ms. Some ((16 * h + y) ∷ ms))) ≡ None
value_none bs rs h None e = refl
value_none bs rs h (Some l) e = step_none bs (16 * h + l) (bytes_of rs) e

pair_none : (bs rs : List ℕ) (b : ℕ) (o : Option ℕ) → length bs ≡ 64 → shown_if (before bs (o >>= λ x. hex_value b >>= λ y. bytes_of rs >>= λ ms. Some ((16 * x + y) ∷ ms))) ≡ None
pair_none bs rs b None e = refl
pair_none bs rs b (Some h) e = value_none bs rs h (hex_value b) e

pub shown_full : (word bytes rest : List ℕ) (count : ℕ) → Shows word bytes rest count → 64 ≤ count → 2 ≤ length rest → None ≡ shown_of word
shown_full word bytes [] count so_far full two = absurd (omega arith)
shown_full word bytes (a ∷ []) count so_far full two = absurd (omega arith)
shown_full word bytes (a ∷ b ∷ rs) count so_far full two =
    let long : length (take count bytes) ≡ 64 = length-take-le count bytes (omega (arith, so_far.whole)) ∙ (let e : count ≡ 64 = omega (arith, so_far.room) in e) in
    sym (ap shown_if so_far.read ∙ pair_none (take count bytes) rs b (hex_value a) long)
