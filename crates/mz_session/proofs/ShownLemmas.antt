-- Bytes that are shown as they are known: in parts, filled, and with an address among them.
use Rattle.std.proofs.Common.{◌≡◌, ℕ, zero, suc, ◌+◌, ◌*◌, ◌/◌, ◌%◌, ◌^◌, ◌≤◌, true, List, [], ◌∷◌, ◌++◌, length, Some, None, refl, ap, sym, subst, ◌∙◌, arith, length-append}
use Rattle.std.specs.Prelude.{◌==◌, map, take, drop, replicate}
use Rattle.std.specs.Int.{byte_at, bytes_low_first}
use Rattle.std.proofs.Math.Nat.{div-div-eq-div-mul}
use Rattle.std.proofs.Math.Seq.{take-append_seam}
use Rattle.std.proofs.lemmas.Bool.{false≢true, and_parts, and_from, eq-eqb}
use Rattle.std.proofs.lemmas.List.{length-take-le, length-drop}
use Rattle.mz_record.specs.Bytes.{Bytes, filled, low_bytes, linked, is_shown_as}
use Rattle.mz_session.specs.Changes.{written}

-- bytes that were all written are shown as that byte
pub shown-filled : (n byte : ℕ) → is_shown_as (filled n byte) (replicate n byte) ≡ true
shown-filled zero byte = refl
shown-filled (suc n) byte = and_from (byte == byte) (is_shown_as (filled n byte) (replicate n byte)) (eq-eqb byte byte refl) (shown-filled n byte)

shown-known : (xs : List ℕ) → is_shown_as (map (λ x. Some x) xs) xs ≡ true
shown-known [] = refl
shown-known (x ∷ xs) = and_from (x == x) (is_shown_as (map (λ y. Some y) xs) xs) (eq-eqb x x refl) (shown-known xs)

shown-append : (bs : Bytes) (us : List ℕ) (cs : Bytes) (vs : List ℕ) → is_shown_as bs us ≡ true → is_shown_as cs vs ≡ true → is_shown_as (bs ++ cs) (us ++ vs) ≡ true
shown-append [] [] cs vs front back = back
shown-append [] (u ∷ us) cs vs front back = absurd (false≢true front)
shown-append (b ∷ bs) [] cs vs front back = absurd (false≢true front)
shown-append (None ∷ bs) (u ∷ us) cs vs front back = shown-append bs us cs vs front back
shown-append (Some b ∷ bs) (u ∷ us) cs vs front back =
    let parts = and_parts (b == u) (is_shown_as bs us) front in
    and_from (b == u) (is_shown_as (bs ++ cs) (us ++ vs)) parts.0 (shown-append bs us cs vs parts.1 back)

pub shown-take : (n : ℕ) (bs : Bytes) (us : List ℕ) → is_shown_as bs us ≡ true → is_shown_as (take n bs) (take n us) ≡ true
shown-take zero bs us all = refl
shown-take (suc n) [] [] all = refl
shown-take (suc n) [] (u ∷ us) all = absurd (false≢true all)
shown-take (suc n) (b ∷ bs) [] all = absurd (false≢true all)
shown-take (suc n) (None ∷ bs) (u ∷ us) all = shown-take n bs us all
shown-take (suc n) (Some b ∷ bs) (u ∷ us) all =
    let parts = and_parts (b == u) (is_shown_as bs us) all in
    and_from (b == u) (is_shown_as (take n bs) (take n us)) parts.0 (shown-take n bs us parts.1)

pub shown-drop : (n : ℕ) (bs : Bytes) (us : List ℕ) → is_shown_as bs us ≡ true → is_shown_as (drop n bs) (drop n us) ≡ true
shown-drop zero bs us all = all
shown-drop (suc n) [] [] all = refl
shown-drop (suc n) [] (u ∷ us) all = absurd (false≢true all)
shown-drop (suc n) (b ∷ bs) [] all = absurd (false≢true all)
shown-drop (suc n) (None ∷ bs) (u ∷ us) all = shown-drop n bs us all
shown-drop (suc n) (Some b ∷ bs) (u ∷ us) all = shown-drop n bs us (and_parts (b == u) (is_shown_as bs us) all).1

-- the bytes of a number, least byte first, are those that std gives
byte-later : (i n : ℕ) → byte_at (suc i) n ≡ byte_at i (n / 256)
byte-later zero n = refl
byte-later (suc i) n =
    let power : 256 * 256 ^ suc i ≡ 256 ^ suc (suc i) = grind arith in
    ap (λ x. n / x % 256) (sym power) ∙ ap (λ x. x % 256) (sym (div-div-eq-div-mul n 256 (256 ^ suc i)))

bytes-later : (i k n : ℕ) → bytes_low_first (suc i) k n ≡ bytes_low_first i k (n / 256)
bytes-later i zero n = refl
bytes-later i (suc k) n = ap (λ b. b ∷ bytes_low_first (suc (suc i)) k n) (byte-later i n) ∙ ap (λ bs. byte_at i (n / 256) ∷ bs) (bytes-later (suc i) k n)

pub low-bytes : (k n : ℕ) → bytes_low_first 0 k n ≡ low_bytes k n
low-bytes zero n = refl
low-bytes (suc k) n = ap (λ bs. n % 256 ∷ bs) (bytes-later 0 k n ∙ low-bytes k (n / 256))

pub length-low : (k a : ℕ) → length (low_bytes k a) ≡ k
length-low zero a = refl
length-low (suc k) a = ap suc (length-low k (a / 256))

-- an address that is written is shown, and so are the bytes around it
pub shown-linked :
    (off a : ℕ) (known : Bytes) (bytes : List ℕ) → is_shown_as known bytes ≡ true
    → is_shown_as (linked off a known) (written off (low_bytes 8 a) bytes) ≡ true
shown-linked off a known bytes all =
    subst (λ n. is_shown_as (linked off a known) (take off bytes ++ low_bytes 8 a ++ drop (off + n) bytes) ≡ true) (sym (length-low 8 a))
    (shown-append (take off known ++ map (λ x. Some x) (low_bytes 8 a)) (take off bytes ++ low_bytes 8 a) (drop (off + 8) known) (drop (off + 8) bytes)
    (shown-append (take off known) (take off bytes) (map (λ x. Some x) (low_bytes 8 a)) (low_bytes 8 a) (shown-take off known bytes all) (shown-known (low_bytes 8 a)))
    (shown-drop (off + 8) known bytes all))

-- bytes with others written over some are as many
pub length-written : (off : ℕ) (ws bs : List ℕ) → off + length ws ≤ length bs → length (written off ws bs) ≡ length bs
length-written off ws bs room =
    let front = length-take-le off bs (omega (arith, room)) in
    let back = length-drop (off + length ws) bs in
    let all = length-append (take off bs ++ ws) (drop (off + length ws) bs) in
    let rest = length-append (take off bs) ws in
    omega (arith, room, front, back, all, rest)

-- bytes that are as many as those over which they are written are all that is there then
pub over-all : (ws bs : List ℕ) → length ws ≡ length bs → take (length bs) (ws ++ drop (length ws) bs) ≡ ws
over-all ws bs same = ap (λ n. take n (ws ++ drop (length ws) bs)) (sym same) ∙ take-append_seam ws (drop (length ws) bs)
