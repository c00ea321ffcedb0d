-- Lists in parts, and quanta in bytes.
use Rattle.std.proofs.Common.{◌≡◌, ℕ, ◌+◌, ◌-◌, ◌*◌, ◌≤◌, List, ◌++◌, length, take, drop, sym, ap, ◌∙◌, arith, drop-drop, mul-add}
use Rattle.std.proofs.lemmas.List.{take-append-drop, length-drop}
use Rattle.std.proofs.Math.Nat.{mul-le-mul_left}

-- the first n items, the m that follow, and the others
pub in_three : {X : Type 0} (xs : List X) (n m : ℕ) → take n xs ++ (take m (drop n xs) ++ drop (n + m) xs) ≡ xs
in_three xs n m = ap (λ l. take n xs ++ (take m (drop n xs) ++ l)) (sym (drop-drop m n xs)) ∙ ap (λ l. take n xs ++ l) (take-append-drop m (drop n xs)) ∙ take-append-drop n xs

-- what follows the first n has m more
pub part_within : {X : Type 0} (xs : List X) (n m : ℕ) → n + m ≤ length xs → m ≤ length (drop n xs)
part_within xs n m h = let long : length (drop n xs) ≡ length xs - n = length-drop n xs in omega arith

-- quanta that are within, in bytes
pub times_within : (Q q n l m : ℕ) → q + n ≤ l → m ≡ Q * l → Q * q + Q * n ≤ m
times_within Q q n l m h e =
    let apart : Q * (q + n) ≡ Q * q + Q * n = mul-add Q q n in
    let low : Q * (q + n) ≤ Q * l = mul-le-mul_left Q h in
    omega arith
