-- Lists that grow at their end.
use Rattle.std.proofs.Common.{◌≡◌, ℕ, zero, suc, ◌+◌, List, [], ◌∷◌, ◌++◌, length, replicate, refl, ap, ◌∙◌, subst, arith}
use Rattle.atomic_table.specs.Seated.{TableId}
use Rattle.mz_nano.specs.declared.view.Geometry.{Geometry}
use Rattle.mz_nano.specs.declared.seat.NanoSeat.{NanoSeat}
use Rattle.mz_nano.specs.SeatLists.{IsNew, AllNew}

pub repeat_more : {A : Type 0} (n : ℕ) (x : A) → replicate n x ++ x ∷ [] ≡ replicate (n + 1) x
repeat_more {A = A} zero x = refl
repeat_more {A = A} (suc n) x = ap (λ (xs : List A). x ∷ xs) (repeat_more n x) ∙ (let e : suc (n + 1) ≡ suc n + 1 = omega arith in ap (λ (k : ℕ). replicate k x) e)

pub all_new_more : (id : TableId) (key : Geometry) (k n : ℕ) (xs : List NanoSeat) (s : NanoSeat) → AllNew id key k xs → n ≡ k + length xs → IsNew id key n s → AllNew id key k (xs ++ s ∷ [])
all_new_more id key k n [] s a e b = (subst (λ (i : ℕ). IsNew id key i s) (omega arith) b, tt)
all_new_more id key k n (x ∷ xs) s a e b = (a.0, all_new_more id key (k + 1) n xs s a.1 (omega arith) b)
