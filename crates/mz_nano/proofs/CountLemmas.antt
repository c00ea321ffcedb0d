-- Seats whose hands are counted.
use Rattle.std.proofs.Common.{◌≡◌, ℕ, zero, suc, ◌<◌, List, [], ◌∷◌, length, get_or, refl, sym, ap, ◌∙◌, arith, inl, inr, ⊎_elim}
use Rattle.mz_nano.specs.declared.seat.NanoSeat.{NanoSeat}
use Rattle.mz_nano.specs.Lists.{In}
use Rattle.mz_nano.specs.SeatLists.{AllEmpty, SomeHeld, NoneHeld}

no_length : {A : Type 0} (xs : List A) → length xs ≡ 0 → xs ≡ []
no_length [] e = refl
no_length (x ∷ xs) e = absurd (omega arith)

pub in_index : (ss : List NanoSeat) (s d : NanoSeat) → In s ss → (k : ℕ) × (k < length ss) × (get_or ss k d ≡ s)
in_index [] s d h = absurd h
in_index (x ∷ xs) s d h = ⊎_elim (λ (q : s ≡ x). (0, omega arith, sym q)) (λ (q : In s xs). let t = in_index xs s d q in (suc t.0, (let l = t.1 in omega arith), t.2)) h

pub index_in : (ss : List NanoSeat) (k : ℕ) (d : NanoSeat) → k < length ss → In (get_or ss k d) ss
index_in [] k d l = absurd (omega arith)
index_in (x ∷ xs) zero d l = inl refl
index_in (x ∷ xs) (suc k) d l = inr (index_in xs k d (omega arith))

pub none_held : (ss : List NanoSeat) → NoneHeld ss → AllEmpty ss
none_held ss n s h = let t = in_index ss s s h in no_length s.seat.me.0.hand (sym s.count ∙ (ap (λ (q : NanoSeat). q.held) (sym t.2) ∙ n t.0 s t.1))

pub some_held : (ss : List NanoSeat) (s : NanoSeat) → In s ss → (s.held ≡ 0 → ⊥) → SomeHeld ss
some_held ss s h n = (s, h, λ e. n (s.count ∙ ap length e))
