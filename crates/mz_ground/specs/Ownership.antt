-- What the parts of a span and of a ground own. A ticket stands for one byte of a space, and there is one of each. This project's own.
use Rattle.std.specs.Prelude.{ℕ, zero, suc, ◌+◌, List, [], ◌∷◌, Bool, true, false, length, take, drop}
use base.Fraction.{full_share}
use base.Fml.{GName, Fml, ftrue, fsep, fall, fwand, feq}
use types.Keyed.{ticket}
use denote.RawPtr.Bytes.{bytes}
use Rattle.mz_base.specs.Site.{Site}

-- the tickets of n bytes from the address a on
abbrev pub tickets : GName → ℕ → ℕ → Fml
tickets γ a zero = ftrue
tickets γ a (suc n) = fsep (ticket γ a) (tickets γ (a + 1) n)

-- the bytes xs, which lie in the space s from its address a on
abbrev pub lies_in : Site → ℕ → List ℕ → Fml
lies_in s a xs = bytes full_share xs s.block (s.origin + a)

-- handed all bytes of the space s, whatever they are then, this becomes what `after` says of them
abbrev pub with_all_bytes : Site → (List ℕ → Fml) → Fml
with_all_bytes s after = fall (List ℕ) (λ xs. fwand (fsep (feq ℕ (length xs) s.size) (lies_in s 0 xs)) (after xs))

-- these bytes with their tickets
abbrev pub plot_owns : Site → ℕ → List ℕ → Fml
plot_owns s a xs = fsep (lies_in s a xs) (tickets s.name a (length xs))

-- of the quanta of Q bytes from the address a on, which hold xs, those whose flag says that they aren't lent
abbrev pub kept_owns : Site → ℕ → ℕ → List Bool → List ℕ → Fml
kept_owns s a Q [] xs = ftrue
kept_owns s a Q (true ∷ fs) xs = kept_owns s (a + Q) Q fs (drop Q xs)
kept_owns s a Q (false ∷ fs) xs = fsep (plot_owns s a (take Q xs)) (kept_owns s (a + Q) Q fs (drop Q xs))
