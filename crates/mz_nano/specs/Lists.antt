-- Members, chains, and hands.
use Rattle.std.specs.Prelude.{◌≡◌, ℕ, ◌+◌, ◌==◌, ◌&&◌, ◌⊎◌, Bool, if◌then◌else◌, List, [], ◌∷◌}
use Rattle.mz_nano.specs.declared.view.Held.{Held}

-- x is a member
abbrev pub In : {A : Type 0} → A → List A → Type 0
In x [] = ⊥
In x (y ∷ ys) = (x ≡ y) ⊎ In x ys

abbrev pub Distinct : List ℕ → Type 0
Distinct [] = Unit {0}
Distinct (x ∷ xs) = (In x xs → ⊥) × Distinct xs

-- from the link n on, the links lead to just these slots
abbrev pub Chain : (ℕ → ℕ) → ℕ → List ℕ → Type 0
Chain links n [] = n ≡ 0
Chain links n (j ∷ js) = (n ≡ j + 1) × Chain links (links j) js

abbrev pub is_at : ℕ → ℕ → Held → Bool
is_at b j h = (h.block == b) && (h.slot == j)

-- the hand without the slot j of the block b
abbrev pub without : ℕ → ℕ → List Held → List Held
without b j [] = []
without b j (h ∷ hs) = if is_at b j h then without b j hs else h ∷ without b j hs
