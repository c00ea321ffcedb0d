-- Blocks that a list has, and what both cases of an answer say.
use Rattle.std.proofs.Common.{◌≡◌, ℕ, ◌≤◌, List, [], ◌∷◌, Bool, true, false, Option, Some, None, refl, sym, ap, ◌∙◌, inl, inr, arith}
use Rattle.std.specs.Prelude.{◌==◌, find, IsTrue, if◌then◌else◌}
use Rattle.std.specs.Bool.{MatchBool}
use Rattle.std.proofs.lemmas.Bool.{and_from, cases_Bool, eqb-true, eqb-false, eq-eqb, ne_eqb, cond-true, cond-false, or_left, or_right}
use Rattle.mz_base.specs.Space.{Block, block_at, same_block}
use Rattle.mz_base.specs.Lists.{has_block, size_at}
use Rattle.mz_events.specs.declared.place.Place.{Place}
use Rattle.mz_events.specs.declared.place.Place.TheVariants.{Tiny, TinyDepot}
use Rattle.mz_events.specs.Places.{is_magazine, is_depot}
use Rattle.mz_events.specs.Changes.{without_block}
use Rattle.mz_events.specs.Standing.{RegionsKept}

size_here : (c : Block) (cs : List Block) (x : ℕ) → c.first ≡ x → size_at (c ∷ cs) x ≡ c.size
size_here c cs x at = let read : Option Block → ℕ = λ o. elim o [ None ↦ 0 | Some b ↦ b.size ] in ap read (cond-true (c.first == x) (Some c) (find (λ b. b.first == x) cs) (eq-eqb c.first x at))

size_later : (c : Block) (cs : List Block) (x : ℕ) → (c.first ≡ x → ⊥) → size_at (c ∷ cs) x ≡ size_at cs x
size_later c cs x other = let read : Option Block → ℕ = λ o. elim o [ None ↦ 0 | Some b ↦ b.size ] in ap read (cond-false (c.first == x) (Some c) (find (λ b. b.first == x) cs) (ne_eqb c.first x other))

-- a block of a size is there
pub block_of_size : (L : List Block) (x n : ℕ) → size_at L x ≡ n → 1 ≤ n → has_block L (block_at x n) ≡ true
block_of_size [] x n e some = absurd (omega arith)
block_of_size (c ∷ cs) x n e some =
    elim (cases_Bool (c.first == x)) [
      | inl here ↦
          let at = eqb-true c.first x here in
          let long : c.size ≡ n = sym (size_here c cs x at) ∙ e in
          or_left (same_block (block_at x n) c) (has_block cs (block_at x n)) (and_from (x == c.first) (n == c.size) (eq-eqb x c.first (sym at)) (eq-eqb n c.size (sym long)))
      | inr later ↦ or_right (same_block (block_at x n) c) (has_block cs (block_at x n)) (block_of_size cs x n (sym (size_later c cs x (eqb-false c.first x later)) ∙ e) some)
    ]

-- a length that isn't zero
pub some_bytes : (n : ℕ) → (n == 0) ≡ false → 1 ≤ n
some_bytes n e = let no = eqb-false n 0 e in omega (arith, no)

-- what both cases of an answer say
pub both_cases : (r : Bool) (X Y Z : Type 0) → MatchBool r X Y → (X → Z) → (Y → Z) → Z
both_cases true X Y Z m f g = f m
both_cases false X Y Z m f g = g m

-- a free leaves the space and the room, of a magazine and of a depot
pub free_stays : (depot : Bool) (old new : RegionsKept) (b : Block) → ((q : Place) → IsTrue (if depot then is_depot q else is_magazine q) → new ≡ record old { kept = without_block q b old.kept }) → (new.space ≡ old.space) × (new.room ≡ old.room)
free_stays true old new b done =
    let is = done (TinyDepot 0) refl in
    (ap (λ (v : RegionsKept). v.space) is, ap (λ (v : RegionsKept). v.room) is)
free_stays false old new b done =
    let is = done (Tiny 0 0) refl in
    (ap (λ (v : RegionsKept). v.space) is, ap (λ (v : RegionsKept). v.room) is)
