-- The lists of a state, slot by slot.
use Rattle.std.proofs.Common.{◌≡◌, ℕ, ◌+◌, ◌<◌, ◌≤◌, List, [], ◌∷◌, ◌++◌, map, length, drop, get_or, refl, sym, ap, ◌∙◌, append_assoc}
use Rattle.std.specs.List.{flat_map}
use Rattle.std.proofs.lemmas.List.{at_drop_more, drop_all, map-append}
use Rattle.mz_base.specs.Space.{Block, Run}
use Rattle.mz_events.specs.declared.place.Place.{Place}
use Rattle.mz_events.specs.Places.{Spot, place_of}
use Rattle.mz_events.specs.State.{Value}
use Rattle.mz_holding.specs.declared.extent.Extent.{Extent}
use Rattle.mz_holding.specs.HeldRuns.{run_of_extent, block_of}
use Rattle.mz_history.specs.Listed.{run_listed, block_listed, run_at_place, block_at_place, runs_of_slot, blocks_of_slot}

append_none : {A : Type 0} (xs : List A) → xs ++ [] ≡ xs
append_none [] = refl
append_none (x ∷ xs) = ap (λ l. x ∷ l) (append_none xs)

-- what is appended, an element at a time
pub more_mapped : {A B : Type 0} (f : A → B) (xs : List A) (i : ℕ) (d : A) (before list more : List B) → i < length xs → list ++ map f (drop i xs) ≡ before → more ≡ list ++ f (get_or xs i d) ∷ [] → more ++ map f (drop (i + 1) xs) ≡ before
more_mapped f xs i d before list more below is pushed =
    ap (λ l. l ++ map f (drop (i + 1) xs)) pushed ∙ append_assoc list (f (get_or xs i d) ∷ []) (map f (drop (i + 1) xs))
    ∙ sym (ap (λ l. list ++ l) (at_drop_more (map f) xs i d below)) ∙ is

pub all_mapped_here : {A B : Type 0} (f : A → B) (xs : List A) (i : ℕ) (before list : List B) → length xs ≤ i → list ++ map f (drop i xs) ≡ before → list ≡ before
all_mapped_here f xs i before list over is = sym (append_none list) ∙ sym (ap (λ l. list ++ map f l) (drop_all i xs over)) ∙ is

pub more_listed : {A B C : Type 0} (f : A → List B) (g : B → C) (xs : List A) (i : ℕ) (x : A) (before list more : List C) → i < length xs → x ≡ get_or xs i x → list ++ map g (flat_map f (drop i xs)) ≡ before → more ≡ list ++ map g (f x) → more ++ map g (flat_map f (drop (i + 1) xs)) ≡ before
more_listed f g xs i x before list more below at is pushed =
    ap (λ l. l ++ map g (flat_map f (drop (i + 1) xs))) pushed ∙ append_assoc list (map g (f x)) (map g (flat_map f (drop (i + 1) xs)))
    ∙ ap (λ l. list ++ l) (sym (map-append g (f x) (flat_map f (drop (i + 1) xs))) ∙ ap (λ y. map g (f y ++ flat_map f (drop (i + 1) xs))) at
    ∙ sym (at_drop_more (λ l. map g (flat_map f l)) xs i x below)) ∙ is

pub all_listed : {A B C : Type 0} (f : A → List B) (g : B → C) (xs : List A) (i : ℕ) (before list : List C) → length xs ≤ i → list ++ map g (flat_map f (drop i xs)) ≡ before → list ≡ before
all_listed f g xs i before list over is = sym (append_none list) ∙ sym (ap (λ l. list ++ map g (flat_map f l)) (drop_all i xs over)) ∙ is

runs_placed : (j : Spot) (es : List Extent) → map run_listed (map (λ (r : Run). (j, r)) (map run_of_extent es)) ≡ map (run_at_place (place_of j)) es
runs_placed j [] = refl
runs_placed j (e ∷ es) = ap (λ l. run_at_place (place_of j) e ∷ l) (runs_placed j es)

blocks_placed : (j : Spot) (es : List Extent) → map block_listed (map (λ (b : Block). (j, b)) (map block_of es)) ≡ map (block_at_place (place_of j)) es
blocks_placed j [] = refl
blocks_placed j (e ∷ es) = ap (λ l. block_at_place (place_of j) e ∷ l) (blocks_placed j es)

pub runs_here : (slot : Spot × Value) (k : Place) (es : List Extent) → k ≡ place_of slot.0 → map run_of_extent es ≡ slot.1.kept.runs → map (run_at_place k) es ≡ map run_listed (runs_of_slot slot)
runs_here slot k es at is = ap (λ (q : Place). map (run_at_place q) es) at ∙ sym (runs_placed slot.0 es) ∙ ap (λ (rs : List Run). map run_listed (map (λ (r : Run). (slot.0, r)) rs)) is

pub blocks_here : (slot : Spot × Value) (k : Place) (es : List Extent) → k ≡ place_of slot.0 → map block_of es ≡ slot.1.kept.live → map (block_at_place k) es ≡ map block_listed (blocks_of_slot slot)
blocks_here slot k es at is = ap (λ (q : Place). map (block_at_place q) es) at ∙ sym (blocks_placed slot.0 es) ∙ ap (λ (bs : List Block). map block_listed (map (λ (b : Block). (slot.0, b)) bs)) is

pub firsts_here : (es : List Extent) (rs : List Run) → map run_of_extent es ≡ rs → map (λ (e : Extent). e.first) es ≡ map (λ (r : Run). r.first) rs
firsts_here es rs is = mapped es ∙ ap (map (λ (r : Run). r.first)) is
  where
    mapped : (es : List Extent) → map (λ (e : Extent). e.first) es ≡ map (λ (r : Run). r.first) (map run_of_extent es)
    mapped [] = refl
    mapped (e ∷ es) = ap (λ l. e.first ∷ l) (mapped es)
