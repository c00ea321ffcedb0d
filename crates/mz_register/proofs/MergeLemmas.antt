-- Records put together by ticket.
use Rattle.std.proofs.Common.{◌≡◌, ◌≢◌, ℕ, ◌+◌, ◌<◌, List, [], ◌∷◌, ◌++◌, length, set, get_or, take, drop, ◌-◌, length-append, Vec, map, Option, Some, None, refl, sym, ap, ◌∙◌, subst, arith, inl, inr, ⊎_elim, ◌⊎◌, zero, suc}
use Rattle.std.specs.declared.alloc.Global.{Global}
use Rattle.std.proofs.lemmas.Bool.{cases_eq}
use Rattle.std.proofs.Math.Seq.{drop-append_seam}
use Rattle.std.specs.Prelude.{slice_get}
use Rattle.std.proofs.lemmas.Option.{slice_get_within}
use Rattle.mz_events.specs.declared.entry.Entry.{Entry}
use Rattle.mz_register.specs.Merged.{IsPart, IsNoted, IsMerge, CanWrite}

pub some_is : {A : Type 0} (x y : A) → Some x ≡ Some y → x ≡ y
some_is {A} x y e = ap (λ (o : Option A). value x o) e
  where
    value : A → Option A → A
    value d None = d
    value d (Some z) = z

-- elements of a list

pub at_length : {A : Type 0} (xs : List A) (i : ℕ) (x : A) → slice_get xs i ≡ Some x → i < length xs
at_length xs i x e = slice_get_within xs i x e

pub index_at : {A : Type 0} (xs : List A) (i : ℕ) (x d : A) → slice_get xs i ≡ Some x → get_or xs i d ≡ x
index_at [] i x d e = absurd (cc)
index_at (y ∷ ys) zero x d e = some_is y x e
index_at (y ∷ ys) (suc i) x d e = index_at ys i x d e

pub at_get : {A : Type 0} (xs : List A) (i : ℕ) (d : A) → i < length xs → slice_get xs i ≡ Some (get_or xs i d)
at_get [] i d l = absurd (omega arith)
at_get (x ∷ xs) zero d l = refl
at_get (x ∷ xs) (suc i) d l = at_get xs i d (omega arith)

pub at_index : {A : Type 0} (xs : List A) (i : ℕ) (x : A) → i < length xs → x ≡ get_or xs i x → slice_get xs i ≡ Some x
at_index xs i x l e = at_get xs i x l ∙ ap (λ (z : _). Some z) (sym e)

pub at_left : {A : Type 0} (xs ys : List A) (i : ℕ) (x : A) → slice_get xs i ≡ Some x → slice_get (xs ++ ys) i ≡ Some x
at_left [] ys i x e = absurd (cc)
at_left (z ∷ zs) ys zero x e = e
at_left (z ∷ zs) ys (suc i) x e = at_left zs ys i x e

pub at_right : {A : Type 0} (xs ys : List A) (i : ℕ) (x : A) → slice_get ys i ≡ Some x → slice_get (xs ++ ys) (length xs + i) ≡ Some x
at_right [] ys i x e = ap (slice_get ys) (omega arith) ∙ e
at_right (z ∷ zs) ys i x e = let j : length (z ∷ zs) + i ≡ suc (length zs + i) = omega arith in ap (slice_get (z ∷ (zs ++ ys))) j ∙ at_right zs ys i x e

pub at_either : {A : Type 0} (xs ys : List A) (i : ℕ) (x : A) → slice_get (xs ++ ys) i ≡ Some x → (slice_get xs i ≡ Some x) ⊎ ((j : ℕ) × (slice_get ys j ≡ Some x))
at_either [] ys i x e = inr (i, e)
at_either (z ∷ zs) ys zero x e = inl e
at_either (z ∷ zs) ys (suc i) x e = at_either zs ys i x e

pub at_map : {A : Type 0} {B : Type 0} (f : A → B) (xs : List A) (i : ℕ) (x : A) → slice_get xs i ≡ Some x → slice_get (map f xs) i ≡ Some (f x)
at_map f [] i x e = absurd (cc)
at_map f (y ∷ ys) zero x e = ap (λ (z : _). Some (f z)) (some_is y x e)
at_map f (y ∷ ys) (suc i) x e = at_map f ys i x e

pub of_map : {A : Type 0} {B : Type 0} (f : A → B) (xs : List A) (i : ℕ) (y : B) → slice_get (map f xs) i ≡ Some y → (x : A) × ((slice_get xs i ≡ Some x) × (f x ≡ y))
of_map f [] i y e = absurd (cc)
of_map f (x ∷ xs) zero y e = (x, (refl, some_is (f x) y e))
of_map f (x ∷ xs) (suc i) y e = of_map f xs i y e

set_here : {A : Type 0} (xs : List A) (i : ℕ) (x : A) → i < length xs → slice_get (set xs i x) i ≡ Some x
set_here [] i x h = absurd (omega arith)
set_here (y ∷ ys) zero x h = refl
set_here (y ∷ ys) (suc i) x h = set_here ys i x (omega arith)

set_else : {A : Type 0} (xs : List A) (i j : ℕ) (x : A) → j ≢ i → slice_get (set xs i x) j ≡ slice_get xs j
set_else [] i j x n = refl
set_else (y ∷ ys) zero zero x n = absurd (n refl)
set_else (y ∷ ys) zero (suc j) x n = refl
set_else (y ∷ ys) (suc i) zero x n = refl
set_else (y ∷ ys) (suc i) (suc j) x n = set_else ys i j x (λ e. n (ap suc e))

same_lists : {A : Type 0} (xs ys : List A) → length xs ≡ length ys → ((i : ℕ) (y : A) → slice_get ys i ≡ Some y → slice_get xs i ≡ Some y) → xs ≡ ys
same_lists [] [] l f = refl
same_lists [] (y ∷ ys) l f = absurd (omega arith)
same_lists (x ∷ xs) [] l f = absurd (omega arith)
same_lists {A} (x ∷ xs) (y ∷ ys) l f =
    let h : x ≡ y = some_is x y (f 0 y refl) in
    let t : xs ≡ ys = same_lists xs ys (omega arith) (λ i z e. f (suc i) z e) in
    λ j. h j ∷ t j

-- a write of what stands there loses nothing
write_keeps : (out all : List Entry) (t i : ℕ) (e x : Entry) → t < length out → slice_get all t ≡ Some e → slice_get all i ≡ Some x → slice_get out i ≡ Some x → slice_get (set out t e) i ≡ Some x
write_keeps out all t i e x l at_t at_i h = ⊎_elim
    (λ (y : i ≡ t). let ex : e ≡ x = some_is e x (sym at_t ∙ (ap (slice_get all) (sym y) ∙ at_i)) in ap (slice_get (set out t e)) y ∙ (set_here out t e l ∙ ap (λ (z : Entry). Some z) ex))
    (λ (y : i ≡ t → ⊥). set_else out t i e y ∙ h)
    (cases_eq i t)

pub part_of : (all out out' : List Entry) (records : List (Vec Entry Global)) (k : ℕ) (r : Vec Entry Global) → IsMerge all out records → length out' ≡ length out → slice_get records k ≡ Some r → IsPart all out' r.items
part_of all out out' records k r mg len at = record { sized = len ∙ mg.sized; stands = mg.stands k r at }

-- where each record is in its place, and nothing else is lost, all is merged
pub merged : (all out out' : List Entry) (records : List (Vec Entry Global)) → IsMerge all out records → length out' ≡ length out
    → ((i : ℕ) (e : Entry) → slice_get all i ≡ Some e → slice_get out i ≡ Some e → slice_get out' i ≡ Some e)
    → ((k : ℕ) (r : Vec Entry Global) (i : ℕ) (e : Entry) → slice_get records k ≡ Some r → slice_get r.items i ≡ Some e → slice_get out' e.ticket ≡ Some e) → out' ≡ all
merged all out out' records mg len kept placed = same_lists out' all (len ∙ mg.sized) (λ i y h. ⊎_elim
    (λ (o : slice_get out i ≡ Some y). kept i y h o)
    (λ (n : IsNoted records y). let t = mg.tickets i y h in ap (slice_get out') (sym t) ∙ placed n.index n.noted n.place y n.at n.here)
    (mg.each i y h))

-- the next write of a part: it is in range, loses nothing, and puts its entry in place
pub next_ok : (all out part : List Entry) (i : ℕ) (d : Entry) → IsPart all out part → i < length part → ((get_or part i d).ticket < length all) × (slice_get all (get_or part i d).ticket ≡ Some (get_or part i d))
next_ok all out part i d p l = let s = p.stands i (get_or part i d) (at_get part i d l) in (at_length all (get_or part i d).ticket (get_or part i d) s, s)

pub next_placed : (all out out' part : List Entry) (i : ℕ) (d : Entry) → IsPart all out part → i < length part → length out' ≡ length out
    → ((q : ℕ) (e : Entry) → q < i → slice_get part q ≡ Some e → slice_get out' e.ticket ≡ Some e)
    → (q : ℕ) (e : Entry) → q < i + 1 → slice_get part q ≡ Some e → slice_get (set out' (get_or part i d).ticket (get_or part i d)) e.ticket ≡ Some e
next_placed all out out' part i d p l len placed q e lt at =
    let n = next_ok all out part i d p l in
    let size = p.sized in
    let here : (get_or part i d).ticket < length out' = let x = n.0 in omega arith in
    ⊎_elim
    (λ (y : q ≡ i). let is : get_or part i d ≡ e = index_at part i e d (ap (slice_get part) (sym y) ∙ at) in
    subst (λ (z : Entry). slice_get (set out' (get_or part i d).ticket (get_or part i d)) z.ticket ≡ Some z) is (set_here out' (get_or part i d).ticket (get_or part i d) here))
    (λ (y : q ≡ i → ⊥). write_keeps out' all (get_or part i d).ticket e.ticket (get_or part i d) e here n.1 (p.stands q e at) (placed q e (omega arith) at))
    (cases_eq q i)

pub next_kept : (all out out' part : List Entry) (i : ℕ) (d : Entry) → IsPart all out part → i < length part → length out' ≡ length out → (j : ℕ) (x : Entry) → slice_get all j ≡ Some x → slice_get out' j ≡ Some x
    → slice_get (set out' (get_or part i d).ticket (get_or part i d)) j ≡ Some x
next_kept all out out' part i d p l len j x at h =
    let n = next_ok all out part i d p l in
    let size = p.sized in
    let here : (get_or part i d).ticket < length out' = let y = n.0 in omega arith in
    write_keeps out' all (get_or part i d).ticket j (get_or part i d) x here n.1 at h

-- where entries can be written after those before them, their records can be merged into a history with places for them
pub can_merge : (before : List Entry) (quanta : List ℕ) (later out : List Entry) (records : List (Vec Entry Global)) → CanWrite before quanta later records → length out ≡ length (before ++ later) → ((i : ℕ) (e : Entry) → slice_get before i ≡ Some e → slice_get out i ≡ Some e) → IsMerge (before ++ later) out records
can_merge before quanta later out records can len kept = record {
  sized = len;
  tickets = can.tickets;
  stands = λ k r at i e in_r.
      let s = can.stands k r at i e in_r in
      let there = at_right before later s.0 e s.1 in
      ap (slice_get (before ++ later)) (can.tickets (length before + s.0) e there) ∙ there;
  each = λ i e at. ⊎_elim
      (λ (h : slice_get before i ≡ Some e). inl (kept i e h))
      (λ (h : (j : ℕ) × (slice_get later j ≡ Some e)). inr (can.each h.0 e h.1))
      (at_either before later i e at);
}

take_whole : {A : Type 0} (xs : List A) → take (length xs) xs ≡ xs
take_whole [] = refl
take_whole (x ∷ xs) = ap (λ ys. x ∷ ys) (take_whole xs)

-- the end of a list
pub end_of : {A : Type 0} (all before later : List A) (n : ℕ) → all ≡ before ++ later → n ≡ length before → take (length all - n) (drop n all) ≡ later
end_of all before later n e l =
    let d : drop n all ≡ later = ap (drop n) e ∙ (ap (λ (k : ℕ). drop k (before ++ later)) l ∙ drop-append_seam before later) in
    let k : length all - n ≡ length later = let a = ap length e in let b = length-append before later in omega arith in
    ap (take (length all - n)) d ∙ (ap (λ (m : ℕ). take m later) k ∙ take_whole later)
