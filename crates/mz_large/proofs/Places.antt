-- The place of a block among tiled ones: adding and dropping it by its place.
use Rattle.std.proofs.Common.{◌≡◌, ℕ, suc, zero, ◌+◌, ◌<◌, ◌≤◌, true, false, Option, Some, None, List, [], ◌∷◌, length, get_or, refl, ap, sym, subst, ◌∙◌, inl, inr, arith}
use Rattle.std.specs.Prelude.{◌/◌, ◌==◌, nat_le, nat_lt, find, insert, remove}
use Rattle.std.specs.List.{list_all, list_any}
use Rattle.std.proofs.lemmas.Nat.{div-add-mod'}
use Rattle.mz_events.specs.Separation.{has_page}
use Rattle.mz_events.specs.Changes.{run_of}
use Rattle.std.specs.List.Sorted.{IsNonDecreasingBy, IsPartitionPoint}
use Rattle.std.proofs.lemmas.Bool.{cases_Bool, and_parts, and_from, and_left, and_right, or_from, leb-true, leb-false, le-leb, lt-leb, or_cases, false≢true, ltb-true, ltb-false, lt-ltb, le-ltb, eq-eqb, ne_eqb, or_left, or_right, cond-true, cond-false}
use Rattle.mz_base.specs.Space.{Block, block_end, blocks_apart, same_block}
use Rattle.mz_base.specs.Lists.{insert_by, has_block, add_block, drop_block, size_at}
use Rattle.mz_base.specs.declared.range.TheConstants.{PAGE}
use Rattle.mz_large.specs.Blocks.{IsPaged, IsTiled, IsPlaceOf, IsPlaceBehind}
use Rattle.mz_large.proofs.Tiled.{blocks_apart-comm, apart_orders, tiled-drop, tiled-member, same_block-true, same_block-refl, drop-first, drop-later}

-- each block begins at or behind x
pub tiled-low : (end : ℕ) (bs : List Block) (x j : ℕ) (d : Block) → IsTiled end x bs → j < length bs → x ≤ (get_or bs j d).first
tiled-low end [] x j d h within = absurd (omega arith)
tiled-low end (b ∷ bs) x zero d h within = h.0
tiled-low end (b ∷ bs) x (suc j) d h within =
    let low = h.0 in
    let rest : block_end b ≤ (get_or bs j d).first = tiled-low end bs (block_end b) j d h.2 (omega arith) in
    omega arith

-- their first addresses ascend
pub tiled-ascends : (end : ℕ) (bs : List Block) (x : ℕ) → IsTiled end x bs → IsNonDecreasingBy (λ (c : Block). c.first) bs
tiled-ascends end [] x h i j d order within = absurd (omega arith)
tiled-ascends end (b ∷ bs) x h zero zero d order within = omega arith
tiled-ascends end (b ∷ bs) x h (suc i) zero d order within = absurd (omega arith)
tiled-ascends end (b ∷ bs) x h zero (suc j) d order within =
    let rest : block_end b ≤ (get_or bs j d).first = tiled-low end bs (block_end b) j d h.2 (omega arith) in
    omega arith
tiled-ascends end (b ∷ bs) x h (suc i) (suc j) d order within = tiled-ascends end bs (block_end b) h.2 i j d (omega arith) (omega arith)

-- the place in the rest
place-tail : (c : Block) (cs : List Block) (f i : ℕ) → IsPlaceOf (c ∷ cs) f (suc i) → IsPlaceOf cs f i
place-tail c cs f i h =
    let within = h.within in
    record {
      within = omega arith;
      before = λ k d low high. h.before (suc k) d (omega arith) (omega arith);
      behind = λ k d low high. h.behind (suc k) d (omega arith) (omega arith);
    }

-- one that is apart from each goes to its place
pub add-insert : (end : ℕ) (bs : List Block) (x : ℕ) (b : Block) (i : ℕ) → IsTiled end x bs → IsPaged b → list_all (λ c. blocks_apart c b) bs ≡ true → IsPlaceOf bs b.first i → insert bs i b ≡ add_block b bs
unfolding insert_by
add-insert end [] x b zero h paged apart place = refl
add-insert end [] x b (suc i) h paged apart place = let within = place.within in absurd (omega arith)
add-insert end (c ∷ cs) x b zero h paged apart place =
    let parts = and_parts (blocks_apart c b) (list_all (λ d. blocks_apart d b) cs) apart in
    let own = paged.some in
    let other = h.1.some in
    let order : b.first ≤ c.first = place.behind 0 c (omega arith) (omega arith) in
    let below : block_end b ≤ c.first = apart_orders b c (blocks_apart-comm b c ∙ parts.0) order (omega arith) in
    sym (cond-true (nat_lt b.first c.first) (b ∷ c ∷ cs) (c ∷ add_block b cs) (lt-ltb b.first c.first (omega arith)))
add-insert end (c ∷ cs) x b (suc i) h paged apart place =
    let parts = and_parts (blocks_apart c b) (list_all (λ d. blocks_apart d b) cs) apart in
    let order : c.first < b.first = place.before 0 c (omega arith) (omega arith) in
    ap (λ l. c ∷ l) (add-insert end cs (block_end c) b i h.2 paged parts.1 (place-tail c cs b.first i place))
    ∙ sym (cond-false (nat_lt b.first c.first) (b ∷ c ∷ cs) (c ∷ add_block b cs) (le-ltb b.first c.first (omega arith)))

-- one of them stands at its place, and leaves the others
pub drop-remove : (end : ℕ) (bs : List Block) (x : ℕ) (b : Block) (i : ℕ) → IsTiled end x bs → has_block bs b ≡ true → IsPlaceOf bs b.first i → (i < length bs) × (remove bs i ≡ drop_block b bs)
drop-remove end [] x b i h among place = absurd (false≢true among)
drop-remove end (c ∷ cs) x b zero h among place =
    let order : b.first ≤ c.first = place.behind 0 c (omega arith) (omega arith) in
    let some = h.1.some in
    elim (or_cases (same_block b c) (has_block cs b) among) [
      | inl here ↦ (omega arith, subst (λ d. cs ≡ drop_block d (c ∷ cs)) (sym (same_block-true b c here)) (sym (drop-first end c cs x h)))
      | inr later ↦ let low = (tiled-member end cs (block_end c) b h.2 later).low in absurd (omega arith)
    ]
drop-remove end (c ∷ cs) x b (suc i) h among place =
    let order : c.first < b.first = place.before 0 c (omega arith) (omega arith) in
    elim (or_cases (same_block b c) (has_block cs b) among) [
      | inl here ↦ let is = ap (λ d. d.first) (same_block-true b c here) in absurd (omega arith)
      | inr later ↦
          let rest = drop-remove end cs (block_end c) b i h.2 later (place-tail c cs b.first i place) in
          (omega arith, ap (λ l. c ∷ l) rest.1 ∙ sym (drop-later end c cs x b h order))
    ]

-- what was removed at the place of a block was dropped
pub removed-dropped : (end : ℕ)
    (ys live xs : List Block) (b : Block) (f i : ℕ) → ys ≡ live → IsTiled end 0 ys → has_block live b ≡ true → f ≡ b.first → IsPlaceOf live f i → xs ≡ remove ys i →
    xs ≡ drop_block b live
removed-dropped end ys live xs b f i same h among first place is =
    let tiled = subst (λ l. IsTiled end 0 l) same h in
    is ∙ ap (λ l. remove l i) same ∙ (drop-remove end live 0 b i tiled among (subst (λ g. IsPlaceOf live g i) first place)).1

pub dropped-tiled : (end : ℕ) (ys live xs : List Block) (b : Block) → ys ≡ live → IsTiled end 0 ys → xs ≡ drop_block b live → IsTiled end 0 xs
dropped-tiled end ys live xs b same h is = subst (λ l. IsTiled end 0 l) (sym is) (tiled-drop end live 0 b (subst (λ l. IsTiled end 0 l) same h))

-- where a search by first addresses ends is the place
pub place-found : (ys : List Block) (f i : ℕ) → i ≤ length ys → IsPartitionPoint (λ (c : Block). nat_lt c.first f ≡ true) (λ (c : Block). nat_lt c.first f ≡ false) ys i → IsPlaceOf ys f i
place-found ys f i within parts =
    record {
      within = within;
      before = λ k d low high. ltb-true (get_or ys k d).first f (parts.0 k d low high);
      behind = λ k d low high. ltb-false (get_or ys k d).first f (parts.1 k d low high);
    }

-- a block that is there stands at its place
pub found-there : (end : ℕ) (bs : List Block) (x : ℕ) (b : Block) (i : ℕ) (d : Block) → IsTiled end x bs → IsPlaceOf bs b.first i → has_block bs b ≡ true → (i < length bs) × (get_or bs i d ≡ b)
found-there end [] x b i d h place among = absurd (false≢true among)
found-there end (c ∷ cs) x b zero d h place among =
    let order : b.first ≤ c.first = place.behind 0 c (omega arith) (omega arith) in
    let some = h.1.some in
    elim (or_cases (same_block b c) (has_block cs b) among) [
      | inl here ↦ (omega arith, sym (same_block-true b c here))
      | inr later ↦ let low = (tiled-member end cs (block_end c) b h.2 later).low in absurd (omega arith)
    ]
found-there end (c ∷ cs) x b (suc i) d h place among =
    let order : c.first < b.first = place.before 0 c (omega arith) (omega arith) in
    elim (or_cases (same_block b c) (has_block cs b) among) [
      | inl here ↦ let is = ap (λ e. e.first) (same_block-true b c here) in absurd (omega arith)
      | inr later ↦ let rest = found-there end cs (block_end c) b i d h.2 (place-tail c cs b.first i place) later in let low = rest.0 in (omega arith, rest.1)
    ]

-- what stands in a list is there
pub there : (bs : List Block) (b : Block) (i : ℕ) (d : Block) → i < length bs → get_or bs i d ≡ b → has_block bs b ≡ true
there [] b i d within is = absurd (omega arith)
there (c ∷ cs) b zero d within is = or_left (same_block b c) (has_block cs b) (subst (λ e. same_block e c ≡ true) is (same_block-refl c))
there (c ∷ cs) b (suc i) d within is = or_right (same_block b c) (has_block cs b) (there cs b i d (omega arith) is)

size-here : (c : Block) (cs : List Block) (x : ℕ) → c.first ≡ x → size_at (c ∷ cs) x ≡ c.size
size-here c cs x at = let read : Option Block → ℕ = λ o. elim o [ None ↦ 0 | Some b ↦ b.size ] in ap read (cond-true (c.first == x) (Some c) (find (λ b. b.first == x) cs) (eq-eqb c.first x at))

size-later : (c : Block) (cs : List Block) (x : ℕ) → (c.first ≡ x → ⊥) → size_at (c ∷ cs) x ≡ size_at cs x
size-later c cs x other = let read : Option Block → ℕ = λ o. elim o [ None ↦ 0 | Some b ↦ b.size ] in ap read (cond-false (c.first == x) (Some c) (find (λ b. b.first == x) cs) (ne_eqb c.first x other))

ne_less : (a b : ℕ) → a ≤ b → (b ≡ a → ⊥) → a < b
ne_less a b order other = omega arith

-- no block begins below the first
size-above : (end : ℕ) (bs : List Block) (x a : ℕ) → IsTiled end x bs → a < x → size_at bs a ≡ 0
size-above end [] x a h below = refl
size-above end (c ∷ cs) x a h below = let low = h.0 in size-later c cs a (λ e. omega arith) ∙ size-above end cs (block_end c) a h.2 (omega arith)

-- the size of the block that stands at the place of an address
pub size-there : (end : ℕ) (bs : List Block) (x a i : ℕ) (d : Block) → IsTiled end x bs → IsPlaceOf bs a i → i < length bs → (get_or bs i d).first ≡ a → size_at bs a ≡ (get_or bs i d).size
size-there end [] x a i d h place within at = absurd (omega arith)
size-there end (c ∷ cs) x a zero d h place within at = size-here c cs a at
size-there end (c ∷ cs) x a (suc i) d h place within at =
    let order : c.first < a = place.before 0 c (omega arith) (omega arith) in
    size-later c cs a (λ e. omega arith) ∙ size-there end cs (block_end c) a i d h.2 (place-tail c cs a i place) (omega arith) at

-- no block begins at an address at whose place none does
pub size-none : (end : ℕ) (bs : List Block) (x a i : ℕ) → IsTiled end x bs → IsPlaceOf bs a i → ((d : Block) → i < length bs → (get_or bs i d).first ≡ a → ⊥) → size_at bs a ≡ 0
size-none end [] x a i h place other = refl
size-none end (c ∷ cs) x a zero h place other =
    let order : a ≤ c.first = place.behind 0 c (omega arith) (omega arith) in
    let some = h.1.some in
    let not_here : c.first ≡ a → ⊥ = other c (omega arith) in
    size-later c cs a not_here ∙ size-above end cs (block_end c) a h.2 (let more = ne_less a c.first order not_here in omega arith)
size-none end (c ∷ cs) x a (suc i) h place other =
    let order : c.first < a = place.before 0 c (omega arith) (omega arith) in
    size-later c cs a (λ e. omega arith) ∙ size-none end cs (block_end c) a i h.2 (place-tail c cs a i place) (λ d within at. other d (omega arith) at)

-- a block is none of them where what stands at its place is another one
pub not-there : (end : ℕ) (bs : List Block) (x : ℕ) (b : Block) (i : ℕ) (d : Block) → IsTiled end x bs → IsPlaceOf bs b.first i → (i < length bs → get_or bs i d ≡ b → ⊥) → has_block bs b ≡ false
not-there end bs x b i d h place other =
    elim (cases_Bool (has_block bs b)) [
      | inl among ↦ let found = found-there end bs x b i d h place among in absurd (other found.0 found.1)
      | inr none ↦ none
    ]

-- one element more
pub length-insert : {A : Type 0} (key : A → ℕ) (x : A) (xs : List A) → length (insert_by key x xs) ≡ length xs + 1
unfolding insert_by
length-insert key x [] = refl
length-insert key x (y ∷ ys) =
    elim (cases_Bool (nat_lt (key x) (key y))) [
      | inl low ↦ let e = ap length (cond-true (nat_lt (key x) (key y)) (x ∷ y ∷ ys) (y ∷ insert_by key x ys) low) in omega arith
      | inr high ↦ let e = ap length (cond-false (nat_lt (key x) (key y)) (x ∷ y ∷ ys) (y ∷ insert_by key x ys) high) in let rest = length-insert key x ys in omega arith
    ]

div_up : (a b : ℕ) → a ≤ b → a / PAGE ≤ b / PAGE
div_up a b h = omega (arith, div-add-mod' a PAGE, div-add-mod' b PAGE)

pub pages-ascend : (end : ℕ) (bs : List Block) → IsTiled end 0 bs → IsNonDecreasingBy (λ (c : Block). c.first / PAGE) bs
pages-ascend end bs h i j d order within = div_up (get_or bs i d).first (get_or bs j d).first (tiled-ascends end bs 0 h i j d order within)

pub split-found : (ys : List Block) (page i : ℕ) → i ≤ length ys → IsPartitionPoint (λ (c : Block). nat_le (c.first / PAGE) page ≡ true) (λ (c : Block). nat_le (c.first / PAGE) page ≡ false) ys i → IsPlaceBehind ys page i
split-found ys page i within parts =
    record {
      within = within;
      before = λ k d low high. leb-true ((get_or ys k d).first / PAGE) page (parts.0 k d low high);
      behind = λ k d low high. leb-false ((get_or ys k d).first / PAGE) page (parts.1 k d low high);
    }

split-tail : (c : Block) (cs : List Block) (page i : ℕ) → IsPlaceBehind (c ∷ cs) page (suc i) → IsPlaceBehind cs page i
split-tail c cs page i h =
    let within = h.within in
    record {
      within = omega arith;
      before = λ k d low high. h.before (suc k) d (omega arith) (omega arith);
      behind = λ k d low high. h.behind (suc k) d (omega arith) (omega arith);
    }

-- a page before a run, or behind it, is not in it
page-below : (c : Block) (page : ℕ) → page < c.first / PAGE → has_page (run_of c) page ≡ false
page-below c page h = and_left (nat_le (c.first / PAGE) page) (nat_lt page (c.first / PAGE + c.size / PAGE)) (lt-leb (c.first / PAGE) page h)

pub page-above : (c : Block) (page : ℕ) → c.first / PAGE + c.size / PAGE ≤ page → has_page (run_of c) page ≡ false
page-above c page h = and_right (nat_le (c.first / PAGE) page) (nat_lt page (c.first / PAGE + c.size / PAGE)) (le-ltb page (c.first / PAGE + c.size / PAGE) h)

pub page-within : (c : Block) (page : ℕ) → c.first / PAGE ≤ page → page < c.first / PAGE + c.size / PAGE → has_page (run_of c) page ≡ true
page-within c page low high = and_from (nat_le (c.first / PAGE) page) (nat_lt page (c.first / PAGE + c.size / PAGE)) (le-leb (c.first / PAGE) page low) (lt-ltb page (c.first / PAGE + c.size / PAGE) high)

-- no run has a page that is before each
pub held-none : (bs : List Block) (page : ℕ) → IsPlaceBehind bs page 0 → list_any (λ b. has_page (run_of b) page) bs ≡ false
held-none [] page h = refl
held-none (c ∷ cs) page h =
    or_from (has_page (run_of c) page) (list_any (λ b. has_page (run_of b) page) cs) (page-below c page (h.behind 0 c (omega arith) (omega arith)))
    (held-none cs page (record { within = omega arith; before = λ k d low high. absurd (omega arith); behind = λ k d low high. h.behind (suc k) d (omega arith) (omega arith) }))

-- the last that begins at it or before has it, or none
pub held-not : (end : ℕ) (bs : List Block) (x page k : ℕ) (d : Block) → IsTiled end x bs → IsPlaceBehind bs page (suc k) → has_page (run_of (get_or bs k d)) page ≡ false → list_any (λ b. has_page (run_of b) page) bs ≡ false
held-not end [] x page k d h split none = refl
held-not end (c ∷ cs) x page zero d h split none =
    or_from (has_page (run_of c) page) (list_any (λ b. has_page (run_of b) page) cs) none (held-none cs page (split-tail c cs page 0 split))
held-not end (c ∷ []) x page (suc k) d h split none = let within = split.within in absurd (omega arith)
held-not end (c ∷ e ∷ es) x page (suc k) d h split none =
    let next : e.first / PAGE ≤ page = split.before 1 e (omega arith) (omega arith) in
    let after : block_end c ≤ e.first = h.2.0 in
    let first = h.1.first in
    let size = h.1.size in
    or_from (has_page (run_of c) page) (list_any (λ b. has_page (run_of b) page) (e ∷ es))
    (page-above c page (omega (arith, div-add-mod' c.first PAGE, div-add-mod' c.size PAGE, div-add-mod' e.first PAGE)))
    (held-not end (e ∷ es) (block_end c) page k d h.2 (split-tail c (e ∷ es) page (suc k) split) none)
