-- What a search over regions in order has found so far, and what it finds.
use Rattle.std.proofs.Common.{◌≡◌, ℕ, zero, suc, ◌+◌, ◌-◌, ◌*◌, ◌<◌, ◌≤◌, List, [], ◌∷◌, ◌++◌, inl, inr, Bool, true, false, Option, Some, None, length, get_or, set, take, drop, refl, sym, ap, ◌∙◌, arith}
use Rattle.std.specs.Prelude.{find, IsTrue, MatchOption, is_some, nat_le, map}
use Rattle.std.specs.List.{All, AllWithin}
use Rattle.std.proofs.lemmas.Bool.{cond-true, cond-false, cases_lt, and_left, and_right, lt-leb, false≢true, false_from_ne_true}
use Rattle.std.proofs.lemmas.List.Elements.{All-map}
use Rattle.std.proofs.lemmas.List.{set_split, set-get_or}
use Rattle.mz_base.specs.Space.{block_at}
use Rattle.mz_base.specs.Room.{lies_within, is_front_within}
use Rattle.mz_ground.specs.Views.{SpanView}
use Rattle.mz_region.specs.Views.{RegionView, IsRegion, IsNewBlock}
use Rattle.mz_magazine.specs.Row.{lies_in_row}
use Rattle.mz_magazine.proofs.Lists.{any_nothing}
use Rattle.mz_magazine.specs.Members.{AreInOrder, IsServed, region_has_room}

-- the first that passes, where those before it don't
pub find_at : {A : Type 0} (test : A → Bool) (xs : List A) (i : ℕ) (x : A) → i < length xs → x ≡ get_or xs i x → AllWithin (λ y. test y ≡ false) xs 0 i → test x ≡ true → find test xs ≡ Some x
find_at test [] i x within at none passes = absurd (omega arith)
find_at test (y ∷ ys) zero x within at none passes = cond-true (test y) (Some y) (find test ys) (ap test (sym at) ∙ passes) ∙ ap Some (sym at)
find_at test (y ∷ ys) (suc i) x within at none passes =
    cond-false (test y) (Some y) (find test ys) (none 0 y (omega arith) (omega arith))
    ∙ find_at test ys i x (omega arith) at (λ k d low high. none (suc k) d (omega arith) (omega arith)) passes

pub find_none : {A : Type 0} (test : A → Bool) (xs : List A) → AllWithin (λ y. test y ≡ false) xs 0 (length xs) → find test xs ≡ None
find_none test [] none = refl
find_none test (y ∷ ys) none =
    cond-false (test y) (Some y) (find test ys) (none 0 y (omega arith) (omega arith))
    ∙ find_none test ys (λ k d low high. none (suc k) d (omega arith) (omega arith))

-- regions in order begin at or above where they may, and later ones begin no lower
pub low_at : (Q N from : ℕ) (rs : List RegionView) → AreInOrder Q N from rs → (j : ℕ) (d : RegionView) → j < length rs → from ≤ (get_or rs j d).first
low_at Q N from [] order j d within = absurd (omega arith)
low_at Q N from (r ∷ rs) order zero d within = order.0
low_at Q N from (r ∷ rs) order (suc j) d within =
    let low = order.0 in
    let rest : r.first + Q * N ≤ (get_or rs j d).first = low_at Q N (r.first + Q * N) rs order.2 j d (omega arith) in
    omega arith

pub first_rises : (Q N from : ℕ) (rs : List RegionView) → AreInOrder Q N from rs → (i j : ℕ) (d e : RegionView) → i ≤ j → j < length rs → (get_or rs i d).first ≤ (get_or rs j e).first
first_rises Q N from [] order i j d e up within = absurd (omega arith)
first_rises Q N from (r ∷ rs) order zero zero d e up within = omega arith
first_rises Q N from (r ∷ rs) order zero (suc j) d e up within =
    let rest : r.first + Q * N ≤ (get_or rs j e).first = low_at Q N (r.first + Q * N) rs order.2 j e (omega arith) in
    omega arith
first_rises Q N from (r ∷ rs) order (suc i) zero d e up within = absurd (omega arith)
first_rises Q N from (r ∷ rs) order (suc i) (suc j) d e up within = first_rises Q N (r.first + Q * N) rs order.2 i j d e (omega arith) (omega arith)

-- halving: all up to the middle begin at or below a, or all from it on above
pub upto_middle : (Q N : ℕ) (rs : List RegionView) (a m : ℕ) (r : RegionView) → AreInOrder Q N 0 rs → m < length rs → r ≡ get_or rs m r → r.first ≤ a → AllWithin (λ t. t.first ≤ a) rs 0 (m + 1)
upto_middle Q N rs a m r order within at low k d _ high =
    let up = first_rises Q N 0 rs order k m d r (omega arith) within in
    let is = ap (λ (v : RegionView). v.first) at in
    omega arith

pub from_middle : (Q N : ℕ) (rs : List RegionView) (a m : ℕ) (r : RegionView) → AreInOrder Q N 0 rs → m < length rs → r ≡ get_or rs m r → a < r.first → AllWithin (λ t. a < t.first) rs m (length rs)
from_middle Q N rs a m r order within at high k d low more =
    let up = first_rises Q N 0 rs order m k r d low more in
    let is = ap (λ (v : RegionView). v.first) at in
    omega arith

-- an address behind the last region that begins at or below it lies in none
pub holds_none : (Q N : ℕ) (rs : List RegionView) (a i : ℕ) → AreInOrder Q N 0 rs → AllWithin (λ r. a < r.first) rs i (length rs) → (1 ≤ i → (i ≤ length rs) × ((d : RegionView) → (get_or rs (i - 1) d).first + Q * N ≤ a)) → lies_in_row (Q * N) (map (λ r. r.first) rs) a (a + 1) ≡ false
holds_none Q N rs a i order above below =
    let P : ℕ → Type 0 = λ f. lies_within f (f + Q * N) a (a + 1) ≡ false in
    any_nothing (λ f. lies_within f (f + Q * N) a (a + 1)) (map (λ r. r.first) rs) (All-map P (λ (r : RegionView). r.first) rs (λ k d within.
    elim (cases_lt k i) [
      | inl low ↦
          let last = below (omega arith) in
          let end = last.1 d in
          let up = first_rises Q N 0 rs order k (i - 1) d d (omega arith) (omega (arith, last.0)) in
          and_right (nat_le (get_or rs k d).first a) (nat_le (a + 1) ((get_or rs k d).first + Q * N)) (lt-leb (a + 1) ((get_or rs k d).first + Q * N) (omega arith))
      | inr high ↦ and_left (nat_le (get_or rs k d).first a) (nat_le (a + 1) ((get_or rs k d).first + Q * N)) (lt-leb (get_or rs k d).first a (above k d high within))
    ]))

-- none has room, in the words of a search and in those of its contract
pub nowhere : {A : Type 0} (test : A → Bool) (xs : List A) (n : ℕ) → length xs ≤ n → AllWithin (λ y. test y ≡ false) xs 0 n → All (λ y. IsTrue (test y) → ⊥) xs
nowhere test xs n all none k d within there = false≢true (sym (none k d (omega arith) (omega arith)) ∙ there)

-- a list around one of its places
pub split_here : {A : Type 0} (xs : List A) (i : ℕ) (x : A) → i < length xs → x ≡ get_or xs i x → xs ≡ take i xs ++ x ∷ drop (suc i) xs
split_here xs i x within at = sym (set-get_or xs i x) ∙ set_split xs i (get_or xs i x) within ∙ ap (λ y. take i xs ++ y ∷ drop (suc i) xs) (sym at)

-- the region at a place has served
pub served_here : (Q N n al : ℕ) (old : List RegionView) (i : ℕ) (here there : RegionView) (s : SpanView) (new : List RegionView) → i < length old → here ≡ get_or old i here → new ≡ set old i there
    → IsTrue (is_front_within here.first (here.first + Q * N) here.live (block_at s.first n) al) → IsNewBlock here s n there → IsRegion Q N there → IsServed Q N n al old s new
served_here Q N n al old i here there s new within at is front block region = record {
  before = take i old;
  here = here;
  there = there;
  behind = drop (suc i) old;
  old_is = split_here old i here within at;
  new_is = is ∙ set_split old i there within;
  front = front;
  block = block;
  region = region;
}

-- what a member answers for the region at a place: it has served, or nothing has changed and it has no room
abbrev pub Answered : ℕ → ℕ → ℕ → ℕ → RegionView → RegionView → Option SpanView → Type 0
Answered Q N n al here there r =
    MatchOption r ((there ≡ here) × (IsTrue (region_has_room (Q * N) n al here) → ⊥))
    (λ s. IsTrue (is_front_within here.first (here.first + Q * N) here.live (block_at s.first n) al) × IsNewBlock here s n there)

pub answered_none : (Q N n al : ℕ) (here there : RegionView) (r : Option SpanView) → Answered Q N n al here there r → is_some r ≡ false → (there ≡ here) × (region_has_room (Q * N) n al here ≡ false)
answered_none Q N n al here there None said none = (said.0, false_from_ne_true (region_has_room (Q * N) n al here) said.1)
answered_none Q N n al here there (Some s) said none = absurd (false≢true (sym none))

pub answered_some : (Q N n al : ℕ) (old : List RegionView) (i : ℕ) (here there : RegionView) (new : List RegionView) (r : Option SpanView) (X : Type 0) → Answered Q N n al here there r → is_some r ≡ true → i < length old → here ≡ get_or old i here → new ≡ set old i there → IsRegion Q N there
    → MatchOption r X (λ s. IsServed Q N n al old s new)
answered_some Q N n al old i here there new None X said some within at is region = absurd (false≢true some)
answered_some Q N n al old i here there new (Some s) X said some within at is region = served_here Q N n al old i here there s new within at is said.0 said.1 region
