-- Regions in order: around one of them, with another in its place, without it, and with one more.
use Rattle.std.proofs.Common.{◌≡◌, ℕ, ◌+◌, ◌*◌, ◌/◌, ◌%◌, ◌^◌, ◌<◌, ◌≤◌, List, [], ◌∷◌, ◌++◌, Some, length, map, refl, sym, ap, ◌∙◌, subst, inl, inr, mul-add, arith}
use Rattle.std.specs.List.{All}
use Rattle.std.proofs.Math.Nat.{mul-le-mul_right}
use Rattle.std.proofs.lemmas.Nat.{div-add-mod'}
use Rattle.std.proofs.lemmas.Bool.{cases_lt}
use Rattle.std.proofs.lemmas.List.{length-map}
use Rattle.std.proofs.lemmas.List.Concat.{flat_map-append}
use Rattle.std.proofs.lemmas.List.Sums.{sum_by-append, sum_by-cons}
use Rattle.std.proofs.lemmas.List.Elements.{All-nil, All-cons, All-head, All-tail, All-weaker, All-append}
use Rattle.mz_base.specs.Space.{Block, block_end}
use Rattle.mz_base.specs.Lists.{size_sum}
use Rattle.mz_region.specs.Views.{RegionView, AreInRow, IsRegion}
use Rattle.mz_magazine.specs.Row.{IsRow}
use Rattle.mz_magazine.specs.Members.{space_of, live_of, row_of, AreInOrder, IsKept}
use Rattle.mz_magazine.proofs.Lists.{all_left, all_right}
use Rattle.mz_magazine.proofs.Parts.{EndsBefore, BeginsBehind, InRow, each_in_row}

abbrev pub first_of : RegionView → ℕ
first_of r = r.first

-- they may begin lower
pub order_weaker : (Q N from lower : ℕ) (rs : List RegionView) → AreInOrder Q N from rs → lower ≤ from → AreInOrder Q N lower rs
order_weaker Q N from lower [] h low = tt
order_weaker Q N from lower (r ∷ rs) h low = let above = h.0 in (omega arith, h.1, h.2)

-- around one of them
pub order_here : (Q N from : ℕ) (front : List RegionView) (r : RegionView) (back : List RegionView) → AreInOrder Q N from (front ++ r ∷ back) → (from ≤ r.first) × IsRegion Q N r × AreInOrder Q N (r.first + Q * N) back
order_here Q N from [] r back h = h
order_here Q N from (f ∷ fs) r back h =
    let low = h.0 in
    let rest = order_here Q N (f.first + Q * N) fs r back h.2 in
    let above = rest.0 in
    (omega arith, rest.1, rest.2)

pub order_replace : (Q N from : ℕ) (front : List RegionView) (r t : RegionView) (back : List RegionView) → AreInOrder Q N from (front ++ r ∷ back) → t.first ≡ r.first → IsRegion Q N t → AreInOrder Q N from (front ++ t ∷ back)
order_replace Q N from [] r t back h at is = let low = h.0 in (omega arith, is, subst (λ a. AreInOrder Q N (a + Q * N) back) (sym at) h.2)
order_replace Q N from (f ∷ fs) r t back h at is = (h.0, h.1, order_replace Q N (f.first + Q * N) fs r t back h.2 at is)

pub order_without : (Q N from : ℕ) (front : List RegionView) (r : RegionView) (back : List RegionView) → AreInOrder Q N from (front ++ r ∷ back) → AreInOrder Q N from (front ++ back)
order_without Q N from [] r back h = let low = h.0 in order_weaker Q N (r.first + Q * N) from back h.2 (omega arith)
order_without Q N from (f ∷ fs) r back h = (h.0, h.1, order_without Q N (f.first + Q * N) fs r back h.2)

-- two multiples of a length are that far apart
pub multiples_apart : (l a b : ℕ) → a % l ≡ 0 → b % l ≡ 0 → a < b → a + l ≤ b
multiples_apart l a b low high less =
    let left = div-add-mod' a l in
    let right = div-add-mod' b l in
    elim (cases_lt (a / l) (b / l)) [
      | inl more ↦ let step : (a / l + 1) * l ≤ b / l * l = mul-le-mul_right l (omega arith) in omega arith
      | inr fewer ↦ let step : b / l * l ≤ a / l * l = mul-le-mul_right l fewer in absurd (omega arith)
    ]

pub order_with : (Q N from : ℕ) (front : List RegionView) (r : RegionView) (back : List RegionView) → AreInOrder Q N from (front ++ back) → IsRegion Q N r → from ≤ r.first → All (λ f. f.first < r.first) front → All (λ b. r.first < b.first) back → AreInOrder Q N from (front ++ r ∷ back)
order_with Q N from [] r [] h is low before behind = (low, is, tt)
order_with Q N from [] r (b ∷ bs) h is low before behind =
    let less = All-head (λ (t : RegionView). r.first < t.first) b bs behind in
    (low, is, (multiples_apart (Q * N) r.first b.first is.at (h.1).at less, h.1, h.2))
order_with Q N from (f ∷ fs) r back h is low before behind =
    let P : RegionView → Type 0 = λ t. t.first < r.first in
    let less = All-head P f fs before in
    (h.0, h.1, order_with Q N (f.first + Q * N) fs r back h.2 is (multiples_apart (Q * N) f.first r.first (h.1).at is.at less) (All-tail P f fs before) behind)

-- the blocks of those before a region end before it, and those of regions behind a place begin there
pub blocks_before : (Q N from : ℕ) (front : List RegionView) (r : RegionView) (back : List RegionView) → AreInOrder Q N from (front ++ r ∷ back) → All (EndsBefore r.first) (live_of front)
blocks_before Q N from [] r back h = All-nil (EndsBefore r.first)
blocks_before Q N from (f ∷ fs) r back h =
    let above = (order_here Q N (f.first + Q * N) fs r back h.2).0 in
    All-append (EndsBefore r.first) f.live (live_of fs)
    (All-weaker (InRow Q f.first (f.first + Q * N)) (EndsBefore r.first) (λ b k. let upto = k.high in (k.some, omega arith)) f.live (each_in_row Q f.first (f.first + Q * N) f.live (h.1).row))
    (blocks_before Q N (f.first + Q * N) fs r back h.2)

pub blocks_behind : (Q N from : ℕ) (rs : List RegionView) → AreInOrder Q N from rs → All (BeginsBehind from) (live_of rs)
blocks_behind Q N from [] h = All-nil (BeginsBehind from)
blocks_behind Q N from (r ∷ rs) h =
    let low = h.0 in
    All-append (BeginsBehind from) r.live (live_of rs)
    (All-weaker (InRow Q r.first (r.first + Q * N)) (BeginsBehind from) (λ b k. let above = k.low in (k.some, omega arith)) r.live (each_in_row Q r.first (r.first + Q * N) r.live (h.1).row))
    (All-weaker (BeginsBehind (r.first + Q * N)) (BeginsBehind from) (λ b k. let above = k.1 in (k.0, omega arith)) (live_of rs) (blocks_behind Q N (r.first + Q * N) rs h.2))

-- the live blocks around one
pub live_parts : (front : List RegionView) (r : RegionView) (back : List RegionView) → live_of (front ++ r ∷ back) ≡ live_of front ++ (r.live ++ live_of back)
live_parts front r back = flat_map-append (λ (t : RegionView). t.live) front (r ∷ back)

-- another in its place, at the same address and of the same space
pub firsts_replace : (front : List RegionView) (r t : RegionView) (back : List RegionView) → t.first ≡ r.first → map first_of (front ++ t ∷ back) ≡ map first_of (front ++ r ∷ back)
firsts_replace [] r t back at = ap (λ a. a ∷ map first_of back) at
firsts_replace (f ∷ fs) r t back at = ap (λ l. f.first ∷ l) (firsts_replace fs r t back at)

pub space_replace : (front : List RegionView) (r t : RegionView) (back : List RegionView) → t.space ≡ r.space → space_of (front ++ t ∷ back) ≡ space_of (front ++ r ∷ back)
space_replace [] r t back same = ap Some same
space_replace (f ∷ fs) r t back same = refl

pub length_around : (front : List RegionView) (r : RegionView) (back : List RegionView) → length (front ++ r ∷ back) ≡ length (front ++ back) + 1
length_around [] r back = omega arith
length_around (f ∷ fs) r back = let deeper = length_around fs r back in omega arith

pub length_replace : (front : List RegionView) (r t : RegionView) (back : List RegionView) → length (front ++ t ∷ back) ≡ length (front ++ r ∷ back)
length_replace front r t back = length_around front t back ∙ sym (length_around front r back)

pub all_replace : (P : RegionView → Type 0) (front : List RegionView) (r t : RegionView) (back : List RegionView) → All P (front ++ r ∷ back) → P t → All P (front ++ t ∷ back)
all_replace P front r t back h one = All-append P front (t ∷ back) (all_left P front (r ∷ back) h) (All-cons P t back one (All-tail P r back (all_right P front (r ∷ back) h)))

pub all_without : (P : RegionView → Type 0) (front : List RegionView) (r : RegionView) (back : List RegionView) → All P (front ++ r ∷ back) → All P (front ++ back)
all_without P front r back h = All-append P front back (all_left P front (r ∷ back) h) (All-tail P r back (all_right P front (r ∷ back) h))

-- a region of a row is of its space
pub its_space : (front : List RegionView) (r : RegionView) (back : List RegionView) → All (λ t. space_of (front ++ r ∷ back) ≡ Some t.space) (front ++ r ∷ back) → space_of (front ++ r ∷ back) ≡ Some r.space
its_space front r back h = let P : RegionView → Type 0 = λ t. space_of (front ++ r ∷ back) ≡ Some t.space in All-head P r back (all_right P front (r ∷ back) h)

-- what a row keeps where the region at one place is another, at the same address and of the same space
pub kept_replaced : (Q N room : ℕ) (front : List RegionView) (r t : RegionView) (back : List RegionView) (bytes count bytes' count' : ℕ) → IsKept Q N room (front ++ r ∷ back) bytes count → t.first ≡ r.first → t.space ≡ r.space → IsRegion Q N t
    → bytes' ≡ size_sum (live_of (front ++ t ∷ back)) → count' ≡ length (live_of (front ++ t ∷ back)) → IsKept Q N room (front ++ t ∷ back) bytes' count'
kept_replaced Q N room front r t back bytes count bytes' count' h at same is sum counted =
    let P : RegionView → Type 0 = λ s. space_of (front ++ r ∷ back) ≡ Some s.space in
    let P' : RegionView → Type 0 = λ s. space_of (front ++ t ∷ back) ≡ Some s.space in
    let few = h.few in
    record {
      order = order_replace Q N 0 front r t back h.order at is;
      one_space = All-weaker P P' (λ s k. space_replace front r t back same ∙ k) (front ++ t ∷ back) (all_replace P front r t back h.one_space (its_space front r back h.one_space ∙ ap Some (sym same)));
      few = let long = length_replace front r t back in omega arith;
      sum = sum;
      counted = counted;
    }

-- the bytes of the regions, and those of their live blocks, fit the machine
pub row_sum : (Q s e : ℕ) (L : List Block) → AreInRow Q s e L → s + size_sum L ≤ e
row_sum Q s e [] row = omega arith
row_sum Q s e (c ∷ cs) row =
    let rest = row_sum Q (block_end c) e cs row.4 in
    let sum = sum_by-cons (λ (d : Block). d.size) c cs in
    let low = row.0 in
    omega arith

pub order_fits : (Q N from : ℕ) (rs : List RegionView) → AreInOrder Q N from rs → from < 2 ^ 63 → from + Q * N * length rs < 2 ^ 63
order_fits Q N from [] h small = omega arith
order_fits Q N from (r ∷ rs) h small =
    let low = h.0 in
    let inside = (h.1).inside in
    let limit = (h.1).small in
    let rest = order_fits Q N (r.first + Q * N) rs h.2 (omega arith) in
    let more : Q * N * (length rs + 1) ≡ Q * N * length rs + Q * N * 1 = mul-add (Q * N) (length rs) 1 in
    let step : length (r ∷ rs) ≡ length rs + 1 = omega arith in
    let all = ap (λ n. Q * N * n) step in
    omega arith

pub order_sizes : (Q N from : ℕ) (rs : List RegionView) → AreInOrder Q N from rs → size_sum (live_of rs) ≤ Q * N * length rs
order_sizes Q N from [] h = omega arith
order_sizes Q N from (r ∷ rs) h =
    let rest = order_sizes Q N (r.first + Q * N) rs h.2 in
    let here = row_sum Q r.first (r.first + Q * N) r.live (h.1).row in
    let parts = sum_by-append (λ (b : Block). b.size) r.live (live_of rs) in
    let more : Q * N * (length rs + 1) ≡ Q * N * length rs + Q * N * 1 = mul-add (Q * N) (length rs) 1 in
    let step : length (r ∷ rs) ≡ length rs + 1 = omega arith in
    let all = ap (λ n. Q * N * n) step in
    omega arith

-- each block has a byte
pub few_blocks : (L : List Block) → All (λ b. 0 < b.size) L → length L ≤ size_sum L
few_blocks [] h = omega arith
few_blocks (b ∷ bs) h =
    let P : Block → Type 0 = λ c. 0 < c.size in
    let some = All-head P b bs h in
    let rest = few_blocks bs (All-tail P b bs h) in
    let sum = sum_by-cons (λ (d : Block). d.size) b bs in
    omega arith

pub order_counts : (Q N : ℕ) (rs : List RegionView) → AreInOrder Q N 0 rs → length (live_of rs) ≤ size_sum (live_of rs)
order_counts Q N rs h = few_blocks (live_of rs) (All-weaker (BeginsBehind 0) (λ b. 0 < b.size) (λ b k. k.0) (live_of rs) (blocks_behind Q N 0 rs h))

-- what holds of each row
aligned_in : (Q N from : ℕ) (rs : List RegionView) → AreInOrder Q N from rs → All (λ a. a % (Q * N) ≡ 0) (map first_of rs)
aligned_in Q N from [] h = All-nil (λ a. a % (Q * N) ≡ 0)
aligned_in Q N from (r ∷ rs) h = All-cons (λ a. a % (Q * N) ≡ 0) r.first (map first_of rs) (h.1).at (aligned_in Q N (r.first + Q * N) rs h.2)

pub row_is : (Q N room : ℕ) (rs : List RegionView) (bytes count : ℕ) → IsKept Q N room rs bytes count → IsRow Q N (row_of room rs)
row_is Q N room rs bytes count h =
    let few = h.few in
    let long = length-map rs first_of in
    let same = ap (λ n. Q * N * n) long in
    let fits = order_fits Q N 0 rs h.order (omega arith) in
    let sizes = order_sizes Q N 0 rs h.order in
    record {
      few = omega arith;
      aligned = aligned_in Q N 0 rs h.order;
      small = omega arith;
      sum = omega arith;
    }
