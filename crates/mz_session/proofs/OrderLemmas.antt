-- The names of a batch in an ordered map: the first that isn't below the name of block 0 is that of the least number, if it is of the batch.
use Rattle.std.proofs.Common.{◌≡◌, ℕ, ◌<◌, Bool, true, false, cond, List, [], ◌∷◌, Some, None, refl, ap, sym, subst, ◌∙◌, inl, inr, arith}
use Rattle.std.specs.Prelude.{filter, ◌&&◌}
use Rattle.std.specs.Bool.{then_some}
use Rattle.std.specs.Ordering.{nat_cmp, ordering_then, is_eq, is_le}
use Rattle.std.specs.declared.cmp.Ordering.{Ordering}
use Rattle.std.specs.declared.cmp.Ordering.TheVariants.{Less, Equal, Greater}
use Rattle.std.specs.Cmp.{tied_itself}
use Rattle.std.specs.Cmp.Lexicographic.{slice_cmp, texts_ties, nat_list_eq_equiv, nat_list_cmp_total}
use Rattle.std.specs.List.Sorted.{IsStrictlySortedBy}
use Rattle.std.specs.Map.{keys_of}
use Rattle.std.specs.Str.{bytes_eq}
use Rattle.std.proofs.lemmas.Bool.{false≢true, cases_Bool}
use Rattle.std.proofs.lemmas.Cmp.{ranked, by_ranked}
use Rattle.std.proofs.lemmas.Map.{lookup-none}
use Rattle.std.proofs.lemmas.Map.Entries.{none_below_head}
use Rattle.std.proofs.lemmas.Map.Keys.{sorted_tail}
use Rattle.std.proofs.lemmas.Slice.Eq.{bytes_eq-Decides}
use Rattle.mz_words.specs.declared.name.BatchName.{BatchName}
use Rattle.mz_words.specs.declared.name.Name.{Name}
use Rattle.mz_words.specs.declared.name.Name.TheVariants.{Base, Batch, Given}
use Rattle.mz_lawful.specs.Names.{same_name, batch_name}
use Rattle.mz_zone.specs.Blocks.{BlockView}
use Rattle.mz_session.specs.Names.{NamedBlocks, block_with, IsFirstInBatch}
use Rattle.mz_session.proofs.NameLemmas.{name-self, same-is-name, name_cmp, name-order, finds, lookup-block}

-- the name isn't below this one
abbrev pub is_from : Name → Name × BlockView → Bool
is_from least e = is_le (name_cmp least e.0)

and-true : (d : Bool) → (d && true) ≡ d
and-true true = refl
and-true false = refl

-- a range of the map with no end has the names from there on
pub range-from : (least : Name) (es : NamedBlocks) → filter (λ e. is_le (name_cmp least e.0) && true) es ≡ filter (is_from least) es
range-from least [] = refl
range-from least (e ∷ es) = λ i. cond (and-true (is_from least e) i) (e ∷ range-from least es i) (range-from least es i)

-- nothing is found below the first name
below-all : (e : Name × BlockView) (es : NamedBlocks) (q : Name) → IsStrictlySortedBy name_cmp (keys_of (e ∷ es)) → name_cmp q e.0 ≡ Less → block_with (e ∷ es) q ≡ None
below-all e es q sorted below = sym (lookup-block (e ∷ es) q) ∙ lookup-none (finds q) (e ∷ es) (none_below_head name-order q e es sorted below)

passed-by : (least : Name) (e : Name × BlockView) (es : NamedBlocks) (q : Name) → is_from least e ≡ false → is_le (name_cmp least q) ≡ true → block_with (e ∷ es) q ≡ block_with es q
passed-by least e es q low high = elim (cases_Bool (same_name e.0 q)) [
  | inl same ↦ absurd (false≢true (sym low ∙ ap (λ x. is_le (name_cmp least x)) (same-is-name e.0 q same) ∙ high))
  | inr other ↦ ap (λ d. cond d (Some e.1) (block_with es q)) other
]

abbrev is_cons : NamedBlocks → Bool
is_cons [] = false
is_cons (e ∷ es) = true

-- where no name is from there on, none is found
filter-none : (least : Name) (e : Name × BlockView) (es : NamedBlocks) (d : Bool) → cond d (e ∷ filter (is_from least) es) (filter (is_from least) es) ≡ [] → (d ≡ false) × (filter (is_from least) es ≡ [])
filter-none least e es true none = absurd (false≢true (sym (ap is_cons none)))
filter-none least e es false none = (refl, none)

pub nothing-from : (least : Name) (es : NamedBlocks) (q : Name) → is_le (name_cmp least q) ≡ true → filter (is_from least) es ≡ [] → block_with es q ≡ None
nothing-from least [] q high none = refl
nothing-from least (e ∷ es) q high none =
    let parts = filter-none least e es (is_from least e) none in
    passed-by least e es q parts.0 high ∙ nothing-from least es q high parts.1

-- and else none is below the first, which is found
record IsFirstFrom (least : Name) (es : NamedBlocks) (x : Name × BlockView) : Type 0 where
  pub from : is_from least x ≡ true
  pub here : block_with es x.0 ≡ Some x.1
  pub below : (q : Name) → is_le (name_cmp least q) ≡ true → name_cmp q x.0 ≡ Less → block_with es q ≡ None

first-case :
    (least : Name) (e : Name × BlockView) (es : NamedBlocks) (x : Name × BlockView) (xs : NamedBlocks) (d : Bool) → is_from least e ≡ d
    → IsStrictlySortedBy name_cmp (keys_of (e ∷ es))
    → (filter (is_from least) es ≡ x ∷ xs → IsFirstFrom least es x) → cond d (e ∷ filter (is_from least) es) (filter (is_from least) es) ≡ x ∷ xs
    → IsFirstFrom least (e ∷ es) x
first-case least e es x xs true high sorted rest is =
    let same : e ≡ x = ap (λ l. elim l [ [] ↦ e | (y ∷ ys) ↦ y ]) is in
    subst (IsFirstFrom least (e ∷ es)) same
    (record {
      from = high;
      here = ap (λ d. cond d (Some e.1) (block_with es e.0)) (name-self e.0);
      below = λ q from below. below-all e es q sorted below;
    })
first-case least e es x xs false low sorted rest is =
    let later = rest is in
    record {
      from = later.from;
      here = passed-by least e es x.0 low later.from ∙ later.here;
      below = λ q from below. passed-by least e es q low from ∙ later.below q from below;
    }

first-from : (least : Name) (es : NamedBlocks) (x : Name × BlockView) (xs : NamedBlocks) → IsStrictlySortedBy name_cmp (keys_of es) → filter (is_from least) es ≡ x ∷ xs → IsFirstFrom least es x
first-from least [] x xs sorted is = absurd (false≢true (ap is_cons is))
first-from least (e ∷ es) x xs sorted is =
    first-case least e es x xs (is_from least e) refl sorted (first-from least es x xs (sorted_tail name_cmp e.0 (keys_of es) sorted)) is

-- numbers of a batch

zero-least : (i : ℕ) → is_le (nat_cmp 0 i) ≡ true
zero-least i =
    by_ranked (0 < i) (0 ≡ i) (i < 0) (nat_cmp 0 i) (ranked 0 i (nat_cmp 0 i) refl)
    (λ is less. ap is_le is) (λ is same. ap is_le is) (λ is more. absurd (omega (arith, more)))

then-equal : (o p : Ordering) → o ≡ Equal → ordering_then o p ≡ p
then-equal o p same = ap (λ x. ordering_then x p) same

in-batch : (base : List ℕ) (i j : ℕ) → name_cmp (batch_name base i) (batch_name base j) ≡ nat_cmp i j
in-batch base i j = then-equal (slice_cmp nat_cmp base base) (nat_cmp i j) (tied_itself nat_list_cmp_total base)

from-zero : (base : List ℕ) (i : ℕ) → is_le (name_cmp (batch_name base 0) (batch_name base i)) ≡ true
from-zero base i = ap is_le (in-batch base 0 i) ∙ zero-least i

less-number : (i k : ℕ) → i < k → nat_cmp i k ≡ Less
less-number i k below =
    by_ranked (i < k) (i ≡ k) (k < i) (nat_cmp i k) (ranked i k (nat_cmp i k) refl)
    (λ is less. is) (λ is same. absurd (omega (arith, below, same))) (λ is more. absurd (omega (arith, below, more)))

pub batch-none : (es : NamedBlocks) (base : List ℕ) → filter (is_from (batch_name base 0)) es ≡ [] → IsFirstInBatch es base None
batch-none es base none = λ i. nothing-from (batch_name base 0) es (batch_name base i) (from-zero base i) none

pub batch-first :
    (es : NamedBlocks) (base : List ℕ) (k : ℕ) (x : Name × BlockView) (xs : NamedBlocks) → IsStrictlySortedBy name_cmp (keys_of es)
    → filter (is_from (batch_name base 0)) es ≡ x ∷ xs → x.0 ≡ batch_name base k → IsFirstInBatch es base (Some k)
batch-first es base k x xs sorted is name =
    let first = first-from (batch_name base 0) es x xs sorted is in (
      (x.1, ap (block_with es) (sym name) ∙ first.here),
      λ i below.
          first.below (batch_name base i) (from-zero base i)
          (ap (name_cmp (batch_name base i)) name ∙ in-batch base i k ∙ less-number i k below),
    )

-- a name from there on that isn't one of the batch is above all of the batch
then-above : (o p r : Ordering) → is_eq o ≡ false → is_le (ordering_then o p) ≡ true → ordering_then o r ≡ Less
then-above Less p r other high = refl
then-above Equal p r other high = absurd (false≢true (sym other))
then-above Greater p r other high = absurd (false≢true high)

-- the name isn't one of the batch
abbrev pub IsElsewhere : List ℕ → Name → Type 0
IsElsewhere base (Batch b) = bytes_eq b.base base ≡ false
IsElsewhere base (Base a) = Unit {0}
IsElsewhere base (Given g) = Unit {0}

above-batch : (base : List ℕ) (i : ℕ) (name : Name) → IsElsewhere base name → is_le (name_cmp (batch_name base 0) name) ≡ true → name_cmp (batch_name base i) name ≡ Less
above-batch base i (Base a) other high = absurd (false≢true high)
above-batch base i (Batch b) other high =
    then-above (slice_cmp nat_cmp base b.base) (nat_cmp 0 b.index) (nat_cmp i b.index)
    (sym (texts_ties base b.base) ∙ nat_list_eq_equiv.symm base b.base ∙ other) high
above-batch base i (Given g) other high = refl

pub batch-other :
    (es : NamedBlocks) (base : List ℕ) (x : Name × BlockView) (xs : NamedBlocks) → IsStrictlySortedBy name_cmp (keys_of es)
    → filter (is_from (batch_name base 0)) es ≡ x ∷ xs → IsElsewhere base x.0 → IsFirstInBatch es base None
batch-other es base x xs sorted is other =
    let first = first-from (batch_name base 0) es x xs sorted is in
    λ i. first.below (batch_name base i) (from-zero base i) (above-batch base i x.0 other first.from)

-- what the first name that is one of some batch says
found-case :
    (es : NamedBlocks) (base : List ℕ) (b : BatchName) (x : Name × BlockView) (xs : NamedBlocks) (d : Bool) → bytes_eq b.base base ≡ d
    → IsStrictlySortedBy name_cmp (keys_of es) → filter (is_from (batch_name base 0)) es ≡ x ∷ xs → x.0 ≡ Batch b
    → IsFirstInBatch es base (then_some d b.index)
found-case es base b x xs true same sorted is name =
    batch-first es base b.index x xs sorted is (name ∙ ap (λ w. batch_name w b.index) ((bytes_eq-Decides b.base base).0 same))
found-case es base b x xs false other sorted is name = batch-other es base x xs sorted is (subst (IsElsewhere base) (sym name) other)

pub batch-found :
    (es : NamedBlocks) (base : List ℕ) (b : BatchName) (x : Name × BlockView) (xs : NamedBlocks)
    → IsStrictlySortedBy name_cmp (keys_of es) → filter (is_from (batch_name base 0)) es ≡ x ∷ xs → x.0 ≡ Batch b
    → IsFirstInBatch es base (then_some (bytes_eq b.base base) b.index)
batch-found es base b x xs sorted is name = found-case es base b x xs (bytes_eq b.base base) refl sorted is name
