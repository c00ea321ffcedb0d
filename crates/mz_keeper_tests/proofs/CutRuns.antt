-- What the tests know of large whose runs were cut one after another from a span.
use Rattle.std.proofs.Common.{◌≡◌, ℕ, ◌+◌, ◌*◌, ◌/◌, ◌%◌, ◌<◌, ◌≤◌, true, List, [], ◌∷◌, ◌++◌, length, Option, Some, None, refl, ap, sym, subst, ◌∙◌, arith}
use Rattle.std.specs.Prelude.{nat_le, IsTrue, MatchOption}
use Rattle.std.specs.List.{All, list_all}
use Rattle.std.proofs.lemmas.Bool.{and_parts, and_from, or_left, leb-true, le-leb}
use Rattle.std.proofs.lemmas.Nat.{div-add-mod'}
use Rattle.std.proofs.lemmas.List.Elements.{All-nil, All-cons, All-head, All-tail, All-append, All-weaker}
use Rattle.mz_base.specs.declared.range.TheConstants.{PAGE}
use Rattle.mz_base.specs.Site.{Site}
use Rattle.mz_base.specs.Space.{Run, run_end, runs_apart}
use Rattle.mz_ground.specs.Views.{SpanView}
use Rattle.mz_events.specs.declared.place.Place.{Place}
use Rattle.mz_events.specs.declared.place.Place.TheVariants.{Large}
use Rattle.mz_events.specs.Places.{is_large}
use Rattle.mz_events.specs.Changes.{with_block, without_block, with_run}
use Rattle.mz_events.specs.Standing.{LargeKept, IsOf}
use Rattle.mz_large.specs.Blocks.{IsPaged}
use Rattle.mz_large.specs.Large.{block_of, run_of_span, space_while, HandsOut}
use Rattle.mz_large.proofs.Tiled.{all-insert}
use Rattle.mz_large.proofs.Places.{length-insert}

-- its runs lie before what is left, in whose space the spans are, and nothing is cached
pub record IsCutUp (v : LargeKept) (spans : List SpanView) (rest : SpanView) : Type 0 where
  pub room : v.room ≡ 64
  pub no_space : v.space ≡ None
  pub page : rest.first % PAGE ≡ 0
  pub few : length v.kept.runs * PAGE ≤ rest.first
  pub below : list_all (λ r. nat_le (run_end r * PAGE) rest.first) v.kept.runs ≡ true
  pub of_space : All (λ s. s.space ≡ rest.space) spans

-- a span is n pages from the start of what is left
pub record IsCut (rest run back : SpanView) (n : ℕ) : Type 0 where
  pub some : 1 ≤ n
  pub low : rest.first < 64 * PAGE
  pub first : run.first ≡ rest.first
  pub long : length run.bytes ≡ n * PAGE
  pub behind : back.first ≡ rest.first + n * PAGE
  pub space : run.space ≡ rest.space
  pub rest_space : back.space ≡ rest.space

-- it may enter
pub record MayEnter (v : LargeKept) (run : SpanView) : Type 0 where
  pub room : length v.kept.runs < v.room
  pub paged : IsPaged (block_of run)
  pub apart : list_all (λ r. runs_apart r (run_of_span run)) v.kept.runs ≡ true

runs-before : (rs : List Run) (t : Run) (first : ℕ) → t.first * PAGE ≡ first → list_all (λ r. nat_le (run_end r * PAGE) first) rs ≡ true → list_all (λ r. runs_apart r t) rs ≡ true
runs-before [] t first at below = refl
runs-before (r ∷ rs) t first at below =
    let parts = and_parts (nat_le (run_end r * PAGE) first) (list_all (λ s. nat_le (run_end s * PAGE) first) rs) below in
    let low = leb-true (run_end r * PAGE) first parts.0 in
    and_from (runs_apart r t) (list_all (λ s. runs_apart s t) rs) (or_left (nat_le (run_end r) t.first) (nat_le (run_end t) r.first) (le-leb (run_end r) t.first (omega arith)))
    (runs-before rs t first at parts.1)

still-below : (rs : List Run) (first more : ℕ) → first ≤ more → list_all (λ r. nat_le (run_end r * PAGE) first) rs ≡ true → list_all (λ r. nat_le (run_end r * PAGE) more) rs ≡ true
still-below [] first more order below = refl
still-below (r ∷ rs) first more order below =
    let parts = and_parts (nat_le (run_end r * PAGE) first) (list_all (λ s. nat_le (run_end s * PAGE) first) rs) below in
    let low = leb-true (run_end r * PAGE) first parts.0 in
    and_from (nat_le (run_end r * PAGE) more) (list_all (λ s. nat_le (run_end s * PAGE) more) rs) (le-leb (run_end r * PAGE) more (omega arith)) (still-below rs first more order parts.1)

pub may-enter : (v : LargeKept) (spans : List SpanView) (rest run back : SpanView) (n : ℕ) → IsCutUp v spans rest → IsCut rest run back n → MayEnter v run
may-enter v spans rest run back n h cut =
    let room = h.room in
    let few = h.few in
    let low = cut.low in
    let some = cut.some in
    let page : run.first % PAGE ≡ 0 = ap (λ a. a % PAGE) cut.first ∙ h.page in
    let first = cut.first in
    let at : run.first / PAGE * PAGE ≡ rest.first = omega (arith, div-add-mod' run.first PAGE) in
    let long = cut.long in
    record {
      room = omega arith;
      paged = record { first = page; size = omega arith; some = omega arith };
      apart = runs-before v.kept.runs (run_of_span run) rest.first at h.below;
    }

pub entered-more : (v : LargeKept)
    (spans more : List SpanView) (rest run back : SpanView) (n : ℕ) → IsCutUp v spans rest → IsCut rest run back n → more ≡ spans ++ run ∷ [] →
    IsCutUp (record v { kept = with_block (block_of run) (with_run (run_of_span run) v.kept) }) more back
entered-more v spans more rest run back n h cut is =
    let few = h.few in
    let some = cut.some in
    let page : run.first % PAGE ≡ 0 = ap (λ a. a % PAGE) cut.first ∙ h.page in
    let first = cut.first in
    let at : run.first / PAGE * PAGE ≡ rest.first = omega (arith, div-add-mod' run.first PAGE) in
    let long = cut.long in
    let behind = cut.behind in
    let pages : length run.bytes / PAGE ≡ n = omega arith in
    let was = h.page in
    let one = length-insert (λ (r : Run). r.first) (run_of_span run) v.kept.runs in
    let end : run_end (run_of_span run) * PAGE ≡ back.first = omega arith in
    let P : SpanView → Type 0 = λ s. s.space ≡ back.space in
    record {
      room = h.room;
      no_space = h.no_space;
      page = omega arith;
      few = omega arith;
      below = all-insert (λ (r : Run). r.first) (λ r. nat_le (run_end r * PAGE) back.first) v.kept.runs (run_of_span run) (le-leb (run_end (run_of_span run) * PAGE) back.first (omega arith)) (still-below v.kept.runs rest.first back.first (omega arith) h.below);
      of_space =
          subst (All (λ s. s.space ≡ back.space)) (sym is)
          (All-append (λ (s : SpanView). s.space ≡ back.space) spans (run ∷ []) (All-weaker (λ (s : SpanView). s.space ≡ rest.space) (λ s. s.space ≡ back.space) (λ s e. e ∙ sym cut.rest_space) spans h.of_space)
          (All-cons (λ (s : SpanView). s.space ≡ back.space) run [] (cut.space ∙ sym cut.rest_space) (All-nil (λ (s : SpanView). s.space ≡ back.space))));
    }

-- a free leaves the space of what is cached
while-of : (rs : List Run) (o : Option Site) (x : Site) → IsOf o x → IsOf (space_while rs o) x
while-of [] o x of = tt
while-of (r ∷ rs) o x of = of

pub space-after-free : (old new : LargeKept) (s : SpanView) (out : Option SpanView) (x : Site) → s.space ≡ x
    → ((q : Place) → IsTrue (is_large q) → let freed = record old { space = Some s.space; kept = without_block q (block_of s) old.kept } in
    MatchOption out ((length old.kept.cached < 16) × (new ≡ freed)) (λ t. (length old.kept.cached ≡ 16) × (freed.kept.cached ≡ run_of_span t ∷ new.kept.cached) × HandsOut freed t new))
    → IsOf new.space x
space-after-free old new s None x of done = subst (λ o. IsOf o x) (sym (ap (λ (v : LargeKept). v.space) (done (Large 0) refl).1)) of
space-after-free old new s (Some t) x of done = subst (λ o. IsOf o x) (sym (ap (λ (v : LargeKept). v.space) (done (Large 0) refl).2.left)) (while-of new.kept.cached (Some s.space) x of)

-- what holds of all holds of all but the last
pub but-last : (P : SpanView → Type 0) (xs : List SpanView) (s : SpanView) → All P (xs ++ s ∷ []) → All P xs
but-last P [] s all = All-nil P
but-last P (x ∷ xs) s all = All-cons P x xs (All-head P x (xs ++ s ∷ []) all) (but-last P xs s (All-tail P x (xs ++ s ∷ []) all))

pub last-one : (P : SpanView → Type 0) (xs : List SpanView) (s : SpanView) → All P (xs ++ s ∷ []) → P s
last-one P [] s all = All-head P s [] all
last-one P (x ∷ xs) s all = last-one P xs s (All-tail P x (xs ++ s ∷ []) all)
