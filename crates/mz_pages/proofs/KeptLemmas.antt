-- What each call makes of the pages' parts and of what a clause sees of them.
use Rattle.std.proofs.Common.{◌≡◌, ℕ, ◌+◌, ◌-◌, ◌*◌, ◌^◌, ◌<◌, ◌≤◌, List, Bool, true, false, not, length, map, replicate, All, refl, sym, ap, ◌∙◌, subst, arith}
use Rattle.std.proofs.lemmas.List.{length-map, get_or-map}
use Rattle.std.proofs.lemmas.List.Sums.{count_by-le-length}
use Rattle.std.specs.List.{AllWithin}
use Rattle.mz_ground.specs.Marks.{marked}
use Rattle.mz_base.specs.Site.{Site}
use Rattle.mz_ground.specs.Views.{GroundView, SpanView}
use Rattle.mz_bits.specs.Runs.{with_run}
use Rattle.mz_pages.specs.FreeRuns.{IsFree, IsLowestFree}
use Rattle.mz_pages.specs.Kept.{IsKept}
use Rattle.mz_pages.specs.Pages.{PagesView, all_free, first_page, page_count, with_pages, free_count, IsWhole, Takes}
use Rattle.mz_pages.proofs.FreeRunLemmas.{free_place}
use Rattle.mz_pages.proofs.PageLemmas.{map-replicate, map-with_run, free_count-all, free_count-freed, free_count-taken}

-- the view of pages with these parts
abbrev pub view_of : GroundView → List Bool → ℕ → PagesView
view_of ground out first = record { space = ground.space; first = first; free = map not out }

-- views with equal parts
same_view : (s t : Site) (a b : ℕ) (l m : List Bool) → s ≡ t → a ≡ b → l ≡ m → ◌≡◌ {A = PagesView} (record { space = s; first = a; free = l }) (record { space = t; first = b; free = m })
same_view s t a b l m es ea el = λ i. record { space = es i; first = ea i; free = el i }

-- ---- make

pub kept_new : (ground : GroundView) (out : List Bool) (first count : ℕ) → ground.lent ≡ replicate count false → out ≡ replicate count false → length out ≡ count → ground.first ≡ first * 16384 → (first + count) * 16384 < 2 ^ 63 → IsKept ground out first count
kept_new ground out first count lent none long at small = record {
  lent = lent ∙ sym none;
  at = at;
  small = omega arith;
  count = sym (ap (λ l. free_count (map not l)) none ∙ ap free_count (map-replicate not count false) ∙ free_count-all count);
}

pub view_new : (ground : GroundView) (out : List Bool) (first count : ℕ) (s : SpanView) → out ≡ replicate count false → ground.space ≡ s.space → first ≡ first_page s → count ≡ page_count s → view_of ground out first ≡ all_free s
view_new ground out first count s none space at long =
    same_view ground.space s.space first (first_page s) (map not out) (replicate (page_count s) true) space at (ap (map not) none ∙ map-replicate not count false ∙ ap (λ n. replicate n true) long)

-- ---- take

-- a free run at a place is free there
free_at : (first : ℕ) (out : List Bool) (i w : ℕ) → IsFree first (map not out) (first + i) w → AllWithin (λ b. b ≡ true) (map not out) i (i + w)
free_at first out i w h k d low high = h.each k d (omega arith) (omega arith)

run_within : (first : ℕ) (out : List Bool) (i w : ℕ) → IsFree first (map not out) (first + i) w → i + w ≤ length (map not out)
run_within first out i w h = let below = h.below in omega arith

-- none of its pages is lent
pub none_lent : (ground : GroundView) (out : List Bool) (first free i w : ℕ) → IsKept ground out first free → IsFree first (map not out) (first + i) w → AllWithin (λ b. b ≡ false) ground.lent i (i + w)
none_lent ground out first free i w kept h =
    let F : List Bool → Type 0 = λ l. AllWithin (λ b. b ≡ false) l i (i + w) in
    subst F (sym kept.lent) (λ k d low high. free_place first out (first + i) w k d h (omega arith) (omega arith))

pub lent_within : (ground : GroundView) (out : List Bool) (first free i w : ℕ) → IsKept ground out first free → IsFree first (map not out) (first + i) w → i + w ≤ length ground.lent
lent_within ground out first free i w kept h =
    let same : length ground.lent ≡ length out = ap length kept.lent in
    let long : length (map not out) ≡ length out = length-map out not in
    let within = run_within first out i w h in
    omega arith

-- as many are free as the run has, and the others stay
pub count_taken : (ground : GroundView) (out new : List Bool) (first free i w : ℕ) → IsKept ground out first free → IsFree first (map not out) (first + i) w → new ≡ with_run out i w true → free ≡ free_count (map not new) + w
count_taken ground out new first free i w kept h e =
    kept.count ∙ free_count-taken (map not out) i w (run_within first out i w h) (free_at first out i w h) ∙ ap (λ l. free_count l + w) (sym (ap (map not) e ∙ map-with_run not out i w true))

-- the parts after a run was lent or came back
pub kept_after : (ground after : GroundView) (out new : List Bool) (first free now i n : ℕ) (v : Bool) → IsKept ground out first free → after.first ≡ ground.first → after.lent ≡ marked ground.lent i n v → new ≡ with_run out i n v → length new ≡ length out → now ≡ free_count (map not new) → IsKept after new first now
kept_after ground after out new first free now i n v kept at lent e long count = record {
  lent = lent ∙ ap (λ l. marked l i n v) kept.lent ∙ sym e;
  at = at ∙ kept.at;
  small = let small = kept.small in omega arith;
  count = count;
}

-- the view after that
view_after : (ground after : GroundView) (out new : List Bool) (first i q n : ℕ) (v : Bool) → after.space ≡ ground.space → new ≡ with_run out i n v → i ≡ q - first → view_of after new first ≡ with_pages (view_of ground out first) q n (not v)
view_after ground after out new first i q n v space e at =
    same_view after.space ground.space first first (map not new) (with_run (map not out) (q - first) n (not v)) space refl (ap (map not) e ∙ map-with_run not out i n v ∙ ap (λ j. with_run (map not out) j n (not v)) at)

pub takes : (ground after : GroundView) (out new : List Bool) (first free w al i : ℕ) (s : SpanView) (p : PagesView) → IsKept ground out first free → view_of ground out first ≡ p → IsLowestFree first (map not out) w al (first + i) → after.space ≡ ground.space → new ≡ with_run out i w true →
    s.space ≡ ground.space → s.first ≡ ground.first + 16384 * i → length s.bytes ≡ 16384 * w → Takes p (view_of after new first) w al s
takes ground after out new first free w al i s p kept is lowest space e s_space s_first s_len =
    let at = kept.at in
    let page : first + i ≡ first_page s = omega arith in
    let F : PagesView → Type 0 = λ p. Takes p (view_of after new first) w al s in
    let G : ℕ → Type 0 = λ f. IsLowestFree first (map not out) w al f in
    subst F is (record {
      run = record { within = s_space; begins = omega arith; long = omega arith };
      lowest = subst G page lowest;
      left = view_after ground after out new first i (first_page s) w true space e (omega arith);
    })

-- ---- back

-- what came back was out
pub were_out : (ground : GroundView) (out : List Bool) (first free i q n : ℕ) (p : PagesView) → IsKept ground out first free → view_of ground out first ≡ p → i + n ≤ length out → i ≡ q - first → AllWithin (λ b. b ≡ true) ground.lent i (i + n) → AllWithin (λ b. b ≡ false) p.free (q - p.first) (q - p.first + n)
were_out ground out first free i q n p kept is within at each =
    let F : PagesView → Type 0 = λ p. AllWithin (λ b. b ≡ false) p.free (q - p.first) (q - p.first + n) in
    let G : List Bool → Type 0 = λ l. AllWithin (λ b. b ≡ true) l i (i + n) in
    let lent : AllWithin (λ b. b ≡ true) out i (i + n) = subst G kept.lent each in
    subst F is (λ k d low high. get_or-map not out k d d (omega arith) ∙ ap not (lent k d (omega arith) (omega arith)))

pub count_freed : (ground : GroundView) (out new : List Bool) (first free i n : ℕ) → IsKept ground out first free → i + n ≤ length out → AllWithin (λ b. b ≡ true) ground.lent i (i + n) → new ≡ with_run out i n false → free + n ≡ free_count (map not new)
count_freed ground out new first free i n kept within each e =
    let long : length (map not out) ≡ length out = length-map out not in
    let G : List Bool → Type 0 = λ l. AllWithin (λ b. b ≡ true) l i (i + n) in
    let lent : AllWithin (λ b. b ≡ true) out i (i + n) = subst G kept.lent each in
    let flags : AllWithin (λ b. b ≡ false) (map not out) i (i + n) = λ k d low high. get_or-map not out k d d (omega arith) ∙ ap not (lent k d low high) in
    ap (λ m. m + n) kept.count ∙ sym (free_count-freed (map not out) i n (omega arith) flags) ∙ ap free_count (sym (ap (map not) e ∙ map-with_run not out i n false))

-- that many fit
pub count_small : (out : List Bool) (n : ℕ) → n ≡ free_count (map not out) → n ≤ length out
count_small out n e =
    let long : length (map not out) ≡ length out = length-map out not in
    let most = count_by-le-length (λ b. b) (map not out) in
    omega arith

pub view_back : (ground after : GroundView) (out new : List Bool) (first i q n : ℕ) (p : PagesView) → view_of ground out first ≡ p → after.space ≡ ground.space → new ≡ with_run out i n false → i ≡ q - first → view_of after new first ≡ with_pages p q n true
view_back ground after out new first i q n p is space e at =
    let F : PagesView → Type 0 = λ p. view_of after new first ≡ with_pages p q n true in
    subst F is (view_after ground after out new first i q n false space e at)

-- ---- into_span

pub whole : (ground : GroundView) (out : List Bool) (first free : ℕ) (s : SpanView) (p : PagesView) → IsKept ground out first free → view_of ground out first ≡ p → AllWithin (λ b. b ≡ false) ground.lent 0 (length ground.lent) → s.space ≡ ground.space → s.first ≡ ground.first →
    length s.bytes ≡ 16384 * length ground.lent → All (λ b. b ≡ true) p.free × IsWhole p s
whole ground out first free s p kept is each space at len =
    let long : length (map not out) ≡ length out = length-map out not in
    let same : length ground.lent ≡ length out = ap length kept.lent in
    let start = kept.at in
    let F : PagesView → Type 0 = λ p. All (λ b. b ≡ true) p.free × IsWhole p s in
    let G : List Bool → Type 0 = λ l. AllWithin (λ b. b ≡ false) l 0 (length l) in
    let none : AllWithin (λ b. b ≡ false) out 0 (length out) = subst G kept.lent each in
    subst F is ((λ k d l. get_or-map not out k d d (omega arith) ∙ ap not (none k d (omega arith) (omega arith))), record { within = space; begins = omega arith; long = omega arith })

-- pages of the view are places of the map
pub inside_map : (ground : GroundView) (out : List Bool) (first q n a m : ℕ) (p : PagesView) → view_of ground out first ≡ p → p.first ≤ q → q + n ≤ p.first + length p.free → a ≡ q → m ≡ n → a - first + m ≤ length out
inside_map ground out first q n a m p is above below ea em =
    let at : first ≡ p.first = ap (λ v. v.first) is in
    let same : length (map not out) ≡ length p.free = ap (λ v. length v.free) is in
    let long : length (map not out) ≡ length out = length-map out not in
    omega arith
