-- What the calls of large answer, for each place for which its keeper stands.
use Rattle.std.proofs.Common.{◌≡◌, ◌⊎◌, ℕ, suc, ◌/◌, ◌<◌, ◌≤◌, true, false, Bool, List, [], ◌∷◌, ◌++◌, length, Option, None, Some, refl, ap, sym, subst, ◌∙◌, inl, inr, arith}
use Rattle.std.specs.Prelude.{MatchOption, IsTrue, if◌then◌else◌}
use Rattle.std.specs.List.{list_all}
use Rattle.std.proofs.lemmas.Bool.{false≢true, false_from_ne_true}
use Rattle.mz_base.specs.declared.profile.Profile.{Profile}
use Rattle.mz_base.specs.Site.{Site}
use Rattle.mz_base.specs.declared.range.TheConstants.{PAGE}
use Rattle.mz_base.specs.Space.{Run, Block, blocks_apart, bytes_of}
use Rattle.mz_base.specs.Lists.{has_run}
use Rattle.mz_ground.specs.Views.{SpanView}
use Rattle.mz_large.specs.Large.{block_of, run_of_span, space_while, HandsOut, Reuses}
use Rattle.mz_events.specs.declared.place.Place.{Place}
use Rattle.mz_events.specs.declared.place.Place.TheVariants.{Large}
use Rattle.mz_events.specs.declared.event.Event.TheVariants.{Back, New}
use Rattle.mz_events.specs.Places.{is_large, zone_of}
use Rattle.mz_events.specs.State.{Kept}
use Rattle.mz_events.specs.Room.{any_fits, best_fit}
use Rattle.mz_events.specs.Changes.{run_of, with_block, with_run, without_run, without_block}
use Rattle.mz_events.specs.Standing.{RegionsKept, LargeKept, PagesKept, Keeping, Stands, StandsForLarge, IsOf, stretches_below}
use Rattle.mz_book.specs.Account.{Account}
use Rattle.mz_book.specs.Calls.{CanNote, Notes}
use Rattle.mz_rack.specs.declared.keeper.Kind.{Kind}
use Rattle.mz_rack.specs.declared.keeper.Kind.TheVariants as kind
use Rattle.mz_rack.specs.Kinds.{keeping_of}
use Rattle.mz_rack.specs.Runs.{Reused}
use Rattle.mz_rack.specs.Flushing.{Flushed, PushedOut}

pub of_large : (i : Kind) (v : LargeKept) (n : Keeping) → keeping_of i ≡ n → i ≡ kind.Large v → (x : Site) (p : Profile) (q : Place) (k : Kept) → Stands n x p q k → StandsForLarge v x p q k
of_large i v n view is x p q k s = subst (λ j. Stands (keeping_of j) x p q k) is (subst (λ j. Stands j x p q k) (sym view) s)

no_place : (b : Bool) → (if b then false else false) ≡ true → ⊥
no_place true h = false≢true h
no_place false h = false≢true h

-- the keepers of the other kinds don't stand for large
pub no_large : (i : Kind) (n : Keeping) → keeping_of i ≡ n → ((v : PagesKept) × (i ≡ kind.Pages v)) ⊎ (((v : RegionsKept) × (i ≡ kind.Tiny v)) ⊎ ((v : RegionsKept) × (i ≡ kind.Small v))) → (x : Site) (p : Profile) (z : ℕ) (k : Kept) → Stands n x p (Large z) k → ⊥
no_large i n view (inl y) x p z k s = false≢true (subst (λ j. Stands (keeping_of j) x p (Large z) k) y.1 (subst (λ j. Stands j x p (Large z) k) (sym view) s)).kind
no_large i n view (inr (inl y)) x p z k s = no_place y.0.depot (subst (λ j. Stands (keeping_of j) x p (Large z) k) y.1 (subst (λ j. Stands j x p (Large z) k) (sym view) s)).kind
no_large i n view (inr (inr y)) x p z k s = no_place y.0.depot (subst (λ j. Stands (keeping_of j) x p (Large z) k) y.1 (subst (λ j. Stands j x p (Large z) k) (sym view) s)).kind

while_of : (rs : List Run) (o : Option Site) (x : Site) → IsOf o x → IsOf (space_while rs o) x
while_of [] o x of = tt
while_of (r ∷ rs) o x of = of

-- THE OLDEST comes out
pub flushed : (v u : LargeKept) (got : Option SpanView) (x : Site) (p : Profile) (z : ℕ) (k : Kept) → StandsForLarge v x p (Large z) k
    → MatchOption got ((u ≡ v) × (v.kept.cached ≡ [])) (λ s. (v.kept.cached ≡ run_of_span s ∷ u.kept.cached) × HandsOut v s u)
    → Flushed x k (StandsForLarge u x p (Large z)) got
flushed v u None x p z k st h = (ap (λ (j : Kept). j.cached) (sym st.keeps) ∙ h.1, subst (λ (y : LargeKept). StandsForLarge y x p (Large z) k) (sym h.0) st)
flushed v u (Some s) x p z k st h =
    let out = h.1 in
    let kept : u.kept ≡ without_run (run_of_span s) k = ap (λ (y : LargeKept). y.kept) out.left ∙ ap (without_run (run_of_span s)) st.keeps in (
      record {
        space = subst (λ o. IsOf o x) out.cached.space st.space;
        whole = out.cached.whole;
        first = ap (λ (j : Kept). j.cached) (sym st.keeps) ∙ h.0 ∙ ap (λ (j : Kept). run_of_span s ∷ j.cached) kept;
        there = ap (λ (j : Kept). has_run j.runs (run_of_span s)) (sym st.keeps) ∙ out.cached.run;
        unused = ap (λ (j : Kept). list_all (λ b. blocks_apart b (bytes_of (run_of_span s))) j.live) (sym st.keeps)
            ∙ (ap (λ (c : Block). list_all (λ b. blocks_apart b c) v.kept.live) out.cached.whole ∙ out.cached.apart);
      },
      record {
        kind = st.kind;
        space = subst (λ o. IsOf o x) (sym (ap (λ (y : LargeKept). y.space) out.left)) (while_of u.kept.cached v.space x st.space);
        room = subst (λ n. stretches_below p 3 ≤ n) (sym (ap (λ (y : LargeKept). y.room) out.left)) st.room;
        keeps = kept;
      },
    )

-- A BLOCK ends, and the oldest may come out
length_more : (rs : List Run) (r : Run) → length (rs ++ r ∷ []) ≡ suc (length rs)
length_more [] r = refl
length_more (x ∷ rs) r = ap suc (length_more rs r)

ended_in_large : (v u : LargeKept) (s : SpanView) (got : Option SpanView) (x : Site) (p : Profile) (z : ℕ) (k : Kept) → StandsForLarge v x p (Large z) k → s.space ≡ x
    → (let freed = record v { space = Some s.space; kept = without_block (Large z) (block_of s) v.kept } in
    MatchOption got ((length v.kept.cached < 16) × (u ≡ freed)) (λ t. (length v.kept.cached ≡ 16) × (freed.kept.cached ≡ run_of_span t ∷ u.kept.cached) × HandsOut freed t u))
    → PushedOut x (Large z) (without_block (Large z) (block_of s) k) (StandsForLarge u x p (Large z)) got
ended_in_large v u s got x p z k st of_x h =
    let freed : LargeKept = record v { space = Some s.space; kept = without_block (Large z) (block_of s) v.kept } in
    let now = without_block (Large z) (block_of s) k in
    let stands : StandsForLarge freed x p (Large z) now = record { kind = st.kind; space = of_x; room = st.room; keeps = ap (λ j. without_block (Large z) (block_of s) j) st.keeps } in
    let count : length now.cached ≡ suc (length v.kept.cached) = length_more k.cached (run_of (block_of s)) ∙ ap (λ (j : Kept). suc (length j.cached)) (sym st.keeps) in
    by_case got freed now stands count h
  where
    by_case : (o : Option SpanView) (freed : LargeKept) (now : Kept) → StandsForLarge freed x p (Large z) now → length now.cached ≡ suc (length v.kept.cached)
        → MatchOption o ((length v.kept.cached < 16) × (u ≡ freed)) (λ t. (length v.kept.cached ≡ 16) × (freed.kept.cached ≡ run_of_span t ∷ u.kept.cached) × HandsOut freed t u)
        → PushedOut x (Large z) now (StandsForLarge u x p (Large z)) o
    by_case None freed now stands count y = (λ _. let few = y.0 in omega (arith, count, few), subst (λ (a : LargeKept). StandsForLarge a x p (Large z) now) (sym y.1) stands)
    by_case (Some t) freed now stands count y =
        let out = flushed freed u (Some t) x p z now stands (y.1, y.2) in
        let many = y.0 in
        (refl, omega (arith, count, many), out.0, out.1)

its_zone : (q : Place) → is_large q ≡ true → Large (zone_of q) ≡ q
its_zone (Large z) h = refl
its_zone _ h = absurd (false≢true h)

pub ended_there : (v u : LargeKept) (s : SpanView) (got : Option SpanView) (x : Site) (p : Profile) (q : Place) (k : Kept) → StandsForLarge v x p q k → s.space ≡ x
    → ((l : Place) → is_large l ≡ true → let freed = record v { space = Some s.space; kept = without_block l (block_of s) v.kept } in
    MatchOption got ((length v.kept.cached < 16) × (u ≡ freed)) (λ t. (length v.kept.cached ≡ 16) × (freed.kept.cached ≡ run_of_span t ∷ u.kept.cached) × HandsOut freed t u))
    → PushedOut x q (without_block q (block_of s) k) (StandsForLarge u x p q) got
ended_there v u s got x p q k st of_x h =
    let is = its_zone q st.kind in
    subst (λ l. PushedOut x l (without_block l (block_of s) k) (StandsForLarge u x p l) got) is
    (ended_in_large v u s got x p (zone_of q) k (subst (λ l. StandsForLarge v x p l k) (sym is) st) of_x (h (Large (zone_of q)) refl))

-- THE BEST FIT is a block again
pub reused : (v u : LargeKept) (got : Option SpanView) (w : ℕ) (x : Site) (p : Profile) (z : ℕ) (k : Kept) → StandsForLarge v x p (Large z) k
    → MatchOption got ((u ≡ v) × ¬ IsTrue (any_fits v.kept.cached w)) (λ s. (best_fit v.kept.cached w ≡ Some (run_of_span s)) × Reuses v s u)
    → Reused x k w (StandsForLarge u x p (Large z)) got
reused v u None w x p z k st h =
    (ap (λ (j : Kept). any_fits j.cached w) (sym st.keeps) ∙ false_from_ne_true (any_fits v.kept.cached w) h.1, subst (λ (y : LargeKept). StandsForLarge y x p (Large z) k) (sym h.0) st)
reused v u (Some s) w x p z k st h =
    let out = h.1 in (
      record {
        space = subst (λ o. IsOf o x) out.cached.space st.space;
        whole = out.cached.whole;
        best = ap (λ (j : Kept). best_fit j.cached w) (sym st.keeps) ∙ h.0;
        there = ap (λ (j : Kept). has_run j.runs (run_of_span s)) (sym st.keeps) ∙ out.cached.run;
        unused = ap (λ (j : Kept). list_all (λ b. blocks_apart b (block_of s)) j.live) (sym st.keeps) ∙ out.cached.apart;
      },
      record {
        kind = st.kind;
        space = subst (λ o. IsOf o x) (sym (ap (λ (y : LargeKept). y.space) out.left)) (while_of u.kept.cached v.space x st.space);
        room = subst (λ n. stretches_below p 3 ≤ n) (sym (ap (λ (y : LargeKept). y.room) out.left)) st.room;
        keeps = ap (λ (y : LargeKept). y.kept) out.left ∙ ap (with_block (block_of s)) st.keeps;
      },
    )

-- A FRESH RUN is a block
pub entered : (v u : LargeKept) (s : SpanView) (x : Site) (p : Profile) (z : ℕ) (k : Kept) → StandsForLarge v x p (Large z) k
    → u ≡ record v { kept = with_block (block_of s) (with_run (run_of_span s) v.kept) } → StandsForLarge u x p (Large z) (with_block (block_of s) (with_run (run_of_span s) k))
entered v u s x p z k st h = record {
  kind = st.kind;
  space = subst (λ o. IsOf o x) (sym (ap (λ (y : LargeKept). y.space) h)) st.space;
  room = subst (λ n. stretches_below p 3 ≤ n) (sym (ap (λ (y : LargeKept). y.room) h)) st.room;
  keeps = ap (λ (y : LargeKept). y.kept) h ∙ ap (λ (j : Kept). with_block (block_of s) (with_run (run_of_span s) j)) st.keeps;
}

-- the event that is noted is that of the run
pub as_run : (t : Account) (z : ℕ) (x : SpanView) (first len : ℕ) → first ≡ x.first → len ≡ length x.bytes → CanNote t (Back (Large z) (run_of_span x).first (run_of_span x).pages) → CanNote t (Back (Large z) (first / PAGE) (len / PAGE))
as_run t z x first len begins long can = subst (λ a. CanNote t (Back (Large z) (a / PAGE) (len / PAGE))) (sym begins) (subst (λ n. CanNote t (Back (Large z) (x.first / PAGE) (n / PAGE))) (sym long) can)

pub was_noted : (t u : Account) (z j : ℕ) (x : SpanView) (first len : ℕ) → first ≡ x.first → len ≡ length x.bytes → Notes t (Back (Large z) (first / PAGE) (len / PAGE)) j u → Notes t (Back (Large z) (run_of_span x).first (run_of_span x).pages) j u
was_noted t u z j x first len begins long h = subst (λ n. Notes t (Back (Large z) (x.first / PAGE) (n / PAGE)) j u) long (subst (λ a. Notes t (Back (Large z) (a / PAGE) (len / PAGE)) j u) begins h)

-- the event that is noted is that of the block
pub as_block : (s : Account) (z al : ℕ) (x : SpanView) (first len : ℕ) → first ≡ x.first → len ≡ length x.bytes → CanNote s (New (Large z) x.first (length x.bytes) al) → CanNote s (New (Large z) first len al)
as_block s z al x first len begins long can = subst (λ a. CanNote s (New (Large z) a len al)) (sym begins) (subst (λ n. CanNote s (New (Large z) x.first n al)) (sym long) can)

pub was_block : (s t : Account) (z al i : ℕ) (x : SpanView) (first len : ℕ) → first ≡ x.first → len ≡ length x.bytes → Notes s (New (Large z) first len al) i t → Notes s (New (Large z) x.first (length x.bytes) al) i t
was_block s t z al i x first len begins long h = subst (λ n. Notes s (New (Large z) x.first n al) i t) long (subst (λ a. Notes s (New (Large z) a len al) i t) begins h)
