-- What is live in a state that lawful entries leave, and after one event more.
use Rattle.std.proofs.Common.{◌≡◌, ℕ, ◌==◌, Bool, true, false, cond, not, List, [], ◌∷◌, ◌++◌, ◌≤◌, ◌+◌, ◌*◌, arith, subst, refl, ap, sym, ◌∙◌, eq-eqb, inl, inr}
use Rattle.std.specs.Prelude.{◌&&◌, ◌||◌, ◌⊎◌, nat_lt, nat_le}
use Rattle.std.specs.List.{list_all, Contains}
use Rattle.std.proofs.lemmas.Bool.{cases_Bool, and_parts, and_from, false≢true}
use Rattle.std.proofs.lemmas.Bool.Decides.{nat_tests}
use Rattle.mz_base.specs.declared.range.TheConstants.{PAGE}
use Rattle.mz_base.specs.declared.profile.Profile.{Profile}
use Rattle.mz_base.specs.Space.{Block, Run, block_at, run_at, block_end, run_end, blocks_apart, runs_apart, bytes_of, same_block, same_run}
use Rattle.mz_base.specs.Lists.{has_run, has_block, add_run, drop_block, insert_by, blocks_in}
use Rattle.mz_base.specs.Room.{lies_in}
use Rattle.mz_events.specs.declared.place.Place.{Place}
use Rattle.mz_events.specs.declared.place.Place.TheVariants.{Pages, Tiny, TinyDepot, Small, SmallDepot, Large, Nano}
use Rattle.mz_events.specs.declared.entry.Entry.{Entry}
use Rattle.mz_events.specs.declared.event.Event.{Event}
use Rattle.mz_events.specs.declared.event.Event.TheVariants.{Take, Back, Move, New, End, Size, Full, Dry, No, Open, Shut}
use Rattle.mz_events.specs.Places.{is_magazine, is_nano, depot_of, is_length_of, Spot, same_spot, spot_of, spot_at, place_of}
use Rattle.mz_events.specs.State.{State, opening, kept_at, live_blocks}
use Rattle.mz_events.specs.Changes.{region_at}
use Rattle.mz_events.specs.Effect.{touches, kept_after, after}
use Rattle.mz_events.specs.Rules.{Fits}
use Rattle.mz_events.specs.History.{AreLawful, after_all}
use Rattle.mz_events.specs.Sameness.{IsOnce}
use Rattle.mz_events.specs.Separation.{IsSeparate, IsAscending, LiesAtHome}
use Rattle.mz_events.specs.Bounds.{RunsFit}
use Rattle.mz_book.specs.Account.{is_live, entry_at}
use Rattle.mz_book.specs.Living.{lives_after}
use Rattle.mz_book.specs.HistoryLaws.{HistoryLaws}
use Rattle.mz_book.proofs.OwnerLemmas.{same_true, same_refl}
use Rattle.mz_book.proofs.ListLemmas.{or_elim, or_left, or_right, same_bool, not_true, find_any, any_from, has_there, there_has, has_added, has_dropped, has_filtered, has_all_added, all_kept, all_at}

-- the block is live at some spot
abbrev pub IsLive : State → Block → Type 0
IsLive s x = (j : Spot) × (has_block (kept_at s j).live x ≡ true)

pub to_live : (L : HistoryLaws) (s : State) (x : Block) → IsOnce s → IsLive s x → is_live s x ≡ true
to_live L s x once h =
    let y : Spot × Block = (h.0, x) in
    any_from (λ (z : Spot × Block). same_block x z.1) (live_blocks s) y (((L.by_spot s once).live h.0 x).1 (has_there (kept_at s h.0).live x h.1)) (same_refl x)

pub from_live : (L : HistoryLaws) (s : State) (x : Block) → IsOnce s → is_live s x ≡ true → IsLive s x
from_live L s x once h =
    let r = find_any (λ (z : Spot × Block). same_block x z.1) (live_blocks s) h in
    let j = r.0.0 in
    let there : Contains (kept_at s j).live r.0.1 = ((L.by_spot s once).live j r.0.1).0 r.1.0 in
    (j, ap (λ b. has_block (kept_at s j).live b) (same_true x r.0.1 r.1.1) ∙ there_has (kept_at s j).live r.0.1 there)

apart_self : (b : Block) → 1 ≤ b.size → blocks_apart b b ≡ true → ⊥
apart_self b some h = or_elim (nat_le (block_end b) b.first) (nat_le (block_end b) b.first) (λ l. grind (arith, nat_tests)) (λ l. grind (arith, nat_tests)) h

pub one_spot : (p : Profile) (s : State) (j k : Spot) (x : Block) → IsSeparate p s → IsAscending p s → has_block (kept_at s j).live x ≡ true → has_block (kept_at s k).live x ≡ true → j ≡ k
one_spot p s j k x sep asc hj hk = elim (sep.blocks_are_apart j k x x hj hk) [ inl e ↦ e.0 | inr a ↦ absurd (apart_self x (asc.sizes j x hj) a) ]

-- of a region that moves

run_same : (r : Run) → same_run r r ≡ true
run_same r = and_from (r.first == r.first) (r.pages == r.pages) (eq-eqb r.first r.first refl) (eq-eqb r.pages r.pages refl)

there_case : (r : Run) (rs : List Run) (f : ℕ) (b : Bool) → (has_run rs (region_at rs f) ≡ true) ⊎ (region_at rs f ≡ run_at f 0)
    → (has_run (r ∷ rs) (cond b r (region_at rs f)) ≡ true) ⊎ (cond b r (region_at rs f) ≡ run_at f 0)
there_case r rs f true h = inl (or_left (same_run r r) (has_run rs r) (run_same r))
there_case r rs f false (inl h) = inl (or_right (same_run (region_at rs f) r) (has_run rs (region_at rs f)) h)
there_case r rs f false (inr e) = inr e

region_there : (runs : List Run) (f : ℕ) → (has_run runs (region_at runs f) ≡ true) ⊎ (region_at runs f ≡ run_at f 0)
region_there [] f = inr refl
region_there (r ∷ rs) f = there_case r rs f (r.first == f) (region_there rs f)

added_case : (r t : Run) (ts us : List Run) (d : Bool) → has_run us r ≡ true → has_run (cond d (r ∷ t ∷ ts) (t ∷ us)) r ≡ true
added_case r t ts us true h = or_left (same_run r r) (has_run (t ∷ ts) r) (run_same r)
added_case r t ts us false h = or_right (same_run r t) (has_run us r) h

run_added : (r : Run) (runs : List Run) → has_run (add_run r runs) r ≡ true
unfolding insert_by
run_added r [] = or_left (same_run r r) false (run_same r)
run_added r (t ∷ ts) = added_case r t ts (add_run r ts) (nat_lt r.first t.first) (run_added r ts)

no_length : (q : Place) → is_length_of (place_of (spot_of q)) 0 ≡ false
no_length Pages = refl
no_length (Tiny z m) = refl
no_length (TinyDepot z) = refl
no_length (Small z m) = refl
no_length (SmallDepot z) = refl
no_length (Large z) = refl
no_length Nano = refl

home_run : (p : Profile) (s : State) (q : Place) (x : Block) → is_nano q ≡ false → LiesAtHome p s (spot_of q) x → (r : Run) × ((has_run (kept_at s (spot_of q)).runs r ≡ true) × (lies_in r x.first (block_end x) ≡ true))
home_run p s Pages x n h = (h.0, (h.1, h.2))
home_run p s (Tiny z m) x n h = (h.0, (h.1, h.2))
home_run p s (TinyDepot z) x n h = (h.0, (h.1, h.2))
home_run p s (Small z m) x n h = (h.0, (h.1, h.2))
home_run p s (SmallDepot z) x n h = (h.0, (h.1, h.2))
home_run p s (Large z) x n h = (h.0, (h.1, h.2))
home_run p s Nano x n h = absurd (false≢true (sym n))

apart_runs : (x : Block) (r t : Run) → lies_in t x.first (block_end x) ≡ true → runs_apart t r ≡ true → blocks_apart x (bytes_of r) ≡ true
apart_runs x r t l a =
    let b = and_parts (nat_le (t.first * PAGE) x.first) (nat_le (block_end x) (run_end t * PAGE)) l in
    or_elim (nat_le (run_end t) r.first) (nat_le (run_end r) t.first)
    (λ h. let l : nat_le (block_end x) (r.first * PAGE) ≡ true = grind (arith, nat_tests, h, b.1) in or_left (nat_le (block_end x) (r.first * PAGE)) (nat_le (block_end (bytes_of r)) x.first) l)
    (λ h. let l : nat_le (block_end (bytes_of r)) x.first ≡ true = grind (arith, nat_tests, h, b.0) in or_right (nat_le (block_end x) (r.first * PAGE)) (nat_le (block_end (bytes_of r)) x.first) l)
    a

-- a move is between a magazine and its depot
pair_apart : (m : Place) → is_magazine m ≡ true → (same_spot (spot_of m) (spot_of (depot_of m)) ≡ false) × ((same_spot (spot_of (depot_of m)) (spot_of m) ≡ false) × ((is_nano m ≡ false) × (is_nano (depot_of m) ≡ false)))
pair_apart (Tiny z m) h = (refl, (refl, (refl, refl)))
pair_apart (Small z m) h = (refl, (refl, (refl, refl)))
pair_apart Pages h = absurd (false≢true h)
pair_apart (TinyDepot z) h = absurd (false≢true h)
pair_apart (SmallDepot z) h = absurd (false≢true h)
pair_apart (Large z) h = absurd (false≢true h)
pair_apart Nano h = absurd (false≢true h)

module _ (L : HistoryLaws) (p : Profile) (es : List Entry) (c : ℕ) (e : Event) (ok : AreLawful p opening es) (fits : Fits p (after_all p opening es) c e) where
  abbrev s : State
  s = after_all p opening es

  abbrev t : State
  t = after p s c e

  abbrev last : Entry
  last = entry_at s.entries c e

  pub then_lawful : AreLawful p opening (es ++ last ∷ [])
  then_lawful = (L.joined p opening es (last ∷ [])).1 (ok, (L.one p s last).1 (record { in_turn = refl; fits = fits }))

  pub then_is : after_all p opening (es ++ last ∷ []) ≡ t
  then_is = L.after_joined p opening es (last ∷ []) ∙ L.after_one p s last

  pub once_s : IsOnce s
  once_s = L.once p opening es L.once_first

  pub once_t : IsOnce t
  once_t = subst IsOnce then_is (L.once p opening (es ++ last ∷ []) L.once_first)

  pub sep_s : IsSeparate p s
  sep_s = L.separate p es ok

  pub asc_s : IsAscending p s
  asc_s = L.ascending p es ok

  pub sep_t : IsSeparate p t
  sep_t = subst (IsSeparate p) then_is (L.separate p (es ++ last ∷ []) then_lawful)

  pub asc_t : IsAscending p t
  asc_t = subst (IsAscending p) then_is (L.ascending p (es ++ last ∷ []) then_lawful)

  pub fit_t : RunsFit p t
  fit_t = subst (RunsFit p) then_is (L.runs_fit p (es ++ last ∷ []) then_lawful)

  pub live_in : (j : Spot) → touches p e j ≡ true → (kept_at t j).live ≡ (kept_after s e j).live
  live_in j h = ap (λ v. v.kept.live) (L.touched p s c e j h)

  pub live_out : (j : Spot) → touches p e j ≡ false → (kept_at t j).live ≡ (kept_at s j).live
  live_out j h = ap (λ v. v.kept.live) (L.untouched p s c e j h)

  -- what stays where it isn't touched
  pub stay : (x : Block) (j : Spot) → touches p e j ≡ false → has_block (kept_at s j).live x ≡ true → is_live t x ≡ true
  stay x j n h = to_live L t x once_t (j, ap (λ bs. has_block bs x) (live_out j n) ∙ h)

  pub be : (x : Block) (j : Spot) → touches p e j ≡ true → has_block (kept_after s e j).live x ≡ true → is_live t x ≡ true
  be x j y h = to_live L t x once_t (j, ap (λ bs. has_block bs x) (live_in j y) ∙ h)

  pub was : (x : Block) (j : Spot) → has_block (kept_at s j).live x ≡ true → is_live s x ≡ true
  was x j h = to_live L s x once_s (j, h)

  -- what is live now, by where it is
  pub now_cases : {P : Type 0} (x : Block) → ((j : Spot) → touches p e j ≡ true → has_block (kept_after s e j).live x ≡ true → P) → ((j : Spot) → touches p e j ≡ false → has_block (kept_at s j).live x ≡ true → P) → is_live t x ≡ true → P
  now_cases x f g h =
      let l = from_live L t x once_t h in
      elim (cases_Bool (touches p e l.0)) [
        | inl y ↦ f l.0 y (sym (ap (λ bs. has_block bs x) (live_in l.0 y)) ∙ l.1)
        | inr n ↦ g l.0 n (sym (ap (λ bs. has_block bs x) (live_out l.0 n)) ∙ l.1)
      ]

  pub then_cases : {P : Type 0} (x : Block) → ((j : Spot) → touches p e j ≡ true → has_block (kept_at s j).live x ≡ true → P) → ((j : Spot) → touches p e j ≡ false → has_block (kept_at s j).live x ≡ true → P) → is_live s x ≡ true → P
  then_cases x f g h =
      let l = from_live L s x once_s h in
      elim (cases_Bool (touches p e l.0)) [
        | inl y ↦ f l.0 y l.1
        | inr n ↦ g l.0 n l.1
      ]

  pub unchanged : ((j : Spot) → touches p e j ≡ true → (kept_after s e j).live ≡ (kept_at s j).live) → (x : Block) → is_live t x ≡ is_live s x
  unchanged same x =
      same_bool (is_live t x) (is_live s x)
      (now_cases x (λ j y h. was x j (sym (ap (λ bs. has_block bs x) (same j y)) ∙ h)) (λ j n h. was x j h))
      (then_cases x (λ j y h. be x j y (ap (λ bs. has_block bs x) (same j y) ∙ h)) (λ j n h. stay x j n h))

  -- a block that is live at a touched spot isn't live at one that isn't touched
  pub elsewhere : (b x : Block) (i j : Spot) → has_block (kept_at s i).live b ≡ true → touches p e i ≡ true → touches p e j ≡ false → has_block (kept_at s j).live x ≡ true → same_block x b ≡ false
  elsewhere b x i j hi y n hj = elim (cases_Bool (same_block x b)) [
    | inl q ↦
        let at : has_block (kept_at s j).live b ≡ true = ap (λ z. has_block (kept_at s j).live z) (sym (same_true x b q)) ∙ hj in
        let here : j ≡ i = one_spot p s j i b sep_s asc_s at hi in
        absurd (false≢true (sym n ∙ (ap (touches p e) here ∙ y)))
    | inr q ↦ q
  ]

module _ (L : HistoryLaws) (p : Profile) (es : List Entry) (c : ℕ) (ok : AreLawful p opening es) where
  abbrev st : State
  st = after_all p opening es

  abbrev then : Event → State
  then e = after p st c e

  only : (i j : Spot) → (same_spot j i || false) ≡ true → j ≡ i
  only i j h = (L.spots j i).0 (or_elim (same_spot j i) false (λ y. y) (λ y. absurd (false≢true y)) h)

  here : (i : Spot) → (same_spot i i || false) ≡ true
  here i = or_left (same_spot i i) false ((L.spots i i).1 refl)

  made : (k : Place) (a n al : ℕ) (x : Block) → Fits p st c (New k a n al) → is_live (then (New k a n al)) x ≡ (same_block x (block_at a n) || is_live st x)
  made k a n al x f =
      let e = New k a n al in
      let b = block_at a n in
      same_bool (is_live (then e) x) (same_block x b || is_live st x)
      (now_cases L p es c e ok f x
      (λ j y h. or_elim (same_block x b) (has_block (kept_at st j).live x) (λ q. or_left _ _ q) (λ q. or_right (same_block x b) (is_live st x) (was L p es c e ok f x j q)) (sym (has_added b x (kept_at st j).live) ∙ h))
      (λ j y h. or_right (same_block x b) (is_live st x) (was L p es c e ok f x j h)))
      (or_elim (same_block x b) (is_live st x)
      (λ q. be L p es c e ok f x (spot_at k a) (here (spot_at k a)) (has_added b x (kept_at st (spot_at k a)).live ∙ or_left (same_block x b) (has_block (kept_at st (spot_at k a)).live x) q))
      (then_cases L p es c e ok f x
      (λ j y h. be L p es c e ok f x j y (has_added b x (kept_at st j).live ∙ or_right (same_block x b) (has_block (kept_at st j).live x) h))
      (λ j y h. stay L p es c e ok f x j y h)))

  gone : (k : Place) (a n : ℕ) (x : Block) → Fits p st c (End k a n) → is_live (then (End k a n)) x ≡ (not (same_block x (block_at a n)) && is_live st x)
  gone k a n x f =
      let e = End k a n in
      let b = block_at a n in
      let may = ((L.fits p st c).ends k a n).0 f in
      same_bool (is_live (then e) x) (not (same_block x b) && is_live st x)
      (now_cases L p es c e ok f x
      (λ j y h. let q = and_parts (not (same_block x b)) (has_block (kept_at st j).live x) (sym (has_dropped b x (kept_at st j).live) ∙ h) in and_from _ _ q.0 (was L p es c e ok f x j q.1))
      (λ j y h. and_from _ _ (not_true _ (elsewhere L p es c e ok f b x (spot_at k a) j may.live (here (spot_at k a)) y h)) (was L p es c e ok f x j h)))
      (λ h. let q = and_parts (not (same_block x b)) (is_live st x) h in
      then_cases L p es c e ok f x
      (λ j y g. be L p es c e ok f x j y (has_dropped b x (kept_at st j).live ∙ and_from _ _ q.0 g))
      (λ j y g. stay L p es c e ok f x j y g) q.1)

  sized : (k : Place) (a n m : ℕ) (x : Block) → Fits p st c (Size k a n m) → is_live (then (Size k a n m)) x ≡ (same_block x (block_at a m) || (not (same_block x (block_at a n)) && is_live st x))
  sized k a n m x f =
      let e = Size k a n m in
      let b = block_at a n in
      let d = block_at a m in
      let may = ((L.fits p st c).resize k a n m).0 f in
      let has : (j : Spot) → has_block (kept_after st e j).live x ≡ (same_block x d || (not (same_block x b) && has_block (kept_at st j).live x)) = λ j. has_added d x (drop_block b (kept_at st j).live) ∙ ap (λ q. same_block x d || q) (has_dropped b x (kept_at st j).live) in
      same_bool (is_live (then e) x) (same_block x d || (not (same_block x b) && is_live st x))
      (now_cases L p es c e ok f x
      (λ j y h. or_elim (same_block x d) (not (same_block x b) && has_block (kept_at st j).live x) (λ q. or_left _ _ q)
      (λ q. let u = and_parts (not (same_block x b)) (has_block (kept_at st j).live x) q in or_right (same_block x d) _ (and_from _ _ u.0 (was L p es c e ok f x j u.1))) (sym (has j) ∙ h))
      (λ j y h. or_right (same_block x d) _ (and_from _ _ (not_true _ (elsewhere L p es c e ok f b x (spot_at k a) j may.live (here (spot_at k a)) y h)) (was L p es c e ok f x j h))))
      (or_elim (same_block x d) (not (same_block x b) && is_live st x)
      (λ q. be L p es c e ok f x (spot_at k a) (here (spot_at k a)) (has (spot_at k a) ∙ or_left _ _ q))
      (λ h. let q = and_parts (not (same_block x b)) (is_live st x) h in
      then_cases L p es c e ok f x
      (λ j y g. be L p es c e ok f x j y (has j ∙ or_right (same_block x d) _ (and_from _ _ q.0 g)))
      (λ j y g. stay L p es c e ok f x j y g) q.1))

  taken : (k : Place) (f w : ℕ) (j : Spot) → (kept_after st (Take k f w) j).live ≡ (kept_at st j).live
  taken k f w j = elim (cases_Bool (same_spot j (spot_of Pages))) [ inl y ↦ rw y refl | inr n ↦ rw n refl ]

  backed : (k : Place) (f w : ℕ) → Fits p st c (Back k f w) → (j : Spot) → touches p (Back k f w) j ≡ true → (kept_after st (Back k f w) j).live ≡ (kept_at st j).live
  backed k f w fit j h = elim (cases_Bool (same_spot j (spot_of Pages))) [
    | inl y ↦ rw y refl
    | inr n ↦
        let may = ((L.fits p st c).give_back k f w).0 fit in
        let at : j ≡ spot_of k = (L.spots j (spot_of k)).0 (or_elim (same_spot j (spot_of k)) (same_spot j (spot_of Pages) || false) (λ y. y) (λ y. absurd (false≢true (sym n ∙ or_elim (same_spot j (spot_of Pages)) false (λ z. z) (λ z. absurd (false≢true z)) y))) h) in
        let unused : list_all (λ b. blocks_apart b (bytes_of (run_at f w))) (kept_at st j).live ≡ true = ap (λ i. list_all (λ b. blocks_apart b (bytes_of (run_at f w))) (kept_at st i).live) at ∙ may.unused in
        rw n (all_kept (λ b. blocks_apart b (bytes_of (run_at f w))) (kept_at st j).live unused)
  ]

  -- a region that moves takes its live blocks along
  moved : (f : ℕ) (from to : Place) → same_spot (spot_of to) (spot_of from) ≡ false → is_nano from ≡ false → (x : Block) → Fits p st c (Move f from to) → is_live (then (Move f from to)) x ≡ is_live st x
  moved f from to far plain x fit =
      let e = Move f from to in
      let F = spot_of from in
      let T = spot_of to in
      let r = region_at (kept_at st F).runs f in
      let there = blocks_in (kept_at st F).live r in
      let at_T : touches p e T ≡ true = or_right (same_spot T F) (same_spot T T || false) (here T) in
      let left : (j : Spot) → same_spot j F ≡ true → has_block (kept_after st e j).live x ≡ (blocks_apart x (bytes_of r) && has_block (kept_at st j).live x) = λ j y. rw y (has_filtered (λ b. blocks_apart b (bytes_of r)) x (kept_at st j).live) in
      let come : (j : Spot) → same_spot j F ≡ false → has_block (kept_after st e j).live x ≡ (has_block there x || has_block (kept_at st j).live x) = λ j n. rw n (has_all_added x (kept_at st j).live there) in
      let in_there : has_block there x ≡ (lies_in r x.first (block_end x) && has_block (kept_at st F).live x) = has_filtered (λ b. lies_in r b.first (block_end b)) x (kept_at st F).live in
      -- the region is one of the place
      let runs_T : has_run (kept_at (then e) T).runs r ≡ true = ap (λ v. has_run v.kept.runs r) (L.touched p st c e T at_T) ∙ rw far (run_added r (kept_at st T).runs) in
      let long = (fit_t L p es c e ok fit).lengths T r runs_T in
      let is_there : has_run (kept_at st F).runs r ≡ true = elim (region_there (kept_at st F).runs f) [
        | inl h ↦ h
        | inr z ↦ absurd (false≢true (sym (no_length to) ∙ (ap (λ (w : Run). is_length_of (place_of T) w.pages) (sym z) ∙ long)))
      ] in
      same_bool (is_live (then e) x) (is_live st x)
      (now_cases L p es c e ok fit x
      (λ j y h. elim (cases_Bool (same_spot j F)) [
        | inl q ↦ was L p es c e ok fit x j ((and_parts (blocks_apart x (bytes_of r)) (has_block (kept_at st j).live x) (sym (left j q) ∙ h)).1)
        | inr q ↦ or_elim (has_block there x) (has_block (kept_at st j).live x)
            (λ u. was L p es c e ok fit x F ((and_parts (lies_in r x.first (block_end x)) (has_block (kept_at st F).live x) (sym in_there ∙ u)).1))
            (λ u. was L p es c e ok fit x j u) (sym (come j q) ∙ h)
      ])
      (λ j n h. was L p es c e ok fit x j h))
      (then_cases L p es c e ok fit x
      (λ j y h. elim (cases_Bool (same_spot j F)) [
        | inl q ↦ elim (cases_Bool (blocks_apart x (bytes_of r))) [
          | inl a ↦ be L p es c e ok fit x j y (left j q ∙ and_from _ _ a h)
          | inr a ↦
              let is_F : j ≡ F = (L.spots j F).0 q in
              let at_F : has_block (kept_at st F).live x ≡ true = ap (λ i. has_block (kept_at st i).live x) (sym is_F) ∙ h in
              let home = home_run p st from x plain ((sep_s L p es c e ok fit).at_home F x at_F) in
              let lies : lies_in r x.first (block_end x) ≡ true = elim ((sep_s L p es c e ok fit).runs_are_apart F F home.0 r home.1.0 is_there) [
                | inl z ↦ ap (λ (w : Run). lies_in w x.first (block_end x)) (sym z.1) ∙ home.1.1
                | inr z ↦ absurd (false≢true (sym a ∙ apart_runs x r home.0 home.1.1 z))
              ] in
              be L p es c e ok fit x T at_T (come T far ∙ or_left _ _ (in_there ∙ and_from _ _ lies at_F))
        ]
        | inr q ↦ be L p es c e ok fit x j y (come j q ∙ or_right (has_block there x) _ h)
      ])
      (λ j n h. stay L p es c e ok fit x j n h))

  pub live_after : (e : Event) (x : Block) → Fits p st c e → is_live (then e) x ≡ lives_after e x (is_live st x)
  live_after (New k a n al) x f = made k a n al x f
  live_after (End k a n) x f = gone k a n x f
  live_after (Size k a n m) x f = sized k a n m x f
  live_after (Take k g w) x f = unchanged L p es c (Take k g w) ok f (λ j y. taken k g w j) x
  live_after (Back k g w) x f = unchanged L p es c (Back k g w) ok f (backed k g w f) x
  live_after (Move g from to) x f = elim ((L.fits p st c).move_kind g from to f) [
    | inl h ↦
        let a = pair_apart from h.0 in
        moved g from to (ap (λ (q : Place). same_spot (spot_of q) (spot_of from)) h.1 ∙ a.1.0) a.1.1.0 x f
    | inr h ↦
        let a = pair_apart to h.0 in
        moved g from to (ap (λ (q : Place). same_spot (spot_of to) (spot_of q)) h.1 ∙ a.0) (ap is_nano h.1 ∙ a.1.1.1) x f
  ]
  live_after (Full k n al) x f = unchanged L p es c (Full k n al) ok f (λ j y. refl) x
  live_after (Dry z w al) x f = unchanged L p es c (Dry z w al) ok f (λ j y. refl) x
  live_after (No k z a n) x f = unchanged L p es c (No k z a n) ok f (λ j y. refl) x
  live_after (Open z) x f = unchanged L p es c (Open z) ok f (λ j y. refl) x
  live_after (Shut z) x f = unchanged L p es c (Shut z) ok f (λ j y. refl) x

  -- a new block was live nowhere, and so was one that a block becomes
  pub new_is_fresh : (k : Place) (a n al : ℕ) → Fits p st c (New k a n al) → is_live st (block_at a n) ≡ false
  new_is_fresh k a n al f = elim (cases_Bool (is_live st (block_at a n))) [
    | inl y ↦
        let e = New k a n al in
        let b = block_at a n in
        let i = spot_at k a in
        let there : has_block (kept_at (then e) i).live b ≡ true = ap (λ bs. has_block bs b) (live_in L p es c e ok f i (here i)) ∙ (has_added b b (kept_at st i).live ∙ or_left (same_block b b) (has_block (kept_at st i).live b) (same_refl b)) in
        absurd (then_cases L p es c e ok f b
        (λ j t h.
        let at = only i j t in
        let hi : has_block (kept_at st i).live b ≡ true = ap (λ q. has_block (kept_at st q).live b) (sym at) ∙ h in
        let apart : blocks_apart b b ≡ true = all_at (λ x. blocks_apart x b) (kept_at st i).live b ((((L.fits p st c).make k a n al).0 f).apart) (has_there (kept_at st i).live b hi) in
        apart_self b ((asc_s L p es c e ok f).sizes i b hi) apart)
        (λ j o h.
        let now : has_block (kept_at (then e) j).live b ≡ true = ap (λ bs. has_block bs b) (live_out L p es c e ok f j o) ∙ h in
        let at : j ≡ i = one_spot p (then e) j i b (sep_t L p es c e ok f) (asc_t L p es c e ok f) now there in
        false≢true (sym o ∙ (ap (touches p e) at ∙ here i)))
        y)
    | inr z ↦ z
  ]

  pub sized_is_fresh : (k : Place) (a n m : ℕ) → Fits p st c (Size k a n m) → same_block (block_at a m) (block_at a n) ≡ false → is_live st (block_at a m) ≡ false
  sized_is_fresh k a n m f other = elim (cases_Bool (is_live st (block_at a m))) [
    | inl y ↦
        let e = Size k a n m in
        let l = from_live L st (block_at a m) (once_s L p es c e ok f) y in
        let was_there = (((L.fits p st c).resize k a n m).0 f).live in
        let u = (asc_s L p es c e ok f).sizes l.0 (block_at a m) l.1 in
        let v = (asc_s L p es c e ok f).sizes (spot_at k a) (block_at a n) was_there in
        elim ((sep_s L p es c e ok f).blocks_are_apart l.0 (spot_at k a) (block_at a m) (block_at a n) l.1 was_there) [
          | inl q ↦ absurd (false≢true (sym other ∙ (ap (λ b. same_block b (block_at a n)) q.1 ∙ same_refl (block_at a n))))
          | inr q ↦ absurd (or_elim (nat_le (a + m) a) (nat_le (a + n) a) (λ w. grind (arith, nat_tests, w, u)) (λ w. grind (arith, nat_tests, w, v)) q)
        ]
    | inr z ↦ z
  ]
