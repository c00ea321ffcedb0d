-- A depot at which no duty stands has a live block in each of its regions.
use Rattle.std.proofs.Common.{◌≡◌, ℕ, ◌+◌, ◌*◌, ◌<◌, ◌≤◌, ◌⊎◌, Bool, true, false, cond, not, List, [], ◌∷◌, length, refl, ap, sym, subst, ◌∙◌, inl, inr, arith, Some, None, suc}
use Rattle.std.specs.Prelude.{filter, fold, find, ◌||◌, ◌&&◌, ◌==◌}
use Rattle.std.specs.Option.{option_map}
use Rattle.std.proofs.lemmas.Bool.{false≢true, cases_Bool, and_parts, and_from, eqb-true, eq-eqb, cond-true, cond-false}
use Rattle.mz_base.specs.declared.range.TheConstants.{PAGE}
use Rattle.mz_base.specs.declared.profile.Profile.{Profile}
use Rattle.mz_base.specs.Space.{Block, Run, block_at, run_at, block_end, run_end, blocks_apart, bytes_of, same_block, same_run}
use Rattle.mz_base.specs.Room.{lies_in}
use Rattle.mz_base.specs.Lists.{has_run, add_block, drop_block, blocks_in}
use Rattle.mz_events.specs.declared.place.Place.{Place}
use Rattle.mz_events.specs.declared.place.Place.TheVariants.{Pages, Tiny, TinyDepot, Small, SmallDepot, Large, Nano}
use Rattle.mz_events.specs.declared.event.Event.{Event}
use Rattle.mz_events.specs.declared.event.Event.TheVariants.{Take, Back, Move, New, End, Size, Full, Dry, No, Open, Shut}
use Rattle.mz_events.specs.declared.entry.Entry.{Entry}
use Rattle.mz_events.specs.Places.{is_magazine, is_depot, is_large, is_nano, same_place, Spot, same_spot, spot_at, spot_of, place_of}
use Rattle.mz_events.specs.State.{Kept, Value, State, value_at, kept_at, look_up, opening}
use Rattle.mz_events.specs.Changes.{region_at, without_run, with_region, pages_with}
use Rattle.mz_events.specs.Duties.{is_that, allows, is_unused, empty_depot_region, duty_of_end}
use Rattle.mz_events.specs.Effect.{touches, value_after, kept_after, after}
use Rattle.mz_events.specs.Rules.{existing, keeps, Fits}
use Rattle.mz_events.specs.History.{AreLawful, after_all, after_entry}
use Rattle.mz_events.proofs.SpotLemmas.{same_spot-true, same_spot-refl}
use Rattle.mz_events.proofs.LocalityLemmas.{value_at-untouched, value_at-touched}
use Rattle.mz_events.proofs.InOrderLemmas.{IsIn, in_filter, filter_in, in_insert, insert_new, insert_old, order_some, order_pair}
use Rattle.mz_events.proofs.SoundLemmas.{same_block-is, same_run-self, Inside, inside_numbers, numbers_inside, numbers_apart, inside_apart, Home, place_of-spot, fold_old}
use Rattle.mz_events.proofs.FactLemmas.{one_spot, two_spots, pair_differ, fits_take, fits_back, fits_end, fits_size}
use Rattle.mz_events.proofs.SeparationLemmas.{IsApart, apart_after, apart_at_first, move_facts}
use Rattle.mz_events.proofs.Separation.{run_in}
use Rattle.mz_events.proofs.Cached.{is_duty, calm_before, allowed_at}

-- no live block lies in an unused region, and one does in any other
none_inside : (live : List Block) (r : Run) (b : Block) → is_unused live r ≡ true → IsIn b live → Inside r b → ⊥
none_inside live r b unused there inside = empty (blocks_in live r) unused (filter_in (λ x. lies_in r x.first (block_end x)) live b there (numbers_inside r b inside))
  where
    empty : (xs : List Block) → (length xs == 0) ≡ true → IsIn b xs → ⊥
    empty [] e there = there
    empty (x ∷ xs) e there = let z : suc (length xs) ≡ 0 = eqb-true (suc (length xs)) 0 e in omega arith

unused_from : (live : List Block) (r : Run) → ((b : Block) → IsIn b live → Inside r b → ⊥) → is_unused live r ≡ true
unused_from live r none = empty (blocks_in live r) (λ b there. let it = in_filter (λ x. lies_in r x.first (block_end x)) live b there in none b it.0 (inside_numbers r b it.1))
  where
    empty : (xs : List Block) → ((b : Block) → IsIn b xs → ⊥) → (length xs == 0) ≡ true
    empty [] f = refl
    empty (x ∷ xs) f = absurd (f x (inl refl))

some_inside : (live : List Block) (r : Run) → (is_unused live r ≡ true → ⊥) → (b : Block) × IsIn b live × Inside r b
some_inside live r used = first (blocks_in live r) (λ b there. let it = in_filter (λ x. lies_in r x.first (block_end x)) live b there in (it.0, inside_numbers r b it.1)) used
  where
    first : (xs : List Block) → ((b : Block) → IsIn b xs → IsIn b live × Inside r b) → ((length xs == 0) ≡ true → ⊥) → (b : Block) × IsIn b live × Inside r b
    first [] f g = absurd (g refl)
    first (x ∷ xs) f g = let it = f x (inl refl) in (x, it.0, it.1)

-- the only one that passes is found
find_only : (test : Run → Bool) (rs : List Run) (t : Run) → IsIn t rs → test t ≡ true → ((u : Run) → IsIn u rs → test u ≡ true → u ≡ t) → find test rs ≡ Some t
find_only test [] t there yes_ only = absurd there
find_only test (r ∷ rs) t there yes_ only = elim (cases_Bool (test r)) [
  | inl here ↦ cond-true (test r) (Some r) (find test rs) here ∙ ap (λ x. Some x) (only r (inl refl) here)
  | inr later ↦ elim there [
    | inl e ↦ absurd (false≢true (sym later ∙ ap test (sym e) ∙ yes_))
    | inr rest ↦ cond-false (test r) (Some r) (find test rs) later ∙ find_only test rs t rest yes_ (λ u in' pass. only u (inr in') pass)
  ]
]

-- each region has a live block
abbrev AreUsed : Kept → Type 0
AreUsed k = (t : Run) → IsIn t k.runs → is_unused k.live t ≡ true → ⊥

-- the one region without live blocks, where there is one, is owed
abbrev IsSettled : Place → Value → Type 0
IsSettled d v = (t : Run) → IsIn t v.kept.runs → is_unused v.kept.live t ≡ true → v.duty ≡ Some (Back d t.first t.pages)

used_calm : (d : Place) (v : Value) → v.duty ≡ None → IsSettled d v → AreUsed v.kept
used_calm d v calm settled t there unused = none_some (sym calm ∙ settled t there unused)
  where
    none_some : None ≡ Some (Back d t.first t.pages) → ⊥
    none_some e = cc

-- a block of a byte at least lies in one of two runs that are apart
in_one : (r t : Run) (b c : Block) → Inside r b → Inside t c → b.first ≡ c.first → 1 ≤ b.size → 1 ≤ c.size → (run_end r ≤ t.first) ⊎ (run_end t ≤ r.first) → ⊥
in_one r t b c h g at some also apart = elim (inside_apart r t b c h g apart) [ inl l ↦ omega (arith, l) | inr l ↦ omega (arith, l) ]

-- kinds of places that differ from a depot
no_taker : (k : Place) → is_depot k ≡ true → (is_magazine k || is_large k) ≡ true → ⊥
no_taker Pages d h = false≢true d
no_taker (Tiny z m) d h = false≢true d
no_taker (TinyDepot z) d h = false≢true h
no_taker (Small z m) d h = false≢true d
no_taker (SmallDepot z) d h = false≢true h
no_taker (Large z) d h = false≢true d
no_taker Nano d h = false≢true d

no_server : (k : Place) → is_depot k ≡ true → (is_magazine k || is_large k || is_nano k) ≡ true → ⊥
no_server Pages d h = false≢true d
no_server (Tiny z m) d h = false≢true d
no_server (TinyDepot z) d h = false≢true h
no_server (Small z m) d h = false≢true d
no_server (SmallDepot z) d h = false≢true h
no_server (Large z) d h = false≢true d
no_server Nano d h = false≢true d

duty_of_depot : (k : Place) (kept : Kept) → is_depot k ≡ true → duty_of_end k kept ≡ empty_depot_region k kept
duty_of_depot (TinyDepot z) kept d = refl
duty_of_depot (SmallDepot z) kept d = refl
duty_of_depot Pages kept d = absurd (false≢true d)
duty_of_depot (Tiny z m) kept d = absurd (false≢true d)
duty_of_depot (Small z m) kept d = absurd (false≢true d)
duty_of_depot (Large z) kept d = absurd (false≢true d)
duty_of_depot Nano kept d = absurd (false≢true d)

home_run : (p : Profile) (d : Place) → is_depot d ≡ true → (rs : List Run) (b : Block) → Home p (spot_of d) rs b → (r : Run) × IsIn r rs × Inside r b
home_run p (TinyDepot z) depot rs b home = home
home_run p (SmallDepot z) depot rs b home = home
home_run p Pages depot rs b home = absurd (false≢true depot)
home_run p (Tiny z m) depot rs b home = absurd (false≢true depot)
home_run p (Small z m) depot rs b home = absurd (false≢true depot)
home_run p (Large z) depot rs b home = absurd (false≢true depot)
home_run p Nano depot rs b home = absurd (false≢true depot)

not_pages : (d : Place) → is_depot d ≡ true → d ≡ Pages → ⊥
not_pages d h e = false≢true (subst (λ k. is_depot k ≡ true) e h)

module _ (p : Profile) (s : State) (c : ℕ) (h : IsApart p s) (d : Place) (depot : is_depot d ≡ true) where
  abbrev at : Spot
  at = spot_of d

  same_as : (k : Place) (a : ℕ) → at ≡ spot_at k a → d ≡ k
  same_as k a e = sym (place_of-spot d 0) ∙ ap place_of e ∙ place_of-spot k a

  used : (e : Event) → Fits p s c e → touches p e at ≡ true → is_duty e ≡ false → IsSettled d (value_at s at) → AreUsed (kept_at s at)
  used e fits t n settled = used_calm d (value_at s at) (calm_before (value_at s at).duty e n (allowed_at p s c e at fits t)) settled

  used_move : (f : ℕ) (from to : Place) → Fits p s c (Move f from to) → touches p (Move f from to) at ≡ true → IsSettled d (value_at s at) → AreUsed (kept_at s at)
  used_move f from to fits t settled u there unused = false≢true (subst (λ o. allows o (Move f from to) ≡ true) (settled u there unused) (allowed_at p s c (Move f from to) at fits t))

  -- where the runs and the live blocks stay, and all are used, they stay so
  still : (e : Event) → AreUsed (kept_at s at) → (kept_after s e at).runs ≡ (kept_at s at).runs → (kept_after s e at).live ≡ (kept_at s at).live → IsSettled d (value_after s c e at)
  still e all runs live t there unused = absurd (all t (subst (IsIn t) runs there) (subst (λ bs. is_unused bs t ≡ true) live unused))

  settled_back : (k : Place) (f w : ℕ) → Fits p s c (Back k f w) → touches p (Back k f w) at ≡ true → IsSettled d (value_at s at) → IsSettled d (value_after s c (Back k f w) at)
  settled_back k f w fits t settled u there unused =
      let e = Back k f w in
      let r = run_at f w in
      let facts = fits_back p s c k f w fits in
      let is : at ≡ spot_of k = elim (two_spots at (spot_of k) (spot_of Pages) t) [ inl i ↦ i | inr i ↦ absurd (not_pages d depot (same_as Pages 0 i)) ] in
      let other : same_spot at (spot_of Pages) ≡ false = elim (cases_Bool (same_spot at (spot_of Pages))) [ inl y ↦ absurd (not_pages d depot (same_as Pages 0 (same_spot-true at (spot_of Pages) y))) | inr n ↦ n ] in
      let kept : kept_after s e at ≡ without_run r (kept_at s at) = cond-false (same_spot at (spot_of Pages)) (pages_with k r (kept_at s at)) (without_run r (kept_at s at)) other in
      let in' = in_filter (λ x. not (same_run r x)) (kept_at s at).runs u (subst (λ (x : Kept). IsIn u x.runs) kept there) in
      let was : is_unused (kept_at s at).live u ≡ true = unused_from (kept_at s at).live u (λ b inside lies. none_inside (filter (λ x. blocks_apart x (bytes_of r)) (kept_at s at).live) u b (subst (λ (x : Kept). is_unused x.live u ≡ true) kept unused)
      (filter_in (λ x. blocks_apart x (bytes_of r)) (kept_at s at).live b inside (facts.unused b (subst (λ i. IsIn b (kept_at s i).live) is inside))) lies) in
      let allowed : is_that (Back d u.first u.pages) e ≡ true = subst (λ o. allows o e ≡ true) (settled u in'.0 was) (allowed_at p s c e at fits t) in
      let parts = and_parts (same_place d k && (u.first == f)) (u.pages == w) allowed in
      let first : f ≡ u.first = sym (eqb-true u.first f (and_parts (same_place d k) (u.first == f) parts.0).1) in
      let pages : w ≡ u.pages = sym (eqb-true u.pages w parts.1) in
      absurd (false≢true (sym (ap not (and_from (f == u.first) (w == u.pages) (eq-eqb f u.first first) (eq-eqb w u.pages pages))) ∙ in'.1))

  abbrev leaving : ℕ → Place → Run
  leaving f from = region_at (kept_at s (spot_of from)).runs f

  settled_from : (f : ℕ) (from to : Place) → Fits p s c (Move f from to) → touches p (Move f from to) at ≡ true → at ≡ spot_of from → IsSettled d (value_at s at) → IsSettled d (value_after s c (Move f from to) at)
  settled_from f from to fits t is settled u there unused =
      let r = leaving f from in
      let all = used_move f from to fits t settled in
      let facts = move_facts p s c h f from to fits in
      let same : same_spot at (spot_of from) ≡ true = subst (λ i. same_spot at i ≡ true) is (same_spot-refl at) in
      let kept : kept_after s (Move f from to) at ≡ without_run r (kept_at s at) = cond-true (same_spot at (spot_of from)) (without_run r (kept_at s at)) (with_region r (blocks_in (kept_at s (spot_of from)).live r) (kept_at s at)) same in
      let in' = in_filter (λ x. not (same_run r x)) (kept_at s at).runs u (subst (λ (x : Kept). IsIn u x.runs) kept there) in
      let r_there : IsIn r (kept_at s at).runs = subst (λ i. IsIn r (kept_at s i).runs) (sym is) facts.there in
      let beside : (run_end u ≤ r.first) ⊎ (run_end r ≤ u.first) = elim (order_pair (λ (x : Run). x.first) run_end (kept_at s at).runs u r (h.sound at).run_order in'.0 r_there) [
        | inl e ↦ absurd (false≢true (sym (ap not (subst (λ x. same_run r x ≡ true) (sym e) (same_run-self r))) ∙ in'.1))
        | inr b ↦ b
      ] in
      absurd (all u in'.0 (unused_from (kept_at s at).live u (λ b inside lies. none_inside (filter (λ x. blocks_apart x (bytes_of r)) (kept_at s at).live) u b (subst (λ (x : Kept). is_unused x.live u ≡ true) kept unused)
      (filter_in (λ x. blocks_apart x (bytes_of r)) (kept_at s at).live b inside (numbers_apart b (bytes_of r) (out_of u r b lies beside))) lies)))
    where
      out_of : (u r : Run) (b : Block) → Inside u b → (run_end u ≤ r.first) ⊎ (run_end r ≤ u.first) → (block_end b ≤ r.first * PAGE) ⊎ (r.first * PAGE + r.pages * PAGE ≤ b.first)
      out_of u r b lies (inl low) = inl (omega (arith, lies.1))
      out_of u r b lies (inr high) = inr (omega (arith, lies.0))

  settled_to : (f : ℕ) (from to : Place) → Fits p s c (Move f from to) → touches p (Move f from to) at ≡ true → at ≡ spot_of to → IsSettled d (value_at s at) → IsSettled d (value_after s c (Move f from to) at)
  settled_to f from to fits t is settled u there unused =
      let r = leaving f from in
      let ms = blocks_in (kept_at s (spot_of from)).live r in
      let all = used_move f from to fits t settled in
      let facts = move_facts p s c h f from to fits in
      let other : same_spot at (spot_of from) ≡ false = elim (cases_Bool (same_spot at (spot_of from))) [ inl y ↦ absurd (pair_differ from to facts.pair (sym (same_spot-true at (spot_of from) y) ∙ is)) | inr n ↦ n ] in
      let kept : kept_after s (Move f from to) at ≡ with_region r ms (kept_at s at) = cond-false (same_spot at (spot_of from)) (without_run r (kept_at s at)) (with_region r ms (kept_at s at)) other in
      let only : (x : Run) → IsIn x (kept_after s (Move f from to) at).runs → is_unused (kept_after s (Move f from to) at).live x ≡ true → x ≡ r = λ x in' un. elim (in_insert (λ (y : Run). y.first) r (kept_at s at).runs x (subst (λ (y : Kept). IsIn x y.runs) kept in')) [
        | inl e ↦ e
        | inr old ↦ absurd (all x old (unused_from (kept_at s at).live x (λ b inside lies. none_inside (fold (λ bs m. add_block m bs) (kept_at s at).live ms) x b (subst (λ (y : Kept). is_unused y.live x ≡ true) kept un) (fold_old p at ms (kept_at s at).live b inside) lies)))
      ] in
      let is_to : d ≡ to = same_as to 0 is in
      let found = find_only (is_unused (kept_after s (Move f from to) at).live) (kept_after s (Move f from to) at).runs u there unused (λ x in' un. only x in' un ∙ sym (only u there unused)) in
      let chosen : (is_depot to && same_spot at (spot_of to)) ≡ true = and_from (is_depot to) (same_spot at (spot_of to)) (subst (λ k. is_depot k ≡ true) is_to depot) (subst (λ i. same_spot at i ≡ true) is (same_spot-refl at)) in
      cond-true (is_depot to && same_spot at (spot_of to)) (empty_depot_region to (kept_after s (Move f from to) at)) (cond (is_depot from && same_spot at (spot_of from)) (empty_depot_region from (kept_after s (Move f from to) at)) None) chosen
      ∙ ap (option_map (λ (x : Run). Back to x.first x.pages)) found ∙ ap (λ k. Some (Back k u.first u.pages)) (sym is_to)

  -- a block that was in a region that has none afterwards
  settled_end : (k : Place) (a n : ℕ) → Fits p s c (End k a n) → touches p (End k a n) at ≡ true → IsSettled d (value_at s at) → IsSettled d (value_after s c (End k a n) at)
  settled_end k a n fits t settled u there unused =
      let b = block_at a n in
      let all = used (End k a n) fits t refl settled in
      let is : at ≡ spot_at k a = one_spot at (spot_at k a) t in
      let is_k : d ≡ k = same_as k a is in
      let b_there : IsIn b (kept_at s at).live = subst (λ i. IsIn b (kept_at s i).live) (sym is) (fits_end p s c k a n fits) in
      let some : b.first < block_end b = order_some (λ (x : Block). x.first) block_end (kept_at s at).live b (h.sound at).live_order b_there in
      let held : (x : Run) → IsIn x (kept_at s at).runs → is_unused (drop_block b (kept_at s at).live) x ≡ true → Inside x b = λ x in' un.
      let it = some_inside (kept_at s at).live x (all x in') in
      elim (cases_Bool (same_block b it.0)) [
        | inl y ↦ subst (Inside x) (sym (same_block-is b it.0 y)) it.2
        | inr m ↦ absurd (none_inside (drop_block b (kept_at s at).live) x it.0 un (filter_in (λ z. not (same_block b z)) (kept_at s at).live it.0 it.1 (ap not m)) it.2)
      ] in
      let found = find_only (is_unused (drop_block b (kept_at s at).live)) (kept_at s at).runs u there unused (λ x in' un. elim (order_pair (λ (z : Run). z.first) run_end (kept_at s at).runs x u (h.sound at).run_order in' there) [
        | inl e ↦ e
        | inr apart ↦ absurd (in_one x u b b (held x in' un) (held u there unused) refl (omega arith) (omega arith) apart)
      ]) in
      duty_of_depot k (kept_after s (End k a n) at) (subst (λ x. is_depot x ≡ true) is_k depot) ∙ ap (option_map (λ (x : Run). Back k x.first x.pages)) found ∙ ap (λ x. Some (Back x u.first u.pages)) (sym is_k)

  settled_size : (k : Place) (a n m : ℕ) → Fits p s c (Size k a n m) → touches p (Size k a n m) at ≡ true → IsSettled d (value_at s at) → IsSettled d (value_after s c (Size k a n m) at)
  settled_size k a n m fits t settled u there unused =
      let b = block_at a n in
      let e = block_at a m in
      let all = used (Size k a n m) fits t refl settled in
      let facts = fits_size p s c k a n m fits in
      let is : at ≡ spot_at k a = one_spot at (spot_at k a) t in
      let b_there : IsIn b (kept_at s at).live = subst (λ i. IsIn b (kept_at s i).live) (sym is) facts.there in
      let some : b.first < block_end b = order_some (λ (x : Block). x.first) block_end (kept_at s at).live b (h.sound at).live_order b_there in
      let home : Home p at (kept_at s at).runs e = subst (λ i. Home p i (kept_at s i).runs e) (sym is) facts.home in
      let it = some_inside (kept_at s at).live u (all u there) in
      let b_inside : Inside u b = elim (cases_Bool (same_block b it.0)) [
        | inl y ↦ subst (Inside u) (sym (same_block-is b it.0 y)) it.2
        | inr o ↦ absurd (none_inside (add_block e (drop_block b (kept_at s at).live)) u it.0 unused (insert_old (λ (z : Block). z.first) e (drop_block b (kept_at s at).live) it.0 (filter_in (λ z. not (same_block b z)) (kept_at s at).live it.0 it.1 (ap not o))) it.2)
      ] in
      let r = home_run p d depot (kept_at s at).runs e home in
      elim (order_pair (λ (z : Run). z.first) run_end (kept_at s at).runs r.0 u (h.sound at).run_order r.1 there) [
        | inl same ↦ absurd (none_inside (add_block e (drop_block b (kept_at s at).live)) u e unused (insert_new (λ (z : Block). z.first) e (drop_block b (kept_at s at).live)) (subst (λ x. Inside x e) same r.2))
        | inr apart ↦ absurd (in_one r.0 u e b r.2 b_inside refl facts.some (omega arith) apart)
      ]

  settled_touched : (e : Event) → Fits p s c e → touches p e at ≡ true → IsSettled d (value_at s at) → IsSettled d (value_after s c e at)
  unfolding keeps
  settled_touched (Take k f w) fits t settled = elim (two_spots at (spot_of k) (spot_of Pages) t) [
    | inl e ↦ absurd (no_taker k (subst (λ x. is_depot x ≡ true) (same_as k 0 e) depot) (fits_take p s c k f w fits).kind)
    | inr e ↦ absurd (not_pages d depot (same_as Pages 0 e))
  ]
  settled_touched (Back k f w) fits t settled = settled_back k f w fits t settled
  settled_touched (Move f from to) fits t settled = elim (two_spots at (spot_of from) (spot_of to) t) [
    | inl e ↦ settled_from f from to fits t e settled
    | inr e ↦ settled_to f from to fits t e settled
  ]
  settled_touched (New k a n al) fits t settled = absurd (no_server k (subst (λ x. is_depot x ≡ true) (same_as k a (one_spot at (spot_at k a) t)) depot) (and_parts _ _ (and_parts _ _ (fits existing)).1).0)
  settled_touched (End k a n) fits t settled = settled_end k a n fits t settled
  settled_touched (Size k a n m) fits t settled = settled_size k a n m fits t settled
  settled_touched (Full k n al) fits t settled = still (Full k n al) (used (Full k n al) fits t refl settled) refl refl
  settled_touched (Dry z w al) fits t settled = still (Dry z w al) (used (Dry z w al) fits t refl settled) refl refl
  settled_touched (No k z a n) fits t settled = still (No k z a n) (used (No k z a n) fits t refl settled) refl refl
  settled_touched (Open z) fits t settled = still (Open z) (used (Open z) fits t refl settled) refl refl
  settled_touched (Shut z) fits t settled = still (Shut z) (used (Shut z) fits t refl settled) refl refl

  settled_after : (e : Event) → Fits p s c e → IsSettled d (value_at s at) → IsSettled d (value_at (after p s c e) at)
  settled_after e fits settled = elim (cases_Bool (touches p e at)) [
    | inl t ↦ subst (IsSettled d) (sym (value_at-touched p s c e at t)) (settled_touched e fits t settled)
    | inr n ↦ subst (IsSettled d) (sym (value_at-untouched p s c e at n)) settled
  ]

settled_all : (p : Profile) (d : Place) → is_depot d ≡ true → (s : State) (es : List Entry) → AreLawful p s es → IsApart p s → IsSettled d (value_at s (spot_of d)) → IsSettled d (value_at (after_all p s es) (spot_of d))
unfolding AreLawful after_all
settled_all p d depot s [] lawful h settled = settled
settled_all p d depot s (e ∷ es) lawful h settled = settled_all p d depot (after_entry p s e) es lawful.1 (apart_after p s e.caller h e.event lawful.0.fits) (settled_after p s e.caller h d depot e.event lawful.0.fits settled)

settled_at_first : (d : Place) → IsSettled d (value_at opening (spot_of d))
unfolding look_up
settled_at_first d t there unused = absurd there

pub all_used : (p : Profile) (es : List Entry) (d : Place) (r : Run) → AreLawful p opening es → is_depot d ≡ true → (value_at (after_all p opening es) (spot_of d)).duty ≡ None → has_run (kept_at (after_all p opening es) (spot_of d)).runs r ≡ true → is_unused (kept_at (after_all p opening es) (spot_of d)).live r ≡ false
all_used p es d r lawful depot calm there =
    let settled = settled_all p d depot opening es lawful (apart_at_first p) (settled_at_first d) in
    elim (cases_Bool (is_unused (kept_at (after_all p opening es) (spot_of d)).live r)) [
      | inl yes_ ↦ absurd (used_calm d (value_at (after_all p opening es) (spot_of d)) calm settled r (run_in (kept_at (after_all p opening es) (spot_of d)).runs r there) yes_)
      | inr no_ ↦ no_
    ]
