-- What the laws of histories say of what is held.
use Rattle.std.proofs.Common.{◌≡◌, ℕ, ◌%◌, ◌≤◌, ◌==◌, true, false, refl, ap, sym, subst, ◌∙◌, arith, inl, inr, ◌⊎◌, ⊎_elim, None}
use Rattle.std.specs.Prelude.{◌&&◌, nat_le}
use Rattle.std.specs.List.{list_any, list_all}
use Rattle.std.proofs.lemmas.Bool.{false≢true, and_parts}
use Rattle.std.proofs.lemmas.Bool.Decides.{nat_tests}
use Rattle.mz_base.specs.declared.profile.Profile.{Profile}
use Rattle.mz_base.specs.Space.{Block, Run, block_end, blocks_apart, runs_apart, bytes_of, same_run}
use Rattle.mz_base.specs.Lists.{has_run, has_block}
use Rattle.mz_base.specs.Room.{lies_in, has_room, is_free, is_lowest_free}
use Rattle.mz_events.specs.declared.place.Place.{Place}
use Rattle.mz_events.specs.declared.place.Place.TheVariants.{Pages, Tiny, TinyDepot, Small, SmallDepot, Large, Nano}
use Rattle.mz_events.specs.Places.{is_magazine, is_depot, is_large, is_nano, is_length_of, quantum_of, depot_of, nano_start, Spot, same_spot, spot_of, place_of}
use Rattle.mz_events.specs.State.{State, opening, kept_at}
use Rattle.mz_events.specs.History.{AreLawful}
use Rattle.mz_events.specs.Separation.{LiesAtHome}
use Rattle.mz_events.specs.Room.{wide}
use Rattle.mz_events.specs.Changes.{region_at, without_run}
use Rattle.mz_events.specs.Duties.{empty_depot_region}
use Rattle.mz_events.specs.Rules.{is_lowest_with_room}
use Rattle.mz_book.specs.Account.{Account, state_of, known}
use Rattle.mz_rack.specs.BookLaws.{BookLaws}
use Rattle.mz_rack.specs.Asking.{IsTidy}
use Rattle.mz_rack.proofs.Listed.{any_weaker, is_same_run, all_runs, all_blocks, run_of_all, region_there, begins_at, block_apart, left_of_dropped, begins_and}
use Rattle.mz_rack.proofs.RoomLemmas.{still_used}

pub place_spot : (q : Place) → is_nano q ≡ false → place_of (spot_of q) ≡ q
place_spot Pages h = refl
place_spot (Tiny z m) h = refl
place_spot (TinyDepot z) h = refl
place_spot (Small z m) h = refl
place_spot (SmallDepot z) h = refl
place_spot (Large z) h = refl
place_spot Nano h = absurd (false≢true (sym h))

home_at : (p : Profile) (s : State) (q : Place) (b : Block) → is_nano q ≡ false → LiesAtHome p s (spot_of q) b → (r : Run) × (has_run (kept_at s (spot_of q)).runs r ≡ true) × (lies_in r b.first (block_end b) ≡ true)
home_at p s Pages b h y = y
home_at p s (Tiny z m) b h y = y
home_at p s (TinyDepot z) b h y = y
home_at p s (Small z m) b h y = y
home_at p s (SmallDepot z) b h y = y
home_at p s (Large z) b h y = y
home_at p s Nano b h y = absurd (false≢true (sym h))

pub quantum_of_depot : (q : Place) → is_magazine q ≡ true → quantum_of (depot_of q) ≡ quantum_of q
quantum_of_depot (Tiny z m) h = refl
quantum_of_depot (Small z m) h = refl
quantum_of_depot _ h = absurd (false≢true h)

pub some_length : (q : Place) (w : ℕ) → is_length_of q w ≡ true → 1 ≤ w
some_length (Tiny z m) w h = grind (arith, nat_tests, h)
some_length (TinyDepot z) w h = grind (arith, nat_tests, h)
some_length (Small z m) w h = grind (arith, nat_tests, h)
some_length (SmallDepot z) w h = grind (arith, nat_tests, h)
some_length (Large z) w h = grind (arith, nat_tests, h)
some_length _ w h = absurd (false≢true h)

not_apart_at : (r t : Run) → 1 ≤ r.pages → 1 ≤ t.pages → r.first ≡ t.first → runs_apart r t ≡ true → ⊥
not_apart_at r t a b e h = grind (arith, nat_tests, a, b, e, h)

module _ (L : BookLaws) (s : Account) (lawful : AreLawful s.profile opening s.seen) where
  -- the runs of a place
  pub tidy_of : (q : Place) → is_nano q ≡ false → is_large q ≡ false → IsTidy s.profile q (known s (spot_of q)).kept
  tidy_of q plain regions =
      let fit = L.runs_fit s.profile s.seen lawful in
      let at = place_spot q plain in
      record {
        runs = (L.ascending s.profile s.seen lawful).runs (spot_of q);
        lengths = λ r y. subst (λ x. is_length_of x r.pages ≡ true) at (fit.lengths (spot_of q) r y);
        aligned = λ r y. fit.aligned (spot_of q) r y (ap is_large at ∙ regions);
        sum = fit.of_place (spot_of q);
      }

  -- runs of two places are apart
  pub runs_of_two : (j k : Spot) (r : Run) → same_spot j k ≡ false → has_run (known s k).kept.runs r ≡ true → list_all (λ t. runs_apart t r) (known s j).kept.runs ≡ true
  runs_of_two j k r differ there =
      all_runs (λ t. runs_apart t r) (known s j).kept.runs
      (λ t y. ⊎_elim (λ (e : (j ≡ k) × (t ≡ r)). absurd (false≢true (sym differ ∙ (L.spots j k).1 e.0))) (λ (a : runs_apart t r ≡ true). a) ((L.separate s.profile s.seen lawful).runs_are_apart j k t r y there))

  -- so are a place's blocks from a run that is apart from its runs
  pub live_apart : (q : Place) (r : Run) → is_nano q ≡ false → list_all (λ t. runs_apart t r) (known s (spot_of q)).kept.runs ≡ true → list_all (λ b. blocks_apart b (bytes_of r)) (known s (spot_of q)).kept.live ≡ true
  live_apart q r plain apart =
      all_blocks (λ b. blocks_apart b (bytes_of r)) (known s (spot_of q)).kept.live
      (λ b y. let home = home_at s.profile (state_of s) q b plain ((L.separate s.profile s.seen lawful).at_home (spot_of q) b y) in
      block_apart home.0 r b home.2 (run_of_all (λ t. runs_apart t r) (known s (spot_of q)).kept.runs home.0 apart home.1))

  -- so is a free run from the runs of each spot
  pub free_apart : (j : Spot) (r : Run) (al : ℕ) → is_lowest_free (nano_start s.profile) (known s (spot_of Pages)).kept.taken r al ≡ true → list_all (λ t. runs_apart t r) (known s j).kept.runs ≡ true
  free_apart j r al low =
      let taken = (known s (spot_of Pages)).kept.taken in
      let free = (and_parts ((r.first % al == 0) && is_free (nano_start s.profile) taken r) _ low).0 in
      let apart = (and_parts (nat_le _ (nano_start s.profile)) (list_all (λ t. runs_apart t r) taken) (and_parts (r.first % al == 0) (is_free (nano_start s.profile) taken r) free).1).1 in
      all_runs (λ t. runs_apart t r) (known s j).kept.runs
      (λ t y. run_of_all (λ u. runs_apart u r) taken t apart (((L.separate s.profile s.seen lawful).taken t).1 (j, y)))

  -- a block of a place lies in a run of it, or is apart from it
  pub in_or_apart : (q : Place) (r : Run) → is_nano q ≡ false → has_run (known s (spot_of q)).kept.runs r ≡ true → (b : Block) → has_block (known s (spot_of q)).kept.live b ≡ true
      → (lies_in r b.first (block_end b) ≡ true) ⊎ (blocks_apart b (bytes_of r) ≡ true)
  in_or_apart q r plain there b y =
      let home = home_at s.profile (state_of s) q b plain ((L.separate s.profile s.seen lawful).at_home (spot_of q) b y) in
      ⊎_elim (λ (e : (spot_of q ≡ spot_of q) × (home.0 ≡ r)). inl (subst (λ (t : Run). lies_in t b.first (block_end b) ≡ true) e.1 home.2))
      (λ (a : runs_apart home.0 r ≡ true). inr (block_apart home.0 r b home.2 a))
      ((L.separate s.profile s.seen lawful).runs_are_apart (spot_of q) (spot_of q) home.0 r home.1 there)

  -- the lowest region with room is the one that begins at its page
  pub lowest_has_room : (q : Place) (f n al : ℕ) → is_nano q ≡ false → is_large q ≡ false → is_lowest_with_room (known s (spot_of q)).kept f (n, al) ≡ true
      → (has_run (known s (spot_of q)).kept.runs (region_at (known s (spot_of q)).kept.runs f) ≡ true) × (has_room (region_at (known s (spot_of q)).kept.runs f) (wide (known s (spot_of q)).kept) n al ≡ true)
  lowest_has_room q f n al plain regions low =
      let kept = (known s (spot_of q)).kept in
      let first = (and_parts (list_any (λ r. (r.first == f) && has_room r (wide kept) n al) kept.runs) _ low).0 in
      let begins = any_weaker (λ r. (r.first == f) && has_room r (wide kept) n al) (λ r. r.first == f) kept.runs (λ r y. (and_parts (r.first == f) _ y).0) first in
      let there = region_there kept.runs f begins in
      let found = begins_and (λ r. has_room r (wide kept) n al) f kept.runs first in
      let tidy = tidy_of q plain regions in
      let same : found.0 ≡ region_at kept.runs f = ⊎_elim (λ (e : (spot_of q ≡ spot_of q) × (found.0 ≡ region_at kept.runs f)). e.1)
      (λ (a : runs_apart found.0 (region_at kept.runs f) ≡ true). absurd (not_apart_at found.0 (region_at kept.runs f) (some_length q found.0.pages (tidy.lengths found.0 found.1)) (some_length q (region_at kept.runs f).pages (tidy.lengths (region_at kept.runs f) there)) (found.2 ∙ sym (begins_at kept.runs f begins)) a))
      ((L.separate s.profile s.seen lawful).runs_are_apart (spot_of q) (spot_of q) found.0 (region_at kept.runs f) found.1 there) in
      (there, subst (λ (t : Run). has_room t (wide kept) n al ≡ true) same found.3)

  -- a depot that owes nothing owes nothing without one of its regions
  pub depot_owes_nothing : (d : Place) (r : Run) → is_depot d ≡ true → (known s (spot_of d)).duty ≡ None → has_run (known s (spot_of d)).kept.runs r ≡ true → empty_depot_region d (without_run r (known s (spot_of d)).kept) ≡ None
  depot_owes_nothing d r depot calm there =
      let kept = (known s (spot_of d)).kept in
      still_used d kept r
      (λ t y. L.none_unused s.profile s.seen d t lawful depot calm (left_of_dropped r kept.runs t y).0)
      (λ t y. let left = left_of_dropped r kept.runs t y in
      ⊎_elim (λ (e : (spot_of d ≡ spot_of d) × (t ≡ r)). absurd (false≢true (sym left.1 ∙ ap (λ x. same_run r x) e.1 ∙ is_same_run r)))
      (λ (a : runs_apart t r ≡ true). a)
      ((L.separate s.profile s.seen lawful).runs_are_apart (spot_of d) (spot_of d) t r left.0 there))
