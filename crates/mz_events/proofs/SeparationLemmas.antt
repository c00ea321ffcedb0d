-- That runs of all places are apart, and what each spot keeps is sound: it holds at first, and each event that fits keeps it.
use Rattle.std.proofs.Common.{◌≡◌, ℕ, ◌<◌, ◌⊎◌, Bool, true, false, cond, not, List, [], ◌∷◌, refl, ap, sym, subst, ◌∙◌, inl, inr, arith, Option, Some, None}
use Rattle.std.specs.Prelude.{length, nat_lt, find, ◌||◌, ◌&&◌, ◌==◌}
use Rattle.std.specs.List.{list_any}
use Rattle.std.specs.Option.{option_map}
use Rattle.std.proofs.lemmas.Bool.{false≢true, cases_Bool, or_left, or_right, false_from_ne_true, eq-eqb, cond-true, cond-false}
use Rattle.mz_base.specs.declared.profile.Profile.{Profile}
use Rattle.mz_base.specs.Space.{Block, Run, block_at, run_at, block_end, run_end, runs_apart, same_run}
use Rattle.mz_base.specs.Room.{lies_in}
use Rattle.mz_base.specs.Lists.{add_run, drop_run, blocks_in}
use Rattle.mz_events.specs.declared.place.Place.{Place}
use Rattle.mz_events.specs.declared.place.Place.TheVariants.{Pages, Tiny, TinyDepot, Small, SmallDepot, Large, Nano}
use Rattle.mz_events.specs.declared.event.Event.{Event}
use Rattle.mz_events.specs.declared.event.Event.TheVariants.{Take, Back, Move, New, End, Size, Full, Dry, No, Open, Shut}
use Rattle.mz_events.specs.declared.entry.Entry.{Entry}
use Rattle.mz_events.specs.Places.{is_magazine, is_depot, Spot, same_spot, spot_at, spot_of}
use Rattle.mz_events.specs.State.{Kept, Value, State, value_at, kept_at, look_up, opening}
use Rattle.mz_events.specs.Changes.{region_at, without_run, with_region, with_run, pages_with, pages_without}
use Rattle.mz_events.specs.Effect.{touched, touches, kept_after, after}
use Rattle.mz_events.specs.Duties.{is_in_excess, duty_after, duty_of_end, empty_depot_region, back_of_oldest, is_sparse, is_unused}
use Rattle.mz_events.specs.Rules.{Fits}
use Rattle.mz_events.specs.History.{AreLawful, after_all, after_entry}
use Rattle.mz_events.specs.Separation.{InOrder}
use Rattle.mz_events.proofs.SpotLemmas.{same_spot-true, same_spot-refl}
use Rattle.mz_events.proofs.LocalityLemmas.{value_at-untouched, value_at-touched}
use Rattle.mz_events.proofs.InOrderLemmas.{IsIn, in_filter, filter_in, in_insert, insert_new, insert_old, order_some, order_filter, order_insert}
use Rattle.mz_events.proofs.SoundLemmas.{same_run-is, same_run-self, run_numbers, numbers_run, inside_numbers, has_runs, IsSound, place_of-spot, sound_with_block, sound_without_block, sound_resized, sound_with_run, sound_without_run, sound_with_region}
use Rattle.mz_events.proofs.FactLemmas.{one_spot, two_spots, runs_of_taker, not_pages, pair_range, pair_differ, fits_take, fits_back, fits_end, fits_new, fits_size, MoveFacts, fits_move}

abbrev pub SoundKept : Profile → Spot → Kept → Type 0
SoundKept p j k = IsSound p j k.runs k.live k.last_freed

-- what holds of the runs and blocks of all spots
pub record IsApart (p : Profile) (s : State) : Type 0 where
  pub sound : (j : Spot) → SoundKept p j (kept_at s j)
  pub apart : (j k : Spot) (r t : Run) → IsIn r (kept_at s j).runs → IsIn t (kept_at s k).runs → ((j ≡ k) × (r ≡ t)) ⊎ (runs_apart r t ≡ true)
  pub taken_somewhere : (r : Run) → IsIn r (kept_at s (spot_of Pages)).taken → (j : Spot) × IsIn r (kept_at s j).runs
  pub all_taken : (j : Spot) (r : Run) → IsIn r (kept_at s j).runs → IsIn r (kept_at s (spot_of Pages)).taken
  pub taken_order : InOrder (λ r. r.first) run_end (kept_at s (spot_of Pages)).taken
  pub promised : (j : Spot) (f : ℕ) (x y : Place) → (value_at s j).duty ≡ Some (Move f x y) → list_any (λ r. r.first == f) (kept_at s j).runs ≡ true

pub apart_at_first : (p : Profile) → IsApart p opening
unfolding look_up
apart_at_first p = record {
  sound = λ j. record {
    run_order = tt;
    below = λ r h. absurd h;
    placed = λ r h. absurd h;
    live_order = tt;
    home = λ b h. absurd h;
    magazine = λ f h. absurd (cc);
    byte = λ f h. absurd (cc);
    lies = λ f h. absurd (cc);
    idle = λ f h b there. absurd there;
  };
  apart = λ j k r t h g. absurd h;
  taken_somewhere = λ r h. absurd h;
  all_taken = λ j r h. absurd h;
  taken_order = tt;
  promised = λ j f x y h. absurd (cc);
}

-- a run with a page isn't apart from itself
self_meets : (r : Run) → r.first < run_end r → runs_apart r r ≡ true → ⊥
self_meets r some h = elim (run_numbers r r h) [ inl l ↦ omega (arith, l) | inr l ↦ omega (arith, l) ]

apart_swap : (r t : Run) → runs_apart r t ≡ true → runs_apart t r ≡ true
apart_swap r t h = numbers_run t r (elim (run_numbers r t h) [ inl l ↦ inr l | inr l ↦ inl l ])

-- the event gives a place a run, or takes one from it
abbrev pub changes_runs : Event → Bool
changes_runs (Take k f w) = true
changes_runs (Back k f w) = true
changes_runs (Move f k l) = true
changes_runs (New k a n al) = false
changes_runs (End k a n) = false
changes_runs (Size k a n m) = false
changes_runs (Full k n al) = false
changes_runs (Dry z w al) = false
changes_runs (No k z a n) = false
changes_runs (Open z) = false
changes_runs (Shut z) = false

module _ (p : Profile) (s : State) (c : ℕ) (h : IsApart p s) where
  -- what a touched spot keeps is sound after each event
  abbrev SoundAfter : Event → Spot → Type 0
  SoundAfter e j = SoundKept p j (kept_after s e j)

  moved_region : Place → ℕ → Run
  moved_region from f = region_at (kept_at s (spot_of from)).runs f

  sound_touched : (e : Event) → Fits p s c e → (j : Spot) → touches p e j ≡ true → SoundAfter e j
  sound_touched (Take k f w) fits j t =
      let facts = fits_take p s c k f w fits in
      elim (cases_Bool (same_spot j (spot_of Pages))) [
        | inl yes_ ↦ subst (SoundKept p j) (sym (cond-true (same_spot j (spot_of Pages)) (pages_without k (run_at f w) (kept_at s j)) (with_run (run_at f w) (kept_at s j)) yes_)) (h.sound j)
        | inr no_ ↦
            let at : j ≡ spot_of k = elim (two_spots j (spot_of k) (spot_of Pages) t) [ inl e ↦ e | inr e ↦ absurd (false≢true (sym no_ ∙ subst (λ i. same_spot i (spot_of Pages) ≡ true) (sym e) (same_spot-refl (spot_of Pages)))) ] in
            subst (SoundKept p j) (sym (cond-false (same_spot j (spot_of Pages)) (pages_without k (run_at f w) (kept_at s j)) (with_run (run_at f w) (kept_at s j)) no_))
            (sound_with_run p j (kept_at s j).runs (kept_at s j).live (kept_at s j).last_freed (run_at f w) (h.sound j) facts.some (subst (λ i. has_runs i ≡ true) (sym at) (runs_of_taker k facts.kind)) facts.below (λ r there. facts.free r (h.all_taken j r there)))
      ]
  sound_touched (Back k f w) fits j t = elim (cases_Bool (same_spot j (spot_of Pages))) [
    | inl yes_ ↦ subst (SoundKept p j) (sym (cond-true (same_spot j (spot_of Pages)) (pages_with k (run_at f w) (kept_at s j)) (without_run (run_at f w) (kept_at s j)) yes_)) (h.sound j)
    | inr no_ ↦ subst (SoundKept p j) (sym (cond-false (same_spot j (spot_of Pages)) (pages_with k (run_at f w) (kept_at s j)) (without_run (run_at f w) (kept_at s j)) no_))
        (sound_without_run p j (kept_at s j).runs (kept_at s j).live (kept_at s j).last_freed (run_at f w) (h.sound j))
  ]
  sound_touched (Move f from to) fits j t =
      let facts = fits_move p s c f from to fits (λ x y owed. h.promised (spot_of from) f x y owed) in
      let r = region_at (kept_at s (spot_of from)).runs f in
      let ms = blocks_in (kept_at s (spot_of from)).live r in
      let some : r.first < run_end r = order_some (λ (x : Run). x.first) run_end (kept_at s (spot_of from)).runs r (h.sound (spot_of from)).run_order facts.there in
      elim (cases_Bool (same_spot j (spot_of from))) [
        | inl yes_ ↦ subst (SoundKept p j) (sym (cond-true (same_spot j (spot_of from)) (without_run r (kept_at s j)) (with_region r ms (kept_at s j)) yes_))
            (sound_without_run p j (kept_at s j).runs (kept_at s j).live (kept_at s j).last_freed r (h.sound j))
        | inr no_ ↦
            let at : j ≡ spot_of to = elim (two_spots j (spot_of from) (spot_of to) t) [ inl e ↦ absurd (false≢true (sym no_ ∙ subst (λ i. same_spot i (spot_of from) ≡ true) (sym e) (same_spot-refl (spot_of from)))) | inr e ↦ e ] in
            subst (SoundKept p j) (sym (cond-false (same_spot j (spot_of from)) (without_run r (kept_at s j)) (with_region r ms (kept_at s j)) no_))
            (sound_with_region p j (kept_at s j).runs (kept_at s j).live (kept_at s j).last_freed r ms (h.sound j) (omega arith)
            (subst (λ i. has_runs i ≡ true) (sym at) (pair_range from to facts.pair).3)
            ((h.sound (spot_of from)).below r facts.there)
            (λ u there. elim (h.apart j (spot_of from) u r there facts.there) [ inl e ↦ absurd (pair_differ from to facts.pair (sym e.0 ∙ at)) | inr apart ↦ apart ])
            (order_filter (λ (b : Block). b.first) block_end (λ b. lies_in r b.first (block_end b)) (kept_at s (spot_of from)).live (h.sound (spot_of from)).live_order)
            (λ m there. inside_numbers r m (in_filter (λ b. lies_in r b.first (block_end b)) (kept_at s (spot_of from)).live m there).1))
      ]
  sound_touched (New k a n al) fits j t =
      let at : j ≡ spot_at k a = one_spot j (spot_at k a) t in
      let facts = fits_new p s c k a n al fits in
      let here : SoundAfter (New k a n al) (spot_at k a) = sound_with_block p (spot_at k a) (kept_at s (spot_at k a)).runs (kept_at s (spot_at k a)).live (kept_at s (spot_at k a)).last_freed (block_at a n) (h.sound (spot_at k a)) facts.some facts.apart facts.home in
      subst (SoundAfter (New k a n al)) (sym at) here
  sound_touched (End k a n) fits j t =
      let at : j ≡ spot_at k a = one_spot j (spot_at k a) t in
      let here : SoundAfter (End k a n) (spot_at k a) = sound_without_block p (spot_at k a) (kept_at s (spot_at k a)).runs (kept_at s (spot_at k a)).live (kept_at s (spot_at k a)).last_freed (block_at a n) (is_magazine k) (h.sound (spot_at k a)) (fits_end p s c k a n fits) (λ m. ap is_magazine (place_of-spot k a) ∙ m) in
      subst (SoundAfter (End k a n)) (sym at) here
  sound_touched (Size k a n m) fits j t =
      let at : j ≡ spot_at k a = one_spot j (spot_at k a) t in
      let facts = fits_size p s c k a n m fits in
      let here : SoundAfter (Size k a n m) (spot_at k a) = sound_resized p (spot_at k a) (kept_at s (spot_at k a)).runs (kept_at s (spot_at k a)).live (kept_at s (spot_at k a)).last_freed (block_at a n) (block_at a m) (h.sound (spot_at k a)) facts.there refl facts.some facts.apart facts.home in
      subst (SoundAfter (Size k a n m)) (sym at) here
  sound_touched (Full k n al) fits j t = h.sound j
  sound_touched (Dry z w al) fits j t = h.sound j
  sound_touched (No k z a n) fits j t = h.sound j
  sound_touched (Open z) fits j t = h.sound j
  sound_touched (Shut z) fits j t = h.sound j

  pub sound_after : (e : Event) → Fits p s c e → (j : Spot) → SoundKept p j (kept_at (after p s c e) j)
  sound_after e fits j = elim (cases_Bool (touches p e j)) [
    | inl t ↦ subst (λ (v : Value). SoundKept p j v.kept) (sym (value_at-touched p s c e j t)) (sound_touched e fits j t)
    | inr n ↦ subst (λ (v : Value). SoundKept p j v.kept) (sym (value_at-untouched p s c e j n)) (h.sound j)
  ]

  -- events that change no runs
  pub record SameRuns (k l : Kept) : Type 0 where
    pub runs : k.runs ≡ l.runs
    pub taken : k.taken ≡ l.taken
    pub tiny : k.tiny_regions ≡ l.tiny_regions
    pub small : k.small_regions ≡ l.small_regions

  pub runs_same : (e : Event) → changes_runs e ≡ false → (j : Spot) → SameRuns (kept_after s e j) (kept_at s j)
  runs_same (Take k f w) n j = absurd (false≢true (sym n))
  runs_same (Back k f w) n j = absurd (false≢true (sym n))
  runs_same (Move f k l) n j = absurd (false≢true (sym n))
  runs_same (New k a m al) n j = record { runs = refl; taken = refl; tiny = refl; small = refl }
  runs_same (End k a m) n j = record { runs = refl; taken = refl; tiny = refl; small = refl }
  runs_same (Size k a m l) n j = record { runs = refl; taken = refl; tiny = refl; small = refl }
  runs_same (Full k m al) n j = record { runs = refl; taken = refl; tiny = refl; small = refl }
  runs_same (Dry z w al) n j = record { runs = refl; taken = refl; tiny = refl; small = refl }
  runs_same (No k z a m) n j = record { runs = refl; taken = refl; tiny = refl; small = refl }
  runs_same (Open z) n j = record { runs = refl; taken = refl; tiny = refl; small = refl }
  runs_same (Shut z) n j = record { runs = refl; taken = refl; tiny = refl; small = refl }

  pub runs_stay : (e : Event) → changes_runs e ≡ false → (j : Spot) → SameRuns (kept_at (after p s c e) j) (kept_at s j)
  runs_stay e n j = elim (cases_Bool (touches p e j)) [
    | inl t ↦ subst (λ (v : Value). SameRuns v.kept (kept_at s j)) (sym (value_at-touched p s c e j t)) (runs_same e n j)
    | inr u ↦ subst (λ (v : Value). SameRuns v.kept (kept_at s j)) (sym (value_at-untouched p s c e j u)) (record { runs = refl; taken = refl; tiny = refl; small = refl })
  ]

  -- a duty to move a region stands where the region is
  no_back : (d : Place) (o : Option Run) (f : ℕ) (x y : Place) → option_map (λ (r : Run). Back d r.first r.pages) o ≡ Some (Move f x y) → ⊥
  no_back d None f x y e = cc
  no_back d (Some r) f x y e = cc

  no_oldest : (d : Place) (rs : List Run) (f : ℕ) (x y : Place) → back_of_oldest d rs ≡ Some (Move f x y) → ⊥
  no_oldest d [] f x y e = cc
  no_oldest d (r ∷ rs) f x y e = cc

  found_begins : (m d : Place) (test : Run → Bool) (rs : List Run) (f : ℕ) (x y : Place) → option_map (λ (r : Run). Move r.first m d) (find test rs) ≡ Some (Move f x y) → list_any (λ (r : Run). r.first == f) rs ≡ true
  found_begins m d test [] f x y e = absurd (cc)
  found_begins m d test (r ∷ rs) f x y e = elim (cases_Bool (test r)) [
    | inl yes_ ↦
        let here : Some (Move r.first m d) ≡ Some (Move f x y) = sym (ap (option_map (λ (t : Run). Move t.first m d)) (cond-true (test r) (Some r) (find test rs) yes_)) ∙ e in
        let at : r.first ≡ f = cc in
        or_left (r.first == f) (list_any (λ (t : Run). t.first == f) rs) (eq-eqb r.first f at)
    | inr no_ ↦ or_right (r.first == f) (list_any (λ (t : Run). t.first == f) rs) (found_begins m d test rs f x y (sym (ap (option_map (λ (t : Run). Move t.first m d)) (cond-false (test r) (Some r) (find test rs) no_)) ∙ e))
  ]

  cond_some : (b : Bool) (o : Option Event) (e : Event) → cond b o None ≡ Some e → o ≡ Some e
  cond_some true o e h = h
  cond_some false o e h = absurd (cc)

  end_promised : (k : Place) (kept : Kept) (f : ℕ) (x y : Place) → duty_of_end k kept ≡ Some (Move f x y) → list_any (λ (r : Run). r.first == f) kept.runs ≡ true
  end_promised (Tiny z m) kept f x y e = found_begins (Tiny z m) (TinyDepot z) (is_sparse kept.live) kept.runs f x y (cond_some (is_in_excess kept) (option_map (λ (r : Run). Move r.first (Tiny z m) (TinyDepot z)) (find (is_sparse kept.live) kept.runs)) (Move f x y) e)
  end_promised (Small z m) kept f x y e = found_begins (Small z m) (SmallDepot z) (is_sparse kept.live) kept.runs f x y (cond_some (is_in_excess kept) (option_map (λ (r : Run). Move r.first (Small z m) (SmallDepot z)) (find (is_sparse kept.live) kept.runs)) (Move f x y) e)
  end_promised (TinyDepot z) kept f x y e = absurd (no_back (TinyDepot z) (find (is_unused kept.live) kept.runs) f x y e)
  end_promised (SmallDepot z) kept f x y e = absurd (no_back (SmallDepot z) (find (is_unused kept.live) kept.runs) f x y e)
  end_promised (Large z) kept f x y e = absurd (no_oldest (Large z) kept.cached f x y (cond_some (nat_lt 16 (length kept.cached)) (back_of_oldest (Large z) kept.cached) (Move f x y) e))
  end_promised Pages kept f x y e = absurd (cc)
  end_promised Nano kept f x y e = absurd (cc)

  move_promised : (b d : Bool) (from to : Place) (kept : Kept) (f : ℕ) (x y : Place) → cond b (empty_depot_region to kept) (cond d (empty_depot_region from kept) None) ≡ Some (Move f x y) → ⊥
  move_promised true d from to kept f x y e = no_back to (find (is_unused kept.live) kept.runs) f x y e
  move_promised false true from to kept f x y e = no_back from (find (is_unused kept.live) kept.runs) f x y e
  move_promised false false from to kept f x y e = cc

  promised_touched : (e : Event) (j : Spot) (f : ℕ) (x y : Place) → duty_after s e j (kept_after s e j) ≡ Some (Move f x y) → list_any (λ (r : Run). r.first == f) (kept_after s e j).runs ≡ true
  promised_touched (Take k g w) j f x y e = absurd (cc)
  promised_touched (Back k g w) j f x y e = absurd (cc)
  promised_touched (Move g from to) j f x y e = absurd (move_promised (is_depot to && same_spot j (spot_of to)) (is_depot from && same_spot j (spot_of from)) from to (kept_after s (Move g from to) j) f x y e)
  promised_touched (New k a n al) j f x y e = absurd (cc)
  promised_touched (End k a n) j f x y e = end_promised k (kept_after s (End k a n) j) f x y e
  promised_touched (Size k a n m) j f x y e = absurd (cc)
  promised_touched (Full k n al) j f x y e = absurd (cc)
  promised_touched (Dry z w al) j f x y e = absurd (no_oldest (Large z) (kept_at s (spot_of (Large z))).cached f x y e)
  promised_touched (No k z a n) j f x y e = absurd (cc)
  promised_touched (Open z) j f x y e = absurd (cc)
  promised_touched (Shut z) j f x y e = absurd (cc)

  abbrev Promises : Value → Type 0
  Promises v = (f : ℕ) (x y : Place) → v.duty ≡ Some (Move f x y) → list_any (λ r. r.first == f) v.kept.runs ≡ true

  promised_after : (e : Event) (j : Spot) → Promises (value_at (after p s c e) j)
  promised_after e j = elim (cases_Bool (touches p e j)) [
    | inl t ↦ subst Promises (sym (value_at-touched p s c e j t)) (λ f x y owed. promised_touched e j f x y owed)
    | inr u ↦ subst Promises (sym (value_at-untouched p s c e j u)) (λ f x y owed. h.promised j f x y owed)
  ]

  apart_stays : (e : Event) → changes_runs e ≡ false → Fits p s c e → IsApart p (after p s c e)
  apart_stays e n fits =
      let to_old : (j : Spot) (r : Run) → IsIn r (kept_at (after p s c e) j).runs → IsIn r (kept_at s j).runs = λ j r there. subst (λ rs. IsIn r rs) (runs_stay e n j).runs there in
      let to_new : (j : Spot) (r : Run) → IsIn r (kept_at s j).runs → IsIn r (kept_at (after p s c e) j).runs = λ j r there. subst (λ rs. IsIn r rs) (sym (runs_stay e n j).runs) there in
      record {
        sound = λ j. sound_after e fits j;
        apart = λ j k r t there other. h.apart j k r t (to_old j r there) (to_old k t other);
        taken_somewhere = λ r there. let it = h.taken_somewhere r (subst (λ rs. IsIn r rs) (runs_stay e n (spot_of Pages)).taken there) in (it.0, to_new it.0 r it.1);
        all_taken = λ j r there. subst (λ rs. IsIn r rs) (sym (runs_stay e n (spot_of Pages)).taken) (h.all_taken j r (to_old j r there));
        taken_order = subst (InOrder (λ (r : Run). r.first) run_end) (sym (runs_stay e n (spot_of Pages)).taken) h.taken_order;
        promised = λ j f x y owed. promised_after e j f x y owed;
      }

  touched_two : (e : Event) (a b : Spot) → touched p e ≡ a ∷ b ∷ [] → (j : Spot) → (j ≡ a) ⊎ ((j ≡ b) ⊎ (value_at (after p s c e) j ≡ value_at s j))
  touched_two e a b is j = elim (cases_Bool (touches p e j)) [
    | inl t ↦ elim (two_spots j a b (subst (λ js. list_any (same_spot j) js ≡ true) is t)) [ inl x ↦ inl x | inr y ↦ inr (inl y) ]
    | inr n ↦ inr (inr (value_at-untouched p s c e j n))
  ]

  -- TAKE
  module _ (k : Place) (f w : ℕ) (fits : Fits p s c (Take k f w)) where
    abbrev taking : State
    taking = after p s c (Take k f w)

    pub take_at : kept_at taking (spot_of k) ≡ with_run (run_at f w) (kept_at s (spot_of k))
    take_at =
        let facts = fits_take p s c k f w fits in
        let other : same_spot (spot_of k) (spot_of Pages) ≡ false = false_from_ne_true (same_spot (spot_of k) (spot_of Pages)) (λ same. not_pages (spot_of k) (runs_of_taker k facts.kind) (same_spot-true (spot_of k) (spot_of Pages) same)) in
        ap (λ (v : Value). v.kept) (value_at-touched p s c (Take k f w) (spot_of k) (or_left (same_spot (spot_of k) (spot_of k)) (same_spot (spot_of k) (spot_of Pages) || false) (same_spot-refl (spot_of k))))
        ∙ cond-false (same_spot (spot_of k) (spot_of Pages)) (pages_without k (run_at f w) (kept_at s (spot_of k))) (with_run (run_at f w) (kept_at s (spot_of k))) other

    pub take_at_pages : kept_at taking (spot_of Pages) ≡ pages_without k (run_at f w) (kept_at s (spot_of Pages))
    take_at_pages = ap (λ (v : Value). v.kept) (value_at-touched p s c (Take k f w) (spot_of Pages) (or_right (same_spot (spot_of Pages) (spot_of k)) true refl))

    take_old : (j : Spot) (u : Run) → IsIn u (kept_at s j).runs → IsIn u (kept_at taking j).runs
    take_old j u there = elim (touched_two (Take k f w) (spot_of k) (spot_of Pages) refl j) [
      | inl at ↦ subst (λ i. IsIn u (kept_at taking i).runs) (sym at) (subst (λ (x : Kept). IsIn u x.runs) (sym take_at) (insert_old (λ (x : Run). x.first) (run_at f w) (kept_at s (spot_of k)).runs u (subst (λ i. IsIn u (kept_at s i).runs) at there)))
      | inr rest ↦ elim rest [
        | inl at ↦ subst (λ i. IsIn u (kept_at taking i).runs) (sym at) (subst (λ (x : Kept). IsIn u x.runs) (sym take_at_pages) (subst (λ i. IsIn u (kept_at s i).runs) at there))
        | inr same ↦ subst (λ (v : Value). IsIn u v.kept.runs) (sym same) there
      ]
    ]

    take_new : IsIn (run_at f w) (kept_at taking (spot_of k)).runs
    take_new = subst (λ (x : Kept). IsIn (run_at f w) x.runs) (sym take_at) (insert_new (λ (x : Run). x.first) (run_at f w) (kept_at s (spot_of k)).runs)

    pub take_cases : (j : Spot) (u : Run) → IsIn u (kept_at taking j).runs → IsIn u (kept_at s j).runs ⊎ ((j ≡ spot_of k) × (u ≡ run_at f w))
    take_cases j u there = elim (touched_two (Take k f w) (spot_of k) (spot_of Pages) refl j) [
      | inl at ↦ elim (in_insert (λ (x : Run). x.first) (run_at f w) (kept_at s (spot_of k)).runs u (subst (λ (x : Kept). IsIn u x.runs) take_at (subst (λ i. IsIn u (kept_at taking i).runs) at there))) [
        | inl new ↦ inr (at, new)
        | inr old ↦ inl (subst (λ i. IsIn u (kept_at s i).runs) (sym at) old)
      ]
      | inr rest ↦ elim rest [
        | inl at ↦ inl (subst (λ i. IsIn u (kept_at s i).runs) (sym at) (subst (λ (x : Kept). IsIn u x.runs) take_at_pages (subst (λ i. IsIn u (kept_at taking i).runs) at there)))
        | inr same ↦ inl (subst (λ (v : Value). IsIn u v.kept.runs) same there)
      ]
    ]

    take_apart : IsApart p taking
    take_apart =
        let facts = fits_take p s c k f w fits in
        record {
          sound = λ j. sound_after (Take k f w) fits j;
          apart = λ j i r t there other. elim (take_cases j r there) [
            | inl old ↦ elim (take_cases i t other) [
              | inl also ↦ h.apart j i r t old also
              | inr new ↦ inr (subst (λ x. runs_apart r x ≡ true) (sym new.1) (facts.free r (h.all_taken j r old)))
            ]
            | inr new ↦ elim (take_cases i t other) [
              | inl old ↦ inr (apart_swap t r (subst (λ x. runs_apart t x ≡ true) (sym new.1) (facts.free t (h.all_taken i t old))))
              | inr also ↦ inl (new.0 ∙ sym also.0, new.1 ∙ sym also.1)
            ]
          ];
          taken_somewhere = λ r there. elim (in_insert (λ (x : Run). x.first) (run_at f w) (kept_at s (spot_of Pages)).taken r (subst (λ (x : Kept). IsIn r x.taken) take_at_pages there)) [
            | inl new ↦ (spot_of k, subst (λ x. IsIn x (kept_at taking (spot_of k)).runs) (sym new) take_new)
            | inr old ↦ let it = h.taken_somewhere r old in (it.0, take_old it.0 r it.1)
          ];
          all_taken = λ j r there. subst (λ (x : Kept). IsIn r x.taken) (sym take_at_pages) (elim (take_cases j r there) [
            | inl old ↦ insert_old (λ (x : Run). x.first) (run_at f w) (kept_at s (spot_of Pages)).taken r (h.all_taken j r old)
            | inr new ↦ subst (λ x. IsIn x (add_run (run_at f w) (kept_at s (spot_of Pages)).taken)) (sym new.1) (insert_new (λ (x : Run). x.first) (run_at f w) (kept_at s (spot_of Pages)).taken)
          ]);
          taken_order = subst (λ (x : Kept). InOrder (λ r. r.first) run_end x.taken) (sym take_at_pages) (order_insert (λ (r : Run). r.first) run_end (run_at f w) (kept_at s (spot_of Pages)).taken (let some = facts.some in omega arith) (λ t there. run_numbers t (run_at f w) (facts.free t there)) h.taken_order);
          promised = λ j g x y owed. promised_after (Take k f w) j g x y owed;
        }

  -- a run that is in a place is in no other, and only once
  only_here : (j i : Spot) (r : Run) → IsIn r (kept_at s j).runs → IsIn r (kept_at s i).runs → j ≡ i
  only_here j i r there other = elim (h.apart j i r r there other) [
    | inl same ↦ same.0
    | inr apart ↦ absurd (self_meets r (order_some (λ (x : Run). x.first) run_end (kept_at s j).runs r (h.sound j).run_order there) apart)
  ]

  dropped : (r : Run) (rs : List Run) (u : Run) → IsIn u (drop_run r rs) → IsIn u rs × (u ≡ r → ⊥)
  dropped r rs u there =
      let it = in_filter (λ x. not (same_run r x)) rs u there in
      (it.0, λ e. false≢true (sym (ap not (subst (λ x. same_run r x ≡ true) (sym e) (same_run-self r))) ∙ it.1))

  stays_in : (r : Run) (rs : List Run) (u : Run) → IsIn u rs → (u ≡ r → ⊥) → IsIn u (drop_run r rs)
  stays_in r rs u there other = filter_in (λ x. not (same_run r x)) rs u there (ap not (false_from_ne_true (same_run r u) (λ same. other (sym (same_run-is r u same)))))

  is_run : (r u : Run) → (u ≡ r) ⊎ (u ≡ r → ⊥)
  is_run r u = elim (cases_Bool (same_run r u)) [
    | inl yes_ ↦ inl (sym (same_run-is r u yes_))
    | inr no_ ↦ inr (λ e. false≢true (sym no_ ∙ subst (λ x. same_run r x ≡ true) (sym e) (same_run-self r)))
  ]

  -- BACK
  module _ (k : Place) (f w : ℕ) (fits : Fits p s c (Back k f w)) where
    abbrev giving : State
    giving = after p s c (Back k f w)

    pub back_at : kept_at giving (spot_of k) ≡ without_run (run_at f w) (kept_at s (spot_of k))
    back_at =
        let facts = fits_back p s c k f w fits in
        let other : same_spot (spot_of k) (spot_of Pages) ≡ false = false_from_ne_true (same_spot (spot_of k) (spot_of Pages)) (λ same. not_pages (spot_of k) facts.kind (same_spot-true (spot_of k) (spot_of Pages) same)) in
        ap (λ (v : Value). v.kept) (value_at-touched p s c (Back k f w) (spot_of k) (or_left (same_spot (spot_of k) (spot_of k)) (same_spot (spot_of k) (spot_of Pages) || false) (same_spot-refl (spot_of k))))
        ∙ cond-false (same_spot (spot_of k) (spot_of Pages)) (pages_with k (run_at f w) (kept_at s (spot_of k))) (without_run (run_at f w) (kept_at s (spot_of k))) other

    pub back_at_pages : kept_at giving (spot_of Pages) ≡ pages_with k (run_at f w) (kept_at s (spot_of Pages))
    back_at_pages = ap (λ (v : Value). v.kept) (value_at-touched p s c (Back k f w) (spot_of Pages) (or_right (same_spot (spot_of Pages) (spot_of k)) true refl))

    back_other : (j : Spot) (u : Run) → IsIn u (kept_at s j).runs → (u ≡ run_at f w → ⊥) → IsIn u (kept_at giving j).runs
    back_other j u there other = elim (touched_two (Back k f w) (spot_of k) (spot_of Pages) refl j) [
      | inl at ↦ subst (λ i. IsIn u (kept_at giving i).runs) (sym at) (subst (λ (x : Kept). IsIn u x.runs) (sym back_at) (stays_in (run_at f w) (kept_at s (spot_of k)).runs u (subst (λ i. IsIn u (kept_at s i).runs) at there) other))
      | inr rest ↦ elim rest [
        | inl at ↦ subst (λ i. IsIn u (kept_at giving i).runs) (sym at) (subst (λ (x : Kept). IsIn u x.runs) (sym back_at_pages) (subst (λ i. IsIn u (kept_at s i).runs) at there))
        | inr same ↦ subst (λ (v : Value). IsIn u v.kept.runs) (sym same) there
      ]
    ]

    pub back_was : (j : Spot) (u : Run) → IsIn u (kept_at giving j).runs → IsIn u (kept_at s j).runs × (j ≡ spot_of k → u ≡ run_at f w → ⊥)
    back_was j u there =
        let in_k : j ≡ spot_of k → IsIn u (kept_at s (spot_of k)).runs × (u ≡ run_at f w → ⊥) = λ at. dropped (run_at f w) (kept_at s (spot_of k)).runs u (subst (λ (x : Kept). IsIn u x.runs) back_at (subst (λ i. IsIn u (kept_at giving i).runs) at there)) in (
          elim (touched_two (Back k f w) (spot_of k) (spot_of Pages) refl j) [
            | inl at ↦ subst (λ i. IsIn u (kept_at s i).runs) (sym at) (in_k at).0
            | inr rest ↦ elim rest [
              | inl at ↦ subst (λ i. IsIn u (kept_at s i).runs) (sym at) (subst (λ (x : Kept). IsIn u x.runs) back_at_pages (subst (λ i. IsIn u (kept_at giving i).runs) at there))
              | inr same ↦ subst (λ (v : Value). IsIn u v.kept.runs) same there
            ]
          ],
          λ at. (in_k at).1,
        )

    back_apart : IsApart p giving
    back_apart =
        let facts = fits_back p s c k f w fits in
        record {
          sound = λ j. sound_after (Back k f w) fits j;
          apart = λ j i r t there other. h.apart j i r t (back_was j r there).0 (back_was i t other).0;
          taken_somewhere = λ r there.
              let old = dropped (run_at f w) (kept_at s (spot_of Pages)).taken r (subst (λ (x : Kept). IsIn r x.taken) back_at_pages there) in
              let it = h.taken_somewhere r old.0 in
              (it.0, back_other it.0 r it.1 old.1);
          all_taken = λ j r there.
              let was = back_was j r there in
              subst (λ (x : Kept). IsIn r x.taken) (sym back_at_pages) (stays_in (run_at f w) (kept_at s (spot_of Pages)).taken r (h.all_taken j r was.0)
              (λ e. was.1 (only_here j (spot_of k) r was.0 (subst (λ x. IsIn x (kept_at s (spot_of k)).runs) (sym e) facts.there)) e));
          taken_order = subst (λ (x : Kept). InOrder (λ r. r.first) run_end x.taken) (sym back_at_pages) (order_filter (λ (r : Run). r.first) run_end (λ t. not (same_run (run_at f w) t)) (kept_at s (spot_of Pages)).taken h.taken_order);
          promised = λ j g x y owed. promised_after (Back k f w) j g x y owed;
        }

  -- MOVE
  module _ (f : ℕ) (from to : Place) (fits : Fits p s c (Move f from to)) where
    abbrev moving : State
    moving = after p s c (Move f from to)

    abbrev region : Run
    region = region_at (kept_at s (spot_of from)).runs f

    pub move_facts : MoveFacts p s c f from to
    move_facts = fits_move p s c f from to fits (λ x y owed. h.promised (spot_of from) f x y owed)

    pub move_from : kept_at moving (spot_of from) ≡ without_run region (kept_at s (spot_of from))
    move_from =
        ap (λ (v : Value). v.kept) (value_at-touched p s c (Move f from to) (spot_of from) (or_left (same_spot (spot_of from) (spot_of from)) (same_spot (spot_of from) (spot_of to) || false) (same_spot-refl (spot_of from))))
        ∙ cond-true (same_spot (spot_of from) (spot_of from)) (without_run region (kept_at s (spot_of from))) (with_region region (blocks_in (kept_at s (spot_of from)).live region) (kept_at s (spot_of from))) (same_spot-refl (spot_of from))

    pub move_to : kept_at moving (spot_of to) ≡ with_region region (blocks_in (kept_at s (spot_of from)).live region) (kept_at s (spot_of to))
    move_to =
        let other : same_spot (spot_of to) (spot_of from) ≡ false = false_from_ne_true (same_spot (spot_of to) (spot_of from)) (λ same. pair_differ from to move_facts.pair (sym (same_spot-true (spot_of to) (spot_of from) same))) in
        ap (λ (v : Value). v.kept) (value_at-touched p s c (Move f from to) (spot_of to) (or_right (same_spot (spot_of to) (spot_of from)) (same_spot (spot_of to) (spot_of to) || false) (or_left (same_spot (spot_of to) (spot_of to)) false (same_spot-refl (spot_of to)))))
        ∙ cond-false (same_spot (spot_of to) (spot_of from)) (without_run region (kept_at s (spot_of to))) (with_region region (blocks_in (kept_at s (spot_of from)).live region) (kept_at s (spot_of to))) other

    pub move_pages : kept_at moving (spot_of Pages) ≡ kept_at s (spot_of Pages)
    move_pages =
        let range = pair_range from to move_facts.pair in
        elim (touched_two (Move f from to) (spot_of from) (spot_of to) refl (spot_of Pages)) [
          | inl at ↦ absurd (not_pages (spot_of from) range.2 (sym at))
          | inr rest ↦ elim rest [ inl at ↦ absurd (not_pages (spot_of to) range.3 (sym at)) | inr same ↦ ap (λ (v : Value). v.kept) same ]
        ]

    move_new : IsIn region (kept_at moving (spot_of to)).runs
    move_new = subst (λ (x : Kept). IsIn region x.runs) (sym move_to) (insert_new (λ (x : Run). x.first) region (kept_at s (spot_of to)).runs)

    move_other : (j : Spot) (u : Run) → IsIn u (kept_at s j).runs → (u ≡ region → ⊥) → IsIn u (kept_at moving j).runs
    move_other j u there other = elim (touched_two (Move f from to) (spot_of from) (spot_of to) refl j) [
      | inl at ↦ subst (λ i. IsIn u (kept_at moving i).runs) (sym at) (subst (λ (x : Kept). IsIn u x.runs) (sym move_from) (stays_in region (kept_at s (spot_of from)).runs u (subst (λ i. IsIn u (kept_at s i).runs) at there) other))
      | inr rest ↦ elim rest [
        | inl at ↦ subst (λ i. IsIn u (kept_at moving i).runs) (sym at) (subst (λ (x : Kept). IsIn u x.runs) (sym move_to) (insert_old (λ (x : Run). x.first) region (kept_at s (spot_of to)).runs u (subst (λ i. IsIn u (kept_at s i).runs) at there)))
        | inr same ↦ subst (λ (v : Value). IsIn u v.kept.runs) (sym same) there
      ]
    ]

    pub move_was : (j : Spot) (u : Run) → IsIn u (kept_at moving j).runs → (IsIn u (kept_at s j).runs × (j ≡ spot_of from → u ≡ region → ⊥)) ⊎ ((j ≡ spot_of to) × (u ≡ region))
    move_was j u there =
        let in_from : j ≡ spot_of from → IsIn u (kept_at s (spot_of from)).runs × (u ≡ region → ⊥) = λ at. dropped region (kept_at s (spot_of from)).runs u (subst (λ (x : Kept). IsIn u x.runs) move_from (subst (λ i. IsIn u (kept_at moving i).runs) at there)) in
        elim (touched_two (Move f from to) (spot_of from) (spot_of to) refl j) [
          | inl at ↦ inl (subst (λ i. IsIn u (kept_at s i).runs) (sym at) (in_from at).0, λ g. (in_from g).1)
          | inr rest ↦ elim rest [
            | inl at ↦ elim (in_insert (λ (x : Run). x.first) region (kept_at s (spot_of to)).runs u (subst (λ (x : Kept). IsIn u x.runs) move_to (subst (λ i. IsIn u (kept_at moving i).runs) at there))) [
              | inl new ↦ inr (at, new)
              | inr old ↦ inl (subst (λ i. IsIn u (kept_at s i).runs) (sym at) old, λ g. (in_from g).1)
            ]
            | inr same ↦ inl (subst (λ (v : Value). IsIn u v.kept.runs) same there, λ g. (in_from g).1)
          ]
        ]

    move_beside : (j : Spot) (u : Run) → IsIn u (kept_at s j).runs × (j ≡ spot_of from → u ≡ region → ⊥) → runs_apart u region ≡ true
    move_beside j u was = elim (h.apart j (spot_of from) u region was.0 move_facts.there) [
      | inl same ↦ absurd (was.1 same.0 same.1)
      | inr apart ↦ apart
    ]

    move_apart : IsApart p moving
    move_apart = record {
      sound = λ j. sound_after (Move f from to) fits j;
      apart = λ j i r t there other. elim (move_was j r there) [
        | inl old ↦ elim (move_was i t other) [
          | inl also ↦ h.apart j i r t old.0 also.0
          | inr new ↦ inr (subst (λ x. runs_apart r x ≡ true) (sym new.1) (move_beside j r old))
        ]
        | inr new ↦ elim (move_was i t other) [
          | inl old ↦ inr (apart_swap t r (subst (λ x. runs_apart t x ≡ true) (sym new.1) (move_beside i t old)))
          | inr also ↦ inl (new.0 ∙ sym also.0, new.1 ∙ sym also.1)
        ]
      ];
      taken_somewhere = λ r there.
          let it = h.taken_somewhere r (subst (λ (x : Kept). IsIn r x.taken) move_pages there) in
          elim (is_run region r) [
            | inl e ↦ (spot_of to, subst (λ x. IsIn x (kept_at moving (spot_of to)).runs) (sym e) move_new)
            | inr other ↦ (it.0, move_other it.0 r it.1 other)
          ];
      all_taken = λ j r there. subst (λ (x : Kept). IsIn r x.taken) (sym move_pages) (elim (move_was j r there) [
        | inl old ↦ h.all_taken j r old.0
        | inr new ↦ subst (λ x. IsIn x (kept_at s (spot_of Pages)).taken) (sym new.1) (h.all_taken (spot_of from) region move_facts.there)
      ]);
      taken_order = subst (λ (x : Kept). InOrder (λ r. r.first) run_end x.taken) (sym move_pages) h.taken_order;
      promised = λ j g x y owed. promised_after (Move f from to) j g x y owed;
    }

  pub apart_after : (e : Event) → Fits p s c e → IsApart p (after p s c e)
  apart_after (Take k f w) fits = take_apart k f w fits
  apart_after (Back k f w) fits = back_apart k f w fits
  apart_after (Move f k l) fits = move_apart f k l fits
  apart_after (New k a n al) fits = apart_stays (New k a n al) refl fits
  apart_after (End k a n) fits = apart_stays (End k a n) refl fits
  apart_after (Size k a n m) fits = apart_stays (Size k a n m) refl fits
  apart_after (Full k n al) fits = apart_stays (Full k n al) refl fits
  apart_after (Dry z w al) fits = apart_stays (Dry z w al) refl fits
  apart_after (No k z a n) fits = apart_stays (No k z a n) refl fits
  apart_after (Open z) fits = apart_stays (Open z) refl fits
  apart_after (Shut z) fits = apart_stays (Shut z) refl fits

pub apart_all : (p : Profile) (s : State) (es : List Entry) → AreLawful p s es → IsApart p s → IsApart p (after_all p s es)
unfolding AreLawful after_all
apart_all p s [] lawful h = h
apart_all p s (e ∷ es) lawful h = apart_all p (after_entry p s e) es lawful.1 (apart_after p s e.caller h e.event lawful.0.fits)

-- the same in each state that lawful entries leave
pub apart_left : (p : Profile) (es : List Entry) → AreLawful p opening es → IsApart p (after_all p opening es)
apart_left p es lawful = apart_all p opening es lawful (apart_at_first p)
