-- Live blocks have the form of their places, and cached runs are idle: each event that fits keeps it.
use Rattle.std.proofs.Common.{◌≡◌, ℕ, ◌<◌, ◌≤◌, ◌⊎◌, Bool, true, false, cond, not, List, [], ◌∷◌, ◌++◌, refl, ap, sym, subst, ◌∙◌, inl, inr, arith, Option, Some, None}
use Rattle.std.specs.Prelude.{filter, fold, nat_lt, ◌&&◌, ◌==◌, ◌%◌}
use Rattle.std.proofs.lemmas.Bool.{false≢true, cases_Bool, and_parts, or_cases, eqb-true, cond-true, cond-false}
use Rattle.mz_base.specs.declared.range.TheConstants.{PAGE}
use Rattle.mz_base.specs.declared.profile.Profile.{Profile}
use Rattle.mz_base.specs.Space.{Block, Run, block_at, run_at, block_end, run_end, blocks_apart, bytes_of, same_block, same_run}
use Rattle.mz_base.specs.Room.{lies_in}
use Rattle.mz_base.specs.Lists.{has_run, has_block, add_run, drop_run, add_block, drop_block, blocks_in}
use Rattle.mz_events.specs.declared.place.Place.{Place}
use Rattle.mz_events.specs.declared.place.Place.TheVariants.{Pages, Tiny, TinyDepot, Small, SmallDepot, Large, Nano}
use Rattle.mz_events.specs.declared.event.Event.{Event}
use Rattle.mz_events.specs.declared.event.Event.TheVariants.{Take, Back, Move, New, End, Size, Full, Dry, No, Open, Shut}
use Rattle.mz_events.specs.declared.entry.Entry.{Entry}
use Rattle.mz_events.specs.Places.{is_large, is_nano, is_size_of, quantum_of, Spot, same_spot, spot_at, spot_of, place_of}
use Rattle.mz_events.specs.State.{Kept, Value, State, kept_at, look_up, opening}
use Rattle.mz_events.specs.Changes.{run_of, region_at, without_run, with_region, with_run, pages_with, pages_without}
use Rattle.mz_events.specs.Room.{best_fit}
use Rattle.mz_events.specs.Placement.{is_some_run}
use Rattle.mz_events.specs.Effect.{touches, kept_after, after}
use Rattle.mz_events.specs.Rules.{existing, fits_apart, placed, keeps, Fits, stands}
use Rattle.mz_events.specs.History.{AreLawful, after_all, after_entry}
use Rattle.mz_events.specs.Forms.{HasForm, IsCachedThere}
use Rattle.mz_events.proofs.SpotLemmas.{same_spot-refl}
use Rattle.mz_events.proofs.LocalityLemmas.{value_at-untouched, value_at-touched}
use Rattle.mz_events.proofs.BestFitLemmas.{best_is}
use Rattle.mz_events.proofs.InOrderLemmas.{IsIn, in_filter, filter_in, in_insert, insert_old, in_append, order_some, order_pair, each_in}
use Rattle.mz_events.proofs.SoundLemmas.{same_block-is, same_run-is, same_block-self, numbers_apart, inside_meets, Inside, IsSound, place_of-spot, in_fold}
use Rattle.mz_events.proofs.FactLemmas.{one_spot, two_spots, fits_end, pair_kind}
use Rattle.mz_events.proofs.SeparationLemmas.{IsApart, apart_after, apart_at_first, move_facts}
use Rattle.mz_events.proofs.Separation.{run_in, run_there, block_in}

-- what holds of the blocks and the cached runs of a spot
record IsFormed (j : Spot) (rs : List Run) (live : List Block) (cached : List Run) : Type 0 where
  size : (b : Block) → IsIn b live → is_size_of (place_of j) b.size ≡ true
  quanta : (b : Block) → IsIn b live → is_large (place_of j) ≡ false → is_nano (place_of j) ≡ false → b.first % quantum_of (place_of j) ≡ 0
  run : (b : Block) → IsIn b live → is_large (place_of j) ≡ true → IsIn (run_of b) rs
  whole : (b : Block) → IsIn b live → is_large (place_of j) ≡ true → bytes_of (run_of b) ≡ b
  slot : (b : Block) → IsIn b live → is_nano (place_of j) ≡ true → b.first % PAGE % b.size ≡ 0
  alike : (b c : Block) → IsIn b live → IsIn c live → is_nano (place_of j) ≡ true → c.size ≡ b.size
  large : (r : Run) → IsIn r cached → is_large (place_of j) ≡ true
  there : (r : Run) → IsIn r cached → IsIn r rs
  idle : (r : Run) (b : Block) → IsIn r cached → IsIn b live → blocks_apart b (bytes_of r) ≡ true

abbrev FormedKept : Spot → Kept → Type 0
FormedKept j k = IsFormed j k.runs k.live k.cached

-- the bytes of runs that are apart are apart
runs_bytes : (r t : Run) → (run_end r ≤ t.first) ⊎ (run_end t ≤ r.first) → blocks_apart (bytes_of t) (bytes_of r) ≡ true
runs_bytes r t (inl low) = numbers_apart (bytes_of t) (bytes_of r) (inr (omega arith))
runs_bytes r t (inr high) = numbers_apart (bytes_of t) (bytes_of r) (inl (omega arith))

-- a place that is large is no nano
not_both : (k : Place) → is_large k ≡ true → is_nano k ≡ true → ⊥
not_both (Large z) h g = false≢true g
not_both Pages h g = false≢true h
not_both (Tiny z m) h g = false≢true h
not_both (TinyDepot z) h g = false≢true h
not_both (Small z m) h g = false≢true h
not_both (SmallDepot z) h g = false≢true h
not_both Nano h g = false≢true h

module _ (j : Spot) where
  -- what is asked of a new block
  record NewForm (rs live_cached : List Run) (live : List Block) (b : Block) : Type 0 where
    size : is_size_of (place_of j) b.size ≡ true
    quanta : is_large (place_of j) ≡ false → is_nano (place_of j) ≡ false → b.first % quantum_of (place_of j) ≡ 0
    run : is_large (place_of j) ≡ true → IsIn (run_of b) live_cached ⊎ IsIn (run_of b) rs
    whole : is_large (place_of j) ≡ true → bytes_of (run_of b) ≡ b
    slot : is_nano (place_of j) ≡ true → b.first % PAGE % b.size ≡ 0
    alike : is_nano (place_of j) ≡ true → (c : Block) → IsIn c live → c.size ≡ b.size

  formed_new : (p : Profile) (rs : List Run) (live : List Block) (freed : Option Block) (cached : List Run) (b : Block) → IsSound p j rs live freed → IsFormed j rs live cached → NewForm rs cached live b → IsFormed j rs (add_block b live) (filter (λ r. not (same_block b (bytes_of r))) cached)
  formed_new p rs live freed cached b sound h new =
      let cases : (c : Block) → IsIn c (add_block b live) → (c ≡ b) ⊎ IsIn c live = λ c there. in_insert (λ (x : Block). x.first) b live c there in
      let was : (r : Run) → IsIn r (filter (λ r. not (same_block b (bytes_of r))) cached) → IsIn r cached × (not (same_block b (bytes_of r)) ≡ true) = λ r there. in_filter (λ x. not (same_block b (bytes_of x))) cached r there in
      let its_run : is_large (place_of j) ≡ true → IsIn (run_of b) rs = λ l. elim (new.run l) [ inl c ↦ h.there (run_of b) c | inr r ↦ r ] in
      record {
        size = λ c in'. elim (cases c in') [ inl e ↦ subst (λ (x : Block). is_size_of (place_of j) x.size ≡ true) (sym e) new.size | inr old ↦ h.size c old ];
        quanta = λ c in' l n. elim (cases c in') [ inl e ↦ subst (λ (x : Block). x.first % quantum_of (place_of j) ≡ 0) (sym e) (new.quanta l n) | inr old ↦ h.quanta c old l n ];
        run = λ c in' l. elim (cases c in') [ inl e ↦ subst (λ x. IsIn (run_of x) rs) (sym e) (its_run l) | inr old ↦ h.run c old l ];
        whole = λ c in' l. elim (cases c in') [ inl e ↦ subst (λ x. bytes_of (run_of x) ≡ x) (sym e) (new.whole l) | inr old ↦ h.whole c old l ];
        slot = λ c in' n. elim (cases c in') [ inl e ↦ subst (λ (x : Block). x.first % PAGE % x.size ≡ 0) (sym e) (new.slot n) | inr old ↦ h.slot c old n ];
        alike = λ c d in' other n. elim (cases c in') [
          | inl e ↦ elim (cases d other) [ inl f ↦ ap (λ (x : Block). x.size) (f ∙ sym e) | inr old ↦ new.alike n d old ∙ ap (λ (x : Block). x.size) (sym e) ]
          | inr c_old ↦ elim (cases d other) [ inl f ↦ ap (λ (x : Block). x.size) f ∙ sym (new.alike n c c_old) | inr old ↦ h.alike c d c_old old n ]
        ];
        large = λ r in'. h.large r (was r in').0;
        there = λ r in'. h.there r (was r in').0;
        idle = λ r c in' other. elim (cases c other) [
          | inl e ↦
              let l = h.large r (was r in').0 in
              let is = new.whole l in
              elim (order_pair (λ (x : Run). x.first) run_end rs r (run_of b) sound.run_order (h.there r (was r in').0) (its_run l)) [
                | inl same ↦ absurd (false≢true (sym (ap not (subst (λ x. same_block b x ≡ true) (sym (ap bytes_of same ∙ is)) (same_block-self b))) ∙ (was r in').1))
                | inr beside ↦ subst (λ x. blocks_apart x (bytes_of r) ≡ true) (is ∙ sym e) (runs_bytes r (run_of b) beside)
              ]
          | inr old ↦ h.idle r c (was r in').0 old
        ];
      }

  formed_less : (rs : List Run) (live : List Block) (cached : List Run) (test : Block → Bool) → IsFormed j rs live cached → IsFormed j rs (filter test live) cached
  formed_less rs live cached test h =
      let was : (c : Block) → IsIn c (filter test live) → IsIn c live = λ c in'. (in_filter test live c in').0 in
      record {
        size = λ c in'. h.size c (was c in');
        quanta = λ c in'. h.quanta c (was c in');
        run = λ c in'. h.run c (was c in');
        whole = λ c in'. h.whole c (was c in');
        slot = λ c in'. h.slot c (was c in');
        alike = λ c d in' other. h.alike c d (was c in') (was d other);
        large = h.large;
        there = h.there;
        idle = λ r c in' other. h.idle r c in' (was c other);
      }

  formed_end : (p : Profile) (rs : List Run) (live : List Block) (freed : Option Block) (cached : List Run) (b : Block) (l : Bool) → IsSound p j rs live freed → IsFormed j rs live cached → IsIn b live → is_large (place_of j) ≡ l → IsFormed j rs (drop_block b live) (cond l (cached ++ run_of b ∷ []) cached)
  formed_end p rs live freed cached b false sound h in_live is = formed_less rs live cached (λ c. not (same_block b c)) h
  formed_end p rs live freed cached b true sound h in_live is =
      let less = formed_less rs live cached (λ c. not (same_block b c)) h in
      let cases : (r : Run) → IsIn r (cached ++ run_of b ∷ []) → IsIn r cached ⊎ (r ≡ run_of b) = λ r in'. elim (in_append cached (run_of b ∷ []) r in') [ inl old ↦ inl old | inr new ↦ elim new [ inl e ↦ inr e | inr none ↦ absurd none ] ] in
      record {
        size = less.size;
        quanta = less.quanta;
        run = less.run;
        whole = less.whole;
        slot = less.slot;
        alike = less.alike;
        large = λ r in'. is;
        there = λ r in'. elim (cases r in') [ inl old ↦ h.there r old | inr e ↦ subst (λ x. IsIn x rs) (sym e) (h.run b in_live is) ];
        idle = λ r c in' other. elim (cases r in') [
          | inl old ↦ less.idle r c old other
          | inr e ↦
              let it = in_filter (λ x. not (same_block b x)) live c other in
              subst (λ x. blocks_apart c x ≡ true) (sym (h.whole b in_live is) ∙ ap bytes_of (sym e)) (elim (order_pair (λ (x : Block). x.first) block_end live c b sound.live_order it.0 in_live) [
                | inl same ↦ absurd (false≢true (sym (ap not (subst (λ x. same_block b x ≡ true) (sym same) (same_block-self b))) ∙ it.1))
                | inr beside ↦ numbers_apart c b beside
              ])
        ];
      }

  formed_with_run : (rs : List Run) (live : List Block) (cached : List Run) (r : Run) → IsFormed j rs live cached → IsFormed j (add_run r rs) live cached
  formed_with_run rs live cached r h = record {
    size = h.size;
    quanta = h.quanta;
    run = λ b in' l. insert_old (λ (x : Run). x.first) r rs (run_of b) (h.run b in' l);
    whole = h.whole;
    slot = h.slot;
    alike = h.alike;
    large = h.large;
    there = λ t in'. insert_old (λ (x : Run). x.first) r rs t (h.there t in');
    idle = h.idle;
  }

  formed_without_run : (p : Profile) (rs : List Run) (live : List Block) (freed : Option Block) (cached : List Run) (r : Run) → IsSound p j rs live freed → IsFormed j rs live cached → IsFormed j (drop_run r rs) (filter (λ b. blocks_apart b (bytes_of r)) live) (drop_run r cached)
  formed_without_run p rs live freed cached r sound h =
      let less = formed_less rs live cached (λ b. blocks_apart b (bytes_of r)) h in
      record {
        size = less.size;
        quanta = less.quanta;
        run = λ b in' l.
            let it = in_filter (λ x. blocks_apart x (bytes_of r)) live b in' in
            elim (cases_Bool (same_run r (run_of b))) [
              | inl same ↦
                  let is : b ≡ bytes_of r = sym (h.whole b it.0 l) ∙ ap bytes_of (sym (same_run-is r (run_of b) same)) in
                  let some : b.first < block_end b = order_some (λ (x : Block). x.first) block_end live b sound.live_order it.0 in
                  absurd (inside_meets r b (omega arith) (subst (Inside r) (sym is) (all_of r)) it.1)
              | inr other ↦ filter_in (λ x. not (same_run r x)) rs (run_of b) (h.run b it.0 l) (ap not other)
            ];
        whole = less.whole;
        slot = less.slot;
        alike = less.alike;
        large = λ t in'. h.large t (in_filter (λ x. not (same_run r x)) cached t in').0;
        there = λ t in'. let it = in_filter (λ x. not (same_run r x)) cached t in' in filter_in (λ x. not (same_run r x)) rs t (h.there t it.0) it.1;
        idle = λ t b in' other. less.idle t b (in_filter (λ x. not (same_run r x)) cached t in').0 other;
      }
    where
      all_of : (t : Run) → Inside t (bytes_of t)
      all_of t = (omega arith, omega arith)

  formed_region : (p : Profile) (rs : List Run) (live : List Block) (cached : List Run) (r : Run) (ms : List Block) → IsFormed j rs live cached → is_large (place_of j) ≡ false → is_nano (place_of j) ≡ false → ((m : Block) → IsIn m ms → (is_size_of (place_of j) m.size ≡ true) × (m.first % quantum_of (place_of j) ≡ 0)) → IsFormed j (add_run r rs) (fold (λ xs b. add_block b xs) live ms) cached
  formed_region p rs live cached r ms h no_large no_nano new =
      let cases : (c : Block) → IsIn c (fold (λ xs b. add_block b xs) live ms) → IsIn c ms ⊎ IsIn c live = λ c in'. in_fold p j ms live c in' in
      record {
        size = λ c in'. elim (cases c in') [ inl m ↦ (new c m).0 | inr old ↦ h.size c old ];
        quanta = λ c in' l n. elim (cases c in') [ inl m ↦ (new c m).1 | inr old ↦ h.quanta c old l n ];
        run = λ c in' l. absurd (false≢true (sym no_large ∙ l));
        whole = λ c in' l. absurd (false≢true (sym no_large ∙ l));
        slot = λ c in' n. absurd (false≢true (sym no_nano ∙ n));
        alike = λ c d in' other n. absurd (false≢true (sym no_nano ∙ n));
        large = h.large;
        there = λ t in'. insert_old (λ (x : Run). x.first) r rs t (h.there t in');
        idle = λ t c in' other. absurd (false≢true (sym no_large ∙ h.large t in'));
      }

  -- a block that has another size, in a magazine or a depot
  formed_resized : (rs : List Run) (live : List Block) (cached : List Run) (b c : Block) → IsFormed j rs live cached → is_large (place_of j) ≡ false → is_nano (place_of j) ≡ false → is_size_of (place_of j) c.size ≡ true → c.first % quantum_of (place_of j) ≡ 0 → IsFormed j rs (add_block c (drop_block b live)) cached
  formed_resized rs live cached b c h no_large no_nano size quanta =
      let less = formed_less rs live cached (λ x. not (same_block b x)) h in
      let cases : (d : Block) → IsIn d (add_block c (drop_block b live)) → (d ≡ c) ⊎ IsIn d (drop_block b live) = λ d in'. in_insert (λ (x : Block). x.first) c (drop_block b live) d in' in
      record {
        size = λ d in'. elim (cases d in') [ inl e ↦ subst (λ (x : Block). is_size_of (place_of j) x.size ≡ true) (sym e) size | inr old ↦ less.size d old ];
        quanta = λ d in' l n. elim (cases d in') [ inl e ↦ subst (λ (x : Block). x.first % quantum_of (place_of j) ≡ 0) (sym e) quanta | inr old ↦ less.quanta d old l n ];
        run = λ d in' l. absurd (false≢true (sym no_large ∙ l));
        whole = λ d in' l. absurd (false≢true (sym no_large ∙ l));
        slot = λ d in' n. absurd (false≢true (sym no_nano ∙ n));
        alike = λ d e in' other n. absurd (false≢true (sym no_nano ∙ n));
        large = h.large;
        there = h.there;
        idle = λ t d in' other. absurd (false≢true (sym no_large ∙ h.large t in'));
      }

-- a run that fits best is cached
in_middle : (before : List Run) (r : Run) (behind : List Run) → IsIn r (before ++ r ∷ behind)
in_middle [] r behind = inl refl
in_middle (t ∷ ts) r behind = inr (in_middle ts r behind)

best_cached : (cached : List Run) (w : ℕ) (r : Run) → is_some_run (best_fit cached w) r ≡ true → IsIn r cached
best_cached cached w r h = of_some (best_fit cached w) refl h
  where
    of_some : (o : Option Run) → best_fit cached w ≡ o → is_some_run o r ≡ true → IsIn r cached
    of_some None e g = absurd (false≢true g)
    of_some (Some t) e g =
        let it = best_is cached w t e in
        subst (λ x. IsIn x cached) (same_run-is t r g) (subst (λ xs. IsIn t xs) (sym it.stands) (in_middle it.before t it.behind))

module _ (p : Profile) (s : State) (c : ℕ) where
  abbrev NewAt : Place → ℕ → ℕ → Type 0
  NewAt k a n = NewForm (spot_at k a) (kept_at s (spot_at k a)).runs (kept_at s (spot_at k a)).cached (kept_at s (spot_at k a)).live (block_at a n)

  -- rule 10 of a block in a magazine or a depot
  quanta_of : (x l w y z : Bool) → ((x && (l && (y && z))) && w) ≡ true → (x ≡ true) × (y ≡ true)
  quanta_of x l w y z h =
      let lies = and_parts x (l && (y && z)) (and_parts (x && (l && (y && z))) w h).0 in
      (lies.0, (and_parts y z (and_parts l (y && z) lies.1).1).0)

  new_plain : (k : Place) (a n : ℕ) → is_large (place_of (spot_at k a)) ≡ false → is_nano (place_of (spot_at k a)) ≡ false → is_size_of (place_of (spot_at k a)) n ≡ true → a % quantum_of (place_of (spot_at k a)) ≡ 0 → NewAt k a n
  new_plain k a n no_large no_nano size quanta = record {
    size = size;
    quanta = λ l m. quanta;
    run = λ l. absurd (false≢true (sym no_large ∙ l));
    whole = λ l. absurd (false≢true (sym no_large ∙ l));
    slot = λ m. absurd (false≢true (sym no_nano ∙ m));
    alike = λ m. absurd (false≢true (sym no_nano ∙ m));
  }

  new_form : (k : Place) (a n al : ℕ) → Fits p s c (New k a n al) → NewAt k a n
  unfolding keeps
  new_form (Tiny z m) a n al fits =
      let all = and_parts _ _ (fits fits_apart) in
      let lies = and_parts _ _ all.0 in
      let size = (and_parts _ _ (and_parts _ _ lies.0).0).0 in
      new_plain (Tiny z m) a n refl refl size (eqb-true (a % quantum_of (Tiny z m)) 0 (and_parts _ _ (and_parts _ _ lies.1).1).0)
  new_form (Small z m) a n al fits =
      let all = and_parts _ _ (fits fits_apart) in
      let lies = and_parts _ _ all.0 in
      let size = (and_parts _ _ (and_parts _ _ lies.0).0).0 in
      new_plain (Small z m) a n refl refl size (eqb-true (a % quantum_of (Small z m)) 0 (and_parts _ _ (and_parts _ _ lies.1).1).0)
  new_form (Large z) a n al fits =
      let all = and_parts _ _ (fits fits_apart) in
      let lies = and_parts _ _ all.0 in
      let k = kept_at s (spot_of (Large z)) in
      let r = run_of (block_at a n) in
      let place = and_parts (same_block (block_at a n) (bytes_of r)) _ (fits placed) in
      record {
        size = (and_parts _ _ (and_parts _ _ lies.0).0).0;
        quanta = λ l m. absurd (false≢true (sym l));
        run = λ l. elim (or_cases (is_some_run (best_fit k.cached r.pages) r) _ place.1) [
          | inl best ↦ inl (best_cached k.cached r.pages r best)
          | inr run ↦ inr (run_in k.runs r (and_parts _ _ (and_parts _ _ (and_parts _ _ run).0).0).0)
        ];
        whole = λ l. sym (same_block-is (block_at a n) (bytes_of r) place.0);
        slot = λ m. absurd (false≢true m);
        alike = λ m. absurd (false≢true m);
      }
  new_form Nano a n al fits =
      let all = and_parts _ _ (fits fits_apart) in
      let lies = and_parts _ _ all.0 in
      let place = and_parts _ _ (fits placed) in
      record {
        size = (and_parts _ _ (and_parts _ _ lies.0).0).0;
        quanta = λ l m. absurd (false≢true (sym m));
        run = λ l. absurd (false≢true l);
        whole = λ l. absurd (false≢true l);
        slot = λ m. eqb-true (a % PAGE % n) 0 (and_parts _ _ place.0).0;
        alike = λ m d there. eqb-true d.size n (each_in (λ (x : Block). x.size == n) (kept_at s (spot_at Nano a)).live d place.1 there);
      }
  new_form Pages a n al fits = absurd (false≢true (and_parts false (stands p s Pages) (and_parts (nat_lt c p.callers) (false && stands p s Pages) (fits existing)).1).0)
  new_form (TinyDepot z) a n al fits = absurd (false≢true (and_parts false (stands p s (TinyDepot z)) (and_parts (nat_lt c p.callers) (false && stands p s (TinyDepot z)) (fits existing)).1).0)
  new_form (SmallDepot z) a n al fits = absurd (false≢true (and_parts false (stands p s (SmallDepot z)) (and_parts (nat_lt c p.callers) (false && stands p s (SmallDepot z)) (fits existing)).1).0)

  -- what is asked of a resized extent
  abbrev SizeAt : Place → ℕ → ℕ → Type 0
  SizeAt k a m = (is_large (place_of (spot_at k a)) ≡ false) × (is_nano (place_of (spot_at k a)) ≡ false) × (is_size_of (place_of (spot_at k a)) m ≡ true) × (a % quantum_of (place_of (spot_at k a)) ≡ 0)

  size_form : (k : Place) (a n m : ℕ) → Fits p s c (Size k a n m) → SizeAt k a m
  unfolding keeps
  size_form (Tiny z i) a n m fits = let lies = and_parts _ _ (and_parts _ _ (fits fits_apart)).0 in (refl, refl, lies.0, eqb-true (a % quantum_of (Tiny z i)) 0 (and_parts _ _ (and_parts _ _ lies.1).1).0)
  size_form (TinyDepot z) a n m fits = let lies = and_parts _ _ (and_parts _ _ (fits fits_apart)).0 in (refl, refl, lies.0, eqb-true (a % quantum_of (TinyDepot z)) 0 (and_parts _ _ (and_parts _ _ lies.1).1).0)
  size_form (Small z i) a n m fits = let lies = and_parts _ _ (and_parts _ _ (fits fits_apart)).0 in (refl, refl, lies.0, eqb-true (a % quantum_of (Small z i)) 0 (and_parts _ _ (and_parts _ _ lies.1).1).0)
  size_form (SmallDepot z) a n m fits = let lies = and_parts _ _ (and_parts _ _ (fits fits_apart)).0 in (refl, refl, lies.0, eqb-true (a % quantum_of (SmallDepot z)) 0 (and_parts _ _ (and_parts _ _ lies.1).1).0)
  size_form Pages a n m fits = absurd (false≢true (and_parts false (stands p s Pages) (and_parts (nat_lt c p.callers) (false && stands p s Pages) (fits existing)).1).0)
  size_form (Large z) a n m fits = absurd (false≢true (and_parts false (stands p s (Large z)) (and_parts (nat_lt c p.callers) (false && stands p s (Large z)) (fits existing)).1).0)
  size_form Nano a n m fits = absurd (false≢true (and_parts false (stands p s Nano) (and_parts (nat_lt c p.callers) (false && stands p s Nano) (fits existing)).1).0)

abbrev AreFormed : State → Type 0
AreFormed s = (j : Spot) → FormedKept j (kept_at s j)

module _ (p : Profile) (s : State) (c : ℕ) (h : IsApart p s) (was : AreFormed s) where
  abbrev FormedAfter : Event → Spot → Type 0
  FormedAfter e j = FormedKept j (kept_after s e j)

  formed_touched : (e : Event) → Fits p s c e → (j : Spot) → touches p e j ≡ true → FormedAfter e j
  formed_touched (Take k f w) fits j t = elim (cases_Bool (same_spot j (spot_of Pages))) [
    | inl yes_ ↦ subst (FormedKept j) (sym (cond-true (same_spot j (spot_of Pages)) (pages_without k (run_at f w) (kept_at s j)) (with_run (run_at f w) (kept_at s j)) yes_)) (was j)
    | inr no_ ↦ subst (FormedKept j) (sym (cond-false (same_spot j (spot_of Pages)) (pages_without k (run_at f w) (kept_at s j)) (with_run (run_at f w) (kept_at s j)) no_))
        (formed_with_run j (kept_at s j).runs (kept_at s j).live (kept_at s j).cached (run_at f w) (was j))
  ]
  formed_touched (Back k f w) fits j t = elim (cases_Bool (same_spot j (spot_of Pages))) [
    | inl yes_ ↦ subst (FormedKept j) (sym (cond-true (same_spot j (spot_of Pages)) (pages_with k (run_at f w) (kept_at s j)) (without_run (run_at f w) (kept_at s j)) yes_)) (was j)
    | inr no_ ↦ subst (FormedKept j) (sym (cond-false (same_spot j (spot_of Pages)) (pages_with k (run_at f w) (kept_at s j)) (without_run (run_at f w) (kept_at s j)) no_))
        (formed_without_run j p (kept_at s j).runs (kept_at s j).live (kept_at s j).last_freed (kept_at s j).cached (run_at f w) (h.sound j) (was j))
  ]
  formed_touched (Move f from to) fits j t =
      let facts = move_facts p s c h f from to fits in
      let r = region_at (kept_at s (spot_of from)).runs f in
      let ms = blocks_in (kept_at s (spot_of from)).live r in
      let kind = pair_kind from to facts.pair in
      elim (cases_Bool (same_spot j (spot_of from))) [
        | inl yes_ ↦ subst (FormedKept j) (sym (cond-true (same_spot j (spot_of from)) (without_run r (kept_at s j)) (with_region r ms (kept_at s j)) yes_))
            (formed_without_run j p (kept_at s j).runs (kept_at s j).live (kept_at s j).last_freed (kept_at s j).cached r (h.sound j) (was j))
        | inr no_ ↦
            let at : j ≡ spot_of to = elim (two_spots j (spot_of from) (spot_of to) t) [ inl e ↦ absurd (false≢true (sym no_ ∙ subst (λ i. same_spot i (spot_of from) ≡ true) (sym e) (same_spot-refl (spot_of from)))) | inr e ↦ e ] in
            let is : place_of j ≡ to = ap place_of at ∙ place_of-spot to 0 in
            let of_from : place_of (spot_of from) ≡ from = place_of-spot from 0 in
            let of = was (spot_of from) in
            let old : (m : Block) → IsIn m ms → IsIn m (kept_at s (spot_of from)).live = λ m there. (in_filter (λ b. lies_in r b.first (block_end b)) (kept_at s (spot_of from)).live m there).0 in
            subst (FormedKept j) (sym (cond-false (same_spot j (spot_of from)) (without_run r (kept_at s j)) (with_region r ms (kept_at s j)) no_))
            (formed_region j p (kept_at s j).runs (kept_at s j).live (kept_at s j).cached r ms (was j) (ap is_large is ∙ kind.other) (ap is_nano is ∙ kind.nor_nano)
            (λ m there. (
              (ap (λ k. is_size_of k m.size) is ∙ sym (kind.sizes m.size) ∙ sym (ap (λ k. is_size_of k m.size) of_from) ∙ of.size m (old m there)),
              (ap (λ q. m.first % q) (ap quantum_of is ∙ sym kind.quanta ∙ sym (ap quantum_of of_from)) ∙ of.quanta m (old m there) (ap is_large of_from ∙ kind.one) (ap is_nano of_from ∙ kind.no_nano)),
            )))
      ]
  formed_touched (New k a n al) fits j t =
      let at = one_spot j (spot_at k a) t in
      let here : FormedAfter (New k a n al) (spot_at k a) = formed_new (spot_at k a) p (kept_at s (spot_at k a)).runs (kept_at s (spot_at k a)).live (kept_at s (spot_at k a)).last_freed (kept_at s (spot_at k a)).cached (block_at a n) (h.sound (spot_at k a)) (was (spot_at k a)) (new_form p s c k a n al fits) in
      subst (FormedAfter (New k a n al)) (sym at) here
  formed_touched (End k a n) fits j t =
      let at = one_spot j (spot_at k a) t in
      let here : FormedAfter (End k a n) (spot_at k a) = formed_end (spot_at k a) p (kept_at s (spot_at k a)).runs (kept_at s (spot_at k a)).live (kept_at s (spot_at k a)).last_freed (kept_at s (spot_at k a)).cached (block_at a n) (is_large k) (h.sound (spot_at k a)) (was (spot_at k a)) (fits_end p s c k a n fits) (ap is_large (place_of-spot k a)) in
      subst (FormedAfter (End k a n)) (sym at) here
  formed_touched (Size k a n m) fits j t =
      let at = one_spot j (spot_at k a) t in
      let form = size_form p s c k a n m fits in
      let here : FormedAfter (Size k a n m) (spot_at k a) = formed_resized (spot_at k a) (kept_at s (spot_at k a)).runs (kept_at s (spot_at k a)).live (kept_at s (spot_at k a)).cached (block_at a n) (block_at a m) (was (spot_at k a)) form.0 form.1 form.2 form.3 in
      subst (FormedAfter (Size k a n m)) (sym at) here
  formed_touched (Full k n al) fits j t = was j
  formed_touched (Dry z w al) fits j t = was j
  formed_touched (No k z a n) fits j t = was j
  formed_touched (Open z) fits j t = was j
  formed_touched (Shut z) fits j t = was j

  formed_after : (e : Event) → Fits p s c e → AreFormed (after p s c e)
  formed_after e fits j = elim (cases_Bool (touches p e j)) [
    | inl t ↦ subst (λ (v : Value). FormedKept j v.kept) (sym (value_at-touched p s c e j t)) (formed_touched e fits j t)
    | inr n ↦ subst (λ (v : Value). FormedKept j v.kept) (sym (value_at-untouched p s c e j n)) (was j)
  ]

formed_at_first : AreFormed opening
unfolding look_up
formed_at_first j = record {
  size = λ b there. absurd there;
  quanta = λ b there. absurd there;
  run = λ b there. absurd there;
  whole = λ b there. absurd there;
  slot = λ b there. absurd there;
  alike = λ b c there. absurd there;
  large = λ r there. absurd there;
  there = λ r there. absurd there;
  idle = λ r b there. absurd there;
}

formed_all : (p : Profile) (s : State) (es : List Entry) → AreLawful p s es → IsApart p s → AreFormed s → AreFormed (after_all p s es)
unfolding AreLawful after_all
formed_all p s [] lawful h was = was
formed_all p s (e ∷ es) lawful h was = formed_all p (after_entry p s e) es lawful.1 (apart_after p s e.caller h e.event lawful.0.fits) (formed_after p s e.caller h was e.event lawful.0.fits)

pub form_after : (p : Profile) (es : List Entry) (j : Spot) (b : Block) → AreLawful p opening es → has_block (kept_at (after_all p opening es) j).live b ≡ true → HasForm (after_all p opening es) j b
form_after p es j b lawful there =
    let it = formed_all p opening es lawful (apart_at_first p) formed_at_first j in
    let k = kept_at (after_all p opening es) j in
    let in_live = block_in k.live b there in
    record {
      size = it.size b in_live;
      quanta = it.quanta b in_live;
      run = λ l. run_there k.runs (run_of b) (it.run b in_live l);
      whole = it.whole b in_live;
      slot = it.slot b in_live;
      alike = λ n c other. it.alike b c in_live (block_in k.live c other) n;
    }

pub cached_after : (p : Profile) (es : List Entry) (j : Spot) (r : Run) → AreLawful p opening es → has_run (kept_at (after_all p opening es) j).cached r ≡ true → IsCachedThere (after_all p opening es) j r
cached_after p es j r lawful there =
    let it = formed_all p opening es lawful (apart_at_first p) formed_at_first j in
    let k = kept_at (after_all p opening es) j in
    let in_cached = run_in k.cached r there in
    record {
      large = it.large r in_cached;
      there = run_there k.runs r (it.there r in_cached);
      idle = λ b other. it.idle r b in_cached (block_in k.live b other);
    }
