-- What serves a request for large is what the record of a request may be.
use Rattle.std.proofs.Common.{◌≡◌, ℕ, ◌+◌, ◌*◌, ◌≤◌, true, false, not, List, [], ◌∷◌, ◌++◌, length, length-append, map, refl, ap, sym, subst, ◌∙◌, arith, Some, None}
use Rattle.std.specs.Prelude.{Result, Ok, Err}
use Rattle.std.specs.List.{All, Contains, list_all}
use Rattle.std.proofs.lemmas.List.Elements.{All-nil, All-cons, All-append, All-contains}
use Rattle.std.proofs.lemmas.List.{map-append}
use Rattle.std.proofs.lemmas.List.Folds.{list_all-map}
use Rattle.mz_base.specs.declared.range.TheConstants.{PAGE}
use Rattle.mz_base.specs.declared.range.Range.TheVariants as range
use Rattle.mz_base.specs.Sizes.{route_of, unit_of, units_of, good_size_of}
use Rattle.mz_base.specs.Space.{Block, block_at}
use Rattle.mz_ground.specs.Views.{SpanView}
use Rattle.mz_large.specs.Large.{run_of_span}
use Rattle.mz_events.specs.declared.place.Place.TheVariants.{Large}
use Rattle.mz_events.specs.declared.event.Event.{Event}
use Rattle.mz_events.specs.declared.event.Event.TheVariants.{Take, Back, Move, New, End, Size, Full, Dry, No, Open, Shut}
use Rattle.mz_events.specs.declared.entry.Entry.{Entry}
use Rattle.mz_events.specs.Places.{nano_page, spot_of}
use Rattle.mz_events.specs.State.{opening, kept_at}
use Rattle.mz_events.specs.Room.{best_fit}
use Rattle.mz_events.specs.Effect.{touches}
use Rattle.mz_events.specs.History.{AreLawful}
use Rattle.mz_record.specs.Moments.{state_before, duty_left}
use Rattle.mz_record.specs.Served.{Request, events, AreFlushes}
use Rattle.mz_record.specs.Served.{IsServed as RecordServed, by_cache as record_by_cache, by_fresh_run as record_by_fresh_run, null_in_large as record_null_in_large}
use Rattle.mz_book.specs.Account.{Account, HoldsNothing, entry_at}
use Rattle.mz_book.specs.Calls.{is_at_nano}
use Rattle.mz_book.specs.Growth.{Grows}
use Rattle.mz_rack.specs.declared.lot.Null.{Null}
use Rattle.mz_rack.specs.declared.lot.Null.TheVariants as null
use Rattle.mz_rack.specs.declared.way.LargeWay.{LargeWay}
use Rattle.mz_rack.specs.BookLaws.{BookLaws}
use Rattle.mz_rack.specs.Ways.{request_of}
use Rattle.mz_rack.specs.Serving.{keepers_for, block_got, is_large_full, TellsTickets, IsAnswer, Answers}
use Rattle.mz_rack.specs.Stages.{IsDried, AreFlushed}
use Rattle.mz_rack.specs.LargeStages.{IsServedLarge, by_cache, by_fresh_run, null_in_large, IsGotLarge, ServedLarge}
use Rattle.mz_rack.proofs.Undisturbed.{none_disturbs}
use Rattle.mz_rack.proofs.Answered.{MomentLaws, lot_of, last_calm, flushes_off, flushes_outside}

-- large and the pages serve what begins with a full of large
two_for : (z n al : ℕ) (es : List Event) → keepers_for (Full (Large z) n al ∷ es) ≡ 2
two_for z n al [] = refl
two_for z n al (Take k f w ∷ es) = refl
two_for z n al (Back k f w ∷ es) = refl
two_for z n al (Move f from to ∷ es) = refl
two_for z n al (New k a s l ∷ es) = refl
two_for z n al (End k a s ∷ es) = refl
two_for z n al (Size k a s t ∷ es) = refl
two_for z n al (Full k m l ∷ es) = refl
two_for z n al (Dry y w l ∷ es) = refl
two_for z n al (No k y a s ∷ es) = refl
two_for z n al (Open y ∷ es) = refl
two_for z n al (Shut y ∷ es) = refl

module _ (L : BookLaws) (M : MomentLaws) (s t : Account) (w : LargeWay) (n al : ℕ) (large : route_of n ≡ range.Large) (lawful : AreLawful t.profile opening t.seen) where
  abbrev request : Request
  request = request_of s.caller w.zone n al

  size_is : good_size_of n ≡ units_of n * PAGE
  size_is = ap (λ r. units_of n * unit_of r) large

  flushes_are : t.profile ≡ s.profile → (flushes : List Entry) → AreFlushed t w.zone (units_of n) 1 flushes → AreFlushes s.profile t.seen w.zone (units_of n) 1 flushes
  flushes_are ep flushes fl = subst (λ p. AreFlushes p t.seen w.zone (units_of n) 1 flushes) ep fl.are

  -- it is served in one of the ways of a record
  served_as : t.profile ≡ s.profile → t.caller ≡ s.caller → (es : List Entry) (holds : ℕ) (got : Result SpanView Null) → IsServedLarge s.caller t w (units_of n) al es holds got → IsGotLarge t w (units_of n) got
      → RecordServed s.profile t.seen request es (block_got (lot_of w.zone got))
  served_as ep ec es holds got (by_cache x i e best k g) is =
      record_by_cache (entry_at i s.caller (New (Large w.zone) x.first (length x.bytes) al)) x.first (length x.bytes) large e refl
      (subst (λ p. best_fit (kept_at (state_before p t.seen i) (spot_of (Large w.zone))).cached (units_of n) ≡ Some (run_of_span x)) ep best)
      (ap (λ o. block_got (lot_of w.zone o)) g)
  served_as ep ec es holds got (by_fresh_run x f m i j flushes e fl b k g) is =
      record_by_fresh_run f (entry_at m s.caller (Full (Large w.zone) (units_of n) 1)) flushes
      (entry_at i s.caller (Take (Large w.zone) f (units_of n)) ∷ entry_at j s.caller (New (Large w.zone) (f * PAGE) (units_of n * PAGE) al) ∷ []) large e refl
      (flushes_are ep flushes fl)
      (ap (λ y. Take (Large w.zone) f (units_of n) ∷ New (Large w.zone) (f * PAGE) y al ∷ []) (sym size_is))
      (ap (λ o. block_got (lot_of w.zone o)) g ∙ (ap (λ (c : Block). Some c) b ∙ ap (λ y. Some (block_at (f * PAGE) y)) (sym size_is)))
  served_as ep ec es holds got (null_in_large m i flushes e fl k g) is =
      let dried : IsDried t w.zone (units_of n) 1 i = subst (λ o. IsGotLarge t w (units_of n) o) g is in
      let last = last_calm L M t w.zone (units_of n) 1 i lawful dried in
      let calm : duty_left s.profile t.seen (entry_at i s.caller (Dry w.zone (units_of n) 1)) ≡ None =
      subst (λ c. duty_left s.profile t.seen (entry_at i c (Dry w.zone (units_of n) 1)) ≡ None) ec (subst (λ p. duty_left p t.seen (entry_at i t.caller (Dry w.zone (units_of n) 1)) ≡ None) ep last) in
      record_null_in_large (entry_at m s.caller (Full (Large w.zone) (units_of n) 1)) (entry_at i s.caller (Dry w.zone (units_of n) 1)) flushes large e refl
      (flushes_are ep flushes fl)
      (record { event = refl; no_duty = calm })
      (ap (λ o. block_got (lot_of w.zone o)) g)

  off_after : (i : ℕ) (first : Entry) (flushes back : List Entry) → touches s.profile first.event (nano_page i) ≡ false → AreFlushed t w.zone (units_of n) 1 flushes → All (λ (y : Entry). touches s.profile y.event (nano_page i) ≡ false) back
      → All (λ (y : Entry). touches s.profile y.event (nano_page i) ≡ false) (first ∷ (flushes ++ back))
  off_after i first flushes back one fl last =
      All-cons (λ (y : Entry). touches s.profile y.event (nano_page i) ≡ false) first (flushes ++ back) one
      (All-append (λ (y : Entry). touches s.profile y.event (nano_page i) ≡ false) flushes back (flushes_off s.profile i w.zone (units_of n) 1 flushes fl.each) last)

  -- no event of it touches a page of nano
  off_nano : (es : List Entry) (holds : ℕ) (got : Result SpanView Null) → IsServedLarge s.caller t w (units_of n) al es holds got → (e : Entry) → Contains es e → (i : ℕ) → touches s.profile e.event (nano_page i) ≡ false
  off_nano es holds got served e there i = All-contains (λ (y : Entry). touches s.profile y.event (nano_page i) ≡ false) es e (each served) there
    where
      one : (y : Entry) → touches s.profile y.event (nano_page i) ≡ false → All (λ (x : Entry). touches s.profile x.event (nano_page i) ≡ false) (y ∷ [])
      one y h = All-cons (λ (x : Entry). touches s.profile x.event (nano_page i) ≡ false) y [] h (All-nil (λ (x : Entry). touches s.profile x.event (nano_page i) ≡ false))

      each : IsServedLarge s.caller t w (units_of n) al es holds got → All (λ (y : Entry). touches s.profile y.event (nano_page i) ≡ false) es
      each (by_cache x j h best k g) = subst (All (λ (y : Entry). touches s.profile y.event (nano_page i) ≡ false)) (sym h) (one (entry_at j s.caller (New (Large w.zone) x.first (length x.bytes) al)) refl)
      each (by_fresh_run x f m a b flushes h fl v k g) =
          subst (All (λ (y : Entry). touches s.profile y.event (nano_page i) ≡ false)) (sym h) (off_after i (entry_at m s.caller (Full (Large w.zone) (units_of n) 1)) flushes
          (entry_at a s.caller (Take (Large w.zone) f (units_of n)) ∷ entry_at b s.caller (New (Large w.zone) (f * PAGE) (units_of n * PAGE) al) ∷ []) refl fl
          (All-cons (λ (y : Entry). touches s.profile y.event (nano_page i) ≡ false) (entry_at a s.caller (Take (Large w.zone) f (units_of n))) (entry_at b s.caller (New (Large w.zone) (f * PAGE) (units_of n * PAGE) al) ∷ []) refl
          (one (entry_at b s.caller (New (Large w.zone) (f * PAGE) (units_of n * PAGE) al)) refl)))
      each (null_in_large m p flushes h fl k g) =
          subst (All (λ (y : Entry). touches s.profile y.event (nano_page i) ≡ false)) (sym h) (off_after i (entry_at m s.caller (Full (Large w.zone) (units_of n) 1)) flushes
          (entry_at p s.caller (Dry w.zone (units_of n) 1) ∷ []) refl fl (one (entry_at p s.caller (Dry w.zone (units_of n) 1)) refl))

  at_most : (es : List Entry) (holds : ℕ) (got : Result SpanView Null) → IsServedLarge s.caller t w (units_of n) al es holds got → length es ≤ 36
  at_most es holds got (by_cache x i e best k g) = let count = ap length e in omega (arith, count)
  at_most es holds got (by_fresh_run x f m i j fs e fl v k g) =
      let few = fl.few in
      let count = ap length e in
      let both = length-append fs (entry_at i s.caller (Take (Large w.zone) f (units_of n)) ∷ entry_at j s.caller (New (Large w.zone) (f * PAGE) (units_of n * PAGE) al) ∷ []) in
      omega (arith, few, count, both)
  at_most es holds got (null_in_large m p fs e fl k g) =
      let few = fl.few in
      let count = ap length e in
      let both = length-append fs (entry_at p s.caller (Dry w.zone (units_of n) 1) ∷ []) in
      omega (arith, few, count, both)

  few : (mine : List Entry) (m : ℕ) (got : Result SpanView Null) → Grows s mine m t → IsServedLarge s.caller t w (units_of n) al mine m got → Grows s mine (keepers_for (events mine)) t
  few mine m got grows (by_cache x i e best k g) = subst (λ j. Grows s mine j t) (k ∙ sym (ap (λ es. keepers_for (events es)) e)) grows
  few mine m got grows (by_fresh_run x f a b c fs e fl v k g) = subst (λ j. Grows s mine j t) (k ∙ sym (ap (λ es. keepers_for (events es)) e ∙ two_for w.zone (units_of n) 1 _)) grows
  few mine m got grows (null_in_large a p fs e fl k g) = subst (λ j. Grows s mine j t) (k ∙ sym (ap (λ es. keepers_for (events es)) e ∙ two_for w.zone (units_of n) 1 _)) grows

  is_answer : (mine : List Entry) (holds : ℕ) (got : Result SpanView Null) → t.site ≡ s.site → IsServedLarge s.caller t w (units_of n) al mine holds got → IsGotLarge t w (units_of n) got → IsAnswer w.zone s.site mine (lot_of w.zone got)
  is_answer mine holds (Ok x) es served is = (refl, is ∙ es)
  is_answer mine holds (Err (null.Large m p)) es served is = told served
    where
      told : IsServedLarge s.caller t w (units_of n) al mine holds (Err (null.Large m p)) → TellsTickets (null.Large m p) mine
      told (null_in_large a c fs e fl k g) =
          let x : a ≡ m = cc in
          let u : c ≡ p = cc in (
            ap (λ es. is_large_full (events es)) e,
            (
              map (λ v. v.ticket) fs,
              ap (λ es. map (λ v. v.ticket) es) e
                  ∙ (ap (λ l. a ∷ l) (map-append (λ (v : Entry). v.ticket) fs (entry_at c s.caller (Dry w.zone (units_of n) 1) ∷ []))
                  ∙ (ap (λ v. v ∷ (map (λ (q : Entry). q.ticket) fs ++ c ∷ [])) x ∙ ap (λ v. m ∷ (map (λ (q : Entry). q.ticket) fs ++ v ∷ [])) u)),
            ),
          )
      told (by_cache x i e best k g) = absurd (cc)
      told (by_fresh_run x f a b c fs e fl v k g) = absurd (cc)
  is_answer mine holds (Err (null.Ranged m d p)) es served is = absurd is

  -- no event of it is one at nano
  outside : (es : List Entry) (holds : ℕ) (got : Result SpanView Null) → IsServedLarge s.caller t w (units_of n) al es holds got → list_all (λ v. not (is_at_nano v)) (events es) ≡ true
  outside es holds got (by_cache x i e best k g) = ap (λ vs. list_all (λ v. not (is_at_nano v)) (events vs)) e
  outside es holds got (by_fresh_run x f m i j flushes e fl v k g) =
      ap (λ vs. list_all (λ v. not (is_at_nano v)) (events vs)) e
      ∙ flushes_outside w.zone (units_of n) 1 flushes (entry_at i s.caller (Take (Large w.zone) f (units_of n)) ∷ entry_at j s.caller (New (Large w.zone) (f * PAGE) (units_of n * PAGE) al) ∷ []) fl.each refl
  outside es holds got (null_in_large m p flushes e fl k g) =
      ap (λ vs. list_all (λ v. not (is_at_nano v)) (events vs)) e ∙ flushes_outside w.zone (units_of n) 1 flushes (entry_at p s.caller (Dry w.zone (units_of n) 1) ∷ []) fl.each refl

  pub answers_large : HoldsNothing s → (got : Result SpanView Null) → ServedLarge [] 0 s w (units_of n) al got t → Answers s w.zone n al (lot_of w.zone got) t
  answers_large nothing got b =
      let same = b.grows.adds.same in
      let zero_more : 0 + b.holds ≡ b.holds = omega arith in
      let served : IsServedLarge s.caller t w (units_of n) al b.mine b.holds got = subst (λ j. IsServedLarge s.caller t w (units_of n) al b.mine j got) zero_more b.served in
      record {
        mine = b.mine;
        few = at_most b.mine b.holds got served;
        grows = few b.mine b.holds got b.grows served;
        nothing_held = record { keepers = b.nothing_held; lights = same.lights ∙ nothing.lights };
        serves = record {
          served = served_as same.profile same.caller b.mine b.holds got served b.is;
          undisturbed = none_disturbs L s t b.mine b.holds lawful b.grows (off_nano b.mine b.holds got served);
        };
        answer = is_answer b.mine b.holds got same.site served b.is;
        outside_nano = sym (list_all-map (λ v. not (is_at_nano v)) (λ (e : Entry). e.event) b.mine) ∙ outside b.mine b.holds got served;
      }
