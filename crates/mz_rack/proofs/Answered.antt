-- What serves a request is what the record of a request may be.
use Rattle.std.proofs.Common.{◌≡◌, ℕ, zero, suc, ◌+◌, ◌≤◌, true, false, List, [], ◌∷◌, ◌++◌, length, length-append, map, take, refl, ap, sym, subst, ◌∙◌, arith, inl, inr, Some, None, ⊎_elim}
use Rattle.std.specs.Prelude.{◌⊎◌, ◌&&◌, not, Result, Ok, Err, slice_get, if◌then◌else◌}
use Rattle.std.specs.List.{All, Contains, list_all}
use Rattle.std.proofs.lemmas.Bool.{false≢true, and_from}
use Rattle.std.proofs.lemmas.List.Elements.{All-nil, All-cons, All-head, All-tail, All-append, All-weaker, All-contains}
use Rattle.std.proofs.lemmas.List.{map-append, length-map}
use Rattle.std.proofs.lemmas.List.Folds.{list_all-map}
use Rattle.mz_base.specs.declared.profile.Profile.{Profile}
use Rattle.mz_base.specs.Sizes.{good_size_of}
use Rattle.mz_base.specs.Space.{block_at}
use Rattle.mz_ground.specs.Views.{SpanView}
use Rattle.mz_events.specs.declared.place.Place.{Place}
use Rattle.mz_events.specs.declared.place.Place.TheVariants.{Tiny, Small, Large}
use Rattle.mz_events.specs.declared.event.Event.{Event}
use Rattle.mz_events.specs.declared.event.Event.TheVariants.{Take, Move, New, Full, Dry}
use Rattle.mz_events.specs.declared.entry.Entry.{Entry}
use Rattle.mz_events.specs.Places.{is_magazine, is_nano, depot_of, nano_page, same_spot, spot_of, spot_at}
use Rattle.mz_events.specs.State.{State, opening, value_at}
use Rattle.mz_events.specs.Effect.{touches}
use Rattle.mz_events.specs.History.{AreLawful, after_entry, after_all}
use Rattle.mz_record.specs.Moments.{state_before, duty_left, first_some}
use Rattle.mz_record.specs.Served.{Request, Regional, events, AreFlushes}
use Rattle.mz_record.specs.Served.{IsServed as RecordServed, by_magazine as record_by_magazine, by_depot as record_by_depot, by_fresh_region as record_by_fresh_region, null_in_range as record_null_in_range}
use Rattle.mz_book.specs.Account.{Account, state_of, known, HoldsNothing, entry_at}
use Rattle.mz_book.specs.Calls.{is_at_nano}
use Rattle.mz_book.specs.Growth.{Grows}
use Rattle.mz_rack.specs.declared.lot.Null.{Null}
use Rattle.mz_rack.specs.declared.lot.Null.TheVariants.{Ranged}
use Rattle.mz_rack.specs.declared.lot.Null.TheVariants as null
use Rattle.mz_rack.specs.declared.way.Way.{Way}
use Rattle.mz_rack.specs.Lots.{LotView}
use Rattle.mz_rack.specs.BookLaws.{BookLaws}
use Rattle.mz_rack.specs.Ways.{IsWayFor, request_of}
use Rattle.mz_rack.specs.Serving.{keepers_for, block_got, is_large_full, TellsTickets, IsAnswer, Answers}
use Rattle.mz_rack.specs.Stages.{at_pages, IsDried, IsFlush, AreFlushed, IsServed, by_magazine, by_depot, by_fresh_region, null_in_range, IsGot, Served}
use Rattle.mz_rack.proofs.Undisturbed.{none_disturbs}

abbrev pub lot_of : ℕ → Result SpanView Null → Result LotView Null
lot_of z (Ok x) = Ok (record { zone = z; span = x })
lot_of z (Err e) = Err e

-- the events of a request touch no page of nano

no_page : (m : Place) (i a : ℕ) → is_magazine m ≡ true → same_spot (nano_page i) (spot_at m a) ≡ false
no_page (Tiny z m) i a h = refl
no_page (Small z m) i a h = refl
no_page _ i a h = absurd (false≢true h)

no_page_of_depot : (m : Place) (i : ℕ) → is_magazine m ≡ true → same_spot (nano_page i) (spot_of (depot_of m)) ≡ false
no_page_of_depot (Tiny z m) i h = refl
no_page_of_depot (Small z m) i h = refl
no_page_of_depot _ i h = absurd (false≢true h)

-- an event that is one of these is
one_event : (a : Event) (e : Event) → Contains (a ∷ []) e → e ≡ a
one_event a e (zero, l, is) = sym is
one_event a e (suc k, l, is) = absurd (omega arith)

first_or : (a : Event) (rest : List Event) (e : Event) → Contains (a ∷ rest) e → (e ≡ a) ⊎ Contains rest e
first_or a rest e (zero, l, is) = inl (sym is)
first_or a rest e (suc k, l, is) = inr (k, omega arith, is)

event_in : (es : List Entry) (e : Entry) → Contains es e → Contains (events es) e.event
event_in [] e (k, l, is) = absurd (omega arith)
event_in (y ∷ es) e (zero, l, is) = (zero, omega arith, ap (λ (x : Entry). x.event) is)
event_in (y ∷ es) e (suc k, l, is) = let z = event_in es e (k, omega arith, is) in (suc z.0, omega (arith, z.1), z.2)

pub get_at : (xs : List Entry) (e : Entry) (ys : List Entry) → slice_get (xs ++ e ∷ ys) (length xs) ≡ Some e
get_at [] e ys = refl
get_at (x ∷ xs) e ys = get_at xs e ys

pub take_front : (xs ys : List Entry) → take (length xs) (xs ++ ys) ≡ xs
take_front [] ys = refl
take_front (x ∷ xs) ys = ap (λ es. x ∷ es) (take_front xs ys)

-- the laws of moments on which this rests
pub record MomentLaws : Type 0 where
  pub before : (p : Profile) (h : List Entry) (n : ℕ) → AreLawful p opening h → state_before p h n ≡ after_all p opening (take n h)
  pub after_one : (p : Profile) (s : State) (e : Entry) → after_all p s (e ∷ []) ≡ after_entry p s e
  pub after_joined : (p : Profile) (s : State) (xs ys : List Entry) → after_all p s (xs ++ ys) ≡ after_all p (after_all p s xs) ys

-- the last dry left no duty
pub last_calm : BookLaws → MomentLaws → (t : Account) (z w al i : ℕ) → AreLawful t.profile opening t.seen → IsDried t z w al i → duty_left t.profile t.seen (entry_at i t.caller (Dry z w al)) ≡ None
last_calm L M t z w al i lawful d =
    let p = t.profile in
    let h = t.seen in
    let e = entry_at i t.caller (Dry z w al) in
    let at : i ≡ 0 + length d.before = L.index p opening h lawful (length d.before) e (ap (λ es. slice_get es (length d.before)) d.seen ∙ get_at d.before e []) in
    let front : take i h ≡ d.before = ap (λ k. take k h) (let j : i ≡ length d.before = omega arith in j) ∙ (ap (λ es. take (length d.before) es) d.seen ∙ take_front d.before (e ∷ [])) in
    let before : state_before p h i ≡ after_all p opening d.before = M.before p h i lawful ∙ ap (λ es. after_all p opening es) front in
    let last : after_entry p (after_all p opening d.before) e ≡ state_of t = sym (ap (λ es. after_all p opening es) d.seen ∙ (M.after_joined p opening d.before (e ∷ []) ∙ M.after_one p (after_all p opening d.before) e)) in
    let state : after_entry p (state_before p h i) e ≡ state_of t = ap (λ x. after_entry p x e) before ∙ last in
    ap (λ x. first_some ((value_at x at_pages).duty ∷ (value_at x (spot_of (Large z))).duty ∷ [])) state
    ∙ (ap (λ o. first_some (o ∷ (known t (spot_of (Large z))).duty ∷ [])) d.calm_p ∙ ap (λ o. first_some (None ∷ o ∷ [])) d.calm_l)

-- no flush touches a page of nano, or is an event there
flush_off : (p : Profile) (i z w al : ℕ) (e : Event) → IsFlush z w al e → touches p e (nano_page i) ≡ false
flush_off p i z w al e (inl is) = ap (λ v. touches p v (nano_page i)) is
flush_off p i z w al e (inr (f, n, is)) = ap (λ v. touches p v (nano_page i)) is

pub flushes_off : (p : Profile) (i z w al : ℕ) (flushes : List Entry) → All (λ (e : Entry). IsFlush z w al e.event) flushes → All (λ (y : Entry). touches p y.event (nano_page i) ≡ false) flushes
flushes_off p i z w al flushes each = All-weaker (λ (y : Entry). IsFlush z w al y.event) (λ y. touches p y.event (nano_page i) ≡ false) (λ y h. flush_off p i z w al y.event h) flushes each

flush_outside : (z w al : ℕ) (e : Event) → IsFlush z w al e → not (is_at_nano e) ≡ true
flush_outside z w al e (inl is) = ap (λ v. not (is_at_nano v)) is
flush_outside z w al e (inr (f, m, is)) = ap (λ v. not (is_at_nano v)) is

pub flushes_outside : (z w al : ℕ) (flushes back : List Entry) → All (λ (e : Entry). IsFlush z w al e.event) flushes → list_all (λ v. not (is_at_nano v)) (events back) ≡ true → list_all (λ v. not (is_at_nano v)) (events (flushes ++ back)) ≡ true
flushes_outside z w al [] back each last = last
flushes_outside z w al (e ∷ es) back each last =
    and_from (not (is_at_nano e.event)) (list_all (λ v. not (is_at_nano v)) (events (es ++ back))) (flush_outside z w al e.event (All-head (λ (x : Entry). IsFlush z w al x.event) e es each))
    (flushes_outside z w al es back (All-tail (λ (x : Entry). IsFlush z w al x.event) e es each) last)

module _ (L : BookLaws) (M : MomentLaws) (s t : Account) (w : Way) (z n al : ℕ) (way : IsWayFor s.profile s.caller z n w) (lawful : AreLawful t.profile opening t.seen) where
  abbrev size : ℕ
  size = good_size_of n

  abbrev request : Request
  request = request_of s.caller z n al

  abbrev regional : Regional
  regional = record { magazine = w.magazine; pages = w.pages }

  block_is : (x : SpanView) (got : Result SpanView Null) → got ≡ Ok x → IsGot t w size got → block_got (lot_of z got) ≡ Some (block_at x.first size)
  block_is x got g is = subst (λ o. IsGot t w size o → block_got (lot_of z o) ≡ Some (block_at x.first size)) (sym g) (λ y. ap (λ l. Some (block_at x.first l)) y.1) is

  flushes_are : t.profile ≡ s.profile → (flushes : List Entry) → AreFlushed t w.zone w.pages w.pages flushes → AreFlushes s.profile t.seen z w.pages w.pages flushes
  flushes_are ep flushes fl = subst (λ y. AreFlushes s.profile t.seen y w.pages w.pages flushes) way.in_zone (subst (λ p. AreFlushes p t.seen w.zone w.pages w.pages flushes) ep fl.are)

  -- it is served in one of the ways of a record
  served_as : t.profile ≡ s.profile → t.caller ≡ s.caller → (es : List Entry) (holds : ℕ) (got : Result SpanView Null) → IsServed s.caller t w size al es holds got → IsGot t w size got
      → RecordServed s.profile t.seen request es (block_got (lot_of z got))
  served_as ep ec es holds got (by_magazine x e k g) is = record_by_magazine regional x.first (way.serves al) e (block_is x got g is)
  served_as ep ec es holds got (by_depot x f e k g) is =
      record_by_depot regional x.first f (way.serves al) (subst (λ d. events es ≡ Full w.magazine size al ∷ Move f d w.magazine ∷ New w.magazine x.first size al ∷ []) way.way.depot e) (block_is x got g is)
  served_as ep ec es holds got (by_fresh_region x f m d i j flushes e fl k g) is =
      record_by_fresh_region regional x.first f (entry_at m s.caller (Full w.magazine size al) ∷ entry_at d s.caller (Full w.depot size al) ∷ []) flushes
      (entry_at i s.caller (Take w.magazine f w.pages) ∷ entry_at j s.caller (New w.magazine x.first size al) ∷ []) (way.serves al) e
      (ap (λ y. Full w.magazine size al ∷ Full y size al ∷ []) way.way.depot)
      (flushes_are ep flushes fl)
      refl
      (block_is x got g is)
  served_as ep ec es holds got (null_in_range m d i flushes e fl k g) is =
      let dried : IsDried t w.zone w.pages w.pages i = subst (λ o. IsGot t w size o) g is in
      let last = last_calm L M t w.zone w.pages w.pages i lawful dried in
      let calm : duty_left s.profile t.seen (entry_at i s.caller (Dry w.zone w.pages w.pages)) ≡ None =
      subst (λ c. duty_left s.profile t.seen (entry_at i c (Dry w.zone w.pages w.pages)) ≡ None) ec (subst (λ p. duty_left p t.seen (entry_at i t.caller (Dry w.zone w.pages w.pages)) ≡ None) ep last) in
      record_null_in_range regional (entry_at m s.caller (Full w.magazine size al) ∷ entry_at d s.caller (Full w.depot size al) ∷ []) flushes (entry_at i s.caller (Dry w.zone w.pages w.pages)) (way.serves al) e
      (ap (λ y. Full w.magazine size al ∷ Full y size al ∷ []) way.way.depot)
      (flushes_are ep flushes fl)
      (record { event = ap (λ y. Dry y w.pages w.pages) way.in_zone; no_duty = calm })
      (ap (λ o. block_got (lot_of z o)) g)

  abbrev IsOff : ℕ → Event → Type 0
  IsOff i e = touches s.profile e (nano_page i) ≡ false

  off_new : (i a : ℕ) → IsOff i (New w.magazine a size al)
  off_new i a = rw (no_page w.magazine i a way.way.magazine) refl

  off_full : (i : ℕ) → IsOff i (Full w.magazine size al)
  off_full i = rw (no_page w.magazine i 0 way.way.magazine) refl

  off_depot_full : (i : ℕ) → IsOff i (Full w.depot size al)
  off_depot_full i = subst (λ d. IsOff i (Full d size al)) (sym way.way.depot) (rw (no_page_of_depot w.magazine i way.way.magazine) refl)

  off_move : (i f : ℕ) → IsOff i (Move f w.depot w.magazine)
  off_move i f = subst (λ d. IsOff i (Move f d w.magazine)) (sym way.way.depot) (rw (no_page_of_depot w.magazine i way.way.magazine, no_page w.magazine i 0 way.way.magazine) refl)

  off_take : (i f : ℕ) → IsOff i (Take w.magazine f w.pages)
  off_take i f = rw (no_page w.magazine i 0 way.way.magazine) refl

  off_dry : (i : ℕ) → IsOff i (Dry w.zone w.pages w.pages)
  off_dry i = refl

  abbrev AreOff : ℕ → List Event → Type 0
  AreOff i [] = Unit {0}
  AreOff i (e ∷ es) = IsOff i e × AreOff i es

  pick : (i : ℕ) (es : List Event) → AreOff i es → (e : Event) → Contains es e → IsOff i e
  pick i [] h e (k, l, is) = absurd (omega arith)
  pick i (a ∷ es) h e there = ⊎_elim (λ (is : e ≡ a). ap (λ v. touches s.profile v (nano_page i)) is ∙ h.0) (λ (r : Contains es e). pick i es h.1 e r) (first_or a es e there)

  off_both : (i : ℕ) (a b : Entry) (flushes back : List Entry) → IsOff i a.event → IsOff i b.event → AreFlushed t w.zone w.pages w.pages flushes → All (λ (y : Entry). IsOff i y.event) back → All (λ (y : Entry). IsOff i y.event) (a ∷ b ∷ (flushes ++ back))
  off_both i a b flushes back first second fl last =
      let P : Entry → Type 0 = λ y. IsOff i y.event in
      All-cons (λ (y : Entry). IsOff i y.event) a (b ∷ (flushes ++ back)) first
      (All-cons (λ (y : Entry). IsOff i y.event) b (flushes ++ back) second
      (All-append (λ (y : Entry). IsOff i y.event) flushes back (flushes_off s.profile i w.zone w.pages w.pages flushes fl.each) last))

  -- no event of it touches a page of nano
  off_nano : (es : List Entry) (holds : ℕ) (got : Result SpanView Null) → IsServed s.caller t w size al es holds got → (e : Entry) → Contains es e → (i : ℕ) → touches s.profile e.event (nano_page i) ≡ false
  off_nano es holds got (by_magazine x h k g) e there i = pick i (New w.magazine x.first size al ∷ []) (off_new i x.first, tt) e.event (subst (λ l. Contains l e.event) h (event_in es e there))
  off_nano es holds got (by_depot x f h k g) e there i = pick i (Full w.magazine size al ∷ Move f w.depot w.magazine ∷ New w.magazine x.first size al ∷ []) (off_full i, (off_move i f, (off_new i x.first, tt))) e.event (subst (λ l. Contains l e.event) h (event_in es e there))
  off_nano es holds got (by_fresh_region x f m d a b flushes h fl k g) e there i =
      All-contains (λ (y : Entry). IsOff i y.event) es e
      (subst (All (λ (y : Entry). IsOff i y.event)) (sym h) (off_both i (entry_at m s.caller (Full w.magazine size al)) (entry_at d s.caller (Full w.depot size al)) flushes
      (entry_at a s.caller (Take w.magazine f w.pages) ∷ entry_at b s.caller (New w.magazine x.first size al) ∷ []) (off_full i) (off_depot_full i) fl
      (All-cons (λ (y : Entry). IsOff i y.event) (entry_at a s.caller (Take w.magazine f w.pages)) (entry_at b s.caller (New w.magazine x.first size al) ∷ []) (off_take i f)
      (All-cons (λ (y : Entry). IsOff i y.event) (entry_at b s.caller (New w.magazine x.first size al)) [] (off_new i x.first) (All-nil (λ (y : Entry). IsOff i y.event)))))) there
  off_nano es holds got (null_in_range m d j flushes h fl k g) e there i =
      All-contains (λ (y : Entry). IsOff i y.event) es e
      (subst (All (λ (y : Entry). IsOff i y.event)) (sym h) (off_both i (entry_at m s.caller (Full w.magazine size al)) (entry_at d s.caller (Full w.depot size al)) flushes
      (entry_at j s.caller (Dry w.zone w.pages w.pages) ∷ []) (off_full i) (off_depot_full i) fl
      (All-cons (λ (y : Entry). IsOff i y.event) (entry_at j s.caller (Dry w.zone w.pages w.pages)) [] (off_dry i) (All-nil (λ (y : Entry). IsOff i y.event))))) there

  at_most : (es : List Entry) (holds : ℕ) (got : Result SpanView Null) → IsServed s.caller t w size al es holds got → length es ≤ 36
  at_most es holds got (by_magazine x e k g) = let count = sym (length-map es (λ (y : Entry). y.event)) ∙ ap length e in omega (arith, count)
  at_most es holds got (by_depot x f e k g) = let count = sym (length-map es (λ (y : Entry). y.event)) ∙ ap length e in omega (arith, count)
  at_most es holds got (by_fresh_region x f m d i j fs e fl k g) =
      let few = fl.few in
      let count = ap length e in
      let both = length-append fs (entry_at i s.caller (Take w.magazine f w.pages) ∷ entry_at j s.caller (New w.magazine x.first size al) ∷ []) in
      omega (arith, few, count, both)
  at_most es holds got (null_in_range m d p fs e fl k g) =
      let few = fl.few in
      let count = ap length e in
      let both = length-append fs (entry_at p s.caller (Dry w.zone w.pages w.pages) ∷ []) in
      omega (arith, few, count, both)

  few : (mine : List Entry) (m : ℕ) (got : Result SpanView Null) → Grows s mine m t → IsServed s.caller t w size al mine m got → Grows s mine (keepers_for (events mine)) t
  few mine m got grows (by_magazine x e k g) = subst (λ j. Grows s mine j t) (k ∙ sym (ap (λ es. keepers_for es) e)) grows
  few mine m got grows (by_depot x f e k g) = subst (λ j. Grows s mine j t) (k ∙ sym (ap (λ es. keepers_for es) e)) grows
  few mine m got grows (by_fresh_region x f a b c d fs e fl k g) = subst (λ j. Grows s mine j t) (k ∙ sym (ap (λ es. keepers_for (events es)) e ∙ ap (λ b. if b then 2 else 4) (L.depot s.profile w.magazine way.way.magazine).magazine.not_large)) grows
  few mine m got grows (null_in_range a d i fs e fl k g) = subst (λ j. Grows s mine j t) (k ∙ sym (ap (λ es. keepers_for (events es)) e ∙ ap (λ b. if b then 2 else 4) (L.depot s.profile w.magazine way.way.magazine).magazine.not_large)) grows

  is_answer : (mine : List Entry) (holds : ℕ) (got : Result SpanView Null) → t.site ≡ s.site → IsServed s.caller t w size al mine holds got → IsGot t w size got → IsAnswer z s.site mine (lot_of z got)
  is_answer mine holds (Ok x) es served is = (refl, is.0 ∙ es)
  is_answer mine holds (Err (Ranged m d p)) es served is = told served
    where
      told : IsServed s.caller t w size al mine holds (Err (Ranged m d p)) → TellsTickets (Ranged m d p) mine
      told (null_in_range a b c fs e fl k g) =
          let x : a ≡ m = cc in
          let y : b ≡ d = cc in
          let u : c ≡ p = cc in (
            ap (λ es. is_large_full (events es)) e ∙ (L.depot s.profile w.magazine way.way.magazine).magazine.not_large,
            (
              map (λ v. v.ticket) fs,
              ap (λ es. map (λ v. v.ticket) es) e
                  ∙ (ap (λ l. a ∷ b ∷ l) (map-append (λ (v : Entry). v.ticket) fs (entry_at c s.caller (Dry w.zone w.pages w.pages) ∷ []))
                  ∙ (ap (λ v. v ∷ b ∷ (map (λ (q : Entry). q.ticket) fs ++ c ∷ [])) x ∙ (ap (λ v. m ∷ v ∷ (map (λ (q : Entry). q.ticket) fs ++ c ∷ [])) y ∙ ap (λ v. m ∷ d ∷ (map (λ (q : Entry). q.ticket) fs ++ v ∷ [])) u))),
            ),
          )
      told (by_magazine x e k g) = absurd (cc)
      told (by_depot x f e k g) = absurd (cc)
      told (by_fresh_region x f a b c e fs h fl k g) = absurd (cc)
  is_answer mine holds (Err (null.Large c p)) es served is = absurd is

  -- no event of it is one at nano
  outside : (es : List Entry) (holds : ℕ) (got : Result SpanView Null) → IsServed s.caller t w size al es holds got → list_all (λ v. not (is_at_nano v)) (events es) ≡ true
  outside es holds got served = each served
    where
      made : (not (is_nano w.magazine) && true) ≡ true
      made = ap (λ b. not b && true) (L.depot s.profile w.magazine way.way.magazine).magazine.not_nano

      each : IsServed s.caller t w size al es holds got → list_all (λ v. not (is_at_nano v)) (events es) ≡ true
      each (by_magazine x e k g) = ap (list_all (λ v. not (is_at_nano v))) e ∙ made
      each (by_depot x f e k g) = ap (list_all (λ v. not (is_at_nano v))) e ∙ made
      each (by_fresh_region x f m d i j flushes e fl k g) =
          ap (λ vs. list_all (λ v. not (is_at_nano v)) (events vs)) e ∙ flushes_outside w.zone w.pages w.pages flushes (entry_at i s.caller (Take w.magazine f w.pages) ∷ entry_at j s.caller (New w.magazine x.first size al) ∷ []) fl.each made
      each (null_in_range m d p flushes e fl k g) = ap (λ vs. list_all (λ v. not (is_at_nano v)) (events vs)) e ∙ flushes_outside w.zone w.pages w.pages flushes (entry_at p s.caller (Dry w.zone w.pages w.pages) ∷ []) fl.each refl

  pub answers : HoldsNothing s → (got : Result SpanView Null) → Served [] 0 s w size al got t → Answers s z n al (lot_of z got) t
  answers nothing got b =
      let same = b.grows.adds.same in
      let zero_more : 0 + b.holds ≡ b.holds = omega arith in
      let served : IsServed s.caller t w size al b.mine b.holds got = subst (λ j. IsServed s.caller t w size al b.mine j got) zero_more b.served in
      record {
        mine = b.mine;
        few = at_most b.mine b.holds got served;
        grows = few b.mine b.holds got b.grows served;
        nothing_held = record { keepers = b.nothing_held; lights = same.lights ∙ nothing.lights };
        serves = record {
          served = served_as same.profile same.caller b.mine b.holds got served b.is;
          undisturbed = none_disturbs L s t b.mine b.holds lawful b.grows (off_nano b.mine b.holds got served);
        };
        answer = is_answer b.mine b.holds got same.site served b.is;
        outside_nano = sym (list_all-map (λ v. not (is_at_nano v)) (λ (e : Entry). e.event) b.mine) ∙ outside b.mine b.holds got served;
      }
