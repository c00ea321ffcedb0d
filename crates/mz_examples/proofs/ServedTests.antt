-- Tests that each way of serving a request passes, for the worked examples: where one fails, the request isn't served.
use Rattle.std.proofs.Common.{◌≡◌, ℕ, ◌*◌, ◌<◌, ◌≤◌, Bool, true, false, List, [], ◌∷◌, ◌++◌, Option, Some, None, refl, ap, sym, subst, ◌∙◌, length, arith, length-append, append_assoc}
use Rattle.std.specs.Prelude.{◌==◌, ◌&&◌, ◌||◌, nat_lt, nat_le}
use Rattle.std.proofs.lemmas.Bool.{eq-eqb, lt-ltb, le-leb, and_from, or_left, or_right, false≢true}
use Rattle.std.proofs.lemmas.List.{map-append, length-map}
use Rattle.mz_base.specs.declared.profile.Profile.{Profile}
use Rattle.mz_base.specs.declared.range.TheConstants.{PAGE}
use Rattle.mz_base.specs.declared.range.Range.{Range}
use Rattle.mz_base.specs.declared.range.Range.TheVariants as range
use Rattle.mz_base.specs.Sizes.{route_of, units_of}
use Rattle.mz_base.specs.Space.{Block, Run, block_at}
use Rattle.mz_events.specs.declared.place.Place.{Place}
use Rattle.mz_events.specs.declared.place.Place.TheVariants.{Pages, Tiny, TinyDepot, Small, SmallDepot, Large, Nano}
use Rattle.mz_events.specs.declared.event.Event.{Event}
use Rattle.mz_events.specs.declared.event.Event.TheVariants.{Take, Move, New, Full, Dry}
use Rattle.mz_events.specs.declared.entry.Entry.{Entry}
use Rattle.mz_events.specs.Places.{spot_of, depot_of, is_nano, same_place}
use Rattle.mz_events.specs.State.{kept_at}
use Rattle.mz_events.specs.Room.{best_fit}
use Rattle.mz_events.specs.Changes.{run_of}
use Rattle.mz_record.specs.Moments.{state_before, duty_left}
use Rattle.mz_record.specs.Served.{Request, Regional, regional_in, regional_for, IsForLarge, size_for, events, AreFlushes, IsServed, by_nano, by_magazine, by_depot, by_fresh_region, null_in_range, by_cache, by_fresh_run, null_in_large, is_dry}

-- the last of a list, or none
abbrev pub last_of : {A : Type 0} → List A → Option A
last_of [] = None
last_of (x ∷ []) = Some x
last_of (x ∷ y ∷ xs) = last_of (y ∷ xs)

none_some : {A : Type 0} (x : A) (P : Type 0) → ◌≡◌ {A = Option A} None (Some x) → P
none_some x P h = cc

pub last_behind : {A : Type 0} (xs ys : List A) (z : A) → last_of ys ≡ Some z → last_of (xs ++ ys) ≡ Some z
last_behind [] ys z h = h
last_behind (x ∷ []) [] z h = none_some z _ h
last_behind (x ∷ []) (y ∷ ys) z h = h
last_behind (x ∷ w ∷ xs) ys z h = last_behind (w ∷ xs) ys z h

same-place : (k : Place) → same_place k k ≡ true
same-place Pages = refl
same-place (Tiny z m) = and_from (z == z) (m == m) (eq-eqb z z refl) (eq-eqb m m refl)
same-place (TinyDepot z) = eq-eqb z z refl
same-place (Small z m) = and_from (z == z) (m == m) (eq-eqb z z refl) (eq-eqb m m refl)
same-place (SmallDepot z) = eq-eqb z z refl
same-place (Large z) = eq-eqb z z refl
same-place Nano = refl

-- a new block of s bytes at al in k is one for the request
abbrev pub suits_nano : Profile → Request → Place → ℕ → ℕ → Bool
suits_nano p q k s al = is_nano k && ((q.zone == 0) && (nat_lt 0 p.nano && (nat_le q.bytes 256 && ((q.align == 16) && ((al == 16) && (s == size_for q))))))

abbrev pub is_magazine_in : Option Regional → Place → Bool
is_magazine_in None k = false
is_magazine_in (Some r) k = same_place k r.magazine

abbrev pub suits_range : Profile → Request → Place → ℕ → ℕ → Bool
suits_range p q k s al = is_magazine_in (regional_for p q) k && ((al == q.align) && (s == size_for q))

abbrev pub is_large_range : Range → Bool
is_large_range range.Nano = false
is_large_range range.Tiny = false
is_large_range range.Small = false
is_large_range range.Medium = false
is_large_range range.Large = true

abbrev pub suits_large : Request → Place → ℕ → Bool
suits_large q k al = same_place k (Large q.zone) && (is_large_range (route_of q.bytes) && (al == q.align))

abbrev pub is_block : Block → ℕ → ℕ → Bool
is_block b a s = (a == b.first) && (s == b.size)

-- the last event of a request, with what it gives
abbrev pub ends_well : Profile → Request → Option Event → Option Block → Bool
ends_well p q (Some (New k a s al)) (Some b) = is_block b a s && (suits_nano p q k s al || (suits_range p q k s al || suits_large q k al))
ends_well p q (Some (Dry z w al)) None = z == q.zone
ends_well p q _ _ = false

block_is : (a s : ℕ) → is_block (block_at a s) a s ≡ true
block_is a s = and_from (a == a) (s == s) (eq-eqb a a refl) (eq-eqb s s refl)

nano_ends :
    (p : Profile) (q : Request) (a s : ℕ) → s ≡ size_for q → q.zone ≡ 0 → 0 < p.nano → q.bytes ≤ 256 → q.align ≡ 16
    → ends_well p q (Some (New Nano a s 16)) (Some (block_at a s)) ≡ true
nano_ends p q a s size zone some few align =
    and_from (is_block (block_at a s) a s) _ (block_is a s)
    (or_left (suits_nano p q Nano s 16) _
    (and_from (q.zone == 0) _ (eq-eqb q.zone 0 zone)
    (and_from (nat_lt 0 p.nano) _ (lt-ltb 0 p.nano some)
    (and_from (nat_le q.bytes 256) _ (le-leb q.bytes 256 few) (and_from (q.align == 16) _ (eq-eqb q.align 16 align) (eq-eqb s (size_for q) size))))))

range_ends :
    (p : Profile) (q : Request) (r : Regional) (a s al : ℕ) → regional_for p q ≡ Some r → s ≡ size_for q → al ≡ q.align
    → ends_well p q (Some (New r.magazine a s al)) (Some (block_at a s)) ≡ true
range_ends p q r a s al here size align =
    let place : is_magazine_in (regional_for p q) r.magazine ≡ true = ap (λ (o : Option Regional). is_magazine_in o r.magazine) here ∙ same-place r.magazine in
    and_from (is_block (block_at a s) a s) _ (block_is a s)
    (or_right (suits_nano p q r.magazine s al) _
    (or_left (suits_range p q r.magazine s al) _
    (and_from (is_magazine_in (regional_for p q) r.magazine) _ place
    (and_from (al == q.align) _ (eq-eqb al q.align align) (eq-eqb s (size_for q) size)))))

large_ends :
    (p : Profile) (q : Request) (a s al : ℕ) → al ≡ q.align → IsForLarge q → ends_well p q (Some (New (Large q.zone) a s al)) (Some (block_at a s)) ≡ true
large_ends p q a s al align large =
    and_from (is_block (block_at a s) a s) _ (block_is a s)
    (or_right (suits_nano p q (Large q.zone) s al) _
    (or_right (suits_range p q (Large q.zone) s al) _
    (and_from (same_place (Large q.zone) (Large q.zone)) _ (same-place (Large q.zone))
    (and_from (is_large_range (route_of q.bytes)) _ (ap is_large_range large) (eq-eqb al q.align align)))))

-- the last event is the same as that of the back part
last_event : (es front back : List Entry) (e : Event) → es ≡ front ++ back → last_of (events back) ≡ Some e → last_of (events es) ≡ Some e
last_event es front back e whole last =
    ap (λ xs. last_of (events xs)) whole ∙ ap last_of (map-append (λ (d : Entry). d.event) front back) ∙ last_behind (events front) (events back) e last

module _ (p : Profile) (q : Request) (es : List Entry) where
  ends_as : (got given : Option Block) (e : Event) → last_of (events es) ≡ Some e → got ≡ given → ends_well p q (Some e) given ≡ true → ends_well p q (last_of (events es)) got ≡ true
  ends_as got given e last same well = ap (λ (o : Option Event). ends_well p q o got) last ∙ ap (λ (g : Option Block). ends_well p q (Some e) g) same ∙ well

  -- in whichever way a request is served, its last event and what it gives are right
  pub served_ends : (h : List Entry) (got : Option Block) → IsServed p h q es got → ends_well p q (last_of (events es)) got ≡ true
  served_ends h got (by_nano a zone some few align all is) =
      ends_as got _ (New Nano a (size_for q) 16) (ap last_of all) is (nano_ends p q a (size_for q) refl zone some few align)
  served_ends h got (by_magazine r a here all is) =
      ends_as got _ (New r.magazine a (size_for q) q.align) (ap last_of all) is (range_ends p q r a (size_for q) q.align here refl refl)
  served_ends h got (by_depot r a f here all is) =
      ends_as got _ (New r.magazine a (size_for q) q.align) (ap last_of all) is (range_ends p q r a (size_for q) q.align here refl refl)
  served_ends h got (by_fresh_region r a f front flushes back here whole full between all is) =
      ends_as got _ (New r.magazine a (size_for q) q.align) (last_event es (front ++ flushes) back _ whole (ap last_of all)) is
      (range_ends p q r a (size_for q) q.align here refl refl)
  served_ends h got (null_in_range r front flushes last here whole full between dry is) =
      ends_as got _ (Dry q.zone r.pages r.pages) (last_event es (front ++ flushes) (last ∷ []) _ whole (ap Some dry.event)) is (eq-eqb q.zone q.zone refl)
  served_ends h got (by_cache e a s many whole all best is) =
      ends_as got _ (New (Large q.zone) a s q.align) (last_event es [] (e ∷ []) _ whole (ap Some all)) is (large_ends p q a s q.align refl many)
  served_ends h got (by_fresh_run f first flushes back many whole full between all is) =
      ends_as got _ (New (Large q.zone) (f * PAGE) (size_for q) q.align) (last_event es (first ∷ flushes) back _ whole (ap last_of all)) is
      (large_ends p q (f * PAGE) (size_for q) q.align refl many)
  served_ends h got (null_in_large first last flushes many whole full between dry is) =
      ends_as got _ (Dry q.zone (units_of q.bytes) 1) (last_event es (first ∷ flushes) (last ∷ []) _ whole (ap Some dry.event)) is (eq-eqb q.zone q.zone refl)

abbrev pub is_take : Event → Bool
is_take (Take k f w) = true
is_take _ = false

abbrev pub is_move : Event → Bool
is_move (Move f j k) = true
is_move _ = false

abbrev pub is_new : Event → Bool
is_new (New k a s al) = true
is_new _ = false

abbrev pub is_full : Event → Bool
is_full (Full k n al) = true
is_full _ = false

abbrev pub is_none_left : List Event → Bool
is_none_left [] = true
is_none_left (e ∷ es) = false

abbrev pub is_one_new : List Event → Bool
is_one_new [] = false
is_one_new (e ∷ es) = is_new e && is_none_left es

-- flushes, and then a region or a run that is taken with its block, or one last dry
abbrev pub ends_flushes : List Event → Bool
ends_flushes [] = false
ends_flushes (d ∷ []) = is_dry d
ends_flushes (d ∷ b ∷ es) = (is_take d && (is_new b && is_none_left es)) || (is_dry d && ends_flushes es)

abbrev pub moves_in : List Event → Bool
moves_in [] = false
moves_in (m ∷ es) = is_move m && is_one_new es

abbrev pub ends_behind_full : List Event → Bool
ends_behind_full [] = false
ends_behind_full (f ∷ es) = is_full f && ends_flushes es

-- the kinds of the events, in order
abbrev pub is_in_order : List Event → Bool
is_in_order [] = false
is_in_order (e ∷ es) = (is_new e && is_none_left es) || (is_full e && (moves_in es || (ends_behind_full es || ends_flushes es)))

flushes_end : (p : Profile) (h : List Entry) (z w al : ℕ) (fs : List Entry) (es : List Event) → AreFlushes p h z w al fs → ends_flushes es ≡ true → ends_flushes (events fs ++ es) ≡ true
flushes_end p h z w al [] es between well = well
flushes_end p h z w al (d ∷ []) es between well = absurd between
flushes_end p h z w al (d ∷ b ∷ fs) es between well =
    rw between.0 (flushes_end p h z w al fs es between.2 well)

events_of : (es : List Entry) (front flushes back : List Entry) (fs bs : List Event) → es ≡ front ++ flushes ++ back → events front ≡ fs → events back ≡ bs → events es ≡ fs ++ (events flushes ++ bs)
events_of es front flushes back fs bs whole first last =
    ap events whole ∙ map-append (λ (d : Entry). d.event) (front ++ flushes) back ∙ ap (λ xs. xs ++ events back) (map-append (λ (d : Entry). d.event) front flushes)
    ∙ ap (λ xs. xs ++ events flushes ++ events back) first ∙ ap (λ xs. fs ++ events flushes ++ xs) last ∙ append_assoc fs (events flushes) bs

module _ (p : Profile) (q : Request) (es : List Entry) (h : List Entry) (got : Option Block) where
  -- and its events stand in the order of one of the eight ways
  pub served_in_order : IsServed p h q es got → is_in_order (events es) ≡ true
  served_in_order (by_nano a zone some few align all is) = ap is_in_order all
  served_in_order (by_magazine r a here all is) = ap is_in_order all
  served_in_order (by_depot r a f here all is) = ap is_in_order all
  served_in_order (by_fresh_region r a f front flushes back here whole full between all is) =
      let bs : List Event = Take r.magazine f r.pages ∷ New r.magazine a (size_for q) q.align ∷ [] in
      ap is_in_order (events_of es front flushes back (Full r.magazine (size_for q) q.align ∷ Full (depot_of r.magazine) (size_for q) q.align ∷ []) bs whole full all)
      ∙ or_left (ends_flushes (events flushes ++ bs)) _ (flushes_end p h q.zone r.pages r.pages flushes bs between refl)
  served_in_order (null_in_range r front flushes last here whole full between dry is) =
      let bs : List Event = Dry q.zone r.pages r.pages ∷ [] in
      ap is_in_order
      (events_of es front flushes (last ∷ []) (Full r.magazine (size_for q) q.align ∷ Full (depot_of r.magazine) (size_for q) q.align ∷ []) bs whole full (ap (λ (e : Event). e ∷ []) dry.event))
      ∙ or_left (ends_flushes (events flushes ++ bs)) _ (flushes_end p h q.zone r.pages r.pages flushes bs between refl)
  served_in_order (by_cache e a s many whole all best is) = ap (λ xs. is_in_order (events xs)) whole ∙ ap (λ (d : Event). is_in_order (d ∷ [])) all
  served_in_order (by_fresh_run f first flushes back many whole full between all is) =
      let bs : List Event = Take (Large q.zone) f (units_of q.bytes) ∷ New (Large q.zone) (f * PAGE) (size_for q) q.align ∷ [] in
      ap is_in_order (events_of es (first ∷ []) flushes back (Full (Large q.zone) (units_of q.bytes) 1 ∷ []) bs whole (ap (λ (e : Event). e ∷ []) full) all)
      ∙ or_right (moves_in (events flushes ++ bs)) _
      (or_right (ends_behind_full (events flushes ++ bs)) _ (flushes_end p h q.zone (units_of q.bytes) 1 flushes bs between refl))
  served_in_order (null_in_large first last flushes many whole full between dry is) =
      let bs : List Event = Dry q.zone (units_of q.bytes) 1 ∷ [] in
      ap is_in_order (events_of es (first ∷ []) flushes (last ∷ []) (Full (Large q.zone) (units_of q.bytes) 1 ∷ []) bs whole (ap (λ (e : Event). e ∷ []) full) (ap (λ (e : Event). e ∷ []) dry.event))
      ∙ or_right (moves_in (events flushes ++ bs)) _
      (or_right (ends_behind_full (events flushes ++ bs)) _ (flushes_end p h q.zone (units_of q.bytes) 1 flushes bs between refl))

-- there is a run, and it begins at this page
abbrev pub begins_at : ℕ → Option Run → Bool
begins_at f None = false
begins_at f (Some r) = r.first == f

some_none : {A : Type 0} (x : A) (P : Type 0) → ◌≡◌ {A = Option A} (Some x) None → P
some_none x P h = cc

-- a request that a range of regions serves isn't for large
regional_not_large : (p : Profile) (q : Request) (r : Regional) {P : Type 0} → regional_for p q ≡ Some r → IsForLarge q → P
regional_not_large p q r {P = P} here large = none_some r P (sym (ap (regional_in p q) large) ∙ here)

-- and nor is one that nano serves
few_not_large : (q : Request) {P : Type 0} → q.bytes ≤ 256 → IsForLarge q → P
few_not_large q few large =
    let low : nat_le q.bytes 1008 ≡ true = le-leb q.bytes 1008 (omega arith) in
    let tiny : route_of q.bytes ≡ range.Tiny = rw low refl in
    absurd (false≢true (sym (ap is_large_range tiny) ∙ ap is_large_range large))

module _ (p : Profile) (h : List Entry) (q : Request) where
  -- a large request that one entry serves gets the cached run that fits best
  pub best_is_served :
      (e : Entry) (b : Block) → IsForLarge q → IsServed p h q (e ∷ []) (Some b)
      → best_fit (kept_at (state_before p h e.ticket) (spot_of (Large q.zone))).cached (units_of q.bytes) ≡ Some (run_of b)
  best_is_served e b many (by_nano a zone some few align all is) = few_not_large q few many
  best_is_served e b many (by_magazine r a here all is) = regional_not_large p q r here many
  best_is_served e b many (by_depot r a f here all is) = regional_not_large p q r here many
  best_is_served e b many (by_fresh_region r a f front flushes back here whole full between all is) = regional_not_large p q r here many
  best_is_served e b many (null_in_range r front flushes last here whole full between dry is) = regional_not_large p q r here many
  best_is_served e b many (by_cache d a s large whole all best is) =
      let same : e ≡ d = cc in
      let block : b ≡ block_at a s = cc in
      ap (λ (x : Entry). best_fit (kept_at (state_before p h x.ticket) (spot_of (Large q.zone))).cached (units_of q.bytes)) same ∙ best ∙ ap (λ (c : Block). Some (run_of c)) (sym block)
  best_is_served e b many (by_fresh_run f first flushes back large whole full between all is) =
      let one : 1 ≡ length (first ∷ flushes ++ back) = ap length whole in
      let two : length (events back) ≡ 2 = ap length all in
      absurd (omega (arith, length-append (first ∷ flushes) back, length-map back (λ (d : Entry). d.event)))
  best_is_served e b many (null_in_large first last flushes large whole full between dry is) = some_none b _ is

  last_same : (es ds : List Entry) (e d : Entry) → es ++ e ∷ [] ≡ ds ++ d ∷ [] → d ≡ e
  last_same es ds e d same =
      let both : ◌≡◌ {A = Option Entry} (Some e) (Some d) = sym (last_behind es (e ∷ []) e refl) ∙ ap last_of same ∙ last_behind ds (d ∷ []) d refl in cc

  -- a request that gets none leaves no duty
  pub null_is_settled : (es : List Entry) (e : Entry) → IsServed p h q (es ++ e ∷ []) None → duty_left p h e ≡ None
  null_is_settled es e (by_nano a zone some few align all is) = none_some _ _ is
  null_is_settled es e (by_magazine r a here all is) = none_some _ _ is
  null_is_settled es e (by_depot r a f here all is) = none_some _ _ is
  null_is_settled es e (by_fresh_region r a f front flushes back here whole full between all is) = none_some _ _ is
  null_is_settled es e (null_in_range r front flushes last here whole full between dry is) =
      subst (λ (d : Entry). duty_left p h d ≡ None) (last_same es (front ++ flushes) e last whole) dry.no_duty
  null_is_settled es e (by_cache d a s large whole all best is) = none_some _ _ is
  null_is_settled es e (by_fresh_run f first flushes back large whole full between all is) = none_some _ _ is
  null_is_settled es e (null_in_large first last flushes large whole full between dry is) =
      subst (λ (d : Entry). duty_left p h d ≡ None) (last_same es (first ∷ flushes) e last whole) dry.no_duty
