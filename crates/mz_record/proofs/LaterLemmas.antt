-- What a request's entries are in a history they are in one that goes on too: no later entry comes between them.
use Rattle.std.proofs.Common.{◌≡◌, ℕ, zero, suc, refl, ◌+◌, ◌<◌, ◌≤◌, List, [], ◌∷◌, ◌++◌, Option, Some, map, length, take, ap, sym, subst, ◌∙◌, arith}
use Rattle.std.specs.Prelude.{Contains, slice_get, ◌↔◌}
use Rattle.std.proofs.lemmas.Option.{slice_get_read, get_or_from_slice_get}
use Rattle.std.proofs.lemmas.List.{take-append-le}
use Rattle.std.proofs.lemmas.List.Elements.{Contains-append_left, Contains-append_right}
use Rattle.mz_base.specs.declared.profile.Profile.{Profile}
use Rattle.mz_base.specs.Space.{Block}
use Rattle.mz_base.specs.Sizes.{units_of}
use Rattle.mz_events.specs.declared.place.Place.TheVariants.{Large}
use Rattle.mz_events.specs.declared.entry.Entry.{Entry}
use Rattle.mz_events.specs.Places.{spot_of}
use Rattle.mz_events.specs.Room.{best_fit}
use Rattle.mz_events.specs.State.{State, opening, value_at, kept_at}
use Rattle.mz_events.specs.Effect.{touched}
use Rattle.mz_events.specs.History.{AreLawful, after_entry, after_all}
use Rattle.mz_record.specs.Moments.{state_before, state_at, first_some, duty_left, MeetsDuty, MeetDuties}
use Rattle.mz_record.specs.Served.{Request, AreFlushes, IsLastDry, IsServed, by_nano, by_magazine, by_depot, by_fresh_region, null_in_range, by_cache, by_fresh_run, null_in_large, IsUndisturbed, Serves}
use Rattle.mz_record.specs.Dropped.{IsDropped}

-- the laws on which this rests
pub record HistoryLaws : Type 0 where
  pub index : (p : Profile) (s : State) (es : List Entry) → AreLawful p s es → (i : ℕ) (e : Entry) → slice_get es i ≡ Some e → e.ticket ≡ s.entries + i
  pub joined : (p : Profile) (s : State) (xs ys : List Entry) → AreLawful p s (xs ++ ys) ↔ (AreLawful p s xs × AreLawful p (after_all p s xs) ys)
  pub before : (p : Profile) (h : List Entry) (n : ℕ) → AreLawful p opening h → state_before p h n ≡ after_all p opening (take n h)
  pub at : (p : Profile) (h : List Entry) (n : ℕ) → AreLawful p opening h → state_at p h n ≡ after_all p opening (take n h)

-- each of these entries comes before ticket n
abbrev pub AreBefore : ℕ → List Entry → Type 0
AreBefore n es = (e : Entry) → Contains es e → e.ticket < n

front_before : (n : ℕ) (xs ys : List Entry) → AreBefore n (xs ++ ys) → AreBefore n xs
front_before n xs ys all e listed = all e (Contains-append_left xs ys e listed)

back_before : (n : ℕ) (xs ys : List Entry) → AreBefore n (xs ++ ys) → AreBefore n ys
back_before n xs ys all e listed = all e (Contains-append_right xs ys e listed)

first_before : (n : ℕ) (x : Entry) (ys : List Entry) → AreBefore n (x ∷ ys) → x.ticket < n
first_before n x ys all = all x (0, omega arith, refl)

last_before : (n : ℕ) (xs : List Entry) (y : Entry) → AreBefore n (xs ++ y ∷ []) → y.ticket < n
last_before n xs y all = first_before n y [] (back_before n xs (y ∷ []) all)

middle_before : (n : ℕ) (es xs ys zs : List Entry) → es ≡ xs ++ ys ++ zs → AreBefore n es → AreBefore n ys
middle_before n es xs ys zs whole all = back_before n xs ys (front_before n (xs ++ ys) zs (subst (AreBefore n) whole all))

get_in_front : (xs ys : List Entry) (i : ℕ) → i < length xs → slice_get (xs ++ ys) i ≡ slice_get xs i
get_in_front [] ys i low = absurd (omega (arith, low))
get_in_front (x ∷ xs) ys zero low = refl
get_in_front (x ∷ xs) ys (suc i) low = get_in_front xs ys i (omega (arith, low))

-- an entry of a list is at its index
get_at : (xs : List Entry) (e : Entry) (at : Contains xs e) → slice_get xs at.0 ≡ Some e
get_at xs e at = slice_get_read xs (length xs) at.0 e refl at.1 (sym at.2)

module _ (L : HistoryLaws) (p : Profile) (h later : List Entry) (lawful : AreLawful p opening (h ++ later)) where
  lawful_before : AreLawful p opening h
  lawful_before = ((L.joined p opening h later).0 lawful).0

  same_before : (n : ℕ) → n ≤ length h → state_before p (h ++ later) n ≡ state_before p h n
  same_before n low = L.before p (h ++ later) n lawful ∙ (ap (λ es. after_all p opening es) (take-append-le n h later low) ∙ sym (L.before p h n lawful_before))

  pub same_at : (n : ℕ) → n ≤ length h → state_at p (h ++ later) n ≡ state_at p h n
  same_at n low = L.at p (h ++ later) n lawful ∙ (ap (λ es. after_all p opening es) (take-append-le n h later low) ∙ sym (L.at p h n lawful_before))

  same_duty : (e : Entry) → e.ticket < length h → duty_left p (h ++ later) e ≡ duty_left p h e
  same_duty e low =
      ap (λ s. first_some (map (λ j. (value_at (after_entry p s e) j).duty) (touched p e.event))) (same_before e.ticket (let l = low in omega (arith, l)))

  -- an entry of the longer history with a lower ticket is one of the shorter
  is_there : (x : Entry) → Contains (h ++ later) x → x.ticket < length h → Contains h x
  is_there x at low =
      let get = get_at (h ++ later) x at in
      let ticket : x.ticket ≡ 0 + at.0 = L.index p opening (h ++ later) lawful at.0 x get in
      let inside : at.0 < length h = omega (arith, ticket, low) in
      (at.0, inside, get_or_from_slice_get h at.0 x x (sym (get_in_front h later at.0 inside) ∙ get))

  -- those of the shorter history come before its length
  pub are_before : (es : List Entry) → ((e : Entry) → Contains es e → Contains h e) → AreBefore (length h) es
  are_before es there e listed =
      let at = there e listed in
      let ticket : e.ticket ≡ 0 + at.0 = L.index p opening h lawful_before at.0 e (get_at h e at) in
      let low = at.1 in
      omega (arith, ticket, low)

  still_meets : (e d : Entry) → e.ticket < length h → d.ticket < length h → MeetsDuty p h e d → MeetsDuty p (h ++ later) e d
  still_meets e d first second meets = record {
    duty = same_duty e first ∙ meets.duty;
    at_once = λ x at after before. meets.at_once x (is_there x at (let low = before in omega (arith, low, second))) after before;
  }

  still_met : (e : Entry) (ds : List Entry) → e.ticket < length h → AreBefore (length h) ds → MeetDuties p h e ds → MeetDuties p (h ++ later) e ds
  still_met e [] first all met = same_duty e first ∙ met
  still_met e (d ∷ ds) first all met =
      let second = first_before (length h) d ds all in
      (still_meets e d first second met.0, still_met d ds second (back_before (length h) (d ∷ []) ds all) met.1)

  still_flushes : (z w al : ℕ) (fs : List Entry) → AreBefore (length h) fs → AreFlushes p h z w al fs → AreFlushes p (h ++ later) z w al fs
  still_flushes z w al [] all flushes = tt
  still_flushes z w al (d ∷ []) all flushes = flushes
  still_flushes z w al (d ∷ b ∷ fs) all flushes =
      let rest = back_before (length h) (d ∷ []) (b ∷ fs) all in (
        flushes.0,
        still_meets d b (first_before (length h) d (b ∷ fs) all) (first_before (length h) b fs rest) flushes.1,
        still_flushes z w al fs (back_before (length h) (b ∷ []) fs rest) flushes.2,
      )

  still_dry : (z w al : ℕ) (d : Entry) → d.ticket < length h → IsLastDry p h z w al d → IsLastDry p (h ++ later) z w al d
  still_dry z w al d low dry = record { event = dry.event; no_duty = same_duty d low ∙ dry.no_duty }

  still_served : (q : Request) (es : List Entry) (got : Option Block) → AreBefore (length h) es → IsServed p h q es got → IsServed p (h ++ later) q es got
  still_served q es got all (by_nano a zone some few align events is) = by_nano a zone some few align events is
  still_served q es got all (by_magazine r a here events is) = by_magazine r a here events is
  still_served q es got all (by_depot r a f here events is) = by_depot r a f here events is
  still_served q es got all (by_fresh_region r a f front flushes back here whole full between events is) =
      let rest = middle_before (length h) es front flushes back whole all in
      by_fresh_region r a f front flushes back here whole full (still_flushes q.zone r.pages r.pages flushes rest between) events is
  still_served q es got all (null_in_range r front flushes last here whole full between dry is) =
      let rest = middle_before (length h) es front flushes (last ∷ []) whole all in
      let low = last_before (length h) (front ++ flushes) last (subst (AreBefore (length h)) whole all) in
      null_in_range r front flushes last here whole full (still_flushes q.zone r.pages r.pages flushes rest between) (still_dry q.zone r.pages r.pages last low dry) is
  still_served q es got all (by_cache e a s many whole event best is) =
      let low : e.ticket < length h = first_before (length h) e [] (subst (AreBefore (length h)) whole all) in
      let same = ap (λ x. best_fit (kept_at x (spot_of (Large q.zone))).cached (units_of q.bytes)) (same_before e.ticket (omega (arith, low))) in
      by_cache e a s many whole event (same ∙ best) is
  still_served q es got all (by_fresh_run f first flushes back many whole full between events is) =
      let rest = middle_before (length h) es (first ∷ []) flushes back whole all in
      by_fresh_run f first flushes back many whole full (still_flushes q.zone (units_of q.bytes) 1 flushes rest between) events is
  still_served q es got all (null_in_large first last flushes many whole full between dry is) =
      let rest = middle_before (length h) es (first ∷ []) flushes (last ∷ []) whole all in
      let low = last_before (length h) (first ∷ flushes) last (subst (AreBefore (length h)) whole all) in
      null_in_large first last flushes many whole full (still_flushes q.zone (units_of q.bytes) 1 flushes rest between) (still_dry q.zone (units_of q.bytes) 1 last low dry) is

  still_undisturbed : (c : ℕ) (es : List Entry) → AreBefore (length h) es → IsUndisturbed p h c es → IsUndisturbed p (h ++ later) c es
  still_undisturbed c es all calm x j at_x there within =
      let low = within.before in
      let last = all within.dry within.has_dry in
      calm x j (is_there x at_x (omega (arith, low, last))) there within

  pub still_serves : (q : Request) (es : List Entry) (got : Option Block) → AreBefore (length h) es → Serves p h q es got → Serves p (h ++ later) q es got
  still_serves q es got all serves = record { served = still_served q es got all serves.served; undisturbed = still_undisturbed q.caller es all serves.undisturbed }

  pub still_dropped : (b : Block) (es : List Entry) → AreBefore (length h) es → IsDropped p h b es → IsDropped p (h ++ later) b es
  still_dropped b [] all dropped = dropped
  still_dropped b (e ∷ es) all dropped =
      (dropped.0, dropped.1, still_met e es (first_before (length h) e es all) (back_before (length h) (e ∷ []) es all) dropped.2)
