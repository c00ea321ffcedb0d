-- The magazine alone, and then the depot.
use Rattle.std.proofs.Common.{◌≡◌, ℕ, ◌+◌, ◌<◌, ◌≤◌, true, [], ◌∷◌, ◌++◌, refl, ap, sym, subst, ◌∙◌, arith, inl, ⊎_elim, Option, Some, None}
use Rattle.std.specs.Prelude.{Result, Ok, Err, if◌then◌else◌}
use Rattle.std.proofs.lemmas.Bool.{false≢true}
use Rattle.mz_ground.specs.Views.{SpanView}
use Rattle.mz_events.specs.declared.place.Place.{Place}
use Rattle.mz_events.specs.declared.event.Event.{Event}
use Rattle.mz_events.specs.declared.event.Event.TheVariants.{Move, New, Full}
use Rattle.mz_events.specs.declared.entry.Entry.{Entry}
use Rattle.mz_events.specs.declared.place.Place.TheVariants.{Tiny, Small}
use Rattle.mz_events.specs.Standing.{Keeping}
use Rattle.mz_rack.specs.Asking.{MayAsk}
use Rattle.mz_events.specs.Places.{is_magazine, is_depot, is_size_of, depot_of, spot_of}
use Rattle.mz_events.specs.State.{Value, Deed, is_open}
use Rattle.mz_events.specs.Rules.{claim_of, is_lowest_with_room}
use Rattle.mz_events.specs.Fitting.{IsStanding}
use Rattle.mz_book.specs.Keepers.{is_held}
use Rattle.mz_book.specs.Account.{Account, state_of, known, holds_spot, entry_at}
use Rattle.mz_book.specs.Calls.{CanNote, Notes, Holds}
use Rattle.mz_book.specs.Growth.{GrowsHolding}
use Rattle.mz_rack.specs.declared.lot.Null.{Null}
use Rattle.mz_rack.specs.declared.way.Way.{Way}
use Rattle.mz_rack.specs.BookLaws.{BookLaws}
use Rattle.mz_rack.specs.Answering.{HasNoRoom}
use Rattle.mz_rack.specs.Stages.{at_magazine, at_depot, Keeps, CanAsk, Ready, Tried, IsFull, HoldsBoth, IsMovedOver, AreFull, IsServed, by_magazine, by_depot, Served}
use Rattle.mz_rack.proofs.Steps.{same_number, same_spot_refl, one_spot, two_spots, held_at, its_place, learn_touched, learn_other, can_note, can_same, standing, plain_k, plain_d, there_d, one_k, two_k, two_d, rest_grows}
use Rattle.mz_rack.proofs.Trying.{power_some, size_some}

abbrev pub deed_at : ℕ → Event → Option Deed
deed_at c e = Some (record { caller = c; event = e })

pub found_full : (c : ℕ) (k : Place) (n al : ℕ) (last : Option Deed) → last ≡ deed_at c (Full k n al) → claim_of c last ≡ Some (n, al)
found_full c k n al last h = ap (λ o. claim_of c o) h ∙ ap (λ b. if b then Some (n, al) else None) (same_number c)

-- a span is of the space still
pub got_later : (s t y : Account) (x : SpanView) → t.site ≡ s.site → y.site ≡ t.site → x.space ≡ s.site → x.space ≡ y.site
got_later s t y x a b h = h ∙ sym (b ∙ a)

size_of_depot : (q : Place) (n : ℕ) → is_magazine q ≡ true → is_size_of q n ≡ true → is_size_of (depot_of q) n ≡ true
size_of_depot (Tiny z m) n h s = s
size_of_depot (Small z m) n h s = s
size_of_depot _ n h s = absurd (false≢true h)

-- the magazine is held

pub record HeldOne (s : Account) (w : Way) (n al : ℕ) (t : Account) : Type 0 where
  pub since : GrowsHolding s [] 1 t
  pub held : t.held ≡ w.k ∷ []
  pub ready : Ready t w n al

module _ (L : BookLaws) (w : Way) (n al : ℕ) where
  pub held_one : (s t : Account) → CanAsk s w n al → s.held ≡ [] → Holds s w.k t → HeldOne s w n al t
  held_one s t can none h =
      let since = L.hold s t w.k h in
      let held : t.held ≡ w.k ∷ [] = ap (λ (v : Account). v.held) h.after ∙ ap (λ x. x ++ w.k ∷ []) none in
      let can_t = can_same s t w n al can since.grows.adds.same since.grows.adds.zones in
      record {
        since = since;
        held = held;
        ready = record {
          can = can_t;
          here = ap (λ x. is_held t.profile x (at_magazine w)) held ∙ one_k L t.profile w can_t.way;
          calm = ap (λ (x : Place). (known t (spot_of x)).duty) (sym (its_place L s w.magazine w.k can.way.k (plain_k L s.profile w can.way) can.way.exists)) ∙ h.calm;
        };
      }

  pub full_one : (t u : Account) (i : ℕ) → Ready t w n al → t.held ≡ w.k ∷ [] → Tried t w n al (Err i) u → IsFull u w n al
  full_one t u i r held z =
      let same = z.since.grows.adds.same in
      record {
        can = can_same t u w n al r.can same z.since.grows.adds.zones;
        held = z.held ∙ held;
        calm = ap (λ (v : Value). v.duty) z.learns;
        last = ap (λ (v : Value). v.last) z.learns ∙ ap (λ c. deed_at c (Full w.magazine n al)) (sym same.caller);
      }

  pub served_one : (s t u y : Account) (x : SpanView) → HeldOne s w n al t → Tried t w n al (Ok x) u → y ≡ record u { held = [] } → Served [] 0 s w n al (Ok x) y
  served_one s t u y x h z go =
      let e = entry_at z.ticket t.caller (New w.magazine x.first n al) in
      let all = L.joined s t u [] (e ∷ []) 1 0 h.since z.since in
      record {
        mine = e ∷ [];
        holds = 1;
        grows = rest_grows L s (e ∷ []) 1 u [] y all.grows go;
        nothing_held = ap (λ (v : Account). v.held) go;
        served = by_magazine x refl refl refl;
        is = (got_later t u y x z.since.grows.adds.same.site (ap (λ (v : Account). v.site) go) z.is.0, z.is.1);
      }

  pub served_full : (s t u y : Account) (i : ℕ) (got : Result SpanView Null) → HeldOne s w n al t → Tried t w n al (Err i) u
      → Served (entry_at i u.caller (Full w.magazine n al) ∷ []) 1 u w n al got y → Served [] 0 s w n al got y
  served_full s t u y i got h z b =
      let f = Full w.magazine n al in
      let e = entry_at z.ticket t.caller f in
      let all = L.joined s t u [] (e ∷ []) 1 0 h.since z.since in
      let same : entry_at i u.caller f ≡ e = ap (λ j. entry_at j u.caller f) z.is.0 ∙ ap (λ c. entry_at z.ticket c f) z.since.grows.adds.same.caller in
      record {
        mine = e ∷ b.mine;
        holds = 1 + b.holds;
        grows = L.ended s u y (e ∷ []) b.mine 1 b.holds all b.grows;
        nothing_held = b.nothing_held;
        served = let count : 1 + b.holds ≡ 0 + (1 + b.holds) = omega arith in
            subst (λ j. IsServed s.caller y w n al (e ∷ b.mine) j got) count (subst (λ c. IsServed c y w n al (e ∷ b.mine) (1 + b.holds) got) all.grows.adds.same.caller (subst (λ (d : Entry). IsServed u.caller y w n al (d ∷ b.mine) (1 + b.holds) got) same b.served));
        is = b.is;
      }

-- the depot is held too

pub record HeldBoth (s : Account) (w : Way) (n al : ℕ) (t : Account) : Type 0 where
  pub since : GrowsHolding s [] 1 t
  pub both : HoldsBoth t w n al
  pub same_k : known t (at_magazine w) ≡ known s (at_magazine w)

-- and is full
pub record FullBoth (s : Account) (w : Way) (n al i : ℕ) (t u : Account) : Type 0 where
  pub since : GrowsHolding s (entry_at i t.caller (Full w.depot n al) ∷ []) 1 u
  pub after : GrowsHolding t (entry_at i t.caller (Full w.depot n al) ∷ []) 0 u
  pub full : AreFull u w n al
  pub same_k : known u (at_magazine w) ≡ known t (at_magazine w)
  pub kept_d : (known u (at_depot w)).kept ≡ (known t (at_depot w)).kept

module _ (L : BookLaws) (w : Way) (n al : ℕ) where
  pub held_both : (s t : Account) → IsFull s w n al → Holds s w.d t → HeldBoth s w n al t
  held_both s t f h =
      let way = f.can.way in
      let since = L.hold s t w.d h in
      let same = since.grows.adds.same in
      let same_k = h.stays (at_magazine w) (ap (λ x. is_held s.profile x (at_magazine w)) f.held ∙ one_k L s.profile w way) in
      record {
        since = since;
        both = record {
          can = can_same s t w n al f.can same since.grows.adds.zones;
          held = ap (λ (v : Account). v.held) h.after ∙ ap (λ x. x ++ w.d ∷ []) f.held;
          calm_k = ap (λ (v : Value). v.duty) same_k ∙ f.calm;
          calm_d = ap (λ (x : Place). (known t (spot_of x)).duty) (sym (its_place L s (depot_of w.magazine) w.d way.d (plain_d L s.profile w way) (there_d L s.profile w way))) ∙ h.calm;
          last_k = ap (λ (v : Value). v.last) same_k ∙ (f.last ∙ ap (λ c. deed_at c (Full w.magazine n al)) (sym same.caller));
        };
        same_k = same_k;
      }

  module _ (t : Account) (k : HoldsBoth t w n al) where
    pub here_k : holds_spot t (at_magazine w) ≡ true
    here_k = ap (λ x. is_held t.profile x (at_magazine w)) k.held ∙ two_k L t.profile w k.can.way

    pub here_d : holds_spot t (at_depot w) ≡ true
    here_d = ap (λ x. is_held t.profile x (at_depot w)) k.held ∙ two_d L t.profile w k.can.way

    pub can_full_depot : t.caller < t.profile.callers → 1 ≤ t.spare → HasNoRoom (known t (at_depot w)).kept n al → CanNote t (Full w.depot n al)
    can_full_depot c room none =
        let way = k.can.way in
        let m = way.magazine in
        let kinds = L.depot t.profile w.magazine m in
        let st = standing t w n al k.can c in
        let there : IsStanding t.profile (state_of t) t.caller (depot_of w.magazine) = record {
          caller = st.caller;
          exists = there_d L t.profile w way;
          zone_open = ap (λ z. is_open (state_of t) z) kinds.zone ∙ st.zone_open;
        } in
        subst (λ d. CanNote t (Full d n al)) (sym way.depot)
        (can_note t (Full (depot_of w.magazine) n al) room refl refl refl
        (λ j y. held_at t j (at_depot w) (one_spot L j (at_depot w) y) here_d)
        (((L.fits t.profile (state_of t) t.caller).full (depot_of w.magazine) n al).1 (record {
          standing = there;
          kind = rw (kinds.depot_no_magazine, kinds.is_depot_of) refl;
          calm = k.calm_d;
          some = size_some w.magazine n m k.can.size;
          some_alignment = power_some al k.can.power;
          no_room = λ _. none;
          none_fits = λ y. absurd (false≢true (sym kinds.depot.not_large ∙ y));
        })))

    pub can_move : (f : ℕ) → t.caller < t.profile.callers → 1 ≤ t.spare → is_lowest_with_room (known t (at_depot w)).kept f (n, al) ≡ true → CanNote t (Move f w.depot w.magazine)
    can_move f c room low =
        let way = k.can.way in
        let m = way.magazine in
        subst (λ d. CanNote t (Move f d w.magazine)) (sym way.depot)
        (can_note t (Move f (depot_of w.magazine) w.magazine) room refl refl refl
        (λ j y. ⊎_elim (λ (e : j ≡ at_depot w). held_at t j (at_depot w) e here_d) (λ (e : j ≡ at_magazine w). held_at t j (at_magazine w) e here_k) (two_spots L j (at_depot w) (at_magazine w) y))
        (((L.fits t.profile (state_of t) t.caller).take_out w.magazine f m).1 (record {
          standing = standing t w n al k.can c;
          allowed = inl k.calm_k;
          depot_allowed = inl k.calm_d;
          request = (n, al);
          full = found_full t.caller w.magazine n al (known t (at_magazine w)).last k.last_k;
          lowest = low;
        })))

    pub is_depot_of : is_depot (depot_of w.magazine) ≡ true
    is_depot_of = (L.depot t.profile w.magazine k.can.way.magazine).is_depot_of

    pub size_in_depot : is_size_of (depot_of w.magazine) n ≡ true
    size_in_depot = size_of_depot w.magazine n k.can.way.magazine k.can.size

    -- the depot may be asked
    pub may_ask_depot : (v : Keeping) → Keeps t (depot_of w.magazine) v → MayAsk v n al
    may_ask_depot v h = record {
      space = t.site;
      profile = t.profile;
      place = depot_of w.magazine;
      kept = (known t (at_depot w)).kept;
      stands = h;
      regions = rw ((L.depot t.profile w.magazine k.can.way.magazine).depot_no_magazine, is_depot_of) refl;
      size = size_in_depot;
      power = k.can.power;
      range = k.can.range;
    }

  pub full_both : (s t u : Account) (i : ℕ) → HeldBoth s w n al t → CanNote t (Full w.depot n al) → Notes t (Full w.depot n al) i u → FullBoth s w n al i t u
  full_both s t u i a can h =
      let k = a.both in
      let way = k.can.way in
      let kinds = L.depot t.profile w.magazine way.magazine in
      let e = Full (depot_of w.magazine) n al in
      let h' : Notes t e i u = subst (λ d. Notes t (Full d n al) i u) way.depot h in
      let since = L.note t u (Full w.depot n al) i can refl h in
      let same = since.grows.adds.same in
      let at_k = learn_other t e i u (at_magazine w) h' (here_k t k) (rw kinds.apart refl) in
      let at_d = learn_touched t e i u (at_depot w) h' (here_d t k) (rw (same_spot_refl L (at_depot w)) refl) ∙ (L.leaves (state_of t) t.caller).full (depot_of w.magazine) n al in
      record {
        since = L.joined s t u [] (entry_at i t.caller (Full w.depot n al) ∷ []) 1 0 a.since since;
        after = since;
        full = record {
          both = record {
            can = can_same t u w n al k.can same since.grows.adds.zones;
            held = ap (λ (v : Account). v.held) h.after ∙ k.held;
            calm_k = ap (λ (v : Value). v.duty) at_k ∙ k.calm_k;
            calm_d = ap (λ (v : Value). v.duty) at_d;
            last_k = ap (λ (v : Value). v.last) at_k ∙ (k.last_k ∙ ap (λ c. deed_at c (Full w.magazine n al)) (sym same.caller));
          };
          last_d = ap (λ (v : Value). v.last) at_d ∙ ap (λ c. deed_at c e) (sym same.caller);
        };
        same_k = at_k;
        kept_d = ap (λ (v : Value). v.kept) at_d;
      }

  pub served_moved : (s t y : Account) (i f : ℕ) (x : SpanView) → HeldBoth s w n al t → IsMovedOver t w n al f x y → Served (entry_at i s.caller (Full w.magazine n al) ∷ []) 1 s w n al (Ok x) y
  served_moved s t y i f x a b =
      let es = entry_at b.i t.caller (Move f w.depot w.magazine) ∷ entry_at b.j t.caller (New w.magazine x.first n al) ∷ [] in
      record {
        mine = es;
        holds = 1;
        grows = L.ended s t y [] es 1 0 a.since b.grows;
        nothing_held = b.nothing_held;
        served = by_depot x f refl refl refl;
        is = (b.space ∙ sym b.grows.adds.same.site, b.size);
      }

  pub served_depot_full : (s t u y : Account) (j i : ℕ) (got : Result SpanView Null) → HeldBoth s w n al t → FullBoth s w n al i t u
      → Served (entry_at j u.caller (Full w.magazine n al) ∷ entry_at i u.caller (Full w.depot n al) ∷ []) 2 u w n al got y → Served (entry_at j s.caller (Full w.magazine n al) ∷ []) 1 s w n al got y
  served_depot_full s t u y j i got a b r =
      let f = Full w.magazine n al in
      let d = Full w.depot n al in
      let e = entry_at i t.caller d in
      let two : u.caller ≡ t.caller = b.after.grows.adds.same.caller in
      let one : t.caller ≡ s.caller = a.since.grows.adds.same.caller in
      let moved : IsServed s.caller y w n al (entry_at j s.caller f ∷ e ∷ r.mine) (2 + r.holds) got =
      subst (λ c. IsServed c y w n al (entry_at j c f ∷ e ∷ r.mine) (2 + r.holds) got) (two ∙ one)
      (subst (λ c. IsServed u.caller y w n al (entry_at j u.caller f ∷ entry_at i c d ∷ r.mine) (2 + r.holds) got) two r.served) in
      let count : 2 + r.holds ≡ 1 + (1 + r.holds) = omega arith in
      record {
        mine = e ∷ r.mine;
        holds = 1 + r.holds;
        grows = L.ended s u y (e ∷ []) r.mine 1 r.holds b.since r.grows;
        nothing_held = r.nothing_held;
        served = subst (λ c. IsServed s.caller y w n al (entry_at j s.caller f ∷ e ∷ r.mine) c got) count moved;
        is = r.is;
      }
