-- Large and the pages are held too.
use Rattle.std.proofs.Common.{◌≡◌, ℕ, ◌*◌, ◌%◌, ◌<◌, ◌≤◌, ◌==◌, true, false, [], ◌∷◌, ◌++◌, length, refl, ap, sym, subst, ◌∙◌, arith, None}
use Rattle.std.specs.Prelude.{◌&&◌, ◌||◌, nat_le, Ok, Err}
use Rattle.std.specs.List.{list_all}
use Rattle.std.proofs.lemmas.Bool.{false≢true, and_parts, eqb-true}
use Rattle.std.proofs.lemmas.Bool.Decides.{nat_tests}
use Rattle.mz_base.specs.declared.range.TheConstants.{PAGE}
use Rattle.mz_base.specs.Space.{Run, run_at, runs_apart}
use Rattle.mz_base.specs.Room.{is_free, is_lowest_free}
use Rattle.mz_ground.specs.Views.{SpanView}
use Rattle.mz_events.specs.declared.place.Place.{Place}
use Rattle.mz_events.specs.declared.place.Place.TheVariants.{Pages, Tiny, Small, Large}
use Rattle.mz_events.specs.declared.event.Event.TheVariants.{Take, New, Full}
use Rattle.mz_events.specs.Places.{is_magazine, is_depot, is_size_of, is_length_of, depot_of, nano_start, Spot, same_spot, spot_of}
use Rattle.mz_events.specs.State.{Value, opening, nothing_kept}
use Rattle.mz_events.specs.History.{AreLawful}
use Rattle.mz_events.specs.Locality.{reads}
use Rattle.mz_events.specs.Changes.{with_region, with_run, pages_without}
use Rattle.mz_events.specs.Standing.{Keeping, Stands}
use Rattle.mz_book.specs.Keepers.{is_held}
use Rattle.mz_book.specs.Account.{Account, state_of, known, holds_spot, entry_at}
use Rattle.mz_book.specs.Calls.{CanNote, Notes, Holds}
use Rattle.mz_book.specs.Growth.{Grows, GrowsHolding}
use Rattle.mz_rack.specs.declared.lot.Null.TheVariants.{Ranged}
use Rattle.mz_rack.specs.declared.way.Way.{Way}
use Rattle.mz_rack.specs.declared.region.AnyRegion.{AnyRegion}
use Rattle.mz_rack.specs.Regions.{run_in, view_in}
use Rattle.mz_rack.specs.BookLaws.{BookLaws}
use Rattle.mz_large.specs.Large.{run_of_span}
use Rattle.mz_rack.specs.Runs.{out_of_pages, IsFoundRun, MayFit, IsFitted, with_region_for}
use Rattle.mz_rack.specs.Ways.{IsWay}
use Rattle.mz_rack.specs.Asking.{IsTidy, MayAdopt}
use Rattle.mz_rack.specs.Answering.{IsCut}
use Rattle.mz_rack.specs.Stages.{at_magazine, at_depot, at_large, at_pages, Keeps, HasRoom, Ready, Tried, AreFull, Seeks, IsFresh, LetsGo, IsDried, by_fresh_region, null_in_range, Served}
use Rattle.mz_rack.specs.Seeking.{CanSeek, Sought, dry_at}
use Rattle.std.proofs.lemmas.List.{append-nil}
use Rattle.mz_book.specs.Account.{StandsFor}
use Rattle.std.specs.Prelude.{Result}
use Rattle.mz_rack.proofs.Steps.{test_below, keeps_at, same_spot_refl, apart_back, or_elim, held_at, its_place, learn_touched, learn_other, can_note, can_same, standing, stands_then, zone_below, two_k, two_d, three_k, three_d, three_l, four_k, four_d, four_l, four_p, holds_all, rest_grows}
use Rattle.mz_rack.proofs.RoomLemmas.{room_of_region, room_of_fresh}
use Rattle.mz_rack.proofs.Trying.{power_some, size_some}
use Rattle.mz_rack.proofs.Moving.{deed_at, found_full}
use Rattle.mz_rack.proofs.Seeking.{flushed_later}
use Rattle.mz_rack.proofs.Tidying.{tidy_of, free_apart, live_apart}

pub some_pages : (q : Place) (w : ℕ) → is_magazine q ≡ true → is_length_of q w ≡ true → 1 ≤ w
some_pages (Tiny y m) w h l = grind (arith, nat_tests, l)
some_pages (Small y m) w h l = grind (arith, nat_tests, l)
some_pages _ w h l = absurd (false≢true h)

-- a block of a range is no larger than a region of it
size_in_region : (q : Place) (n w : ℕ) → is_magazine q ≡ true → is_size_of q n ≡ true → is_length_of q w ≡ true → n ≤ w * 16384
size_in_region (Tiny y m) n w h s l = let t = (and_parts ((n % 16 == 0) && nat_le 16 n) (nat_le n 1008) s).1 in grind (arith, nat_tests, t, l)
size_in_region (Small y m) n w h s l = let t = (and_parts ((n % 512 == 0) && nat_le 1024 n) (nat_le n 32768) s).1 in grind (arith, nat_tests, t, l)
size_in_region _ n w h s l = absurd (false≢true h)

pub record HeldTwo (s : Account) (w : Way) (n al : ℕ) (t u : Account) : Type 0 where
  pub since : GrowsHolding s [] 2 u
  pub seeks : Seeks u w n al
  pub same_k : known u (at_magazine w) ≡ known s (at_magazine w)
  pub same_d : known u (at_depot w) ≡ known s (at_depot w)
  pub same_l : known u (at_large w) ≡ known t (at_large w)

module _ (L : BookLaws) (w : Way) (n al : ℕ) where
  pub held_after_l : (s t : Account) → AreFull s w n al → Holds s w.l t → t.held ≡ w.k ∷ w.d ∷ w.l ∷ []
  held_after_l s t f h = ap (λ (v : Account). v.held) h.after ∙ ap (λ z. z ++ w.l ∷ []) f.both.held

  pub way_after_l : (s t : Account) → AreFull s w n al → Holds s w.l t → IsWay t.profile w
  way_after_l s t f h = let x = L.hold s t w.l h in (can_same s t w n al f.both.can x.grows.adds.same x.grows.adds.zones).way

  pub held_two : (s t u : Account) → AreFull s w n al → Holds s w.l t → Holds t w.p u → HeldTwo s w n al t u
  held_two s t u f h i =
      let b = f.both in
      let way = b.can.way in
      let x = L.hold s t w.l h in
      let y = L.hold t u w.p i in
      let since = L.joined s t u [] [] 1 1 x y in
      let same = x.grows.adds.same in
      let ht : t.held ≡ w.k ∷ w.d ∷ w.l ∷ [] = ap (λ (v : Account). v.held) h.after ∙ ap (λ z. z ++ w.l ∷ []) b.held in
      let hu : u.held ≡ w.k ∷ w.d ∷ w.l ∷ w.p ∷ [] = ap (λ (v : Account). v.held) i.after ∙ ap (λ z. z ++ w.p ∷ []) ht in
      let can_t = can_same s t w n al b.can same x.grows.adds.zones in
      let way_t = can_t.way in
      let sk = h.stays (at_magazine w) (ap (λ z. is_held s.profile z (at_magazine w)) b.held ∙ two_k L s.profile w way) in
      let sd = h.stays (at_depot w) (ap (λ z. is_held s.profile z (at_depot w)) b.held ∙ two_d L s.profile w way) in
      let tk = i.stays (at_magazine w) (ap (λ z. is_held t.profile z (at_magazine w)) ht ∙ three_k L t.profile w way_t) in
      let td = i.stays (at_depot w) (ap (λ z. is_held t.profile z (at_depot w)) ht ∙ three_d L t.profile w way_t) in
      let tl = i.stays (at_large w) (ap (λ z. is_held t.profile z (at_large w)) ht ∙ three_l L t.profile w way_t) in
      let cl : (known t (at_large w)).duty ≡ None = ap (λ (z : Place). (known t (spot_of z)).duty) (sym (its_place L s (Large w.zone) w.l way.l refl (zone_below L s.profile w way))) ∙ h.calm in
      let cp : (known u at_pages).duty ≡ None = ap (λ (z : Place). (known u (spot_of z)).duty) (sym (its_place L t Pages w.p way_t.pages_is refl refl)) ∙ i.calm in
      let c = since.grows.adds.same.caller in
      record {
        since = since;
        seeks = record {
          can = can_same s u w n al b.can since.grows.adds.same since.grows.adds.zones;
          all = record {
            held = hu;
            calm_k = ap (λ (v : Value). v.duty) (tk ∙ sk) ∙ b.calm_k;
            calm_d = ap (λ (v : Value). v.duty) (td ∙ sd) ∙ b.calm_d;
            calm_l = ap (λ (v : Value). v.duty) tl ∙ cl;
            calm_p = cp;
          };
          last_k = ap (λ (v : Value). v.last) (tk ∙ sk) ∙ (b.last_k ∙ ap (λ z. deed_at z (Full w.magazine n al)) (sym c));
          last_d = ap (λ (v : Value). v.last) (td ∙ sd) ∙ (f.last_d ∙ ap (λ z. deed_at z (Full (depot_of w.magazine) n al)) (sym c));
        };
        same_k = tk ∙ sk;
        same_d = td ∙ sd;
        same_l = tl;
      }

module _ (L : BookLaws) (w : Way) (n al : ℕ) (t : Account) (k : Seeks t w n al) where
  here : (j : Spot) → is_held t.profile (w.k ∷ w.d ∷ w.l ∷ w.p ∷ []) j ≡ true → holds_spot t j ≡ true
  here j h = holds_all t w j k.all h

  pub here_k : holds_spot t (at_magazine w) ≡ true
  here_k = here (at_magazine w) (four_k L t.profile w k.can.way)

  pub here_d : holds_spot t (at_depot w) ≡ true
  here_d = here (at_depot w) (four_d L t.profile w k.can.way)

  pub here_l : holds_spot t (at_large w) ≡ true
  here_l = here (at_large w) (four_l L t.profile w k.can.way)

  pub here_p : holds_spot t at_pages ≡ true
  here_p = here at_pages (four_p L t.profile w k.can.way)

  -- a run is taken

  take_reads : (f : ℕ) (j : Spot) → reads t.profile (Take w.magazine f w.pages) j ≡ true → holds_spot t j ≡ true
  take_reads f j h =
      or_elim (same_spot j (at_magazine w) || (same_spot j at_pages || false)) (same_spot j (at_depot w))
      (λ y. or_elim (same_spot j (at_magazine w)) (same_spot j at_pages || false) (λ z. held_at t j (at_magazine w) ((L.spots j (at_magazine w)).0 z) here_k)
      (λ z. or_elim (same_spot j at_pages) false (λ x. held_at t j at_pages ((L.spots j at_pages).0 x) here_p) (λ x. absurd (false≢true x)) z) y)
      (λ y. held_at t j (at_depot w) ((L.spots j (at_depot w)).0 y) here_d)
      h

  module _ (r : AnyRegion) (cut : IsCut t.site t.profile w.magazine (known t at_pages).kept w.pages r) where
    abbrev f : ℕ
    f = (run_in r).first

    abbrev run : Run
    run = run_at f w.pages

    run_is : run ≡ run_in r
    run_is = ap (λ x. run_at f x) (sym cut.pages)

    pub can_take : t.caller < t.profile.callers → 1 ≤ t.spare → CanNote t (Take w.magazine f w.pages)
    can_take c room =
        let way = k.can.way in
        can_note t (Take w.magazine f w.pages) room refl refl refl (take_reads f)
        (((L.fits t.profile (state_of t) t.caller).take_region w.magazine f w.pages way.magazine).1 (record {
          standing = standing t w n al k.can c;
          calm = k.all.calm_k;
          pages_calm = k.all.calm_p;
          length = way.region;
          lowest = subst (λ x. is_lowest_free (nano_start t.profile) (known t at_pages).kept.taken x w.pages ≡ true) (sym run_is) cut.lowest;
          request = (n, al);
          full = found_full t.caller w.magazine n al (known t (at_magazine w)).last k.last_k;
          depot_full = found_full t.caller (depot_of w.magazine) n al (known t (at_depot w)).last k.last_d;
        }))

    pub record Taken (i : ℕ) (u : Account) : Type 0 where
      pub since : GrowsHolding t (entry_at i t.caller (Take w.magazine f w.pages) ∷ []) 0 u
      pub ready : Ready u w n al
      pub held : u.held ≡ w.k ∷ w.d ∷ w.l ∷ w.p ∷ []
      pub kept_k : (known u (at_magazine w)).kept ≡ with_region (run_in r) (view_in r).live (known t (at_magazine w)).kept
      pub at_p : (known u at_pages).kept ≡ pages_without w.magazine (run_in r) (known t at_pages).kept
      pub calm_p : (known u at_pages).duty ≡ None
      pub at_d : known u (at_depot w) ≡ known t (at_depot w)
      pub at_l : known u (at_large w) ≡ known t (at_large w)

    pub taken : (i : ℕ) (u : Account) → CanNote t (Take w.magazine f w.pages) → Notes t (Take w.magazine f w.pages) i u → Taken i u
    taken i u can h =
        let way = k.can.way in
        let m = way.magazine in
        let kinds = L.depot t.profile w.magazine m in
        let e = Take w.magazine f w.pages in
        let since = L.note t u e i can refl h in
        let held : u.held ≡ w.k ∷ w.d ∷ w.l ∷ w.p ∷ [] = ap (λ (v : Account). v.held) h.after ∙ k.all.held in
        let can_u = can_same t u w n al k.can since.grows.adds.same since.grows.adds.zones in
        let at_k = learn_touched t e i u (at_magazine w) h here_k (rw (same_spot_refl L (at_magazine w)) refl) ∙ (L.leaves (state_of t) t.caller).take w.magazine f w.pages kinds.magazine.not_pages in
        let at_p = learn_touched t e i u at_pages h here_p (rw (apart_back L (at_magazine w) at_pages kinds.magazine.apart_from_pages) refl) ∙ (L.leaves (state_of t) t.caller).take_pages w.magazine f w.pages in
        let live : with_run run (known t (at_magazine w)).kept ≡ with_region (run_in r) (view_in r).live (known t (at_magazine w)).kept =
        ap (λ x. with_run x (known t (at_magazine w)).kept) run_is ∙ ap (λ x. with_region (run_in r) x (known t (at_magazine w)).kept) (sym cut.live) in
        record {
          since = since;
          ready = record {
            can = can_u;
            here = ap (λ x. is_held u.profile x (at_magazine w)) held ∙ four_k L u.profile w can_u.way;
            calm = ap (λ (v : Value). v.duty) at_k;
          };
          held = held;
          kept_k = ap (λ (v : Value). v.kept) at_k ∙ live;
          at_p = ap (λ (v : Value). v.kept) at_p ∙ ap (λ x. pages_without w.magazine x (known t at_pages).kept) run_is;
          calm_p = ap (λ (v : Value). v.duty) at_p;
          at_d = learn_other t e i u (at_depot w) h here_d (rw (apart_back L (at_magazine w) (at_depot w) kinds.apart, kinds.depot.apart_from_pages) refl);
          at_l = learn_other t e i u (at_large w) h here_l (rw (apart_back L (at_magazine w) (at_large w) (kinds.magazine.apart_from_large w.zone)) refl);
        }

    -- the run is apart from those of the magazine
    apart_of : AreLawful t.profile opening t.seen → list_all (λ x. runs_apart x (run_in r)) (known t (at_magazine w)).kept.runs ≡ true
    apart_of lawful = free_apart L t lawful (at_magazine w) (run_in r) w.pages cut.lowest

    pub may_adopt : AreLawful t.profile opening t.seen → (v : Keeping) → Keeps t w.magazine v → (i : ℕ) (u : Account) → Taken i u → AreLawful u.profile opening u.seen → MayAdopt v r
    may_adopt lawful v h i u x after =
        let way = k.can.way in
        let m = way.magazine in
        let kinds = L.depot t.profile w.magazine m in
        let tidy = tidy_of L u after w.magazine kinds.magazine.not_nano kinds.magazine.not_large in
        record {
          space = t.site;
          profile = t.profile;
          place = w.magazine;
          kept = (known t (at_magazine w)).kept;
          stands = h;
          regions = ap (λ b. b || is_depot w.magazine) m;
          quantum = cut.quantum;
          of_space = cut.space;
          apart = apart_of lawful;
          tidy = subst (λ z. IsTidy t.profile w.magazine z) x.kept_k (subst (λ z. IsTidy z w.magazine (known u (at_magazine w)).kept) x.since.grows.adds.same.profile tidy);
        }

    pub adopted : (v : Keeping) (i : ℕ) (u : Account) → Taken i u → Stands v t.site t.profile w.magazine (with_region (run_in r) (view_in r).live (known t (at_magazine w)).kept) → Keeps u w.magazine v
    adopted v i u x h = stands_then t u w.magazine _ _ v x.since.grows.adds.same x.kept_k h

    pub has_room_then : AreLawful t.profile opening t.seen → (i : ℕ) (u : Account) → Taken i u → HasRoom (known u (at_magazine w)).kept n al
    has_room_then lawful i u x =
        let way = k.can.way in
        let kinds = L.depot t.profile w.magazine way.magazine in
        let fresh : HasRoom (with_region (run_in r) [] (known t (at_magazine w)).kept) n al =
        room_of_region L.room (known t (at_magazine w)).kept nothing_kept (run_in r) n al (size_some w.magazine n way.magazine k.can.size) (power_some al k.can.power)
        (room_of_fresh (run_in r) n al (subst (λ z. n ≤ z * PAGE) (sym cut.pages) (size_in_region w.magazine n w.pages way.magazine k.can.size way.region)) k.can.power k.can.range)
        (live_apart L t lawful w.magazine (run_in r) kinds.magazine.not_nano (apart_of lawful)) in
        subst (λ z. HasRoom z n al) (sym (x.kept_k ∙ ap (λ z. with_region (run_in r) z (known t (at_magazine w)).kept) cut.live)) fresh

    pub fresh : (i : ℕ) (u v : Account) (x : SpanView) → Taken i u → Tried u w n al (Ok x) v → IsFresh t w n al r x v
    fresh i u v x y z =
        let way = y.ready.can.way in
        let kinds = L.depot u.profile w.magazine way.magazine in
        let there : (j : Spot) → is_held u.profile (w.k ∷ w.d ∷ w.l ∷ w.p ∷ []) j ≡ true → holds_spot u j ≡ true = λ j a. ap (λ b. is_held u.profile b j) y.held ∙ a in
        let at_d = z.others (at_depot w) (there (at_depot w) (four_d L u.profile w way)) (apart_back L (at_magazine w) (at_depot w) kinds.apart) ∙ y.at_d in
        let at_l = z.others (at_large w) (there (at_large w) (four_l L u.profile w way)) (apart_back L (at_magazine w) (at_large w) (kinds.magazine.apart_from_large w.zone)) ∙ y.at_l in
        let at_p = z.others at_pages (there at_pages (four_p L u.profile w way)) (apart_back L (at_magazine w) at_pages kinds.magazine.apart_from_pages) in
        let e1 = entry_at i t.caller (Take w.magazine f w.pages) in
        let same = y.since.grows.adds.same in
        let both = L.joined t u v (e1 ∷ []) (entry_at z.ticket u.caller (New w.magazine x.first n al) ∷ []) 0 0 y.since z.since in
        record {
          i = i;
          j = z.ticket;
          since = subst (λ c. GrowsHolding t (e1 ∷ entry_at z.ticket c (New w.magazine x.first n al) ∷ []) 0 v) same.caller both;
          all = record {
            held = z.held ∙ y.held;
            calm_k = ap (λ (a : Value). a.duty) z.learns;
            calm_d = ap (λ (a : Value). a.duty) at_d ∙ k.all.calm_d;
            calm_l = ap (λ (a : Value). a.duty) at_l ∙ k.all.calm_l;
            calm_p = ap (λ (a : Value). a.duty) at_p ∙ y.calm_p;
          };
          pages = ap (λ (a : Value). a.kept) at_p ∙ y.at_p;
          depot = ap (λ (a : Value). a.kept) at_d;
          large = ap (λ (a : Value). a.kept) at_l;
          space = z.is.0 ∙ same.site;
          size = z.is.1;
        }

-- and that serves the request

module _ (L : BookLaws) (w : Way) (n al : ℕ) where
  -- the search leaves the magazine and the depot as they were
  pub sought_k : (u v : Account) (got : Result SpanView ℕ) → Seeks u w n al → Sought u w.zone w.pages w.pages got v → known v (at_magazine w) ≡ known u (at_magazine w)
  sought_k u v got k y =
      let kinds = (L.depot u.profile w.magazine k.can.way.magazine).magazine in
      y.stays.others (at_magazine w) (holds_all u w (at_magazine w) k.all (four_k L u.profile w k.can.way)) (kinds.apart_from_large w.zone) kinds.apart_from_pages

  pub sought_d : (u v : Account) (got : Result SpanView ℕ) → Seeks u w n al → Sought u w.zone w.pages w.pages got v → known v (at_depot w) ≡ known u (at_depot w)
  sought_d u v got k y =
      let kinds = (L.depot u.profile w.magazine k.can.way.magazine).depot in
      y.stays.others (at_depot w) (holds_all u w (at_depot w) k.all (four_d L u.profile w k.can.way)) (kinds.apart_from_large w.zone) kinds.apart_from_pages

  -- what is sought for is still sought for after it
  pub seeks_then : (u v : Account) (got : Result SpanView ℕ) → Seeks u w n al → Sought u w.zone w.pages w.pages got v → Seeks v w n al
  seeks_then u v got k y =
      let adds = y.since.grows.adds in
      record {
        can = can_same u v w n al k.can adds.same adds.zones;
        all = record {
          held = y.stays.held ∙ k.all.held;
          calm_k = ap (λ (a : Value). a.duty) (sought_k u v got k y) ∙ k.all.calm_k;
          calm_d = ap (λ (a : Value). a.duty) (sought_d u v got k y) ∙ k.all.calm_d;
          calm_l = y.can.calm_l;
          calm_p = y.can.calm_p;
        };
        last_k = ap (λ (a : Value). a.last) (sought_k u v got k y) ∙ (k.last_k ∙ ap (λ z. deed_at z (Full w.magazine n al)) (sym adds.same.caller));
        last_d = ap (λ (a : Value). a.last) (sought_d u v got k y) ∙ (k.last_d ∙ ap (λ z. deed_at z (Full (depot_of w.magazine) n al)) (sym adds.same.caller));
      }

  -- the run that was found makes a region
  pub may_fit : (v : Account) (x : SpanView) (pages : Keeping) → AreLawful v.profile opening v.seen → IsWay v.profile w → IsFoundRun v.site v.profile (known v at_pages).kept w.pages w.pages x
      → Stands pages v.site v.profile Pages (out_of_pages (run_of_span x) (known v at_pages).kept) → MayFit pages x
  may_fit v x pages lawful way found h =
      let top = nano_start v.profile in
      let taken = (known v at_pages).kept.taken in
      let r = run_of_span x in
      let fit = L.regions_fit v.profile v.seen lawful in
      let first = and_parts ((r.first % w.pages == 0) && is_free top taken r) _ found.lowest in
      let parts = and_parts (r.first % w.pages == 0) (is_free top taken r) first.0 in
      record {
        space = v.site;
        profile = v.profile;
        magazine = w.magazine;
        kept = out_of_pages r (known v at_pages).kept;
        stands = h;
        is_one = way.magazine;
        length = subst (λ y. is_length_of w.magazine y ≡ true) (sym found.pages) way.region;
        whole = found.whole;
        aligned = subst (λ y. r.first % y ≡ 0) (sym found.pages) (eqb-true (r.first % w.pages) 0 parts.0);
        one_more_tiny = λ e. fit.one_more_tiny r.first (subst (λ y. is_free top taken (run_at r.first y) ≡ true) e parts.1);
        one_more_small = λ e. fit.one_more_small r.first (subst (λ y. is_free top taken (run_at r.first y) ≡ true) e parts.1);
      }

  pub length_of_run : (v : Account) (x : SpanView) → IsWay v.profile w → IsFoundRun v.site v.profile (known v at_pages).kept w.pages w.pages x → is_length_of w.magazine (run_of_span x).pages ≡ true
  length_of_run v x way found = subst (λ y. is_length_of w.magazine y ≡ true) (sym found.pages) way.region

  pub record IsRegion (v : Account) (r : AnyRegion) (pages : Keeping) : Type 0 where
    pub cut : IsCut v.site v.profile w.magazine (known v at_pages).kept w.pages r
    pub left : Stands pages v.site v.profile Pages (pages_without w.magazine (run_in r) (known v at_pages).kept)

  pub is_region : (v : Account) (x : SpanView) (r : AnyRegion) (pages : Keeping) → IsFoundRun v.site v.profile (known v at_pages).kept w.pages w.pages x
      → IsFitted w.magazine x r × Stands pages v.site v.profile Pages (with_region_for w.magazine (out_of_pages (run_of_span x) (known v at_pages).kept)) → IsRegion v r pages
  is_region v x r pages found fits =
      let fitted = fits.0 in
      record {
        cut = record {
          quantum = fitted.quantum;
          space = fitted.space ∙ found.space;
          live = fitted.live;
          pages = ap (λ (t : Run). t.pages) fitted.run ∙ found.pages;
          lowest = ap (λ (t : Run). is_lowest_free (nano_start v.profile) (known v at_pages).kept.taken t w.pages) fitted.run ∙ found.lowest;
        };
        left = subst (λ (t : Run). Stands pages v.site v.profile Pages (pages_without w.magazine t (known v at_pages).kept)) (sym fitted.run) fits.1;
      }

  pub served_fresh : (s t u v x y : Account) (j d : ℕ) (run : SpanView) (r : AnyRegion) (b : SpanView) → HeldTwo s w n al t u → (q : Sought u w.zone w.pages w.pages (Ok run) v) → length q.flushes ≤ 32 → IsFresh v w n al r b x → LetsGo x y → AreLawful y.profile opening y.seen
      → Served (entry_at j s.caller (Full w.magazine n al) ∷ entry_at d s.caller (Full w.depot n al) ∷ []) 2 s w n al (Ok b) y
  served_fresh s t u v x y j d run r b h q few f go lawful =
      let c : v.caller ≡ s.caller = q.since.grows.adds.same.caller ∙ h.since.grows.adds.same.caller in
      let more = f.since.grows.adds.more in
      let sought = L.joined s u v [] (q.flushes ++ []) 2 0 h.since q.since in
      let all = L.joined s v x (q.flushes ++ []) (entry_at f.i v.caller (Take w.magazine (run_in r).first w.pages) ∷ entry_at f.j v.caller (New w.magazine b.first n al) ∷ []) 2 0 sought f.since in
      let mine : Grows s (q.flushes ++ entry_at f.i s.caller (Take w.magazine (run_in r).first w.pages) ∷ entry_at f.j s.caller (New w.magazine b.first n al) ∷ []) 2 x =
      subst (λ a. Grows s (q.flushes ++ entry_at f.i a (Take w.magazine (run_in r).first w.pages) ∷ entry_at f.j a (New w.magazine b.first n al) ∷ []) 2 x) c
      (subst (λ l. Grows s (l ++ entry_at f.i v.caller (Take w.magazine (run_in r).first w.pages) ∷ entry_at f.j v.caller (New w.magazine b.first n al) ∷ []) 2 x) (append-nil q.flushes) all.grows) in
      record {
        mine = q.flushes ++ entry_at f.i s.caller (Take w.magazine (run_in r).first w.pages) ∷ entry_at f.j s.caller (New w.magazine b.first n al) ∷ [];
        holds = 2;
        grows = rest_grows L s (q.flushes ++ entry_at f.i s.caller (Take w.magazine (run_in r).first w.pages) ∷ entry_at f.j s.caller (New w.magazine b.first n al) ∷ []) 2 x [] y mine go.after;
        nothing_held = ap (λ (a : Account). a.held) go.after;
        served = by_fresh_region b (run_in r).first j d f.i f.j q.flushes refl
            (flushed_later u v y w.zone w.pages w.pages (Ok run) more q few lawful (ap (λ (a : Account). a.profile) go.after ∙ f.since.grows.adds.same.profile) (ap (λ (a : Account). a.seen) go.after ∙ f.since.grows.adds.seen)) refl refl;
        is = (f.space ∙ sym (ap (λ (a : Account). a.site) go.after ∙ f.since.grows.adds.same.site), f.size);
      }

  pub served_null : (s t u v y : Account) (j d i : ℕ) → HeldTwo s w n al t u → (q : Sought u w.zone w.pages w.pages (Err i) v) → length q.flushes ≤ 32 → LetsGo v y → AreLawful y.profile opening y.seen
      → Served (entry_at j s.caller (Full w.magazine n al) ∷ entry_at d s.caller (Full w.depot n al) ∷ []) 2 s w n al (Err (Ranged j d i)) y
  served_null s t u v y j d i h q few go lawful =
      let c = h.since.grows.adds.same.caller in
      let all = L.joined s u v [] (q.flushes ++ dry_at i u.caller w.zone w.pages w.pages ∷ []) 2 0 h.since q.since in
      let mine : Grows s (q.flushes ++ dry_at i s.caller w.zone w.pages w.pages ∷ []) 2 v = subst (λ a. Grows s (q.flushes ++ dry_at i a w.zone w.pages w.pages ∷ []) 2 v) c all.grows in
      record {
        mine = q.flushes ++ dry_at i s.caller w.zone w.pages w.pages ∷ [];
        holds = 2;
        grows = rest_grows L s (q.flushes ++ dry_at i s.caller w.zone w.pages w.pages ∷ []) 2 v [] y mine go.after;
        nothing_held = ap (λ (a : Account). a.held) go.after;
        served = null_in_range j d i q.flushes refl
            (flushed_later u v y w.zone w.pages w.pages (Err i) [] q few lawful (ap (λ (a : Account). a.profile) go.after) (ap (λ (a : Account). a.seen) go.after ∙ sym (append-nil v.seen))) refl refl;
        is = subst (λ (a : Account). IsDried a w.zone w.pages w.pages i) (sym go.after) (record {
          before = q.is.before;
          seen = q.is.seen;
          calm_p = q.is.calm_p;
          calm_l = q.is.calm_l;
        });
      }

  -- the keepers stand for their places once large and the pages are held too
  pub record KeptTwo (u : Account) (large pages magazine depot : Keeping) : Type 0 where
    pub of_l : Keeps u (Large w.zone) large
    pub of_p : Keeps u Pages pages
    pub of_k : Keeps u w.magazine magazine
    pub of_d : Keeps u (depot_of w.magazine) depot

  pub kept_two : (s t u : Account) (f : AreFull s w n al) (hl : Holds s w.l t) → Holds t w.p u → HeldTwo s w n al t u → (large pages magazine depot : Keeping)
      → StandsFor t w.l large → StandsFor u w.p pages → Keeps s w.magazine magazine → Keeps s (depot_of w.magazine) depot → KeptTwo u large pages magazine depot
  kept_two s t u f hl hp h large pages magazine depot of_l of_p of_k of_d =
      let way = h.seeks.can.way in
      let way_t = way_after_l L w n al s t f hl in
      let tl = keeps_at L t (Large w.zone) w.l way_t.l refl (zone_below L t.profile w way_t) large of_l in
      record {
        of_l = stands_then t u (Large w.zone) _ _ large (L.hold t u w.p hp).grows.adds.same (ap (λ (q : Value). q.kept) h.same_l) tl;
        of_p = keeps_at L u Pages w.p way.pages_is refl refl pages of_p;
        of_k = stands_then s u w.magazine _ _ magazine h.since.grows.adds.same (ap (λ (q : Value). q.kept) h.same_k) of_k;
        of_d = stands_then s u (depot_of w.magazine) _ _ depot h.since.grows.adds.same (ap (λ (q : Value). q.kept) h.same_d) of_d;
      }

  pub can_seek : (u : Account) → Seeks u w n al → CanSeek u w.zone w.pages w.pages
  can_seek u k =
      let way = k.can.way in
      let some = some_pages w.magazine w.pages way.magazine way.region in
      record {
        zone = test_below w.zone u.profile.zones (zone_below L u.profile w way);
        zone_open = k.can.zone_open;
        large = holds_all u w (at_large w) k.all (four_l L u.profile w way);
        pages = holds_all u w at_pages k.all (four_p L u.profile w way);
        calm_l = k.all.calm_l;
        calm_p = k.all.calm_p;
        some = some;
        some_alignment = some;
      }
