-- A block that has ended is dropped with all that its end calls for.
use Rattle.std.proofs.Common.{◌≡◌, ℕ, ◌+◌, ◌≤◌, true, false, List, [], ◌∷◌, ◌++◌, length, refl, ap, sym, subst, ◌∙◌, arith, ⊎_elim, Some, None}
use Rattle.std.specs.Prelude.{◌≢◌, nat_lt, Ok, Err, if◌then◌else◌}
use Rattle.std.specs.List.{All, list_all}
use Rattle.std.proofs.lemmas.List.Elements.{All-nil}
use Rattle.std.proofs.lemmas.Bool.{and_from, cond-true, cond-false}
use Rattle.std.proofs.lemmas.Bool.Decides.{nat_tests}
use Rattle.mz_base.specs.declared.profile.Profile.{Profile}
use Rattle.mz_base.specs.Limits.{IsWithinLimits}
use Rattle.mz_base.specs.Space.{Block}
use Rattle.mz_ground.specs.Views.{SpanView}
use Rattle.mz_large.specs.Large.{run_of_span}
use Rattle.mz_events.specs.declared.place.Place.{Place}
use Rattle.mz_events.specs.declared.place.Place.TheVariants.{Large}
use Rattle.mz_events.specs.declared.event.Event.{Event}
use Rattle.mz_events.specs.declared.event.Event.TheVariants.{Back, Move, End, No}
use Rattle.mz_events.specs.declared.entry.Entry.{Entry}
use Rattle.mz_events.specs.Places.{is_magazine, is_depot, is_large, depot_of, spot_of}
use Rattle.mz_events.specs.State.{opening, is_open}
use Rattle.mz_events.specs.Duties.{is_that, recirculation, empty_depot_region, death_row, back_of_oldest}
use Rattle.mz_events.specs.Effect.{touches}
use Rattle.mz_events.specs.History.{AreLawful}
use Rattle.mz_record.specs.Moments.{duty_left, first_some, MeetsDuty, MeetDuties}
use Rattle.mz_record.specs.Dropped.{IsDropped}
use Rattle.mz_book.specs.Keepers.{keeper_of, is_among}
use Rattle.mz_book.specs.Account.{Account, IsOrderly, state_of, known, holds_spot, entry_at}
use Rattle.mz_book.specs.Calls.{without}
use Rattle.mz_book.specs.Growth.{Grows}
use Rattle.mz_rack.specs.declared.way.Way.{Way}
use Rattle.mz_rack.specs.declared.way.LargeWay.{LargeWay}
use Rattle.mz_rack.specs.declared.home.Home.{Home}
use Rattle.mz_rack.specs.BookLaws.{BookLaws}
use Rattle.mz_rack.specs.Lots.{LotView}
use Rattle.mz_rack.specs.Ways.{IsWay}
use Rattle.mz_rack.specs.Serving.{CanServe}
use Rattle.mz_rack.specs.Stages.{at_magazine, at_depot}
use Rattle.mz_rack.specs.LargeStages.{IsLargeWay, large_spot}
use Rattle.mz_rack.specs.Flushing.{IsOldest}
use Rattle.mz_rack.specs.Freeing.{block_of, IsFreeable, Frees}
use Rattle.mz_rack.specs.FreeStages.{CanLook, LivesIn, LivesAt, HasEnded, OwesMove, OwesBack, OwesRun, Settles, HasMoved, HasPushed, IsOver, IsDenied}
use Rattle.mz_rack.proofs.Steps.{same_number, below_test, rest_grows}
use Rattle.mz_rack.proofs.Answered.{MomentLaws}
use Rattle.mz_rack.proofs.Ended.{is_plain, duty_then, move_touches, back_touches, met_first}

-- IN ANY PLACE
module _ (L : BookLaws) (s u : Account) (q : Place) (b : Block) (l : LivesIn s q b) (x : HasEnded s q b u) where
  abbrev end : Entry
  end = entry_at x.ticket s.caller (End q b.first b.size)

  held_is : u.held ≡ keeper_of s.profile q ∷ []
  held_is = x.held ∙ l.held

  here : holds_spot u (spot_of q) ≡ true
  here =
      let number = ap (λ (p : Profile). keeper_of p q) x.since.grows.adds.same.profile in
      L.held u.profile u.held q (is_plain q l.blocks).not_nano ∙ (ap (λ k. is_among k (keeper_of u.profile q)) held_is ∙ (ap (λ k. is_among (keeper_of s.profile q ∷ []) k) number ∙ rw (same_number (keeper_of s.profile q)) refl))

  module _ (M : MomentLaws) (y : Account) (lawful : AreLawful y.profile opening y.seen) where
    -- the end left what stands at the place
    pub left : (later : List Entry) → y.profile ≡ u.profile → y.seen ≡ u.seen ++ later → duty_left u.profile y.seen end ≡ first_some ((known u (spot_of q)).duty ∷ [])
    left later same goes =
        duty_then L M u end y.seen later x.last (subst (λ (p : Profile). AreLawful p opening y.seen) same lawful) goes
        ∙ ap (λ j. first_some ((known u j).duty ∷ [])) ((is_plain q l.blocks).one_spot b.first)

    -- it left no duty
    pub over_at_rest : (n : ℕ) → (known u (spot_of q)).duty ≡ None → Grows u [] n y → y.held ≡ [] → IsOver s b y
    over_at_rest n calm grows none = record {
      mine = end ∷ [];
      holds = 0 + n;
      few = omega arith;
      grows = L.ended s u y (end ∷ []) [] 0 n x.since grows;
      nothing_held = none;
      dropped = (q, refl, subst (λ (p : Profile). duty_left p y.seen end ≡ None) x.since.grows.adds.same.profile (left grows.adds.more grows.adds.same.profile grows.adds.seen ∙ ap (λ o. first_some (o ∷ [])) calm));
    }

    pub over_at_once : (known u (spot_of q)).duty ≡ None → y ≡ record u { held = [] } → IsOver s b y
    over_at_once calm go = over_at_rest 0 calm (rest_grows L u [] 0 u [] y (L.nothing u).grows go) (ap (λ (a : Account). a.held) go)

    -- its duty was met by the next entry, and so on
    pub over_then : (d : Event) (i n : ℕ) (rest : List Entry) → (known u (spot_of q)).duty ≡ Some d → Grows u (entry_at i u.caller d ∷ rest) n y → length rest ≤ 1 → y.held ≡ []
        → ((a : Event) → is_that d a ≡ true → touches u.profile a (spot_of q) ≡ true) → All (λ e. is_that d e.event ≡ false) rest → MeetDuties u.profile y.seen (entry_at i u.caller d) rest → IsOver s b y
    over_then d i n rest owed grows few none touch other met =
        let same = x.since.grows.adds.same in
        let next = entry_at i u.caller d in
        let meets : MeetsDuty u.profile y.seen end next = record {
          duty = left grows.adds.more grows.adds.same.profile grows.adds.seen ∙ ap (λ o. first_some (o ∷ [])) owed;
          at_once = met_first L u y end next rest n q x.last lawful grows (is_plain q l.blocks).not_nano here touch other;
        } in
        let all : MeetDuties u.profile y.seen end (next ∷ rest) = (meets, met) in
        record {
          mine = end ∷ next ∷ rest;
          holds = 0 + n;
          few = omega (arith, few);
          grows = L.ended s u y (end ∷ []) (next ∷ rest) 0 n x.since grows;
          nothing_held = none;
          dropped = (q, refl, subst (λ (p : Profile). MeetDuties p y.seen end (next ∷ rest)) same.profile all);
        }

-- IN A MAGAZINE
module _ (L : BookLaws) (s u : Account) (w : Way) (b : Block) (way : IsWay s.profile w) (l : LivesIn s w.magazine b) (x : HasEnded s w.magazine b u) where
  pub duty_is : (known u (at_magazine w)).duty ≡ recirculation w.magazine (known u (at_magazine w)).kept
  duty_is = x.owes ∙ cond-true (is_magazine w.magazine) (recirculation w.magazine (known u (at_magazine w)).kept) _ way.magazine

  pub held_one : u.held ≡ w.k ∷ []
  held_one = x.held ∙ (l.held ∙ ap (λ k. k ∷ []) (sym way.k))

  pub way_then : IsWay u.profile w
  way_then = subst (λ (p : Profile). IsWay p w) (sym x.since.grows.adds.same.profile) way

  pub owes_move : (f : ℕ) → recirculation w.magazine (known u (at_magazine w)).kept ≡ Some (Move f w.magazine (depot_of w.magazine)) → OwesMove u w f
  owes_move f h =
      let by = h ∙ ap (λ d. Some (Move f w.magazine d)) (sym way.depot) in
      record {
        way = way_then;
        zone_open = x.since.grows.adds.zones w.zone ∙ (ap (λ z. is_open (state_of s) z) (sym way.zone) ∙ l.zone_open);
        held = held_one;
        duty = duty_is ∙ by;
        by = by;
      }

  pub over_moved : MomentLaws → (y : Account) → AreLawful y.profile opening y.seen → (f : ℕ) → OwesMove u w f → HasMoved u w f y → IsOver s b y
  over_moved M y lawful f o h =
      over_then L s u w.magazine b l x M y lawful (Move f w.magazine w.depot) h.ticket h.holds h.rest o.duty h.grows h.few h.nothing_held
      (λ a is. move_touches L u.profile f w.magazine w.depot a is) h.none_again h.met

-- IN LARGE
module _ (L : BookLaws) (s u : Account) (w : LargeWay) (b : Block) (way : IsLargeWay s.profile w) (l : LivesIn s (Large w.zone) b) (x : HasEnded s (Large w.zone) b u) where
  row : (known u (large_spot w)).duty ≡ (if nat_lt 16 (length (known u (large_spot w)).kept.cached) then back_of_oldest (Large w.zone) (known u (large_spot w)).kept.cached else None)
  row = x.owes

  pub way_large : IsLargeWay u.profile w
  way_large = subst (λ (p : Profile). IsLargeWay p w) (sym x.since.grows.adds.same.profile) way

  pub held_large : u.held ≡ w.l ∷ []
  held_large = x.held ∙ (l.held ∙ ap (λ k. k ∷ []) (sym way.l))

  pub none_owed : length (known u (large_spot w)).kept.cached ≤ 16 → (known u (large_spot w)).duty ≡ None
  none_owed few = row ∙ cond-false (nat_lt 16 (length (known u (large_spot w)).kept.cached)) (back_of_oldest (Large w.zone) (known u (large_spot w)).kept.cached) None (grind (arith, nat_tests, few))

  pub owes_run : (r : SpanView) → length (known u (large_spot w)).kept.cached ≡ 17 → IsOldest u.site (known u (large_spot w)).kept r → OwesRun u w r
  owes_run r many old = record {
    way = way_large;
    zone_open = x.since.grows.adds.zones w.zone ∙ l.zone_open;
    held = held_large;
    duty = row ∙ (cond-true (nat_lt 16 (length (known u (large_spot w)).kept.cached)) (back_of_oldest (Large w.zone) (known u (large_spot w)).kept.cached) None (grind (arith, nat_tests, many)) ∙ ap (back_of_oldest (Large w.zone)) old.first);
    oldest = old;
  }

  pub over_pushed : MomentLaws → (y : Account) → AreLawful y.profile opening y.seen → (r : SpanView) → OwesRun u w r → HasPushed u w r y → IsOver s b y
  over_pushed M y lawful r o h =
      let d = Back (Large w.zone) (run_of_span r).first (run_of_span r).pages in
      over_then L s u (Large w.zone) b l x M y lawful d h.ticket 1 [] o.duty h.grows (omega arith) h.nothing_held
      (λ a is. back_touches L u.profile (Large w.zone) (run_of_span r).first (run_of_span r).pages a is) (All-nil (λ (e : Entry). is_that d e.event ≡ false))
      h.left

-- IN A DEPOT
module _ (L : BookLaws) (s u : Account) (w : Way) (b : Block) (way : IsWay s.profile w) (l : LivesIn s (depot_of w.magazine) b) (x : HasEnded s (depot_of w.magazine) b u) where
  way_d : IsWay u.profile w
  way_d = subst (λ (p : Profile). IsWay p w) (sym x.since.grows.adds.same.profile) way

  held_d : u.held ≡ w.d ∷ []
  held_d = x.held ∙ (l.held ∙ ap (λ k. k ∷ []) (sym way.d))

  pub owes_back : OwesBack u w
  owes_back =
      let kinds = L.depot s.profile w.magazine way.magazine in
      let kept = (known u (at_depot w)).kept in
      let d = depot_of w.magazine in
      record {
        way = way_d;
        zone_open = x.since.grows.adds.zones w.zone ∙ (ap (λ z. is_open (state_of s) z) (sym (kinds.zone ∙ way.zone)) ∙ l.zone_open);
        here = ap (λ k. is_among k w.d) held_d ∙ rw (same_number w.d) refl;
        below_pages = ap (λ k. list_all (λ a. nat_lt a w.p) k) held_d ∙ and_from (nat_lt w.d w.p) true (below_test w.d w.p (let a = way.d_below in let c = way.l_below in omega arith)) refl;
        owes = x.owes
            ∙ (cond-false (is_magazine d) (recirculation d kept) (if is_depot d then empty_depot_region d kept else (if is_large d then death_row d kept else None)) kinds.depot_no_magazine
            ∙ (cond-true (is_depot d) (empty_depot_region d kept) (if is_large d then death_row d kept else None) kinds.is_depot_of ∙ ap (λ a. empty_depot_region a kept) (sym way.depot)));
      }

  pub over_settled : MomentLaws → (y : Account) → AreLawful y.profile opening y.seen → Settles u w y → IsOver s b y
  over_settled M y lawful z =
      let d = depot_of w.magazine in
      let gone : y.held ≡ [] = z.held ∙ (ap (λ k. without w.d k) held_d ∙ rw (same_number w.d) refl) in
      ⊎_elim
      (λ (none : ((known u (at_depot w)).duty ≡ None) × (z.mine ≡ [])). over_at_rest L s u d b l x M y lawful z.holds none.0 (subst (λ es. Grows u es z.holds y) none.1 z.grows) gone)
      (λ (owed : (g : ℕ) × (n : ℕ) × ((known u (at_depot w)).duty ≡ Some (Back w.depot g w.pages)) × (z.mine ≡ entry_at n u.caller (Back w.depot g w.pages) ∷ []) × (duty_left u.profile y.seen (entry_at n u.caller (Back w.depot g w.pages)) ≡ None)).
      let back = Back w.depot owed.0 w.pages in
      over_then L s u d b l x M y lawful back owed.1 z.holds [] owed.2 (subst (λ es. Grows u es z.holds y) owed.3 z.grows) (omega arith) gone
      (λ a h. subst (λ e. touches u.profile a (spot_of e) ≡ true) way_d.depot (back_touches L u.profile w.depot owed.0 w.pages a h)) (All-nil (λ (e : Entry). is_that back e.event ≡ false)) owed.4)
      z.settled

-- THE LOT
module _ (L : BookLaws) (s : Account) (p : Profile) (z n : ℕ) (l : LotView) (can : CanServe s p z n) (lot : IsFreeable s l) where
  pub can_look_for : IsWithinLimits p → IsOrderly s → CanLook s p l
  can_look_for limits orderly =
      let live = L.somewhere s (block_of l) orderly lot.in_hand in
      record {
        limits = limits;
        profile = can.profile;
        nothing_held = can.nothing_held.keepers;
        some = (L.ascending s.profile s.seen orderly.lawful).sizes live.0 (block_of l) live.1;
        in_hand = lot.in_hand;
      }

  module _ (h : Home) (u : Account) (x : LivesAt s l.zone (block_of l) h u) where
    pub frees : (y : Account) → l.zone ≡ z → IsOver u (block_of l) y → Frees s z l (Ok tt) y
    frees y is o =
        let same = x.since.grows.adds.same in
        record {
          mine = o.mine;
          holds = x.holds + o.holds;
          few = o.few;
          grows = L.ended s u y [] o.mine x.holds o.holds x.since o.grows;
          nothing_held = record { keepers = o.nothing_held; lights = o.grows.adds.same.lights ∙ (same.lights ∙ can.nothing_held.lights) };
          freed = (is, subst (λ (q : Profile). IsDropped q y.seen (block_of l) o.mine) same.profile o.dropped);
        }

    pub denies : (y : Account) (i : ℕ) → l.zone ≢ z → IsDenied u z (block_of l) i y → Frees s z l (Err (record { lot = l; ticket = i })) y
    denies y i other o =
        let same = x.since.grows.adds.same in
        let e = entry_at i u.caller (No o.place z (block_of l).first (block_of l).size) in
        record {
          mine = e ∷ [];
          holds = x.holds + 0;
          few = omega arith;
          grows = L.ended s u y [] (e ∷ []) x.holds 0 x.since o.grows;
          nothing_held = record { keepers = o.nothing_held; lights = o.grows.adds.same.lights ∙ (same.lights ∙ can.nothing_held.lights) };
          freed = (other, (e, o.place, refl, refl), refl, refl);
        }
