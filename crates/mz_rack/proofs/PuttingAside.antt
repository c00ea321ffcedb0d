-- A magazine in excess gives its lowest sparse region to the depot.
use Rattle.std.proofs.Common.{◌≡◌, ℕ, ◌+◌, ◌<◌, ◌≤◌, ◌==◌, Bool, true, false, List, [], ◌∷◌, ◌++◌, find, refl, ap, sym, subst, ◌∙◌, arith, inl, inr, ⊎_elim, Some, None, eq-eqb}
use Rattle.std.specs.Prelude.{◌||◌, nat_lt}
use Rattle.std.specs.List.{All, list_any, list_all}
use Rattle.std.specs.Option.{option_map}
use Rattle.std.proofs.lemmas.List.Elements.{All-nil, All-cons}
use Rattle.std.proofs.lemmas.Bool.{and_from, cases_Bool, cond-true, cond-false, or_left}
use Rattle.mz_base.specs.declared.profile.Profile.{Profile}
use Rattle.mz_base.specs.Space.{Run, runs_apart}
use Rattle.mz_base.specs.Lists.{blocks_in}
use Rattle.mz_events.specs.declared.place.Place.{Place}
use Rattle.mz_events.specs.declared.event.Event.{Event}
use Rattle.mz_events.specs.declared.event.Event.TheVariants.{Back, Move}
use Rattle.mz_events.specs.declared.entry.Entry.{Entry}
use Rattle.mz_events.specs.Places.{is_magazine, is_depot, depot_of, spot_of}
use Rattle.mz_events.specs.State.{Kept, Value, opening, is_open}
use Rattle.mz_events.specs.Changes.{with_region, without_run, region_at}
use Rattle.mz_events.specs.Duties.{is_that, is_in_excess, is_sparse, recirculation, empty_depot_region}
use Rattle.mz_events.specs.Effect.{touches}
use Rattle.mz_events.specs.History.{AreLawful}
use Rattle.mz_events.specs.Standing.{Keeping, Stands}
use Rattle.mz_record.specs.Moments.{duty_left, first_some, MeetsDuty, MeetDuties}
use Rattle.mz_book.specs.Keepers.{is_among, is_held}
use Rattle.mz_book.specs.Account.{Account, state_of, known, holds_spot, entry_at}
use Rattle.mz_book.specs.Calls.{CanNote, Notes, Holds, without}
use Rattle.mz_book.specs.Growth.{Grows, GrowsHolding}
use Rattle.mz_rack.specs.declared.way.Way.{Way}
use Rattle.mz_rack.specs.declared.region.AnyRegion.{AnyRegion}
use Rattle.mz_rack.specs.BookLaws.{BookLaws}
use Rattle.mz_rack.specs.Regions.{view_in, run_in}
use Rattle.mz_rack.specs.Ways.{IsWay}
use Rattle.mz_rack.specs.Asking.{IsTidy, MayYield, MayAdopt}
use Rattle.mz_rack.specs.Answering.{Yielded}
use Rattle.mz_rack.specs.Stages.{at_magazine, at_depot, Keeps}
use Rattle.mz_rack.specs.FreeStages.{OwesMove, OwesBack, Settles, IsLast, HasMoved}
use Rattle.mz_rack.proofs.Steps.{same_spot_refl, apart_back, two_spots, held_at, its_place, learn_touched, can_note, stands_then, plain_d, there_d, one_k, two_k, two_d, has_d, drop_d, below_test, rest_grows}
use Rattle.mz_rack.proofs.Listed.{region_there}
use Rattle.mz_rack.proofs.Tidying.{quantum_of_depot, tidy_of, runs_of_two}
use Rattle.mz_rack.proofs.Answered.{MomentLaws}
use Rattle.mz_rack.proofs.Ended.{is_last, duty_then, back_touches, met_first}

-- the region that is owed begins at its page
sparse_there : (live : List _) (m d n e : Place) (f : ℕ) (rs : List Run) → option_map (λ (r : Run). Move r.first m d) (find (is_sparse live) rs) ≡ Some (Move f n e) → list_any (λ r. r.first == f) rs ≡ true
sparse_there live m d n e f [] h = absurd (cc)
sparse_there live m d n e f (r ∷ rs) h = elim (cases_Bool (is_sparse live r)) [
  | inl y ↦ let is : r.first ≡ f = first_is (sym (ap (λ o. option_map (λ (t : Run). Move t.first m d) o) (cond-true (is_sparse live r) (Some r) (find (is_sparse live) rs) y)) ∙ h) in or_left (r.first == f) (list_any (λ t. t.first == f) rs) (eq-eqb r.first f is)
  | inr y ↦ behind (r.first == f) _ (sparse_there live m d n e f rs (sym (ap (λ o. option_map (λ (t : Run). Move t.first m d) o) (cond-false (is_sparse live r) (Some r) (find (is_sparse live) rs) y)) ∙ h))
]
  where
    behind : (a b : Bool) → b ≡ true → (a || b) ≡ true
    behind true b e = refl
    behind false b e = e

    first_is : Some (Move r.first m d) ≡ Some (Move f n e) → r.first ≡ f
    first_is g = cc

pub surplus_there : (m n e : Place) (f : ℕ) (k : Kept) → recirculation m k ≡ Some (Move f n e) → list_any (λ r. r.first == f) k.runs ≡ true
surplus_there m n e f k h = elim (cases_Bool (is_in_excess k)) [
  | inl y ↦ sparse_there k.live m (depot_of m) n e f k.runs (sym (cond-true (is_in_excess k) (option_map (λ (r : Run). Move r.first m (depot_of m)) (find (is_sparse k.live) k.runs)) None y) ∙ h)
  | inr y ↦ let none : None ≡ Some (Move f n e) = sym (cond-false (is_in_excess k) (option_map (λ (r : Run). Move r.first m (depot_of m)) (find (is_sparse k.live) k.runs)) None y) ∙ h in absurd (cc)
]

abbrev pub moving : Way → ℕ → Event
moving w f = Move f w.magazine w.depot

-- both are held, and the magazine owes the region
pub record OwesBoth (s : Account) (w : Way) (f : ℕ) (t : Account) : Type 0 where
  pub since : GrowsHolding s [] 1 t
  pub way : IsWay t.profile w
  pub zone_open : is_open (state_of t) w.zone ≡ true
  pub held : t.held ≡ w.k ∷ w.d ∷ []
  pub same_k : known t (at_magazine w) ≡ known s (at_magazine w)
  pub duty : (known t (at_magazine w)).duty ≡ Some (Move f w.magazine (depot_of w.magazine))
  pub calm_d : (known t (at_depot w)).duty ≡ None
  pub there : list_any (λ r. r.first == f) (known t (at_magazine w)).kept.runs ≡ true

-- the region is the depot's
pub record IsAside (t : Account) (w : Way) (f i : ℕ) (u : Account) : Type 0 where
  pub since : GrowsHolding t (entry_at i t.caller (moving w f) ∷ []) 0 u
  pub last : IsLast u (entry_at i t.caller (moving w f))
  pub way : IsWay u.profile w
  pub held : u.held ≡ w.k ∷ w.d ∷ []
  pub kept_k : (known u (at_magazine w)).kept ≡ without_run (region_at (known t (at_magazine w)).kept.runs f) (known t (at_magazine w)).kept
  pub calm_k : (known u (at_magazine w)).duty ≡ None
  pub kept_d : let k = (known t (at_magazine w)).kept in (known u (at_depot w)).kept ≡ with_region (region_at k.runs f) (blocks_in k.live (region_at k.runs f)) (known t (at_depot w)).kept
  pub owes : OwesBack u w

module _ (L : BookLaws) (w : Way) (f : ℕ) where
  pub owes_both : (s t : Account) → OwesMove s w f → Holds s w.d t → OwesBoth s w f t
  owes_both s t o h =
      let way = o.way in
      let since = L.hold s t w.d h in
      let same = since.grows.adds.same in
      let same_k = h.stays (at_magazine w) (ap (λ x. is_held s.profile x (at_magazine w)) o.held ∙ one_k L s.profile w way) in
      record {
        since = since;
        way = subst (λ (p : Profile). IsWay p w) (sym same.profile) way;
        zone_open = since.grows.adds.zones w.zone ∙ o.zone_open;
        held = ap (λ (v : Account). v.held) h.after ∙ ap (λ x. x ++ w.d ∷ []) o.held;
        same_k = same_k;
        duty = ap (λ (v : Value). v.duty) same_k ∙ (o.duty ∙ ap (λ d. Some (Move f w.magazine d)) way.depot);
        calm_d = ap (λ (x : Place). (known t (spot_of x)).duty) (sym (its_place L s (depot_of w.magazine) w.d way.d (plain_d L s.profile w way) (there_d L s.profile w way))) ∙ h.calm;
        there = ap (λ (v : Value). list_any (λ r. r.first == f) v.kept.runs) same_k ∙ surplus_there w.magazine w.magazine w.depot f (known s (at_magazine w)).kept o.by;
      }

  module _ (s t : Account) (k : OwesBoth s w f t) (lawful : AreLawful t.profile opening t.seen) where
    abbrev kq : Kept
    kq = (known t (at_magazine w)).kept

    abbrev kd : Kept
    kd = (known t (at_depot w)).kept

    abbrev region : Run
    region = region_at kq.runs f

    here_k : holds_spot t (at_magazine w) ≡ true
    here_k = ap (λ x. is_held t.profile x (at_magazine w)) k.held ∙ two_k L t.profile w k.way

    here_d : holds_spot t (at_depot w) ≡ true
    here_d = ap (λ x. is_held t.profile x (at_depot w)) k.held ∙ two_d L t.profile w k.way

    pub regions_k : (is_magazine w.magazine || is_depot w.magazine) ≡ true
    regions_k = ap (λ b. b || is_depot w.magazine) k.way.magazine

    pub regions_d : (is_magazine (depot_of w.magazine) || is_depot (depot_of w.magazine)) ≡ true
    regions_d = let kinds = L.depot t.profile w.magazine k.way.magazine in rw (kinds.depot_no_magazine, kinds.is_depot_of) refl

    pub tidy_k : IsTidy t.profile w.magazine kq
    tidy_k = let kinds = L.depot t.profile w.magazine k.way.magazine in tidy_of L t lawful w.magazine kinds.magazine.not_nano kinds.magazine.not_large

    pub may_yield_k : (v : Keeping) → Keeps t w.magazine v → MayYield v f
    may_yield_k v h = record {
      space = t.site;
      profile = t.profile;
      place = w.magazine;
      kept = kq;
      stands = h;
      regions = regions_k;
      tidy = tidy_k;
      there = k.there;
    }

    pub can_put_aside : t.caller < t.profile.callers → 1 ≤ t.spare → CanNote t (moving w f)
    can_put_aside c room =
        let way = k.way in
        subst (λ d. CanNote t (Move f w.magazine d)) (sym way.depot)
        (can_note t (Move f w.magazine (depot_of w.magazine)) room refl refl refl
        (λ j y. ⊎_elim (λ (e : j ≡ at_magazine w). held_at t j (at_magazine w) e here_k) (λ (e : j ≡ at_depot w). held_at t j (at_depot w) e here_d) (two_spots L j (at_magazine w) (at_depot w) y))
        (((L.fits t.profile (state_of t) t.caller).put_aside w.magazine f way.magazine).1 (record {
          standing = record { caller = c; exists = way.exists; zone_open = ap (λ z. is_open (state_of t) z) way.zone ∙ k.zone_open };
          owed = k.duty;
          depot_allowed = inl k.calm_d;
        })))

    pub is_aside : (i : ℕ) (u : Account) → CanNote t (moving w f) → Notes t (moving w f) i u → IsAside t w f i u
    is_aside i u can h =
        let way = k.way in
        let m = way.magazine in
        let kinds = L.depot t.profile w.magazine m in
        let e = Move f w.magazine (depot_of w.magazine) in
        let h' : Notes t e i u = subst (λ d. Notes t (Move f w.magazine d) i u) way.depot h in
        let since = L.note t u (moving w f) i can refl h in
        let same = since.grows.adds.same in
        let held : u.held ≡ w.k ∷ w.d ∷ [] = ap (λ (v : Account). v.held) h.after ∙ k.held in
        let way_u = subst (λ (p : Profile). IsWay p w) (sym same.profile) way in
        let at_k = learn_touched t e i u (at_magazine w) h' here_k (rw (same_spot_refl L (at_magazine w)) refl) ∙ (L.leaves (state_of t) t.caller).put_aside w.magazine f m in
        let at_d = learn_touched t e i u (at_depot w) h' here_d (rw (apart_back L (at_magazine w) (at_depot w) kinds.apart, same_spot_refl L (at_depot w)) refl) ∙ (L.leaves (state_of t) t.caller).put_aside_depot w.magazine f m in
        let kept_d = ap (λ (v : Value). v.kept) at_d in
        record {
          since = since;
          last = is_last t (moving w f) i u h;
          way = way_u;
          held = held;
          kept_k = ap (λ (v : Value). v.kept) at_k;
          calm_k = ap (λ (v : Value). v.duty) at_k;
          kept_d = kept_d;
          owes = record {
            way = way_u;
            zone_open = since.grows.adds.zones w.zone ∙ k.zone_open;
            here = ap (λ x. is_among x w.d) held ∙ has_d L u.profile w way_u;
            below_pages = ap (λ x. list_all (λ y. nat_lt y w.p) x) held ∙ below;
            owes = ap (λ (v : Value). v.duty) at_d ∙ (ap (λ y. empty_depot_region (depot_of w.magazine) y) (sym kept_d) ∙ ap (λ d. empty_depot_region d (known u (at_depot w)).kept) (sym way.depot));
          };
        }
      where
        below : list_all (λ y. nat_lt y w.p) (w.k ∷ w.d ∷ []) ≡ true
        below =
            let a = k.way.k_below in
            let b = k.way.d_below in
            let c = k.way.l_below in
            let k_p : w.k < w.p = omega arith in
            let d_p : w.d < w.p = omega arith in
            and_from (nat_lt w.k w.p) _ (below_test w.k w.p k_p) (and_from (nat_lt w.d w.p) true (below_test w.d w.p d_p) refl)

    same_kept : (r : AnyRegion) (is : Kept → Type 0) → Yielded t.site w.magazine kq f is r → with_region (run_in r) (view_in r).live kd ≡ with_region region (blocks_in kq.live region) kd
    same_kept r is y = ap (λ x. with_region x (view_in r).live kd) y.run ∙ ap (λ x. with_region region x kd) y.live

    pub may_adopt_d : (v : Keeping) → Keeps t (depot_of w.magazine) v → (r : AnyRegion) (is : Kept → Type 0) → Yielded t.site w.magazine kq f is r → (i : ℕ) (u : Account) → IsAside t w f i u → AreLawful u.profile opening u.seen → MayAdopt v r
    may_adopt_d v h r is y i u x after =
        let kinds = L.depot t.profile w.magazine k.way.magazine in
        let tidy = tidy_of L u after (depot_of w.magazine) kinds.depot.not_nano kinds.depot.not_large in
        record {
          space = t.site;
          profile = t.profile;
          place = depot_of w.magazine;
          kept = kd;
          stands = h;
          regions = regions_d;
          quantum = y.quantum ∙ sym (quantum_of_depot w.magazine k.way.magazine);
          of_space = y.space;
          apart = subst (λ (z : Run). list_all (λ a. runs_apart a z) kd.runs ≡ true) (sym y.run) (runs_of_two L t lawful (at_depot w) (at_magazine w) region (apart_back L (at_magazine w) (at_depot w) kinds.apart) (region_there kq.runs f k.there));
          tidy = subst (λ z. IsTidy t.profile (depot_of w.magazine) z) (x.kept_d ∙ sym (same_kept r is y)) (subst (λ z. IsTidy z (depot_of w.magazine) (known u (at_depot w)).kept) x.since.grows.adds.same.profile tidy);
        }

    pub adopted_d : (v : Keeping) (r : AnyRegion) (is : Kept → Type 0) → Yielded t.site w.magazine kq f is r → (i : ℕ) (u : Account) → IsAside t w f i u
        → Stands v t.site t.profile (depot_of w.magazine) (with_region (run_in r) (view_in r).live kd) → Keeps u (depot_of w.magazine) v
    adopted_d v r is y i u x h = stands_then t u (depot_of w.magazine) _ _ v x.since.grows.adds.same (x.kept_d ∙ sym (same_kept r is y)) h

    -- the magazine is as it was when the region left it
    module _ (i : ℕ) (u v : Account) (x : IsAside t w f i u) (z : Settles u w v) where
      pub held_k : v.held ≡ w.k ∷ []
      held_k = z.held ∙ (ap (λ l. without w.d l) x.held ∙ drop_d L u.profile w x.way)

      holds_k : holds_spot u (at_magazine w) ≡ true
      holds_k = ap (λ l. is_held u.profile l (at_magazine w)) x.held ∙ two_k L u.profile w x.way

      pub way_then : IsWay v.profile w
      way_then = subst (λ (p : Profile). IsWay p w) (sym z.grows.adds.same.profile) x.way

      pub calm_then : (known v (at_magazine w)).duty ≡ None
      calm_then = ap (λ (y : Value). y.duty) (z.stays holds_k) ∙ x.calm_k

      pub stands_k : (y : Keeping) → Stands y t.site t.profile w.magazine (without_run region kq) → Keeps v w.magazine y
      stands_k y h = stands_then u v w.magazine _ _ y z.grows.adds.same (ap (λ (q : Value). q.kept) (z.stays holds_k)) (stands_then t u w.magazine _ _ y x.since.grows.adds.same x.kept_k h)

      abbrev e : Entry
      e = entry_at i t.caller (moving w f)

      -- each duty was met
      module _ (M : MomentLaws) (y : Account) (lawful_y : AreLawful y.profile opening y.seen) (go : y ≡ record v { held = [] }) where
        p_y : y.profile ≡ u.profile
        p_y = ap (λ (a : Account). a.profile) go ∙ z.grows.adds.same.profile

        grown : Grows u z.mine z.holds y
        grown = rest_grows L u z.mine z.holds v [] y z.grows go

        duty_is : duty_left u.profile y.seen e ≡ first_some ((known u (at_depot w)).duty ∷ [])
        duty_is =
            duty_then L M u e y.seen grown.adds.more x.last (subst (λ (p : Profile). AreLawful p opening y.seen) p_y lawful_y) grown.adds.seen
            ∙ (ap (λ o. first_some (o ∷ (known u (spot_of w.depot)).duty ∷ [])) x.calm_k ∙ ap (λ d. first_some ((known u (spot_of d)).duty ∷ [])) x.way.depot)

        back_met : (g n : ℕ) → (known u (at_depot w)).duty ≡ Some (Back w.depot g w.pages) → z.mine ≡ entry_at n u.caller (Back w.depot g w.pages) ∷ [] → MeetsDuty u.profile y.seen e (entry_at n u.caller (Back w.depot g w.pages))
        back_met g n owed is = record {
          duty = duty_is ∙ ap (λ o. first_some (o ∷ [])) owed;
          at_once = met_first L u y e (entry_at n u.caller (Back w.depot g w.pages)) [] z.holds (depot_of w.magazine) x.last lawful_y (subst (λ es. Grows u es z.holds y) is grown) (plain_d L u.profile w x.way)
              (ap (λ l. is_held u.profile l (at_depot w)) x.held ∙ two_d L u.profile w x.way)
              (λ a h. subst (λ d. touches u.profile a (spot_of d) ≡ true) x.way.depot (back_touches L u.profile w.depot g w.pages a h)) (All-nil (λ a. is_that (Back w.depot g w.pages) a.event ≡ false));
        }

        all_met : MeetDuties u.profile y.seen e z.mine
        all_met = ⊎_elim
            (λ (none : ((known u (at_depot w)).duty ≡ None) × (z.mine ≡ [])). subst (λ es. MeetDuties u.profile y.seen e es) (sym none.1) (duty_is ∙ ap (λ o. first_some (o ∷ [])) none.0))
            (λ (owed : (g : ℕ) × (n : ℕ) × ((known u (at_depot w)).duty ≡ Some (Back w.depot g w.pages)) × (z.mine ≡ entry_at n u.caller (Back w.depot g w.pages) ∷ []) × (duty_left u.profile v.seen (entry_at n u.caller (Back w.depot g w.pages)) ≡ None)).
            let eb = entry_at owed.1 u.caller (Back w.depot owed.0 w.pages) in
            subst (λ es. MeetDuties u.profile y.seen e es) (sym owed.3)
            (back_met owed.0 owed.1 owed.2 owed.3, ap (λ (a : Account). duty_left u.profile a.seen eb) go ∙ owed.4))
            z.settled

        none_moved : All (λ a. is_that (moving w f) a.event ≡ false) z.mine
        none_moved = ⊎_elim
            (λ (none : ((known u (at_depot w)).duty ≡ None) × (z.mine ≡ [])). subst (λ es. All (λ a. is_that (moving w f) a.event ≡ false) es) (sym none.1) (All-nil (λ a. is_that (moving w f) a.event ≡ false)))
            (λ (owed : (g : ℕ) × (n : ℕ) × ((known u (at_depot w)).duty ≡ Some (Back w.depot g w.pages)) × (z.mine ≡ entry_at n u.caller (Back w.depot g w.pages) ∷ []) × (duty_left u.profile v.seen (entry_at n u.caller (Back w.depot g w.pages)) ≡ None)).
            subst (λ es. All (λ a. is_that (moving w f) a.event ≡ false) es) (sym owed.3) (All-cons (λ a. is_that (moving w f) a.event ≡ false) (entry_at owed.1 u.caller (Back w.depot owed.0 w.pages)) [] refl (All-nil (λ a. is_that (moving w f) a.event ≡ false))))
            z.settled

        pub has_moved : HasMoved s w f y
        has_moved =
            let c1 : t.caller ≡ s.caller = k.since.grows.adds.same.caller in
            let p1 : u.profile ≡ s.profile = x.since.grows.adds.same.profile ∙ k.since.grows.adds.same.profile in
            let all = L.joined s t u [] (e ∷ []) 1 0 k.since x.since in
            let ended = rest_grows L s (e ∷ z.mine) (1 + z.holds) v [] y (L.ended s u v (e ∷ []) z.mine 1 z.holds all z.grows) go in
            record {
              ticket = i;
              rest = z.mine;
              holds = 1 + z.holds;
              few = z.few;
              grows = subst (λ c. Grows s (entry_at i c (moving w f) ∷ z.mine) (1 + z.holds) y) c1 ended;
              nothing_held = ap (λ (a : Account). a.held) go;
              none_again = none_moved;
              met = subst (λ c. MeetDuties s.profile y.seen (entry_at i c (moving w f)) z.mine) c1 (subst (λ (p : Profile). MeetDuties p y.seen e z.mine) p1 all_met);
            }
