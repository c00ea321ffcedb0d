-- A region goes from the depot to the magazine, and the block is made there.
use Rattle.std.proofs.Common.{◌≡◌, ℕ, ◌==◌, true, [], ◌∷◌, refl, ap, sym, subst, ◌∙◌, None}
use Rattle.std.specs.Prelude.{◌&&◌, ◌||◌, Ok}
use Rattle.std.specs.List.{list_any, list_all}
use Rattle.std.proofs.lemmas.Bool.{and_parts}
use Rattle.mz_base.specs.Space.{Run, runs_apart}
use Rattle.mz_base.specs.Lists.{has_run, blocks_in}
use Rattle.mz_base.specs.Room.{has_room}
use Rattle.mz_ground.specs.Views.{SpanView}
use Rattle.mz_events.specs.declared.event.Event.TheVariants.{Move, New}
use Rattle.mz_events.specs.Places.{is_magazine, is_depot, depot_of}
use Rattle.mz_events.specs.State.{Kept, Value, opening}
use Rattle.mz_events.specs.History.{AreLawful}
use Rattle.mz_events.specs.Room.{wide}
use Rattle.mz_events.specs.Changes.{with_region, without_run, region_at}
use Rattle.mz_events.specs.Rules.{is_lowest_with_room}
use Rattle.mz_events.specs.Standing.{Keeping, Stands}
use Rattle.mz_book.specs.Keepers.{is_held}
use Rattle.mz_book.specs.Account.{Account, state_of, known, entry_at}
use Rattle.mz_book.specs.Calls.{CanNote, Notes}
use Rattle.mz_book.specs.Growth.{Grows, GrowsHolding}
use Rattle.mz_rack.specs.declared.way.Way.{Way}
use Rattle.mz_rack.specs.declared.region.AnyRegion.{AnyRegion}
use Rattle.mz_rack.specs.Regions.{run_in, view_in}
use Rattle.mz_rack.specs.BookLaws.{BookLaws}
use Rattle.mz_rack.specs.Asking.{IsTidy, MayYield, MayAdopt}
use Rattle.mz_rack.specs.Answering.{Yielded}
use Rattle.mz_rack.specs.Stages.{at_magazine, at_depot, Keeps, HasRoom, Ready, Tried, HoldsBoth, IsMovedOver}
use Rattle.mz_rack.proofs.Steps.{same_spot_refl, apart_back, learn_touched, can_same, stands_then, two_k, two_d, rest_grows}
use Rattle.mz_rack.proofs.Listed.{any_weaker}
use Rattle.mz_rack.proofs.RoomLemmas.{room_of_region}
use Rattle.mz_rack.proofs.Trying.{power_some, size_some}
use Rattle.mz_rack.proofs.Moving.{here_k, here_d}
use Rattle.mz_rack.proofs.Tidying.{quantum_of_depot, tidy_of, runs_of_two, live_apart, lowest_has_room, depot_owes_nothing}

-- the region that begins at a page of the depot
abbrev pub region_of : Account → Way → ℕ → Run
region_of t w f = region_at (known t (at_depot w)).kept.runs f

-- it has moved
pub record Moved (t : Account) (w : Way) (n al f i : ℕ) (u : Account) : Type 0 where
  pub since : GrowsHolding t (entry_at i t.caller (Move f w.depot w.magazine) ∷ []) 0 u
  pub ready : Ready u w n al
  pub held : u.held ≡ w.k ∷ w.d ∷ []
  pub kept_k : (known u (at_magazine w)).kept ≡ with_region (region_of t w f) (blocks_in (known t (at_depot w)).kept.live (region_of t w f)) (known t (at_magazine w)).kept
  pub kept_d : (known u (at_depot w)).kept ≡ without_run (region_of t w f) (known t (at_depot w)).kept
  pub calm_d : (known u (at_depot w)).duty ≡ None

module _ (L : BookLaws) (w : Way) (n al : ℕ) (t : Account) (k : HoldsBoth t w n al) (lawful : AreLawful t.profile opening t.seen) (f : ℕ) (low : is_lowest_with_room (known t (at_depot w)).kept f (n, al) ≡ true) where
  abbrev kd : Kept
  kd = (known t (at_depot w)).kept

  abbrev kq : Kept
  kq = (known t (at_magazine w)).kept

  abbrev region : Run
  region = region_of t w f

  found : (has_run kd.runs region ≡ true) × (has_room region (wide kd) n al ≡ true)
  found =
      let kinds = L.depot t.profile w.magazine k.can.way.magazine in
      lowest_has_room L t lawful (depot_of w.magazine) f n al kinds.depot.not_nano kinds.depot.not_large low

  pub tidy_depot : IsTidy t.profile (depot_of w.magazine) kd
  tidy_depot =
      let kinds = L.depot t.profile w.magazine k.can.way.magazine in
      tidy_of L t lawful (depot_of w.magazine) kinds.depot.not_nano kinds.depot.not_large

  pub is_depot_too : (is_magazine (depot_of w.magazine) || is_depot (depot_of w.magazine)) ≡ true
  is_depot_too = let kinds = L.depot t.profile w.magazine k.can.way.magazine in rw (kinds.depot_no_magazine, kinds.is_depot_of) refl

  pub may_yield : (v : Keeping) → Keeps t (depot_of w.magazine) v → MayYield v f
  may_yield v h = record {
    space = t.site;
    profile = t.profile;
    place = depot_of w.magazine;
    kept = kd;
    stands = h;
    regions = is_depot_too;
    tidy = tidy_depot;
    there = any_weaker (λ r. (r.first == f) && has_room r (wide kd) n al) (λ r. r.first == f) kd.runs (λ r y. (and_parts (r.first == f) _ y).0) (and_parts (list_any (λ r. (r.first == f) && has_room r (wide kd) n al) kd.runs) _ low).0;
  }

  pub moved : (i : ℕ) (u : Account) → CanNote t (Move f w.depot w.magazine) → Notes t (Move f w.depot w.magazine) i u → Moved t w n al f i u
  moved i u can h =
      let way = k.can.way in
      let m = way.magazine in
      let kinds = L.depot t.profile w.magazine m in
      let e = Move f (depot_of w.magazine) w.magazine in
      let h' : Notes t e i u = subst (λ d. Notes t (Move f d w.magazine) i u) way.depot h in
      let since = L.note t u (Move f w.depot w.magazine) i can refl h in
      let same = since.grows.adds.same in
      let held : u.held ≡ w.k ∷ w.d ∷ [] = ap (λ (v : Account). v.held) h.after ∙ k.held in
      let can_u = can_same t u w n al k.can same since.grows.adds.zones in
      let at_k = learn_touched t e i u (at_magazine w) h' (here_k L w n al t k) (rw (kinds.apart, same_spot_refl L (at_magazine w)) refl) ∙ (L.leaves (state_of t) t.caller).take_out w.magazine f m in
      let at_d = learn_touched t e i u (at_depot w) h' (here_d L w n al t k) (rw (same_spot_refl L (at_depot w)) refl) ∙ (L.leaves (state_of t) t.caller).take_out_depot w.magazine f m in
      record {
        since = since;
        ready = record {
          can = can_u;
          here = ap (λ x. is_held u.profile x (at_magazine w)) held ∙ two_k L u.profile w can_u.way;
          calm = ap (λ (v : Value). v.duty) at_k;
        };
        held = held;
        kept_k = ap (λ (v : Value). v.kept) at_k;
        kept_d = ap (λ (v : Value). v.kept) at_d;
        calm_d = ap (λ (v : Value). v.duty) at_d ∙ depot_owes_nothing L t lawful (depot_of w.magazine) region kinds.is_depot_of k.calm_d found.0;
      }

  -- what is adopted is what has moved
  same_kept : (r : AnyRegion) (is : Kept → Type 0) → Yielded t.site (depot_of w.magazine) kd f is r → with_region (run_in r) (view_in r).live kq ≡ with_region region (blocks_in kd.live region) kq
  same_kept r is y = ap (λ x. with_region x (view_in r).live kq) y.run ∙ ap (λ x. with_region region x kq) y.live

  pub may_adopt : (v : Keeping) → Keeps t w.magazine v → (r : AnyRegion) (is : Kept → Type 0) → Yielded t.site (depot_of w.magazine) kd f is r → (i : ℕ) (u : Account) → Moved t w n al f i u → AreLawful u.profile opening u.seen → MayAdopt v r
  may_adopt v h r is y i u x after =
      let way = k.can.way in
      let m = way.magazine in
      let kinds = L.depot t.profile w.magazine m in
      let tidy = tidy_of L u after w.magazine kinds.magazine.not_nano kinds.magazine.not_large in
      record {
        space = t.site;
        profile = t.profile;
        place = w.magazine;
        kept = kq;
        stands = h;
        regions = ap (λ b. b || is_depot w.magazine) m;
        quantum = y.quantum ∙ quantum_of_depot w.magazine m;
        of_space = y.space;
        apart = subst (λ (z : Run). list_all (λ s. runs_apart s z) kq.runs ≡ true) (sym y.run) (runs_of_two L t lawful (at_magazine w) (at_depot w) region kinds.apart found.0);
        tidy = subst (λ z. IsTidy t.profile w.magazine z) (x.kept_k ∙ sym (same_kept r is y)) (subst (λ z. IsTidy z w.magazine (known u (at_magazine w)).kept) x.since.grows.adds.same.profile tidy);
      }

  pub adopted : (v : Keeping) (r : AnyRegion) (is : Kept → Type 0) → Yielded t.site (depot_of w.magazine) kd f is r → (i : ℕ) (u : Account) → Moved t w n al f i u
      → Stands v t.site t.profile w.magazine (with_region (run_in r) (view_in r).live kq) → Keeps u w.magazine v
  adopted v r is y i u x h = stands_then t u w.magazine _ _ v x.since.grows.adds.same (x.kept_k ∙ sym (same_kept r is y)) h

  pub has_room_then : (i : ℕ) (u : Account) → Moved t w n al f i u → HasRoom (known u (at_magazine w)).kept n al
  has_room_then i u x =
      let kinds = L.depot t.profile w.magazine k.can.way.magazine in
      subst (λ z. HasRoom z n al) (sym x.kept_k) (room_of_region L.room kq kd region n al (size_some w.magazine n k.can.way.magazine k.can.size) (power_some al k.can.power) found.1
      (live_apart L t lawful w.magazine region kinds.magazine.not_nano (runs_of_two L t lawful (at_magazine w) (at_depot w) region kinds.apart found.0)))

  pub depot_still : (i : ℕ) (u v : Account) (x : SpanView) → Moved t w n al f i u → Tried u w n al (Ok x) v → known v (at_depot w) ≡ known u (at_depot w)
  depot_still i u v x m z =
      let way = m.ready.can.way in
      let kinds = L.depot u.profile w.magazine way.magazine in
      z.others (at_depot w) (ap (λ b. is_held u.profile b (at_depot w)) m.held ∙ two_d L u.profile w way) (apart_back L (at_magazine w) (at_depot w) kinds.apart)

  pub moved_over : (i : ℕ) (u v y : Account) (x : SpanView) → Moved t w n al f i u → Tried u w n al (Ok x) v → y ≡ record v { held = [] } → IsMovedOver t w n al f x y
  moved_over i u v y x m z go =
      let e1 = entry_at i t.caller (Move f w.depot w.magazine) in
      let same = m.since.grows.adds.same in
      let both = L.joined t u v (e1 ∷ []) (entry_at z.ticket u.caller (New w.magazine x.first n al) ∷ []) 0 0 m.since z.since in
      let mine : Grows t (e1 ∷ entry_at z.ticket t.caller (New w.magazine x.first n al) ∷ []) 0 v =
      subst (λ c. Grows t (e1 ∷ entry_at z.ticket c (New w.magazine x.first n al) ∷ []) 0 v) same.caller both.grows in
      record {
        i = i;
        j = z.ticket;
        grows = rest_grows L t (e1 ∷ entry_at z.ticket t.caller (New w.magazine x.first n al) ∷ []) 0 v [] y mine go;
        nothing_held = ap (λ (a : Account). a.held) go;
        space = z.is.0 ∙ same.site;
        size = z.is.1;
      }
