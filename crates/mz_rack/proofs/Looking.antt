-- Looking for a block in one place after another.
use Rattle.std.proofs.Common.{◌≡◌, ℕ, ◌+◌, ◌<◌, ◌≤◌, ◌==◌, Bool, true, false, List, [], ◌∷◌, ◌++◌, refl, ap, sym, subst, ◌∙◌, arith, inl, inr, Option, Some, None, find, eq-eqb, eqb-true}
use Rattle.std.specs.Prelude.{◌||◌}
use Rattle.std.proofs.lemmas.Bool.{and_from, or_left, cases_Bool, cond-true, cond-false}
use Rattle.mz_base.specs.declared.profile.Profile.{Profile}
use Rattle.mz_base.specs.Site.{Site}
use Rattle.mz_base.specs.Space.{Block, block_at, same_block}
use Rattle.mz_base.specs.Lists.{has_block, size_at}
use Rattle.mz_events.specs.declared.place.Place.{Place}
use Rattle.mz_events.specs.declared.place.Place.TheVariants.{Large}
use Rattle.mz_events.specs.Places.{is_magazine, is_depot, is_large, is_nano, zone_of, depot_of, exists_in, spot_of}
use Rattle.mz_events.specs.State.{Kept, opening, is_open}
use Rattle.mz_events.specs.History.{AreLawful}
use Rattle.mz_events.specs.Standing.{Keeping, of_regions, of_large, of_pages, of_nothing, Stands}
use Rattle.mz_book.specs.Keepers.{keeper_count, keeper_of, keeper_spot}
use Rattle.mz_book.specs.Pairs.{hand_among}
use Rattle.mz_book.specs.Account.{Account, state_of, known, hand, StandsFor}
use Rattle.mz_book.specs.Calls.{Holds, Releases, without}
use Rattle.mz_book.specs.Growth.{Adds, GrowsHolding}
use Rattle.mz_rack.specs.declared.way.Way.{Way}
use Rattle.mz_rack.specs.declared.way.LargeWay.{LargeWay}
use Rattle.mz_rack.specs.declared.home.Home.{Home}
use Rattle.mz_rack.specs.declared.home.Home.TheVariants.{Magazine, Depot}
use Rattle.mz_rack.specs.declared.home.Home.TheVariants as home
use Rattle.mz_rack.specs.BookLaws.{BookLaws}
use Rattle.mz_rack.specs.Keepings.{lists_of}
use Rattle.mz_rack.specs.Lots.{LotView}
use Rattle.mz_rack.specs.Ways.{IsWay}
use Rattle.mz_rack.specs.LargeStages.{IsLargeWay}
use Rattle.mz_rack.specs.Ending.{has_blocks}
use Rattle.mz_rack.specs.Freeing.{block_of}
use Rattle.mz_rack.specs.FreeStages.{CanLook, PassedBy, IsThere, LivesIn, LivesAt}
use Rattle.mz_rack.proofs.Steps.{same_number, its_place, keeps_at, calm_at, plain_k, plain_d, there_d, below_test}
use Rattle.mz_rack.proofs.Tidying.{place_spot}

-- a block whose size is found at its address is one of them
pub size_found : (bs : List Block) (a n : ℕ) → size_at bs a ≡ n → 1 ≤ n → has_block bs (block_at a n) ≡ true
size_found [] a n h some = absurd (omega (arith, h, some))
size_found (b ∷ bs) a n h some =
    elim (cases_Bool (b.first == a)) [
      | inl y ↦
          let size : b.size ≡ n = sym (ap (λ (o : Option Block). elim o [ None ↦ 0 | Some c ↦ c.size ]) (cond-true (b.first == a) (Some b) (find (λ c. c.first == a) bs) y)) ∙ h in
          or_left (same_block (block_at a n) b) (has_block bs (block_at a n)) (and_from (a == b.first) (n == b.size) (eq-eqb a b.first (sym (eqb-true b.first a y))) (eq-eqb n b.size (sym size)))
      | inr y ↦
          let rest = size_found bs a n (sym (ap (λ (o : Option Block). elim o [ None ↦ 0 | Some c ↦ c.size ]) (cond-false (b.first == a) (Some b) (find (λ c. c.first == a) bs) y)) ∙ h) some in
          behind (same_block (block_at a n) b) (has_block bs (block_at a n)) rest
    ]
  where
    behind : (x y : Bool) → y ≡ true → (x || y) ≡ true
    behind true y e = refl
    behind false y e = e

-- so a keeper that has its size stands for a place where it is live
pub live_there : (v : Keeping) (x : Site) (p : Profile) (q : Place) (k : Kept) (a n : ℕ) → Stands v x p q k → size_at (lists_of v).live a ≡ n → 1 ≤ n → has_block k.live (block_at a n) ≡ true
live_there (of_regions v) x p q k a n s h some = subst (λ (y : Kept). has_block y.live (block_at a n) ≡ true) s.keeps (size_found v.kept.live a n h some)
live_there (of_large v) x p q k a n s h some = subst (λ (y : Kept). has_block y.live (block_at a n) ≡ true) s.keeps (size_found v.kept.live a n h some)
live_there (of_pages v) x p q k a n s h some = absurd (omega (arith, h, some))
live_there of_nothing x p q k a n s h some = absurd (omega (arith, h, some))

-- the hand is the same where the record is
pub hand_same : (s t : Account) (n : ℕ) → Adds s [] n t → hand t ≡ hand s
hand_same s t n g = ap (λ c. hand_among c t.pairs) g.same.caller ∙ ap (λ ps. hand_among s.caller ps) g.pairs

pub large_below : (p : Profile) (w : LargeWay) → IsLargeWay p w → w.l < keeper_count p
large_below p w way = let a = way.l_below in let b = way.p_below in omega arith

module _ (L : BookLaws) where
  pub is_there : (s t : Account) (k a n : ℕ) (v : Keeping) → s.held ≡ [] → Holds s k t → StandsFor t k v → size_at (lists_of v).live a ≡ n → 1 ≤ n → IsThere s k (block_at a n) v t
  is_there s t k a n v none h stands size some =
      let since = L.hold s t k h in
      record {
        since = since;
        held = ap (λ (u : Account). u.held) h.after ∙ ap (λ x. x ++ k ∷ []) none;
        stands = stands;
        calm = subst (λ p. (known t (keeper_spot p k)).duty ≡ None) (sym since.grows.adds.same.profile) h.calm;
        live = live_there v t.site t.profile _ _ a n stands size some;
      }

  pub passed_by : (s t u : Account) (k : ℕ) → s.held ≡ [] → Holds s k t → Releases t k u → PassedBy s u
  passed_by s t u k none h r = record {
    holds = 1;
    grows = L.release s t u [] 1 k (L.hold s t k h).grows r;
    nothing_held =
        ap (λ (v : Account). v.held) r.after ∙ (ap (λ x. without k x) (ap (λ (v : Account). v.held) h.after ∙ ap (λ x. x ++ k ∷ []) none) ∙ rw (same_number k) refl);
  }

  pub none_passed : (s : Account) → s.held ≡ [] → PassedBy s s
  none_passed s none = record { holds = 0; grows = (L.nothing s).grows; nothing_held = none }

  pub passed_on : (s t u : Account) → s.held ≡ [] → PassedBy s t → PassedBy t u → PassedBy s u
  passed_on s t u none a b = record {
    holds = a.holds + b.holds;
    grows = L.ended s t u [] [] a.holds b.holds (L.looked s t a.holds none a.grows) b.grows;
    nothing_held = b.nothing_held;
  }

  -- one may look on after others came
  pub can_look : (s t : Account) (p : Profile) (l : LotView) → CanLook s p l → PassedBy s t → CanLook t p l
  can_look s t p l can a = record {
    limits = can.limits;
    profile = a.grows.adds.same.profile ∙ can.profile;
    nothing_held = a.nothing_held;
    some = can.some;
    in_hand = ap (λ h. has_block h (block_of l)) (hand_same s t a.holds a.grows.adds) ∙ can.in_hand;
  }

  -- the block lives in the place of the keeper that was found
  lives_in : (s t u : Account) (p : Profile) (l : LotView) (q : Place) (k : ℕ) (v : Keeping) → CanLook s p l → PassedBy s t → IsThere t k (block_of l) v u
      → has_blocks q ≡ true → is_nano q ≡ false → exists_in u.profile q ≡ true → k ≡ keeper_of u.profile q → AreLawful u.profile opening u.seen → LivesIn u q (block_of l)
  lives_in s t u p l q k v can a b blocks plain there is lawful =
      let live = subst (λ (x : Place). has_block (known u (spot_of x)).kept.live (block_of l) ≡ true) (its_place L u q k is plain there) b.live in
      record {
        blocks = blocks;
        exists = there;
        zone_open = subst (λ x. is_open (state_of u) (zone_of x) ≡ true) (place_spot q plain) (L.in_open u.profile u.seen (spot_of q) (block_of l) lawful live);
        held = b.held ∙ ap (λ x. x ∷ []) is;
        calm = calm_at L u q k is plain there b.calm;
        live = live;
        in_hand = ap (λ h. has_block h (block_of l)) (hand_same t u 1 b.since.grows.adds ∙ hand_same s t a.holds a.grows.adds) ∙ can.in_hand;
      }

  all_since : (s t u : Account) (k : ℕ) (b : Block) (v : Keeping) → s.held ≡ [] → (a : PassedBy s t) → IsThere t k b v u → GrowsHolding s [] (a.holds + 1) u
  all_since s t u k b v none a h = L.joined s t u [] [] a.holds 1 (L.looked s t a.holds none a.grows) h.since

  module _ (s t u : Account) (p : Profile) (l : LotView) (w : Way) (v : Keeping) (can : CanLook s p l) (a : PassedBy s t) (way : IsWay p w) (zone : w.zone ≡ l.zone) (lawful : AreLawful u.profile opening u.seen) where
    profile_is : (k : ℕ) → IsThere t k (block_of l) v u → u.profile ≡ p
    profile_is k b = b.since.grows.adds.same.profile ∙ (a.grows.adds.same.profile ∙ can.profile)

    pub in_magazine : IsThere t w.k (block_of l) v u → LivesAt s l.zone (block_of l) (Magazine w v) u
    in_magazine b =
        let way_u = subst (λ x. IsWay x w) (sym (profile_is w.k b)) way in
        let lives = lives_in s t u p l w.magazine w.k v can a b (or_left (is_magazine w.magazine || is_depot w.magazine) (is_large w.magazine) (or_left (is_magazine w.magazine) (is_depot w.magazine) way.magazine)) (plain_k L p w way) way_u.exists way_u.k lawful in
        record {
          holds = a.holds + 1;
          since = all_since s t u w.k (block_of l) v can.nothing_held a b;
          home = (zone, (way_u, lives, keeps_at L u w.magazine w.k way_u.k (plain_k L p w way) way_u.exists v b.stands));
        }

    pub in_depot : IsThere t w.d (block_of l) v u → LivesAt s l.zone (block_of l) (Depot w v) u
    in_depot b =
        let way_u = subst (λ x. IsWay x w) (sym (profile_is w.d b)) way in
        let kinds = L.depot p w.magazine way.magazine in
        let there = there_d L u.profile w way_u in
        let lives = lives_in s t u p l (depot_of w.magazine) w.d v can a b (rw (kinds.depot_no_magazine, kinds.is_depot_of) refl) (plain_d L p w way) there way_u.d lawful in
        record {
          holds = a.holds + 1;
          since = all_since s t u w.d (block_of l) v can.nothing_held a b;
          home = (zone, (way_u, lives, keeps_at L u (depot_of w.magazine) w.d way_u.d (plain_d L p w way) there v b.stands));
        }

  pub in_large : (s t u : Account) (p : Profile) (l : LotView) (w : LargeWay) (v : Keeping) → CanLook s p l → PassedBy s t → IsLargeWay p w → w.zone ≡ l.zone → AreLawful u.profile opening u.seen → IsThere t w.l (block_of l) v u → LivesAt s l.zone (block_of l) (home.Large w v) u
  in_large s t u p l w v can a way zone lawful b =
      let way_u = subst (λ x. IsLargeWay x w) (sym (b.since.grows.adds.same.profile ∙ (a.grows.adds.same.profile ∙ can.profile))) way in
      let there = below_test w.zone u.profile.zones way_u.zone in
      record {
        holds = a.holds + 1;
        since = all_since s t u w.l (block_of l) v can.nothing_held a b;
        home = (zone, (way_u, lives_in s t u p l (Large w.zone) w.l v can a b refl refl there way_u.l lawful, keeps_at L u (Large w.zone) w.l way_u.l refl there v b.stands));
      }

-- a home that is found after others came is found
pub found_later : (L : BookLaws) (s t u : Account) (z : ℕ) (b : Block) (h : Home) → s.held ≡ [] → PassedBy s t → LivesAt t z b h u → LivesAt s z b h u
found_later L s t u z b h none a x = record {
  holds = a.holds + x.holds;
  since = L.joined s t u [] [] a.holds x.holds (L.looked s t a.holds none a.grows) x.since;
  home = x.home;
}
