-- A depot gives a region without live blocks back to the free pages.
use Rattle.std.proofs.Common.{◌≡◌, ℕ, ◌<◌, ◌≤◌, ◌==◌, Bool, true, false, List, [], ◌∷◌, ◌++◌, length, filter, find, refl, ap, sym, subst, ◌∙◌, arith, inl, inr, ⊎_elim, Some, None, eq-eqb, eqb-true, zero, suc}
use Rattle.std.specs.Prelude.{◌||◌, nat_lt, if◌then◌else◌}
use Rattle.std.specs.List.{Contains, list_any, list_all}
use Rattle.std.specs.Option.{option_map}
use Rattle.std.proofs.lemmas.List.{append-nil}
use Rattle.std.proofs.lemmas.Bool.{false≢true, and_parts, cases_Bool, cond-true, cond-false, or_left}
use Rattle.mz_base.specs.declared.profile.Profile.{Profile}
use Rattle.mz_base.specs.Space.{Block, Run, same_block, same_run, run_at, block_end, blocks_apart, bytes_of}
use Rattle.mz_base.specs.Lists.{has_run, has_block, blocks_in}
use Rattle.mz_base.specs.Room.{lies_in}
use Rattle.mz_events.specs.declared.place.Place.{Place}
use Rattle.mz_events.specs.declared.place.Place.TheVariants.{Pages, Tiny, TinyDepot, Small, SmallDepot}
use Rattle.mz_events.specs.declared.event.Event.TheVariants.{Back}
use Rattle.mz_events.specs.Places.{is_magazine, is_depot, is_tiny, is_small, is_length_of, depot_of, spot_of, Spot, same_spot, place_of}
use Rattle.mz_events.specs.State.{Kept, Value, opening, is_open, placed_runs}
use Rattle.mz_events.specs.Changes.{one_for, without_run, pages_with, region_at}
use Rattle.mz_events.specs.Duties.{is_unused, empty_depot_region}
use Rattle.mz_events.specs.History.{AreLawful}
use Rattle.mz_events.specs.Standing.{Keeping, Stands}
use Rattle.mz_record.specs.Moments.{duty_left, first_some}
use Rattle.mz_book.specs.Keepers.{keeper_of, is_among}
use Rattle.mz_book.specs.Account.{Account, state_of, known, holds_spot, entry_at}
use Rattle.mz_book.specs.Calls.{CanHold, CanNote, Notes, Holds, without}
use Rattle.mz_book.specs.Growth.{Grows, GrowsHolding}
use Rattle.mz_rack.specs.declared.way.Way.{Way}
use Rattle.mz_rack.specs.declared.region.AnyRegion.{AnyRegion}
use Rattle.mz_rack.specs.BookLaws.{BookLaws}
use Rattle.mz_rack.specs.Regions.{run_in}
use Rattle.mz_rack.specs.Ways.{IsWay}
use Rattle.mz_rack.specs.Asking.{IsTidy, MayYield}
use Rattle.mz_rack.specs.Answering.{Yielded}
use Rattle.mz_rack.specs.Ending.{IsLacked, MayPutBack}
use Rattle.mz_rack.specs.Stages.{at_magazine, at_depot, at_pages, Keeps}
use Rattle.mz_rack.specs.FreeStages.{OwesBack, Settles, IsLast}
use Rattle.mz_rack.proofs.Steps.{same_number, same_spot_refl, apart_back, two_spots, held_at, its_place, learn_touched, learn_other, can_note, stands_then, plain_k, plain_d, there_d, below_p, less_differs, test_below, or_elim, rest_grows}
use Rattle.mz_rack.proofs.Listed.{region_there, begins_at, all_blocks, same_run_is, is_same_run, same_block_is}
use Rattle.mz_rack.proofs.Tidying.{place_spot, tidy_of, in_or_apart}
use Rattle.mz_rack.proofs.Answered.{MomentLaws}
use Rattle.mz_rack.proofs.Ended.{is_last, duty_then}

-- the region that is owed is one of them, has that length, and no live block lies in it
pub record IsOwed (k : Kept) (f w : ℕ) : Type 0 where
  pub there : has_run k.runs (run_at f w) ≡ true
  pub begins : list_any (λ r. r.first == f) k.runs ≡ true
  pub unused : is_unused k.live (run_at f w) ≡ true

owed_among : (live : List Block) (d e : Place) (f w : ℕ) (rs : List Run) → option_map (λ (r : Run). Back d r.first r.pages) (find (is_unused live) rs) ≡ Some (Back e f w)
    → (has_run rs (run_at f w) ≡ true) × (list_any (λ r. r.first == f) rs ≡ true) × (is_unused live (run_at f w) ≡ true)
owed_among live d e f w [] h = absurd (cc)
owed_among live d e f w (r ∷ rs) h = elim (cases_Bool (is_unused live r)) [
  | inl y ↦
      let same = sym (ap (λ o. option_map (λ (t : Run). Back d t.first t.pages) o) (cond-true (is_unused live r) (Some r) (find (is_unused live) rs) y)) ∙ h in
      let is : r ≡ run_at f w = ap (λ x. run_at x r.pages) (first_is same) ∙ ap (λ x. run_at f x) (pages_is same) in (
        or_left _ (has_run rs (run_at f w)) (subst (λ t. same_run (run_at f w) t ≡ true) (sym is) (is_same_run (run_at f w))),
        or_left (r.first == f) (list_any (λ t. t.first == f) rs) (eq-eqb r.first f (first_is same)),
        subst (λ t. is_unused live t ≡ true) is y,
      )
  | inr y ↦
      let rest = owed_among live d e f w rs (sym (ap (λ o. option_map (λ (t : Run). Back d t.first t.pages) o) (cond-false (is_unused live r) (Some r) (find (is_unused live) rs) y)) ∙ h) in
      (behind _ _ rest.0, behind (r.first == f) _ rest.1, rest.2)
]
  where
    behind : (a b : Bool) → b ≡ true → (a || b) ≡ true
    behind true b e = refl
    behind false b e = e

    first_is : Some (Back d r.first r.pages) ≡ Some (Back e f w) → r.first ≡ f
    first_is g = cc

    pages_is : Some (Back d r.first r.pages) ≡ Some (Back e f w) → r.pages ≡ w
    pages_is g = cc

pub is_owed_back : (d e : Place) (k : Kept) (f w : ℕ) → empty_depot_region d k ≡ Some (Back e f w) → IsOwed k f w
is_owed_back d e k f w h = let all = owed_among k.live d e f w k.runs h in record { there = all.0; begins = all.1; unused = all.2 }

-- no live block lies in an unused run
none_in : (live : List Block) (r : Run) (b : Block) → is_unused live r ≡ true → has_block live b ≡ true → lies_in r b.first (block_end b) ≡ true → ⊥
none_in [] r b h there lies = false≢true there
none_in (c ∷ live) r b h there lies = elim (cases_Bool (lies_in r c.first (block_end c))) [
  | inl y ↦ let z = eqb-true (length (c ∷ blocks_in live r)) 0 (sym (ap (λ l. length l == 0) (cond-true (lies_in r c.first (block_end c)) (c ∷ blocks_in live r) (blocks_in live r) y)) ∙ h) in omega (arith, z)
  | inr y ↦
      let rest : is_unused live r ≡ true = sym (ap (λ l. length l == 0) (cond-false (lies_in r c.first (block_end c)) (c ∷ blocks_in live r) (blocks_in live r) y)) ∙ h in
      or_elim (same_block b c) (has_block live b)
      (λ is. false≢true (sym y ∙ subst (λ z. lies_in r z.first (block_end z) ≡ true) (same_block_is b c is) lies))
      (λ more. none_in live r b rest more lies) there
]

pub nothing_in : (live : List Block) (r : Run) → is_unused live r ≡ true → blocks_in live r ≡ []
nothing_in live r h = empty_is (blocks_in live r) h
  where
    empty_is : (l : List Block) → (length l == 0) ≡ true → l ≡ []
    empty_is [] e = refl
    empty_is (x ∷ l) e = let z = eqb-true (length (x ∷ l)) 0 e in absurd (omega (arith, z))

-- lists of numbers

among_behind : (held : List ℕ) (k p : ℕ) → is_among held k ≡ true → is_among (held ++ p ∷ []) k ≡ true
among_behind [] k p h = absurd (false≢true h)
among_behind (x ∷ held) k p h = or_elim (x == k) (is_among held k) (λ y. or_left (x == k) _ y) (λ y. behind (x == k) _ (among_behind held k p y)) h
  where
    behind : (a b : Bool) → b ≡ true → (a || b) ≡ true
    behind true b e = refl
    behind false b e = e

among_last : (held : List ℕ) (p : ℕ) → is_among (held ++ p ∷ []) p ≡ true
among_last [] p = rw (same_number p) refl
among_last (x ∷ held) p = behind (x == p) _ (among_last held p)
  where
    behind : (a b : Bool) → b ≡ true → (a || b) ≡ true
    behind true b e = refl
    behind false b e = e

drop_last : (held : List ℕ) (p : ℕ) → list_all (λ x. nat_lt x p) held ≡ true → without p (held ++ p ∷ []) ≡ held
drop_last [] p h = rw (same_number p) refl
drop_last (x ∷ held) p h =
    let parts = and_parts (nat_lt x p) (list_all (λ y. nat_lt y p) held) h in
    rw (less_differs x p (test_below x p parts.0), drop_last held p parts.1) refl

one_more_than : (w : ℕ) (d m : Place) → is_length_of d w ≡ true → (v : ℕ) → is_length_of d v ≡ true → is_depot d ≡ true → v ≡ w
one_more_than w (TinyDepot z) m h v g dep = eqb-true v 64 g ∙ sym (eqb-true w 64 h)
one_more_than w (SmallDepot z) m h v g dep = eqb-true v 512 g ∙ sym (eqb-true w 512 h)
one_more_than w _ m h v g dep = absurd (false≢true dep)

pub length_of_depot : (m : Place) (w : ℕ) → is_magazine m ≡ true → is_length_of m w ≡ true → is_length_of (depot_of m) w ≡ true
length_of_depot (Tiny z m) w h g = g
length_of_depot (Small z m) w h g = g
length_of_depot _ w h g = absurd (false≢true h)

-- both are held, and the depot owes the region
pub record OwesPages (s : Account) (w : Way) (f : ℕ) (t : Account) : Type 0 where
  pub since : GrowsHolding s [] 1 t
  pub way : IsWay t.profile w
  pub zone_open : is_open (state_of t) w.zone ≡ true
  pub held : t.held ≡ s.held ++ w.p ∷ []
  pub same : (j : Spot) → holds_spot s j ≡ true → known t j ≡ known s j
  pub duty : (known t (at_depot w)).duty ≡ Some (Back (depot_of w.magazine) f w.pages)
  pub calm_p : (known t at_pages).duty ≡ None
  pub here_d : holds_spot t (at_depot w) ≡ true
  pub here_p : holds_spot t at_pages ≡ true
  pub owed : IsOwed (known t (at_depot w)).kept f w.pages

-- the region's pages are free again
pub record IsBack (t : Account) (w : Way) (f i : ℕ) (u : Account) : Type 0 where
  pub since : GrowsHolding t (entry_at i t.caller (Back w.depot f w.pages) ∷ []) 0 u
  pub last : IsLast u (entry_at i t.caller (Back w.depot f w.pages))
  pub held : u.held ≡ t.held
  pub kept_d : (known u (at_depot w)).kept ≡ without_run (run_at f w.pages) (known t (at_depot w)).kept
  pub calm_d : (known u (at_depot w)).duty ≡ None
  pub kept_p : (known u at_pages).kept ≡ pages_with (depot_of w.magazine) (run_at f w.pages) (known t at_pages).kept
  pub calm_p : (known u at_pages).duty ≡ None
  pub others : (j : Spot) → holds_spot t j ≡ true → same_spot j (at_depot w) ≡ false → same_spot j at_pages ≡ false → known u j ≡ known t j

module _ (L : BookLaws) (w : Way) where
  pub can_hold_pages : (s : Account) → OwesBack s w → CanHold s w.p
  can_hold_pages s o = record { exists = below_p L s.profile w o.way; above_held = o.below_pages }

  pub holds_depot : (s : Account) → OwesBack s w → holds_spot s (at_depot w) ≡ true
  holds_depot s o = L.held s.profile s.held (depot_of w.magazine) (plain_d L s.profile w o.way) ∙ (ap (λ k. is_among s.held k) (sym o.way.d) ∙ o.here)

  pub owes_pages : (s t : Account) (f : ℕ) → OwesBack s w → (known s (at_depot w)).duty ≡ Some (Back w.depot f w.pages) → Holds s w.p t → OwesPages s w f t
  owes_pages s t f o due h =
      let way = o.way in
      let since = L.hold s t w.p h in
      let same = since.grows.adds.same in
      let held = ap (λ (v : Account). v.held) h.after in
      let way_t = subst (λ (p : Profile). IsWay p w) (sym same.profile) way in
      let at_d = h.stays (at_depot w) (holds_depot s o) in
      record {
        since = since;
        way = way_t;
        zone_open = since.grows.adds.zones w.zone ∙ o.zone_open;
        held = held;
        same = h.stays;
        duty = ap (λ (v : Value). v.duty) at_d ∙ (due ∙ ap (λ d. Some (Back d f w.pages)) way.depot);
        calm_p = ap (λ (x : Place). (known t (spot_of x)).duty) (sym (its_place L s Pages w.p way.pages_is refl refl)) ∙ h.calm;
        here_d = L.held t.profile t.held (depot_of w.magazine) (plain_d L t.profile w way_t) ∙ (ap (λ k. is_among t.held k) (sym way_t.d) ∙ (ap (λ l. is_among l w.d) held ∙ among_behind s.held w.d w.p o.here));
        here_p = L.held t.profile t.held Pages refl ∙ (ap (λ k. is_among t.held k) (sym way_t.pages_is) ∙ (ap (λ l. is_among l w.p) held ∙ among_last s.held w.p));
        owed = is_owed_back w.depot w.depot (known t (at_depot w)).kept f w.pages (ap (λ (v : Value). empty_depot_region w.depot v.kept) at_d ∙ (sym o.owes ∙ due));
      }

  module _ (s t : Account) (f : ℕ) (o : OwesBack s w) (k : OwesPages s w f t) (lawful : AreLawful t.profile opening t.seen) where
    abbrev kd : Kept
    kd = (known t (at_depot w)).kept

    abbrev kp : Kept
    kp = (known t at_pages).kept

    abbrev run : Run
    run = run_at f w.pages

    depot_is : is_depot (depot_of w.magazine) ≡ true
    depot_is = (L.depot t.profile w.magazine k.way.magazine).is_depot_of

    pub regions_d : (is_magazine (depot_of w.magazine) || is_depot (depot_of w.magazine)) ≡ true
    regions_d = let kinds = L.depot t.profile w.magazine k.way.magazine in rw (kinds.depot_no_magazine, kinds.is_depot_of) refl

    pub tidy_d : IsTidy t.profile (depot_of w.magazine) kd
    tidy_d = let kinds = L.depot t.profile w.magazine k.way.magazine in tidy_of L t lawful (depot_of w.magazine) kinds.depot.not_nano kinds.depot.not_large

    -- the region that begins at the page is the one that is owed
    region_is : region_at kd.runs f ≡ run
    region_is =
        let there = region_there kd.runs f k.owed.begins in
        let pages : (region_at kd.runs f).pages ≡ w.pages =
        one_more_than w.pages (depot_of w.magazine) w.magazine (length_of_depot w.magazine w.pages k.way.magazine k.way.region) (region_at kd.runs f).pages (tidy_d.lengths (region_at kd.runs f) there) depot_is in
        ap (λ x. run_at x (region_at kd.runs f).pages) (begins_at kd.runs f k.owed.begins) ∙ ap (λ x. run_at f x) pages

    pub may_yield_d : (v : Keeping) → Keeps t (depot_of w.magazine) v → MayYield v f
    may_yield_d v h = record {
      space = t.site;
      profile = t.profile;
      place = depot_of w.magazine;
      kept = kd;
      stands = h;
      regions = regions_d;
      tidy = tidy_d;
      there = k.owed.begins;
    }

    pub can_give_back : t.caller < t.profile.callers → 1 ≤ t.spare → CanNote t (Back w.depot f w.pages)
    can_give_back c room =
        let way = k.way in
        let kinds = L.depot t.profile w.magazine way.magazine in
        let d = depot_of w.magazine in
        let unused : list_all (λ b. blocks_apart b (bytes_of run)) kd.live ≡ true =
        all_blocks (λ b. blocks_apart b (bytes_of run)) kd.live
        (λ b y. ⊎_elim (λ (lies : lies_in run b.first (block_end b) ≡ true). absurd (none_in kd.live run b k.owed.unused y lies)) (λ (apart : blocks_apart b (bytes_of run) ≡ true). apart) (in_or_apart L t lawful d run kinds.depot.not_nano k.owed.there b y)) in
        subst (λ e. CanNote t (Back e f w.pages)) (sym way.depot)
        (can_note t (Back d f w.pages) room refl refl refl
        (λ j y. ⊎_elim (λ (e : j ≡ at_depot w). held_at t j (at_depot w) e k.here_d) (λ (e : j ≡ at_pages). held_at t j at_pages e k.here_p) (two_spots L j (at_depot w) at_pages y))
        (((L.fits t.profile (state_of t) t.caller).give_back d f w.pages).1 (record {
          caller = c;
          kind = rw (kinds.depot_no_magazine, kinds.is_depot_of) refl;
          exists = there_d L t.profile w way;
          allowed = inr k.duty;
          pages_allowed = inl k.calm_p;
          here = k.owed.there;
          unused = unused;
          no_magazine = λ _. kinds.depot_no_magazine;
          owed = λ _ y. absurd (false≢true (sym kinds.depot.not_large ∙ y));
        })))

    pub is_back : (i : ℕ) (u : Account) → CanNote t (Back w.depot f w.pages) → Notes t (Back w.depot f w.pages) i u → IsBack t w f i u
    is_back i u can h =
        let way = k.way in
        let kinds = L.depot t.profile w.magazine way.magazine in
        let d = depot_of w.magazine in
        let e = Back d f w.pages in
        let h' : Notes t e i u = subst (λ x. Notes t (Back x f w.pages) i u) way.depot h in
        let apart = kinds.depot.apart_from_pages in
        let at_d = learn_touched t e i u (at_depot w) h' k.here_d (rw (same_spot_refl L (at_depot w)) refl) ∙ (L.leaves (state_of t) t.caller).give_back d f w.pages kinds.depot.not_pages in
        let at_p = learn_touched t e i u at_pages h' k.here_p (rw (apart_back L (at_depot w) at_pages apart, same_spot_refl L at_pages) refl) ∙ (L.leaves (state_of t) t.caller).give_back_pages d f w.pages in
        record {
          since = L.note t u (Back w.depot f w.pages) i can refl h;
          last = is_last t (Back w.depot f w.pages) i u h;
          held = ap (λ (v : Account). v.held) h.after;
          kept_d = ap (λ (v : Value). v.kept) at_d;
          calm_d = ap (λ (v : Value). v.duty) at_d;
          kept_p = ap (λ (v : Value). v.kept) at_p;
          calm_p = ap (λ (v : Value). v.duty) at_p;
          others = λ j y a b. learn_other t e i u j h' y (rw (a, b) refl);
        }

    -- THE REGION that was handed out
    counted : (q : Spot → Bool) (xs : List (Spot × Run)) (j : Spot) (r : Run) → Contains {X = Spot × Run} xs (j, r) → q j ≡ true → 1 ≤ length (filter (λ (x : Spot × Run). q x.0) xs)
    counted q [] j r (n, l, is) h = absurd (omega arith)
    counted q (x ∷ xs) j r (zero, l, is) h =
        let passes : q x.0 ≡ true = ap (λ (y : Spot × Run). q y.0) is ∙ h in
        subst (λ b. 1 ≤ length (if b then x ∷ filter (λ (y : Spot × Run). q y.0) xs else filter (λ (y : Spot × Run). q y.0) xs)) (sym passes) (omega arith)
    counted q (x ∷ xs) j r (suc n, l, is) h =
        let rest = counted q xs j r (n, omega arith, is) h in
        elim (cases_Bool (q x.0)) [
          | inl y ↦ subst (λ b. 1 ≤ length (if b then x ∷ filter (λ (z : Spot × Run). q z.0) xs else filter (λ (z : Spot × Run). q z.0) xs)) (sym y) (omega arith)
          | inr y ↦ subst (λ b. 1 ≤ length (if b then x ∷ filter (λ (z : Spot × Run). q z.0) xs else filter (λ (z : Spot × Run). q z.0) xs)) (sym y) rest
        ]

    contained : (rs : List Run) (r : Run) → has_run rs r ≡ true → Contains rs r
    contained [] r h = absurd (false≢true h)
    contained (x ∷ rs) r h = elim (cases_Bool (same_run r x)) [
      | inl y ↦ (0, omega arith, sym (same_run_is r x y))
      | inr y ↦ let rest = contained rs r (sym (ap (λ b. b || has_run rs r) y) ∙ h) in (suc rest.0, omega (arith, rest.1), rest.2)
    ]

    one_of : (q : Place → Bool) → one_for (q (depot_of w.magazine)) ≤ length (filter (λ (x : Spot × Run). q (place_of x.0)) (placed_runs (state_of t)))
    one_of q = elim (cases_Bool (q (depot_of w.magazine))) [
      | inl y ↦
          let among = ((L.by_spot (state_of t) (L.once t.profile opening t.seen L.once_first)).runs (at_depot w) run).1 (contained kd.runs run k.owed.there) in
          let some = counted (λ j. q (place_of j)) (placed_runs (state_of t)) (at_depot w) run among (ap q (place_spot (depot_of w.magazine) (plain_d L t.profile w k.way)) ∙ y) in
          subst (λ b. one_for b ≤ length (filter (λ (x : Spot × Run). q (place_of x.0)) (placed_runs (state_of t)))) (sym y) some
      | inr y ↦ subst (λ b. one_for b ≤ length (filter (λ (x : Spot × Run). q (place_of x.0)) (placed_runs (state_of t)))) (sym y) (omega arith)
    ]

    is_lacked : IsLacked t.profile (depot_of w.magazine) kp run
    is_lacked =
        let separate = L.separate t.profile t.seen lawful in
        record {
          is_one = depot_is;
          taken = (L.ascending t.profile t.seen lawful).taken;
          there = (separate.taken run).1 (at_depot w, k.owed.there);
          below = separate.below_nano (at_depot w) run k.owed.there;
          tiny = subst (λ n. one_for (is_tiny (depot_of w.magazine)) ≤ n) (sym separate.tiny_regions) (one_of is_tiny);
          small = subst (λ n. one_for (is_small (depot_of w.magazine)) ≤ n) (sym separate.small_regions) (one_of is_small);
        }

    module _ (r : AnyRegion) (is : Kept → Type 0) (y : Yielded t.site (depot_of w.magazine) kd f is r) where
      run_is : run_in r ≡ run
      run_is = y.run ∙ region_is

      pub lacked : IsLacked t.profile (depot_of w.magazine) kp (run_in r)
      lacked = subst (λ x. IsLacked t.profile (depot_of w.magazine) kp x) (sym run_is) is_lacked

      pub may_put_back : (v : Keeping) → Keeps t Pages v → MayPutBack v r
      may_put_back v h = record {
        space = t.site;
        profile = t.profile;
        depot = depot_of w.magazine;
        kept = kp;
        stands = h;
        quantum = y.quantum;
        of_space = y.space;
        unused = y.live ∙ (ap (λ x. blocks_in kd.live x) region_is ∙ nothing_in kd.live run k.owed.unused);
        lacked = lacked;
      }

      module _ (i : ℕ) (u : Account) (x : IsBack t w f i u) where
        pub depot_stands : (v : Keeping) → Stands v t.site t.profile (depot_of w.magazine) (without_run (region_at kd.runs f) kd) → Keeps u (depot_of w.magazine) v
        depot_stands v h = stands_then t u (depot_of w.magazine) _ _ v x.since.grows.adds.same (x.kept_d ∙ ap (λ a. without_run a kd) (sym region_is)) h

        pub pages_stand : (v : Keeping) → Stands v t.site t.profile Pages (pages_with (depot_of w.magazine) (run_in r) kp) → Keeps u Pages v
        pages_stand v h = stands_then t u Pages _ _ v x.since.grows.adds.same (x.kept_p ∙ ap (λ a. pages_with (depot_of w.magazine) a kp) (sym run_is)) h

    module _ (i : ℕ) (u : Account) (x : IsBack t w f i u) where
      pub way_then : IsWay u.profile w
      way_then = subst (λ (p : Profile). IsWay p w) (sym x.since.grows.adds.same.profile) k.way

      pub held_then : u.held ≡ s.held ++ w.p ∷ []
      held_then = x.held ∙ k.held

      pub has_pages : is_among (s.held ++ w.p ∷ []) w.p ≡ true
      has_pages = among_last s.held w.p

      pub without_pages : without w.p (s.held ++ w.p ∷ []) ≡ s.held
      without_pages = drop_last s.held w.p o.below_pages

      -- it is settled
      pub settles : MomentLaws → (y : Account) → AreLawful y.profile opening y.seen → y ≡ record u { held = without w.d s.held } → (known s (at_depot w)).duty ≡ Some (Back w.depot f w.pages) → Settles s w y
      settles M y lawful_y go due =
          let e = entry_at i t.caller (Back w.depot f w.pages) in
          let c1 : t.caller ≡ s.caller = k.since.grows.adds.same.caller in
          let p1 : u.profile ≡ s.profile = x.since.grows.adds.same.profile ∙ k.since.grows.adds.same.profile in
          let p2 : y.profile ≡ u.profile = ap (λ (a : Account). a.profile) go in
          let all = L.joined s t u [] (e ∷ []) 1 0 k.since x.since in
          let grown = rest_grows L s (e ∷ []) 1 u (without w.d s.held) y all.grows go in
          let left : duty_left u.profile y.seen e ≡ None =
          duty_then L M u e y.seen [] x.last (subst (λ (p : Profile). AreLawful p opening y.seen) p2 lawful_y) (ap (λ (a : Account). a.seen) go ∙ sym (append-nil u.seen))
          ∙ (ap (λ d. first_some ((known u (spot_of d)).duty ∷ (known u at_pages).duty ∷ [])) way_then.depot ∙ (ap (λ a. first_some (a ∷ (known u at_pages).duty ∷ [])) x.calm_d ∙ ap (λ a. first_some (None ∷ a ∷ [])) x.calm_p)) in
          let kinds = L.depot s.profile w.magazine o.way.magazine in
          record {
            mine = entry_at i s.caller (Back w.depot f w.pages) ∷ [];
            holds = 1;
            few = omega arith;
            grows = subst (λ c. Grows s (entry_at i c (Back w.depot f w.pages) ∷ []) 1 y) c1 grown;
            held = ap (λ (a : Account). a.held) go;
            stays = λ held. ap (λ (a : Account). known a (at_magazine w)) go
                ∙ (x.others (at_magazine w) (still_held held) kinds.apart kinds.magazine.apart_from_pages ∙ k.same (at_magazine w) held);
            settled = inr (f, i, due, refl, subst (λ c. duty_left s.profile y.seen (entry_at i c (Back w.depot f w.pages)) ≡ None) c1 (subst (λ (p : Profile). duty_left p y.seen e ≡ None) p1 left));
          }
        where
          still_held : holds_spot s (at_magazine w) ≡ true → holds_spot t (at_magazine w) ≡ true
          still_held h =
              let number = plain_k L s.profile w o.way in
              let at : is_among s.held (keeper_of s.profile w.magazine) ≡ true = sym (L.held s.profile s.held w.magazine number) ∙ h in
              L.held t.profile t.held w.magazine number
              ∙ (ap (λ l. is_among l (keeper_of t.profile w.magazine)) k.held ∙ (ap (λ (p : Profile). is_among (s.held ++ w.p ∷ []) (keeper_of p w.magazine)) k.since.grows.adds.same.profile ∙ among_behind s.held (keeper_of s.profile w.magazine) w.p at))

-- nothing is owed, and the depot is given back
pub settles_nothing : (L : BookLaws) (s y : Account) (w : Way) → (known s (at_depot w)).duty ≡ None → y ≡ record s { held = without w.d s.held } → Settles s w y
settles_nothing L s y w calm go = record {
  mine = [];
  holds = 0;
  few = omega arith;
  grows = rest_grows L s [] 0 s (without w.d s.held) y (L.nothing s).grows go;
  held = ap (λ (a : Account). a.held) go;
  stays = λ _. ap (λ (a : Account). known a (at_magazine w)) go;
  settled = inl (calm, refl);
}
