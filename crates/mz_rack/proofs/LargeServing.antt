-- A request for large is served by a cached run, or by a fresh one, or by none.
use Rattle.std.proofs.Common.{◌≡◌, ℕ, ◌+◌, ◌*◌, ◌<◌, ◌≤◌, true, false, List, [], ◌∷◌, ◌++◌, length, sum_by, refl, ap, sym, subst, ◌∙◌, arith, inl, inr, None}
use Rattle.std.specs.Prelude.{◌||◌, nat_lt, Result, Ok, Err}
use Rattle.std.specs.List.{list_all}
use Rattle.std.proofs.lemmas.Bool.{false≢true, or_parts, or_right, cases_Bool, leb-true, le-leb}
use Rattle.std.proofs.lemmas.List.{append-nil}
use Rattle.std.proofs.lemmas.List.Sums.{sum_by-cons}
use Rattle.mz_base.specs.declared.range.TheConstants.{PAGE}
use Rattle.mz_base.specs.Space.{Block, Run, run_at, blocks_apart, runs_apart, bytes_of}
use Rattle.mz_base.specs.Lists.{add_run, has_run}
use Rattle.mz_base.specs.Room.{is_lowest_free}
use Rattle.mz_ground.specs.Views.{SpanView}
use Rattle.mz_large.specs.Large.{block_of, run_of_span}
use Rattle.mz_events.specs.declared.place.Place.{Place}
use Rattle.mz_events.specs.declared.place.Place.TheVariants.{Pages, Large}
use Rattle.mz_events.specs.declared.event.Event.TheVariants.{Take, New, Full}
use Rattle.mz_events.specs.declared.entry.Entry.{Entry}
use Rattle.mz_events.specs.Places.{nano_start, Spot, same_spot, spot_of}
use Rattle.mz_events.specs.State.{Kept, Value, opening}
use Rattle.mz_events.specs.Room.{run_fits, any_fits}
use Rattle.mz_events.specs.Locality.{reads}
use Rattle.mz_events.specs.Changes.{with_block, with_run, pages_without}
use Rattle.mz_events.specs.History.{AreLawful}
use Rattle.mz_events.specs.Leaving.{left_by}
use Rattle.mz_events.specs.Standing.{Keeping}
use Rattle.mz_book.specs.Keepers.{is_held}
use Rattle.mz_book.specs.Account.{Account, state_of, known, holds_spot, entry_at}
use Rattle.mz_book.specs.Calls.{CanNote, Notes, Holds}
use Rattle.mz_book.specs.Growth.{Grows, GrowsHolding}
use Rattle.mz_rack.specs.declared.lot.Null.{Null}
use Rattle.mz_rack.specs.declared.lot.Null.TheVariants as null
use Rattle.mz_rack.specs.declared.way.LargeWay.{LargeWay}
use Rattle.mz_rack.specs.BookLaws.{BookLaws}
use Rattle.mz_rack.specs.Runs.{out_of_pages, IsFoundRun, MayEnter}
use Rattle.mz_rack.specs.Stages.{at_pages, Keeps, LetsGo, IsDried}
use Rattle.mz_rack.specs.Seeking.{CanSeek, cached_in, Sought, dry_at}
use Rattle.mz_rack.specs.LargeStages.{large_spot, CanAskLarge, WasBest, TriedCache, NoneFits, SeeksRun, IsFreshRun, IsServedLarge, by_cache, by_fresh_run, null_in_large, ServedLarge}
use Rattle.mz_rack.proofs.Steps.{or_elim, same_spot_refl, held_at, its_place, learn_touched, can_note, rest_grows}
use Rattle.mz_rack.proofs.Listed.{is_same_run}
use Rattle.mz_rack.proofs.RoomLemmas.{any_inserted, insert_nil, insert_here, insert_later}
use Rattle.mz_rack.proofs.Tidying.{free_apart, live_apart}
use Rattle.mz_rack.proofs.Seeking.{flushed_later}
use Rattle.mz_rack.proofs.LargeSteps.{HeldLarge, ask_same, stands_large, one_l, two_l, two_p, can_make, is_made, on_free_run}

-- BY THE CACHE
module _ (L : BookLaws) (w : LargeWay) (n al : ℕ) where
  pub served_cached : (s t u y : Account) (x : SpanView) → HeldLarge s w n al t → TriedCache t w n al (Ok x) u → y ≡ record u { held = [] } → ServedLarge [] 0 s w n al (Ok x) y
  served_cached s t u y x h z go =
      let e = New (Large w.zone) x.first (length x.bytes) al in
      let all = L.joined s t u [] (entry_at z.ticket t.caller e ∷ []) 1 0 h.since z.since in
      let mine : Grows s (entry_at z.ticket s.caller e ∷ []) 1 u = subst (λ c. Grows s (entry_at z.ticket c e ∷ []) 1 u) h.since.grows.adds.same.caller all.grows in
      record {
        mine = entry_at z.ticket s.caller e ∷ [];
        holds = 1;
        grows = rest_grows L s (entry_at z.ticket s.caller e ∷ []) 1 u [] y mine go;
        nothing_held = ap (λ (v : Account). v.held) go;
        served = by_cache x z.ticket refl (subst (λ (v : Account). WasBest v w.zone n z.ticket x) (sym go) z.is.1) refl refl;
        is = z.is.0 ∙ sym (ap (λ (v : Account). v.site) go);
      }

  -- none fits, and what serves then
  pub served_then : (s t u y : Account) (i : ℕ) (got : Result SpanView Null) → HeldLarge s w n al t → TriedCache t w n al (Err i) u
      → ServedLarge (entry_at i u.caller (Full (Large w.zone) n 1) ∷ []) 1 u w n al got y → ServedLarge [] 0 s w n al got y
  served_then s t u y i got h z b =
      let f = Full (Large w.zone) n 1 in
      let e = entry_at z.ticket t.caller f in
      let all = L.joined s t u [] (e ∷ []) 1 0 h.since z.since in
      let same : entry_at i u.caller f ≡ e = ap (λ j. entry_at j u.caller f) z.is.0 ∙ ap (λ c. entry_at z.ticket c f) z.since.grows.adds.same.caller in
      record {
        mine = e ∷ b.mine;
        holds = 1 + b.holds;
        grows = L.ended s u y (e ∷ []) b.mine 1 b.holds all b.grows;
        nothing_held = b.nothing_held;
        served = let count : 1 + b.holds ≡ 0 + (1 + b.holds) = omega arith in
            subst (λ j. IsServedLarge s.caller y w n al (e ∷ b.mine) j got) count (subst (λ c. IsServedLarge c y w n al (e ∷ b.mine) (1 + b.holds) got) all.grows.adds.same.caller (subst (λ (d : Entry). IsServedLarge u.caller y w n al (d ∷ b.mine) (1 + b.holds) got) same b.served));
        is = b.is;
      }

-- THE PAGES are held too
pub record HeldPages (s : Account) (w : LargeWay) (n al : ℕ) (t : Account) : Type 0 where
  pub since : GrowsHolding s [] 1 t
  pub seeks : SeeksRun t w n al
  pub same_l : known t (large_spot w) ≡ known s (large_spot w)

-- no run of what is left of a list fits, where none of the list does
fits_less : (front back : List Run) (n : ℕ) → any_fits (front ++ back) n ≡ false → any_fits back n ≡ false
fits_less [] back n h = h
fits_less (r ∷ rs) back n h = fits_less rs back n (or_parts (run_fits n r) (any_fits (rs ++ back) n) h).1

module _ (L : BookLaws) (w : LargeWay) (n al : ℕ) where
  pub held_pages : (s t : Account) → NoneFits s w n al → Holds s w.p t → HeldPages s w n al t
  held_pages s t f h =
      let r = f.ready in
      let since = L.hold s t w.p h in
      let same_l = h.stays (large_spot w) (ap (λ x. is_held s.profile x (large_spot w)) r.held ∙ one_l L s.profile w r.can.way) in
      record {
        since = since;
        seeks = record {
          can = ask_same s t w n al r.can since.grows.adds.same since.grows.adds.zones;
          both = record {
            held = ap (λ (v : Account). v.held) h.after ∙ ap (λ x. x ++ w.p ∷ []) r.held;
            calm_l = ap (λ (v : Value). v.duty) same_l ∙ r.calm;
            calm_p = ap (λ (q : Place). (known t (spot_of q)).duty) (sym (its_place L s Pages w.p r.can.way.pages_is refl refl)) ∙ h.calm;
          };
          none = ap (λ (v : Value). any_fits v.kept.cached n) same_l ∙ f.none;
        };
        same_l = same_l;
      }

  module _ (t : Account) (k : SeeksRun t w n al) where
    pub here_l : holds_spot t (large_spot w) ≡ true
    here_l = ap (λ x. is_held t.profile x (large_spot w)) k.both.held ∙ two_l L t.profile w k.can.way

    pub here_p : holds_spot t at_pages ≡ true
    here_p = ap (λ x. is_held t.profile x at_pages) k.both.held ∙ two_p L t.profile w k.can.way

    pub can_seek : CanSeek t w.zone n 1
    can_seek =
        let some = k.can.pages in
        record {
          zone = k.can.way.zone;
          zone_open = k.can.zone_open;
          large = here_l;
          pages = here_p;
          calm_l = k.both.calm_l;
          calm_p = k.both.calm_p;
          some = omega (arith, some);
          some_alignment = omega arith;
        }

    -- what is sought for is still sought for after the search
    pub seeks_still : (u : Account) (got : Result SpanView ℕ) → Sought t w.zone n 1 got u → SeeksRun u w n al
    seeks_still u got y =
        let adds = y.since.grows.adds in
        record {
          can = ask_same t u w n al k.can adds.same adds.zones;
          both = record { held = y.stays.held ∙ k.both.held; calm_l = y.can.calm_l; calm_p = y.can.calm_p };
          none = fits_less y.flushed (cached_in u w.zone) n (sym (ap (λ rs. any_fits rs n) y.cached) ∙ k.none);
        }

-- A FRESH RUN
count_inserted : (r : Run) (rs : List Run) → length (add_run r rs) ≡ length rs + 1
count_inserted r [] = ap length (insert_nil (λ (t : Run). t.first) r)
count_inserted r (t ∷ ts) =
    elim (cases_Bool (nat_lt r.first t.first)) [
      | inl less ↦ let c = ap length (insert_here (λ (u : Run). u.first) r t ts less) in omega (arith, c)
      | inr more ↦ let c = ap length (insert_later (λ (u : Run). u.first) r t ts more) in let rest = count_inserted r ts in omega (arith, c, rest)
    ]

-- the free pages without a run of large are those without the run
pub pages_of_large : (z : ℕ) (r : Run) (k : Kept) → pages_without (Large z) r k ≡ out_of_pages r k
pages_of_large z r k =
    let none : (m : ℕ) → m + 0 ≡ m = λ m. omega arith in
    ap (λ m. record (out_of_pages r k) { tiny_regions = m; small_regions = k.small_regions + 0 }) (none k.tiny_regions) ∙ ap (λ m. record (out_of_pages r k) { small_regions = m }) (none k.small_regions)

-- runs of three pages and more are no more than a third of their pages
three_each : (rs : List Run) → ((r : Run) → has_run rs r ≡ true → 3 ≤ r.pages) → 3 * length rs ≤ sum_by (λ (r : Run). r.pages) rs
three_each [] h = omega arith
three_each (r ∷ rs) h =
    let here = h r (ap (λ b. b || has_run rs r) (is_same_run r)) in
    let rest = three_each rs (λ t y. h t (or_right _ (has_run rs t) y)) in
    let sum = sum_by-cons (λ (t : Run). t.pages) r rs in
    omega (arith, here, rest, sum)

module _ (L : BookLaws) (w : LargeWay) (n al : ℕ) (t : Account) (k : SeeksRun t w n al) (x : SpanView) (found : IsFoundRun t.site t.profile (known t at_pages).kept n 1 x) where
  abbrev r : Run
  r = run_of_span x

  run_is : run_at (run_of_span x).first n ≡ run_of_span x
  run_is = ap (λ m. run_at (run_of_span x).first m) (sym found.pages)

  some : 3 ≤ (run_of_span x).pages
  some = subst (λ m. 3 ≤ m) (sym found.pages) k.can.pages

  take_reads : (j : Spot) → reads t.profile (Take (Large w.zone) (run_of_span x).first n) j ≡ true → holds_spot t j ≡ true
  take_reads j h =
      or_elim (same_spot j (large_spot w) || (same_spot j at_pages || false)) (same_spot j (large_spot w))
      (λ y. or_elim (same_spot j (large_spot w)) (same_spot j at_pages || false) (λ z. held_at t j (large_spot w) ((L.spots j (large_spot w)).0 z) (here_l L w n al t k))
      (λ z. or_elim (same_spot j at_pages) false (λ y. held_at t j at_pages ((L.spots j at_pages).0 y) (here_p L w n al t k)) (λ y. absurd (false≢true y)) z) y)
      (λ y. held_at t j (large_spot w) ((L.spots j (large_spot w)).0 y) (here_l L w n al t k))
      h

  pub can_take : t.caller < t.profile.callers → 1 ≤ t.spare → CanNote t (Take (Large w.zone) (run_of_span x).first n)
  can_take c room =
      can_note t (Take (Large w.zone) (run_of_span x).first n) room refl refl refl take_reads
      (((L.fits t.profile (state_of t) t.caller).take_run w.zone (run_of_span x).first n).1 (record {
        standing = stands_large t w n al k.can c;
        calm = k.both.calm_l;
        pages_calm = k.both.calm_p;
        length = le-leb 3 n k.can.pages;
        lowest = subst (λ (y : Run). is_lowest_free (nano_start t.profile) (known t at_pages).kept.taken y 1 ≡ true) (sym run_is) found.lowest;
        none_fits = k.none;
      }))

  pub record IsTaken (i : ℕ) (u : Account) : Type 0 where
    pub since : GrowsHolding t (entry_at i t.caller (Take (Large w.zone) (run_of_span x).first n) ∷ []) 0 u
    pub can : CanAskLarge u w n al
    pub held : u.held ≡ t.held
    pub at_l : known u (large_spot w) ≡ left_by t.caller (Take (Large w.zone) (run_of_span x).first n) (with_run (run_of_span x) (known t (large_spot w)).kept) None
    pub at_p : known u at_pages ≡ left_by t.caller (Take (Large w.zone) (run_of_span x).first n) (pages_without (Large w.zone) (run_of_span x) (known t at_pages).kept) None

  pub is_taken : (i : ℕ) (u : Account) → CanNote t (Take (Large w.zone) (run_of_span x).first n) → Notes t (Take (Large w.zone) (run_of_span x).first n) i u → IsTaken i u
  is_taken i u can h =
      let e = Take (Large w.zone) (run_of_span x).first n in
      let since = L.note t u e i can refl h in
      record {
        since = since;
        can = ask_same t u w n al k.can since.grows.adds.same since.grows.adds.zones;
        held = ap (λ (v : Account). v.held) h.after;
        at_l = learn_touched t e i u (large_spot w) h (here_l L w n al t k) (rw (same_spot_refl L (large_spot w)) refl)
            ∙ ((L.leaves (state_of t) t.caller).take (Large w.zone) (run_of_span x).first n refl ∙ ap (λ (y : Run). left_by t.caller e (with_run y (known t (large_spot w)).kept) None) run_is);
        at_p = learn_touched t e i u at_pages h (here_p L w n al t k) refl
            ∙ ((L.leaves (state_of t) t.caller).take_pages (Large w.zone) (run_of_span x).first n ∙ ap (λ (y : Run). left_by t.caller e (pages_without (Large w.zone) y (known t at_pages).kept) None) run_is);
      }

  apart : AreLawful t.profile opening t.seen → list_all (λ y. runs_apart y (run_of_span x)) (known t (large_spot w)).kept.runs ≡ true
  apart lawful = free_apart L t lawful (large_spot w) (run_of_span x) 1 found.lowest

  module _ (i : ℕ) (u : Account) (m : IsTaken i u) where
    kept_l : (known u (large_spot w)).kept ≡ with_run (run_of_span x) (known t (large_spot w)).kept
    kept_l = ap (λ (v : Value). v.kept) m.at_l

    pub may_enter : AreLawful t.profile opening t.seen → AreLawful u.profile opening u.seen → (v : Keeping) → Keeps t (Large w.zone) v → MayEnter v x
    may_enter lawful after v st =
        let fit = L.runs_fit u.profile u.seen after in
        let runs = (known t (large_spot w)).kept.runs in
        let now = (known u (large_spot w)).kept.runs in
        let each = three_each now (λ y there. leb-true 3 y.pages (fit.lengths (large_spot w) y there)) in
        let count = ap length (ap (λ (v : Value). v.kept.runs) m.at_l) ∙ count_inserted (run_of_span x) runs in
        let all : sum_by (λ (y : Run). y.pages) now ≤ nano_start t.profile = subst (λ p. sum_by (λ (y : Run). y.pages) now ≤ nano_start p) m.since.grows.adds.same.profile (fit.of_place (large_spot w)) in
        let first = ap (λ (b : Block). b.first) (sym found.whole) in
        let size = ap (λ (b : Block). b.size) (sym found.whole) in
        let few = some in
        record {
          space = t.site;
          profile = t.profile;
          zone = w.zone;
          kept = (known t (large_spot w)).kept;
          stands = st;
          room = omega (arith, each, count, all);
          paged = record { first = omega (arith, first); size = omega (arith, size); some = omega (arith, size, few) };
          apart = apart lawful;
        }

    pub can_new : AreLawful t.profile opening t.seen → u.caller < u.profile.callers → 1 ≤ u.spare → CanNote u (New (Large w.zone) x.first (length x.bytes) al)
    can_new lawful c room =
        let here = ap (λ p. is_held p u.held (large_spot w)) m.since.grows.adds.same.profile ∙ (ap (λ l. is_held t.profile l (large_spot w)) m.held ∙ here_l L w n al t k) in
        let few = some in
        let there : has_run (known u (large_spot w)).kept.runs (run_of_span x) ≡ true = ap (λ (v : Value). has_run v.kept.runs (run_of_span x)) m.at_l ∙ any_inserted _ (λ (y : Run). y.first) (run_of_span x) _ (is_same_run (run_of_span x)) in
        let bytes : list_all (λ b. blocks_apart b (bytes_of (run_of_span x))) (known t (large_spot w)).kept.live ≡ true = live_apart L t lawful (Large w.zone) (run_of_span x) refl (apart lawful) in
        let free : list_all (λ b. blocks_apart b (block_of x)) (known u (large_spot w)).kept.live ≡ true =
        ap (λ (v : Value). list_all (λ b. blocks_apart b (block_of x)) v.kept.live) m.at_l ∙ (ap (λ (c : Block). list_all (λ b. blocks_apart b c) (known t (large_spot w)).kept.live) (sym found.whole) ∙ bytes) in
        let none : any_fits (known u (large_spot w)).kept.cached (run_of_span x).pages ≡ false = ap (λ (v : Value). any_fits v.kept.cached (run_of_span x).pages) m.at_l ∙ (ap (λ y. any_fits (cached_in t w.zone) y) found.pages ∙ k.none) in
        can_make L u w n al m.can here x found.whole c room (ap (λ (v : Value). v.duty) m.at_l) there some free
        (on_free_run (known u (large_spot w)).kept (block_of x) (run_of_span x) refl found.whole (omega (arith, few)) there free none)

    pub record IsDone (y : Account) : Type 0 where
      pub fresh : IsFreshRun t w n al x y
      pub kept_l : (known y (large_spot w)).kept ≡ with_block (block_of x) (with_run (run_of_span x) (known t (large_spot w)).kept)

    pub is_done : (j : ℕ) (y : Account) → CanNote u (New (Large w.zone) x.first (length x.bytes) al) → Notes u (New (Large w.zone) x.first (length x.bytes) al) j y → IsDone y
    is_done j y can h =
        let same = m.since.grows.adds.same in
        let still : (q : Spot) → holds_spot t q ≡ true → holds_spot u q ≡ true = λ q z. ap (λ p. is_held p u.held q) same.profile ∙ (ap (λ l. is_held t.profile l q) m.held ∙ z) in
        let made = is_made L u w n al m.can (still (large_spot w) (here_l L w n al t k)) x found.whole j y can h in
        let at_p = made.others at_pages (still at_pages (here_p L w n al t k)) refl ∙ m.at_p in
        let both = L.joined t u y (entry_at i t.caller (Take (Large w.zone) (run_of_span x).first n) ∷ []) (entry_at j u.caller (New (Large w.zone) x.first (length x.bytes) al) ∷ []) 0 0 m.since made.since in
        record {
          fresh = record {
            i = i;
            j = j;
            since = subst (λ c. GrowsHolding t (entry_at i t.caller (Take (Large w.zone) (run_of_span x).first n) ∷ entry_at j c (New (Large w.zone) x.first (length x.bytes) al) ∷ []) 0 y) same.caller both;
            both = record { held = made.held ∙ (m.held ∙ k.both.held); calm_l = ap (λ (v : Value). v.duty) made.at_l; calm_p = ap (λ (v : Value). v.duty) at_p };
            pages = ap (λ (v : Value). v.kept) at_p;
          };
          kept_l = ap (λ (v : Value). v.kept) made.at_l ∙ ap (λ (v : Value). with_block (block_of x) v.kept) m.at_l;
        }

-- and that serves the request
module _ (L : BookLaws) (w : LargeWay) (n al : ℕ) where
  pub served_by_run : (s u v x y : Account) (m : ℕ) (b : SpanView) → HeldPages s w n al u → (q : Sought u w.zone n 1 (Ok b) v) → length q.flushes ≤ 32 → IsFreshRun v w n al b x → LetsGo x y → AreLawful y.profile opening y.seen
      → ServedLarge (entry_at m s.caller (Full (Large w.zone) n 1) ∷ []) 1 s w n al (Ok b) y
  served_by_run s u v x y m b h q few f go lawful =
      let r = run_of_span b in
      let take = Take (Large w.zone) r.first n in
      let make : ℕ → ℕ → Entry = λ c z. entry_at f.j c (New (Large w.zone) z (length b.bytes) al) in
      let c : v.caller ≡ s.caller = q.since.grows.adds.same.caller ∙ h.since.grows.adds.same.caller in
      let more = f.since.grows.adds.more in
      let found = q.is in
      let first : b.first ≡ r.first * PAGE = ap (λ (z : Block). z.first) (sym found.whole) in
      let size : length b.bytes ≡ n * PAGE = ap (λ (z : Block). z.size) (sym found.whole) ∙ ap (λ z. z * PAGE) found.pages in
      let new_is : New (Large w.zone) b.first (length b.bytes) al ≡ New (Large w.zone) (r.first * PAGE) (n * PAGE) al =
      ap (λ z. New (Large w.zone) z (length b.bytes) al) first ∙ ap (λ z. New (Large w.zone) (r.first * PAGE) z al) size in
      let sought = L.joined s u v [] (q.flushes ++ []) 1 0 h.since q.since in
      let all = L.joined s v x (q.flushes ++ []) (entry_at f.i v.caller take ∷ entry_at f.j v.caller (New (Large w.zone) b.first (length b.bytes) al) ∷ []) 1 0 sought f.since in
      let mine : Grows s (q.flushes ++ entry_at f.i s.caller take ∷ entry_at f.j s.caller (New (Large w.zone) (r.first * PAGE) (n * PAGE) al) ∷ []) 1 x =
      subst (λ e. Grows s (q.flushes ++ entry_at f.i s.caller take ∷ entry_at f.j s.caller e ∷ []) 1 x) new_is
      (subst (λ a. Grows s (q.flushes ++ entry_at f.i a take ∷ entry_at f.j a (New (Large w.zone) b.first (length b.bytes) al) ∷ []) 1 x) c
      (subst (λ l. Grows s (l ++ entry_at f.i v.caller take ∷ entry_at f.j v.caller (New (Large w.zone) b.first (length b.bytes) al) ∷ []) 1 x) (append-nil q.flushes) all.grows)) in
      record {
        mine = q.flushes ++ entry_at f.i s.caller take ∷ entry_at f.j s.caller (New (Large w.zone) (r.first * PAGE) (n * PAGE) al) ∷ [];
        holds = 1;
        grows = rest_grows L s (q.flushes ++ entry_at f.i s.caller take ∷ entry_at f.j s.caller (New (Large w.zone) (r.first * PAGE) (n * PAGE) al) ∷ []) 1 x [] y mine go.after;
        nothing_held = ap (λ (a : Account). a.held) go.after;
        served = by_fresh_run b r.first m f.i f.j q.flushes refl
            (flushed_later u v y w.zone n 1 (Ok b) more q few lawful (ap (λ (a : Account). a.profile) go.after ∙ f.since.grows.adds.same.profile) (ap (λ (a : Account). a.seen) go.after ∙ f.since.grows.adds.seen))
            (ap (λ z. record { first = z; size = length b.bytes }) first ∙ ap (λ z. record { first = r.first * PAGE; size = z }) size) refl refl;
        is = found.space ∙ sym (ap (λ (a : Account). a.site) go.after ∙ f.since.grows.adds.same.site);
      }

  pub served_dry : (s u v y : Account) (m i : ℕ) → HeldPages s w n al u → (q : Sought u w.zone n 1 (Err i) v) → length q.flushes ≤ 32 → LetsGo v y → AreLawful y.profile opening y.seen
      → ServedLarge (entry_at m s.caller (Full (Large w.zone) n 1) ∷ []) 1 s w n al (Err (null.Large m i)) y
  served_dry s u v y m i h q few go lawful =
      let c = h.since.grows.adds.same.caller in
      let all = L.joined s u v [] (q.flushes ++ dry_at i u.caller w.zone n 1 ∷ []) 1 0 h.since q.since in
      let mine : Grows s (q.flushes ++ dry_at i s.caller w.zone n 1 ∷ []) 1 v = subst (λ a. Grows s (q.flushes ++ dry_at i a w.zone n 1 ∷ []) 1 v) c all.grows in
      record {
        mine = q.flushes ++ dry_at i s.caller w.zone n 1 ∷ [];
        holds = 1;
        grows = rest_grows L s (q.flushes ++ dry_at i s.caller w.zone n 1 ∷ []) 1 v [] y mine go.after;
        nothing_held = ap (λ (a : Account). a.held) go.after;
        served = null_in_large m i q.flushes refl
            (flushed_later u v y w.zone n 1 (Err i) [] q few lawful (ap (λ (a : Account). a.profile) go.after) (ap (λ (a : Account). a.seen) go.after ∙ sym (append-nil v.seen))) refl refl;
        is = subst (λ (a : Account). IsDried a w.zone n 1 i) (sym go.after) (record {
          before = q.is.before;
          seen = q.is.seen;
          calm_p = q.is.calm_p;
          calm_l = q.is.calm_l;
        });
      }
