-- From one call of the book to the next, where a request for large is served.
use Rattle.std.proofs.Common.{◌≡◌, ℕ, ◌+◌, ◌*◌, ◌%◌, ◌<◌, ◌≤◌, ◌==◌, Bool, true, false, not, List, [], ◌∷◌, ◌++◌, length, take, refl, ap, sym, subst, ◌∙◌, arith, Some, None}
use Rattle.std.specs.Prelude.{◌&&◌, ◌||◌, nat_lt, nat_le, Ok, Err}
use Rattle.std.specs.List.{list_any, list_all}
use Rattle.std.proofs.lemmas.Bool.{false≢true, and_from, or_left, or_right, or_parts, leb-true, le-leb, false_from_ne_true}
use Rattle.std.proofs.lemmas.Bool.Decides.{nat_tests}
use Rattle.mz_base.specs.declared.profile.Profile.{Profile}
use Rattle.mz_base.specs.declared.range.TheConstants.{PAGE}
use Rattle.mz_base.specs.Space.{Block, Run, block_end, run_end, blocks_apart, bytes_of, same_block, same_run}
use Rattle.mz_base.specs.Lists.{has_run, has_block}
use Rattle.mz_base.specs.Room.{lies_in}
use Rattle.mz_ground.specs.Views.{SpanView}
use Rattle.mz_large.specs.Large.{block_of, run_of_span}
use Rattle.mz_events.specs.declared.place.Place.{Place}
use Rattle.mz_events.specs.declared.place.Place.TheVariants.{Pages, Large}
use Rattle.mz_events.specs.declared.event.Event.{Event}
use Rattle.mz_events.specs.declared.event.Event.TheVariants.{New, Full}
use Rattle.mz_events.specs.declared.entry.Entry.{Entry}
use Rattle.mz_events.specs.Places.{Spot, same_spot, spot_of}
use Rattle.mz_events.specs.State.{Kept, Value, State, opening, value_at, is_open}
use Rattle.mz_events.specs.Room.{run_fits, any_fits, best_fit}
use Rattle.mz_events.specs.Placement.{is_some_run, is_placed_in_large}
use Rattle.mz_events.specs.Changes.{run_of, with_block}
use Rattle.mz_events.specs.Fitting.{IsStanding}
use Rattle.mz_events.specs.Holding.{AreAway, IsKnownThrough}
use Rattle.mz_events.specs.History.{AreLawful, after_all}
use Rattle.mz_events.specs.Leaving.{left_by}
use Rattle.mz_events.specs.Standing.{Keeping, Stands}
use Rattle.mz_record.specs.Moments.{state_before}
use Rattle.mz_book.specs.Keepers.{is_among, is_held}
use Rattle.mz_book.specs.Account.{Account, state_of, known, holds_spot, entry_at}
use Rattle.mz_book.specs.Calls.{CanNote, Notes, Holds, without}
use Rattle.mz_book.specs.Growth.{IsSame, GrowsHolding}
use Rattle.mz_rack.specs.declared.way.LargeWay.{LargeWay}
use Rattle.mz_rack.specs.BookLaws.{BookLaws}
use Rattle.mz_rack.specs.Stages.{at_pages, Keeps}
use Rattle.mz_rack.specs.Runs.{IsReused}
use Rattle.mz_rack.specs.Seeking.{cached_in}
use Rattle.mz_rack.specs.LargeStages.{IsLargeWay, large_spot, CanAskLarge, ReadyLarge, TriedCache, NoneFits}
use Rattle.mz_rack.proofs.Steps.{same_number, less_differs, below_test, same_spot_refl, one_spot, held_at, its_place, learn_touched, learn_other, can_note, stands_then}
use Rattle.mz_rack.proofs.Listed.{any_weaker, same_run_is, is_same_run, is_same_block, block_of_all}
use Rattle.mz_rack.proofs.RoomLemmas.{page_aligned}
use Rattle.mz_rack.proofs.Trying.{power_some}
use Rattle.mz_rack.proofs.Answered.{MomentLaws, take_front}

-- THE KEEPERS of large and the free pages
module _ (L : BookLaws) (p : Profile) (w : LargeWay) (way : IsLargeWay p w) where
  held_number : (held : List ℕ) → is_among held w.l ≡ true → is_held p held (large_spot w) ≡ true
  held_number held h = L.held p held (Large w.zone) refl ∙ (ap (λ x. is_among held x) (sym way.l) ∙ h)

  pub one_l : is_held p (w.l ∷ []) (large_spot w) ≡ true
  one_l = held_number (w.l ∷ []) (rw (same_number w.l) refl)

  pub two_l : is_held p (w.l ∷ w.p ∷ []) (large_spot w) ≡ true
  two_l = held_number (w.l ∷ w.p ∷ []) (rw (same_number w.l) refl)

  pub two_p : is_held p (w.l ∷ w.p ∷ []) at_pages ≡ true
  two_p = L.held p (w.l ∷ w.p ∷ []) Pages refl ∙ (ap (λ x. is_among (w.l ∷ w.p ∷ []) x) (sym way.pages_is) ∙ rw (less_differs w.l w.p way.l_below, same_number w.p) refl)

  pub has_l : is_among (w.l ∷ []) w.l ≡ true
  has_l = rw (same_number w.l) refl

  pub drop_l : without w.l (w.l ∷ []) ≡ []
  drop_l = rw (same_number w.l) refl

  pub has_p : is_among (w.l ∷ w.p ∷ []) w.p ≡ true
  has_p = rw (less_differs w.l w.p way.l_below, same_number w.p) refl

  pub drop_p : without w.p (w.l ∷ w.p ∷ []) ≡ w.l ∷ []
  drop_p = rw (less_differs w.l w.p way.l_below, same_number w.p) refl

  pub above_p : list_all (λ x. nat_lt x w.p) (w.l ∷ []) ≡ true
  above_p = and_from (nat_lt w.l w.p) true (below_test w.l w.p way.l_below) refl

  pub there_l : nat_lt w.zone p.zones ≡ true
  there_l = below_test w.zone p.zones way.zone

pub ask_same : (s t : Account) (w : LargeWay) (n al : ℕ) → CanAskLarge s w n al → IsSame s t → ((z : ℕ) → is_open (state_of t) z ≡ is_open (state_of s) z) → CanAskLarge t w n al
ask_same s t w n al can same zones = record {
  way = subst (λ (p : Profile). IsLargeWay p w) (sym same.profile) can.way;
  zone_open = zones w.zone ∙ can.zone_open;
  pages = can.pages;
  power = can.power;
  range = can.range;
}

pub stands_large : (s : Account) (w : LargeWay) (n al : ℕ) → CanAskLarge s w n al → s.caller < s.profile.callers → IsStanding s.profile (state_of s) s.caller (Large w.zone)
stands_large s w n al can c = record { caller = c; exists = below_test w.zone s.profile.zones can.way.zone; zone_open = can.zone_open }

-- WHOLE RUNS
whole_lies : (r : Run) → lies_in r (bytes_of r).first (block_end (bytes_of r)) ≡ true
whole_lies r = and_from (nat_le (r.first * PAGE) (r.first * PAGE)) (nat_le (r.first * PAGE + r.pages * PAGE) (run_end r * PAGE)) (le-leb (r.first * PAGE) (r.first * PAGE) (omega arith)) (le-leb (r.first * PAGE + r.pages * PAGE) (run_end r * PAGE) (omega arith))

-- a block that is all of a run of large may be made where large would place it
module _ (L : BookLaws) (s : Account) (w : LargeWay) (n al : ℕ) (can : CanAskLarge s w n al) (here : holds_spot s (large_spot w) ≡ true) (x : SpanView) (whole : bytes_of (run_of_span x) ≡ block_of x) where
  at_page : x.first ≡ (run_of_span x).first * PAGE
  at_page = ap (λ (b : Block). b.first) (sym whole)

  long : length x.bytes ≡ (run_of_span x).pages * PAGE
  long = ap (λ (b : Block). b.size) (sym whole)

  pub can_make : s.caller < s.profile.callers → 1 ≤ s.spare → (known s (large_spot w)).duty ≡ None → has_run (known s (large_spot w)).kept.runs (run_of_span x) ≡ true → 3 ≤ (run_of_span x).pages
      → list_all (λ b. blocks_apart b (block_of x)) (known s (large_spot w)).kept.live ≡ true → is_placed_in_large (known s (large_spot w)).kept (block_of x) ≡ true → CanNote s (New (Large w.zone) x.first (length x.bytes) al)
  can_make c room calm there some apart placed =
      let runs = (known s (large_spot w)).kept.runs in
      let r = run_of_span x in
      let is_long = long in
      let lies : list_any (λ t. lies_in t x.first (x.first + length x.bytes)) runs ≡ true =
      any_weaker (same_run r) (λ t. lies_in t x.first (x.first + length x.bytes)) runs
      (λ t y. subst (λ (u : Run). lies_in u x.first (x.first + length x.bytes) ≡ true) (same_run_is r t y) (subst (λ (b : Block). lies_in r b.first (block_end b) ≡ true) whole (whole_lies r))) there in
      can_note s (New (Large w.zone) x.first (length x.bytes) al) room refl refl refl
      (λ j y. held_at s j (large_spot w) (one_spot L j (large_spot w) y) here)
      (((L.fits s.profile (state_of s) s.caller).make (Large w.zone) x.first (length x.bytes) al).1 (record {
        standing = stands_large s w n al can c;
        kind = refl;
        calm = calm;
        size = and_from (length x.bytes % PAGE == 0) (nat_le 49152 (length x.bytes)) (grind (arith, nat_tests, is_long)) (le-leb 49152 (length x.bytes) (omega (arith, is_long, some)));
        some = power_some al can.power;
        aligned = ap (λ y. y % al) at_page ∙ page_aligned (run_of_span x).first al can.power can.range;
        lies = and_from (list_any (λ t. lies_in t x.first (x.first + length x.bytes)) runs) true lies refl;
        apart = apart;
        in_magazine = λ y. absurd (false≢true y);
        in_large = λ _. placed;
        in_nano = λ y. absurd (false≢true y);
      }))

  pub record IsMade (i : ℕ) (t : Account) : Type 0 where
    pub since : GrowsHolding s (entry_at i s.caller (New (Large w.zone) x.first (length x.bytes) al) ∷ []) 0 t
    pub held : t.held ≡ s.held
    pub at_l : known t (large_spot w) ≡ left_by s.caller (New (Large w.zone) x.first (length x.bytes) al) (with_block (block_of x) (known s (large_spot w)).kept) None
    pub others : (j : Spot) → holds_spot s j ≡ true → same_spot j (large_spot w) ≡ false → known t j ≡ known s j

  pub is_made : (i : ℕ) (t : Account) → CanNote s (New (Large w.zone) x.first (length x.bytes) al) → Notes s (New (Large w.zone) x.first (length x.bytes) al) i t → IsMade i t
  is_made i t may h =
      let e = New (Large w.zone) x.first (length x.bytes) al in
      record {
        since = L.note s t e i may refl h;
        held = ap (λ (u : Account). u.held) h.after;
        at_l = learn_touched s e i t (large_spot w) h here (rw (same_spot_refl L (large_spot w)) refl) ∙ (L.leaves (state_of s) s.caller).make (Large w.zone) x.first (length x.bytes) al;
        others = λ j y z. learn_other s e i t j h y (rw z refl);
      }

-- PLACED on the best fit
pub on_best_fit : (k : Kept) (b : Block) (r : Run) → run_of b ≡ r → bytes_of r ≡ b → best_fit k.cached r.pages ≡ Some r → is_placed_in_large k b ≡ true
on_best_fit k b r is whole best =
    let same : same_block b (bytes_of (run_of b)) ≡ true = ap (λ t. same_block b (bytes_of t)) is ∙ (ap (λ c. same_block b c) whole ∙ is_same_block b) in
    let found : is_some_run (best_fit k.cached (run_of b).pages) (run_of b) ≡ true =
    ap (λ t. is_some_run (best_fit k.cached t.pages) t) is ∙ (ap (λ o. is_some_run o r) best ∙ is_same_run r) in
    and_from (same_block b (bytes_of (run_of b))) _ same (or_left (is_some_run (best_fit k.cached (run_of b).pages) (run_of b)) _ found)

-- or on a run that is neither cached nor live, where none fits
none_cached : (cached : List Run) (r : Run) → 1 ≤ r.pages → any_fits cached r.pages ≡ false → has_run cached r ≡ false
none_cached [] r some none = refl
none_cached (t ∷ ts) r some none =
    let parts = or_parts (run_fits r.pages t) (any_fits ts r.pages) none in
    or_false (same_run r t) (has_run ts r)
    (false_from_ne_true (same_run r t) (λ y. false≢true (sym parts.0 ∙ ap (λ (u : Run). run_fits r.pages u) (sym (same_run_is r t y)) ∙ fits_itself r some)))
    (none_cached ts r some parts.1)
  where
    or_false : (a b : Bool) → a ≡ false → b ≡ false → (a || b) ≡ false
    or_false a b x y = ap (λ c. c || b) x ∙ y

    fits_itself : (u : Run) → 1 ≤ u.pages → run_fits u.pages u ≡ true
    fits_itself u h = grind (arith, nat_tests, h)

not_live : (live : List Block) (b : Block) → 1 ≤ b.size → list_all (λ c. blocks_apart c b) live ≡ true → has_block live b ≡ false
not_live live b some apart = false_from_ne_true (has_block live b) (λ y. not_itself (block_of_all (λ c. blocks_apart c b) live b apart y))
  where
    not_itself : blocks_apart b b ≡ true → ⊥
    not_itself h = grind (arith, nat_tests, some, h)

pub on_free_run : (k : Kept) (b : Block) (r : Run) → run_of b ≡ r → bytes_of r ≡ b → 1 ≤ r.pages → has_run k.runs r ≡ true → list_all (λ c. blocks_apart c b) k.live ≡ true → any_fits k.cached r.pages ≡ false → is_placed_in_large k b ≡ true
on_free_run k b r is whole some there apart none =
    let same : same_block b (bytes_of (run_of b)) ≡ true = ap (λ t. same_block b (bytes_of t)) is ∙ (ap (λ c. same_block b c) whole ∙ is_same_block b) in
    let size = ap (λ (c : Block). c.size) whole in
    let free : (has_run k.runs r && not (has_run k.cached r) && not (has_block k.live b) && not (any_fits k.cached r.pages)) ≡ true =
    rw (there, none_cached k.cached r some none, not_live k.live b (omega (arith, size, some)) apart, none) refl in
    and_from (same_block b (bytes_of (run_of b))) _ same
    (or_right (is_some_run (best_fit k.cached (run_of b).pages) (run_of b)) _ (ap (λ t. has_run k.runs t && not (has_run k.cached t) && not (has_block k.live b) && not (any_fits k.cached t.pages)) is ∙ free))

-- LARGE ALONE is held
pub record HeldLarge (s : Account) (w : LargeWay) (n al : ℕ) (t : Account) : Type 0 where
  pub since : GrowsHolding s [] 1 t
  pub ready : ReadyLarge t w n al

module _ (L : BookLaws) (w : LargeWay) (n al : ℕ) where
  pub held_large : (s t : Account) → CanAskLarge s w n al → s.held ≡ [] → Holds s w.l t → HeldLarge s w n al t
  held_large s t can none h =
      let since = L.hold s t w.l h in
      record {
        since = since;
        ready = record {
          can = ask_same s t w n al can since.grows.adds.same since.grows.adds.zones;
          held = ap (λ (v : Account). v.held) h.after ∙ ap (λ x. x ++ w.l ∷ []) none;
          calm = ap (λ (q : Place). (known t (spot_of q)).duty) (sym (its_place L s (Large w.zone) w.l can.way.l refl (there_l L s.profile w can.way))) ∙ h.calm;
        };
      }

  pub here_l : (t : Account) → ReadyLarge t w n al → holds_spot t (large_spot w) ≡ true
  here_l t r = ap (λ x. is_held t.profile x (large_spot w)) r.held ∙ one_l L t.profile w r.can.way

-- what the book knew right before it noted an entry
abbrev pub AwayLaw : Type 0
AwayLaw = (p : Profile) (c : ℕ) (held : Spot → Bool) (s : State) (es : List Entry) → AreAway p c held es → IsKnownThrough p c held s es

pub known_before : MomentLaws → AwayLaw → (s t : Account) (e : Event) (i : ℕ) → Notes s e i t → AreLawful t.profile opening t.seen → (j : Spot) → holds_spot s j ≡ true → value_at (state_before t.profile t.seen i) j ≡ known s j
known_before M A s t e i h lawful j held =
    let p = t.profile in
    let front = s.seen ++ h.others in
    let seen : t.seen ≡ front ++ entry_at i s.caller e ∷ [] = ap (λ (v : Account). v.seen) h.after in
    let cut : take i t.seen ≡ front = ap (λ k. take k t.seen) h.ticket ∙ (ap (λ es. take (length front) es) seen ∙ take_front front (entry_at i s.caller e ∷ [])) in
    let before : state_before p t.seen i ≡ after_all p opening front = M.before p t.seen i lawful ∙ ap (λ es. after_all p opening es) cut in
    let split : after_all p opening front ≡ after_all s.profile (state_of s) h.others = ap (λ q. after_all q opening front) (ap (λ (v : Account). v.profile) h.after) ∙ M.after_joined s.profile opening s.seen h.others in
    ap (λ x. value_at x j) (before ∙ split) ∙ (A s.profile s.caller (λ y. holds_spot s y) (state_of s) h.others h.away).values j held

-- THE CACHE is tried
module _ (L : BookLaws) (s : Account) (w : LargeWay) (n al : ℕ) (r : ReadyLarge s w n al) where
  here : holds_spot s (large_spot w) ≡ true
  here = ap (λ x. is_held s.profile x (large_spot w)) r.held ∙ one_l L s.profile w r.can.way

  module _ (x : SpanView) (be : IsReused s.site (known s (large_spot w)).kept n x) where
    some_pages : AreLawful s.profile opening s.seen → 3 ≤ (run_of_span x).pages
    some_pages lawful = leb-true 3 (run_of_span x).pages ((L.runs_fit s.profile s.seen lawful).lengths (large_spot w) (run_of_span x) be.there)

    pub can_reuse : ((cached : List Run) (m : ℕ) (t : Run) → best_fit cached m ≡ Some t → best_fit cached t.pages ≡ Some t) → AreLawful s.profile opening s.seen → s.caller < s.profile.callers → 1 ≤ s.spare → CanNote s (New (Large w.zone) x.first (length x.bytes) al)
    can_reuse own lawful c room =
        can_make L s w n al r.can here x be.whole c room r.calm be.there (some_pages lawful) be.unused
        (on_best_fit (known s (large_spot w)).kept (block_of x) (run_of_span x) refl be.whole (own (known s (large_spot w)).kept.cached n (run_of_span x) be.best))

    pub tried_reuse : MomentLaws → AwayLaw → (i : ℕ) (t : Account) → AreLawful t.profile opening t.seen → CanNote s (New (Large w.zone) x.first (length x.bytes) al) → Notes s (New (Large w.zone) x.first (length x.bytes) al) i t → TriedCache s w n al (Ok x) t
    tried_reuse M A i t lawful can h =
        let m = is_made L s w n al r.can here x be.whole i t can h in
        record {
          ticket = i;
          since = m.since;
          held = m.held;
          calm = ap (λ (v : Value). v.duty) m.at_l;
          is = (
            be.space ∙ sym m.since.grows.adds.same.site,
            ap (λ (v : Value). best_fit v.kept.cached n) (known_before M A s t (New (Large w.zone) x.first (length x.bytes) al) i h lawful (large_spot w) here) ∙ be.best,
          );
        }

    pub reuse_stands : (i : ℕ) (t : Account) → CanNote s (New (Large w.zone) x.first (length x.bytes) al) → Notes s (New (Large w.zone) x.first (length x.bytes) al) i t → (v : Keeping)
        → Stands v s.site s.profile (Large w.zone) (with_block (block_of x) (known s (large_spot w)).kept) → Keeps t (Large w.zone) v
    reuse_stands i t can h v st =
        let m = is_made L s w n al r.can here x be.whole i t can h in
        stands_then s t (Large w.zone) _ _ v m.since.grows.adds.same (ap (λ (y : Value). y.kept) m.at_l) st

  pub can_say_none : s.caller < s.profile.callers → 1 ≤ s.spare → any_fits (cached_in s w.zone) n ≡ false → CanNote s (Full (Large w.zone) n 1)
  can_say_none c room none =
      let some = r.can.pages in
      can_note s (Full (Large w.zone) n 1) room refl refl refl
      (λ j y. held_at s j (large_spot w) (one_spot L j (large_spot w) y) here)
      (((L.fits s.profile (state_of s) s.caller).full (Large w.zone) n 1).1 (record {
        standing = stands_large s w n al r.can c;
        kind = refl;
        calm = r.calm;
        some = omega (arith, some);
        some_alignment = omega arith;
        no_room = λ y. absurd (false≢true (sym y));
        none_fits = λ _. none;
      }))

  said : (i : ℕ) (t : Account) → Notes s (Full (Large w.zone) n 1) i t → known t (large_spot w) ≡ left_by s.caller (Full (Large w.zone) n 1) (known s (large_spot w)).kept None
  said i t h = learn_touched s (Full (Large w.zone) n 1) i t (large_spot w) h here (rw (same_spot_refl L (large_spot w)) refl) ∙ (L.leaves (state_of s) s.caller).full (Large w.zone) n 1

  pub tried_none : (i : ℕ) (t : Account) → any_fits (cached_in s w.zone) n ≡ false → CanNote s (Full (Large w.zone) n 1) → Notes s (Full (Large w.zone) n 1) i t → TriedCache s w n al (Err i) t
  tried_none i t none can h = record {
    ticket = i;
    since = L.note s t (Full (Large w.zone) n 1) i can refl h;
    held = ap (λ (u : Account). u.held) h.after;
    calm = ap (λ (v : Value). v.duty) (said i t h);
    is = (refl, ap (λ (v : Value). any_fits v.kept.cached n) (said i t h) ∙ none);
  }

  pub none_stands : (i : ℕ) (t : Account) → CanNote s (Full (Large w.zone) n 1) → Notes s (Full (Large w.zone) n 1) i t → (v : Keeping) → Keeps s (Large w.zone) v → Keeps t (Large w.zone) v
  none_stands i t can h v st = stands_then s t (Large w.zone) _ _ v (L.note s t (Full (Large w.zone) n 1) i can refl h).grows.adds.same (ap (λ (y : Value). y.kept) (said i t h)) st

  -- what was tried is held still
  pub none_fits : (t : Account) (i : ℕ) → TriedCache s w n al (Err i) t → NoneFits t w n al
  none_fits t i z =
      let adds = z.since.grows.adds in
      record {
        ready = record { can = ask_same s t w n al r.can adds.same adds.zones; held = z.held ∙ r.held; calm = z.calm };
        none = z.is.1;
      }
