-- A block gets another size in the place where it lives, or is hemmed in there, or its sizes alone tell that it stays or moves.
use Rattle.std.proofs.Common.{◌≡◌, ℕ, ◌+◌, ◌*◌, ◌<◌, ◌≤◌, ◌==◌, Bool, true, false, not, List, [], ◌∷◌, length, take, refl, ap, sym, subst, ◌∙◌, arith, inl, inr, ⊎_elim, Some, None, eq-eqb}
use Rattle.std.specs.Prelude.{◌≢◌, ◌%◌, ◌&&◌, ◌||◌, nat_le, min, IsTrue}
use Rattle.std.specs.List.{list_any, list_all}
use Rattle.std.proofs.Math.Seq.{take-length}
use Rattle.std.proofs.lemmas.Bool.{and_parts, and_from, or_right, false≢true, leb-true, lt-leb, cases_Bool, cond-false}
use Rattle.mz_base.specs.declared.profile.Profile.{Profile}
use Rattle.mz_base.specs.declared.range.Range.TheVariants as range
use Rattle.mz_base.specs.declared.range.TheConstants.{PAGE}
use Rattle.mz_base.specs.Sizes.{route_of, good_size_of, is_size}
use Rattle.mz_base.specs.Space.{Block, block_at, block_end, run_end, blocks_apart}
use Rattle.mz_base.specs.Room.{lies_in}
use Rattle.mz_base.specs.Lists.{has_block}
use Rattle.mz_ground.specs.Views.{SpanView}
use Rattle.mz_events.specs.declared.place.Place.{Place}
use Rattle.mz_events.specs.declared.place.Place.TheVariants.{Tiny, TinyDepot, Small, SmallDepot, Large}
use Rattle.mz_events.specs.declared.event.Event.{Event}
use Rattle.mz_events.specs.declared.event.Event.TheVariants.{Size}
use Rattle.mz_events.specs.declared.entry.Entry.{Entry}
use Rattle.mz_events.specs.Places.{is_magazine, is_depot, is_large, is_nano, is_size_of, quantum_of, nano_start, Spot, keeper_at, spot_at, spot_of, place_of}
use Rattle.mz_events.specs.State.{Kept, opening, kept_at}
use Rattle.mz_events.specs.Forms.{HasForm}
use Rattle.mz_events.specs.Placement.{lies_in_place}
use Rattle.mz_events.specs.History.{AreLawful, after_all}
use Rattle.mz_events.specs.Separation.{LiesAtHome}
use Rattle.mz_record.specs.Moments.{state_at}
use Rattle.mz_record.specs.Resized.{IsOfOneRange, IsHemmedIn, lies_in_nano_pages, stays_large}
use Rattle.mz_record.specs.Resized.{same_size, in_place as resized_in_place, still_large, between_ranges, large, hemmed_in}
use Rattle.mz_book.specs.Keepers.{keeper_of, is_among}
use Rattle.mz_book.specs.Account.{Account, state_of, known, holds_spot, entry_at}
use Rattle.mz_book.specs.Calls.{CanNote, Notes, Releases, without}
use Rattle.mz_book.specs.Growth.{GrowsHolding}
use Rattle.mz_rack.specs.BookLaws.{BookLaws}
use Rattle.mz_rack.specs.Lots.{LotView}
use Rattle.mz_rack.specs.Serving.{CanServe}
use Rattle.mz_rack.specs.Freeing.{block_of, IsFreeable}
use Rattle.mz_rack.specs.FreeStages.{LivesIn}
use Rattle.mz_rack.specs.Resizing.{KeepsBytes, IsInPlace, Resizes}
use Rattle.mz_rack.specs.ResizeStages.{has_room_to, IsRefit, Refits, IsSettled}
use Rattle.mz_rack.proofs.Steps.{same_number, one_spot, held_at, can_note}
use Rattle.mz_rack.proofs.Ended.{plain, spot_is_keeper}
use Rattle.mz_rack.proofs.KeeperLemmas.{whole_size}

-- live blocks have the forms of their places
abbrev pub FormsLaw : Type 0
FormsLaw = (p : Profile) (es : List Entry) (j : Spot) (b : Block) → AreLawful p opening es → IsTrue (has_block (kept_at (after_all p opening es) j).live b) → HasForm (after_all p opening es) j b

-- SIZES
tiny_route : (n : ℕ) → is_size range.Tiny n ≡ true → route_of n ≡ range.Tiny
tiny_route n h = rw ((and_parts ((n % 16 == 0) && nat_le 16 n) (nat_le n 1008) h).1) refl

small_route : (n : ℕ) → is_size range.Small n ≡ true → route_of n ≡ range.Small
small_route n h =
    let parts = and_parts ((n % 512 == 0) && nat_le 1024 n) (nat_le n 32768) h in
    let least = leb-true 1024 n (and_parts (n % 512 == 0) (nat_le 1024 n) parts.0).1 in
    rw (lt-leb n 1008 (omega (arith, least)), parts.1) refl

large_route : (n : ℕ) → is_size range.Large n ≡ true → route_of n ≡ range.Large
large_route n h =
    let least = leb-true 49152 n (and_parts (n % PAGE == 0) (nat_le 49152 n) h).1 in
    rw (lt-leb n 1008 (omega (arith, least)), lt-leb n 32768 (omega (arith, least))) refl

-- a size of a block's range is one of its place's
size_here : (q : Place) (s n : ℕ) → (is_magazine q || is_depot q) ≡ true → is_size_of q s ≡ true → is_size (route_of s) n ≡ true → is_size_of q n ≡ true
size_here (Tiny z m) s n h a b = subst (λ r. is_size r n ≡ true) (tiny_route s a) b
size_here (TinyDepot z) s n h a b = subst (λ r. is_size r n ≡ true) (tiny_route s a) b
size_here (Small z m) s n h a b = subst (λ r. is_size r n ≡ true) (small_route s a) b
size_here (SmallDepot z) s n h a b = subst (λ r. is_size r n ≡ true) (small_route s a) b
size_here _ s n h a b = absurd (false≢true h)

-- a size of a request's range is served by that range
pub routed_alike : (n g : ℕ) → is_size (route_of n) g ≡ true → route_of g ≡ route_of n
routed_alike n g h =
    elim (cases_Bool (nat_le n 1008)) [
      | inl y ↦
          let r : route_of n ≡ range.Tiny = rw y refl in
          tiny_route g (subst (λ x. is_size x g ≡ true) r h) ∙ sym r
      | inr x ↦ elim (cases_Bool (nat_le n 32768)) [
        | inl y ↦
            let r : route_of n ≡ range.Small = rw (x, y) refl in
            small_route g (subst (λ x. is_size x g ≡ true) r h) ∙ sym r
        | inr y ↦
            let r : route_of n ≡ range.Large = rw (x, y) refl in
            large_route g (subst (λ x. is_size x g ≡ true) r h) ∙ sym r
      ]
    ]

-- a block of large isn't small
pub none_in_large : FormsLaw → (s : Account) (z : ℕ) (l : LotView) → LivesIn s (Large z) (block_of l) → AreLawful s.profile opening s.seen → length l.span.bytes ≤ 32768 → ⊥
none_in_large F s z l h lawful small =
    let n = length l.span.bytes in
    let form = (F s.profile s.seen (spot_of (Large z)) (block_of l) lawful h.live).size in
    let least = leb-true 49152 n (and_parts (n % PAGE == 0) (nat_le 49152 n) form).1 in
    omega (arith, least, small)

-- THE PLACE where the block lives, and n, a size there
module _ (L : BookLaws) (F : FormsLaw) (s : Account) (q : Place) (l : LotView) (h : LivesIn s q (block_of l)) (regions : (is_magazine q || is_depot q) ≡ true) (lawful : AreLawful s.profile opening s.seen) where
  abbrev b : Block
  b = block_of l

  abbrev kept : Kept
  kept = (known s (spot_of q)).kept

  no_nano : is_nano q ≡ false
  no_nano = plain L s q b h

  spot_is : (a : ℕ) → spot_at q a ≡ spot_of q
  spot_is a = (L.regions q regions).one_spot a

  here : holds_spot s (spot_of q) ≡ true
  here = L.held s.profile s.held q no_nano ∙ (ap (λ x. is_among x (keeper_of s.profile q)) h.held ∙ rw (same_number (keeper_of s.profile q)) refl)

  place_is : place_of (spot_of q) ≡ q
  place_is = ap place_of (spot_is_keeper q no_nano)

  form : HasForm (state_of s) (spot_of q) b
  form = F s.profile s.seen (spot_of q) b lawful h.live

  own_size : is_size_of q b.size ≡ true
  own_size = subst (λ k. is_size_of k b.size ≡ true) place_is form.size

  pub size_there : (n : ℕ) → is_size (route_of b.size) n ≡ true → is_size_of q n ≡ true
  size_there n size = size_here q b.size n regions own_size size

  quanta : b.first % quantum_of q ≡ 0
  quanta = subst (λ k. b.first % quantum_of k ≡ 0) place_is
      (form.quanta (ap is_large place_is ∙ (L.regions q regions).not_large) (ap is_nano place_is ∙ no_nano))

  pub in_region : not (lies_in_nano_pages s.profile b) ≡ true
  in_region =
      let home = subst (λ j. LiesAtHome s.profile (state_of s) j b) (spot_is_keeper q no_nano) ((L.separate s.profile s.seen lawful).at_home (spot_of q) b h.live) in
      let parts = and_parts (nat_le (home.0.first * PAGE) b.first) (nat_le (block_end b) (run_end home.0 * PAGE)) home.2 in
      let some = (L.ascending s.profile s.seen lawful).sizes (spot_of q) b h.live in
      let below = (L.separate s.profile s.seen lawful).below_nano (keeper_at q) home.0 home.1 in
      let ends = leb-true (block_end b) (run_end home.0 * PAGE) parts.1 in
      ap not (lt-leb (nano_start s.profile * PAGE) b.first (omega (arith, some, below, ends)))

  module _ (n : ℕ) (size : is_size_of q n ≡ true) where
    abbrev e : Event
    e = Size q b.first b.size n

    pub can_resize : s.caller < s.profile.callers → 1 ≤ s.spare → has_room_to kept b n ≡ true → CanNote s e
    can_resize c room fits =
        let at = sym (spot_is b.first) in
        let parts = and_parts (list_any (λ r. lies_in r b.first (b.first + n)) kept.runs) (list_all (λ c. (c.first == b.first) || blocks_apart c (block_at b.first n)) kept.live) fits in
        let lies : lies_in_place s.profile q kept.runs (block_at b.first n) ≡ true =
        cond-false (is_nano q) _ _ no_nano ∙ and_from _ _ parts.0 (or_right (is_large q) _ (and_from _ _ (eq-eqb (b.first % quantum_of q) 0 quanta) (eq-eqb (n % quantum_of q) 0 (whole_size q n regions size)))) in
        can_note s e room refl h.in_hand no_nano
        (λ j y. held_at s j (spot_of q) (one_spot L j (spot_at q b.first) y ∙ spot_is b.first) here)
        (((L.fits s.profile (state_of s) s.caller).resize q b.first b.size n).1 (record {
          standing = record { caller = c; exists = h.exists; zone_open = h.zone_open };
          kind = regions;
          calm = subst (λ j. (known s j).duty ≡ None) at h.calm;
          live = subst (λ j. has_block (known s j).kept.live b ≡ true) at h.live;
          size = size;
          lies = subst (λ j. lies_in_place s.profile q (known s j).kept.runs (block_at b.first n) ≡ true) at lies;
          apart = subst (λ j. list_all (λ c. (c.first == b.first) || blocks_apart c (block_at b.first n)) (known s j).kept.live ≡ true) at parts.1;
        }))

    module _ (i : ℕ) (t : Account) (can : CanNote s e) (y : Notes s e i t) where
      pub since : GrowsHolding s (entry_at i s.caller e ∷ []) 0 t
      since = L.note s t e i can refl y

      held_then : t.held ≡ keeper_of s.profile q ∷ []
      held_then = ap (λ (u : Account). u.held) y.after ∙ h.held

      pub settled : (k : ℕ) (u : Account) (m : LotView) → k ≡ keeper_of s.profile q → Releases t k u → m.zone ≡ l.zone → IsRefit l.span n m.span → IsSettled s l n true u m
      settled k u m number r zone x = record {
        mine = entry_at i s.caller e ∷ [];
        holds = 0;
        grows = L.release s t u (entry_at i s.caller e ∷ []) 0 k since.grows r;
        nothing_held = ap (λ (v : Account). v.held) r.after ∙ (ap (λ x. without k x) (held_then ∙ ap (λ x. x ∷ []) (sym number)) ∙ rw (same_number k) refl);
        in_region = in_region;
        done = (
          q,
          refl,
          ap (λ f. block_at f (length m.span.bytes)) x.first ∙ ap (λ c. block_at b.first c) x.size,
          record {
            zone = zone;
            space = x.space;
            bytes = subst (λ c. take (min b.size c) m.span.bytes ≡ take (min b.size c) l.span.bytes) (sym x.size) x.bytes;
          },
        );
      }

    hemmed : (k : ℕ) (u : Account) (m : LotView) → k ≡ keeper_of s.profile q → Releases s k u → m ≡ l → b.size < n → has_room_to kept b n ≡ false → IsSettled s l n false u m
    hemmed k u m number r same grows none = record {
      mine = [];
      holds = 0;
      grows = L.release s s u [] 0 k (L.nothing s).grows r;
      nothing_held = ap (λ (v : Account). v.held) r.after ∙ (ap (λ x. without k x) (h.held ∙ ap (λ x. x ∷ []) (sym number)) ∙ rw (same_number k) refl);
      in_region = in_region;
      done = (refl, same, grows, subst (λ (v : Account). IsHemmedIn (state_of v) b n) (sym r.after) (q, regions, h.live, ap not none));
    }

    -- where the keeper refuses
    pub refused : (k : ℕ) (u : Account) (y : SpanView) (is : Kept → Type 0) → k ≡ keeper_of s.profile q → Releases s k u → Refits kept l.span n is false y → IsSettled s l n false u (record { zone = l.zone; span = y })
    refused k u y is number r told = hemmed k u (record { zone = l.zone; span = y }) number r (ap (λ x. record { zone = l.zone; span = x }) told.2) told.1 told.0

-- after others came
pub settled_later : (L : BookLaws) (s t u : Account) (l m : LotView) (n holds : ℕ) (got : Bool) → GrowsHolding s [] holds t → IsSettled t l n got u m → IsSettled s l n got u m
settled_later L s t u l m n holds got x y = record {
  mine = y.mine;
  holds = holds + y.holds;
  grows = L.ended s t u [] y.mine holds y.holds x y.grows;
  nothing_held = y.nothing_held;
  in_region = subst (λ (p : Profile). not (lies_in_nano_pages p (block_of l)) ≡ true) x.grows.adds.same.profile y.in_region;
  done = y.done;
}

-- THE LOT, which is to hold n bytes
module _ (L : BookLaws) (s : Account) (p : Profile) (z : ℕ) (l : LotView) (can : CanServe s p z 1) (lot : IsFreeable s l) (of_zone : l.zone ≡ z) where
  module _ (n : ℕ) where
    keeps_all : KeepsBytes l l
    keeps_all = record { zone = refl; space = refl; bytes = refl }

    told : (got : Bool) → IsInPlace s l n [] got l → Resizes s l n got s l
    told got is = record {
      mine = [];
      holds = 0;
      grows = (L.nothing s).grows;
      nothing_held = can.nothing_held;
      in_place = is;
      alone = λ _. refl;
    }

    pub of_another_range : (g : route_of (good_size_of n) ≡ route_of n) → route_of (block_of l).size ≢ route_of n → Resizes s l n false s l
    of_another_range g other = told false (refl, refl, between_ranges (λ same. other (ap route_of (sym same) ∙ g)) other)

    pub of_same_size : 1 ≤ n → good_size_of n ≡ (block_of l).size → Resizes s l n true s l
    of_same_size some same = told true (same_size some same refl refl, keeps_all)

    pub of_large : (got : Bool) → route_of (block_of l).size ≡ range.Large → route_of n ≡ range.Large → got ≡ stays_large (block_of l).size (good_size_of n) → Resizes s l n got s l
    of_large true mine its is = told true (still_large mine its (sym is) refl refl, keeps_all)
    of_large false mine its is = told false (refl, refl, large mine its (ap not (sym is)))

    module _ (t : Account) (m : LotView) (some : 1 ≤ n) (one : route_of (block_of l).size ≡ route_of n) (ranged : route_of n ≢ range.Large) (other : good_size_of n ≢ (block_of l).size) where
      of_one : (y : (got : Bool) × IsSettled s l (good_size_of n) got t m) → IsOfOneRange t.profile (block_of l) n
      of_one y = record {
        asked = some;
        ranges = one;
        not_large = ranged;
        in_region = subst (λ (x : Profile). not (lies_in_nano_pages x (block_of l)) ≡ true) (sym y.1.grows.adds.same.profile) y.1.in_region;
      }

      settled_so : (got : Bool) (y : IsSettled s l (good_size_of n) got t m) → IsInPlace t l n y.mine got m → Resizes s l n got t m
      settled_so got y is = record {
        mine = y.mine;
        holds = y.holds;
        grows = y.grows;
        nothing_held = record { keepers = y.nothing_held; lights = y.grows.adds.same.lights ∙ can.nothing_held.lights };
        in_place = is;
        alone = λ told. absurd (⊎_elim other (λ x. ⊎_elim (λ (r : route_of (block_of l).size ≢ route_of n). r one) ranged x) told);
      }

      pub resizes : (got : Bool) → ((h : List Entry) → AreLawful t.profile opening h → state_at t.profile h (length h) ≡ after_all t.profile opening (take (length h) h)) → AreLawful t.profile opening t.seen → IsSettled s l (good_size_of n) got t m → Resizes s l n got t m
      resizes true at lawful y = settled_so true y (resized_in_place y.done.0 (of_one (true, y)) other y.done.1 (ap Some y.done.2), y.done.3)
      resizes false at lawful y =
          let now : state_at t.profile t.seen (length t.seen) ≡ state_of t = at t.seen lawful ∙ ap (λ h. after_all t.profile opening h) (take-length t.seen) in
          settled_so false y (
            y.done.0,
            y.done.1,
            hemmed_in (of_one (false, y)) y.done.2 (record {
              t = length t.seen;
              not_before = omega arith;
              not_after = omega arith;
              within = omega arith;
              hemmed = subst (λ x. IsHemmedIn x (block_of l) (good_size_of n)) (sym now) y.done.3;
            }),
          )
