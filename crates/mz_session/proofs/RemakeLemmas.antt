-- What a call of the zone that gives a block another size leaves of what a session keeps.
use Rattle.std.proofs.Common.{◌≡◌, ℕ, ◌+◌, ◌*◌, ◌≤◌, ◌==◌, Bool, true, false, List, [], ◌∷◌, ◌++◌, length, Option, Some, None, Result, Ok, Err, refl, ap, sym, subst, ◌∙◌, inl, inr, arith, eq-eqb}
use Rattle.std.specs.Prelude.{map, IsTrue, Contains, if◌then◌else◌}
use Rattle.std.proofs.lemmas.Bool.{cases_Bool, false≢true, eqb-true}
use Rattle.std.proofs.lemmas.List.{append-nil}
use Rattle.std.proofs.lemmas.List.Sums.{fold-append}
use Rattle.mz_base.specs.declared.profile.Profile.{Profile}
use Rattle.mz_base.specs.Space.{Block, block_at, same_block}
use Rattle.mz_base.specs.Lists.{drop_block}
use Rattle.mz_base.specs.Sizes.{good_size_of}
use Rattle.mz_events.specs.declared.entry.Entry.{Entry}
use Rattle.mz_events.specs.declared.event.Event.{Event}
use Rattle.mz_events.specs.declared.event.Event.TheVariants.{Size}
use Rattle.mz_events.specs.Changes.{one_for}
use Rattle.mz_events.specs.Hands.{hand_after, hand_through}
use Rattle.mz_record.specs.Served.{events}
use Rattle.mz_record.specs.Resized.{Resize, IsResized, same_size, in_place, still_large, Moves, to_nothing, between_ranges, out_of_nano, large, hemmed_in, IsMoved, moved as moved_on, not_moved}
use Rattle.mz_record.specs.Bytes.{kept_in_place, kept_in_move, is_shown_as}
use Rattle.mz_lawful.specs.Settings.{above, least_ticket}
use Rattle.mz_lawful.specs.After.{bytes_kept}
use Rattle.mz_book.specs.Account.{Account, IsOrderly, hand}
use Rattle.mz_book.specs.Living.{times}
use Rattle.mz_rack.specs.declared.lot.Null.{Null}
use Rattle.mz_rack.specs.Resizing.{resize_at}
use Rattle.mz_nano.specs.Lists.{In}
use Rattle.mz_zone.specs.declared.fault.NotLiveBlock.{NotLiveBlock}
use Rattle.mz_zone.specs.declared.fault.ReallocFault.{ReallocFault}
use Rattle.mz_zone.specs.declared.fault.ReallocFault.TheVariants as fault
use Rattle.mz_zone.specs.Blocks.{BlockView, IsAtItsSlot, block_of, at_its_place, slot_added}
use Rattle.mz_zone.specs.Calling.{AtView, Goes, hand_in}
use Rattle.mz_zone.specs.Moving.{Reallocs, Stays, MovesOn, Resizes, known}
use Rattle.mz_session.specs.SessionLaws.{SessionLaws}
use Rattle.mz_session.specs.Sessions.{SessionView, IsOurs, views_kept, blocks_kept, Keeps}
use Rattle.mz_session.specs.Serving.{resize_of, Remakes}
use Rattle.mz_session.proofs.CountLemmas.{some-is, same-self, same-is, one-true, one-false, count-cons, count-append, count-gone, count-others}
use Rattle.mz_session.proofs.KeepLemmas.{loose-counted, there-first, there-behind, kept-more, kept-fewer, kept-loose, only-loose, kept-beside}
use Rattle.mz_session.proofs.PlaceLemmas.{other-slot}
use Rattle.mz_session.specs.Asking.{HasMoreRoom, roomier, moved, HasAsked}
use Rattle.mz_session.proofs.CallLemmas.{notes-call, more-seen, above-before, same-profile, counts-roomier, tries-roomier, hand-through-mine, ours-stays, keeps-moved, in-added, in-dropped, symmetric, not-denied}

-- how often a block is among some of which one has become another

one-more-times : (m : ℕ) (t : Bool) → (1 + m) * one_for t ≡ one_for t + m * one_for t
one-more-times m true = omega arith
one-more-times m false = omega arith

replaced-case :
    (b d c y : Block) (ys : List Block) (t : Bool) → same_block b y ≡ t → times c (map (λ x. if same_block b x then d else x) ys) ≡ times c (drop_block b ys) + times b ys * one_for (same_block c d)
    → times c (map (λ x. if same_block b x then d else x) (y ∷ ys)) ≡ times c (drop_block b (y ∷ ys)) + times b (y ∷ ys) * one_for (same_block c d)
replaced-case b d c y ys true is rest =
    let more = count-cons b y ys in
    let one = one-true (same_block b y) is in
    let new = count-cons c d (map (λ x. if same_block b x then d else x) ys) in
    let left : drop_block b (y ∷ ys) ≡ drop_block b ys = rw is refl in
    let shown : map (λ x. if same_block b x then d else x) (y ∷ ys) ≡ d ∷ map (λ x. if same_block b x then d else x) ys = rw is refl in
    let many : times b (y ∷ ys) ≡ 1 + times b ys = omega (arith, more, one) in
    let product : times b (y ∷ ys) * one_for (same_block c d) ≡ one_for (same_block c d) + times b ys * one_for (same_block c d) = ap (λ n. n * one_for (same_block c d)) many ∙ one-more-times (times b ys) (same_block c d) in
    let now = ap (times c) shown in
    let gone = ap (times c) left in
    omega (arith, rest, new, product, now, gone)
replaced-case b d c y ys false is rest =
    let more = count-cons b y ys in
    let zero = one-false (same_block b y) is in
    let left : drop_block b (y ∷ ys) ≡ y ∷ drop_block b ys = rw is refl in
    let shown : map (λ x. if same_block b x then d else x) (y ∷ ys) ≡ y ∷ map (λ x. if same_block b x then d else x) ys = rw is refl in
    let many : times b (y ∷ ys) ≡ times b ys = omega (arith, more, zero) in
    let product : times b (y ∷ ys) * one_for (same_block c d) ≡ times b ys * one_for (same_block c d) = ap (λ n. n * one_for (same_block c d)) many in
    let now = ap (times c) shown ∙ count-cons c y (map (λ x. if same_block b x then d else x) ys) in
    let gone = ap (times c) left ∙ count-cons c y (drop_block b ys) in
    omega (arith, rest, product, now, gone)

count-replaced : (b d c : Block) (ys : List Block) → times c (map (λ x. if same_block b x then d else x) ys) ≡ times c (drop_block b ys) + times b ys * one_for (same_block c d)
count-replaced b d c [] = omega arith
count-replaced b d c (y ∷ ys) = replaced-case b d c y ys (same_block b y) refl (count-replaced b d c ys)

one-event : (bs : List Block) (es : List Entry) (x : Event) → events es ≡ x ∷ [] → hand_through bs es ≡ hand_after bs x
one-event bs [] x is = absurd (let n = ap length is in omega (arith, n))
one-event bs (e ∷ []) x is = ap (hand_after bs) (ap (λ (xs : List Event). elim xs [ [] ↦ x | y ∷ ys ↦ y ]) is)
one-event bs (e ∷ f ∷ es) x is = absurd (let n = ap length is in omega (arith, n))

-- a hand of which one block, which was there once, has become another
abbrev pub IsWithOther : List Block → Block → Block → List Block → Type 0
IsWithOther before b d after = (c : Block) → times c after ≡ times c (drop_block b before) + one_for (same_block c d)

as-before : (bs : List Block) (b d : Block) (es : List Entry) → times b bs ≡ 1 → es ≡ [] → d ≡ b → IsWithOther bs b d (hand_through bs es)
as-before bs b d es once none is c =
    let whole = ap (λ xs. times c (hand_through bs xs)) none in
    let new : one_for (same_block c d) ≡ one_for (same_block c b) = ap (λ x. one_for (same_block c x)) is in
    elim (cases_Bool (same_block b c)) [
      | inl same ↦
          let is_b = same-is b c same in
          let gone : times c (drop_block b bs) ≡ 0 = ap (λ x. times x (drop_block b bs)) (sym is_b) ∙ count-gone b bs in
          let one = one-true (same_block c b) (subst (λ x. same_block x b ≡ true) is_b (same-self b)) in
          let many : times c bs ≡ times b bs = ap (λ x. times x bs) (sym is_b) in
          omega (arith, whole, new, gone, one, many, once)
      | inr other ↦
          let stays = count-others b c bs (symmetric b c other) in
          let zero = one-false (same_block c b) (symmetric b c other) in
          omega (arith, whole, new, stays, zero)
    ]

resized-hand :
    (p : Profile) (bs : List Block) (b d : Block) (n : ℕ) (es : List Entry) → times b bs ≡ 1 → IsResized p b n es (Some d) → IsWithOther bs b d (hand_through bs es)
resized-hand p bs b d n es once (same_size some same none is) = as-before bs b d es once none (some-is d b is)
resized-hand p bs b d n es once (in_place k one other by is) = λ c.
    let now : d ≡ block_at b.first (good_size_of n) = some-is d (block_at b.first (good_size_of n)) is in
    let whole : times c (hand_through bs es) ≡ times c (map (λ x. if same_block b x then block_at b.first (good_size_of n) else x) bs) = ap (times c) (one-event bs es (Size k b.first b.size (good_size_of n)) by) in
    let parts = count-replaced b (block_at b.first (good_size_of n)) c bs in
    let product : times b bs * one_for (same_block c (block_at b.first (good_size_of n))) ≡ one_for (same_block c d) = once-more (times b bs) (one_for (same_block c (block_at b.first (good_size_of n)))) once ∙ ap (λ x. one_for (same_block c x)) (sym now) in
    omega (arith, whole, parts, product)
  where
    once-more : (m k : ℕ) → m ≡ 1 → m * k ≡ k
    once-more m k is = ap (λ n. n * k) is ∙ (omega arith)
resized-hand p bs b d n es once (still_large old new stays none is) = as-before bs b d es once none (some-is d b is)

moved-hand :
    (L : SessionLaws) (p : Profile) (h es : List Entry) (r : Resize) (d : Block) (bs : List Block) → same_block r.block d ≡ false
    → IsMoved p h r es (Some d) → IsWithOther bs r.block d (hand_through bs es)
moved-hand L p h es r d bs other (moved_on x news olds moves split serves drops got) = λ y.
    let b = r.block in
    let is : d ≡ x = some-is d x got in
    let made : hand_through bs news ≡ bs ++ x ∷ [] = L.served _ _ _ news (Some x) bs serves.served in
    let left : hand_through bs es ≡ drop_block b (bs ++ x ∷ []) =
    ap (hand_through bs) split ∙ (fold-append (λ s e. hand_after s e.event) bs news olds ∙ (L.dropped p h b olds (hand_through bs news) drops ∙ ap (drop_block b) made)) in
    let whole : times y (hand_through bs es) ≡ times y (drop_block b (bs ++ d ∷ [])) = ap (times y) left ∙ ap (λ v. times y (drop_block b (bs ++ v ∷ []))) (sym is) in
    elim (cases_Bool (same_block b y)) [
      | inl same ↦
          let is_b = same-is b y same in
          let gone : times y (drop_block b (bs ++ d ∷ [])) ≡ 0 = ap (λ v. times v (drop_block b (bs ++ d ∷ []))) (sym is_b) ∙ count-gone b (bs ++ d ∷ []) in
          let before : times y (drop_block b bs) ≡ 0 = ap (λ v. times v (drop_block b bs)) (sym is_b) ∙ count-gone b bs in
          let zero = one-false (same_block y d) (subst (λ v. same_block v d ≡ false) is_b other) in
          omega (arith, whole, gone, before, zero)
      | inr apart ↦
          let all = count-others b y (bs ++ d ∷ []) (symmetric b y apart) in
          let old = count-others b y bs (symmetric b y apart) in
          let more = count-append y bs (d ∷ []) in
          let one = count-cons y d [] in
          omega (arith, whole, all, old, more, one)
    ]
moved-hand L p h es r d bs other (not_moved moves serves none) = absurd (some-none d none)
  where
    some-none : (d : Block) → ◌≡◌ {A = Option Block} (Some d) None → ⊥
    some-none d is = cc

stayed-hand :
    (L : SessionLaws) (p : Profile) (h es : List Entry) (r : Resize) (bs : List Block) → IsMoved p h r es None → hand_through bs es ≡ bs
stayed-hand L p h es r bs (moved_on x news olds moves split serves drops got) = absurd (none-some x got)
  where
    none-some : (d : Block) → ◌≡◌ {A = Option Block} None (Some d) → ⊥
    none-some d is = cc
stayed-hand L p h es r bs (not_moved moves serves none) = L.served _ _ _ es None bs serves.served ∙ append-nil bs

-- when a block had to move

least-above : (t n : ℕ) (es : List Entry) → t ≤ n → ((e : Entry) → Contains es e → t ≤ e.ticket) → t ≤ least_ticket n es
least-above t n [] low each = low
least-above t n (e ∷ es) low each =
    let first = each e (there-first e es) in
    let rest = least-above t n es low (λ x there. each x (there-behind e x es there)) in
    omega (arith, first, rest)

-- the same, asked from an earlier time on, and at the latest when the first of these entries came
abbrev from_low : List Entry → List Entry → ℕ → Resize → Resize
from_low h es low r = record r { low = low; high = least_ticket (length h) es }

wider-moves :
    (p : Profile) (h es : List Entry) (low : ℕ) (r : Resize) → low ≤ r.low → ((e : Entry) → Contains es e → r.high ≤ e.ticket) → Moves p h r
    → Moves p h (from_low h es low r)
wider-moves p h es low r after each (to_nothing none) = to_nothing none
wider-moves p h es low r after each (between_ranges other ranges) = between_ranges other ranges
wider-moves p h es low r after each (out_of_nano other lies) = out_of_nano other lies
wider-moves p h es low r after each (large old new leaves) = large old new leaves
wider-moves p h es low r after each (hemmed_in one grows was) =
    hemmed_in one grows (record {
      t = was.t;
      not_before = let a = was.not_before in omega (arith, after, a);
      not_after = least-above was.t (length h) es was.within (λ e there. let a = was.not_after in let c = each e there in omega (arith, a, c));
      within = was.within;
      hemmed = was.hemmed;
    })

wider :
    (p : Profile) (h es : List Entry) (low : ℕ) (r : Resize) (got : Option Block) → low ≤ r.low → ((e : Entry) → Contains es e → r.high ≤ e.ticket)
    → IsMoved p h r es got → IsMoved p h (from_low h es low r) es got
wider p h es low r got after each (moved_on x news olds moves split serves drops is) = moved_on x news olds (wider-moves p h es low r after each moves) split serves drops is
wider p h es low r got after each (not_moved moves serves none) = not_moved (wider-moves p h es low r after each moves) serves none

-- bytes

bytes-in-place : (n : ℕ) (b d : BlockView) → d.span.first ≡ b.span.first → IsTrue (is_shown_as (kept_in_place (length d.span.bytes) (known b)) d.span.bytes) → is_shown_as (bytes_kept n (block_of b) (block_of d) (known b)) d.span.bytes ≡ true
bytes-in-place n b d first shown = by-test (b.span.first == d.span.first) refl
  where
    by-test : (t : Bool) → (b.span.first == d.span.first) ≡ t → is_shown_as (bytes_kept n (block_of b) (block_of d) (known b)) d.span.bytes ≡ true
    by-test true is = rw is shown
    by-test false is = absurd (false≢true (sym is ∙ eq-eqb b.span.first d.span.first (sym first)))

bytes-moved : (n : ℕ) (b d : BlockView) → (b.span.first ≡ d.span.first → ⊥) → IsTrue (is_shown_as (kept_in_move n (length d.span.bytes) (known b)) d.span.bytes) → is_shown_as (bytes_kept n (block_of b) (block_of d) (known b)) d.span.bytes ≡ true
bytes-moved n b d other shown = by-test (b.span.first == d.span.first) refl
  where
    by-test : (t : Bool) → (b.span.first == d.span.first) ≡ t → is_shown_as (bytes_kept n (block_of b) (block_of d) (known b)) d.span.bytes ≡ true
    by-test true is = absurd (other (eqb-true b.span.first d.span.first is))
    by-test false is = rw is shown

other-start : (b d : BlockView) → (b.span.first ≡ d.span.first → ⊥) → same_block (block_of b) (block_of d) ≡ false
other-start b d other = elim (cases_Bool (same_block (block_of b) (block_of d))) [
  | inl same ↦ absurd (other (ap (λ x. x.first) (same-is (block_of b) (block_of d) same)))
  | inr apart ↦ apart
]

-- the call

module _ (L : SessionLaws) (s : SessionView) (x : BlockView) (kept : Keeps s (x ∷ [])) (before : IsOrderly s.at.book) (b : Account) (room : HasMoreRoom s.at.book b) (n : ℕ) (w : AtView) (orderly : IsOrderly w.book) where
  there : Contains (views_kept s (x ∷ [])) x
  there = kept-loose s (x ∷ []) x (there-first x [])

  once : times (block_of x) (hand s.at.book) ≡ 1
  once =
      let all = loose-counted s x [] (block_of x) in
      let one = one-true (same_block (block_of x) (block_of x)) (same-self (block_of x)) in
      let hand = kept.in_hand (block_of x) in
      let most = kept.once (block_of x) in
      omega (arith, all, one, hand, most)

  with-other : (d : BlockView) (after : List Block) → IsWithOther (hand s.at.book) (block_of x) (block_of d) after → (c : Block) → times c after ≡ times c (blocks_kept s (d ∷ []))
  with-other d after changed c =
      let now = changed c in
      let new = loose-counted s d [] c in
      let old = loose-counted s x [] c in
      let hand = kept.in_hand c in
      elim (cases_Bool (same_block (block_of x) c)) [
        | inl same ↦
            let is = same-is (block_of x) c same in
            let gone : times c (drop_block (block_of x) (hand_of_s)) ≡ 0 = ap (λ v. times v (drop_block (block_of x) hand_of_s)) (sym is) ∙ count-gone (block_of x) hand_of_s in
            let none : times c (blocks_kept s []) ≡ 0 = ap (λ v. times v (blocks_kept s [])) (sym is) ∙ only-loose s x [] kept in
            omega (arith, now, new, gone, none)
        | inr other ↦
            let stays = count-others (block_of x) c hand_of_s (symmetric (block_of x) c other) in
            let zero = one-false (same_block c (block_of x)) (symmetric (block_of x) c other) in
            omega (arith, now, new, old, hand, stays, zero)
      ]
    where
      hand_of_s : List Block
      hand_of_s = hand s.at.book

  other-of : (y : BlockView) → Contains (views_kept s []) y → same_block (block_of x) (block_of y) ≡ false
  other-of y still = symmetric (block_of y) (block_of x) (kept-beside s x [] kept y still)

  -- what caller c asks of the block of zone z, after all that was seen before
  abbrev asked : ℕ → ℕ → List Entry → Resize
  asked c z mine = record { caller = c; zone = z; block = block_of x; bytes = n; low = above s.at.book.seen; high = least_ticket (length w.book.seen) mine }

  moved-then :
      (got : Option Block) (mine : List Entry) (t : ℕ) → length b.seen ≤ t → ((e : Entry) → Contains mine e → t ≤ e.ticket)
      → IsMoved b.profile w.book.seen (resize_at b t s.zone.zone (block_of x) n) mine got → Goes (roomier s b) mine w
      → IsMoved s.at.book.profile w.book.seen (resize_of s x n (least_ticket (length w.book.seen) mine)) mine got
  moved-then got mine t seen noted moves goes =
      let low : above s.at.book.seen ≤ t =
      let a = above-before L s (x ∷ []) kept b room w mine goes orderly in
      let l = ap (λ v. length v.seen) room in
      omega (arith, a, l, seen)
      in
      subst (λ z. IsMoved s.at.book.profile w.book.seen (asked 0 z mine) mine got) (sym (not-denied s x [] kept))
      (subst (λ c. IsMoved s.at.book.profile w.book.seen (asked c s.zone.zone mine) mine got) (ap (λ v. v.caller) room ∙ kept.caller)
      (subst (λ p. IsMoved p w.book.seen (asked b.caller s.zone.zone mine) mine got) (ap (λ v. v.profile) room)
      (wider b.profile w.book.seen mine (above s.at.book.seen) (resize_at b t s.zone.zone (block_of x) n) got low noted moves)))

  stays-remade : (d : BlockView) → Stays (roomier s b) x n d w → IsAtItsSlot d → Remakes s x n (Some d) (moved s w)
  stays-remade d stays placed =
      let mine = stays.mine in
      let goes = stays.goes in
      let was = kept.ours x there in
      record {
        mine = mine;
        notes = notes-call L s (x ∷ []) kept b room w mine goes orderly;
        resizing = inl (subst (λ (p : Profile). IsResized p (block_of x) n mine (Some (block_of d))) (ap (λ a. a.profile) room) stays.resized);
        tries = (λ same. stays.counts ∙ counts-roomier s b room, λ other. absurd (other (ap (λ v. v.span.first) stays.place)));
        keeps = keeps-moved L s (x ∷ []) kept b room w mine goes orderly (d ∷ [])
            (λ y at. elim (kept-fewer s y d [] at) [
              | inl same ↦ subst (IsOurs w) same (subst (IsOurs w) (sym stays.place) (ours-there d stays placed (ours-stays L s (x ∷ []) kept b room w mine goes orderly x (λ h is in_it. subst (In h) (sym stays.hand) in_it) was)))
              | inr old ↦ ours-stays L s (x ∷ []) kept b room w mine goes orderly y (λ h is in_it. subst (In h) (sym stays.hand) in_it) (kept.ours y (kept-more s y x [] old))
            ])
            (with-other d (hand w.book) (λ c. ap (times c) (hand-through-mine L s (x ∷ []) kept b room w mine goes orderly) ∙ resized-hand b.profile (hand s.at.book) (block_of x) (block_of d) n mine once stays.resized c));
        bytes = λ e is. subst (λ v. is_shown_as (bytes_kept n (block_of x) (block_of v) (known x)) v.span.bytes ≡ true) (view-is d e is) (bytes-in-place n x d (ap (λ v. v.span.first) stays.place) stays.bytes);
      }
    where
      view-is : (d e : BlockView) → ◌≡◌ {A = Option BlockView} (Some d) (Some e) → d ≡ e
      view-is d e is = some-is d e is

      ours-there : (d : BlockView) (stays : Stays (roomier s b) x n d w) → IsAtItsSlot d → IsOurs w x → IsOurs w (at_its_place x d.span.bytes)
      ours-there d stays placed ours = record {
        zone = ours.zone;
        space = ours.space;
        slot = ours.slot;
        place = subst IsAtItsSlot stays.place placed;
      }

  moves-remade : (d : BlockView) → MovesOn (roomier s b) s.zone.zone x n (Ok d) w → IsAtItsSlot d → Remakes s x n (Some d) (moved s w)
  moves-remade d on placed =
      let mine = on.mine in
      let goes = on.goes in
      let other = other-start x d on.elsewhere in
      record {
        mine = mine;
        notes = notes-call L s (x ∷ []) kept b room w mine goes orderly;
        resizing = inr (moved-then (Some (block_of d)) mine on.t (on.before.all_seen) on.before.none_noted on.moved goes);
        tries = (λ same. absurd (on.elsewhere (sym same)), λ other_first. tries-roomier s b room s.zone.zone n 16 d.slot w kept.zone on.tries);
        keeps = keeps-moved L s (x ∷ []) kept b room w mine goes orderly (d ∷ [])
            (λ y at. elim (kept-fewer s y d [] at) [
              | inl same ↦ subst (IsOurs w) same (record {
                zone = on.answer.0 ∙ kept.zone;
                space = on.answer.1 ∙ sym goes.adds.same.site;
                slot = on.slot;
                place = placed;
              })
              | inr old ↦ ours-stays L s (x ∷ []) kept b room w mine goes orderly y
                  (λ h is in_it. subst (In h) (sym on.hand)
                  (in-dropped x.slot h (slot_added d.slot (hand_in s.at.nano)) (λ k at_k. other-slot L s (x ∷ []) kept before x y k h there (kept-more s y x [] old) at_k is (other-of y old)) (in-added d.slot h (hand_in s.at.nano) in_it)))
                  (kept.ours y (kept-more s y x [] old))
            ])
            (with-other d (hand w.book) (λ c. ap (times c) (hand-through-mine L s (x ∷ []) kept b room w mine goes orderly) ∙ moved-hand L b.profile w.book.seen mine (resize_at b on.t s.zone.zone (block_of x) n) (block_of d) (hand s.at.book) other on.moved c));
        bytes = λ e is. subst (λ v. is_shown_as (bytes_kept n (block_of x) (block_of v) (known x)) v.span.bytes ≡ true) (some-is d e is) (bytes-moved n x d on.elsewhere on.bytes);
      }

  pub not-remade : (e : Null) → MovesOn (roomier s b) s.zone.zone x n (Err e) w → Remakes s x n None (moved s w)
  not-remade e on =
      let mine = on.mine in
      let goes = on.goes in
      record {
        mine = mine;
        notes = notes-call L s (x ∷ []) kept b room w mine goes orderly;
        resizing = inr (moved-then None mine on.t (on.before.all_seen) on.before.none_noted on.moved goes);
        tries = tries-roomier s b room s.zone.zone n 16 None w kept.zone on.tries;
        keeps = keeps-moved L s (x ∷ []) kept b room w mine goes orderly (x ∷ [])
            (λ y at. ours-stays L s (x ∷ []) kept b room w mine goes orderly y (λ h is in_it. subst (In h) (sym on.hand) in_it) (kept.ours y at))
            (λ c. ap (times c) (hand-through-mine L s (x ∷ []) kept b room w mine goes orderly ∙ stayed-hand L b.profile w.book.seen mine (resize_at b on.t s.zone.zone (block_of x) n) (hand s.at.book) on.moved) ∙ kept.in_hand c);
        bytes = λ d is. absurd (none-is d is);
      }
    where
      none-is : (d : BlockView) → ◌≡◌ {A = Option BlockView} None (Some d) → ⊥
      none-is d is = cc

  pub remade : (d : BlockView) → Resizes (roomier s b) s.zone.zone x n (Ok d) w → IsAtItsSlot d → Remakes s x n (Some d) (moved s w)
  remade d (inl stays) placed = stays-remade d stays placed
  remade d (inr on) placed = moves-remade d on placed

-- what a session keeps that asked for another size

pub asked-remade :
    (L : SessionLaws) (s t : SessionView) (x : BlockView) → Keeps s (x ∷ []) → (n : ℕ) (got : Result BlockView ReallocFault) (d : BlockView) → got ≡ Ok d
    → HasAsked s (λ v o w. Reallocs v s.zone.zone (Some x) n o w) got t → IsAtItsSlot d → Remakes s x n (Some d) t
asked-remade L s t x kept n got d is asked placed =
    let done : Reallocs (roomier s asked.book) s.zone.zone (Some x) n (Ok d) t.at = subst (λ o. Reallocs (roomier s asked.book) s.zone.zone (Some x) n o t.at) is asked.does in
    subst (Remakes s x n (Some d)) (sym asked.keeps) (remade L s x kept asked.before asked.book asked.room n t.at asked.after d done.1 placed)

pub asked-null :
    (L : SessionLaws) (s t : SessionView) (x : BlockView) → Keeps s (x ∷ []) → (n : ℕ) (got : Result BlockView ReallocFault) (o : Option BlockView) (e : Null) → got ≡ Err (fault.Null o e)
    → HasAsked s (λ v o w. Reallocs v s.zone.zone (Some x) n o w) got t → (o ≡ Some x) × Remakes s x n None t
asked-null L s t x kept n got o e is asked =
    let done : Reallocs (roomier s asked.book) s.zone.zone (Some x) n (Err (fault.Null o e)) t.at =
    subst (λ y. Reallocs (roomier s asked.book) s.zone.zone (Some x) n y t.at) is asked.does
    in
    (done.1, subst (Remakes s x n None) (sym asked.keeps) (not-remade L s x kept asked.before asked.book asked.room n t.at asked.after e done.2))

pub asked-refused :
    (s t : SessionView) (x : BlockView) → Keeps s (x ∷ []) → (n : ℕ) (got : Result BlockView ReallocFault) (e : NotLiveBlock) → got ≡ Err (fault.NotLive e)
    → HasAsked s (λ v o w. Reallocs v s.zone.zone (Some x) n o w) got t → ⊥
asked-refused s t x kept n got e is asked =
    let done : Reallocs (roomier s asked.book) s.zone.zone (Some x) n (Err (fault.NotLive e)) t.at =
    subst (λ y. Reallocs (roomier s asked.book) s.zone.zone (Some x) n y t.at) is asked.does
    in
    done.freed.0 (not-denied s x [] kept)
