-- What becomes of a block that has to move.
use Rattle.std.proofs.Common.{◌≡◌, ℕ, ◌-◌, ◌*◌, ◌≤◌, Bool, true, false, List, [], ◌∷◌, ◌++◌, Option, None, Some, length, take, drop, min, refl, ap, sym, subst, ◌∙◌, arith, inl, inr, length-append}
use Rattle.std.specs.Prelude.{Ok, Err, IsTrue, ◌||◌, ◌==◌}
use Rattle.std.specs.List.{list_any}
use Rattle.std.specs.Option.{option_to_list}
use Rattle.std.proofs.lemmas.List.Folds.{list_any-append}
use Rattle.mz_base.specs.declared.profile.Profile.{Profile}
use Rattle.mz_base.specs.Space.{Block, block_at}
use Rattle.mz_base.specs.Sizes.{units_of, good_size_of}
use Rattle.mz_base.specs.Lists.{has_block}
use Rattle.mz_events.specs.declared.entry.Entry.{Entry}
use Rattle.mz_events.specs.declared.event.Event.{Event}
use Rattle.mz_events.specs.declared.event.Event.TheVariants.{New, Size}
use Rattle.mz_events.specs.Hands.{hand_through}
use Rattle.mz_events.specs.State.{opening}
use Rattle.mz_events.specs.History.{AreLawful}
use Rattle.mz_record.specs.Bytes.{kept, kept_in_move, is_shown_as}
use Rattle.mz_record.specs.Served.{Request, Serves, block_made, blocks_made}
use Rattle.mz_record.specs.Dropped.{IsDropped}
use Rattle.mz_record.specs.Resized.{Resize, moving_request, moved, Moves, to_nothing, between_ranges, out_of_nano, large, hemmed_in, IsHemmedIn, not_moved}
use Rattle.std.proofs.lemmas.Bool.{and_parts, eqb-true}
use Rattle.mz_book.specs.Account.{Account, IsOrderly, hand}
use Rattle.mz_book.specs.Pairs.{hand_among}
use Rattle.mz_rack.specs.declared.lot.Null.{Null}
use Rattle.mz_rack.specs.Resizing.{resize_now}
use Rattle.mz_nano.specs.declared.view.Held.{Held}
use Rattle.mz_nano.specs.Lists.{In, is_at, without}
use Rattle.mz_nano.specs.Rule.{Once, held}
use Rattle.mz_nano.specs.SeatLists.{hand_of, first_of, blocks_of, space_of}
use Rattle.mz_base.specs.declared.range.TheConstants.{PAGE}
use Rattle.mz_events.specs.Places.{nano_start}
use Rattle.mz_zone.specs.Blocks.{BlockView, block_of, at_its_place, hand_without, slot_added, slot_dropped}
use Rattle.mz_zone.specs.Calling.{AtView, Seated, CanCall, Goes, HasSlot, IsHandedIn, IsSeatedAt, StaysSeated, hand_in}
use Rattle.mz_zone.specs.Answering.{Answers, makes_slot}
use Rattle.mz_zone.specs.Counts.{TriesIf, is_for_nano, counts_of}
use Rattle.mz_zone.specs.Freeing.{Frees}
use Rattle.mz_zone.specs.Moving.{MovesOn, known}
use Rattle.mz_zone.specs.Resizing.{MovesNow, CopiesInto}
use Rattle.mz_zone.specs.ZoneLaws.{ZoneLaws}
use Rattle.mz_zone.proofs.Elsewhere.{front_there, begins_elsewhere}
use Rattle.mz_zone.proofs.Going.{goes_on}
use Rattle.mz_zone.proofs.Clearing.{whole_front}
use Rattle.mz_zone.proofs.Copied.{shown_kept, written_length}
use Rattle.mz_zone.proofs.Noted.{none_before, served_on}

-- what made a block move is so in a longer history too, and its zone has no part in it
pub moves_later :
    (laws : ZoneLaws) (p : Profile) (h later : List Entry) (r : Resize) (z : ℕ) → AreLawful p opening (h ++ later)
    → Moves p h r → Moves p (h ++ later) (record r { zone = z })
moves_later laws p h later r z lawful (to_nothing e) = to_nothing e
moves_later laws p h later r z lawful (between_ranges e f) = between_ranges e f
moves_later laws p h later r z lawful (out_of_nano e f) = out_of_nano e f
moves_later laws p h later r z lawful (large e f k) = large e f k
moves_later laws p h later r z lawful (hemmed_in e f w) = hemmed_in e f (record {
  t = w.t;
  not_before = w.not_before;
  not_after = w.not_after;
  within = let i : w.t ≤ length h = w.within in omega (arith, length-append h later);
  hemmed = subst (λ s. IsHemmedIn s r.block (good_size_of r.bytes)) (sym (laws.state_later p h later w.t lawful w.within)) w.hemmed;
})

-- what made a block move before a call does so after it
later_moves :
    (laws : ZoneLaws) (v w : AtView) (mine : List Entry) (z : ℕ) (b : BlockView) (n : ℕ) → IsOrderly w.book → Goes v mine w → MovesNow v b n
    → Moves v.book.profile w.book.seen (resize_now v.book z (block_of b) n)
later_moves laws v w mine z b n orderly goes moves =
    let lawful : AreLawful v.book.profile opening (v.book.seen ++ goes.adds.more) =
    subst (λ h. AreLawful v.book.profile opening h) goes.adds.seen (subst (λ p. AreLawful p opening w.book.seen) goes.adds.same.profile orderly.lawful) in
    subst (λ h. Moves v.book.profile h (resize_now v.book z (block_of b) n)) (sym goes.adds.seen)
    (moves_later laws v.book.profile v.book.seen goes.adds.more (resize_now v.book b.zone (block_of b) n) z lawful moves)

-- no block was served, and the old one stays
pub stays_so :
    (laws : ZoneLaws) (v w : AtView) (z n : ℕ) (b : BlockView) (e : Null) → IsOrderly w.book → Answers v z n 16 (Err e) w → MovesNow v b n
    → MovesOn v z b n (Err e) w
stays_so laws v w z n b e orderly a moves = record {
  mine = a.mine;
  few = let f = a.few in omega (arith, f);
  goes = a.goes;
  t = length v.book.seen;
  before = none_before v w a.mine a.goes laws orderly;
  moved = not_moved (later_moves laws v w a.mine z b n orderly a.goes moves) a.serves refl;
  answer = a.answer;
  slot = a.slot;
  elsewhere = tt;
  bytes = tt;
  hand = a.hand;
  tries = a.tries;
}

-- the hand after a call's entries
pub hand_after_call : (laws : ZoneLaws) (v u : AtView) (mine : List Entry) → Goes v mine u → hand u.book ≡ hand_through (hand v.book) mine
hand_after_call laws v u mine goes =
    ap (λ c. hand_among c u.book.pairs) goes.adds.same.caller
    ∙ (ap (hand_among v.book.caller) goes.adds.pairs ∙ laws.through v.book.caller v.book.pairs mine)

-- after a request the hand has the new block behind the others
pub hand_then : (laws : ZoneLaws) (v u : AtView) (z n al : ℕ) (d : BlockView) → Answers v z n al (Ok d) u → hand u.book ≡ hand v.book ++ block_of d ∷ []
hand_then laws v u z n al d a = hand_after_call laws v u a.mine a.goes ∙ laws.hand_served _ _ _ a.mine _ (hand v.book) a.serves.served

in_added : (o : Option Held) (h : Held) (hs : List Held) → In h hs → In h (slot_added o hs)
in_added None h hs i = i
in_added (Some x) h hs i = inr i

-- a slot that was in the seat's hand still is where another came
pub slot_stays :
    (m k : Option Seated) (base : ℕ) (s o : Option Held) → StaysSeated m k → hand_in k ≡ slot_added o (hand_in m) → HasSlot m base s → HasSlot k base s
slot_stays m k base None o st e has = tt
slot_stays None k base (Some h) o st e has = absurd has
slot_stays (Some x) None base (Some h) o st e has = absurd st
slot_stays (Some x) (Some y) base (Some h) o st e has =
    (has.0 ∙ sym (ap first_of st.0), subst (λ hs. In h hs) (sym e) (in_added o h (hand_of x.seat) has.1))

-- a block that was handed in still is, once another was made
pub still_handed : (laws : ZoneLaws) (v u : AtView) (z n al : ℕ) (d b : BlockView) → Answers v z n al (Ok d) u → IsHandedIn v b → IsHandedIn u b
still_handed laws v u z n al d b a h = record {
  in_hand = subst (λ hs. has_block hs (block_of b) ≡ true) (sym (hand_then laws v u z n al d a)) (front_there (hand v.book) (block_of d ∷ []) (block_of b) h.in_hand);
  space = h.space ∙ sym a.goes.adds.same.site;
  slot = slot_stays v.nano u.nano b.base b.slot d.slot a.goes.nano a.hand h.slot;
}

-- nano is the book's still
pub seated_after :
    (s t : Account) (m k : Option Seated) → StaysSeated m k → t.profile ≡ s.profile → t.site ≡ s.site → IsSeatedAt s m → IsSeatedAt t k
seated_after s t None None st p e i = tt
seated_after s t None (Some y) st p e i = absurd st
seated_after s t (Some x) None st p e i = absurd st
seated_after s t (Some x) (Some y) st p e i = record {
  seat = st.1;
  first = ap first_of st.0 ∙ (i.first ∙ sym (ap (λ (q : Profile). nano_start q * PAGE) p));
  blocks = ap blocks_of st.0 ∙ (i.blocks ∙ sym (ap (λ (q : Profile). q.nano) p));
  space = ap space_of st.0 ∙ (i.space ∙ sym e);
}

-- A call may be made after one that left room.
pub can_then : (v u : AtView) (p : Profile) (z m n : ℕ) (mine : List Entry) → CanCall v p z m → Goes v mine u → n ≤ u.book.spare → CanCall u p z n
can_then v u p z m n mine can goes room = record {
  serve = record {
    profile = goes.adds.same.profile ∙ can.serve.profile;
    zone_open = goes.adds.zones z ∙ can.serve.zone_open;
    nothing_held = goes.nothing_held;
    room = room;
  };
  nano = seated_after v.book u.book v.nano u.nano goes.nano goes.adds.same.profile goes.adds.same.site can.nano;
}

-- the room that a request leaves
pub room_after : (v u : AtView) (mine : List Entry) → 40 ≤ v.book.spare → length mine ≤ 36 → Goes v mine u → 3 ≤ u.book.spare
room_after v u mine room few goes = let e : u.book.spare ≡ v.book.spare - length mine = goes.adds.spare in omega (arith, e, room, few)

-- an event that makes no block makes none of nano
none_first : (e : Event) (rest : List Block) → option_to_list (block_made e) ++ rest ≡ [] → (makes_slot e ≡ false) × (rest ≡ [])
none_first (New k a n al) rest h = absurd (some_none h)
  where
    some_none : block_at a n ∷ rest ≡ [] → ⊥
    some_none q = cc
none_first (Size k a n m) rest h = absurd (some_none h)
  where
    some_none : block_at a m ∷ rest ≡ [] → ⊥
    some_none q = cc
none_first _ rest h = (refl, h)

none_makes : (es : List Entry) → blocks_made es ≡ [] → list_any (λ e. makes_slot e.event) es ≡ false
none_makes [] h = refl
none_makes (e ∷ es) h = let t = none_first e.event (blocks_made es) h in rw t.0 (none_makes es t.1)

front_makes : (xs ys : List Entry) → blocks_made ys ≡ [] → list_any (λ e. makes_slot e.event) (xs ++ ys) ≡ list_any (λ e. makes_slot e.event) xs
front_makes xs ys h =
    list_any-append (λ e. makes_slot e.event) xs ys
    ∙ (ap (λ t. list_any (λ e. makes_slot e.event) xs || t) (none_makes ys h) ∙ or_none (list_any (λ e. makes_slot e.event) xs))
  where
    or_none : (t : Bool) → (t || false) ≡ t
    or_none true = refl
    or_none false = refl

-- a slot isn't where another is that was in the hand before it
not_there : (h q : Held) (hs : List Held) → Once (h ∷ hs) → In q hs → is_at q.block q.slot h ≡ false
not_there h q hs once i = by_test (is_at q.block q.slot h) refl
  where
    by_test : (t : Bool) → is_at q.block q.slot h ≡ t → is_at q.block q.slot h ≡ false
    by_test false e = e
    by_test true e =
        let t = and_parts (h.block == q.block) (h.slot == q.slot) e in
        let same : q ≡ held h.block h.slot q.class = ap (λ i. held i q.slot q.class) (sym (eqb-true h.block q.block t.0)) ∙ ap (λ i. held h.block i q.class) (sym (eqb-true h.slot q.slot t.1)) in
        absurd (once.0 q.class (subst (λ x. In x hs) same i))

-- a slot that came stays in the seat's hand where another that was there before goes
slot_left :
    (m k l : Option Seated) (base other : ℕ) (s o : Option Held) → StaysSeated k l → hand_in k ≡ slot_added s (hand_in m)
    → hand_in l ≡ slot_dropped o (hand_in k) → HasSlot k base s → HasSlot m other o → HasSlot l base s
slot_left m k l base other None o st came went has had = tt
slot_left m None l base other (Some h) o st came went has had = absurd has
slot_left m (Some y) None base other (Some h) o st came went has had = absurd st
slot_left m (Some y) (Some x) base other (Some h) None st came went has had = (has.0 ∙ sym (ap first_of st.0), subst (λ hs. In h hs) (sym went) has.1)
slot_left None (Some y) (Some x) base other (Some h) (Some q) st came went has had = absurd had
slot_left (Some z) (Some y) (Some x) base other (Some h) (Some q) st came went has had =
    let once : Once (h ∷ hand_of z.seat) = subst Once came y.seat.once in
    let there : In h (without q.block q.slot (h ∷ hand_of z.seat)) = rw (not_there h q (hand_of z.seat) once had.1) (inl refl) in
    (has.0 ∙ sym (ap first_of st.0), subst (λ hs. In h hs) (sym (went ∙ ap (without q.block q.slot) came)) there)

-- A block was served, got the bytes of the old one, and that ended.
module _ (laws : ZoneLaws) (v u w : AtView) (z n : ℕ) (b c : BlockView) (handed : IsHandedIn v b) (made : Answers v z n 16 (Ok c) u) (freed : Frees u z b (Ok tt) w) (between : IsOrderly u.book) (orderly : IsOrderly w.book) (moves : MovesNow v b n) where
  both : Goes v (made.mine ++ freed.mine) w
  both = goes_on laws v u w made.mine freed.mine made.goes freed.goes

  abbrev request : Request
  request = moving_request (resize_now v.book z (block_of b) n)

  still_serves : Serves v.book.profile w.book.seen request made.mine (Some (block_of c))
  still_serves =
      served_on laws v u w made.mine freed.mine request (Some (block_of c)) made.goes freed.goes orderly made.serves

  drops : IsDropped v.book.profile w.book.seen (block_of b) freed.mine
  drops = subst (λ (p : Profile). IsDropped p w.book.seen (block_of b) freed.mine) made.goes.adds.same.profile freed.freed.1

  -- with these bytes
  with_bytes_of : (ws : List ℕ) → length ws ≡ length c.span.bytes → IsTrue (is_shown_as (kept_in_move n (length ws) (known b)) ws) → MovesOn v z b n (Ok (at_its_place c ws)) w
  with_bytes_of ws same shown = record {
    mine = made.mine ++ freed.mine;
    few = let e = length-append made.mine freed.mine in let m = made.few in let f = freed.few in omega (arith, e, m, f);
    goes = both;
    t = length v.book.seen;
    before = none_before v w (made.mine ++ freed.mine) both laws orderly;
    moved = moved (block_at c.span.first (length ws)) made.mine freed.mine (later_moves laws v w _ z b n orderly both moves) refl
        (subst (λ k. Serves v.book.profile w.book.seen request made.mine (Some (block_at c.span.first k))) (sym same) still_serves) drops refl;
    answer = (
      made.answer.0,
      made.answer.1,
      made.answer.2 ∙ sym (front_makes made.mine freed.mine (laws.blocks_dropped v.book.profile w.book.seen (block_of b) freed.mine drops)),
    );
    slot = slot_left v.nano u.nano w.nano c.base b.base c.slot b.slot freed.goes.nano made.hand freed.hand made.slot handed.slot;
    elsewhere = begins_elsewhere laws u.book (hand v.book) (block_of b) (block_of c) between (hand_then laws v u z n 16 c made) handed.in_hand;
    bytes = shown;
    hand = freed.hand ∙ ap (hand_without b) made.hand;
    tries = subst (λ y. TriesIf (is_for_nano v z n 16) (units_of n) (counts_of v) c.slot y) (sym freed.counts) made.tries;
  }

  pub moved_on : (d : BlockView) → n ≤ length c.span.bytes → CopiesInto n b c d → MovesOn v z b n (Ok d) w
  moved_on d fits copied =
      let k : ℕ = min (length b.span.bytes) n in
      let ws : List ℕ = take k b.span.bytes ++ drop k c.span.bytes in
      let same : length ws ≡ length c.span.bytes = written_length n b.span.bytes c.span.bytes fits in
      let swap : min n (length b.span.bytes) ≡ k = omega arith in
      let shown : is_shown_as (kept n (length ws) (known b)) ws ≡ true =
      subst (λ i. is_shown_as (kept n (length (take i b.span.bytes ++ drop k c.span.bytes)) (known b)) (take i b.span.bytes ++ drop k c.span.bytes) ≡ true) swap
      (shown_kept laws n b.span.bytes (drop k c.span.bytes)) in
      subst (λ x. MovesOn v z b n (Ok x) w) (sym (copied ∙ whole_front c ws same)) (with_bytes_of ws same shown)
