-- How a block is freed, by the rack or by nano.
use Rattle.std.proofs.Common.{◌≡◌, ◌≢◌, ℕ, ◌+◌, ◌*◌, ◌<◌, ◌≤◌, true, false, List, [], ◌∷◌, Option, None, Some, refl, ap, sym, subst, ◌∙◌, arith, inl, inr, lit≤}
use Rattle.std.specs.Prelude.{Result, Ok, Err, IsTrue, nat_lt, ◌&&◌, ◌||◌}
use Rattle.std.specs.Borrow.{Bor, MutBor}
use Rattle.std.proofs.lemmas.Bool.{and_parts, eq-eqb, false≢true}
use Rattle.std.proofs.lemmas.Bool.Decides.{nat_tests}
use Rattle.mz_base.specs.declared.profile.Profile.{Profile}
use Rattle.mz_base.specs.declared.range.TheConstants.{PAGE}
use Rattle.mz_base.specs.Space.{block_at, page_of}
use Rattle.mz_book.specs.Lights.{page_of_block}
use Rattle.mz_events.specs.declared.entry.Entry.{Entry}
use Rattle.mz_events.specs.declared.event.Event.{Event}
use Rattle.mz_events.specs.declared.event.Event.TheVariants.{End, No}
use Rattle.mz_events.specs.declared.place.Place.TheVariants as place
use Rattle.mz_events.specs.Places.{nano_page, nano_start}
use Rattle.mz_events.specs.Effect.{touches}
use Rattle.mz_record.specs.Moments.{state_before, duty_left, first_some}
use Rattle.mz_base.specs.Lists.{has_block}
use Rattle.mz_book.specs.Account.{Account, HoldsNothing, entry_at, hand, state_of}
use Rattle.mz_book.specs.Calls.{CanNote, Notes}
use Rattle.mz_rack.specs.declared.lot.NotLive.{NotLive}
use Rattle.mz_rack.specs.Lots.{LotView}
use Rattle.mz_rack.specs.Serving.{CanServe}
use Rattle.mz_rack.specs.Freeing.{Frees as Racked, IsFreeable}
use Rattle.mz_zone.specs.declared.block.Inner.{Inner}
use Rattle.mz_zone.specs.declared.block.Inner.TheVariants as inner
use Rattle.mz_zone.specs.Inners.{view_of}
use Rattle.mz_events.specs.State.{is_open}
use Rattle.mz_nano.specs.declared.nano.Nano.{Nano}
use Rattle.mz_nano.specs.declared.seat.NanoSeat.{NanoSeat}
use Rattle.mz_nano.specs.declared.view.Geometry.{Geometry}
use Rattle.mz_nano.specs.declared.view.Held.{Held}
use Rattle.mz_nano.specs.CallEffects.{hand_ok}
use Rattle.mz_nano.specs.Lists.{In}
use Rattle.mz_nano.specs.SeatLists.{SitsAt, hand_of, space_of, first_of}
use Rattle.mz_nano.specs.SlotViews.{SlotView, IsPlaced}
use Rattle.mz_zone.specs.declared.fault.NotLiveBlock.{NotLiveBlock}
use Rattle.mz_zone.specs.Blocks.{BlockView, of_lot, of_slot}
use Rattle.mz_zone.specs.Calling.{AtView, Seated, CanCall, IsHandedIn, IsSeatedAt, HasSlot, Goes, seated, with_seat}
use Rattle.mz_zone.specs.Making.{CanNoteSlot, IsEnded, IsPutBack, ending, held_of}
use Rattle.mz_zone.specs.Freeing.{Frees}
use Rattle.mz_zone.specs.ZoneLaws.{ZoneLaws}
use Rattle.mz_zone.proofs.Going.{goes_nowhere, adds_apart, seated_stays}
use Rattle.mz_zone.proofs.SlotArithmetic.{slot_page}
use Rattle.mz_zone.proofs.Serving.{after, rack_goes, rack_counts, same_counts as counts_stay}
use Rattle.mz_zone.proofs.Taking.{same_counts}

-- a block that is made of a lot, or of a slot
pub of_its_lot : (i : Inner) (l : LotView) (b : BlockView) → i ≡ inner.Lot l → view_of i ≡ b → b ≡ of_lot l
of_its_lot i l b e h = sym h ∙ ap view_of e

pub of_its_slot : (i : Inner) (x : SlotView) (b : BlockView) → i ≡ inner.Slot x → view_of i ≡ b → b ≡ of_slot x
of_its_slot i x b e h = sym h ∙ ap view_of e

-- the rack may be handed the lot
pub can_hand : (v : AtView) (p q : Profile) (y z : ℕ) → CanCall v p z 3 → q ≡ p → y ≡ z → CanServe v.book q y 3
can_hand v p q y z can of_profile of_zone = record {
  profile = can.serve.profile ∙ sym of_profile;
  zone_open = subst (λ i. IsTrue (is_open (state_of v.book) i)) (sym of_zone) can.serve.zone_open;
  nothing_held = can.serve.nothing_held;
  room = let r : 3 ≤ v.book.spare = can.serve.room in omega arith;
}

pub freeable : (v : AtView) (l : LotView) → IsHandedIn v (of_lot l) → IsFreeable v.book l
freeable v l h = record { in_hand = h.in_hand; space = h.space }

-- a lot that the rack hands back is a block that the zone does
abbrev pub back : NotLive → NotLiveBlock
back e = record { block = of_lot e.lot; ticket = e.ticket }

abbrev pub as_freed : Result (Unit {0}) NotLive → Result (Unit {0}) NotLiveBlock
as_freed (Ok u) = Ok u
as_freed (Err e) = Err (back e)

module _ (laws : ZoneLaws) (v : AtView) (t : Account) (z : ℕ) (l : LotView) (held : HoldsNothing v.book) (seat : IsSeatedAt v.book v.nano) where
  grown : (got : Result (Unit {0}) NotLive) (a : Racked v.book z l got t) → Goes v a.mine (after v t)
  grown got a = rack_goes v v t [] a.mine a.holds (goes_nowhere laws v held seat) a.grows a.nothing_held

  pub by_rack : (got : Result (Unit {0}) NotLive) → Racked v.book z l got t → Frees v z (of_lot l) (as_freed got) (after v t)
  by_rack (Ok u) a = record {
    mine = a.mine;
    few = a.few;
    goes = grown (Ok u) a;
    freed = a.freed;
    hand = refl;
    counts = rack_counts v t a.mine a.holds a.grows;
  }
  by_rack (Err e) a = record {
    mine = a.mine;
    few = a.few;
    goes = grown (Err e) a;
    freed = (a.freed.0, a.freed.1, a.freed.2, ap of_lot a.freed.3);
    hand = refl;
    counts = rack_counts v t a.mine a.holds a.grows;
  }

-- the end of a block of nano leaves no duty
touches_page : (p : Profile) (a n : ℕ) → touches p (End place.Nano a n) (nano_page (page_of a)) ≡ true
touches_page p a n = ap (λ b. b || false) (eq-eqb (page_of a) (page_of a) refl)

pub no_duty : (laws : ZoneLaws) (p : Profile) (h : List Entry) (k c a n : ℕ) → duty_left p h (entry_at k c (End place.Nano a n)) ≡ None
no_duty laws p h k c a n =
    ap (λ v. first_some (v.duty ∷ [])) (laws.leaves p (state_before p h k) c (End place.Nano a n) (nano_page (page_of a)) (touches_page p a n))

-- a block of nano is ended, and its slot put back
pub by_nano_end :
    (laws : ZoneLaws) (s t : Account) (nano : Nano) (a b : NanoSeat) (x : SlotView) → IsPlaced x → IsEnded s x t → IsPutBack nano a x b
    → Frees (with_seat s nano a) 0 (of_slot x) (Ok tt) (with_seat t nano b)
by_nano_end laws s t nano a b x placed e put = record {
  mine = entry_at e.ticket s.caller (ending x) ∷ [];
  few = lit≤ tt;
  goes = record { adds = e.notes.adds; nothing_held = e.notes.nothing_held; nano = (refl, put.same.sits, put.same.number) };
  freed = (refl, (place.Nano, ap (λ k. End place.Nano x.span.first k) (sym placed.size), no_duty laws s.profile t.seen e.ticket s.caller x.span.first (16 * x.class)));
  hand = put.hand;
  counts = same_counts put.same.tries put.same.misses put.same.missed put.same.popped e.notes.founds e.notes.found e.settled;
}

-- what is in a seat's hand is one of its nano's blocks
in_bounds : (n : ℕ) (h : Held) (hs : List Held) → In h hs → hand_ok n hs ≡ true → h.block < n
in_bounds n h [] i e = absurd i
in_bounds n h (k ∷ ks) (inl q) e =
    let t = and_parts (nat_lt k.block n && nat_lt k.slot 1024) (hand_ok n ks) e in
    let u = and_parts (nat_lt k.block n) (nat_lt k.slot 1024) t.0 in
    let l : k.block < n = grind (arith, nat_tests, u.0) in
    subst (λ b. b < n) (sym (ap (λ (x : Held). x.block) q)) l
in_bounds n h (k ∷ ks) (inr i) e = in_bounds n h ks i (and_parts (nat_lt k.block n && nat_lt k.slot 1024) (hand_ok n ks) e).1

-- a block of nano is handed in, where nano is there
module _ (s : Account) (nano : Nano) (a : NanoSeat) (p : Profile) (z : ℕ) (x : SlotView) (can : CanCall (with_seat s nano a) p z 3) (placed : IsPlaced x) (handed : IsHandedIn (with_seat s nano a) (of_slot x)) (zero : IsTrue (is_open (state_of s) 0)) where
  below : x.block < s.profile.nano
  below =
      let key : a.seat.me.0.geometry ≡ nano.table.shared.key = can.nano.seat.0.1 in
      subst (λ n. x.block < n) (ap (λ (k : Geometry). k.blocks) key ∙ can.nano.blocks)
      (in_bounds a.seat.me.0.geometry.blocks (held_of x) (hand_of a) handed.slot.1 a.at_rest.hand)

  pub can_note_handed : CanNoteSlot s x
  can_note_handed = record {
    nothing_held = can.serve.nothing_held;
    zone_open = zero;
    room = let r : 3 ≤ s.spare = can.serve.room in omega arith;
    placed = placed;
    base = handed.slot.0 ∙ can.nano.first;
    below = below;
  }

  pub handed_in_hand : IsTrue (has_block (hand s) (block_at x.span.first (16 * x.class)))
  handed_in_hand = subst (λ n. has_block (hand s) (block_at x.span.first n) ≡ true) placed.size handed.in_hand

-- the same, where nano stands behind references
module _ (s : Account) (refs : Option (Bor Nano × MutBor NanoSeat)) (both : Bor Nano × MutBor NanoSeat) (is : refs ≡ Some both) (p : Profile) (z : ℕ) (x : SlotView) (can : CanCall (record { book = s; nano = seated refs }) p z 3) (placed : IsPlaced x) (handed : IsHandedIn (record { book = s; nano = seated refs }) (of_slot x)) (zero : IsTrue (is_open (state_of s) 0)) where
  can_there : CanCall (with_seat s both.0.now both.1.now) p z 3
  can_there = subst (λ r. CanCall (record { book = s; nano = seated r }) p z 3) is can

  handed_there : IsHandedIn (with_seat s both.0.now both.1.now) (of_slot x)
  handed_there = subst (λ r. IsHandedIn (record { book = s; nano = seated r }) (of_slot x)) is handed

  pub may_end : CanNoteSlot s x
  may_end = can_note_handed s both.0.now both.1.now p z x can_there placed handed_there zero

  pub may_end_hand : IsTrue (has_block (hand s) (block_at x.span.first (16 * x.class)))
  may_end_hand = handed_in_hand s both.0.now both.1.now p z x can_there placed handed_there zero

  pub may_put_back : SitsAt both.0.now both.1.now × In (held_of x) (hand_of both.1.now) × ((x.span.space ≡ space_of both.0.now) × (x.base ≡ first_of both.0.now))
  may_put_back = (can_there.nano.seat, handed_there.slot.1, (handed_there.space ∙ sym can_there.nano.space, handed_there.slot.0))

  pub slot_freed :
      (laws : ZoneLaws) (t : Account) (b : NanoSeat) → z ≡ 0 → IsEnded s x t → IsPutBack both.0.now both.1.now x b
      → Frees (record { book = s; nano = seated refs }) z (of_slot x) (Ok tt) (with_seat t both.0.now b)
  slot_freed laws t b zero e put =
      subst (λ r. Frees (record { book = s; nano = seated r }) z (of_slot x) (Ok tt) (with_seat t both.0.now b)) (sym is)
      (subst (λ y. Frees (with_seat s both.0.now both.1.now) y (of_slot x) (Ok tt) (with_seat t both.0.now b)) (sym zero)
      (by_nano_end laws s t both.0.now both.1.now b x placed e put))

-- where its nano begins
pub base_of : (s : Account) (nano : Option Seated) (base : ℕ) (h : Held) → IsSeatedAt s nano → HasSlot nano base (Some h) → base ≡ nano_start s.profile * PAGE
base_of s None base h seat has = absurd has
base_of s (Some y) base h seat has = has.0 ∙ seat.first

page_above : (p : Profile) (b a : ℕ) → page_of a ≡ page_of_block p b → nano_start p ≤ page_of a
page_above p b a e = omega (arith, e)

-- a block of nano that another zone was handed is denied
module _ (laws : ZoneLaws) (v : AtView) (p : Profile) (z : ℕ) (x : SlotView) (can : CanCall v p z 3) (below : z < p.zones) (other : z ≢ 0) (placed : IsPlaced x) (handed : IsHandedIn v (of_slot x)) (zero : IsTrue (is_open (state_of v.book) 0)) where
  abbrev denial : Event
  denial = No place.Nano z x.span.first (16 * x.class)

  first_is : x.span.first ≡ nano_start v.book.profile * PAGE + x.block * 16384 + 16 * x.class * x.slot
  first_is = placed.first ∙ ap (λ b. b + x.block * 16384 + 16 * x.class * x.slot) (base_of v.book v.nano x.base (held_of x) can.nano handed.slot)

  pub can_deny : CanNote v.book denial
  can_deny = record {
    room = let r : 3 ≤ v.book.spare = can.serve.room in omega arith;
    between = λ h. absurd (false≢true h);
    in_hand = subst (λ n. has_block (hand v.book) (block_at x.span.first n) ≡ true) placed.size handed.in_hand;
    by_held = λ h. absurd (false≢true (sym h));
    at_nano = λ _. record {
      page = page_above v.book.profile x.block x.span.first (slot_page v.book.profile x.block x.slot x.class x.span.first placed.class_.0 placed.slot first_is);
      zone = subst (λ (q : Profile). z < q.zones) (sym can.serve.profile) below;
      zone_open = can.serve.zone_open;
      of_another = other;
      nano_open = zero;
    };
  }

  pub slot_denied : (t : Account) (n : ℕ) → Notes v.book denial n t → Frees v z (of_slot x) (Err (record { block = of_slot x; ticket = n })) (after v t)
  slot_denied t n notes =
      let g = (laws.noted v.book t denial n can_deny refl notes).grows.adds in
      record {
        mine = entry_at n v.book.caller denial ∷ [];
        few = lit≤ tt;
        goes = record {
          adds = adds_apart v.book t (entry_at n v.book.caller denial ∷ []) 0 g;
          nothing_held = record {
            keepers = ap (λ a. a.held) notes.after ∙ can.serve.nothing_held.keepers;
            lights = ap (λ a. a.lights) notes.after ∙ can.serve.nothing_held.lights;
          };
          nano = seated_stays v.book v.nano can.nano;
        };
        freed = (λ e. other (sym e), (entry_at n v.book.caller denial, place.Nano, refl, ap (λ k. No place.Nano z x.span.first k) (sym placed.size)), refl, refl);
        hand = refl;
        counts = counts_stay v.book t v.nano g.same.settled g.same.founds g.same.found;
      }

-- room for many is room for fewer
pub can_fewer : (v : AtView) (p : Profile) (z m n : ℕ) → n ≤ m → CanCall v p z m → CanCall v p z n
can_fewer v p z m n l can = record {
  serve = record {
    profile = can.serve.profile;
    zone_open = can.serve.zone_open;
    nothing_held = can.serve.nothing_held;
    room = let r : m ≤ v.book.spare = can.serve.room in omega arith;
  };
  nano = can.nano;
}
