-- How a request is answered, by nano or by the rack.
use Rattle.std.proofs.Common.{◌≡◌, ℕ, ◌-◌, ◌*◌, ◌<◌, ◌≤◌, Bool, true, false, List, [], ◌∷◌, Option, None, Some, refl, ap, sym, subst, ◌∙◌, arith, mul_comm, lit≤, length}
use Rattle.std.specs.Prelude.{Result, Ok, Err, nat_le, ◌&&◌, ◌==◌, not, IsTrue}
use Rattle.std.specs.List.{list_any, list_all}
use Rattle.std.proofs.lemmas.Bool.{and_parts, false≢true}
use Rattle.std.proofs.lemmas.Bool.Decides.{nat_tests}
use Rattle.mz_base.specs.declared.profile.Profile.{Profile}
use Rattle.mz_base.specs.Space.{Block, block_at}
use Rattle.mz_base.specs.Sizes.{unit_of, units_of, good_size_of}
use Rattle.mz_events.specs.declared.event.Event.{Event}
use Rattle.mz_events.specs.declared.event.Event.TheVariants.{New}
use Rattle.mz_events.specs.declared.place.Place.TheVariants.{Nano}
use Rattle.mz_events.specs.Places.{is_nano}
use Rattle.mz_events.specs.declared.entry.Entry.{Entry}
use Rattle.mz_record.specs.Served.{Serves, by_nano, events, is_dry}
use Rattle.mz_events.specs.State.{is_open}
use Rattle.mz_book.specs.Account.{Account, HoldsNothing, state_of}
use Rattle.mz_book.specs.Calls.{is_at_nano}
use Rattle.mz_book.specs.Growth.{Grows}
use Rattle.mz_rack.specs.declared.lot.Null.{Null}
use Rattle.mz_rack.specs.Lots.{LotView}
use Rattle.mz_rack.specs.Serving.{Answers as Racked, CanServe}
use Rattle.mz_rack.specs.Ways.{request_of}
use Rattle.mz_nano.specs.SlotViews.{SlotView, IsPlaced}
use Rattle.mz_zone.specs.Blocks.{BlockView, of_lot, of_slot}
use Rattle.mz_zone.specs.Calling.{AtView, Seated, CanCall, IsSeatedAt, Goes, hand_at}
use Rattle.mz_zone.specs.Counts.{Tries, TriesIf, has_nano, is_for_nano, counts_of, counts_in}
use Rattle.mz_zone.specs.Making.{Takes, TakesFor, TakesIf, held_of}
use Rattle.mz_zone.specs.Answering.{Answers, makes_slot}
use Rattle.mz_zone.specs.ZoneLaws.{ZoneLaws}
use Rattle.mz_zone.proofs.Trying.{route_small}
use Rattle.mz_zone.proofs.Going.{goes_on, adds_apart, goes_nowhere, seat_stays}

-- a request of at most 256 bytes has 16 for each unit
pub nano_size : (n : ℕ) → n ≤ 256 → good_size_of n ≡ 16 * units_of n
nano_size n h = ap (λ r. units_of n * unit_of r) (route_small n h) ∙ mul_comm (units_of n) 16

-- what is asked of a request for nano
pub record IsForNano (v : AtView) (z n al : ℕ) : Type 0 where
  pub seated : has_nano v.nano ≡ true
  pub zone : z ≡ 0
  pub small : n ≤ 256
  pub align : al ≡ 16

pub for_nano : (v : AtView) (z n al : ℕ) → is_for_nano v z n al ≡ true → IsForNano v z n al
for_nano v z n al h =
    let a = and_parts (has_nano v.nano && (z == 0) && nat_le n 256) (al == 16) h in
    let b = and_parts (has_nano v.nano && (z == 0)) (nat_le n 256) a.0 in
    let d = and_parts (has_nano v.nano) (z == 0) b.0 in
    record { seated = d.0; zone = grind (arith, nat_tests, d.1); small = grind (arith, nat_tests, b.1); align = grind (arith, nat_tests, a.1) }

some_pages : (s : Account) (nano : Option Seated) → IsSeatedAt s nano → has_nano nano ≡ true → 0 < s.profile.nano
some_pages s None seat h = absurd (false≢true h)
some_pages s (Some x) seat h = let e = x.nano.geometry.0 in let f = x.nano.few.0 in let b = seat.blocks in omega arith

module _ (laws : ZoneLaws) (v w : AtView) (p : Profile) (z n al : ℕ) (can : CanCall v p z 1) where
  slot_served : (x : SlotView) → is_for_nano v z n al ≡ true → Takes v (units_of n) (Some x) w → Answers v z n al (Ok (of_slot x)) w
  slot_served x flag t =
      let f = for_nano v z n al flag in
      let m = t.makes in
      let size : 16 * x.class ≡ good_size_of n = ap (λ c. 16 * c) t.slot.0 ∙ sym (nano_size n f.small) in
      let made : events t.mine ≡ New Nano x.span.first (good_size_of n) 16 ∷ [] =
      ap events m.1 ∙ ap (λ k. New Nano x.span.first k 16 ∷ []) size in
      record {
        mine = t.mine;
        few = subst (λ (es : List Entry). length es ≤ 36) (sym m.1) (lit≤ tt);
        goes = t.goes;
        serves = record {
          served = by_nano x.span.first f.zone (some_pages v.book v.nano can.nano f.seated) f.small f.align made
              (ap (λ k. Some (block_at x.span.first k)) (t.slot.2.size ∙ size));
          undisturbed = laws.calm v.book.profile w.book.seen v.book.caller t.mine (ap (λ es. list_all (λ e. not (is_dry e.event)) es) m.1);
        };
        answer = (sym f.zone, t.slot.1 ∙ t.goes.adds.same.site, sym (ap (λ es. list_any (λ e. makes_slot e.event) es) m.1));
        slot = t.slot.3;
        hand = t.hand;
        tries = subst (λ b. TriesIf b (units_of n) (counts_of v) (Some (held_of x)) (counts_of w)) (sym flag) t.tried;
      }

  by_flag : (x : SlotView) (flag : Bool) → is_for_nano v z n al ≡ flag → TakesIf flag v (units_of n) (Some x) w → Answers v z n al (Ok (of_slot x)) w
  by_flag x true e t = slot_served x e t
  by_flag x false e t = absurd (some_none t.0)
    where
      some_none : Some x ≡ None → ⊥
      some_none q = cc

  -- nano served the request
  pub by_slot : (x : SlotView) → TakesFor v z n al (Some x) w → Answers v z n al (Ok (of_slot x)) w
  by_slot x h = by_flag x (is_for_nano v z n al) refl h

  placed_flag : (x : SlotView) (flag : Bool) → TakesIf flag v (units_of n) (Some x) w → IsPlaced x
  placed_flag x true t = t.slot.2
  placed_flag x false t = absurd (some_none t.0)
    where
      some_none : Some x ≡ None → ⊥
      some_none q = cc

  pub slot_placed : (x : SlotView) → TakesFor v z n al (Some x) w → IsPlaced x
  slot_placed x h = placed_flag x (is_for_nano v z n al) h

  -- nano didn't, and all is as before, but for what was counted
  pub record IsPassed : Type 0 where
    pub goes : Goes v [] w
    pub hand : hand_at w ≡ hand_at v
    pub tries : Tries v z n al None w

  passed_flag : (flag : Bool) → is_for_nano v z n al ≡ flag → TakesIf flag v (units_of n) None w → IsPassed
  passed_flag true e t = record {
    goes = subst (λ es. Goes v es w) t.makes t.goes;
    hand = t.hand;
    tries = subst (λ b. TriesIf b (units_of n) (counts_of v) None (counts_of w)) (sym e) t.tried;
  }
  passed_flag false e t = record {
    goes = subst (λ u. Goes v [] u) (sym t.1) (goes_nowhere laws v can.serve.nothing_held can.nano);
    hand = ap hand_at t.1;
    tries = subst (λ b. TriesIf b (units_of n) (counts_of v) None (counts_of w)) (sym e) (refl, ap counts_of t.1);
  }

  pub passed : TakesFor v z n al None w → IsPassed
  passed h = passed_flag (is_for_nano v z n al) refl h

-- the rack may be asked then
pub can_serve :
    (v u : AtView) (p q : Profile) (y z : ℕ) → CanCall v p z 40 → Goes v [] u → q ≡ p → y ≡ z → CanServe u.book q y 36
can_serve v u p q y z can goes of_profile of_zone = record {
  profile = goes.adds.same.profile ∙ (can.serve.profile ∙ sym of_profile);
  zone_open = subst (λ i. IsTrue (is_open (state_of u.book) i)) (sym of_zone) (goes.adds.zones z ∙ can.serve.zone_open);
  nothing_held = goes.nothing_held;
  room = let e : u.book.spare ≡ v.book.spare - 0 = goes.adds.spare in let r : 40 ≤ v.book.spare = can.serve.room in omega arith;
}

-- a call for which there is room may be made
pub can_try : (v : AtView) (p : Profile) (z : ℕ) → CanCall v p z 40 → CanCall v v.book.profile z 1
can_try v p z can = record {
  serve = record {
    profile = refl;
    zone_open = can.serve.zone_open;
    nothing_held = can.serve.nothing_held;
    room = let r : 40 ≤ v.book.spare = can.serve.room in omega arith;
  };
  nano = can.nano;
}

-- a lot of the rack is a block of the zone
abbrev pub as_block : Result LotView Null → Result BlockView Null
as_block (Ok l) = Ok (of_lot l)
as_block (Err e) = Err e

not_true : (b : Bool) → not b ≡ true → b ≡ false
not_true true h = absurd (false≢true h)
not_true false h = refl

-- an event that isn't at nano makes no block there
outside : (e : Event) → not (is_at_nano e) ≡ true → makes_slot e ≡ false
outside (New k a n al) h = not_true (is_nano k) h
outside _ h = refl

all_outside : (es : List Entry) → list_all (λ e. not (is_at_nano e.event)) es ≡ true → list_any (λ e. makes_slot e.event) es ≡ false
all_outside [] h = refl
all_outside (e ∷ es) h =
    let a = and_parts (not (is_at_nano e.event)) (list_all (λ x. not (is_at_nano x.event)) es) h in
    rw (outside e.event a.0) (all_outside es a.1)

pub same_counts : (s t : Account) (nano : Option Seated) → t.settled ≡ s.settled → t.founds ≡ s.founds → t.found ≡ s.found → counts_in t nano ≡ counts_in s nano
same_counts s t None a b d = cc
same_counts s t (Some x) a b d = cc

-- after a call of the rack the seat is as it was
abbrev pub after : AtView → Account → AtView
after u t = record { book = t; nano = u.nano }

pub rack_goes : (v u : AtView) (t : Account) (xs mine : List Entry) (k : ℕ) → Goes v xs u → Grows u.book mine k t → HoldsNothing t → Goes u mine (after u t)
rack_goes v u t xs mine k goes grows held = record {
  adds = adds_apart u.book t mine k grows.adds;
  nothing_held = held;
  nano = seat_stays v.nano u.nano goes.nano;
}

pub rack_counts : (u : AtView) (t : Account) (mine : List Entry) (k : ℕ) → Grows u.book mine k t → counts_of (after u t) ≡ counts_of u
rack_counts u t mine k grows = same_counts u.book t u.nano grows.adds.same.settled grows.adds.same.founds grows.adds.same.found

-- the rack serves the request, after nano was tried
module _ (laws : ZoneLaws) (v u : AtView) (t : Account) (z n al : ℕ) (goes : Goes v [] u) (hand : hand_at u ≡ hand_at v) (tries : Tries v z n al None u) where
  moved : (mine : List Entry) (got : Option Block) → Serves u.book.profile t.seen (request_of u.book.caller z n al) mine got → Serves v.book.profile t.seen (request_of v.book.caller z n al) mine got
  moved mine got h =
      subst (λ p. Serves p t.seen (request_of v.book.caller z n al) mine got) goes.adds.same.profile
      (subst (λ c. Serves u.book.profile t.seen (request_of c z n al) mine got) goes.adds.same.caller h)

  pub by_lot : (got : Result LotView Null) → Racked u.book z n al got t → Answers v z n al (as_block got) (after u t)
  by_lot (Ok l) a = record {
    mine = a.mine;
    few = a.few;
    goes = goes_on laws v u (after u t) [] a.mine goes (rack_goes v u t [] a.mine _ goes a.grows a.nothing_held);
    serves = moved a.mine _ a.serves;
    answer = (a.answer.0, a.answer.1 ∙ goes.adds.same.site, sym (all_outside a.mine a.outside_nano));
    slot = tt;
    hand = hand;
    tries = subst (λ y. TriesIf (is_for_nano v z n al) (units_of n) (counts_of v) None y) (sym (rack_counts u t a.mine _ a.grows)) tries;
  }
  by_lot (Err e) a = record {
    mine = a.mine;
    few = a.few;
    goes = goes_on laws v u (after u t) [] a.mine goes (rack_goes v u t [] a.mine _ goes a.grows a.nothing_held);
    serves = moved a.mine _ a.serves;
    answer = a.answer;
    slot = tt;
    hand = hand;
    tries = subst (λ y. TriesIf (is_for_nano v z n al) (units_of n) (counts_of v) None y) (sym (rack_counts u t a.mine _ a.grows)) tries;
  }
