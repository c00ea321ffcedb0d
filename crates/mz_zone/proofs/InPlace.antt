-- What becomes of a block that may stay where it is.
use Rattle.std.proofs.Common.{◌≡◌, ℕ, zero, suc, ◌+◌, ◌-◌, ◌*◌, ◌<◌, ◌≤◌, Bool, true, false, List, [], ◌++◌, Option, None, Some, length, take, drop, min, max, map, refl, ap, sym, subst, ◌∙◌, arith, inr, length-append}
use Rattle.std.specs.Prelude.{Result, Ok, Err, nat_le, ◌&&◌, ◌==◌, ◌≢◌, IsTrue}
use Rattle.std.proofs.lemmas.Bool.{false≢true, eqb-true, eq-eqb}
use Rattle.std.proofs.lemmas.Bool.Decides.{nat_tests}
use Rattle.std.proofs.lemmas.List.{take-append-drop}
use Rattle.mz_base.specs.declared.profile.Profile.{Profile}
use Rattle.mz_base.specs.declared.range.TheConstants.{PAGE}
use Rattle.mz_base.specs.Lists.{has_block}
use Rattle.mz_base.specs.Site.{Site}
use Rattle.mz_base.specs.Sizes.{units_of, good_size_of}
use Rattle.mz_base.specs.Space.{Block}
use Rattle.mz_events.specs.declared.entry.Entry.{Entry}
use Rattle.mz_events.specs.Places.{nano_start}
use Rattle.mz_record.specs.Bytes.{kept, kept_in_place, is_shown_as}
use Rattle.mz_record.specs.Resized.{IsResized, same_size, in_place, still_large, IsMoved, out_of_nano}
use Rattle.mz_book.specs.Account.{Account, HoldsNothing, hand, state_of}
use Rattle.mz_events.specs.State.{is_open}
use Rattle.mz_book.specs.Pairs.{hand_among}
use Rattle.mz_rack.specs.declared.lot.Null.{Null}
use Rattle.mz_rack.specs.Resizing.{resize_at}
use Rattle.mz_rack.specs.Lots.{LotView}
use Rattle.mz_rack.specs.Resizing.{Resizes as Racked}
use Rattle.mz_rack.specs.Serving.{CanServe}
use Rattle.mz_nano.specs.SlotViews.{SlotView, IsPlaced}
use Rattle.mz_zone.specs.declared.fault.ReallocFault.{ReallocFault}
use Rattle.mz_zone.specs.declared.fault.ReallocFault.TheVariants as fault
use Rattle.mz_zone.specs.Blocks.{BlockView, block_of, of_lot, of_slot}
use Rattle.mz_zone.specs.Calling.{AtView, Seated, CanCall, Goes, IsHandedIn, IsSeatedAt, StaysSeated}
use Rattle.mz_zone.specs.Counts.{TriesIf, has_nano, counts_of}
use Rattle.mz_zone.specs.Answering.{IsAnswer, block_got, slot_got}
use Rattle.mz_zone.specs.Moving.{Stays, MovesOn, Reallocs, hand_moved}
use Rattle.mz_zone.specs.Resizing.{IsStuck, StaysIf, MovesNow, MovesTo}
use Rattle.mz_zone.specs.ZoneLaws.{ZoneLaws}
use Rattle.mz_zone.proofs.Copied.{shown_kept}
use Rattle.mz_zone.proofs.Freed.{base_of}
use Rattle.mz_zone.proofs.Going.{goes_on, goes_nowhere}
use Rattle.mz_zone.proofs.Moved.{can_then, slot_stays}
use Rattle.mz_zone.proofs.Serving.{after, rack_goes, rack_counts, nano_size}

-- bytes that are as they were, as far as there were as many
shown_in_place :
    (laws : ZoneLaws) (bs ms : List ℕ) → let k = min (length bs) (length ms) in take k ms ≡ take k bs
    → is_shown_as (kept_in_place (length ms) (map (λ x. Some x) bs)) ms ≡ true
shown_in_place laws bs ms same =
    let k : ℕ = min (length ms) (length bs) in
    let swap : min (length bs) (length ms) ≡ k = omega arith in
    let front : take k ms ≡ take k bs = subst (λ i. take i ms ≡ take i bs) swap same in
    let whole : take k bs ++ drop k ms ≡ ms = ap (λ xs. xs ++ drop k ms) (sym front) ∙ take-append-drop k ms in
    subst (λ ws. is_shown_as (kept (length ms) (length ws) (map (λ x. Some x) bs)) ws ≡ true) whole (shown_kept laws (length ms) bs (drop k ms))

-- a block that stays begins where it began
first_stays : (p : Profile) (b d : Block) (n : ℕ) (es : List Entry) → IsResized p b n es (Some d) → d.first ≡ b.first
first_stays p b d n es (same_size some e none got) = let same : d ≡ b = cc in ap (λ x. x.first) same
first_stays p b d n es (in_place k one other ev got) = ap (λ o. elim o [ None ↦ 0 | Some x ↦ x.first ]) got
first_stays p b d n es (still_large r s stay none got) = let same : d ≡ b = cc in ap (λ x. x.first) same

same_view :
    {z z' : ℕ} {x x' : Site} {f f' : ℕ} (bs : List ℕ) → z ≡ z' → x ≡ x' → f ≡ f'
    → of_lot (record { zone = z; span = record { space = x; first = f; bytes = bs } }) ≡ of_lot (record { zone = z'; span = record { space = x'; first = f'; bytes = bs } })
same_view bs p q r = cc

-- what the rack says of a lot
module _ (laws : ZoneLaws) (v : AtView) (t : Account) (l m : LotView) (n : ℕ) (held : HoldsNothing v.book) (seat : IsSeatedAt v.book v.nano) where
  grown : (got : Bool) (a : Racked v.book l n got t m) → Goes v a.mine (after v t)
  grown got a = rack_goes v v t [] a.mine a.holds (goes_nowhere laws v held seat) a.grows a.nothing_held

  pub lot_resized : (got : Bool) → Racked v.book l n got t m → StaysIf v (of_lot l) n got (of_lot m) (after v t)
  lot_resized true a = record {
    mine = a.mine;
    goes = grown true a;
    resized = subst (λ (p : Profile). IsResized p (block_of (of_lot l)) n a.mine (Some (block_of (of_lot m)))) a.grows.adds.same.profile a.in_place.0;
    place = same_view m.span.bytes a.in_place.1.zone a.in_place.1.space (first_stays t.profile (block_of (of_lot l)) (block_of (of_lot m)) n a.mine a.in_place.0);
    bytes = shown_in_place laws l.span.bytes m.span.bytes a.in_place.1.bytes;
    hand = refl;
    counts = rack_counts v t a.mine a.holds a.grows;
  }
  lot_resized false a = record {
    goes = subst (λ es. Goes v es (after v t)) a.in_place.0 (grown false a);
    same = ap of_lot a.in_place.1;
    hand = refl;
    counts = rack_counts v t a.mine a.holds a.grows;
    moves = a.in_place.2;
  }

-- a block of nano
module _ (laws : ZoneLaws) (v : AtView) (p : Profile) (z k : ℕ) (x : SlotView) (n : ℕ) (can : CanCall v p z k) (handed : IsHandedIn v (of_slot x)) (placed : IsPlaced x) where
  slot_stays_so : 0 < n → n ≤ 256 → units_of n ≡ x.class → Stays v (of_slot x) n (of_slot x) v
  slot_stays_so some small e = record {
    mine = [];
    goes = goes_nowhere laws v can.serve.nothing_held can.nano;
    resized = same_size some (nano_size n small ∙ (ap (λ i. 16 * i) e ∙ sym placed.size)) refl refl;
    place = refl;
    bytes = shown_in_place laws x.span.bytes x.span.bytes refl;
    hand = refl;
    counts = refl;
  }

  slot_moves : good_size_of n ≢ 16 * x.class → IsStuck v (of_slot x) n (of_slot x) v
  slot_moves other = record {
    goes = goes_nowhere laws v can.serve.nothing_held can.nano;
    same = refl;
    hand = refl;
    counts = refl;
    moves = out_of_nano (λ e. other (e ∙ placed.size)) in_nano;
  }
    where
      in_nano : nat_le (nano_start v.book.profile * PAGE) x.span.first ≡ true
      in_nano =
          let base : x.base ≡ nano_start v.book.profile * PAGE = base_of v.book v.nano x.base _ can.nano handed.slot in
          let first : x.span.first ≡ x.base + x.block * 16384 + 16 * x.class * x.slot = placed.first in
          grind (arith, nat_tests, base, first)

  too_large : 256 < n → good_size_of n ≢ 16 * x.class
  too_large large e =
      let good : max n 1 ≤ good_size_of n = (laws.good_size n).holds in
      let most : x.class ≤ 16 = placed.class_.1 in
      omega (arith, e, large, good, most)

  of_another_class : n ≤ 256 → units_of n ≢ x.class → good_size_of n ≢ 16 * x.class
  of_another_class small other e = other (let s = nano_size n small in omega (arith, e, s))

  pub slot_kept : (r : Bool) → 1 ≤ n → n ≤ 256 → r ≡ (units_of n == x.class) → StaysIf v (of_slot x) n r (of_slot x) v
  slot_kept true some small e = slot_stays_so some small (eqb-true (units_of n) x.class (sym e))
  slot_kept false some small e = slot_moves (of_another_class small (λ q. false≢true (e ∙ eq-eqb (units_of n) x.class q)))

  pub slot_gone : (r : Bool) → 256 < n → r ≡ nat_le n 256 → StaysIf v (of_slot x) n r (of_slot x) v
  slot_gone true large e = let small : n ≤ 256 = grind (arith, nat_tests, sym e) in absurd (omega (arith, large, small))
  slot_gone false large e = slot_moves (too_large large)

pub some_of : (n : ℕ) → (n ≡ 0 → ⊥) → 1 ≤ n
some_of zero h = absurd (h refl)
some_of (suc n) h = omega arith

-- the rack may be asked
pub can_resize : (v : AtView) (p q : Profile) (y z : ℕ) → CanCall v p z 40 → q ≡ p → y ≡ z → CanServe v.book q y 1
can_resize v p q y z can of_profile of_zone = record {
  profile = can.serve.profile ∙ sym of_profile;
  zone_open = subst (λ i. IsTrue (is_open (state_of v.book) i)) (sym of_zone) can.serve.zone_open;
  nothing_held = can.serve.nothing_held;
  room = let r : 40 ≤ v.book.spare = can.serve.room in omega arith;
}

same_nano : (m k : Option Seated) → StaysSeated m k → has_nano k ≡ has_nano m
same_nano None None st = refl
same_nano None (Some y) st = absurd st
same_nano (Some x) None st = absurd st
same_nano (Some x) (Some y) st = refl

-- a block that has to move, where all is as it was
module _ (laws : ZoneLaws) (v u : AtView) (z n : ℕ) (b d : BlockView) (stuck : IsStuck v b n d u) where
  pub can_again : (p : Profile) → CanCall v p z 40 → CanCall u p z 40
  can_again p can = can_then v u p z 40 40 [] can stuck.goes (let e : u.book.spare ≡ v.book.spare - 0 = stuck.goes.adds.spare in let r : 40 ≤ v.book.spare = can.serve.room in omega arith)

  same_hand : hand u.book ≡ hand v.book
  same_hand = ap (λ c. hand_among c u.book.pairs) stuck.goes.adds.same.caller ∙ ap (hand_among v.book.caller) stuck.goes.adds.pairs

  pub handed_again : IsHandedIn v b → IsHandedIn u d
  handed_again h = subst (λ x. IsHandedIn u x) (sym stuck.same) (record {
    in_hand = subst (λ hs. has_block hs (block_of b) ≡ true) (sym same_hand) h.in_hand;
    space = h.space ∙ sym stuck.goes.adds.same.site;
    slot = slot_stays v.nano u.nano b.base b.slot None stuck.goes.nano stuck.hand h.slot;
  })

  pub moves_now : MovesNow u d n
  moves_now = subst (λ x. MovesNow u x n) (sym stuck.same) stuck.moves

  moves_after : (got : Result BlockView Null) (w : AtView) → MovesOn u z b n got w → MovesOn v z b n got w
  moves_after got w a =
      let seen : length u.book.seen ≡ length (v.book.seen ++ stuck.goes.adds.more) = ap length stuck.goes.adds.seen in
      let long : length (v.book.seen ++ stuck.goes.adds.more) ≡ length v.book.seen + length stuck.goes.adds.more = length-append v.book.seen stuck.goes.adds.more in
      let from : length u.book.seen ≤ a.t = a.before.all_seen in
      record {
        mine = a.mine;
        few = a.few;
        goes = goes_on laws v u w [] a.mine stuck.goes a.goes;
        t = a.t;
        before = record { all_seen = omega (arith, seen, long, from); none_noted = a.before.none_noted };
        moved =
            subst (λ c. IsMoved v.book.profile w.book.seen (record { caller = c; zone = z; block = block_of b; bytes = n; low = a.t; high = a.t }) a.mine (block_got got))
            stuck.goes.adds.same.caller
            (subst (λ (p : Profile). IsMoved p w.book.seen (resize_at u.book a.t z (block_of b) n) a.mine (block_got got)) stuck.goes.adds.same.profile a.moved);
        answer = subst (λ x. IsAnswer z x a.mine got) stuck.goes.adds.same.site a.answer;
        slot = a.slot;
        elsewhere = a.elsewhere;
        bytes = a.bytes;
        hand = a.hand ∙ ap (hand_moved b got) stuck.hand;
        tries =
            subst (λ x. TriesIf (has_nano v.nano && (z == 0) && nat_le n 256 && true) (units_of n) x (slot_got got) (counts_of w)) stuck.counts
            (subst (λ t. TriesIf (t && (z == 0) && nat_le n 256 && true) (units_of n) (counts_of u) (slot_got got) (counts_of w)) (same_nano v.nano u.nano stuck.goes.nano) a.tries);
      }

  -- and what its move leaves
  pub moved_again : (r : Result BlockView ReallocFault) (w : AtView) → b.zone ≡ z → MovesTo u z d n r w → Reallocs v z (Some b) n r w
  moved_again r w zone h = by_result r (subst (λ x. MovesTo u z x n r w) stuck.same h)
    where
      by_result : (s : Result BlockView ReallocFault) → MovesTo u z b n s w → Reallocs v z (Some b) n s w
      by_result (Ok c) a = (zone, inr (moves_after (Ok c) w a))
      by_result (Err (fault.NotLive e)) a = absurd a
      by_result (Err (fault.Null c e)) a = (zone, a.0, moves_after (Err e) w a.1)
