-- What a try of nano leaves: a pop that missed, a slot that became a block, and one that couldn't and was pushed back.
use Rattle.std.proofs.Common.{◌≡◌, ◌⊎◌, ℕ, ◌+◌, ◌*◌, ◌<◌, ◌≤◌, Bool, true, false, List, [], ◌∷◌, Option, None, Some, refl, ap, sym, subst, ◌∙◌, arith, inl, inr}
use Rattle.std.specs.Prelude.{◌==◌, slice_set}
use Rattle.std.proofs.lemmas.Bool.{and_parts, eqb-true}
use Rattle.std.proofs.lemmas.Bool.Decides.{nat_tests}
use Rattle.mz_book.specs.declared.light.Asked.{Asked}
use Rattle.mz_book.specs.declared.light.Asked.TheVariants.{Settle}
use Rattle.mz_book.specs.Account.{Account, HoldsNothing, entry_at}
use Rattle.mz_book.specs.Growth.{Adds}
use Rattle.mz_nano.specs.declared.nano.Nano.{Nano}
use Rattle.mz_nano.specs.declared.seat.NanoSeat.{NanoSeat}
use Rattle.mz_nano.specs.declared.seat.Miss.{Miss}
use Rattle.mz_nano.specs.declared.seat.Miss.TheVariants.{Exhausted, Contended}
use Rattle.mz_nano.specs.declared.view.Geometry.{Geometry}
use Rattle.mz_nano.specs.declared.view.Held.{Held}
use Rattle.mz_nano.specs.CallEffects.{Popped, MissOf, risen}
use Rattle.mz_nano.specs.Lists.{In, without, is_at}
use Rattle.mz_nano.specs.Rule.{held, slots}
use Rattle.mz_nano.specs.SeatLists.{SitsAt, hand_of, space_of, first_of}
use Rattle.mz_nano.specs.SlotViews.{SlotView, IsPlaced}
use Rattle.mz_zone.specs.Calling.{CanCall, apart_from_nano, with_seat}
use Rattle.mz_zone.specs.Counts.{Counts, by_pop, by_miss, by_class, by_word}
use Rattle.mz_zone.specs.Making.{CanNoteSlot, CanBeOfClass, IsMade, IsOfAnotherClass, IsNotIdle, IsPutBack, Takes, held_of, making}
use Rattle.mz_zone.specs.ZoneLaws.{ZoneLaws}
use Rattle.mz_zone.proofs.Going.{adds_apart}

-- counts that are the same one by one
pub same_counts :
    {a a' b b' c c' : ℕ} {d d' : Option Held} {e e' : ℕ} {f f' : Option Asked} {h h' : List ℕ}
    → a ≡ a' → b ≡ b' → c ≡ c' → d ≡ d' → e ≡ e' → f ≡ f' → h ≡ h'
    → ◌≡◌ {A = Counts} (record { tries = a; misses = b; missed = c; popped = d; founds = e; found = f; settled = h })
    (record { tries = a'; misses = b'; missed = c'; popped = d'; founds = e'; found = f'; settled = h' })
same_counts p q r s t u v = cc

-- a slot that isn't in the hand leaves it as it is
absent : (b j : ℕ) (hs : List Held) → ((k : ℕ) → In (held b j k) hs → ⊥) → without b j hs ≡ hs
absent b j [] n = refl
absent b j (h ∷ hs) n = by_test (is_at b j h) refl (absent b j hs (λ k i. n k (inr i)))
  where
    at_it : is_at b j h ≡ true → held b j h.class ≡ h
    at_it e =
        let t = and_parts (h.block == b) (h.slot == j) e in
        ap (λ i. held i j h.class) (sym (eqb-true h.block b t.0)) ∙ ap (λ i. held h.block i h.class) (sym (eqb-true h.slot j t.1))

    by_test : (t : Bool) → is_at b j h ≡ t → without b j hs ≡ hs → without b j (h ∷ hs) ≡ h ∷ hs
    by_test true e rest = absurd (n h.class (inl (at_it e)))
    by_test false e rest = rw e (ap (λ (xs : List Held). h ∷ xs) rest)

back_again : (b j k : ℕ) (hs : List Held) → ((c : ℕ) → In (held b j c) hs → ⊥) → without b j (held b j k ∷ hs) ≡ hs
back_again b j k hs n = let t : is_at b j (held b j k) ≡ true = grind (arith, nat_tests) in rw t (absent b j hs n)

-- a pop that missed leaves the hand
hand_kept : (a b : NanoSeat) (c : ℕ) (m : Miss) → MissOf a.seat.me c m b.seat.me → hand_of b ≡ hand_of a
hand_kept a b c Exhausted h = h.hand
hand_kept a b c (Contended k x n) h = h.hand

-- where nothing is noted
nowhere : (laws : ZoneLaws) (s : Account) → Adds (apart_from_nano s) [] 0 (apart_from_nano s)
nowhere laws s = adds_apart s s [] 0 (laws.nothing s).grows.adds

-- a pop gave the slot x
pub record HasPopped (nano : Nano) (a : NanoSeat) (c : ℕ) (x : SlotView) (b : NanoSeat) : Type 0 where
  pub sits : SitsAt nano b
  pub number : b.number ≡ a.number
  pub tries : b.tries ≡ risen a.tries
  pub misses : b.misses ≡ a.misses
  pub missed : b.missed ≡ a.missed
  pub popped : b.popped ≡ Some (held x.block x.slot c)
  pub gave : Popped a.seat.me x.block x.slot c x.span b.seat.me
  pub class_ : x.class ≡ c
  pub space : x.span.space ≡ space_of nano
  pub base : x.base ≡ first_of nano

module _ (laws : ZoneLaws) (s : Account) (nano : Nano) (a : NanoSeat) (c : ℕ) (can : CanCall (with_seat s nano a) s.profile 0 1) (some : 1 ≤ c) (most : c ≤ 16) where
  module _ (x : SlotView) (b : NanoSeat) (pop : HasPopped nano a c x b) where
    key : a.seat.me.0.geometry ≡ nano.table.shared.key
    key = can.nano.seat.0.1

    held_is : held_of x ≡ held x.block x.slot c
    held_is = ap (held x.block x.slot) pop.class_

    placed : IsPlaced x
    placed = record {
      class_ = (subst (λ k. 1 ≤ k) (sym pop.class_) some, subst (λ k. k ≤ 16) (sym pop.class_) most);
      slot = subst (λ k. x.slot < slots k) (sym pop.class_) pop.gave.inside;
      first =
          pop.gave.piece.first
          ∙ (ap (λ f. f + x.block * 16384 + 16 * c * x.slot) (ap (λ (k : Geometry). k.edge.first) key ∙ sym pop.base)
          ∙ ap (λ k. x.base + x.block * 16384 + 16 * k * x.slot) (sym pop.class_));
      size = pop.gave.piece.len ∙ ap (λ k. 16 * k) (sym pop.class_);
    }

    pub can_note_slot : CanNoteSlot s x
    can_note_slot = record {
      nothing_held = can.serve.nothing_held;
      zone_open = can.serve.zone_open;
      room = can.serve.room;
      placed = placed;
      base = pop.base ∙ can.nano.first;
      below = subst (λ n. x.block < n) (ap (λ (k : Geometry). k.blocks) key ∙ can.nano.blocks) pop.gave.block;
    }

    hand_then : hand_of b ≡ held_of x ∷ hand_of a
    hand_then = pop.gave.hand ∙ ap (λ h. h ∷ hand_of a) (sym held_is)

    pub can_put_back : In (held_of x) (hand_of b)
    can_put_back = subst (λ hs. In (held_of x) hs) (sym hand_then) (inl refl)

    pub taken : (t : Account) → IsMade s x t → Takes (with_seat s nano a) c (Some x) (with_seat t nano b)
    taken t m = record {
      mine = entry_at m.ticket s.caller (making x) ∷ [];
      goes = record { adds = m.notes.adds; nothing_held = m.notes.nothing_held; nano = (refl, pop.sits, pop.number) };
      makes = (m.ticket, refl);
      slot = (pop.class_, pop.space ∙ (can.nano.space ∙ sym m.notes.adds.same.site), placed, (pop.base, can_put_back));
      hand = hand_then;
      tried = by_pop x.block x.slot (ap (λ h. Some h) held_is) (subst (λ k. CanBeOfClass s x.block k) pop.class_ m.class_)
          (same_counts pop.tries pop.misses pop.missed pop.popped m.notes.founds m.notes.found (m.settled ∙ ap (slice_set s.settled x.block) pop.class_));
    }

    hand_back : (d : NanoSeat) → IsPutBack nano b x d → hand_of d ≡ hand_of a
    hand_back d put =
        put.hand ∙ (ap (without x.block x.slot) hand_then ∙ back_again x.block x.slot x.class (hand_of a) pop.gave.fresh)

    -- the slot couldn't be a block, and was pushed back
    other_class : (t : Account) (d : NanoSeat) → IsOfAnotherClass s x t → IsPutBack nano b x d → Takes (with_seat s nano a) c None (with_seat t nano d)
    other_class t d o put = record {
      mine = [];
      goes = record {
        adds = subst (λ u. Adds (apart_from_nano s) [] 0 (apart_from_nano u)) (sym o.after) (nowhere laws s);
        nothing_held = subst HoldsNothing (sym o.after) (record { keepers = can.serve.nothing_held.keepers; lights = can.serve.nothing_held.lights });
        nano = (refl, put.same.sits, put.same.number ∙ pop.number);
      };
      makes = refl;
      slot = tt;
      hand = hand_back d put;
      tried = by_class x.block x.slot refl
          (same_counts (put.same.tries ∙ pop.tries) (put.same.misses ∙ pop.misses) (put.same.missed ∙ pop.missed) (put.same.popped ∙ pop.popped)
          (ap (λ u. u.founds) o.after) (ap (λ u. u.found) o.after ∙ ap (λ k. Some (Settle x.block k)) pop.class_) (ap (λ u. u.settled) o.after));
    }

    not_idle : (t : Account) (d : NanoSeat) → IsNotIdle s x t → IsPutBack nano b x d → Takes (with_seat s nano a) c None (with_seat t nano d)
    not_idle t d o put = record {
      mine = [];
      goes = record {
        adds = subst (λ u. Adds (apart_from_nano s) [] 0 (apart_from_nano u)) (sym o.after) (nowhere laws s);
        nothing_held = subst HoldsNothing (sym o.after) (record { keepers = can.serve.nothing_held.keepers; lights = can.serve.nothing_held.lights });
        nano = (refl, put.same.sits, put.same.number ∙ pop.number);
      };
      makes = refl;
      slot = tt;
      hand = hand_back d put;
      tried = by_word x.block x.slot refl (subst (λ k. CanBeOfClass s x.block k) pop.class_ o.class_)
          (same_counts (put.same.tries ∙ pop.tries) (put.same.misses ∙ pop.misses) (put.same.missed ∙ pop.missed) (put.same.popped ∙ pop.popped)
          (ap (λ u. u.founds) o.after) (ap (λ u. u.found) o.after)
          (ap (λ u. u.settled) o.after ∙ ap (slice_set s.settled x.block) pop.class_));
    }

    pub refused :
        (t : Account) (d : NanoSeat) → IsOfAnotherClass s x t ⊎ IsNotIdle s x t → IsPutBack nano b x d
        → Takes (with_seat s nano a) c None (with_seat t nano d)
    refused t d (inl o) put = other_class t d o put
    refused t d (inr o) put = not_idle t d o put

  pub missed_so :
      (b : NanoSeat) (m : Miss) → SitsAt nano b → b.number ≡ a.number → b.tries ≡ risen a.tries → b.misses ≡ risen a.misses → b.missed ≡ c
      → b.popped ≡ a.popped → MissOf a.seat.me c m b.seat.me → Takes (with_seat s nano a) c None (with_seat s nano b)
  missed_so b m sits number tries misses missed popped why = record {
    mine = [];
    goes = record { adds = nowhere laws s; nothing_held = can.serve.nothing_held; nano = (refl, sits, number) };
    makes = refl;
    slot = tt;
    hand = hand_kept a b c m why;
    tried = by_miss refl (same_counts tries misses missed popped refl refl refl);
  }
