-- A block that came back can be handed in, and so can those that were there before a request.
use Rattle.std.proofs.Common.{◌≡◌, ℕ, true, List, [], ◌∷◌, ◌++◌, Option, None, Some, ap, sym, subst, ◌∙◌, arith, inl, inr, append-nil}
use Rattle.std.specs.Prelude.{Result, Ok, Err, IfSome, ◌⊎◌}
use Rattle.std.specs.List.{AllByRecursion}
use Rattle.std.proofs.lemmas.Option.{same_Some}
use Rattle.mz_base.specs.declared.profile.Profile.{Profile}
use Rattle.mz_base.specs.Space.{Block}
use Rattle.mz_base.specs.Lists.{has_block}
use Rattle.mz_events.specs.declared.entry.Entry.{Entry}
use Rattle.mz_events.specs.Hands.{own, hand_after, hand_through}
use Rattle.mz_record.specs.Dropped.{IsNotOfZone}
use Rattle.mz_record.specs.Resized.{IsMoved, moved, not_moved}
use Rattle.mz_rack.specs.Resizing.{resize_at}
use Rattle.mz_book.specs.Account.{hand}
use Rattle.mz_nano.specs.declared.view.Held.{Held}
use Rattle.mz_nano.specs.SeatLists.{first_of}
use Rattle.mz_nano.specs.Lists.{In}
use Rattle.mz_rack.specs.declared.lot.Null.{Null}
use Rattle.mz_zone.specs.declared.fault.NotLiveBlock.{NotLiveBlock}
use Rattle.mz_zone.specs.declared.fault.ReallocFault.{ReallocFault}
use Rattle.mz_zone.specs.declared.fault.ReallocFault.TheVariants as fault
use Rattle.mz_zone.specs.declared.fault.SizeFault.{SizeFault}
use Rattle.mz_zone.specs.declared.fault.SizeFault.TheVariants as size
use Rattle.mz_zone.specs.Blocks.{BlockView, block_of}
use Rattle.mz_zone.specs.Batches.{AreHandedIn}
use Rattle.mz_zone.specs.Calling.{AtView, Seated, Goes, IsHandedIn, HasSlot, StaysSeated, hand_in}
use Rattle.mz_zone.specs.Answering.{Answers}
use Rattle.mz_zone.specs.Freeing.{Frees, FreesOfSize}
use Rattle.mz_zone.specs.Moving.{Stays, MovesOn, Reallocs}
use Rattle.mz_zone_tests.specs.Tested.{HandLaws, IsReady, block_in, size_block_in}
use Rattle.mz_zone.proofs.Elsewhere.{front_there}
use Rattle.mz_zone.proofs.Freed.{can_fewer}
use Rattle.mz_zone.proofs.Moved.{slot_stays}
use Rattle.mz_zone_tests.proofs.Tested.{hand_after_call, ready_then}

-- the seat's hand

slot_as_before : (m k : Option Seated) (base : ℕ) (s : Option Held) → StaysSeated m k → hand_in k ≡ hand_in m → HasSlot m base s → HasSlot k base s
slot_as_before m k base None st e has = tt
slot_as_before None k base (Some h) st e has = absurd has
slot_as_before (Some x) None base (Some h) st e has = absurd st
slot_as_before (Some x) (Some y) base (Some h) st e has = (has.0 ∙ sym (ap first_of st.0), subst (λ hs. In h hs) (sym e) has.1)

-- one that comes back

pub back_from_move : (laws : HandLaws) (v w : AtView) (z n : ℕ) (b : BlockView) (e : Null) → MovesOn v z b n (Err e) w → IsHandedIn v b → IsHandedIn w b
back_from_move laws v w z n b e m h = record {
  in_hand = ap (λ hs. has_block hs (block_of b)) (hand_after_call laws v w m.mine m.goes ∙ by_way m.moved) ∙ h.in_hand;
  space = h.space ∙ sym m.goes.adds.same.site;
  slot = slot_as_before v.nano w.nano b.base b.slot m.goes.nano m.hand h.slot;
}
  where
    by_way : IsMoved v.book.profile w.book.seen (resize_at v.book m.t z (block_of b) n) m.mine None → hand_through (hand v.book) m.mine ≡ hand v.book
    by_way (moved c news olds moves split serves drops got) = absurd (none_some got)
      where
        none_some : ◌≡◌ {A = Option Block} None (Some c) → ⊥
        none_some q = cc
    by_way (not_moved moves serves none) = laws.hand_served _ _ _ m.mine None (hand v.book) serves.served ∙ append-nil (hand v.book)

pub back_from_free : (laws : HandLaws) (v w : AtView) (z : ℕ) (b : BlockView) (e : NotLiveBlock) → Frees v z b (Err e) w → IsHandedIn v b → IsHandedIn w e.block
back_from_free laws v w z b e f h = subst (λ x. IsHandedIn w x) (sym f.freed.3) (record {
  in_hand = ap (λ hs. has_block hs (block_of b)) (hand_after_call laws v w f.mine f.goes ∙ no_change f.freed.1) ∙ h.in_hand;
  space = h.space ∙ sym f.goes.adds.same.site;
  slot = slot_as_before v.nano w.nano b.base b.slot f.goes.nano f.hand h.slot;
})
  where
    no_change : IsNotOfZone z (block_of b) f.mine → hand_through (hand v.book) f.mine ≡ hand v.book
    no_change (x, k, is, by) = ap (hand_through (hand v.book)) is ∙ ap (hand_after (hand v.book)) by

pub back_from_realloc :
    (laws : HandLaws) (v w : AtView) (z n : ℕ) (b x : BlockView) (f : ReallocFault) → Reallocs v z (Some b) n (Err f) w → block_in f ≡ Some x → IsHandedIn v b
    → IsHandedIn w x
back_from_realloc laws v w z n b x (fault.NotLive e) r is h = subst (λ y. IsHandedIn w y) (same_Some e.block x is) (back_from_free laws v w z b e r h)
back_from_realloc laws v w z n b x (fault.Null c e) r is h = subst (λ y. IsHandedIn w y) (same_Some b x (sym r.1 ∙ is)) (back_from_move laws v w z n b e r.2 h)

pub some_back :
    (laws : HandLaws) (v w : AtView) (z n : ℕ) (b : BlockView) (f : ReallocFault) (o : Option BlockView) → Reallocs v z (Some b) n (Err f) w
    → IfSome o (λ x. block_in f ≡ Some x) → IsHandedIn v b → IfSome o (IsHandedIn w)
some_back laws v w z n b f None r is h = tt
some_back laws v w z n b f (Some x) r is h = back_from_realloc laws v w z n b x f r is h

-- each realloc goes on from where it began
pub realloc_goes :
    (v w : AtView) (z n : ℕ) (held : Option BlockView) (got : Result BlockView ReallocFault) → Reallocs v z held n got w → (mine : List Entry) × Goes v mine w
realloc_goes v w z n None (Ok d) r = (r.mine, r.goes)
realloc_goes v w z n None (Err (fault.NotLive e)) r = absurd r
realloc_goes v w z n None (Err (fault.Null b e)) r = (r.1.mine, r.1.goes)
realloc_goes v w z n (Some b) (Ok d) r = by_way r.1
  where
    by_way : (Stays v b n d w ⊎ MovesOn v z b n (Ok d) w) → (mine : List Entry) × Goes v mine w
    by_way (inl s) = (s.mine, s.goes)
    by_way (inr m) = (m.mine, m.goes)
realloc_goes v w z n (Some b) (Err (fault.NotLive e)) r = (r.mine, r.goes)
realloc_goes v w z n (Some b) (Err (fault.Null c e)) r = (r.2.mine, r.2.goes)

-- a block that isn't freed by its size

pub size_back : (laws : HandLaws) (v w : AtView) (z n : ℕ) (b : BlockView) (f : SizeFault) → FreesOfSize v z b n (Err f) w → IsHandedIn v b → IsHandedIn w (size_block_in f)
size_back laws v w z n b (size.NotLive e) r h = back_from_free laws v w z b e r h
size_back laws v w z n b (size.WrongSize c held) (own, wrong, is, size_is, same) h = subst (λ x. IsHandedIn w x) (sym is) (subst (λ u. IsHandedIn u b) (sym same) h)

pub ready_sized : (v w : AtView) (p : Profile) (z n : ℕ) (b : BlockView) (f : SizeFault) → IsReady v p 40 → FreesOfSize v z b n (Err f) w → IsReady w p 0
ready_sized v w p z n b (size.NotLive e) ready r = ready_then v w p 40 r.mine ready r.goes
ready_sized v w p z n b (size.WrongSize c held) ready (own, wrong, is, size_is, same) =
    subst (λ u. IsReady u p 0) (sym same) (record { each = λ y below. can_fewer v p y 40 0 (omega arith) (ready.each y below) })

-- a block that was handed in still is, once another was made
pub still_handed : (laws : HandLaws) (v u : AtView) (z n al : ℕ) (d b : BlockView) → Answers v z n al (Ok d) u → IsHandedIn v b → IsHandedIn u b
still_handed laws v u z n al d b a h =
    let hand_is : hand u.book ≡ hand v.book ++ block_of d ∷ [] = hand_after_call laws v u a.mine a.goes ∙ laws.hand_served _ _ _ a.mine _ (hand v.book) a.serves.served in
    record {
      in_hand = subst (λ hs. has_block hs (block_of b) ≡ true) (sym hand_is) (front_there (hand v.book) (block_of d ∷ []) (block_of b) h.in_hand);
      space = h.space ∙ sym a.goes.adds.same.site;
      slot = slot_stays v.nano u.nano b.base b.slot d.slot a.goes.nano a.hand h.slot;
    }

-- blocks that are freed by one call

all_still : (v w : AtView) (bs : List BlockView) → ((b : BlockView) → IsHandedIn v b → IsHandedIn w b) → AllByRecursion (IsHandedIn v) bs → AllByRecursion (IsHandedIn w) bs
all_still v w [] still each = tt
all_still v w (b ∷ bs) still each = (still b each.0, all_still v w bs still each.1)

pub all_with : (v w : AtView) (bs : List BlockView) → ((b : BlockView) → IsHandedIn v b → IsHandedIn w b) → AreHandedIn v bs → AreHandedIn w bs
all_with v w bs still handed = record { each = all_still v w bs still handed.each; others = handed.others }
