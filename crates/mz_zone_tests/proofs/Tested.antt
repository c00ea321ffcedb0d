-- What the tests rest on: after a step another one can be done, and a block that was made can be handed in.
use Rattle.std.proofs.Common.{◌≡◌, ℕ, ◌+◌, ◌-◌, ◌<◌, ◌≤◌, true, List, [], ◌∷◌, ◌++◌, Option, None, Some, length, refl, ap, sym, subst, ◌∙◌, arith}
use Rattle.std.specs.Prelude.{Result, Ok, Err, IfSome, replicate}
use Rattle.std.proofs.lemmas.List.{length-replicate}
use Rattle.std.proofs.lemmas.Bool.{or_left, or_right, eq-eqb}
use Rattle.mz_base.specs.declared.profile.Profile.{Profile}
use Rattle.mz_base.specs.Space.{Block, block_at, same_block}
use Rattle.mz_base.specs.Lists.{has_block}
use Rattle.mz_events.specs.declared.entry.Entry.{Entry}
use Rattle.mz_events.specs.Hands.{own, hand_through}
use Rattle.mz_book.specs.Account.{Account, hand}
use Rattle.mz_book.specs.declared.light.Found.{Found}
use Rattle.mz_book.specs.Calls.{Settles}
use Rattle.mz_book.specs.Pairs.{hand_among}
use Rattle.mz_book.specs.Plain.{Reserves, ActsAs}
use Rattle.mz_nano.specs.declared.nano.Nano.{Nano}
use Rattle.mz_nano.specs.declared.seat.NanoSeat.{NanoSeat}
use Rattle.mz_nano.specs.SeatLists.{AllNew, SitsAt}
use Rattle.mz_rack.specs.Serving.{CanServe}
use Rattle.mz_zone.specs.declared.zone.Zone.{Zone}
use Rattle.mz_zone.specs.Blocks.{BlockView, block_of, with_block_bytes}
use Rattle.mz_zone.specs.Calling.{AtView, Seated, CanCall, Goes, IsHandedIn, IsSeatedAt, with_seat}
use Rattle.mz_zone.specs.Answering.{Answers}
use Rattle.mz_zone_tests.specs.Tested.{HandLaws, IsReady, IsOpening}
use Rattle.mz_zone.proofs.Clearing.{whole_front}
use Rattle.mz_zone.proofs.Moved.{can_then}
use Rattle.mz_zone.proofs.Serving.{after}

-- room

seat_with : (s t : Account) (n : ℕ) (m : Option Seated) → Reserves s n t → IsSeatedAt s m → IsSeatedAt t m
seat_with s t n m more i = subst (λ u. IsSeatedAt u m) (sym more.after) (by_seat m i)
  where
    by_seat : (k : Option Seated) → IsSeatedAt s k → IsSeatedAt (record s { spare = t.spare }) k
    by_seat None i = tt
    by_seat (Some x) i = record { seat = i.seat; first = i.first; blocks = i.blocks; space = i.space }

can_with : (v : AtView) (t : Account) (p : Profile) (z n : ℕ) → CanCall v p z 0 → Reserves v.book n t → CanCall (after v t) p z n
can_with v t p z n can more = record {
  serve = subst (λ u. CanServe u p z n) (sym more.after) (record {
    profile = can.serve.profile;
    zone_open = can.serve.zone_open;
    nothing_held = record { keepers = can.serve.nothing_held.keepers; lights = can.serve.nothing_held.lights };
    room = more.room;
  });
  nano = seat_with v.book t n v.nano more can.nano;
}

pub ready_with : (v : AtView) (t : Account) (p : Profile) (n : ℕ) → IsReady v p 0 → Reserves v.book n t → IsReady (after v t) p n
ready_with v t p n ready more = record { each = λ z below. can_with v t p z n (ready.each z below) more }

pub handed_with : (v : AtView) (t : Account) (n : ℕ) (b : BlockView) → IsHandedIn v b → Reserves v.book n t → IsHandedIn (after v t) b
handed_with v t n b h more = record {
  in_hand = subst (λ u. has_block (hand u) (block_of b) ≡ true) (sym more.after) h.in_hand;
  space = h.space ∙ sym (ap (λ a. a.site) more.after);
  slot = h.slot;
}

-- the zone is one of its profile's
zone_in : (zone : Zone) → zone.zone < zone.profile.zones
zone_in zone = subst (λ (p : Profile). zone.zone < p.zones) zone.of_profile (subst (λ n. n < zone.rack.profile.zones) zone.of_zone zone.rack.zone_in)

pub can_at : (v : AtView) (zone : Zone) (n : ℕ) → IsReady v zone.profile n → CanCall v zone.profile zone.zone n
can_at v zone n ready = ready.each zone.zone (zone_in zone)

-- after a call

pub ready_then : (v u : AtView) (p : Profile) (n : ℕ) (mine : List Entry) → IsReady v p n → Goes v mine u → IsReady u p 0
ready_then v u p n mine ready goes = record { each = λ z below. can_then v u p z n 0 mine (ready.each z below) goes (omega arith) }

-- also one with room, where there was room for two
pub ready_for_more : (v u : AtView) (p : Profile) (mine : List Entry) → IsReady v p 80 → Goes v mine u → length mine ≤ 36 → IsReady u p 40
ready_for_more v u p mine ready goes few = record {
  each = λ z below. can_then v u p z 80 40 mine (ready.each z below) goes
      (let e : u.book.spare ≡ v.book.spare - length mine = goes.adds.spare in let room : 80 ≤ v.book.spare = (ready.each z below).serve.room in omega (arith, e, room, few));
}

pub same_itself : (b : Block) → same_block b b ≡ true
same_itself b = rw (eq-eqb b.first b.first refl, eq-eqb b.size b.size refl) refl

pub has_last : (bs : List Block) (b : Block) → has_block (bs ++ b ∷ []) b ≡ true
has_last [] b = or_left (same_block b b) _ (same_itself b)
has_last (x ∷ bs) b = or_right (same_block b x) _ (has_last bs b)

-- the hand after a call's entries
pub hand_after_call : (laws : HandLaws) (v u : AtView) (mine : List Entry) → Goes v mine u → hand u.book ≡ hand_through (hand v.book) mine
hand_after_call laws v u mine goes =
    ap (λ c. hand_among c u.book.pairs) goes.adds.same.caller
    ∙ (ap (hand_among v.book.caller) goes.adds.pairs ∙ laws.through v.book.caller v.book.pairs mine)

-- a block that was made is in the hand
pub handed : (laws : HandLaws) (v u : AtView) (z n al : ℕ) (b : BlockView) → Answers v z n al (Ok b) u → IsHandedIn u b
handed laws v u z n al b a =
    let hand_is : hand u.book ≡ hand v.book ++ block_of b ∷ [] = hand_after_call laws v u a.mine a.goes ∙ laws.hand_served _ _ _ a.mine _ (hand v.book) a.serves.served in
    record {
      in_hand = ap (λ hs. has_block hs (block_of b)) hand_is ∙ has_last (hand v.book) (block_of b);
      space = a.answer.1 ∙ sym a.goes.adds.same.site;
      slot = a.slot;
    }

-- also with other bytes
pub handed_marked : (v : AtView) (b : BlockView) (x : ℕ) → IsHandedIn v b → IsHandedIn v (with_block_bytes b (replicate (length b.span.bytes) x))
handed_marked v b x h =
    let ws : List ℕ = replicate (length b.span.bytes) x in
    let same : length ws ≡ length b.span.bytes = length-replicate (length b.span.bytes) x in
    subst (λ d. IsHandedIn v d) (sym (whole_front b ws same)) (record {
      in_hand = subst (λ k. has_block (hand v.book) (block_at b.span.first k) ≡ true) (sym same) h.in_hand;
      space = h.space;
      slot = h.slot;
    })

-- a block that is known to be one that can be handed in
pub some_handed : (w : AtView) (o : Option BlockView) (d : BlockView) → IfSome o (λ b. b ≡ d) → IsHandedIn w d → IfSome o (IsHandedIn w)
some_handed w None d is h = tt
some_handed w (Some b) d is h = subst (λ x. IsHandedIn w x) (sym is) h

-- the last seat of new ones is one of their nano, and those before it are new
pub last_sits : (nano : Nano) (xs ys : List NanoSeat) (x : NanoSeat) → xs ≡ ys ++ x ∷ [] → AllNew nano.table.shared.table_id nano.table.shared.key 0 xs → SitsAt nano x
last_sits nano xs ys x e news = of_last ys 0 (subst (λ ss. AllNew nano.table.shared.table_id nano.table.shared.key 0 ss) e news)
  where
    of_last : (ss : List NanoSeat) (k : ℕ) → AllNew nano.table.shared.table_id nano.table.shared.key k (ss ++ x ∷ []) → SitsAt nano x
    of_last [] k a = (a.0.one, a.0.parts)
    of_last (s ∷ ss) k a = of_last ss (k + 1) a.1

-- callers and their seats

pub ready_as : (v : AtView) (t : Account) (p : Profile) (c : ℕ) → IsReady v p 0 → ActsAs v.book c t → IsReady (after v t) p 0
ready_as v t p c ready acts = record { each = λ z below. as_caller z (ready.each z below) }
  where
    by_seat : (m : Option Seated) → IsSeatedAt v.book m → IsSeatedAt (record v.book { caller = c; noted = own c v.book.seen }) m
    by_seat None i = tt
    by_seat (Some x) i = record { seat = i.seat; first = i.first; blocks = i.blocks; space = i.space }

    as_caller : (z : ℕ) → CanCall v p z 0 → CanCall (after v t) p z 0
    as_caller z can = record {
      serve = subst (λ u. CanServe u p z 0) (sym acts.after) (record {
        profile = can.serve.profile;
        zone_open = can.serve.zone_open;
        nothing_held = record { keepers = can.serve.nothing_held.keepers; lights = can.serve.nothing_held.lights };
        room = omega arith;
      });
      nano = subst (λ u. IsSeatedAt u v.nano) (sym acts.after) (by_seat v.nano can.nano);
    }

pub other_seat : (t : Account) (nano : Nano) (a b : NanoSeat) (p : Profile) (n : ℕ) → IsReady (with_seat t nano a) p n → SitsAt nano b → IsReady (with_seat t nano b) p n
other_seat t nano a b p n ready sits = record {
  each = λ z below.
      let can = ready.each z below in
      record { serve = can.serve; nano = record { seat = sits; first = can.nano.first; blocks = can.nano.blocks; space = can.nano.space } };
}

pub still_sits : (t : Account) (nano : Nano) (a : NanoSeat) (zone : Zone) → IsReady (with_seat t nano a) zone.profile 0 → SitsAt nano a
still_sits t nano a zone ready = (can_at (with_seat t nano a) zone 0 ready).nano.seat

pub others_new :
    (nano : Nano) (xs ys : List NanoSeat) (x : NanoSeat) → xs ≡ ys ++ x ∷ [] → AllNew nano.table.shared.table_id nano.table.shared.key 0 xs
    → AllNew nano.table.shared.table_id nano.table.shared.key 0 ys
others_new nano xs ys x e news = of_front ys 0 (subst (λ ss. AllNew nano.table.shared.table_id nano.table.shared.key 0 ss) e news)
  where
    of_front : (ss : List NanoSeat) (k : ℕ) → AllNew nano.table.shared.table_id nano.table.shared.key k (ss ++ x ∷ []) → AllNew nano.table.shared.table_id nano.table.shared.key k ss
    of_front [] k a = tt
    of_front (s ∷ ss) k a = (a.0, of_front ss (k + 1) a.1)

-- what is known of nano's classes is not asked of a call
pub ready_settled : (v : AtView) (t : Account) (p : Profile) (n : ℕ) → IsReady v p n → IsOpening v.book t → IsReady (after v t) p n
ready_settled v t p n ready opened = record { each = λ z below. there z (ready.each z below) }
  where
    by_seat : (m : Option Seated) → IsSeatedAt v.book m → IsSeatedAt (record v.book { settled = t.settled; founds = t.founds; found = t.found }) m
    by_seat None i = tt
    by_seat (Some x) i = record { seat = i.seat; first = i.first; blocks = i.blocks; space = i.space }

    there : (z : ℕ) → CanCall v p z n → CanCall (after v t) p z n
    there z can = record {
      serve = subst (λ u. CanServe u p z n) (sym opened.after) (record {
        profile = can.serve.profile;
        zone_open = can.serve.zone_open;
        nothing_held = record { keepers = can.serve.nothing_held.keepers; lights = can.serve.nothing_held.lights };
        room = can.serve.room;
      });
      nano = subst (λ u. IsSeatedAt u v.nano) (sym opened.after) (by_seat v.nano can.nano);
    }

pub settled_so : (s t : Account) (b class : ℕ) (r : Result (Unit {0}) Found) → Settles s b class r t → IsOpening s t
settled_so s t b class (Ok u) x = record { after = subst (λ (u : Account). u ≡ record s { settled = u.settled; founds = u.founds; found = u.found }) (sym x.after) refl }
settled_so s t b class (Err f) x = record { after = subst (λ (u : Account). u ≡ record s { settled = u.settled; founds = u.founds; found = u.found }) (sym x.after) refl }

-- of a profile that is the same

pub ready_same : (v : AtView) (p q : Profile) (n : ℕ) → p ≡ q → IsReady v q n → IsReady v p n
ready_same v p q n e ready = subst (λ r. IsReady v r n) (sym e) ready

pub serve_same : (s : Account) (p q : Profile) (z y n : ℕ) → p ≡ q → z ≡ y → CanServe s q y n → CanServe s p z n
serve_same s p q z y n e f can = subst (λ r. CanServe s r z n) (sym e) (subst (λ x. CanServe s q x n) (sym f) can)
