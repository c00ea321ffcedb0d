-- What a call of the zone leaves of what a session keeps: where a block was made, where one ended, and where nothing was noted.
use Rattle.std.proofs.Common.{◌≡◌, ℕ, ◌*◌, ◌≤◌, ◌==◌, Bool, true, false, cond, List, [], ◌∷◌, ◌++◌, length, Option, Some, None, Result, Ok, Err, max, refl, ap, sym, subst, ◌∙◌, inl, inr, arith}
use Rattle.std.specs.Prelude.{◌⊎◌, ◌&&◌, nat_lt, nat_le, slice_get, IsTrue, Contains}
use Rattle.std.specs.List.{AllByRecursion}
use Rattle.std.proofs.lemmas.Bool.{cases_Bool, false≢true, eqb-true}
use Rattle.std.proofs.lemmas.List.{append-nil}
use Rattle.mz_base.specs.declared.range.TheConstants.{PAGE}
use Rattle.mz_base.specs.Sizes.{units_of}
use Rattle.mz_base.specs.Space.{Block, same_block}
use Rattle.mz_base.specs.Lists.{has_block, drop_block}
use Rattle.mz_events.specs.declared.entry.Entry.{Entry}
use Rattle.mz_events.specs.Places.{nano_start}
use Rattle.mz_events.specs.State.{opening, is_open}
use Rattle.mz_events.specs.Changes.{one_for}
use Rattle.mz_events.specs.Hands.{own, hand_through}
use Rattle.mz_record.specs.Served.{Serves as ServesRequest}
use Rattle.mz_record.specs.Dropped.{IsDropped}
use Rattle.mz_lawful.specs.Settings.{above}
use Rattle.mz_lawful.specs.Tasks.{request_of}
use Rattle.mz_lawful.specs.Fitting.{is_rising_from}
use Rattle.mz_book.specs.declared.pair.Pair.{Pair}
use Rattle.mz_book.specs.Account.{Account, IsOrderly, state_of, hand, is_live}
use Rattle.mz_book.specs.Pairs.{hand_among}
use Rattle.mz_book.specs.Growth.{pairs_through, Adds}
use Rattle.mz_book.specs.Living.{times}
use Rattle.mz_rack.specs.declared.lot.Null.{Null}
use Rattle.mz_nano.specs.declared.view.Held.{Held}
use Rattle.mz_nano.specs.Lists.{In, is_at, without}
use Rattle.mz_nano.specs.SeatLists.{space_of, first_of, blocks_of, seats_of}
use Rattle.mz_zone.specs.declared.fault.CallocFault.{CallocFault}
use Rattle.mz_zone.specs.declared.fault.CallocFault.TheVariants as calloc
use Rattle.mz_zone.specs.declared.fault.AlignFault.{AlignFault}
use Rattle.mz_zone.specs.declared.fault.AlignFault.TheVariants as align
use Rattle.mz_zone.specs.declared.fault.NotLiveBlock.{NotLiveBlock}
use Rattle.mz_zone.specs.declared.fault.SizeFault.{SizeFault}
use Rattle.mz_zone.specs.declared.fault.SizeFault.TheVariants as size
use Rattle.mz_zone.specs.Blocks.{BlockView, block_of, slot_added, slot_dropped}
use Rattle.mz_zone.specs.Calling.{Seated, AtView, IsSeatedAt, CanCall, HasSlot, IsHandedIn, apart_from_nano, StaysSeated, Goes, hand_in}
use Rattle.mz_zone.specs.Counts.{has_nano, counts_in, counts_of, TriesIf, Tries}
use Rattle.mz_zone.specs.Answering.{Answers, Callocs, Memaligns, block_got, slot_got, hand_got}
use Rattle.mz_zone.specs.Freeing.{Frees, FreesOfSize}
use Rattle.mz_session.specs.Seats.{HasOneSeat}
use Rattle.mz_session.specs.SessionLaws.{SessionLaws}
use Rattle.mz_session.specs.Sessions.{SessionView, IsForOne, IsOurs, views_kept, blocks_kept, Keeps, IsKept}
use Rattle.mz_session.specs.Asking.{HasMoreRoom, roomier, moved, CanAsk, HasAsked, IsPlacedIf}
use Rattle.mz_session.specs.Serving.{Notes, Makes, MakesCleared, MakesAligned, Ends, EndsOfSize, Rests, view_got}
use Rattle.mz_session.proofs.CountLemmas.{same-self, same-is, one-true, one-false, count-cons, count-append, count-gone, count-others, hand-counted}
use Rattle.mz_session.proofs.TicketLemmas.{CountsFrom, counts-indices, counts-parts, rising-behind, above-counted}
use Rattle.mz_session.proofs.OwnerLemmas.{are_mine, mine-through}
use Rattle.mz_session.proofs.KeepLemmas.{loose-counted, there-first, kept-more, kept-fewer, kept-loose, kept-beside}
use Rattle.mz_session.proofs.PlaceLemmas.{in-hand, other-slot}
use Rattle.mz_session.proofs.TestLemmas.{alignment-tested, alignment-refused, wrong-size-tested, right-size-tested}

-- what a call of the book adds

own-case : (c : ℕ) (e : Entry) (es : List Entry) (d : Bool) → (e.caller == c) ≡ d → AllByRecursion (λ x. x.caller ≡ c) es → AllByRecursion (λ x. x.caller ≡ c) (cond d (e ∷ es) es)
own-case c e es true is rest = (eqb-true e.caller c is, rest)
own-case c e es false is rest = rest

-- a caller's own entries are its own
all-own : (c : ℕ) (es : List Entry) → AllByRecursion (λ e. e.caller ≡ c) (own c es)
all-own c [] = tt
all-own c (e ∷ es) = own-case c e (own c es) (e.caller == c) refl (all-own c es)

-- where nobody acts beside, a caller's entries are all that was added
added-own : (s t : Account) (mine : List Entry) (n : ℕ) → Adds s mine n t → IsTrue s.between → (t.seen ≡ s.seen ++ mine) × AllByRecursion (λ e. e.caller ≡ s.caller) mine
added-own s t mine n adds alone =
    let same = adds.alone alone in
    (adds.seen ∙ ap (λ es. s.seen ++ es) same, subst (AllByRecursion (λ e. e.caller ≡ s.caller)) adds.own_is (all-own s.caller adds.more))

-- the hand after them, by the law on hands through entries
hand-after :
    (through : (c : ℕ) (pairs : List Pair) (es : List Entry) → hand_among c (pairs_through c pairs es) ≡ hand_through (hand_among c pairs) es)
    → (s t : Account) (mine : List Entry) (n : ℕ) → Adds s mine n t → hand t ≡ hand_through (hand s) mine
hand-after through s t mine n adds = ap (λ c. hand_among c t.pairs) adds.same.caller ∙ ap (hand_among s.caller) adds.pairs ∙ through s.caller s.pairs mine

one-most : (d : Bool) → one_for d ≤ 1
one-most true = omega arith
one-most false = omega arith

-- a block is in a book's hand once at most
pub hand-once : (s : Account) (b : Block) → IsOrderly s → times b (hand s) ≤ 1
hand-once s b orderly =
    let most = hand-counted s.caller b s.pairs in
    let owned = orderly.owned b in
    let one = one-most (is_live (state_of s) b) in
    omega (arith, most, owned, one)

-- the seat stays one of the book's nano
stays-seated : (s t : Account) (x y : Option Seated) → t.profile ≡ s.profile → t.site ≡ s.site → IsSeatedAt s x → StaysSeated x y → IsSeatedAt t y
stays-seated s t None None profile site sits stays = tt
stays-seated s t None (Some y) profile site sits stays = absurd stays
stays-seated s t (Some x) None profile site sits stays = absurd stays
stays-seated s t (Some x) (Some y) profile site sits stays = record {
  seat = stays.1;
  first = ap first_of stays.0 ∙ sits.first ∙ ap (λ p. nano_start p * PAGE) (sym profile);
  blocks = ap blocks_of stays.0 ∙ sits.blocks ∙ ap (λ p. p.nano) (sym profile);
  space = ap space_of stays.0 ∙ sits.space ∙ sym site;
}

nano-stays : (x y : Option Seated) → StaysSeated x y → has_nano y ≡ has_nano x
nano-stays None None stays = refl
nano-stays None (Some y) stays = absurd stays
nano-stays (Some x) None stays = absurd stays
nano-stays (Some x) (Some y) stays = refl

-- what is counted of nano doesn't read how much room the book has
counts-in-room : (a : Account) (k : ℕ) (n : Option Seated) → counts_in (record a { spare = k }) n ≡ counts_in a n
counts-in-room a k None = refl
counts-in-room a k (Some x) = refl

pub counts-roomier : (s : SessionView) (b : Account) → HasMoreRoom s.at.book b → counts_of (roomier s b) ≡ counts_of s.at
counts-roomier s b room = ap (λ a. counts_in a s.at.nano) room ∙ counts-in-room s.at.book b.spare s.at.nano

one-seat-stays : (x y : Option Seated) → StaysSeated x y → HasOneSeat x → HasOneSeat y
one-seat-stays None None stays one = tt
one-seat-stays None (Some y) stays one = absurd stays
one-seat-stays (Some x) None stays one = absurd stays
one-seat-stays (Some x) (Some y) stays one = ap seats_of stays.0 ∙ one

seated-with-room : (s b : Account) (x : Option Seated) → HasMoreRoom s b → IsSeatedAt s x → IsSeatedAt b x
seated-with-room s b None room sits = tt
seated-with-room s b (Some x) room sits = record {
  seat = sits.seat;
  first = sits.first ∙ ap (λ a. nano_start a.profile * PAGE) (sym room);
  blocks = sits.blocks ∙ ap (λ a. a.profile.nano) (sym room);
  space = sits.space ∙ ap (λ a. a.site) (sym room);
}

-- a slot that stays in the hand is one of the nano that is there
slot-stays :
    (x y : Option Seated) (base : ℕ) (slot : Option Held) → StaysSeated x y → ((h : Held) → slot ≡ Some h → In h (hand_in x) → In h (hand_in y))
    → HasSlot x base slot → HasSlot y base slot
slot-stays x y base None stays keeps has = tt
slot-stays None y base (Some h) stays keeps has = absurd has
slot-stays (Some x) None base (Some h) stays keeps has = absurd stays
slot-stays (Some x) (Some y) base (Some h) stays keeps has = (has.0 ∙ ap first_of (sym stays.0), keeps h refl has.1)

pub in-added : (slot : Option Held) (h : Held) (hand : List Held) → In h hand → In h (slot_added slot hand)
in-added None h hand there = there
in-added (Some k) h hand there = inr there

in-got : (got : Result BlockView Null) (h : Held) (hand : List Held) → In h hand → In h (hand_got got hand)
in-got (Ok b) h hand there = in-added b.slot h hand there
in-got (Err e) h hand there = there

without-case :
    (b j : ℕ) (h k : Held) (rest : List Held) (d : Bool) → is_at b j k ≡ d → is_at b j h ≡ false → (h ≡ k) ⊎ In h rest → In h (cond d rest (k ∷ rest))
without-case b j h k rest true is other (inl same) = absurd (false≢true (sym other ∙ ap (is_at b j) same ∙ is))
without-case b j h k rest true is other (inr there) = there
without-case b j h k rest false is other (inl same) = inl same
without-case b j h k rest false is other (inr there) = inr there

in-without : (b j : ℕ) (h : Held) (hs : List Held) → is_at b j h ≡ false → In h hs → In h (without b j hs)
in-without b j h [] other there = there
in-without b j h (k ∷ ks) other (inl same) = without-case b j h k (without b j ks) (is_at b j k) refl other (inl same)
in-without b j h (k ∷ ks) other (inr there) = without-case b j h k (without b j ks) (is_at b j k) refl other (inr (in-without b j h ks other there))

pub in-dropped : (slot : Option Held) (h : Held) (hand : List Held) → ((k : Held) → slot ≡ Some k → is_at k.block k.slot h ≡ false) → In h hand → In h (slot_dropped slot hand)
in-dropped None h hand other there = there
in-dropped (Some k) h hand other there = in-without k.block k.slot h hand (other k refl) there

-- a call may be made with a book that has more room

pub can-call : (s : SessionView) (loose : List BlockView) → Keeps s loose → (b : Account) → HasMoreRoom s.at.book b → (n : ℕ) → n ≤ b.spare → CanCall (roomier s b) s.zone.profile s.zone.zone n
can-call s loose kept b room n many = record {
  serve = record {
    profile = ap (λ x. x.profile) room ∙ sym kept.profile;
    zone_open = ap (λ x. is_open (state_of x) s.zone.zone) room ∙ ap (λ z. is_open (state_of s.at.book) z) kept.zone ∙ kept.zone_open;
    nothing_held = record { keepers = ap (λ x. x.held) room ∙ kept.nothing_held.keepers; lights = ap (λ x. x.lights) room ∙ kept.nothing_held.lights };
    room = many;
  };
  nano = seated-with-room s.at.book b s.at.nano room kept.seated;
}

pub handed-in : (L : SessionLaws) (s : SessionView) (x : BlockView) (loose : List BlockView) → Keeps s (x ∷ loose) → IsOrderly s.at.book → (b : Account) → HasMoreRoom s.at.book b → IsHandedIn (roomier s b) x
handed-in L s x loose kept orderly b room =
    let there = kept-loose s (x ∷ loose) x (there-first x loose) in
    let ours = kept.ours x there in
    record {
      in_hand = ap (λ a. has_block (hand a) (block_of x)) room ∙ in-hand L s (x ∷ loose) kept orderly x there;
      space = ours.space ∙ ap (λ a. a.site) (sym room);
      slot = ours.slot;
    }

-- what a call leaves
module _ (L : SessionLaws) (s : SessionView) (loose : List BlockView) (kept : Keeps s loose) (b : Account) (room : HasMoreRoom s.at.book b) (w : AtView) (mine : List Entry) (goes : Goes (roomier s b) mine w) (orderly : IsOrderly w.book) where
  pub same-profile : w.book.profile ≡ s.at.book.profile
  same-profile = goes.adds.same.profile ∙ ap (λ x. x.profile) room

  pub same-site : w.book.site ≡ s.at.book.site
  same-site = goes.adds.same.site ∙ ap (λ x. x.site) room

  own-entries : (w.book.seen ≡ b.seen ++ mine) × AllByRecursion (λ e. e.caller ≡ b.caller) mine
  own-entries = added-own (apart_from_nano b) (apart_from_nano w.book) mine 0 goes.adds (ap (λ x. x.between) room ∙ kept.alone)

  pub more-seen : w.book.seen ≡ s.at.book.seen ++ mine
  more-seen = own-entries.0 ∙ ap (λ x. x.seen ++ mine) room

  counted : CountsFrom 0 (s.at.book.seen ++ mine)
  counted = counts-indices 0 (s.at.book.seen ++ mine) (λ i e at. L.index w.book.profile opening w.book.seen orderly.lawful i e (ap (λ es. slice_get es i) more-seen ∙ at))

  rising : is_rising_from (above s.at.book.seen) mine ≡ true
  rising = rising-behind s.at.book.seen mine counted

  pub above-before : above s.at.book.seen ≡ length s.at.book.seen
  above-before = above-counted s.at.book.seen (counts-parts 0 s.at.book.seen mine counted).0

  pub notes-call : Notes s mine (moved s w)
  notes-call = record {
    zone = refl;
    blocks = refl;
    parcels = refl;
    profile = same-profile;
    seen = more-seen;
    mine = subst (λ c. AllByRecursion (λ e. e.caller ≡ c) mine) (ap (λ x. x.caller) room ∙ kept.caller) own-entries.1;
    rising = rising;
  }

  pub hand-through-mine : hand w.book ≡ hand_through (hand s.at.book) mine
  hand-through-mine = hand-after L.through (apart_from_nano b) (apart_from_nano w.book) mine 0 goes.adds ∙ ap (λ x. hand_through (hand x) mine) room

  pub ours-stays : (x : BlockView) → ((h : Held) → x.slot ≡ Some h → In h (hand_in s.at.nano) → In h (hand_in w.nano)) → IsOurs s.at x → IsOurs w x
  ours-stays x keeps ours = record {
    zone = ours.zone;
    space = ours.space ∙ sym same-site;
    slot = slot-stays s.at.nano w.nano x.base x.slot goes.nano keeps ours.slot;
    place = ours.place;
  }

  pub keeps-moved :
      (new : List BlockView) → ((x : BlockView) → Contains (views_kept s new) x → IsOurs w x) → ((c : Block) → times c (hand w.book) ≡ times c (blocks_kept s new))
      → Keeps (moved s w) new
  keeps-moved new ours counts = record {
    profile = kept.profile ∙ sym same-profile;
    zone = kept.zone;
    for_one = subst IsForOne (sym same-profile) kept.for_one;
    caller = goes.adds.same.caller ∙ ap (λ x. x.caller) room ∙ kept.caller;
    alone = goes.adds.same.between ∙ ap (λ x. x.between) room ∙ kept.alone;
    zone_open = goes.adds.zones 0 ∙ ap (λ x. is_open (state_of x) 0) room ∙ kept.zone_open;
    nothing_held = goes.nothing_held;
    seated = stays-seated s.at.book w.book s.at.nano w.nano same-profile same-site kept.seated goes.nano;
    nano = nano-stays s.at.nano w.nano goes.nano ∙ kept.nano ∙ ap (λ p. nat_lt 0 p.nano) (sym same-profile);
    one_seat = one-seat-stays s.at.nano w.nano goes.nano kept.one_seat;
    ours = ours;
    in_hand = counts;
    once = λ c. hand-once w.book c orderly;
    mine =
        ap (are_mine 0) (goes.adds.pairs ∙ ap (λ c. pairs_through c b.pairs mine) (ap (λ x. x.caller) room ∙ kept.caller))
        ∙ mine-through 0 b.pairs mine (ap (λ x. are_mine 0 x.pairs) room ∙ kept.mine);
    new_names = kept.new_names;
  }

-- nano was tried as the session's nano, whatever room its book has
pub tries-roomier :
    (s : SessionView) (b : Account) → HasMoreRoom s.at.book b → (z n al : ℕ) (slot : Option Held) (w : AtView) → z ≡ 0 → Tries (roomier s b) z n al slot w → Tries s.at 0 n al slot w
tries-roomier s b room z n al slot w is tries =
    subst (λ y. Tries s.at y n al slot w) is
    (subst (λ x. TriesIf (has_nano s.at.nano && (z == 0) && nat_le n 256 && (al == 16)) (units_of n) x slot (counts_of w)) (counts-roomier s b room) tries)

-- a request was made

pub makes :
    (L : SessionLaws) (s : SessionView) → IsKept s → (b : Account) → HasMoreRoom s.at.book b → (n al : ℕ) (got : Result BlockView Null) (w : AtView)
    → Answers (roomier s b) s.zone.zone n al got w → IsOrderly w.book → IsPlacedIf got → Makes s n al got (moved s w)
makes L s kept b room n al got w asked orderly placed =
    let mine = asked.mine in
    let request : ServesRequest s.at.book.profile w.book.seen (request_of 0 0 n al) mine (block_got got) =
    subst (λ z. ServesRequest s.at.book.profile w.book.seen (request_of 0 z n al) mine (block_got got)) kept.zone
    (subst (λ c. ServesRequest s.at.book.profile w.book.seen (request_of c s.zone.zone n al) mine (block_got got)) (ap (λ x. x.caller) room ∙ kept.caller)
    (subst (λ p. ServesRequest p w.book.seen (request_of b.caller s.zone.zone n al) mine (block_got got)) (ap (λ x. x.profile) room) asked.serves))
    in
    record {
      mine = mine;
      notes = notes-call L s [] kept b room w mine asked.goes orderly;
      serves = request;
      tries = tries-roomier s b room s.zone.zone n al (slot_got got) w kept.zone asked.tries;
      keeps = keeps-made L s kept b room n al got w asked orderly placed (by-hand L s kept b room n al got w asked orderly);
    }
  where
    by-hand :
        (L : SessionLaws) (s : SessionView) (kept : IsKept s) (b : Account) (room : HasMoreRoom s.at.book b) (n al : ℕ) (got : Result BlockView Null) (w : AtView)
        (asked : Answers (roomier s b) s.zone.zone n al got w) → IsOrderly w.book → (c : Block) → times c (hand w.book) ≡ times c (blocks_kept s (view_got got))
    by-hand L s kept b room n al (Ok x) w asked orderly c =
        let now = ap (times c) (hand-through-mine L s [] kept b room w asked.mine asked.goes orderly ∙ L.served b.profile w.book.seen (request_of b.caller s.zone.zone n al) asked.mine (Some (block_of x)) (hand s.at.book) asked.serves.served) in
        let more = count-append c (hand s.at.book) (block_of x ∷ []) in
        let one = count-cons c (block_of x) [] in
        let old = kept.in_hand c in
        let new = loose-counted s x [] c in
        omega (arith, now, more, one, old, new)
    by-hand L s kept b room n al (Err e) w asked orderly c =
        ap (times c) (hand-through-mine L s [] kept b room w asked.mine asked.goes orderly ∙ L.served b.profile w.book.seen (request_of b.caller s.zone.zone n al) asked.mine None (hand s.at.book) asked.serves.served ∙ append-nil (hand s.at.book)) ∙ kept.in_hand c

    keeps-made :
        (L : SessionLaws) (s : SessionView) (kept : IsKept s) (b : Account) (room : HasMoreRoom s.at.book b) (n al : ℕ) (got : Result BlockView Null) (w : AtView)
        (asked : Answers (roomier s b) s.zone.zone n al got w) → IsOrderly w.book → IsPlacedIf got
        → ((c : Block) → times c (hand w.book) ≡ times c (blocks_kept s (view_got got))) → Keeps (moved s w) (view_got got)
    keeps-made L s kept b room n al (Ok x) w asked orderly placed counts =
        keeps-moved L s [] kept b room w asked.mine asked.goes orderly (x ∷ [])
        (λ y there. elim (kept-fewer s y x [] there) [
          | inl same ↦ subst (IsOurs w) same (record {
            zone = asked.answer.0 ∙ kept.zone;
            space = asked.answer.1 ∙ sym goes-site;
            slot = asked.slot;
            place = placed;
          })
          | inr old ↦ ours-stays L s [] kept b room w asked.mine asked.goes orderly y (λ h is in_it. subst (In h) (sym asked.hand) (in-got (Ok x) h (hand_in s.at.nano) in_it)) (kept.ours y old)
        ]) counts
      where
        goes-site : w.book.site ≡ b.site
        goes-site = asked.goes.adds.same.site
    keeps-made L s kept b room n al (Err e) w asked orderly placed counts =
        keeps-moved L s [] kept b room w asked.mine asked.goes orderly []
        (λ y there. ours-stays L s [] kept b room w asked.mine asked.goes orderly y (λ h is in_it. subst (In h) (sym asked.hand) in_it) (kept.ours y there)) counts

-- a block ended

pub symmetric : (c d : Block) → same_block c d ≡ false → same_block d c ≡ false
symmetric c d other = elim (cases_Bool (same_block d c)) [
  | inl same ↦ absurd (false≢true (sym other ∙ subst (λ z. same_block c z ≡ true) (sym (same-is d c same)) (same-self c)))
  | inr apart ↦ apart
]

pub ends :
    (L : SessionLaws) (s : SessionView) (x : BlockView) → Keeps s (x ∷ []) → IsOrderly s.at.book → (b : Account) → HasMoreRoom s.at.book b → (w : AtView)
    → (u : Unit {0}) → Frees (roomier s b) s.zone.zone x (Ok u) w → IsOrderly w.book → Ends s x (moved s w)
ends L s x kept before b room w u freed orderly =
    let mine = freed.mine in
    let block = block_of x in
    let hand_now : hand w.book ≡ drop_block block (hand s.at.book) =
    hand-through-mine L s (x ∷ []) kept b room w mine freed.goes orderly ∙ L.dropped b.profile w.book.seen block mine (hand s.at.book) freed.freed.1 in
    let counts : (c : Block) → times c (hand w.book) ≡ times c (blocks_kept s []) = λ c.
    let now = ap (times c) hand_now in
    let old = kept.in_hand c in
    let once = kept.once c in
    let all = loose-counted s x [] c in
    elim (cases_Bool (same_block c block)) [
      | inl same ↦
          let gone : times c (drop_block block (hand s.at.book)) ≡ 0 = ap (λ y. times y (drop_block block (hand s.at.book))) (same-is c block same) ∙ count-gone block (hand s.at.book) in
          let one = one-true (same_block c block) same in
          omega (arith, now, old, once, all, gone, one)
      | inr other ↦
          let stays = count-others block c (hand s.at.book) other in
          let zero = one-false (same_block c block) other in
          omega (arith, now, old, all, stays, zero)
    ]
    in
    let there = kept-loose s (x ∷ []) x (there-first x []) in
    record {
      mine = mine;
      notes = notes-call L s (x ∷ []) kept b room w mine freed.goes orderly;
      dropped = subst (λ p. IsDropped p w.book.seen block mine) (ap (λ a. a.profile) room) freed.freed.1;
      kept =
          keeps-moved L s (x ∷ []) kept b room w mine freed.goes orderly []
          (λ y still.
          let old = kept-more s y x [] still in
          ours-stays L s (x ∷ []) kept b room w mine freed.goes orderly y
          (λ h is in_it.
          subst (In h) (sym freed.hand)
          (in-dropped x.slot h (hand_in s.at.nano) (λ k at. other-slot L s (x ∷ []) kept before x y k h there old at is (apart-too y still)) in_it)) (kept.ours y old)) counts;
    }
  where
    apart-too : (y : BlockView) → Contains (views_kept s []) y → same_block (block_of x) (block_of y) ≡ false
    apart-too y still = symmetric (block_of y) (block_of x) (kept-beside s x [] kept y still)

-- nothing was noted, and the book has more room

pub rests : (s : SessionView) (loose : List BlockView) → Keeps s loose → (b : Account) → HasMoreRoom s.at.book b → Rests s loose (moved s (roomier s b))
rests s loose kept b room = record {
  notes = record {
    zone = refl;
    blocks = refl;
    parcels = refl;
    profile = ap (λ x. x.profile) room;
    seen = ap (λ x. x.seen) room ∙ sym (append-nil s.at.book.seen);
    mine = tt;
    rising = refl;
  };
  keeps = record {
    profile = kept.profile ∙ ap (λ x. x.profile) (sym room);
    zone = kept.zone;
    for_one = subst (λ x. IsForOne x.profile) (sym room) kept.for_one;
    caller = ap (λ x. x.caller) room ∙ kept.caller;
    alone = ap (λ x. x.between) room ∙ kept.alone;
    zone_open = ap (λ x. is_open (state_of x) 0) room ∙ kept.zone_open;
    nothing_held = record { keepers = ap (λ x. x.held) room ∙ kept.nothing_held.keepers; lights = ap (λ x. x.lights) room ∙ kept.nothing_held.lights };
    seated = seated-with-room s.at.book b s.at.nano room kept.seated;
    nano = kept.nano ∙ ap (λ x. nat_lt 0 x.profile.nano) (sym room);
    one_seat = kept.one_seat;
    ours = λ y there.
        let ours = kept.ours y there in
        record {
          zone = ours.zone;
          space = ours.space ∙ ap (λ a. a.site) (sym room);
          slot = ours.slot;
          place = ours.place;
        };
    in_hand = λ c. ap (λ x. times c (hand x)) room ∙ kept.in_hand c;
    once = λ c. let same = ap (λ x. times c (hand x)) room in let most = kept.once c in omega (arith, same, most);
    mine = ap (λ x. are_mine 0 x.pairs) room ∙ kept.mine;
    new_names = kept.new_names;
  };
}

-- a request for bytes that are all 0

pub makes-cleared :
    (L : SessionLaws) (s : SessionView) → IsKept s → (b : Account) → HasMoreRoom s.at.book b → (n m : ℕ) (got : Result BlockView CallocFault) (w : AtView)
    → Callocs (roomier s b) s.zone.zone n m got w → IsOrderly w.book → IsPlacedIf got → MakesCleared s n m got (moved s w)
makes-cleared L s kept b room n m (Ok x) w asked orderly placed = (asked.0, makes L s kept b room (n * m) 16 (Ok x) w asked.1 orderly placed, asked.2)
makes-cleared L s kept b room n m (Err (calloc.Null e)) w asked orderly placed = (asked.0, makes L s kept b room (n * m) 16 (Err e) w asked.1 orderly tt)
makes-cleared L s kept b room n m (Err calloc.Overflow) w asked orderly placed = (asked.0, subst (λ v. Rests s [] (moved s v)) (sym asked.1) (rests s [] kept b room))

-- a request at an alignment

pub makes-aligned :
    (L : SessionLaws) (s : SessionView) → IsKept s → (b : Account) → HasMoreRoom s.at.book b → (al n : ℕ) (got : Result BlockView AlignFault) (w : AtView)
    → Memaligns (roomier s b) s.zone.zone al n got w → IsOrderly w.book → IsPlacedIf got → MakesAligned s al n got (moved s w)
makes-aligned L s kept b room al n (Ok x) w asked orderly placed = (alignment-tested al asked.0, makes L s kept b room n (max al 16) (Ok x) w asked.1 orderly placed)
makes-aligned L s kept b room al n (Err (align.Null e)) w asked orderly placed = (alignment-tested al asked.0, makes L s kept b room n (max al 16) (Err e) w asked.1 orderly tt)
makes-aligned L s kept b room al n (Err align.BadAlign) w asked orderly placed = (alignment-refused al asked.0, subst (λ v. Rests s [] (moved s v)) (sym asked.1) (rests s [] kept b room))

-- no block that is kept is denied
pub not-denied : (s : SessionView) (x : BlockView) (loose : List BlockView) → Keeps s (x ∷ loose) → x.zone ≡ s.zone.zone
not-denied s x loose kept = (kept.ours x (kept-loose s (x ∷ loose) x (there-first x loose))).zone ∙ sym kept.zone

-- a block ended by its size, or didn't

pub ends-of-size :
    (L : SessionLaws) (s : SessionView) (x : BlockView) → Keeps s (x ∷ []) → IsOrderly s.at.book → (b : Account) → HasMoreRoom s.at.book b → (n : ℕ)
    (got : Result (Unit {0}) SizeFault) (w : AtView) → FreesOfSize (roomier s b) s.zone.zone x n got w → IsOrderly w.book → EndsOfSize s x n got (moved s w)
ends-of-size L s x kept before b room n (Ok u) w freed orderly = (right-size-tested x n freed.0, ends L s x kept before b room w u freed.1 orderly)
ends-of-size L s x kept before b room n (Err (size.NotLive e)) w freed orderly = absurd (freed.freed.0 (not-denied s x [] kept))
ends-of-size L s x kept before b room n (Err (size.WrongSize c held)) w freed orderly = (
  wrong-size-tested x n freed.1,
  freed.2,
  freed.3,
  subst (λ v. Rests s (x ∷ []) (moved s v)) (sym freed.4) (rests s (x ∷ []) kept b room),
)

-- what a session asks for, and what it keeps then

pub can-ask : (s : SessionView) (loose : List BlockView) → Keeps s loose → CanAsk s 40 (λ v. CanCall v s.zone.profile s.zone.zone 40)
can-ask s loose kept = λ orderly b room many. can-call s loose kept b room 40 many

pub can-hand-in : (L : SessionLaws) (s : SessionView) (x : BlockView) → Keeps s (x ∷ []) → CanAsk s 40 (λ v. CanCall v s.zone.profile s.zone.zone 40 × IsHandedIn v x)
can-hand-in L s x kept = λ orderly b room many. (can-call s (x ∷ []) kept b room 40 many, handed-in L s x [] kept orderly b room)

pub asked-makes :
    (L : SessionLaws) (s t : SessionView) → IsKept s → (n al : ℕ) (got : Result BlockView Null) → HasAsked s (λ v o w. Answers v s.zone.zone n al o w) got t → IsPlacedIf got
    → Makes s n al got t
asked-makes L s t kept n al got asked placed =
    subst (Makes s n al got) (sym asked.keeps) (makes L s kept asked.book asked.room n al got t.at asked.does asked.after placed)

pub asked-cleared :
    (L : SessionLaws) (s t : SessionView) → IsKept s → (n m : ℕ) (got : Result BlockView CallocFault) → HasAsked s (λ v o w. Callocs v s.zone.zone n m o w) got t → IsPlacedIf got
    → MakesCleared s n m got t
asked-cleared L s t kept n m got asked placed =
    subst (MakesCleared s n m got) (sym asked.keeps) (makes-cleared L s kept asked.book asked.room n m got t.at asked.does asked.after placed)

pub asked-aligned :
    (L : SessionLaws) (s t : SessionView) → IsKept s → (al n : ℕ) (got : Result BlockView AlignFault) → HasAsked s (λ v o w. Memaligns v s.zone.zone al n o w) got t → IsPlacedIf got
    → MakesAligned s al n got t
asked-aligned L s t kept al n got asked placed =
    subst (MakesAligned s al n got) (sym asked.keeps) (makes-aligned L s kept asked.book asked.room al n got t.at asked.does asked.after placed)

pub asked-ends :
    (L : SessionLaws) (s t : SessionView) (x : BlockView) → Keeps s (x ∷ []) → (got : Result (Unit {0}) NotLiveBlock) (u : Unit {0}) → got ≡ Ok u
    → HasAsked s (λ v o w. Frees v s.zone.zone x o w) got t → Ends s x t
asked-ends L s t x kept got u is asked =
    let freed : Frees (roomier s asked.book) s.zone.zone x (Ok u) t.at = subst (λ o. Frees (roomier s asked.book) s.zone.zone x o t.at) is asked.does in
    subst (Ends s x) (sym asked.keeps) (ends L s x kept asked.before asked.book asked.room t.at u freed asked.after)

pub asked-denied :
    (s t : SessionView) (x : BlockView) → Keeps s (x ∷ []) → (got : Result (Unit {0}) NotLiveBlock) (e : NotLiveBlock) → got ≡ Err e
    → HasAsked s (λ v o w. Frees v s.zone.zone x o w) got t → ⊥
asked-denied s t x kept got e is asked =
    let freed : Frees (roomier s asked.book) s.zone.zone x (Err e) t.at = subst (λ o. Frees (roomier s asked.book) s.zone.zone x o t.at) is asked.does in
    freed.freed.0 (not-denied s x [] kept)

pub asked-ends-of-size :
    (L : SessionLaws) (s t : SessionView) (x : BlockView) → Keeps s (x ∷ []) → (n : ℕ) (got : Result (Unit {0}) SizeFault) → HasAsked s (λ v o w. FreesOfSize v s.zone.zone x n o w) got t
    → EndsOfSize s x n got t
asked-ends-of-size L s t x kept n got asked =
    subst (EndsOfSize s x n got) (sym asked.keeps) (ends-of-size L s x kept asked.before asked.book asked.room n got t.at asked.does asked.after)
