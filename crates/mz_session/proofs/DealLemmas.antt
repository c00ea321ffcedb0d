-- Slots that go from the one seat to itself: its hand has the same ones then, maybe in another order.
use Rattle.std.proofs.Common.{◌≡◌, ◌∙◌, ℕ, ◌==◌, true, false, List, [], ◌∷◌, ◌++◌, map, refl, ap, sym, subst, inl, inr, eq-eqb, arith, append-nil}
use Rattle.std.proofs.lemmas.Bool.{cases_Bool, false≢true, and_parts, and_from, eqb-true, cond-true, cond-false}
use Rattle.std.specs.Prelude.{◌-◌, ◌<◌, ◌≤◌, ◌⊎◌, length, slice_index_or, Contains, Option, Some, None}
use Rattle.std.specs.Option.{option_map}
use Rattle.std.proofs.lemmas.Option.{none-some}
use Rattle.std.proofs.lemmas.List.{map-append}
use Rattle.mz_base.specs.Space.{Block, same_block}
use Rattle.mz_book.specs.Account.{IsOrderly}
use Rattle.mz_book.specs.Living.{times}
use Rattle.mz_nano.specs.declared.deal.Deal.{Deal}
use Rattle.mz_nano.specs.declared.view.Held.{Held}
use Rattle.mz_nano.specs.Lists.{In, is_at, without}
use Rattle.mz_nano.specs.Rule.{Once, held}
use Rattle.mz_nano.specs.SeatMoves.{class_in}
use Rattle.mz_nano.specs.Deals.{hands_of, moved, dealt, CanMove, MovesOnce, CanDeal}
use Rattle.mz_nano.specs.SeatLists.{AreAllOf, hand_of, first_of, blocks_of, space_of, seats_of}
use Rattle.mz_nano.specs.declared.nano.Nano.{Nano}
use Rattle.mz_nano.specs.declared.seat.NanoSeat.{NanoSeat}
use Rattle.mz_zone.specs.Blocks.{block_of, slot_added}
use Rattle.mz_zone.specs.Calling.{Seated, IsSeated, IsSeatedAt, IsInSeat, HasSlot}
use Rattle.mz_zone.specs.Counts.{has_nano}
use Rattle.mz_session.specs.declared.parcel.Parcel.{Parcel}
use Rattle.mz_session.specs.Seats.{HasOneSeat, deal_of, seat_of}
use Rattle.mz_session.specs.Giving.{slots_of}
use Rattle.mz_session.specs.SessionLaws.{SessionLaws}
use Rattle.mz_session.specs.Sessions.{SessionView, views_kept, IsKept}
use Rattle.mz_session.specs.Serving.{AreAtRest}
use Rattle.mz_session.proofs.CountLemmas.{some-is, same-self, same-is, one-true, count-cons}
use Rattle.mz_session.proofs.KeepLemmas.{views_coming, kept-counted, kept-coming, view-counted, there-first, there-behind, there-cases}
use Rattle.mz_session.proofs.PlaceLemmas.{one-slot}

-- a hand without a slot

in-without : (b j : ℕ) (h : Held) (hs : List Held) → In h hs → is_at b j h ≡ false → In h (without b j hs)
in-without b j h [] there other = absurd there
in-without b j h (x ∷ xs) there other = elim (cases_Bool (is_at b j x)) [
  | inl same ↦
      subst (λ l. In h l) (sym (cond-true (is_at b j x) (without b j xs) (x ∷ without b j xs) same))
      (elim there [ inl is ↦ absurd (false≢true (sym other ∙ (ap (is_at b j) is ∙ same))) | inr rest ↦ in-without b j h xs rest other ])
  | inr kept ↦
      subst (λ l. In h l) (sym (cond-false (is_at b j x) (without b j xs) (x ∷ without b j xs) kept))
      (elim there as (λ o. In h (x ∷ without b j xs)) [ inl is ↦ inl is | inr rest ↦ inr (in-without b j h xs rest other) ])
]

-- has some of its slots
without-in : (b j : ℕ) (h : Held) (hs : List Held) → In h (without b j hs) → In h hs
without-in b j h [] there = there
without-in b j h (x ∷ xs) there = elim (cases_Bool (is_at b j x)) [
  | inl same ↦ inr (without-in b j h xs (subst (λ l. In h l) (cond-true (is_at b j x) (without b j xs) (x ∷ without b j xs) same) there))
  | inr kept ↦
      elim (subst (λ l. In h l) (cond-false (is_at b j x) (without b j xs) (x ∷ without b j xs) kept) there) as (λ o. In h (x ∷ xs))
      [ inl is ↦ inl is | inr rest ↦ inr (without-in b j h xs rest) ]
]

-- and that one isn't among these
without-other : (b j : ℕ) (h : Held) (hs : List Held) → In h (without b j hs) → is_at b j h ≡ false
without-other b j h [] there = absurd there
without-other b j h (x ∷ xs) there = elim (cases_Bool (is_at b j x)) [
  | inl same ↦ without-other b j h xs (subst (λ l. In h l) (cond-true (is_at b j x) (without b j xs) (x ∷ without b j xs) same) there)
  | inr kept ↦
      elim (subst (λ l. In h l) (cond-false (is_at b j x) (without b j xs) (x ∷ without b j xs) kept) there) [
        | inl is ↦ ap (is_at b j) is ∙ kept
        | inr rest ↦ without-other b j h xs rest
      ]
]

once-without : (b j : ℕ) (hs : List Held) → Once hs → Once (without b j hs)
once-without b j [] once = tt
once-without b j (x ∷ xs) once = elim (cases_Bool (is_at b j x)) [
  | inl same ↦ subst Once (sym (cond-true (is_at b j x) (without b j xs) (x ∷ without b j xs) same)) (once-without b j xs once.1)
  | inr kept ↦
      subst Once (sym (cond-false (is_at b j x) (without b j xs) (x ∷ without b j xs) kept))
      (λ c there. once.0 c (without-in b j (held x.block x.slot c) xs there), once-without b j xs once.1)
]

is-at-self : (b j c : ℕ) → is_at b j (held b j c) ≡ true
is-at-self b j c = and_from (b == b) (j == j) (eq-eqb b b refl) (eq-eqb j j refl)

-- what is at a slot is that slot, of some class
at-slot : (b j : ℕ) (h : Held) → is_at b j h ≡ true → h ≡ held b j h.class
at-slot b j h same =
    let parts = and_parts (h.block == b) (h.slot == j) same in
    ap (λ n. record { block = n; slot = h.slot; class = h.class }) (eqb-true h.block b parts.0) ∙ ap (λ n. record { block = b; slot = n; class = h.class }) (eqb-true h.slot j parts.1)

-- where no slot is there twice, its class is that which is found
class-is : (b j : ℕ) (h : Held) (hs : List Held) → Once hs → In h hs → is_at b j h ≡ true → class_in b j hs ≡ h.class
class-is b j h [] once there same = absurd there
class-is b j h (x ∷ xs) once (inl is) same =
    cond-true (is_at b j x) x.class (class_in b j xs) (sym (ap (is_at b j) is) ∙ same) ∙ sym (ap (λ k. k.class) is)
class-is b j h (x ∷ xs) once (inr rest) same = elim (cases_Bool (is_at b j x)) [
  | inl first ↦
      let one : h ≡ held x.block x.slot h.class =
      at-slot b j h same ∙ ap (λ k. held k.block k.slot h.class) (sym (at-slot b j x first)) in
      absurd (once.0 h.class (subst (λ k. In k xs) one rest))
  | inr other ↦ cond-false (is_at b j x) x.class (class_in b j xs) other ∙ class-is b j h xs once.1 rest same
]

-- the hand when one of its slots went from the seat to itself
abbrev hand_behind : Held → List Held → List Held
hand_behind h hand = held h.block h.slot (class_in h.block h.slot hand) ∷ without h.block h.slot hand

moved-one : (h : Held) (hand : List Held) → moved (deal_of h) (hand ∷ []) ≡ hand_behind h hand ∷ []
moved-one h hand = refl

once-behind : (h : Held) (hand : List Held) → Once hand → Once (hand_behind h hand)
once-behind h hand once =
    (λ c there. false≢true (sym (without-other h.block h.slot (held h.block h.slot c) hand there) ∙ is-at-self h.block h.slot c), once-without h.block h.slot hand once)

still-in : (h g : Held) (hand : List Held) → Once hand → In g hand → In g (hand_behind h hand)
still-in h g hand once there = elim (cases_Bool (is_at h.block h.slot g)) [
  | inl same ↦ inl (at-slot h.block h.slot g same ∙ ap (held h.block h.slot) (sym (class-is h.block h.slot g hand once there same)))
  | inr other ↦ inr (in-without h.block h.slot g hand there other)
]

-- the hand after all deals
pub record StaysIn (hand : List Held) (hands : List (List Held)) : Type 0 where
  pub hand_now : List Held
  pub is : hands ≡ hand_now ∷ []
  pub still : (g : Held) → In g hand → In g hand_now

pub dealt-same : (hs hand : List Held) → Once hand → StaysIn hand (dealt (map deal_of hs) (hand ∷ []))
dealt-same [] hand once = record { hand_now = hand; is = refl; still = λ g there. there }
dealt-same (h ∷ hs) hand once =
    let rest = dealt-same hs (hand_behind h hand) (once-behind h hand once) in
    record { hand_now = rest.hand_now; is = rest.is; still = λ g there. rest.still g (still-in h g hand once there) }

-- slots of the hand, none of them twice, can be dealt

in-deals : (d : Deal) (hs : List Held) → In d (map deal_of hs) → (h : Held) × In h hs × (d ≡ deal_of h)
in-deals d [] there = absurd there
in-deals d (h ∷ hs) (inl is) = (h, inl refl, is)
in-deals d (h ∷ hs) (inr rest) = let found = in-deals d hs rest in (found.0, inr found.1, found.2)

moves-once : (hs : List Held) → Once hs → MovesOnce (map deal_of hs)
moves-once [] once = tt
moves-once (h ∷ hs) once = (
  λ e there block slot.
      let found = in-deals e hs there in
      let same : found.0 ≡ held h.block h.slot found.0.class =
      ap (λ n. record { block = n; slot = found.0.slot; class = found.0.class }) (sym (ap (λ d. d.block) found.2) ∙ block)
      ∙ ap (λ n. record { block = h.block; slot = n; class = found.0.class }) (sym (ap (λ d. d.slot) found.2) ∙ slot) in
      once.0 found.0.class (subst (λ k. In k hs) same found.1),
  moves-once hs once.1,
)

pub can-deal : (hs hand : List Held) → Once hs → ((h : Held) → In h hs → In h hand) → CanDeal (map deal_of hs) (hand ∷ [])
can-deal hs hand once there = record {
  each = λ d listed.
      let found = in-deals d hs listed in
      subst (λ x. CanMove x (hand ∷ [])) (sym found.2) (record { from = omega arith; to = omega arith; class_ = found.0.class; mine = there found.0 found.1 });
  once = moves-once hs once;
}

-- the slots of the blocks on their way, as many as are blocks of nano

-- with one more block
pub slots-more : (gs : List Parcel) (g : Parcel) → slots_of (gs ++ g ∷ []) ≡ slots_of gs ++ slot_added g.block.slot []
slots-more [] g = refl
slots-more (x ∷ gs) g = ap (slot_added x.block.slot) (slots-more gs g) ∙ added-front x.block.slot (slots_of gs) (slot_added g.block.slot [])
  where
    added-front : (o : Option Held) (hs ks : List Held) → slot_added o (hs ++ ks) ≡ slot_added o hs ++ ks
    added-front None hs ks = refl
    added-front (Some h) hs ks = refl

-- the number of a slot's block and its own there
abbrev pub told : Held → ℕ × ℕ
told h = (h.block, h.slot)

-- and their deals, where its slot was told
deal-told : (s : Option Held) (x : ℕ × ℕ) → Some x ≡ option_map told s → map deal_of (slot_added s []) ≡ record { block = x.0; slot = x.1; from = 0; to = 0 } ∷ []
deal-told None x is = absurd (none-some x (sym is))
deal-told (Some h) x is = ap (λ (y : ℕ × ℕ). record { block = y.0; slot = y.1; from = 0; to = 0 } ∷ []) (some-is (told h) x (sym is))

deal-untold : (s : Option Held) → None ≡ option_map told s → map deal_of (slot_added s []) ≡ []
deal-untold None is = refl
deal-untold (Some h) is = absurd (none-some (told h) is)

deals-behind : (gs : List Parcel) (g : Parcel) (ds es : List Deal) → ds ≡ map deal_of (slots_of gs) → map deal_of (slot_added g.block.slot []) ≡ es → ds ++ es ≡ map deal_of (slots_of (gs ++ g ∷ []))
deals-behind gs g ds es before last =
    ap (λ l. l ++ es) before ∙ ap (λ l. map deal_of (slots_of gs) ++ l) (sym last) ∙ sym (map-append deal_of (slots_of gs) (slot_added g.block.slot [])) ∙ ap (map deal_of) (sym (slots-more gs g))

pub deals-more :
    (gs : List Parcel) (g : Parcel) (ds : List Deal) (x : ℕ × ℕ) → ds ≡ map deal_of (slots_of gs) → Some x ≡ option_map told g.block.slot
    → ds ++ record { block = x.0; slot = x.1; from = 0; to = 0 } ∷ [] ≡ map deal_of (slots_of (gs ++ g ∷ []))
deals-more gs g ds x before told = deals-behind gs g ds (record { block = x.0; slot = x.1; from = 0; to = 0 } ∷ []) before (deal-told g.block.slot x told)

pub deals-as-before :
    (gs : List Parcel) (g : Parcel) (ds : List Deal) → ds ≡ map deal_of (slots_of gs) → None ≡ option_map told g.block.slot → ds ≡ map deal_of (slots_of (gs ++ g ∷ []))
deals-as-before gs g ds before untold = sym (append-nil ds) ∙ deals-behind gs g ds [] before (deal-untold g.block.slot untold)

in-case : (o : Option Held) (rest : List Held) (h : Held) → In h (slot_added o rest) → (o ≡ Some h) ⊎ In h rest
in-case None rest h there = inr there
in-case (Some x) rest h (inl is) = inl (ap Some (sym is))
in-case (Some x) rest h (inr later) = inr later

in-slots : (gs : List Parcel) (h : Held) → In h (slots_of gs) → (g : Parcel) × Contains gs g × (g.block.slot ≡ Some h)
in-slots [] h there = absurd there
in-slots (g ∷ gs) h there = elim (in-case g.block.slot (slots_of gs) h there) [
  | inl is ↦ (g, there-first g gs, is)
  | inr rest ↦ let found = in-slots gs h rest in (found.0, there-behind g found.0 gs found.1, found.2)
]

once-case : (o : Option Held) (rest : List Held) → ((h : Held) → o ≡ Some h → (c : ℕ) → In (held h.block h.slot c) rest → ⊥) → Once rest → Once (slot_added o rest)
once-case None rest others once = once
once-case (Some h) rest others once = (others h refl, once)

coming-there : (gs : List Parcel) (g : Parcel) → Contains gs g → Contains (views_coming gs) g.block
coming-there [] g there = absurd (let low = there.1 in omega (arith, low))
coming-there (x ∷ gs) g there = elim (there-cases x g gs there) [
  | inl is ↦ subst (λ y. Contains (x.block ∷ views_coming gs) y.block) is (there-first x.block (views_coming gs))
  | inr rest ↦ there-behind x.block g.block (views_coming gs) (coming-there gs g rest)
]

module _ (L : SessionLaws) (s : SessionView) (kept : IsKept s) (orderly : IsOrderly s.at.book) where
  -- no two blocks have one
  slots-once : (gs : List Parcel) → ((g : Parcel) → Contains gs g → Contains (views_kept s []) g.block) → ((b : Block) → times b (map block_of (views_coming gs)) ≤ 1) → Once (slots_of gs)
  slots-once [] there few = tt
  slots-once (g ∷ gs) there few =
      once-case g.block.slot (slots_of gs)
      (λ h is c listed.
      let found = in-slots gs (held h.block h.slot c) listed in
      let same = one-slot L s [] kept orderly g.block found.0.block h (held h.block h.slot c) (there g (there-first g gs)) (there found.0 (there-behind g found.0 gs found.1)) is found.2 refl refl in
      let block = same-is (block_of g.block) (block_of found.0.block) same in
      let again = subst (λ b. 1 ≤ times b (map block_of (views_coming gs))) (sym block) (view-counted (views_coming gs) found.0.block (coming-there gs found.0 found.1)) in
      let whole = count-cons (block_of g.block) (block_of g.block) (map block_of (views_coming gs)) in
      let one = one-true (same_block (block_of g.block) (block_of g.block)) (same-self (block_of g.block)) in
      let most = few (block_of g.block) in
      absurd (omega (arith, again, whole, one, most)))
      (slots-once gs (λ x listed. there x (there-behind g x gs listed))
      (λ b. let most = few b in let whole = count-cons b (block_of g.block) (map block_of (views_coming gs)) in omega (arith, most, whole)))

  -- and all of these are in the seat's hand
  slots-in-hand : (x : Seated) → s.at.nano ≡ Some x → (h : Held) → In h (slots_of s.parcels) → In h (hand_of x.seat)
  slots-in-hand x is h listed =
      let found = in-slots s.parcels h listed in
      let ours = kept.ours found.0.block (kept-coming s [] found.0.block (coming-there s.parcels found.0 found.1)) in
      (subst (λ n. HasSlot n found.0.block.base (Some h)) is (subst (HasSlot s.at.nano found.0.block.base) found.2 ours.slot)).1

  -- so they can be dealt
  pub can-deal-parcels : (x : Seated) → s.at.nano ≡ Some x → CanDeal (map deal_of (slots_of s.parcels)) (hand_of x.seat ∷ [])
  can-deal-parcels x is =
      can-deal (slots_of s.parcels) (hand_of x.seat)
      (slots-once s.parcels (λ g listed. kept-coming s [] g.block (coming-there s.parcels g listed))
      (λ b.
      let all = kept-counted s [] b in
      let hand = kept.in_hand b in
      let once = kept.once b in
      omega (arith, all, hand, once)))
      (slots-in-hand x is)

-- the session with another seat
abbrev pub with_nano : SessionView → Option Seated → SessionView
with_nano s n = record s { at = record s.at { nano = n } }

slot-case : (o n : Option Seated) (base : ℕ) (slot : Option Held) → ((h : Held) → HasSlot o base (Some h) → HasSlot n base (Some h)) → HasSlot o base slot → HasSlot n base slot
slot-case o n base None moves has = tt
slot-case o n base (Some h) moves has = moves h has

pub keeps-seat :
    (s : SessionView) (n : Option Seated) → IsKept s → IsSeatedAt s.at.book n → has_nano n ≡ has_nano s.at.nano → HasOneSeat n → ((base : ℕ) (h : Held) → HasSlot s.at.nano base (Some h) → HasSlot n base (Some h))
    → IsKept (with_nano s n)
keeps-seat s n kept seated there one moves = record {
  profile = kept.profile;
  zone = kept.zone;
  for_one = kept.for_one;
  caller = kept.caller;
  alone = kept.alone;
  zone_open = kept.zone_open;
  nothing_held = kept.nothing_held;
  seated = seated;
  nano = there ∙ kept.nano;
  one_seat = one;
  ours = λ b there. let ours = kept.ours b there in record { zone = ours.zone; space = ours.space; slot = slot-case s.at.nano n b.base b.slot (moves b.base) ours.slot; place = ours.place };
  in_hand = kept.in_hand;
  once = kept.once;
  mine = kept.mine;
  new_names = kept.new_names;
}

one-of : {A : Type 0} (xs : List A) → length xs ≡ 1 → (x : A) × (xs ≡ x ∷ [])
one-of [] count = absurd (omega (arith, count))
one-of (x ∷ []) count = (x, refl)
one-of (x ∷ y ∷ xs) count = absurd (omega (arith, count))

head-is : (a b : List Held) → a ∷ [] ≡ b ∷ [] → a ≡ b
head-is a b same = ap (λ l. elim l [ [] ↦ a | x ∷ xs ↦ x ]) same

-- what was dealt is in the hand of the one seat again, and nothing else has changed
pub rests-dealt :
    (s : SessionView) (x : Seated) (nano : Nano) (seats : List NanoSeat) (got : Option NanoSeat) → IsKept s → s.at.nano ≡ Some x → Once (hand_of x.seat) → nano ≡ x.nano → AreAllOf nano seats
    → hands_of seats ≡ dealt (map deal_of (slots_of s.parcels)) (hand_of x.seat ∷ [])
    → ((d : NanoSeat) → 0 < length seats → got ≡ Some (slice_index_or seats (length seats - 1) d))
    → AreAtRest s (with_nano s (seat_of (Some nano) got))
rests-dealt s x nano seats got kept is once same all hands last =
    let single : seats_of x.nano ≡ 1 = subst HasOneSeat is kept.one_seat in
    let count : length seats ≡ 1 = all.0 ∙ ap seats_of same ∙ single in
    let one = one-of seats count in
    let y : NanoSeat = one.0 in
    let got_is : got ≡ Some y = last y (omega (arith, count)) ∙ ap (λ l. Some (slice_index_or l (length l - 1) y)) one.1 in
    let stays = dealt-same (slots_of s.parcels) (hand_of x.seat) once in
    let hand : hand_of y ≡ stays.hand_now = head-is (hand_of y) stays.hand_now (sym (ap hands_of one.1) ∙ hands ∙ stays.is) in
    let z : Seated = record { nano = nano; seat = y } in
    let now : seat_of (Some nano) got ≡ Some z = ap (seat_of (Some nano)) got_is in
    let was : IsSeated s.at.book x = subst (IsSeatedAt s.at.book) is kept.seated in
    let seated : IsSeated s.at.book z = record {
      seat = all.1 y (subst (In y) (sym one.1) (inl refl));
      first = ap first_of same ∙ was.first;
      blocks = ap blocks_of same ∙ was.blocks;
      space = ap space_of same ∙ was.space;
    } in
    let moves : (base : ℕ) (h : Held) → HasSlot s.at.nano base (Some h) → HasSlot (Some z) base (Some h) = λ base h has.
    let slot : IsInSeat (Some x) base h = subst (λ n. HasSlot n base (Some h)) is has in
    (slot.0 ∙ ap first_of (sym same), subst (In h) (sym hand) (stays.still h slot.1)) in
    let rests : AreAtRest s (with_nano s (Some z)) = record { zone = refl; book = refl; blocks = refl; parcels = refl; kept = keeps-seat s (Some z) kept seated (ap has_nano (sym is)) (ap seats_of same ∙ single) moves } in
    subst (λ n. AreAtRest s (with_nano s n)) (sym now) rests
