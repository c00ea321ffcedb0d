-- Blocks that are freed one after another.
use Rattle.std.proofs.Common.{◌≡◌, ℕ, ◌+◌, ◌-◌, ◌*◌, ◌≤◌, Bool, true, false, List, [], ◌∷◌, ◌++◌, Option, None, Some, length, map, reverse, refl, ap, sym, subst, ◌∙◌, arith, inl, inr, append_assoc, append-nil}
use Rattle.std.specs.Prelude.{Ok, Err, fold, not, ◌==◌, ◌≢◌, Contains}
use Rattle.std.specs.List.{AllByRecursion}
use Rattle.std.proofs.lemmas.Bool.{and_parts, or_parts, and_from, eqb-true, eq-eqb, false≢true}
use Rattle.std.proofs.lemmas.List.{reverse-reverse, reverse-append, length-reverse, length-append, nil_from_length}
use Rattle.std.proofs.lemmas.List.Elements.{Contains-append_left, Contains-append_right}
use Rattle.std.proofs.lemmas.Map.Views.{any-filter_same}
use Rattle.mz_base.specs.declared.profile.Profile.{Profile}
use Rattle.mz_base.specs.Lists.{has_block, drop_block}
use Rattle.mz_base.specs.Space.{Block, block_at, same_block}
use Rattle.mz_events.specs.declared.entry.Entry.{Entry}
use Rattle.mz_events.specs.State.{opening}
use Rattle.mz_events.specs.History.{AreLawful}
use Rattle.mz_record.specs.Dropped.{DropInTurn, IsNotOfZone}
use Rattle.mz_book.specs.Account.{HoldsNothing, IsOrderly, hand}
use Rattle.mz_book.specs.Pairs.{hand_among}
use Rattle.mz_nano.specs.declared.view.Held.{Held}
use Rattle.mz_nano.specs.Lists.{In, is_at, without}
use Rattle.mz_nano.specs.Rule.{Once, held}
use Rattle.mz_nano.specs.SeatLists.{first_of, hand_of}
use Rattle.mz_zone.specs.declared.fault.NotLiveBlock.{NotLiveBlock}
use Rattle.mz_zone.specs.Blocks.{BlockView, IsAtSlotIf, IsAtItsSlot, block_of, hand_without, slot_dropped}
use Rattle.mz_zone.specs.Batches.{AreOther, AreHandedIn, FreesBatch}
use Rattle.mz_zone.specs.Calling.{AtView, Seated, CanCall, Goes, HasSlot, IsHandedIn, IsSeatedAt, StaysSeated, hand_at, hand_in}
use Rattle.mz_zone.specs.Counts.{counts_of}
use Rattle.mz_zone.specs.Freeing.{Frees}
use Rattle.mz_zone.specs.ZoneLaws.{ZoneLaws}
use Rattle.mz_zone.proofs.Freed.{can_fewer}
use Rattle.mz_zone.proofs.Going.{goes_on, goes_nowhere}
use Rattle.mz_zone.proofs.Moved.{can_then, seated_after}
use Rattle.mz_zone.proofs.Noted.{dropped_on, noted_seen}

-- these blocks were freed one after another
abbrev pub FreesInTurn : AtView → ℕ → List BlockView → AtView → Type 0
FreesInTurn v z [] w = w ≡ v
FreesInTurn v z (b ∷ bs) w = (u : AtView) × Frees v z b (Ok tt) u × FreesInTurn u z bs w

pub in_turn_after : (z : ℕ) (bs : List BlockView) (b : BlockView) (v u w : AtView) → FreesInTurn v z bs u → Frees u z b (Ok tt) w → FreesInTurn v z (bs ++ b ∷ []) w
in_turn_after z [] b v u w first f = subst (λ x. FreesInTurn x z (b ∷ []) w) first (w, f, refl)
in_turn_after z (c ∷ bs) b v u w (x, f, rest) g = (x, f, in_turn_after z bs b x u w rest g)

-- and all together
pub record AreFreed (v : AtView) (z : ℕ) (bs : List BlockView) (w : AtView) : Type 0 where
  pub mine : List Entry
  pub few : length mine ≤ 3 * length bs
  pub goes : Goes v mine w
  pub of_zone : AllByRecursion (λ b. b.zone ≡ z) bs
  pub drop : DropInTurn v.book.profile w.book.seen (map block_of bs) mine
  pub hand : hand_at w ≡ fold (λ hand b. hand_without b hand) (hand_at v) bs
  pub counts : counts_of w ≡ counts_of v

pub all_freed :
    (laws : ZoneLaws) (z : ℕ) (bs : List BlockView) (v w : AtView) → HoldsNothing v.book → IsSeatedAt v.book v.nano → IsOrderly w.book
    → FreesInTurn v z bs w → AreFreed v z bs w
all_freed laws z [] v w held seat orderly e = subst (λ x. AreFreed v z [] x) (sym e) none
  where
    none : AreFreed v z [] v
    none = record { mine = []; few = omega arith; goes = goes_nowhere laws v held seat; of_zone = tt; drop = refl; hand = refl; counts = refl }
all_freed laws z (b ∷ bs) v w held seat orderly (u, f, rest) =
    let same = f.goes.adds.same in
    let t : AreFreed u z bs w = all_freed laws z bs u w f.goes.nothing_held (seated_after v.book u.book v.nano u.nano f.goes.nano same.profile same.site seat) orderly rest in
    record {
      mine = f.mine ++ t.mine;
      few = let e = length-append f.mine t.mine in let m = f.few in let n = t.few in omega (arith, e, m, n);
      goes = goes_on laws v u w f.mine t.mine f.goes t.goes;
      of_zone = (f.freed.0, t.of_zone);
      drop = (
        f.mine,
        t.mine,
        refl,
        dropped_on laws v u w f.mine t.mine (block_of b) f.goes t.goes orderly f.freed.1,
        subst (λ (p : Profile). DropInTurn p w.book.seen (map block_of bs) t.mine) same.profile t.drop,
      );
      hand = t.hand ∙ ap (λ hs. fold (λ hand c. hand_without c hand) hs bs) f.hand;
      counts = t.counts ∙ f.counts;
    }

-- the pairs that are left in the hand
pub hand_left_after :
    (laws : ZoneLaws) (z : ℕ) (bs : List BlockView) (v w : AtView) → FreesInTurn v z bs w
    → hand w.book ≡ fold (λ hand b. drop_block (block_of b) hand) (hand v.book) bs
hand_left_after laws z [] v w e = ap (λ x. hand x.book) e
hand_left_after laws z (b ∷ bs) v w (u, f, rest) =
    let once : hand u.book ≡ drop_block (block_of b) (hand v.book) =
    ap (λ c. hand_among c u.book.pairs) f.goes.adds.same.caller
    ∙ (ap (hand_among v.book.caller) f.goes.adds.pairs
    ∙ (laws.through v.book.caller v.book.pairs f.mine ∙ laws.hand_dropped v.book.profile u.book.seen (block_of b) f.mine (hand v.book) f.freed.1)) in
    hand_left_after laws z bs u w rest ∙ ap (λ hs. fold (λ hand c. drop_block (block_of c) hand) hs bs) once

-- a call may be made where there was room for one more
pub can_free_next :
    (v u : AtView) (p : Profile) (z n : ℕ) (b : BlockView) → CanCall v p z (40 * (n + 1)) → Frees v z b (Ok tt) u → CanCall u p z (40 * n)
can_free_next v u p z n b can f =
    can_then v u p z (40 * (n + 1)) (40 * n) f.mine can f.goes
    (let e : u.book.spare ≡ v.book.spare - length f.mine = f.goes.adds.spare in let r : 40 * (n + 1) ≤ v.book.spare = can.serve.room in let few = f.few in omega (arith, e, r, few))

-- slots at one place of a hand that has none twice are one
same_slot : (hs : List Held) (h k : Held) → Once hs → In h hs → In k hs → k.block ≡ h.block → k.slot ≡ h.slot → k ≡ h
same_slot [] h k once i j b s = absurd i
same_slot (x ∷ hs) h k once (inl p) (inl q) b s = q ∙ sym p
same_slot (x ∷ hs) h k once (inl p) (inr j) b s =
    let block : k.block ≡ x.block = b ∙ ap (λ (y : Held). y.block) p in
    let slot : k.slot ≡ x.slot = s ∙ ap (λ (y : Held). y.slot) p in
    let same : k ≡ held x.block x.slot k.class = ap (λ i. held i k.slot k.class) block ∙ ap (λ i. held x.block i k.class) slot in
    absurd (once.0 k.class (subst (λ y. In y hs) same j))
same_slot (x ∷ hs) h k once (inr i) (inl q) b s =
    let block : h.block ≡ x.block = sym b ∙ ap (λ (y : Held). y.block) q in
    let slot : h.slot ≡ x.slot = sym s ∙ ap (λ (y : Held). y.slot) q in
    let same : h ≡ held x.block x.slot h.class = ap (λ i. held i h.slot h.class) block ∙ ap (λ i. held x.block i h.class) slot in
    absurd (once.0 h.class (subst (λ y. In y hs) same i))
same_slot (x ∷ hs) h k once (inr i) (inr j) b s = same_slot hs h k once.1 i j b s

-- h isn't at the place of the slot, where there is one
abbrev IsElsewhere : Held → Option Held → Type 0
IsElsewhere h None = Unit {0}
IsElsewhere h (Some q) = is_at q.block q.slot h ≡ false

-- of two blocks of nano that are no pair, neither is at the place of the other
elsewhere :
    (x : Seated) (c b : BlockView) (o : Option Held) (h : Held) → HasSlot (Some x) c.base o → HasSlot (Some x) b.base (Some h) → IsAtSlotIf c o
    → IsAtSlotIf b (Some h) → same_block (block_of c) (block_of b) ≡ false → IsElsewhere h o
elsewhere x c b None h in_o in_h at_o at_h apart = tt
elsewhere x c b (Some q) h in_o in_h at_o at_h apart = by_test (is_at q.block q.slot h) refl
  where
    by_test : (t : Bool) → is_at q.block q.slot h ≡ t → is_at q.block q.slot h ≡ false
    by_test false e = e
    by_test true e =
        let place = and_parts (h.block == q.block) (h.slot == q.slot) e in
        let one : h ≡ q = same_slot (hand_of x.seat) q h x.seat.once in_o.1 in_h.1 (eqb-true h.block q.block place.0) (eqb-true h.slot q.slot place.1) in
        let bases : b.base ≡ c.base = in_h.0 ∙ sym in_o.0 in
        let start : c.span.first ≡ b.span.first = at_o.first ∙ sym (at_h.first ∙ (ap (λ i. i + h.block * 16384 + 16 * h.class * h.slot) bases ∙ ap (λ (y : Held). c.base + y.block * 16384 + 16 * y.class * y.slot) one)) in
        let size : length c.span.bytes ≡ length b.span.bytes = at_o.size ∙ sym (at_h.size ∙ ap (λ (y : Held). 16 * y.class) one) in
        absurd (false≢true (sym apart
        ∙ and_from (c.span.first == b.span.first) (length c.span.bytes == length b.span.bytes) (eq-eqb c.span.first b.span.first start) (eq-eqb (length c.span.bytes) (length b.span.bytes) size)))

stays_in : (q h : Held) (hs : List Held) → is_at q.block q.slot h ≡ false → In h hs → In h (without q.block q.slot hs)
stays_in q h [] e i = absurd i
stays_in q h (x ∷ hs) e (inl p) = rw (subst (λ y. is_at q.block q.slot y ≡ false) p e) (inl p)
stays_in q h (x ∷ hs) e (inr i) = by_test (is_at q.block q.slot x) refl (stays_in q h hs e i)
  where
    by_test : (t : Bool) → is_at q.block q.slot x ≡ t → In h (without q.block q.slot hs) → In h (without q.block q.slot (x ∷ hs))
    by_test true t rest = rw t rest
    by_test false t rest = rw t (inr rest)

stays_without : (o : Option Held) (h : Held) (hs : List Held) → IsElsewhere h o → In h hs → In h (slot_dropped o hs)
stays_without None h hs e i = i
stays_without (Some q) h hs e i = stays_in q h hs e i

slot_stays_in :
    (bs : List BlockView) (h : Held) (hs : List Held) → AllByRecursion (λ b. IsElsewhere h b.slot) bs → In h hs → In h (fold (λ hand b. hand_without b hand) hs bs)
slot_stays_in [] h hs e i = i
slot_stays_in (b ∷ bs) h hs e i = slot_stays_in bs h (hand_without b hs) e.1 (stays_without b.slot h hs e.0 i)

-- a pair stays in a hand without others
one_block : (b c : Block) → same_block b c ≡ true → b ≡ c
one_block b c e =
    let t = and_parts (b.first == c.first) (b.size == c.size) e in
    ap (λ i. block_at i b.size) (eqb-true b.first c.first t.0) ∙ ap (λ i. block_at c.first i) (eqb-true b.size c.size t.1)

pair_stays_in : (x b : Block) (hs : List Block) → same_block x b ≡ false → has_block hs b ≡ true → has_block (drop_block x hs) b ≡ true
pair_stays_in x b hs e i = any-filter_same (same_block b) (λ c. not (same_block x c)) true is_other hs ∙ i
  where
    is_other : (c : Block) → same_block b c ≡ true → not (same_block x c) ≡ true
    is_other c s = ap not (subst (λ y. same_block x y ≡ false) (one_block b c s) e)

pairs_stay_in :
    (bs : List BlockView) (x : Block) (hs : List Block) → AllByRecursion (λ b. same_block (block_of b) x ≡ false) bs → has_block hs x ≡ true
    → has_block (fold (λ hand b. drop_block (block_of b) hand) hs bs) x ≡ true
pairs_stay_in [] x hs e i = i
pairs_stay_in (b ∷ bs) x hs e i = pairs_stay_in bs x (drop_block (block_of b) hs) e.1 (pair_stays_in (block_of b) x hs e.0 i)

-- Of blocks that are handed in, the first are none of the next one.
module _ (v : AtView) (b : BlockView) (rest : List BlockView) where
  next_is : (bs : List BlockView) → AllByRecursion (IsHandedIn v) (bs ++ b ∷ rest) → IsHandedIn v b
  next_is [] each = each.0
  next_is (c ∷ bs) each = next_is bs each.1

  not_among : (bs : List BlockView) (x : Block) → has_block (map block_of (bs ++ b ∷ rest)) x ≡ false → same_block x (block_of b) ≡ false
  not_among [] x e = (or_parts (same_block x (block_of b)) (has_block (map block_of rest) x) e).0
  not_among (c ∷ bs) x e = not_among bs x (or_parts (same_block x (block_of c)) (has_block (map block_of (bs ++ b ∷ rest)) x) e).1

  other_pairs : (bs : List BlockView) → AreOther (bs ++ b ∷ rest) → AllByRecursion (λ c. same_block (block_of c) (block_of b) ≡ false) bs
  other_pairs [] e = tt
  other_pairs (c ∷ bs) e = (not_among bs (block_of c) e.0, other_pairs bs e.1)

  first_slots : (bs : List BlockView) → AllByRecursion (IsHandedIn v) (bs ++ b ∷ rest) → AllByRecursion (λ c. HasSlot v.nano c.base c.slot) bs
  first_slots [] each = tt
  first_slots (c ∷ bs) each = (each.0.slot, first_slots bs each.1)

other_slots :
    (x : Seated) (b : BlockView) (h : Held) (bs : List BlockView) → HasSlot (Some x) b.base (Some h) → IsAtSlotIf b (Some h)
    → AllByRecursion (λ c. HasSlot (Some x) c.base c.slot) bs → AllByRecursion IsAtItsSlot bs
    → AllByRecursion (λ c. same_block (block_of c) (block_of b) ≡ false) bs → AllByRecursion (λ c. IsElsewhere h c.slot) bs
other_slots x b h [] has at each placed apart = tt
other_slots x b h (c ∷ bs) has at each placed apart = (elsewhere x c b c.slot h each.0 has placed.0 at apart.0, other_slots x b h bs has at each.1 placed.1 apart.1)

slot_then :
    (m k : Option Seated) (b : BlockView) (o : Option Held) (bs : List BlockView) → StaysSeated m k → hand_in k ≡ fold (λ hand c. hand_without c hand) (hand_in m) bs
    → HasSlot m b.base o → IsAtSlotIf b o → AllByRecursion (λ c. HasSlot m c.base c.slot) bs → AllByRecursion IsAtItsSlot bs
    → AllByRecursion (λ c. same_block (block_of c) (block_of b) ≡ false) bs → HasSlot k b.base o
slot_then m k b None bs st e has at each placed apart = tt
slot_then None k b (Some h) bs st e has at each placed apart = absurd has
slot_then (Some x) None b (Some h) bs st e has at each placed apart = absurd st
slot_then (Some x) (Some y) b (Some h) bs st e has at each placed apart =
    (has.0 ∙ sym (ap first_of st.0), subst (λ hs. In h hs) (sym e) (slot_stays_in bs h (hand_of x.seat) (other_slots x b h bs has at each placed apart) has.1))

-- entries that dropped blocks do so in a longer history
drop_later :
    (laws : ZoneLaws) (p : Profile) (h later : List Entry) (bs : List Block) (es : List Entry) → AreLawful p opening (h ++ later)
    → ((e : Entry) → Contains es e → Contains h e) → DropInTurn p h bs es → DropInTurn p (h ++ later) bs es
drop_later laws p h later [] es lawful seen drop = drop
drop_later laws p h later (b ∷ bs) es lawful seen (front, back, e, first, rest) = (
  front,
  back,
  e,
  laws.dropped_later p h later b front lawful (λ x i. seen x (subst (λ ys. Contains ys x) (sym e) (Contains-append_left front back x i))) first,
  drop_later laws p h later bs back lawful (λ x i. seen x (subst (λ ys. Contains ys x) (sym e) (Contains-append_right front back x i))) rest,
)

-- Some of the blocks were freed, each where its slot is. The others are left in reverse order, and there is room for them.
pub record Begun (v u : AtView) (p : Profile) (z : ℕ) (all now : List BlockView) : Type 0 where
  pub bs : List BlockView
  pub items : all ≡ bs ++ reverse now
  pub each : FreesInTurn v z bs u
  pub placed : AllByRecursion IsAtItsSlot bs
  pub can : CanCall u p z (40 * length now)
  pub orderly : IsOrderly u.book

pub at_first :
    (v : AtView) (p : Profile) (z : ℕ) (all now : List BlockView) → now ≡ reverse all → CanCall v p z (40 * length all) → IsOrderly v.book
    → Begun v v p z all now
at_first v p z all now e can orderly =
    subst (λ xs. Begun v v p z all xs) (sym e) (record {
      bs = [];
      items = sym (reverse-reverse all);
      each = refl;
      placed = tt;
      can = subst (λ n. CanCall v p z (40 * n)) (sym (length-reverse all)) can;
      orderly = orderly;
    })

module _ (laws : ZoneLaws) (v u : AtView) (p : Profile) (z : ℕ) (all old : List BlockView) (held : HoldsNothing v.book) (seat : IsSeatedAt v.book v.nano) (begun : Begun v u p z all old) where
  so_far : AreFreed v z begun.bs u
  so_far = all_freed laws z begun.bs v u held seat begun.orderly begun.each

  pub all_ended : (left : List BlockView) → old ≡ left ++ [] → length left ≡ 0 → FreesBatch v z all (Ok tt) left u
  all_ended left is e =
      let none : left ≡ [] = nil_from_length left e in
      let old_none : old ≡ [] = is ∙ (append-nil left ∙ none) in
      let whole : all ≡ begun.bs = begun.items ∙ (ap (λ xs. begun.bs ++ reverse xs) old_none ∙ append-nil begun.bs) in
      record {
        freed = begun.bs;
        drops = so_far.mine;
        last = [];
        few =
            let e : length (so_far.mine ++ []) ≡ length so_far.mine = ap length (append-nil so_far.mine) in
            let k : length all ≡ length begun.bs = ap length whole in
            let n = so_far.few in
            omega (arith, e, k, n);
        goes = subst (λ es. Goes v es u) (sym (append-nil so_far.mine)) so_far.goes;
        of_zone = so_far.of_zone;
        drop = so_far.drop;
        stops = (whole, none, refl);
        hand = so_far.hand;
        counts = so_far.counts;
      }

  -- the next one
  module _ (b : BlockView) (now : List BlockView) (is : old ≡ now ++ b ∷ []) where
    next_items : all ≡ begun.bs ++ b ∷ reverse now
    next_items = begun.items ∙ ap (λ xs. begun.bs ++ xs) (ap reverse is ∙ reverse-append now (b ∷ []))

    one_less : length old ≡ length now + 1
    one_less = ap length is ∙ length-append now (b ∷ [])

    can_next : CanCall u p z (40 * (length now + 1))
    can_next = subst (λ n. CanCall u p z (40 * n)) one_less begun.can

    pub can_free : CanCall u p z 40
    can_free = can_fewer u p z (40 * (length now + 1)) 40 (omega arith) can_next

    pub next_handed : AreHandedIn v all → IsAtItsSlot b → IsHandedIn u b
    next_handed handed at =
        let these : AreHandedIn v (begun.bs ++ b ∷ reverse now) = subst (λ xs. AreHandedIn v xs) next_items handed in
        let h : IsHandedIn v b = next_is v b (reverse now) begun.bs these.each in
        let apart = other_pairs v b (reverse now) begun.bs these.others in
        record {
          in_hand = subst (λ hs. has_block hs (block_of b) ≡ true) (sym (hand_left_after laws z begun.bs v u begun.each)) (pairs_stay_in begun.bs (block_of b) (hand v.book) apart h.in_hand);
          space = h.space ∙ sym so_far.goes.adds.same.site;
          slot = slot_then v.nano u.nano b b.slot begun.bs so_far.goes.nano so_far.hand h.slot at (first_slots v b (reverse now) begun.bs these.each) begun.placed apart;
        }

    pub one_ended : (w : AtView) → IsAtItsSlot b → Frees u z b (Ok tt) w → IsOrderly w.book → Begun v w p z all now
    one_ended w at f orderly = record {
      bs = begun.bs ++ b ∷ [];
      items = next_items ∙ sym (append_assoc begun.bs (b ∷ []) (reverse now));
      each = in_turn_after z begun.bs b v u w begun.each f;
      placed = all_and_last begun.bs begun.placed;
      can = can_free_next u w p z (length now) b can_next f;
      orderly = orderly;
    }
      where
        all_and_last : (bs : List BlockView) → AllByRecursion IsAtItsSlot bs → AllByRecursion IsAtItsSlot (bs ++ b ∷ [])
        all_and_last [] e = (at, tt)
        all_and_last (c ∷ bs) e = (e.0, all_and_last bs e.1)

    pub one_denied : (w : AtView) (e : NotLiveBlock) (left : List BlockView) → left ≡ reverse now → Frees u z b (Err e) w → IsOrderly w.book → FreesBatch v z all (Err e) left w
    one_denied w e left order f orderly =
        let lawful : AreLawful v.book.profile opening (u.book.seen ++ f.goes.adds.more) =
        subst (λ h. AreLawful v.book.profile opening h) f.goes.adds.seen
        (subst (λ q. AreLawful q opening w.book.seen) (f.goes.adds.same.profile ∙ so_far.goes.adds.same.profile) orderly.lawful) in
        let not_of = f.freed in
        record {
          freed = begun.bs;
          drops = so_far.mine;
          last = f.mine;
          few =
              let e = length-append so_far.mine f.mine in
              let k : length all ≡ length (begun.bs ++ b ∷ reverse now) = ap length next_items in
              let l = length-append begun.bs (b ∷ reverse now) in
              let m = so_far.few in
              let n = f.few in
              omega (arith, e, k, l, m, n);
          goes = goes_on laws v u w so_far.mine f.mine so_far.goes f.goes;
          of_zone = so_far.of_zone;
          drop = subst (λ h. DropInTurn v.book.profile h (map block_of begun.bs) so_far.mine) (sym f.goes.adds.seen)
              (drop_later laws v.book.profile u.book.seen f.goes.adds.more (map block_of begun.bs) so_far.mine lawful (noted_seen v u so_far.mine so_far.goes) so_far.drop);
          stops = subst (λ c. (all ≡ begun.bs ++ c ∷ left) × (c.zone ≢ z) × IsNotOfZone z (block_of c) f.mine × (map (λ x. x.ticket) f.mine ≡ e.ticket ∷ [])) (sym not_of.3)
              (next_items ∙ ap (λ xs. begun.bs ++ b ∷ xs) (sym order), not_of.0, not_of.1, not_of.2);
          hand = f.hand ∙ so_far.hand;
          counts = f.counts ∙ so_far.counts;
        }
