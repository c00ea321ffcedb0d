-- The pairs that owners of quanta tell, after an event and after a give.
use Rattle.std.proofs.Common.{◌≡◌, ◌≢◌, ℕ, ◌==◌, Bool, true, false, cond, not, get_or, set, ◌<◌, List, [], ◌∷◌, ◌++◌, length, ◌≤◌, ◌+◌, ◌*◌, ◌/◌, ◌%◌, arith, subst, refl, ap, sym, ◌∙◌, eq-eqb, inl, inr}
use Rattle.std.specs.Prelude.{◌&&◌, ◌||◌, nat_le, map, filter}
use Rattle.std.specs.List.{list_any}
use Rattle.std.proofs.lemmas.Bool.{cases_Bool, eqb-true, and_parts, and_from, false≢true}
use Rattle.std.proofs.lemmas.Bool.Decides.{nat_tests}
use Rattle.std.proofs.lemmas.List.{get_or-set_same, get_or-set_other}
use Rattle.mz_base.specs.declared.range.TheConstants.{PAGE}
use Rattle.mz_base.specs.declared.profile.Profile.{Profile}
use Rattle.mz_base.specs.Space.{Block, block_at, block_end, same_block}
use Rattle.mz_base.specs.Lists.{has_block, drop_block}
use Rattle.mz_events.specs.declared.place.Place.{Place}
use Rattle.mz_events.specs.declared.place.Place.TheVariants.{Pages, Tiny, TinyDepot, Small, SmallDepot, Large, Nano}
use Rattle.mz_events.specs.declared.entry.Entry.{Entry}
use Rattle.mz_events.specs.declared.event.Event.{Event}
use Rattle.mz_events.specs.declared.event.Event.TheVariants.{Take, Back, Move, New, End, Size, Full, Dry, No, Open, Shut}
use Rattle.mz_events.specs.Places.{is_size_of, place_of}
use Rattle.mz_events.specs.State.{State, opening}
use Rattle.mz_events.specs.Changes.{one_for}
use Rattle.mz_events.specs.Effect.{after}
use Rattle.mz_events.specs.Rules.{Fits}
use Rattle.mz_events.specs.History.{AreLawful, after_all}
use Rattle.mz_events.specs.Hands.{hand_after, hand_through}
use Rattle.mz_events.specs.Bounds.{LiveBytesFit}
use Rattle.mz_book.specs.declared.pair.Pair.{Pair}
use Rattle.mz_book.specs.HistoryLaws.{HistoryLaws}
use Rattle.mz_book.specs.Pairs.{pair_at, hand_among, is_pair, owners, resized_pair, pairs_after, is_in_hand, is_from, given}
use Rattle.mz_book.specs.Owners.{quantum_at, owned_pair, pairs_told, quanta_after, BeginsWithin}
use Rattle.mz_book.specs.Living.{lives_after}
use Rattle.mz_book.specs.Account.{is_live, entry_at}
use Rattle.mz_book.specs.Rule.{AreInOneHand}
use Rattle.mz_book.proofs.OwnerLemmas.{same_true, same_refl, owners_cons}
use Rattle.mz_book.proofs.ListLemmas.{or_elim, or_left, or_right, same_bool}
use Rattle.mz_book.proofs.PairLemmas.{given_case}
use Rattle.mz_book.proofs.LiveLemmas.{IsLive, from_live, then_lawful, then_is, new_is_fresh}

-- blocks whose quanta are apart

told_many : (q : List ℕ) (bs : List Block) (x : Block) → has_block bs x ≡ true → 1 ≤ owners (map (owned_pair q) bs) x
told_many q [] x h = absurd (false≢true h)
told_many q (b ∷ bs) x h =
    let t : owners (map (owned_pair q) (b ∷ bs)) x ≡ one_for (same_block x b) + owners (map (owned_pair q) bs) x = owners_cons (owned_pair q b) (map (owned_pair q) bs) x in
    or_elim (same_block x b) (has_block bs x)
    (λ y. let o : one_for (same_block x b) ≡ 1 = ap one_for y in omega arith)
    (λ y. let r = told_many q bs x y in omega arith)
    h

abbrev pub AreApart : List Block → Type 0
AreApart [] = Unit {0}
AreApart (b ∷ bs) = ((x : Block) → has_block bs x ≡ true → quantum_at x.first ≢ quantum_at b.first) × AreApart bs

apart_first : (q : List ℕ) (b : Block) (bs : List Block) (x : Block) → owners (map (owned_pair q) (b ∷ bs)) x ≤ 1 → has_block bs x ≡ true → same_block x b ≡ false
apart_first q b bs x l h = elim (cases_Bool (same_block x b)) [
  | inl y ↦
      let t : owners (map (owned_pair q) (b ∷ bs)) x ≡ one_for (same_block x b) + owners (map (owned_pair q) bs) x = owners_cons (owned_pair q b) (map (owned_pair q) bs) x in
      let m = told_many q bs x h in
      let o : one_for (same_block x b) ≡ 1 = ap one_for y in
      absurd (omega arith)
  | inr n ↦ n
]

apart_all : (q : List ℕ) (bs : List Block) → ((x : Block) → owners (map (owned_pair q) bs) x ≤ 1) → ((x y : Block) → has_block bs x ≡ true → has_block bs y ≡ true → same_block x y ≡ false → quantum_at x.first ≢ quantum_at y.first) → AreApart bs
apart_all q [] one far = tt
apart_all q (b ∷ bs) one far =
    let fewer : (x : Block) → owners (map (owned_pair q) bs) x ≤ 1 = λ x.
    let t : owners (map (owned_pair q) (b ∷ bs)) x ≡ one_for (same_block x b) + owners (map (owned_pair q) bs) x = owners_cons (owned_pair q b) (map (owned_pair q) bs) x in
    let l = one x in omega arith in (
      (λ x h. far x b (or_right (same_block x b) (has_block bs x) h) (or_left (same_block b b) (has_block bs b) (same_refl b)) (apart_first q b bs x (one x) h)),
      apart_all q bs fewer (λ x y hx hy. far x y (or_right (same_block x b) (has_block bs x) hx) (or_right (same_block y b) (has_block bs y) hy)),
    )

-- the owner of one quantum changes

elsewhere : (q : List ℕ) (i v : ℕ) (bs : List Block) → ((x : Block) → has_block bs x ≡ true → quantum_at x.first ≢ i) → map (owned_pair (set q i v)) bs ≡ map (owned_pair q) bs
elsewhere q i v [] far = refl
elsewhere q i v (b ∷ bs) far =
    let at : get_or (set q i v) (quantum_at b.first) 0 ≡ get_or q (quantum_at b.first) 0 = get_or-set_other q i (quantum_at b.first) v 0 (far b (or_left (same_block b b) (has_block bs b) (same_refl b))) in
    ap (λ o. pair_at o b.first b.size ∷ map (owned_pair (set q i v)) bs) at ∙ ap (λ hs. owned_pair q b ∷ hs) (elsewhere q i v bs (λ x h. far x (or_right (same_block x b) (has_block bs x) h)))

told_snoc : (q : List ℕ) (bs : List Block) (b : Block) → map (owned_pair q) (bs ++ b ∷ []) ≡ map (owned_pair q) bs ++ owned_pair q b ∷ []
told_snoc q [] b = refl
told_snoc q (x ∷ bs) b = ap (λ hs. owned_pair q x ∷ hs) (told_snoc q bs b)

told_new : (q : List ℕ) (c a n : ℕ) (bs : List Block) → quantum_at a < length q → ((x : Block) → has_block bs x ≡ true → quantum_at x.first ≢ quantum_at a) → map (owned_pair (set q (quantum_at a) c)) (bs ++ block_at a n ∷ []) ≡ map (owned_pair q) bs ++ pair_at c a n ∷ []
told_new q c a n bs l far =
    let r = set q (quantum_at a) c in
    let at : get_or r (quantum_at a) 0 ≡ c = get_or-set_same q (quantum_at a) c 0 l in
    told_snoc r bs (block_at a n) ∙ (ap (λ hs. hs ++ owned_pair r (block_at a n) ∷ []) (elsewhere q (quantum_at a) c bs far) ∙ ap (λ o. map (owned_pair q) bs ++ pair_at o a n ∷ []) at)

from_there : (q : List ℕ) (from a : ℕ) (bs : List Block) → list_any (is_from from a) (map (owned_pair q) bs) ≡ true → (x : Block) × ((has_block bs x ≡ true) × (x.first ≡ a))
from_there q from a [] h = absurd (false≢true h)
from_there q from a (b ∷ bs) h =
    or_elim (is_from from a (owned_pair q b)) (list_any (is_from from a) (map (owned_pair q) bs))
    (λ y. (b, (or_left (same_block b b) (has_block bs b) (same_refl b), eqb-true b.first a ((and_parts (get_or q (quantum_at b.first) 0 == from) (b.first == a) y).1))))
    (λ y. let r = from_there q from a bs y in (r.0, (or_right (same_block r.0 b) (has_block bs r.0) r.1.0, r.1.1)))
    h

pub told_give : (q : List ℕ) (from to a : ℕ) (bs : List Block) → quantum_at a < length q → AreApart bs → list_any (is_from from a) (map (owned_pair q) bs) ≡ true → map (owned_pair (set q (quantum_at a) to)) bs ≡ given from to a (map (owned_pair q) bs)
told_give q from to a [] l far h = absurd (false≢true h)
told_give q from to a (b ∷ bs) l far h = elim (cases_Bool (is_from from a (owned_pair q b))) [
  | inl y ↦
      let r = set q (quantum_at a) to in
      let first : b.first ≡ a = eqb-true b.first a ((and_parts (get_or q (quantum_at b.first) 0 == from) (b.first == a) y).1) in
      let at : get_or r (quantum_at b.first) 0 ≡ to = ap (λ i. get_or r (quantum_at i) 0) first ∙ get_or-set_same q (quantum_at a) to 0 l in
      let rest = elsewhere q (quantum_at a) to bs (λ x k e. far.0 x k (e ∙ ap quantum_at (sym first))) in
      (ap (λ o. pair_at o b.first b.size ∷ map (owned_pair r) bs) at ∙ ap (λ hs. pair_at to b.first b.size ∷ hs) rest) ∙ sym (given_case from to a (owned_pair q b) (map (owned_pair q) bs) true y)
  | inr n ↦
      let r = set q (quantum_at a) to in
      let later : list_any (is_from from a) (map (owned_pair q) bs) ≡ true = or_elim (is_from from a (owned_pair q b)) (list_any (is_from from a) (map (owned_pair q) bs)) (λ y. absurd (false≢true (sym n ∙ y))) (λ y. y) h in
      let x = from_there q from a bs later in
      let other : quantum_at b.first ≢ quantum_at a = λ e. far.0 x.0 x.1.0 (ap quantum_at x.1.1 ∙ sym e) in
      let at : get_or r (quantum_at b.first) 0 ≡ get_or q (quantum_at b.first) 0 = get_or-set_other q (quantum_at a) (quantum_at b.first) to 0 other in
      (ap (λ o. pair_at o b.first b.size ∷ map (owned_pair r) bs) at ∙ ap (λ hs. owned_pair q b ∷ hs) (told_give q from to a bs l far.1 later)) ∙ sym (given_case from to a (owned_pair q b) (map (owned_pair q) bs) false n)
]

-- a block of the caller ends, or has another size

owner_is : (q : List ℕ) (c : ℕ) (b : Block) (bs : List Block) → has_block (hand_among c (map (owned_pair q) bs)) b ≡ true → get_or q (quantum_at b.first) 0 ≡ c
owner_is q c b [] h = absurd (false≢true h)
owner_is q c b (x ∷ bs) h = elim (cases_Bool (get_or q (quantum_at x.first) 0 == c)) [
  | inl y ↦ or_elim (same_block b x) (has_block (hand_among c (map (owned_pair q) bs)) b)
      (λ z. ap (λ (w : Block). get_or q (quantum_at w.first) 0) (same_true b x z) ∙ eqb-true (get_or q (quantum_at x.first) 0) c y)
      (λ z. owner_is q c b bs z)
      (rw y at h)
  | inr n ↦ owner_is q c b bs (rw n at h)
]

module _ (q : List ℕ) (c : ℕ) (b : Block) (mine : get_or q (quantum_at b.first) 0 ≡ c) where
  agrees : (x : Block) → same_block b x ≡ is_pair c b (owned_pair q x)
  agrees x = same_bool (same_block b x) (is_pair c b (owned_pair q x))
      (λ y. and_from (get_or q (quantum_at x.first) 0 == c) (same_block b x) (eq-eqb (get_or q (quantum_at x.first) 0) c (ap (λ (w : Block). get_or q (quantum_at w.first) 0) (sym (same_true b x y)) ∙ mine)) y)
      (λ y. (and_parts (get_or q (quantum_at x.first) 0 == c) (same_block b x) y).1)

  end_case : (x : Block) (ys : List Block) (hs : List Pair) (d e : Bool) → d ≡ e → map (owned_pair q) ys ≡ hs → map (owned_pair q) (cond (not d) (x ∷ ys) ys) ≡ cond (not e) (owned_pair q x ∷ hs) hs
  end_case x ys hs true true p h = h
  end_case x ys hs false false p h = ap (λ gs. owned_pair q x ∷ gs) h
  end_case x ys hs true false p h = absurd (false≢true (sym p))
  end_case x ys hs false true p h = absurd (false≢true p)

  told_end : (bs : List Block) → map (owned_pair q) (drop_block b bs) ≡ filter (λ h. not (is_pair c b h)) (map (owned_pair q) bs)
  told_end [] = refl
  told_end (x ∷ bs) = end_case x (drop_block b bs) (filter (λ h. not (is_pair c b h)) (map (owned_pair q) bs)) (same_block b x) (is_pair c b (owned_pair q x)) (agrees x) (told_end bs)

  size_case : (m : ℕ) (x : Block) (hs ks : List Pair) (d e : Bool) → d ≡ e → (d ≡ true → b ≡ x) → hs ≡ ks → owned_pair q (cond d (block_at b.first m) x) ∷ hs ≡ cond e (pair_at (get_or q (quantum_at x.first) 0) x.first m) (owned_pair q x) ∷ ks
  size_case m x hs ks true true p same h = ap (λ (w : Block). pair_at (get_or q (quantum_at w.first) 0) w.first m ∷ hs) (same refl) ∙ ap (λ gs. pair_at (get_or q (quantum_at x.first) 0) x.first m ∷ gs) h
  size_case m x hs ks false false p same h = ap (λ gs. owned_pair q x ∷ gs) h
  size_case m x hs ks true false p same h = absurd (false≢true (sym p))
  size_case m x hs ks false true p same h = absurd (false≢true p)

  told_size : (m : ℕ) (bs : List Block) → map (owned_pair q) (map (λ x. cond (same_block b x) (block_at b.first m) x) bs) ≡ map (resized_pair c b m) (map (owned_pair q) bs)
  told_size m [] = refl
  told_size m (x ∷ bs) =
      size_case m x (map (owned_pair q) (map (λ y. cond (same_block b y) (block_at b.first m) y) bs)) (map (resized_pair c b m) (map (owned_pair q) bs)) (same_block b x) (is_pair c b (owned_pair q x)) (agrees x) (same_true b x) (told_size m bs)

pub through_snoc : (bs : List Block) (es : List Entry) (e : Entry) → hand_through bs (es ++ e ∷ []) ≡ hand_after (hand_through bs es) e.event
through_snoc bs [] e = refl
through_snoc bs (x ∷ es) e = through_snoc (hand_after bs x.event) es e

-- live blocks begin in quanta apart, since each has a quantum at least

least : (a b : Bool) (s : ℕ) → ((a && nat_le 16 s) && b) ≡ true → 16 ≤ s
least a b s h = let t = (and_parts a (nat_le 16 s) ((and_parts (a && nat_le 16 s) b h).0)).1 in grind (arith, nat_tests, t)

least_small : (a b : Bool) (s : ℕ) → ((a && nat_le 1024 s) && b) ≡ true → 16 ≤ s
least_small a b s h = let t = (and_parts a (nat_le 1024 s) ((and_parts (a && nat_le 1024 s) b h).0)).1 in grind (arith, nat_tests, t)

size_wide : (k : Place) (s : ℕ) → is_size_of k s ≡ true → 16 ≤ s
size_wide Pages s h = absurd (false≢true h)
size_wide (Tiny z m) s h = least (s % 16 == 0) (nat_le s 1008) s h
size_wide (TinyDepot z) s h = least (s % 16 == 0) (nat_le s 1008) s h
size_wide (Small z m) s h = least_small (s % 512 == 0) (nat_le s 32768) s h
size_wide (SmallDepot z) s h = least_small (s % 512 == 0) (nat_le s 32768) s h
size_wide (Large z) s h = let t = (and_parts (s % PAGE == 0) (nat_le 49152 s) h).1 in grind (arith, nat_tests, t)
size_wide Nano s h = least (s % 16 == 0) (nat_le s 256) s h

one_few : (b : Bool) → one_for b ≤ 1
one_few true = omega arith
one_few false = omega arith

abbrev pub AllFit : Profile → Type 0
AllFit p = (es : List Entry) → AreLawful p opening es → LiveBytesFit p (after_all p opening es)

module _ (L : HistoryLaws) (p : Profile) (fit : AllFit p) (es : List Entry) (ok : AreLawful p opening es) where
  abbrev st : State
  st = after_all p opening es

  at_spot : (x : Block) → is_live st x ≡ true → IsLive st x
  at_spot x h = from_live L st x (L.once p opening es L.once_first) h

  wide : (x : Block) → is_live st x ≡ true → 16 ≤ x.size
  wide x h = let i = at_spot x h in size_wide (place_of i.0) x.size (L.forms p es i.0 x ok i.1).size

  inside : (x : Block) → is_live st x ≡ true → quantum_at x.first < p.pages * 1024
  inside x h =
      let i = at_spot x h in
      let e : x.first + x.size ≤ p.pages * 16384 = (fit es ok).ends i.0 x i.1 in
      let w = wide x h in
      omega arith

  far : (x y : Block) → is_live st x ≡ true → is_live st y ≡ true → same_block x y ≡ false → quantum_at x.first ≢ quantum_at y.first
  far x y hx hy o e =
      let i = at_spot x hx in
      let j = at_spot y hy in
      let wx = wide x hx in
      let wy = wide y hy in
      let d : x.first / 16 ≡ y.first / 16 = e in
      elim ((L.separate p es ok).blocks_are_apart i.0 j.0 x y i.1 j.1) [
        | inl z ↦ false≢true (sym o ∙ (ap (λ w. same_block w y) z.1 ∙ same_refl y))
        | inr a ↦ or_elim (nat_le (block_end x) y.first) (nat_le (block_end y) x.first)
            (λ l. let m : x.first + x.size ≤ y.first = grind (arith, nat_tests, l) in absurd (omega arith))
            (λ l. let m : y.first + y.size ≤ x.first = grind (arith, nat_tests, l) in absurd (omega arith))
            a
      ]

  module _ (q : List ℕ) (one : AreInOneHand st (pairs_told q es)) where
    listed : (x : Block) → has_block (hand_through [] es) x ≡ true → is_live st x ≡ true
    listed x h = elim (cases_Bool (is_live st x)) [
      | inl y ↦ y
      | inr n ↦ let m = told_many q (hand_through [] es) x h in let e = one x in let z : one_for (is_live st x) ≡ 0 = ap one_for n in absurd (omega arith)
    ]

    pub apart : AreApart (hand_through [] es)
    apart = apart_all q (hand_through [] es) (λ x. let e = one x in let f = one_few (is_live st x) in omega arith) (λ x y hx hy o. far x y (listed x hx) (listed y hy) o)

    pub give_inside : (from a : ℕ) → list_any (is_from from a) (pairs_told q es) ≡ true → quantum_at a < p.pages * 1024
    give_inside from a h = let x = from_there q from a (hand_through [] es) h in subst (λ i. quantum_at i < p.pages * 1024) x.1.1 (inside x.0 (listed x.0 x.1.0))

module _ (L : HistoryLaws) (p : Profile) (fit : AllFit p) (es : List Entry) (ok : AreLawful p opening es) (q : List ℕ) (one : AreInOneHand (after_all p opening es) (pairs_told q es)) (len : length q ≡ p.pages * 1024) (c : ℕ) where
  abbrev s : State
  s = after_all p opening es

  abbrev Lives : Event → Type 0
  Lives e = (b : Block) → is_live (after p s c e) b ≡ lives_after e b (is_live s b)

  module _ (k : Place) (a n al : ℕ) (f : Fits p s c (New k a n al)) (live : Lives (New k a n al)) where
    abbrev new : Block
    new = block_at a n

    abbrev more : List Entry
    more = es ++ entry_at s.entries c (New k a n al) ∷ []

    more_lawful : AreLawful p opening more
    more_lawful = then_lawful L p es c (New k a n al) ok f

    then_live : (x : Block) → (same_block x new || is_live s x) ≡ true → is_live (after_all p opening more) x ≡ true
    then_live x h = ap (λ (u : State). is_live u x) (then_is L p es c (New k a n al) ok f) ∙ (live x ∙ h)

    new_live : is_live (after_all p opening more) new ≡ true
    new_live = then_live new (or_left (same_block new new) (is_live s new) (same_refl new))

    new_inside : quantum_at a < length q
    new_inside = let i : quantum_at a < p.pages * 1024 = inside L p fit more more_lawful new new_live in omega arith

    new_far : (x : Block) → has_block (hand_through [] es) x ≡ true → quantum_at x.first ≢ quantum_at a
    new_far x h =
        let was = listed L p fit es ok q one x h in
        let other : same_block x new ≡ false = elim (cases_Bool (same_block x new)) [
          | inl y ↦ absurd (false≢true (sym (new_is_fresh L p es c ok k a n al f) ∙ (ap (is_live s) (sym (same_true x new y)) ∙ was)))
          | inr z ↦ z
        ] in
        far L p fit more more_lawful x new (then_live x (or_right (same_block x new) (is_live s x) was)) new_live other

  pub note_inside : (e : Event) → Fits p s c e → Lives e → BeginsWithin q e
  note_inside (New k a n al) f live = new_inside k a n al f live
  note_inside (End k a n) f live = tt
  note_inside (Size k a n m) f live = tt
  note_inside (Take k g w) f live = tt
  note_inside (Back k g w) f live = tt
  note_inside (Move g from to) f live = tt
  note_inside (Full k n al) f live = tt
  note_inside (Dry z w al) f live = tt
  note_inside (No k z a n) f live = tt
  note_inside (Open z) f live = tt
  note_inside (Shut z) f live = tt

  pub told_then : (e : Event) → Fits p s c e → Lives e → is_in_hand (hand_among c (pairs_told q es)) e ≡ true → map (owned_pair (quanta_after c q e)) (hand_after (hand_through [] es) e) ≡ pairs_after c (pairs_told q es) e
  told_then (New k a n al) f live mine = told_new q c a n (hand_through [] es) (new_inside k a n al f live) (new_far k a n al f live)
  told_then (End k a n) f live mine = told_end q c (block_at a n) (owner_is q c (block_at a n) (hand_through [] es) mine) (hand_through [] es)
  told_then (Size k a n m) f live mine = told_size q c (block_at a n) (owner_is q c (block_at a n) (hand_through [] es) mine) m (hand_through [] es)
  told_then (Take k g w) f live mine = refl
  told_then (Back k g w) f live mine = refl
  told_then (Move g from to) f live mine = refl
  told_then (Full k n al) f live mine = refl
  told_then (Dry z w al) f live mine = refl
  told_then (No k z a n) f live mine = refl
  told_then (Open z) f live mine = refl
  told_then (Shut z) f live mine = refl

  -- the pairs after a note, as the owners tell them then
  pub told_noted : (i : ℕ) (e : Event) → Fits p s c e → Lives e → is_in_hand (hand_among c (pairs_told q es)) e ≡ true → pairs_told (quanta_after c q e) (es ++ entry_at i c e ∷ []) ≡ pairs_after c (pairs_told q es) e
  told_noted i e f live mine = ap (map (owned_pair (quanta_after c q e))) (through_snoc [] es (entry_at i c e)) ∙ told_then e f live mine
