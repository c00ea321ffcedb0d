-- How many pairs there are of a block, after an event and after a give.
use Rattle.std.proofs.Common.{◌≡◌, ℕ, ◌==◌, Bool, true, false, cond, not, List, [], ◌∷◌, ◌++◌, length, ◌≤◌, ◌+◌, ◌*◌, arith, refl, ap, sym, ◌∙◌, eq-eqb, inl, inr}
use Rattle.std.specs.Prelude.{◌&&◌, ◌||◌, map, filter}
use Rattle.std.proofs.lemmas.Bool.{cases_Bool, eqb-true, and_parts, and_from, false≢true}
use Rattle.mz_base.specs.Space.{Block, block_at, same_block}
use Rattle.mz_base.specs.Lists.{has_block}
use Rattle.mz_events.specs.State.{State}
use Rattle.mz_events.specs.Changes.{one_for}
use Rattle.mz_book.specs.declared.pair.Pair.{Pair}
use Rattle.mz_book.specs.Pairs.{pair_at, block_of, hand_among, is_pair, owners, resized_pair, is_from, given}
use Rattle.mz_book.specs.Account.{is_live}
use Rattle.mz_book.specs.Rule.{AreInOneHand}

-- one block

pub same_true : (x y : Block) → same_block x y ≡ true → x ≡ y
same_true x y h =
    let t = and_parts (x.first == y.first) (x.size == y.size) h in
    ap (λ a. block_at a x.size) (eqb-true x.first y.first t.0) ∙ ap (λ n. block_at y.first n) (eqb-true x.size y.size t.1)

pub same_refl : (x : Block) → same_block x x ≡ true
same_refl x = and_from (x.first == x.first) (x.size == x.size) (eq-eqb x.first x.first refl) (eq-eqb x.size x.size refl)

-- counts

pub owners_cons : (h : Pair) (hs : List Pair) (x : Block) → owners (h ∷ hs) x ≡ one_for (same_block x (block_of h)) + owners hs x
owners_cons h hs x = elim (cases_Bool (same_block x (block_of h))) [
  | inl y ↦ rw y (omega arith)
  | inr n ↦ rw n (omega arith)
]

pub owners_snoc : (hs : List Pair) (h : Pair) (x : Block) → owners (hs ++ h ∷ []) x ≡ owners hs x + one_for (same_block x (block_of h))
owners_snoc [] h x = let e = owners_cons h [] x in omega arith
owners_snoc (g ∷ hs) h x = let e = owners_cons g (hs ++ h ∷ []) x in let f = owners_cons g hs x in let r = owners_snoc hs h x in omega arith

given_case : (from to a : ℕ) (h : Pair) (hs : List Pair) (x : Block) (b : Bool) → owners (given from to a hs) x ≡ owners hs x → owners (cond b (pair_at to h.first h.size ∷ hs) (h ∷ given from to a hs)) x ≡ owners (h ∷ hs) x
given_case from to a h hs x true r = let e = owners_cons (pair_at to h.first h.size) hs x in let f = owners_cons h hs x in omega arith
given_case from to a h hs x false r = let e = owners_cons h (given from to a hs) x in let f = owners_cons h hs x in omega arith

pub owners_given : (from to a : ℕ) (hs : List Pair) (x : Block) → owners (given from to a hs) x ≡ owners hs x
owners_given from to a [] x = refl
owners_given from to a (h ∷ hs) x = given_case from to a h hs x (is_from from a h) (owners_given from to a hs x)

-- how many pairs say that c owns the block
abbrev pub times_owned : ℕ → Block → List Pair → ℕ
times_owned c b hs = length (filter (is_pair c b) hs)

pub times_cons : (c : ℕ) (b : Block) (h : Pair) (hs : List Pair) → times_owned c b (h ∷ hs) ≡ one_for (is_pair c b h) + times_owned c b hs
times_cons c b h hs = elim (cases_Bool (is_pair c b h)) [
  | inl y ↦ rw y (omega arith)
  | inr n ↦ rw n (omega arith)
]

no_times : (d e : Bool) → 0 + one_for d * 0 ≡ 0 + one_for e * 0
no_times true true = refl
no_times true false = refl
no_times false true = refl
no_times false false = refl

-- what a pair of c and the block b is to x
pair_same : (c : ℕ) (b x : Block) (h : Pair) → is_pair c b h ≡ true → same_block x (block_of h) ≡ same_block x b
pair_same c b x h e = sym (ap (λ y. same_block x y) (same_true b (block_of h) ((and_parts (h.caller == c) (same_block b (block_of h)) e).1)))

ended_case : (c : ℕ) (b x : Block) (h : Pair) (hs ks : List Pair) (d : Bool) → is_pair c b h ≡ d → owners ks x + one_for (same_block x b) * times_owned c b hs ≡ owners hs x
    → owners (cond (not d) (h ∷ ks) ks) x + one_for (same_block x b) * (one_for d + times_owned c b hs) ≡ one_for (same_block x (block_of h)) + owners hs x
ended_case c b x h hs ks true e r =
    let s = pair_same c b x h e in
    elim (cases_Bool (same_block x b)) [
      | inl y ↦ rw (s, y) (let q : owners ks x + one_for true * times_owned c b hs ≡ owners hs x = (rw y at r) in omega arith)
      | inr n ↦ rw (s, n) (let q : owners ks x + one_for false * times_owned c b hs ≡ owners hs x = (rw n at r) in omega arith)
    ]
ended_case c b x h hs ks false e r =
    let o = owners_cons h ks x in
    elim (cases_Bool (same_block x b)) [
      | inl y ↦ rw y (let q : owners ks x + one_for true * times_owned c b hs ≡ owners hs x = (rw y at r) in omega arith)
      | inr n ↦ rw n (let q : owners ks x + one_for false * times_owned c b hs ≡ owners hs x = (rw n at r) in omega arith)
    ]

pub owners_ended : (c : ℕ) (b x : Block) (hs : List Pair) → owners (filter (λ h. not (is_pair c b h)) hs) x + one_for (same_block x b) * times_owned c b hs ≡ owners hs x
owners_ended c b x [] = no_times (same_block x b) false
owners_ended c b x (h ∷ hs) =
    let r = ended_case c b x h hs (filter (λ g. not (is_pair c b g)) hs) (is_pair c b h) refl (owners_ended c b x hs) in
    ap (λ n. owners (filter (λ g. not (is_pair c b g)) (h ∷ hs)) x + one_for (same_block x b) * n) (times_cons c b h hs) ∙ (r ∙ sym (owners_cons h hs x))

sized_case : (c : ℕ) (b x : Block) (m : ℕ) (h : Pair) (hs ks : List Pair) (d : Bool) → is_pair c b h ≡ d → owners ks x + one_for (same_block x b) * times_owned c b hs ≡ owners hs x + one_for (same_block x (block_at b.first m)) * times_owned c b hs
    → owners (cond d (pair_at h.caller h.first m) h ∷ ks) x + one_for (same_block x b) * (one_for d + times_owned c b hs) ≡ owners (h ∷ hs) x + one_for (same_block x (block_at b.first m)) * (one_for d + times_owned c b hs)
sized_case c b x m h hs ks true e r =
    let s = pair_same c b x h e in
    let first : b.first ≡ h.first = eqb-true b.first h.first ((and_parts (b.first == h.first) (b.size == h.size) ((and_parts (h.caller == c) (same_block b (block_of h)) e).1)).0) in
    let o = owners_cons (pair_at h.caller h.first m) ks x in
    let f = owners_cons h hs x in
    let z : same_block x (block_at h.first m) ≡ same_block x (block_at b.first m) = ap (λ a. same_block x (block_at a m)) (sym first) in
    let o2 : owners (pair_at h.caller h.first m ∷ ks) x ≡ one_for (same_block x (block_at b.first m)) + owners ks x = o ∙ ap (λ q. one_for q + owners ks x) z in
    let f2 : owners (h ∷ hs) x ≡ one_for (same_block x b) + owners hs x = f ∙ ap (λ q. one_for q + owners hs x) s in
    sum_up (owners (pair_at h.caller h.first m ∷ ks) x) (owners ks x) (owners (h ∷ hs) x) (owners hs x) (times_owned c b hs) (same_block x b) (same_block x (block_at b.first m)) o2 f2 r
  where
    sum_up : (u v w y k : ℕ) (p q : Bool) → u ≡ one_for q + v → w ≡ one_for p + y → v + one_for p * k ≡ y + one_for q * k → u + one_for p * (1 + k) ≡ w + one_for q * (1 + k)
    sum_up u v w y k true true a b r = omega arith
    sum_up u v w y k true false a b r = omega arith
    sum_up u v w y k false true a b r = omega arith
    sum_up u v w y k false false a b r = omega arith
sized_case c b x m h hs ks false e r =
    let o = owners_cons h ks x in
    let f = owners_cons h hs x in
    both (owners (h ∷ ks) x) (owners ks x) (owners (h ∷ hs) x) (owners hs x) (times_owned c b hs) (one_for (same_block x (block_of h))) (same_block x b) (same_block x (block_at b.first m)) o f r
  where
    both : (u v w y k d : ℕ) (p q : Bool) → u ≡ d + v → w ≡ d + y → v + one_for p * k ≡ y + one_for q * k → u + one_for p * (0 + k) ≡ w + one_for q * (0 + k)
    both u v w y k d true true a b r = omega arith
    both u v w y k d true false a b r = omega arith
    both u v w y k d false true a b r = omega arith
    both u v w y k d false false a b r = omega arith

pub owners_sized : (c : ℕ) (b x : Block) (m : ℕ) (hs : List Pair) → owners (map (resized_pair c b m) hs) x + one_for (same_block x b) * times_owned c b hs ≡ owners hs x + one_for (same_block x (block_at b.first m)) * times_owned c b hs
owners_sized c b x m [] = no_times (same_block x b) (same_block x (block_at b.first m))
owners_sized c b x m (h ∷ hs) =
    let r = sized_case c b x m h hs (map (resized_pair c b m) hs) (is_pair c b h) refl (owners_sized c b x m hs) in
    ap (λ n. owners (map (resized_pair c b m) (h ∷ hs)) x + one_for (same_block x b) * n) (times_cons c b h hs) ∙ (r ∙ sym (ap (λ n. owners (h ∷ hs) x + one_for (same_block x (block_at b.first m)) * n) (times_cons c b h hs)))

-- a block in the hand of c has a pair of c, and c has no more pairs of a block than there are

owned_case : (c : ℕ) (b : Block) (h : Pair) (hs : List Pair) (d : Bool) → (h.caller == c) ≡ d → (has_block (hand_among c hs) b ≡ true → 1 ≤ times_owned c b hs) → has_block (map block_of (cond d (h ∷ filter (λ g. g.caller == c) hs) (filter (λ g. g.caller == c) hs))) b ≡ true → 1 ≤ times_owned c b (h ∷ hs)
owned_case c b h hs true e f y = elim (cases_Bool (same_block b (block_of h))) [
  | inl z ↦ let t = times_cons c b h hs in let is : is_pair c b h ≡ true = and_from (h.caller == c) (same_block b (block_of h)) e z in let o : one_for (is_pair c b h) ≡ 1 = ap one_for is in omega arith
  | inr n ↦ let t = times_cons c b h hs in let r = f (rw n at y) in omega arith
]
owned_case c b h hs false e f y = let t = times_cons c b h hs in let r = f y in omega arith

pub owned_times : (c : ℕ) (b : Block) (hs : List Pair) → has_block (hand_among c hs) b ≡ true → 1 ≤ times_owned c b hs
owned_times c b [] y = absurd (false≢true y)
owned_times c b (h ∷ hs) y = owned_case c b h hs (h.caller == c) refl (owned_times c b hs) y

times_case : (c : ℕ) (b : Block) (h : Pair) → one_for (is_pair c b h) ≤ one_for (same_block b (block_of h))
times_case c b h = elim (cases_Bool (is_pair c b h)) [
  | inl y ↦ rw (y, (and_parts (h.caller == c) (same_block b (block_of h)) y).1) (omega arith)
  | inr n ↦ rw n (omega arith)
]

pub times_few : (c : ℕ) (b : Block) (hs : List Pair) → times_owned c b hs ≤ owners hs b
times_few c b [] = omega arith
times_few c b (h ∷ hs) = let t = times_cons c b h hs in let o = owners_cons h hs b in let r = times_few c b hs in let s = times_case c b h in omega arith

-- a block in a hand is live, where it has no owner if it isn't
pub hand_live : (s : State) (hs : List Pair) (c : ℕ) (b : Block) → owners hs b ≤ one_for (is_live s b) → has_block (hand_among c hs) b ≡ true → is_live s b ≡ true
hand_live s hs c b few y = elim (cases_Bool (is_live s b)) [
  | inl l ↦ l
  | inr n ↦ let o = owned_times c b hs y in let f = times_few c b hs in let z : one_for (is_live s b) ≡ 0 = ap one_for n in absurd (omega arith)
]

pub owned_live : (s : State) (hs : List Pair) (c : ℕ) (b : Block) → AreInOneHand s hs → has_block (hand_among c hs) b ≡ true → is_live s b ≡ true
owned_live s hs c b one y = hand_live s hs c b (let e = one b in omega arith) y

-- each live block is in exactly one hand still

pub hand_same : (s t : State) (hs : List Pair) → ((x : Block) → is_live t x ≡ is_live s x) → AreInOneHand s hs → AreInOneHand t hs
hand_same s t hs same one x = one x ∙ ap one_for (sym (same x))

pub hand_given : (s : State) (from to a : ℕ) (hs : List Pair) → AreInOneHand s hs → AreInOneHand s (given from to a hs)
hand_given s from to a hs one x = owners_given from to a hs x ∙ one x

pub hand_new : (s t : State) (hs : List Pair) (h : Pair) → ((x : Block) → is_live t x ≡ (same_block x (block_of h) || is_live s x)) → is_live s (block_of h) ≡ false → AreInOneHand s hs → AreInOneHand t (hs ++ h ∷ [])
hand_new s t hs h now fresh one x = elim (cases_Bool (same_block x (block_of h))) [
  | inl y ↦
      let is : is_live s x ≡ false = ap (is_live s) (same_true x (block_of h) y) ∙ fresh in
      let o = owners_snoc hs h x in
      let z : owners hs x ≡ 0 = one x ∙ ap one_for is in
      let w : one_for (same_block x (block_of h)) ≡ 1 = ap one_for y in
      let l : one_for (is_live t x) ≡ 1 = ap one_for (now x ∙ ap (λ d. d || is_live s x) y) in
      omega arith
  | inr n ↦
      let o = owners_snoc hs h x in
      let z : one_for (same_block x (block_of h)) ≡ 0 = ap one_for n in
      let e : owners (hs ++ h ∷ []) x ≡ owners hs x = omega arith in
      e ∙ (one x ∙ sym (ap one_for (now x ∙ ap (λ d. d || is_live s x) n)))
]

-- c, in whose hand the live block is, has just one pair of it
one_time : (s : State) (hs : List Pair) (c : ℕ) (b : Block) → AreInOneHand s hs → has_block (hand_among c hs) b ≡ true → times_owned c b hs ≡ 1
one_time s hs c b one y =
    let l = owned_live s hs c b one y in
    let e : owners hs b ≡ 1 = one b ∙ ap one_for l in
    let o = owned_times c b hs y in
    let f = times_few c b hs in
    omega arith

pub hand_end : (s t : State) (hs : List Pair) (c : ℕ) (b : Block) → ((x : Block) → is_live t x ≡ (not (same_block x b) && is_live s x)) → has_block (hand_among c hs) b ≡ true → AreInOneHand s hs → AreInOneHand t (filter (λ h. not (is_pair c b h)) hs)
hand_end s t hs c b now mine one x =
    let k = one_time s hs c b one mine in
    let e = owners_ended c b x hs in
    elim (cases_Bool (same_block x b)) [
      | inl y ↦
          let is : owners hs x ≡ 1 = one x ∙ ap one_for (ap (is_live s) (same_true x b y) ∙ owned_live s hs c b one mine) in
          let e2 : owners (filter (λ h. not (is_pair c b h)) hs) x + 1 * times_owned c b hs ≡ owners hs x = (rw y at e) in
          let z : owners (filter (λ h. not (is_pair c b h)) hs) x ≡ 0 = omega arith in
          z ∙ sym (ap one_for (now x ∙ ap (λ d. not d && is_live s x) y))
      | inr n ↦
          let e2 : owners (filter (λ h. not (is_pair c b h)) hs) x + 0 * times_owned c b hs ≡ owners hs x = (rw n at e) in
          let z : owners (filter (λ h. not (is_pair c b h)) hs) x ≡ owners hs x = omega arith in
          z ∙ (one x ∙ sym (ap one_for (now x ∙ ap (λ d. not d && is_live s x) n)))
    ]

pub hand_size : (s t : State) (hs : List Pair) (c : ℕ) (b : Block) (m : ℕ) → ((x : Block) → is_live t x ≡ (same_block x (block_at b.first m) || (not (same_block x b) && is_live s x)))
    → (same_block (block_at b.first m) b ≡ false → is_live s (block_at b.first m) ≡ false) → has_block (hand_among c hs) b ≡ true → AreInOneHand s hs → AreInOneHand t (map (resized_pair c b m) hs)
hand_size s t hs c b m now fresh mine one x =
    let k = one_time s hs c b one mine in
    let e = owners_sized c b x m hs in
    let live = owned_live s hs c b one mine in
    let here = one x in
    let at = now x in
    elim (cases_Bool (same_block x b)) [
      | inl y ↦
          let is : is_live s x ≡ true = ap (is_live s) (same_true x b y) ∙ live in
          elim (cases_Bool (same_block x (block_at b.first m))) [
            | inl z ↦
                let e2 : owners (map (resized_pair c b m) hs) x + 1 * times_owned c b hs ≡ owners hs x + 1 * times_owned c b hs = (rw (y, z) at e) in
                let l : one_for (is_live t x) ≡ 1 = ap one_for (at ∙ ap (λ d. d || (not (same_block x b) && is_live s x)) z) in
                let o : one_for (is_live s x) ≡ 1 = ap one_for is in omega arith
            | inr z ↦
                let e2 : owners (map (resized_pair c b m) hs) x + 1 * times_owned c b hs ≡ owners hs x + 0 * times_owned c b hs = (rw (y, z) at e) in
                let l : one_for (is_live t x) ≡ 0 = ap one_for (at ∙ (ap (λ d. d || (not (same_block x b) && is_live s x)) z ∙ ap (λ d. not d && is_live s x) y)) in
                let o : one_for (is_live s x) ≡ 1 = ap one_for is in omega arith
          ]
      | inr y ↦ elim (cases_Bool (same_block x (block_at b.first m))) [
        | inl z ↦
            let there : x ≡ block_at b.first m = same_true x (block_at b.first m) z in
            let is : is_live s x ≡ false = ap (is_live s) there ∙ fresh (ap (λ w. same_block w b) (sym there) ∙ y) in
            let e2 : owners (map (resized_pair c b m) hs) x + 0 * times_owned c b hs ≡ owners hs x + 1 * times_owned c b hs = (rw (y, z) at e) in
            let l : one_for (is_live t x) ≡ 1 = ap one_for (at ∙ ap (λ d. d || (not (same_block x b) && is_live s x)) z) in
            let o : one_for (is_live s x) ≡ 0 = ap one_for is in omega arith
        | inr z ↦
            let e2 : owners (map (resized_pair c b m) hs) x + 0 * times_owned c b hs ≡ owners hs x + 0 * times_owned c b hs = (rw (y, z) at e) in
            let l : one_for (is_live t x) ≡ one_for (is_live s x) = ap one_for (at ∙ (ap (λ d. d || (not (same_block x b) && is_live s x)) z ∙ ap (λ d. not d && is_live s x) y)) in omega arith
      ]
    ]
