-- A member taken out of its list.
use Rattle.std.proofs.Common.{◌≡◌, ◌≢◌, ℕ, ◌<◌, ◌==◌, Bool, true, false, Option, Some, None, length, get_or, set, if◌then◌else◌, ap, sym, refl, subst, ◌∙◌, inl, inr, arith}
use Rattle.std.proofs.lemmas.Bool.{cases_eq, eq-eqb, ne_eqb}
use Rattle.std.specs.FinMap as map
use Rattle.mz_lists.specs.Members.{ListsView}
use Rattle.mz_lists.specs.Numbers.{NumbersView}
use Rattle.mz_lists.specs.Slots.{has_member, length_at, members_of, list_of, other_than}
use Rattle.mz_lists.specs.Chains.{Chains, IsBefore}
use Rattle.mz_lists.specs.Heads.{HeadsView, head_of, list_count, IsWithHead}
use Rattle.mz_lists.specs.Kept.{AreKept, chains_of}
use Rattle.mz_lists.proofs.ChainLemmas.{Drops, apart, drop_linked}
use Rattle.mz_lists.proofs.MapLemmas.{get_removed, get_not_removed, same_members}
use Rattle.mz_lists.proofs.SlotLemmas.{at_set, off_set, len_set, member_is, member_not, member_alike, member_below, get_no_member, get_alike}
use Rattle.mz_lists.proofs.KeptLemmas.{none_some, one_length, other_than-ne, next_place, prev_place}

-- a choice by whether two numbers are one
pub if_same : {A : Type 0} (a b : ℕ) (x y : A) → a ≡ b → (if a == b then x else y) ≡ x
if_same a b x y e = rw (eq-eqb a b e) refl

pub if_other : {A : Type 0} (a b : ℕ) (x y : A) → a ≢ b → (if a == b then x else y) ≡ y
if_other a b x y e = rw (ne_eqb a b e) refl

-- a choice of two small numbers is small
if_below : (t : Bool) (x y m : ℕ) → x < m → y < m → (if t then x else y) < m
if_below true x y m a b = a
if_below false x y m a b = b

pub choice_below : (a b x y r m : ℕ) → r ≡ (if a == b then x else y) → x < m → y < m → r < m
choice_below a b x y r m e x_low y_low =
    let low : (if a == b then x else y) < m = if_below (a == b) x y m x_low y_low in
    subst (λ z. z < m) (sym e) low

-- the place behind a member, where there is one
pub behind_below : (s q x m : ℕ) (o : Option ℕ) → o ≡ (if s == q then None else Some s) → s < m → o ≡ Some x → x < m
behind_below s q x m o o_is low e = elim (cases_eq s q) [
  | inl f ↦ let none : o ≡ None = o_is ∙ if_same s q None (Some s) f in absurd (none_some o x none e)
  | inr n ↦
      let some : o ≡ Some s = o_is ∙ if_other s q None (Some s) n in
      let same = one_length o x s e some in
      omega arith
]

-- a list and its first member by other names
pub first_of : (heads heads' : HeadsView) (i j : ℕ) (o r : Option ℕ) → i ≡ j → o ≡ r → IsWithHead heads i o heads' → IsWithHead heads j r heads'
first_of heads heads' i j o r a b w = subst (λ x. IsWithHead heads x r heads') a (subst (λ x. IsWithHead heads i x heads') b w)

module _ (most : ℕ) (next prev lengths : NumbersView) (heads : HeadsView) (k : AreKept most next prev lengths heads)
    (next1 next' prev1 prev' : NumbersView) (heads' : HeadsView) (q s p a b x y : ℕ)
    (here : has_member next.items prev.items q ≡ true)
    (s_is : s ≡ get_or next.items q 0) (p_is : p ≡ get_or prev.items q 0)
    (a_is : a ≡ (if s == q then p else s)) (b_is : b ≡ (if p == q then s else p)) (x_is : x ≡ other_than q) (y_is : y ≡ other_than q)
    (first_out : p ≡ q → IsWithHead heads (list_of most (length_at lengths.items q)) (if s == q then None else Some s) heads')
    (later_out : p ≢ q → heads' ≡ heads)
    (n_set : next1 ≡ record next { items = set next.items p a })
    (n_out : next' ≡ record next1 { items = set next1.items q x })
    (p_set : prev1 ≡ record prev { items = set prev.items s b })
    (p_out : prev' ≡ record prev1 { items = set prev1.items q y }) where
  abbrev C : Chains
  C = chains_of most next.items prev.items lengths.items heads

  abbrev C' : Chains
  C' = chains_of most next'.items prev'.items lengths.items heads'

  low : q < length next.items
  low = member_below next.items prev.items q here

  s_low : s < length next.items
  s_low = let at_s = next_place most next prev lengths heads k q here in omega (arith, s_is)

  p_low : p < length next.items
  p_low = let at_p = prev_place most next prev lengths heads k q here in omega (arith, p_is)

  n1_items : next1.items ≡ set next.items p a
  n1_items = ap (λ (v : NumbersView). v.items) n_set

  n_items : next'.items ≡ set next1.items q (other_than q)
  n_items = ap (λ (v : NumbersView). v.items) n_out ∙ ap (set next1.items q) x_is

  p1_items : prev1.items ≡ set prev.items s b
  p1_items = ap (λ (v : NumbersView). v.items) p_set

  p_items : prev'.items ≡ set prev1.items q (other_than q)
  p_items = ap (λ (v : NumbersView). v.items) p_out ∙ ap (set prev1.items q) y_is

  n1_len : length next1.items ≡ length next.items
  n1_len = len_set next.items next1.items p a n1_items

  n_len : length next'.items ≡ length next.items
  n_len = len_set next1.items next'.items q (other_than q) n_items ∙ n1_len

  p1_len : length prev1.items ≡ length prev.items
  p1_len = len_set prev.items prev1.items s b p1_items

  p_len : length prev'.items ≡ length prev.items
  p_len = len_set prev1.items prev'.items q (other_than q) p_items ∙ p1_len

  next_q : get_or next'.items q 0 ≡ other_than q
  next_q = let at_q = low in at_set next1.items next'.items q (other_than q) n_items (omega (arith, n1_len))

  next_p : p ≢ q → get_or next'.items p 0 ≡ a
  next_p ne = off_set next1.items next'.items q (other_than q) p n_items ne ∙ at_set next.items next1.items p a n1_items p_low

  next_r : (r : ℕ) → r ≢ q → r ≢ p → get_or next'.items r 0 ≡ get_or next.items r 0
  next_r r nq np = off_set next1.items next'.items q (other_than q) r n_items nq ∙ off_set next.items next1.items p a r n1_items np

  prev_q : get_or prev'.items q 0 ≡ other_than q
  prev_q = let at_q = low in let count = k.prevs in at_set prev1.items prev'.items q (other_than q) p_items (omega (arith, p1_len))

  prev_s : s ≢ q → get_or prev'.items s 0 ≡ b
  prev_s ne =
      let at_s = s_low in
      let count = k.prevs in
      off_set prev1.items prev'.items q (other_than q) s p_items ne ∙ at_set prev.items prev1.items s b p1_items (omega arith)

  prev_r : (r : ℕ) → r ≢ q → r ≢ s → get_or prev'.items r 0 ≡ get_or prev.items r 0
  prev_r r nq ns = off_set prev1.items prev'.items q (other_than q) r p_items nq ∙ off_set prev.items prev1.items s b r p1_items ns

  -- the neighbours in the list
  before_q : p ≢ q → IsBefore C k.linked.rank p q
  before_q ne = rw p_is (k.linked.before q here (λ e. ne (p_is ∙ e)))

  after_q : s ≢ q → IsBefore C k.linked.rank q s
  after_q ne = rw s_is (k.linked.after q here (λ e. ne (s_is ∙ e)))

  s_not_p : s ≢ q → s ≢ p
  s_not_p ns e = elim (cases_eq p q) [
    | inl f ↦ ns (e ∙ f)
    | inr np ↦
        let one = (before_q np).rises in
        let two = (after_q ns).rises in
        omega (arith, ap k.linked.rank e)
  ]

  gone : has_member next'.items prev'.items q ≡ false
  gone = member_not next'.items prev'.items q (next_q ∙ sym prev_q) (λ e. other_than-ne q (sym next_q ∙ e))

  below' : (r : ℕ) → r < length next.items → r < length next'.items
  below' r lt = omega (arith, n_len)

  -- the one before it is still a member
  member_p : p ≢ q → has_member next'.items prev'.items p ≡ true
  member_p np = member_is next'.items prev'.items p (below' p p_low) (elim (cases_eq s q) [
    | inl e ↦ inl (next_p np ∙ a_is ∙ if_same s q p s e)
    | inr ns ↦
        let to_s : get_or next'.items p 0 ≡ s = next_p np ∙ a_is ∙ if_other s q p s ns in
        let back : get_or prev'.items p 0 ≡ get_or prev.items p 0 = prev_r p np (λ e. s_not_p ns (sym e)) in
        inr (λ e.
        let same : s ≡ get_or prev.items p 0 = sym to_s ∙ e ∙ back in
        elim (cases_eq (get_or prev.items p 0) p) [
          | inl f ↦ s_not_p ns (same ∙ f)
          | inr more ↦
              let zero_up = (k.linked.before p (before_q np).from more).rises in
              let one = (before_q np).rises in
              let two = (after_q ns).rises in
              omega (arith, ap k.linked.rank same)
        ])
  ])

  -- and so is the one behind
  member_s : s ≢ q → has_member next'.items prev'.items s ≡ true
  member_s ns = member_is next'.items prev'.items s (below' s s_low) (
      let on : get_or next'.items s 0 ≡ get_or next.items s 0 = next_r s ns (s_not_p ns) in
      elim (cases_eq (get_or next.items s 0) s) [
        | inl e ↦ inl (on ∙ e)
        | inr more ↦
            let three = (k.linked.after s (after_q ns).to more).rises in
            let two = (after_q ns).rises in
            elim (cases_eq p q) [
              | inl f ↦
                  let to_s : get_or prev'.items s 0 ≡ s = prev_s ns ∙ b_is ∙ if_same p q s p f in
                  inr (λ e. more (sym on ∙ e ∙ to_s))
              | inr np ↦
                  let to_p : get_or prev'.items s 0 ≡ p = prev_s ns ∙ b_is ∙ if_other p q s p np in
                  let one = (before_q np).rises in
                  inr (λ e. omega (arith, ap k.linked.rank (sym on ∙ e ∙ to_p)))
            ]
      ])

  member_r : (r : ℕ) → r ≢ q → has_member next'.items prev'.items r ≡ has_member next.items prev.items r
  member_r r ne = elim (cases_eq r p) [
    | inl e ↦
        let np : p ≢ q = λ f. ne (e ∙ f) in
        ap (has_member next'.items prev'.items) e ∙ member_p np ∙ sym (ap (has_member next.items prev.items) e ∙ (before_q np).from)
    | inr np ↦ elim (cases_eq r s) [
      | inl e ↦
          let ns : s ≢ q = λ f. ne (e ∙ f) in
          ap (has_member next'.items prev'.items) e ∙ member_s ns ∙ sym (ap (has_member next.items prev.items) e ∙ (after_q ns).to)
      | inr ns ↦ member_alike next.items prev.items next'.items prev'.items r n_len (next_r r ne np) (prev_r r ne ns)
    ]
  ]

  others : (j : ℕ) → j ≢ list_of most (length_at lengths.items q) → head_of heads' j ≡ head_of heads j
  others j ne = elim (cases_eq p q) [
    | inl e ↦ (first_out e).others j ne
    | inr np ↦ ap (λ h. head_of h j) (later_out np)
  ]

  drops : Drops C C' q p s
  drops = record {
    old = here;
    prev_is = sym p_is;
    next_is = sym s_is;
    gone = gone;
    members = member_r;
    last = λ np e. next_p np ∙ a_is ∙ if_same s q p s e;
    on = λ np ns. next_p np ∙ a_is ∙ if_other s q p s ns;
    nexts = next_r;
    first = λ ns e. prev_s ns ∙ b_is ∙ if_same p q s p e;
    back = λ ns np. prev_s ns ∙ b_is ∙ if_other p q s p np;
    prevs = prev_r;
    lists = λ r. refl;
    kept = λ np j. ap (λ h. head_of h j) (later_out np);
    others = others;
    alone = λ e f. (first_out e).there ∙ if_same s q None (Some s) f;
    second = λ e ns. (first_out e).there ∙ if_other s q None (Some s) ns;
  }

  heads_count : list_count heads' ≡ list_count heads
  heads_count = elim (cases_eq p q) [ inl e ↦ (first_out e).count | inr np ↦ ap list_count (later_out np) ]

  heads_limit : heads'.places.limit ≡ heads.places.limit
  heads_limit = elim (cases_eq p q) [ inl e ↦ (first_out e).limit | inr np ↦ ap (λ (h : HeadsView). h.places.limit) (later_out np) ]

  pub take_kept : AreKept most next' prev' lengths heads'
  take_kept =
      let n_limit : next'.limit ≡ next.limit = ap (λ (v : NumbersView). v.limit) n_out ∙ ap (λ (v : NumbersView). v.limit) n_set in
      let p_limit : prev'.limit ≡ prev.limit = ap (λ (v : NumbersView). v.limit) p_out ∙ ap (λ (v : NumbersView). v.limit) p_set in
      let nl = n_len in
      let pl = p_len in
      let hl = heads_limit in
      record {
        some = k.some;
        few = k.few;
        small = omega (arith, k.small);
        prevs = omega (arith, k.prevs);
        lens = omega (arith, k.lens);
        lists = heads_count ∙ k.lists;
        next_fits = omega (arith, k.next_fits);
        prev_fits = omega (arith, k.prev_fits);
        length_fits = omega (arith, k.length_fits);
        head_fits = omega (arith, k.head_fits);
        next_short = omega (arith, k.next_short);
        prev_short = omega (arith, k.prev_short);
        linked = drop_linked C C' q p s drops k.linked;
        within = λ r m.
            let ne : r ≢ q = apart C' q r gone m in
            let old = k.within r (sym (member_r r ne) ∙ m) in
            omega (arith, n_len);
      }

  pub take_members : members_of next'.items prev'.items lengths.items ≡ map.remove (members_of next.items prev.items lengths.items) q
  take_members = same_members _ _ (λ r. elim (cases_eq r q) [
    | inl e ↦
        get_no_member next'.items prev'.items lengths.items r (ap (has_member next'.items prev'.items) e ∙ gone)
        ∙ sym (get_removed (members_of next.items prev.items lengths.items) q r e)
    | inr ne ↦
        get_alike next.items prev.items lengths.items next'.items prev'.items lengths.items r (member_r r ne) refl
        ∙ sym (get_not_removed (members_of next.items prev.items lengths.items) q r ne)
  ])

  pub take_view : (v : ListsView) → ◌≡◌ {A = ListsView} (record { quanta = length next.items; members = members_of next.items prev.items lengths.items }) v
      → ◌≡◌ {A = ListsView} (record { quanta = length next'.items; members = members_of next'.items prev'.items lengths.items }) (record { quanta = v.quanta; members = map.remove v.members q })
  take_view v e =
      let count : length next'.items ≡ v.quanta = n_len ∙ ap (λ (w : ListsView). w.quanta) e in
      let all : members_of next'.items prev'.items lengths.items ≡ map.remove v.members q = take_members ∙ ap (λ (w : ListsView). map.remove w.members q) e in
      λ j. record { quanta = count j; members = all j }
