-- What all free lists keep, where there is no member yet, and what follows from it.
use Rattle.std.proofs.Common.{◌≡◌, ◌≢◌, ℕ, suc, ◌-◌, ◌^◌, ◌<◌, ◌≤◌, true, false, Option, Some, None, List, length, get_or, set, replicate, ap, sym, refl, subst, ◌∙◌, inl, inr, arith}
use Rattle.std.specs.Prelude.{IsSome, IsNone}
use Rattle.std.proofs.lemmas.Bool.{cases_eq, cases_lt, eq-eqb, ne_eqb}
use Rattle.std.proofs.lemmas.List.{length-replicate, get_or-replicate}
use Rattle.std.specs.FinMap as map
use Rattle.std.specs.FinMap.{get-empty}
use Rattle.std.specs.Ordering.{nat_cmp}
use Rattle.mz_lists.specs.Numbers.{NumbersView}
use Rattle.mz_lists.specs.Members.{ListsView, AreWithin, HasNoFit, IsLeastFit}
use Rattle.mz_lists.specs.Slots.{has_member, length_at, members_of, list_of, other_than, LeadAway}
use Rattle.mz_lists.specs.Chains.{Chains, AreLinked}
use Rattle.mz_lists.specs.Heads.{HeadsView, head_of, list_count, HasNoHead, IsLowestHead}
use Rattle.mz_lists.specs.Kept.{AreKept, chains_of}
use Rattle.mz_lists.proofs.ChainLemmas.{no_head, list_filled}
use Rattle.mz_lists.proofs.MapLemmas.{same_members}
use Rattle.mz_lists.proofs.SlotLemmas.{at_set, off_set, len_set, member_not, none_above, not_both, member_below, get_member, get_no_member}

-- the other place is another
pub other_than-ne : (q : ℕ) → other_than q ≢ q
other_than-ne q e = elim (cases_eq q 0) [
  | inl z ↦ let one : other_than q ≡ 1 = rw (eq-eqb q 0 z) refl in omega arith
  | inr n ↦ let none : other_than q ≡ 0 = rw (ne_eqb q 0 n) refl in omega arith
]

pub other_than-small : (q : ℕ) → other_than q < 2
other_than-small q = elim (cases_eq q 0) [
  | inl z ↦ let one : other_than q ≡ 1 = rw (eq-eqb q 0 z) refl in omega arith
  | inr n ↦ let none : other_than q ≡ 0 = rw (ne_eqb q 0 n) refl in omega arith
]

-- where a place has no member
pub unlinked_not : (next prev : List ℕ) → length prev ≡ length next → LeadAway next → LeadAway prev → (q : ℕ) → has_member next prev q ≡ false
unlinked_not next prev l n p q = elim (cases_lt q (length next)) [
  | inl lt ↦ member_not next prev q (n q lt ∙ sym (p q (omega arith))) (λ e. other_than-ne q (sym (n q lt) ∙ e))
  | inr g ↦ none_above next prev q g
]

-- no member is linked
pub none_linked : (c : Chains) → ((q : ℕ) → c.is_member q ≡ false) → ((k : ℕ) → c.head k ≡ None) → AreLinked c
none_linked c not_in none = record {
  rank = λ q. q;
  first = λ q m. absurd (not_both _ m (not_in q));
  before = λ q m. absurd (not_both _ m (not_in q));
  after = λ q m. absurd (not_both _ m (not_in q));
  heads = λ k q e. absurd (no_head c k q (none k) e);
}

-- no place has a member, and so there is none
pub no_members_of : (next prev lengths : List ℕ) → ((q : ℕ) → has_member next prev q ≡ false) → members_of next prev lengths ≡ map.empty
no_members_of next prev lengths not_in = same_members _ _ (λ q. get_no_member next prev lengths q (not_in q) ∙ sym (get-empty nat_cmp q))

-- links that lead to place 0, but for the one of place 0
pub away_set : (quanta : ℕ) (xs ys : List ℕ) → xs ≡ replicate quanta 0 → ys ≡ set xs 0 1 → 0 < quanta → LeadAway ys
away_set quanta xs ys zeros e some q low =
    let count : length xs ≡ quanta = ap length zeros ∙ length-replicate quanta 0 in
    elim (cases_eq q 0) [
      | inl z ↦ ap (λ i. get_or ys i 0) z ∙ at_set xs ys 0 1 e (omega arith) ∙ sym (rw (eq-eqb q 0 z) refl)
      | inr n ↦
          let in_xs : q < length xs = omega (arith, len_set xs ys 0 1 e) in
          let zero_there : get_or xs q 0 ≡ 0 = ap (λ zs. get_or zs q 0) zeros ∙ get_or-replicate quanta q 0 0 (omega arith) in
          off_set xs ys 0 1 q e n ∙ zero_there ∙ sym (rw (ne_eqb q 0 n) refl)
    ]

pub away_none : (links : List ℕ) → length links ≡ 0 → LeadAway links
away_none links none q low = absurd (omega arith)

-- free lists without a member
pub made_kept : (most quanta : ℕ) (next prev lengths : NumbersView) (heads : HeadsView) → 1 ≤ most → most ≤ 64 → quanta ≤ 2 ^ 32
    → length next.items ≡ quanta → length prev.items ≡ quanta → length lengths.items ≡ quanta → list_count heads ≡ most
    → (quanta ≤ next.limit) × (2 ≤ next.limit) → (quanta ≤ prev.limit) × (2 ≤ prev.limit) → quanta ≤ lengths.limit → quanta ≤ heads.places.limit
    → LeadAway next.items → LeadAway prev.items → HasNoHead heads 0 → AreKept most next prev lengths heads
made_kept most quanta next prev lengths heads some few small nc pc lc hc nl pl ll hl na pa none =
    let empty_at : (q : ℕ) → has_member next.items prev.items q ≡ false = unlinked_not next.items prev.items (pc ∙ sym nc) na pa in
    let n_fits = nl.0 in
    let n_short = nl.1 in
    let p_fits = pl.0 in
    let p_short = pl.1 in
    record {
      some = some;
      few = few;
      small = omega arith;
      prevs = omega arith;
      lens = omega arith;
      lists = hc;
      next_fits = omega arith;
      prev_fits = omega arith;
      length_fits = omega arith;
      head_fits = omega arith;
      next_short = n_short;
      prev_short = p_short;
      linked = none_linked (chains_of most next.items prev.items lengths.items heads) empty_at (λ k. none k (omega arith));
      within = λ q m. absurd (not_both _ m (empty_at q));
    }

-- two answers of a map are one
pub one_length : (o : Option ℕ) (a b : ℕ) → o ≡ Some a → o ≡ Some b → a ≡ b
one_length o a b p q = cc

pub none_some : (o : Option ℕ) (a : ℕ) → o ≡ None → o ≡ Some a → ⊥
none_some o a p q = cc

some_is : (o : Option ℕ) → IsSome o → (l : ℕ) × (o ≡ Some l)
some_is None h = let e : false ≡ true = h in absurd (cc)
some_is (Some l) h = (l, refl)

pub is_some_from : (o : Option ℕ) (l : ℕ) → o ≡ Some l → IsSome o
is_some_from o l e = rw e refl

pub is_none_from : (o : Option ℕ) → o ≡ None → IsNone o
is_none_from o e = rw e refl

none_is : (o : Option ℕ) → IsNone o → o ≡ None
none_is None h = refl
none_is (Some l) h = let e : true ≡ false = h in absurd (cc)

module _ (most : ℕ) (next prev lengths : NumbersView) (heads : HeadsView) (k : AreKept most next prev lengths heads) where
  abbrev C : Chains
  C = chains_of most next.items prev.items lengths.items heads

  -- a member and its length, as the map has them
  pub tell : (q l : ℕ) → map.get (members_of next.items prev.items lengths.items) q ≡ Some l → (has_member next.items prev.items q ≡ true) × (l ≡ length_at lengths.items q)
  tell q l e = elim (has_member next.items prev.items q) as (λ b. has_member next.items prev.items q ≡ b → (has_member next.items prev.items q ≡ true) × (l ≡ length_at lengths.items q)) [
    | true ↦ λ m. (m, one_length _ _ _ e (get_member next.items prev.items lengths.items q m))
    | false ↦ λ m. absurd (none_some _ l (get_no_member next.items prev.items lengths.items q m) e)
  ] refl

  pub there : (q : ℕ) → IsSome (map.get (members_of next.items prev.items lengths.items) q) → has_member next.items prev.items q ≡ true
  there q h = let s = some_is _ h in (tell q s.0 s.1).0

  pub not_there : (q : ℕ) → IsNone (map.get (members_of next.items prev.items lengths.items) q) → has_member next.items prev.items q ≡ false
  not_there q h = elim (has_member next.items prev.items q) as (λ b. has_member next.items prev.items q ≡ b → has_member next.items prev.items q ≡ false) [
    | true ↦ λ m. absurd (none_some _ _ (none_is _ h) (get_member next.items prev.items lengths.items q m))
    | false ↦ λ m. m
  ] refl

  -- the neighbours of a member are places
  pub next_place : (q : ℕ) → has_member next.items prev.items q ≡ true → get_or next.items q 0 < length next.items
  next_place q m = elim (cases_eq (get_or next.items q 0) q) [
    | inl e ↦ let low = member_below next.items prev.items q m in omega arith
    | inr ne ↦ member_below next.items prev.items _ (k.linked.after q m ne).to
  ]

  pub prev_place : (q : ℕ) → has_member next.items prev.items q ≡ true → get_or prev.items q 0 < length next.items
  prev_place q m = elim (cases_eq (get_or prev.items q 0) q) [
    | inl e ↦ let low = member_below next.items prev.items q m in omega arith
    | inr ne ↦ member_below next.items prev.items _ (k.linked.before q m ne).from
  ]

  pub within_quanta : AreWithin (record { quanta = length next.items; members = members_of next.items prev.items lengths.items })
  within_quanta q l e =
      let t = tell q l e in
      let in_all = k.within q t.0 in
      let same = t.1 in
      (omega arith, omega arith)

  -- a list without a first member has none
  pub no_fit : (n : ℕ) → 1 ≤ n → n ≤ most → HasNoHead heads (n - 1) → HasNoFit (members_of next.items prev.items lengths.items) n
  no_fit n low high none q l e = elim (cases_lt l n) [
    | inl less ↦ less
    | inr more ↦
        let t = tell q l e in
        let same = t.1 in
        let h = list_filled C k.linked (suc (k.linked.rank q)) q (omega arith) t.0 in
        let up : n - 1 ≤ list_of most (length_at lengths.items q) = omega arith in
        absurd (none_some _ h.0 (none (list_of most (length_at lengths.items q)) up) h.1)
  ]

  -- the first member of the lowest list that serves is one of the least length
  pub least_fit : (n q : ℕ) → 1 ≤ n → n ≤ most → IsLowestHead heads (n - 1) q → IsLeastFit most (members_of next.items prev.items lengths.items) n q (length_at lengths.items q)
  least_fit n q low high f =
      let h = k.linked.heads f.list q f.there in
      let here = h.list in
      let above = f.above in
      record {
        there = get_member next.items prev.items lengths.items q h.member;
        serves = omega arith;
        least = λ p m e more. elim (cases_lt m (length_at lengths.items q)) [
          | inr over ↦ omega arith
          | inl less ↦
              let t = tell p m e in
              let same = t.1 in
              let first = list_filled C k.linked (suc (k.linked.rank p)) p (omega arith) t.0 in
              elim (cases_lt (list_of most (length_at lengths.items p)) f.list) [
                | inr over ↦ omega arith
                | inl lower ↦
                    let up : n - 1 ≤ list_of most (length_at lengths.items p) = omega arith in
                    absurd (none_some _ first.0 (f.before (list_of most (length_at lengths.items p)) up lower) first.1)
              ]
        ];
      }

  -- the first member of a list is a place
  pub head_place : (i q : ℕ) → head_of heads i ≡ Some q → (has_member next.items prev.items q ≡ true) × (q < length next.items)
  head_place i q e =
      let h = k.linked.heads i q e in
      (h.member, member_below next.items prev.items q h.member)

  -- the same, where the map is told
  pub taken : (q : ℕ) (v : ListsView) → ◌≡◌ {A = ListsView} (record { quanta = length next.items; members = members_of next.items prev.items lengths.items }) v → IsSome (map.get v.members q) → has_member next.items prev.items q ≡ true
  taken q v e h = there q (subst (λ (w : ListsView). IsSome (map.get w.members q)) (sym e) h)

  pub free : (q : ℕ) (v : ListsView) → ◌≡◌ {A = ListsView} (record { quanta = length next.items; members = members_of next.items prev.items lengths.items }) v → IsNone (map.get v.members q) → has_member next.items prev.items q ≡ false
  free q v e h = not_there q (subst (λ (w : ListsView). IsNone (map.get w.members q)) (sym e) h)

  -- where the first member of its list is taken out
  pub head_filled : (q i : ℕ) → has_member next.items prev.items q ≡ true → get_or prev.items q 0 ≡ q → i ≡ list_of most (length_at lengths.items q) → IsSome (head_of heads i)
  head_filled q i m p e = is_some_from (head_of heads i) q (ap (head_of heads) e ∙ k.linked.first q m p)
