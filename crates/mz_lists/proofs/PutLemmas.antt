-- A member put first in its list.
use Rattle.std.proofs.Common.{◌≡◌, ◌≢◌, ℕ, ◌+◌, ◌-◌, ◌<◌, ◌≤◌, ◌⊎◌, true, false, Option, Some, None, length, get_or, set, ap, sym, refl, ◌∙◌, inl, inr, arith}
use Rattle.std.specs.Prelude.{unwrap_or}
use Rattle.std.proofs.lemmas.Bool.{cases_eq}
use Rattle.std.specs.FinMap as map
use Rattle.mz_lists.specs.Members.{ListsView}
use Rattle.mz_lists.specs.Numbers.{NumbersView}
use Rattle.mz_lists.specs.Slots.{has_member, length_at, members_of, list_of}
use Rattle.mz_lists.specs.Chains.{Chains, IsHead}
use Rattle.mz_lists.specs.Heads.{HeadsView, head_of, IsWithHead}
use Rattle.mz_lists.specs.Kept.{AreKept, chains_of}
use Rattle.mz_lists.proofs.ChainLemmas.{Adds, apart, put_linked}
use Rattle.mz_lists.proofs.MapLemmas.{get_inserted, get_not_inserted, same_members}
use Rattle.mz_lists.proofs.SlotLemmas.{at_set, off_set, len_set, member_is, member_alike, member_below, get_member, get_alike}

-- the first member of a list, or the new one where there was none
first_or : (o : Option ℕ) (h q : ℕ) → h ≡ unwrap_or o q → (o ≡ Some h) ⊎ ((o ≡ None) × (h ≡ q))
first_or None h q e = inr (refl, e)
first_or (Some x) h q e = inl (ap (λ y. Some y) (sym e))

module _ (most : ℕ) (next prev lengths : NumbersView) (heads : HeadsView) (k : AreKept most next prev lengths heads) (o : Option ℕ) (i q h : ℕ)
    (was : o ≡ head_of heads i) (h_is : h ≡ unwrap_or o q) where
  pub first_is : (head_of heads i ≡ Some h) ⊎ ((head_of heads i ≡ None) × (h ≡ q))
  first_is = first_or (head_of heads i) h q (h_is ∙ ap (λ x. unwrap_or x q) was)

  pub first_place : q < length next.items → h < length next.items
  first_place low = elim first_is [
    | inl e ↦ member_below next.items prev.items h (k.linked.heads i h e).member
    | inr n ↦ let same = n.1 in omega arith
  ]

module _ (most : ℕ) (next prev lengths : NumbersView) (heads : HeadsView) (k : AreKept most next prev lengths heads)
    (next' prev1 prev' lengths' : NumbersView) (heads' : HeadsView) (o : Option ℕ) (i q n h : ℕ)
    (free : has_member next.items prev.items q ≡ false) (some : 1 ≤ n) (fits : q + n ≤ length next.items)
    (i_is : i ≡ list_of most n) (was : o ≡ head_of heads i) (h_is : h ≡ unwrap_or o q) (put : IsWithHead heads i (Some q) heads')
    (l_set : lengths' ≡ record lengths { items = set lengths.items q (n - 1) })
    (n_set : next' ≡ record next { items = set next.items q h })
    (p_set : prev1 ≡ record prev { items = set prev.items h q })
    (q_set : prev' ≡ record prev1 { items = set prev1.items q q }) where
  abbrev C : Chains
  C = chains_of most next.items prev.items lengths.items heads

  abbrev C' : Chains
  C' = chains_of most next'.items prev'.items lengths'.items heads'

  low : q < length next.items
  low = omega arith

  h_low : h < length next.items
  h_low = first_place most next prev lengths heads k o i q h was h_is low

  n_items : next'.items ≡ set next.items q h
  n_items = ap (λ (v : NumbersView). v.items) n_set

  p_items : prev1.items ≡ set prev.items h q
  p_items = ap (λ (v : NumbersView). v.items) p_set

  q_items : prev'.items ≡ set prev1.items q q
  q_items = ap (λ (v : NumbersView). v.items) q_set

  l_items : lengths'.items ≡ set lengths.items q (n - 1)
  l_items = ap (λ (v : NumbersView). v.items) l_set

  n_len : length next'.items ≡ length next.items
  n_len = len_set next.items next'.items q h n_items

  p1_len : length prev1.items ≡ length prev.items
  p1_len = len_set prev.items prev1.items h q p_items

  p_len : length prev'.items ≡ length prev.items
  p_len = len_set prev1.items prev'.items q q q_items ∙ p1_len

  l_len : length lengths'.items ≡ length lengths.items
  l_len = len_set lengths.items lengths'.items q (n - 1) l_items

  next_q : get_or next'.items q 0 ≡ h
  next_q = at_set next.items next'.items q h n_items low

  next_r : (r : ℕ) → r ≢ q → get_or next'.items r 0 ≡ get_or next.items r 0
  next_r r ne = off_set next.items next'.items q h r n_items ne

  prev_q : get_or prev'.items q 0 ≡ q
  prev_q = let count = k.prevs in let at_q = low in at_set prev1.items prev'.items q q q_items (omega (arith, p1_len))

  prev_h : h ≢ q → get_or prev'.items h 0 ≡ q
  prev_h ne =
      let count = k.prevs in
      let at_h = h_low in
      off_set prev1.items prev'.items q q h q_items ne ∙ at_set prev.items prev1.items h q p_items (omega arith)

  prev_r : (r : ℕ) → r ≢ q → r ≢ h → get_or prev'.items r 0 ≡ get_or prev.items r 0
  prev_r r nq nh = off_set prev1.items prev'.items q q r q_items nq ∙ off_set prev.items prev1.items h q r p_items nh

  length_q : length_at lengths'.items q ≡ n
  length_q =
      let count = k.lens in
      let at_q = low in
      let here : get_or lengths'.items q 0 ≡ n - 1 = at_set lengths.items lengths'.items q (n - 1) l_items (omega arith) in
      omega arith

  length_r : (r : ℕ) → r ≢ q → length_at lengths'.items r ≡ length_at lengths.items r
  length_r r ne = ap (λ x. x + 1) (off_set lengths.items lengths'.items q (n - 1) r l_items ne)

  below' : (r : ℕ) → r < length next.items → r < length next'.items
  below' r lt = omega (arith, n_len)

  member_q : has_member next'.items prev'.items q ≡ true
  member_q = member_is next'.items prev'.items q (below' q low) (elim (cases_eq h q) [
    | inl e ↦ inl (next_q ∙ e)
    | inr ne ↦ inr (λ e. ne (sym next_q ∙ e ∙ prev_q))
  ])

  -- the member that was first, with the new one before it
  member_h : h ≢ q → IsHead C i h → has_member next'.items prev'.items h ≡ true
  member_h ne w = member_is next'.items prev'.items h (below' h h_low) (elim (cases_eq (get_or next.items h 0) h) [
    | inl e ↦ inl (next_r h ne ∙ e)
    | inr more ↦
        let b = k.linked.after h w.member more in
        inr (λ e. apart C q (get_or next.items h 0) free b.to (sym (next_r h ne) ∙ e ∙ prev_h ne))
  ])

  member_r : (r : ℕ) → r ≢ q → has_member next'.items prev'.items r ≡ has_member next.items prev.items r
  member_r r ne = elim (cases_eq r h) [
    | inr nh ↦ member_alike next.items prev.items next'.items prev'.items r n_len (next_r r ne) (prev_r r ne nh)
    | inl e ↦ elim (first_is most next prev lengths heads k o i q h was h_is) [
      | inr none ↦ absurd (ne (e ∙ none.1))
      | inl head ↦
          let w = k.linked.heads i h head in
          ap (has_member next'.items prev'.items) e ∙ member_h (λ f. ne (e ∙ f)) w ∙ sym (ap (has_member next.items prev.items) e ∙ w.member)
    ]
  ]

  adds : Adds C C' q i h
  adds = record {
    new = free;
    was = first_is most next prev lengths heads k o i q h was h_is;
    member = member_q;
    members = member_r;
    next = next_q;
    nexts = next_r;
    prev = prev_q;
    back = prev_h;
    prevs = prev_r;
    list = ap (list_of most) length_q ∙ sym i_is;
    lists = λ r ne. ap (list_of most) (length_r r ne);
    head = put.there;
    heads = put.others;
  }

  pub put_kept : AreKept most next' prev' lengths' heads'
  put_kept =
      let n_limit : next'.limit ≡ next.limit = ap (λ (v : NumbersView). v.limit) n_set in
      let p_limit : prev'.limit ≡ prev.limit = ap (λ (v : NumbersView). v.limit) q_set ∙ ap (λ (v : NumbersView). v.limit) p_set in
      let l_limit : lengths'.limit ≡ lengths.limit = ap (λ (v : NumbersView). v.limit) l_set in
      let nl = n_len in
      let pl = p_len in
      let ll = l_len in
      let hl = put.limit in
      let hc = put.count in
      record {
        some = k.some;
        few = k.few;
        small = omega (arith, k.small);
        prevs = omega (arith, k.prevs);
        lens = omega (arith, k.lens);
        lists = put.count ∙ k.lists;
        next_fits = omega (arith, k.next_fits);
        prev_fits = omega (arith, k.prev_fits);
        length_fits = omega (arith, k.length_fits);
        head_fits = omega (arith, k.head_fits);
        next_short = omega (arith, k.next_short);
        prev_short = omega (arith, k.prev_short);
        linked = put_linked C C' q i h adds k.linked;
        within = λ r m. elim (cases_eq r q) [
          | inl e ↦
              let long : length_at lengths'.items r ≡ n = ap (length_at lengths'.items) e ∙ length_q in
              omega (arith, n_len)
          | inr ne ↦
              let old = k.within r (sym (member_r r ne) ∙ m) in
              let long = length_r r ne in
              omega (arith, n_len)
        ];
      }

  pub put_members : members_of next'.items prev'.items lengths'.items ≡ map.insert (members_of next.items prev.items lengths.items) q n
  put_members = same_members _ _ (λ r. elim (cases_eq r q) [
    | inl e ↦
        get_member next'.items prev'.items lengths'.items r (ap (has_member next'.items prev'.items) e ∙ member_q)
        ∙ ap (λ l. Some l) (ap (length_at lengths'.items) e ∙ length_q)
        ∙ sym (get_inserted (members_of next.items prev.items lengths.items) q n r e)
    | inr ne ↦
        get_alike next.items prev.items lengths.items next'.items prev'.items lengths'.items r (member_r r ne) (length_r r ne)
        ∙ sym (get_not_inserted (members_of next.items prev.items lengths.items) q n r ne)
  ])

  pub put_view : (v : ListsView) → ◌≡◌ {A = ListsView} (record { quanta = length next.items; members = members_of next.items prev.items lengths.items }) v
      → ◌≡◌ {A = ListsView} (record { quanta = length next'.items; members = members_of next'.items prev'.items lengths'.items }) (record { quanta = v.quanta; members = map.insert v.members q n })
  put_view v e =
      let count : length next'.items ≡ v.quanta = n_len ∙ ap (λ (w : ListsView). w.quanta) e in
      let all : members_of next'.items prev'.items lengths'.items ≡ map.insert v.members q n = put_members ∙ ap (λ (w : ListsView). map.insert w.members q n) e in
      λ j. record { quanta = count j; members = all j }
