-- Linked lists stay linked where a member is put first, and where one is taken out.
use Rattle.std.proofs.Common.{◌≡◌, ◌≢◌, ℕ, ◌+◌, ◌<◌, ◌⊎◌, true, false, Some, None, refl, sym, ap, ◌∙◌, subst, inl, inr, arith, if◌then◌else◌, nat_eq, zero, suc}
use Rattle.std.proofs.lemmas.Bool.{cases_eq, eq-eqb}
use Rattle.mz_lists.specs.Chains.{Chains, IsBefore, IsHead, AreLinked}

-- c' is c with the new member q first in the list k, where h was the first, or is q where there was none
pub record Adds (c c' : Chains) (q k h : ℕ) : Type 0 where
  pub new : c.is_member q ≡ false
  pub was : (c.head k ≡ Some h) ⊎ ((c.head k ≡ None) × (h ≡ q))
  pub member : c'.is_member q ≡ true
  pub members : (r : ℕ) → r ≢ q → c'.is_member r ≡ c.is_member r
  pub next : c'.next q ≡ h
  pub nexts : (r : ℕ) → r ≢ q → c'.next r ≡ c.next r
  pub prev : c'.prev q ≡ q
  pub back : h ≢ q → c'.prev h ≡ q
  pub prevs : (r : ℕ) → r ≢ q → r ≢ h → c'.prev r ≡ c.prev r
  pub list : c'.list q ≡ k
  pub lists : (r : ℕ) → r ≢ q → c'.list r ≡ c.list r
  pub head : c'.head k ≡ Some q
  pub heads : (j : ℕ) → j ≢ k → c'.head j ≡ c.head j

-- c' is c without the member q, whose neighbours are p and s
pub record Drops (c c' : Chains) (q p s : ℕ) : Type 0 where
  pub old : c.is_member q ≡ true
  pub prev_is : c.prev q ≡ p
  pub next_is : c.next q ≡ s
  pub gone : c'.is_member q ≡ false
  pub members : (r : ℕ) → r ≢ q → c'.is_member r ≡ c.is_member r
  pub last : p ≢ q → s ≡ q → c'.next p ≡ p
  pub on : p ≢ q → s ≢ q → c'.next p ≡ s
  pub nexts : (r : ℕ) → r ≢ q → r ≢ p → c'.next r ≡ c.next r
  pub first : s ≢ q → p ≡ q → c'.prev s ≡ s
  pub back : s ≢ q → p ≢ q → c'.prev s ≡ p
  pub prevs : (r : ℕ) → r ≢ q → r ≢ s → c'.prev r ≡ c.prev r
  pub lists : (r : ℕ) → c'.list r ≡ c.list r
  pub kept : p ≢ q → (j : ℕ) → c'.head j ≡ c.head j
  pub others : (j : ℕ) → j ≢ c.list q → c'.head j ≡ c.head j
  pub alone : p ≡ q → s ≡ q → c'.head (c.list q) ≡ None
  pub second : p ≡ q → s ≢ q → c'.head (c.list q) ≡ Some s

-- the rank with a new first
rank_with : (ℕ → ℕ) → ℕ → ℕ → ℕ
rank_with rank q r = if nat_eq r q then 0 else rank r + 1

rank_same : (rank : ℕ → ℕ) (q : ℕ) → rank_with rank q q ≡ 0
unfolding rank_with
rank_same rank q = rw (eq-eqb q q refl) refl

rank_other : (rank : ℕ → ℕ) (q r : ℕ) → r ≢ q → rank_with rank q r ≡ rank r + 1
unfolding rank_with
rank_other rank q r ne = grind arith

-- a member isn't a place without one
pub apart : (c : Chains) (q r : ℕ) → c.is_member q ≡ false → c.is_member r ≡ true → r ≢ q
apart c q r out in_ e = cc (ap c.is_member e)

-- a list has one first member
pub one_head : (c : Chains) (k p q : ℕ) → c.head k ≡ Some p → c.head k ≡ Some q → p ≡ q
one_head c k p q a b = cc

-- a list without a first member has none
pub no_head : (c : Chains) (k q : ℕ) → c.head k ≡ None → c.head k ≡ Some q → ⊥
no_head c k q a b = cc

module _ (c c' : Chains) (q k h : ℕ) (a : Adds c c' q k h) (l : AreLinked c) where
  -- the one that was first is a member of the list
  was_head : h ≢ q → IsHead c k h
  was_head ne = elim a.was [ inl s ↦ l.heads k h s | inr n ↦ absurd (ne n.1) ]

  -- none but that one was first
  was_first : (r : ℕ) → r ≢ h → c.head k ≡ Some r → ⊥
  was_first r ne e = elim a.was [ inl s ↦ ne (one_head c k r h e s) | inr n ↦ no_head c k r n.0 e ]

  old_member : (r : ℕ) → r ≢ q → c'.is_member r ≡ true → c.is_member r ≡ true
  old_member r ne m = sym (a.members r ne) ∙ m

  abbrev rank' : ℕ → ℕ
  rank' = rank_with l.rank q

  -- the new member is right before the one that was first
  new_before : h ≢ q → IsBefore c' rank' q h
  new_before ne =
      let w = was_head ne in
      let low : rank' q ≡ 0 = rank_same l.rank q in
      let high : rank' h ≡ l.rank h + 1 = rank_other l.rank q h ne in
      record {
        from = a.member;
        to = a.members h ne ∙ w.member;
        same = a.list ∙ sym (a.lists h ne ∙ w.list);
        on = a.next;
        back = a.back ne;
        rises = omega arith;
      }

  -- other neighbours stay
  still_before : (p r : ℕ) → p ≢ q → r ≢ q → r ≢ h → IsBefore c l.rank p r → IsBefore c' rank' p r
  still_before p r np nr nh b =
      let low : rank' p ≡ l.rank p + 1 = rank_other l.rank q p np in
      let high : rank' r ≡ l.rank r + 1 = rank_other l.rank q r nr in
      let rises = b.rises in
      record {
        from = a.members p np ∙ b.from;
        to = a.members r nr ∙ b.to;
        same = a.lists p np ∙ b.same ∙ sym (a.lists r nr);
        on = a.nexts p np ∙ b.on;
        back = a.prevs r nr nh ∙ b.back;
        rises = omega arith;
      }

  put_first : (r : ℕ) → c'.is_member r ≡ true → c'.prev r ≡ r → c'.head (c'.list r) ≡ Some r
  put_first r m p = elim (cases_eq r q) [
    | inl e ↦ ap (λ x. c'.head (c'.list x)) e ∙ ap c'.head a.list ∙ a.head ∙ ap (λ x. Some x) (sym e)
    | inr ne ↦ elim (cases_eq r h) [
      | inl e ↦ absurd (ne (sym p ∙ ap c'.prev e ∙ a.back (λ f. ne (e ∙ f))))
      | inr nh ↦
          let first = l.first r (old_member r ne m) (sym (a.prevs r ne nh) ∙ p) in
          elim (cases_eq (c.list r) k) [
            | inl e ↦ absurd (was_first r nh (sym (ap c.head e) ∙ first))
            | inr nk ↦ ap c'.head (a.lists r ne) ∙ a.heads (c.list r) nk ∙ first
          ]
    ]
  ]

  put_before : (r : ℕ) → c'.is_member r ≡ true → c'.prev r ≢ r → IsBefore c' rank' (c'.prev r) r
  put_before r m p = elim (cases_eq r q) [
    | inl e ↦ absurd (p (ap c'.prev e ∙ a.prev ∙ sym e))
    | inr ne ↦ elim (cases_eq r h) [
      | inl e ↦
          let nh : h ≢ q = λ f. ne (e ∙ f) in
          let same : q ≡ c'.prev r = sym (ap c'.prev e ∙ a.back nh) in
          subst (λ x. IsBefore c' rank' x r) same (subst (λ x. IsBefore c' rank' q x) (sym e) (new_before nh))
      | inr nh ↦
          let was : c'.prev r ≡ c.prev r = a.prevs r ne nh in
          let b = l.before r (old_member r ne m) (λ f. p (was ∙ f)) in
          let np : c.prev r ≢ q = apart c q (c.prev r) a.new b.from in
          subst (λ x. IsBefore c' rank' x r) (sym was) (still_before (c.prev r) r np ne nh b)
    ]
  ]

  put_after : (r : ℕ) → c'.is_member r ≡ true → c'.next r ≢ r → IsBefore c' rank' r (c'.next r)
  put_after r m n = elim (cases_eq r q) [
    | inl e ↦
        let same : h ≡ c'.next r = sym (ap c'.next e ∙ a.next) in
        let nh : h ≢ q = λ f. n (sym same ∙ f ∙ sym e) in
        subst (λ x. IsBefore c' rank' r x) same (subst (λ x. IsBefore c' rank' x h) (sym e) (new_before nh))
    | inr ne ↦
        let was : c'.next r ≡ c.next r = a.nexts r ne in
        let b = l.after r (old_member r ne m) (λ f. n (was ∙ f)) in
        let ns : c.next r ≢ q = apart c q (c.next r) a.new b.to in
        let nh : c.next r ≢ h = λ f.
        let w = was_head (λ g. ns (f ∙ g)) in
        n (was ∙ f ∙ sym w.first ∙ ap c.prev (sym f) ∙ b.back) in
        subst (λ x. IsBefore c' rank' r x) (sym was) (still_before r (c.next r) ne ns nh b)
  ]

  put_heads : (j x : ℕ) → c'.head j ≡ Some x → IsHead c' j x
  put_heads j x e = elim (cases_eq j k) [
    | inl f ↦
        let same : q ≡ x = one_head c' k q x a.head (sym (ap c'.head f) ∙ e) in
        let here : IsHead c' k q = record { member = a.member; first = a.prev; list = a.list } in
        subst (λ y. IsHead c' j y) same (subst (λ i. IsHead c' i q) (sym f) here)
    | inr nj ↦
        let w = l.heads j x (sym (a.heads j nj) ∙ e) in
        let nx : x ≢ q = apart c q x a.new w.member in
        let nh : x ≢ h = λ f. nj (sym w.list ∙ ap c.list f ∙ (was_head (λ g. nx (f ∙ g))).list) in
        record {
          member = a.members x nx ∙ w.member;
          first = a.prevs x nx nh ∙ w.first;
          list = a.lists x nx ∙ w.list;
        }
  ]

  pub put_linked : AreLinked c'
  put_linked = record { rank = rank'; first = put_first; before = put_before; after = put_after; heads = put_heads }

module _ (c c' : Chains) (q p s : ℕ) (d : Drops c c' q p s) (l : AreLinked c) where
  not_gone : (r : ℕ) → c'.is_member r ≡ true → r ≢ q
  not_gone r m = apart c' q r d.gone m

  kept_member : (r : ℕ) → c'.is_member r ≡ true → c.is_member r ≡ true
  kept_member r m = sym (d.members r (not_gone r m)) ∙ m

  -- the one before it, and the one behind
  prev_before : p ≢ q → IsBefore c l.rank p q
  prev_before ne = subst (λ x. IsBefore c l.rank x q) d.prev_is (l.before q d.old (λ e. ne (sym d.prev_is ∙ e)))

  next_after : s ≢ q → IsBefore c l.rank q s
  next_after ne = subst (λ x. IsBefore c l.rank q x) d.next_is (l.after q d.old (λ e. ne (sym d.next_is ∙ e)))

  -- then one is right before the other
  closed : p ≢ q → s ≢ q → IsBefore c' l.rank p s
  closed np ns =
      let b = prev_before np in
      let f = next_after ns in
      let one = b.rises in
      let two = f.rises in
      record {
        from = d.members p np ∙ b.from;
        to = d.members s ns ∙ f.to;
        same = d.lists p ∙ b.same ∙ f.same ∙ sym (d.lists s);
        on = d.on np ns;
        back = d.back ns np;
        rises = omega arith;
      }

  -- other neighbours stay
  stay_before : (o r : ℕ) → o ≢ q → r ≢ q → IsBefore c l.rank o r → IsBefore c' l.rank o r
  stay_before o r far_o nr b =
      let far : o ≢ p = λ e. elim (cases_eq p q) [
        | inl f ↦ far_o (e ∙ f)
        | inr np ↦ nr (sym b.on ∙ ap c.next e ∙ (prev_before np).on)
      ] in
      let near : r ≢ s = λ e. elim (cases_eq s q) [
        | inl f ↦ nr (e ∙ f)
        | inr ns ↦ far_o (sym b.back ∙ ap c.prev e ∙ (next_after ns).back)
      ] in
      record {
        from = d.members o far_o ∙ b.from;
        to = d.members r nr ∙ b.to;
        same = d.lists o ∙ b.same ∙ sym (d.lists r);
        on = d.nexts o far_o far ∙ b.on;
        back = d.prevs r nr near ∙ b.back;
        rises = b.rises;
      }

  drop_first : (r : ℕ) → c'.is_member r ≡ true → c'.prev r ≡ r → c'.head (c'.list r) ≡ Some r
  drop_first r m e =
      let nr = not_gone r m in
      elim (cases_eq r s) [
        | inl f ↦
            let ns : s ≢ q = λ g. nr (f ∙ g) in
            elim (cases_eq p q) [
              | inl g ↦
                  let same : c'.list r ≡ c.list q = d.lists r ∙ ap c.list f ∙ sym (next_after ns).same in
                  ap c'.head same ∙ d.second g ns ∙ ap (λ x. Some x) (sym f)
              | inr np ↦
                  let b = closed np ns in
                  let up = b.rises in
                  let here : p ≡ s = sym b.back ∙ ap c'.prev (sym f) ∙ e ∙ f in
                  absurd (omega (arith, up, ap l.rank here))
            ]
        | inr ns ↦
            let first = l.first r (kept_member r m) (sym (d.prevs r nr ns) ∙ e) in
            elim (cases_eq p q) [
              | inl g ↦
                  let here : c.head (c.list q) ≡ Some q = l.first q d.old (d.prev_is ∙ g) in
                  let other : c.list r ≢ c.list q = λ f. nr (one_head c (c.list q) r q (sym (ap c.head f) ∙ first) here) in
                  ap c'.head (d.lists r) ∙ d.others (c.list r) other ∙ first
              | inr np ↦ ap c'.head (d.lists r) ∙ d.kept np (c.list r) ∙ first
            ]
      ]

  drop_before : (r : ℕ) → c'.is_member r ≡ true → c'.prev r ≢ r → IsBefore c' l.rank (c'.prev r) r
  drop_before r m n =
      let nr = not_gone r m in
      elim (cases_eq r s) [
        | inl f ↦
            let ns : s ≢ q = λ g. nr (f ∙ g) in
            elim (cases_eq p q) [
              | inl g ↦ absurd (n (ap c'.prev f ∙ d.first ns g ∙ sym f))
              | inr np ↦
                  let same : p ≡ c'.prev r = sym (ap c'.prev f ∙ d.back ns np) in
                  subst (λ x. IsBefore c' l.rank x r) same (subst (λ x. IsBefore c' l.rank p x) (sym f) (closed np ns))
            ]
        | inr ns ↦
            let was : c'.prev r ≡ c.prev r = d.prevs r nr ns in
            let b = l.before r (kept_member r m) (λ f. n (was ∙ f)) in
            let far_o : c.prev r ≢ q = λ f. ns (sym b.on ∙ ap c.next f ∙ d.next_is) in
            subst (λ x. IsBefore c' l.rank x r) (sym was) (stay_before (c.prev r) r far_o nr b)
      ]

  drop_after : (r : ℕ) → c'.is_member r ≡ true → c'.next r ≢ r → IsBefore c' l.rank r (c'.next r)
  drop_after r m n =
      let nr = not_gone r m in
      elim (cases_eq r p) [
        | inl f ↦
            let np : p ≢ q = λ g. nr (f ∙ g) in
            elim (cases_eq s q) [
              | inl g ↦ absurd (n (ap c'.next f ∙ d.last np g ∙ sym f))
              | inr ns ↦
                  let same : s ≡ c'.next r = sym (ap c'.next f ∙ d.on np ns) in
                  subst (λ x. IsBefore c' l.rank r x) same (subst (λ x. IsBefore c' l.rank x s) (sym f) (closed np ns))
            ]
        | inr np ↦
            let was : c'.next r ≡ c.next r = d.nexts r nr np in
            let b = l.after r (kept_member r m) (λ f. n (was ∙ f)) in
            let ns : c.next r ≢ q = λ f. np (sym b.back ∙ ap c.prev f ∙ d.prev_is) in
            subst (λ x. IsBefore c' l.rank r x) (sym was) (stay_before r (c.next r) nr ns b)
      ]

  -- the first member of a list that stays the first
  still_head : (j x : ℕ) → x ≢ q → x ≢ s → IsHead c j x → IsHead c' j x
  still_head j x nq ns w = record {
    member = d.members x nq ∙ w.member;
    first = d.prevs x nq ns ∙ w.first;
    list = d.lists x ∙ w.list;
  }

  drop_heads : (j x : ℕ) → c'.head j ≡ Some x → IsHead c' j x
  drop_heads j x e = elim (cases_eq p q) [
    | inl g ↦ elim (cases_eq j (c.list q)) [
      | inl f ↦ elim (cases_eq s q) [
        | inl z ↦ absurd (no_head c' (c.list q) x (d.alone g z) (sym (ap c'.head f) ∙ e))
        | inr ns ↦
            let b = next_after ns in
            let same : s ≡ x = one_head c' (c.list q) s x (d.second g ns) (sym (ap c'.head f) ∙ e) in
            let here : IsHead c' j s = record {
              member = d.members s ns ∙ b.to;
              first = d.first ns g;
              list = d.lists s ∙ sym b.same ∙ sym f;
            } in
            subst (λ y. IsHead c' j y) same here
      ]
      | inr nj ↦
          let w = l.heads j x (sym (d.others j nj) ∙ e) in
          let nq : x ≢ q = λ f. nj (sym w.list ∙ ap c.list f) in
          let ns : x ≢ s = λ f. nj (sym w.list ∙ ap c.list f ∙ sym (next_after (λ z. nq (f ∙ z))).same) in
          still_head j x nq ns w
    ]
    | inr np ↦
        let w = l.heads j x (sym (d.kept np j) ∙ e) in
        let nq : x ≢ q = λ f. np (sym d.prev_is ∙ ap c.prev (sym f) ∙ w.first ∙ f) in
        let ns : x ≢ s = λ f. nq (sym w.first ∙ ap c.prev f ∙ (next_after (λ z. nq (f ∙ z))).back) in
        still_head j x nq ns w
  ]

  pub drop_linked : AreLinked c'
  drop_linked = record { rank = l.rank; first = drop_first; before = drop_before; after = drop_after; heads = drop_heads }

-- the list of each member has a first one
pub list_filled : (c : Chains) (l : AreLinked c) (n q : ℕ) → l.rank q < n → c.is_member q ≡ true → (h : ℕ) × (c.head (c.list q) ≡ Some h)
list_filled c l zero q less m = absurd (omega arith)
list_filled c l (suc n) q less m = elim (cases_eq (c.prev q) q) [
  | inl e ↦ (q, l.first q m e)
  | inr ne ↦
      let b = l.before q m ne in
      let up = b.rises in
      let h = list_filled c l n (c.prev q) (omega arith) b.from in
      (h.0, sym (ap c.head b.same) ∙ h.1)
]
