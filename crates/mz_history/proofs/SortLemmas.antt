-- The first breach doesn't depend on how a sort places entries of one ticket.
use Rattle.std.proofs.Common.{◌≡◌, ℕ, ◌+◌, ◌≤◌, Bool, true, false, cond, List, [], ◌∷◌, refl, sym, ap, ◌∙◌, subst, inl, inr, arith, not}
use Rattle.std.specs.Prelude.{◌&&◌, ◌||◌, ◌==◌, nat_lt, sum_by, Option, Some, None, if◌then◌else◌}
use Rattle.std.specs.List.{list_any, All}
use Rattle.std.specs.List.Sorted.{IsPermutation}
use Rattle.std.proofs.lemmas.Bool.{or_left, or_right, false≢true, cases_Bool, cases_lt, cond-true, cond-false, lt-ltb, ltb-true, le-ltb, eq-eqb, not-true, and_parts}
use Rattle.std.proofs.lemmas.List.Sums.{sum_by-cons}
use Rattle.std.proofs.lemmas.List.Elements.{All-head, All-tail, All-cons, All-nil}
use Rattle.std.proofs.lemmas.List.Sorted.{IsPermutation-refl, IsPermutation-sym, IsPermutation-trans, IsPermutation-cons, IsPermutation-middle, All-permutation, sum_by-IsPermutation}
use Rattle.mz_base.specs.declared.profile.Profile.{Profile}
use Rattle.mz_base.specs.Lists.{insert_by}
use Rattle.mz_events.specs.declared.entry.Entry.{Entry}
use Rattle.mz_events.specs.State.{State}
use Rattle.mz_events.specs.Rules.{Rule, first_broken, in_turn}
use Rattle.mz_events.specs.History.{Breach, first_breach, is_in_turn, after_entry, by_ticket}
use Rattle.mz_history.proofs.InLists.{IsIn, all_in, all_from_in}

-- ---- how often, and whether at all

abbrev count : (Entry → Bool) → List Entry → ℕ
count p es = sum_by (λ e. cond (p e) 1 0) es

one_where : (b : Bool) → b ≡ true → ◌≡◌ {A = ℕ} (cond b 1 0) 1
one_where b h = cond-true b 1 0 h

none_where : (b : Bool) → b ≡ false → ◌≡◌ {A = ℕ} (cond b 1 0) 0
none_where b h = cond-false b 1 0 h

any_by_count : (p : Entry → Bool) (es : List Entry) → list_any p es ≡ nat_lt 0 (count p es)
any_by_count p [] = refl
any_by_count p (e ∷ es) =
    let split : count p (e ∷ es) ≡ cond (p e) 1 0 + count p es = sum_by-cons (λ e. cond (p e) 1 0) e es in
    elim (cases_Bool (p e)) [
      | inl yes_ ↦ let one = one_where (p e) yes_ in or_left (p e) (list_any p es) yes_ ∙ sym (lt-ltb 0 (count p (e ∷ es)) (omega arith))
      | inr no_ ↦ let zero = none_where (p e) no_ in let same : count p es ≡ count p (e ∷ es) = omega arith in ap (λ b. b || list_any p es) no_ ∙ any_by_count p es ∙ ap (nat_lt 0) same
    ]

any_in_list : (p : Entry → Bool) (e : Entry) (es : List Entry) → IsIn e es → p e ≡ true → list_any p es ≡ true
any_in_list p e [] h yes_ = absurd h
any_in_list p e (d ∷ es) (inl same) yes_ = or_left (p d) (list_any p es) (ap p (sym same) ∙ yes_)
any_in_list p e (d ∷ es) (inr later) yes_ = or_right (p d) (list_any p es) (any_in_list p e es later yes_)

-- tickets don't fall
abbrev pub Rising : List Entry → Type 0
Rising [] = Unit {0}
Rising (e ∷ es) = All (λ d. e.ticket ≤ d.ticket) es × Rising es

-- the same entries, as often
pub record Same (xs ys : List Entry) : Type 0 where
  pub often : (p : Entry → Bool) → count p xs ≡ count p ys
  pub there : (e : Entry) → IsIn e xs → IsIn e ys

pub same_of_permutation : (xs ys : List Entry) → IsPermutation xs ys → Same xs ys
same_of_permutation xs ys moved = record {
  often = λ p. sym (sum_by-IsPermutation (λ e. cond (p e) 1 0) xs ys moved);
  there = λ e h. all_in (λ d. IsIn d ys) xs e (All-permutation (λ d. IsIn d ys) ys xs (IsPermutation-sym xs ys moved) (all_from_in (λ d. IsIn d ys) ys (λ d there. there))) h;
}

-- ---- the first of a rising list

none_lower : (t : ℕ) (es : List Entry) → All (λ d. t ≤ d.ticket) es → count (λ d. nat_lt d.ticket t) es ≡ 0
none_lower t [] h = refl
none_lower t (e ∷ es) h =
    let split : count (λ d. nat_lt d.ticket t) (e ∷ es) ≡ cond (nat_lt e.ticket t) 1 0 + count (λ d. nat_lt d.ticket t) es = sum_by-cons (λ e. cond (nat_lt e.ticket t) 1 0) e es in
    let zero = none_where (nat_lt e.ticket t) (le-ltb e.ticket t (All-head (λ d. t ≤ d.ticket) e es h)) in
    let rest = none_lower t es (All-tail (λ d. t ≤ d.ticket) e es h) in
    omega arith

least : (e : Entry) (es ds : List Entry) (d : Entry) → Rising (e ∷ es) → ((p : Entry → Bool) → count p (e ∷ es) ≡ count p (d ∷ ds)) → e.ticket ≤ d.ticket
least e es ds d h often = elim (cases_lt d.ticket e.ticket) [
  | inr not_less ↦ not_less
  | inl less ↦
      let none = none_lower e.ticket es h.0 in
      let split : count (λ c. nat_lt c.ticket e.ticket) (e ∷ es) ≡ cond (nat_lt e.ticket e.ticket) 1 0 + count (λ c. nat_lt c.ticket e.ticket) es = sum_by-cons (λ c. cond (nat_lt c.ticket e.ticket) 1 0) e es in
      let zero = none_where (nat_lt e.ticket e.ticket) (le-ltb e.ticket e.ticket (omega arith)) in
      let other : count (λ c. nat_lt c.ticket e.ticket) (d ∷ ds) ≡ cond (nat_lt d.ticket e.ticket) 1 0 + count (λ c. nat_lt c.ticket e.ticket) ds = sum_by-cons (λ c. cond (nat_lt c.ticket e.ticket) 1 0) d ds in
      let one = one_where (nat_lt d.ticket e.ticket) (lt-ltb d.ticket e.ticket less) in
      let same = often (λ c. nat_lt c.ticket e.ticket) in
      absurd (omega arith)
]

-- ---- two rising lists of the same entries

module _ (s : State) (x : Entry) (xs : List Entry) (y : Entry) (ys : List Entry) (g : Rising (x ∷ xs)) (h : Rising (y ∷ ys)) (same : Same (x ∷ xs) (y ∷ ys)) where
  ticket_same : x.ticket ≡ y.ticket
  ticket_same = let up = least x xs ys y g same.often in let down = least y ys xs x h (λ q. sym (same.often q)) in omega arith

  tails : (q : Entry → Bool) → q x ≡ q y → count q xs ≡ count q ys
  tails q e =
      let a : count q (x ∷ xs) ≡ cond (q x) 1 0 + count q xs = sum_by-cons (λ d. cond (q d) 1 0) x xs in
      let b : count q (y ∷ ys) ≡ cond (q y) 1 0 + count q ys = sum_by-cons (λ d. cond (q d) 1 0) y ys in
      let c = same.often q in
      let f : ◌≡◌ {A = ℕ} (cond (q x) 1 0) (cond (q y) 1 0) = ap (λ t. cond t 1 0) e in
      omega arith

  again : list_any (λ d. d.ticket == x.ticket) xs ≡ list_any (λ d. d.ticket == y.ticket) ys
  again = any_by_count (λ d. d.ticket == x.ticket) xs ∙ ap (nat_lt 0) (tails (λ d. d.ticket == x.ticket) (eq-eqb x.ticket x.ticket refl ∙ sym (eq-eqb y.ticket x.ticket (sym ticket_same)))) ∙ sym (any_by_count (λ d. d.ticket == x.ticket) ys) ∙ ap (λ t. list_any (λ d. d.ticket == t) ys) ticket_same

  turn : is_in_turn s x xs ≡ is_in_turn s y ys
  turn = ap (λ t. (t == s.entries) && not (list_any (λ d. d.ticket == x.ticket) xs)) ticket_same ∙ ap (λ b. (y.ticket == s.entries) && not b) again

  once : is_in_turn s x xs ≡ true → list_any (λ d. d.ticket == x.ticket) xs ≡ false
  once i = not-true (list_any (λ d. d.ticket == x.ticket) xs) (and_parts (x.ticket == s.entries) (not (list_any (λ d. d.ticket == x.ticket) xs)) i).1

  heads : is_in_turn s x xs ≡ true → x ≡ y
  heads i = elim (same.there x (inl refl)) [
    | inl is ↦ is
    | inr among ↦ absurd (false≢true (sym (once i) ∙ again ∙ any_in_list (λ d. d.ticket == y.ticket) x ys among (eq-eqb x.ticket y.ticket ticket_same)))
  ]

  rest : is_in_turn s x xs ≡ true → Same xs ys
  rest i = record {
    often = λ q. tails q (ap q (heads i));
    there = λ e among. elim (same.there e (inr among)) [
      | inl is ↦ absurd (false≢true (sym (once i) ∙ any_in_list (λ d. d.ticket == x.ticket) e xs among (eq-eqb e.ticket x.ticket (ap (λ (d : Entry). d.ticket) (is ∙ sym (heads i))))))
      | inr other ↦ other
    ];
  }

-- ---- one entry of a breach

abbrev step : State → Bool → Option Rule → Option Breach → Option Breach
step s b o later = if b then elim o [ None ↦ later | Some rule ↦ Some (record { ticket = s.entries; rule = rule }) ] else Some (record { ticket = s.entries; rule = in_turn })

pub breach_step : (p : Profile) (s : State) (e : Entry) (es : List Entry) → first_breach p s (e ∷ es) ≡ step s (is_in_turn s e es) (first_broken p s e.caller e.event) (first_breach p (after_entry p s e) es)
unfolding first_breach
breach_step p s e es = refl

empty_differs : (y : Entry) (ys : List Entry) → Same [] (y ∷ ys) → ⊥
empty_differs y ys same = let n = same.often (λ e. true) in let split : count (λ e. true) (y ∷ ys) ≡ 1 + count (λ e. true) ys = sum_by-cons (λ e. 1) y ys in omega arith

-- rising lists of the same entries have one first breach
pub same_breach : (p : Profile) (s : State) (xs ys : List Entry) → Rising xs → Rising ys → Same xs ys → first_breach p s xs ≡ first_breach p s ys
same_breach p s [] [] g h same = refl
same_breach p s [] (y ∷ ys) g h same = absurd (empty_differs y ys same)
same_breach p s (x ∷ xs) [] g h same = absurd (same.there x (inl refl))
same_breach p s (x ∷ xs) (y ∷ ys) g h same = breach_step p s x xs ∙ elim (cases_Bool (is_in_turn s x xs)) [
  | inl i ↦
      ap (λ b. step s b (first_broken p s x.caller x.event) (first_breach p (after_entry p s x) xs)) (turn s x xs y ys g h same)
      ∙ ap (λ r. step s (is_in_turn s y ys) (first_broken p s x.caller x.event) r) (same_breach p (after_entry p s x) xs ys g.1 h.1 (rest s x xs y ys g h same i))
      ∙ ap (λ (z : Entry). step s (is_in_turn s y ys) (first_broken p s z.caller z.event) (first_breach p (after_entry p s z) ys)) (heads s x xs y ys g h same i)
  | inr i ↦
      ap (λ b. step s b (first_broken p s x.caller x.event) (first_breach p (after_entry p s x) xs)) i
      ∙ ap (λ b. step s b (first_broken p s y.caller y.event) (first_breach p (after_entry p s y) ys)) (sym i ∙ turn s x xs y ys g h same)
] ∙ sym (breach_step p s y ys)

-- and where there is none they are one list
step_turn : (s : State) (b : Bool) (o : Option Rule) (later : Option Breach) → step s b o later ≡ None → (b ≡ true) × (later ≡ None)
step_turn s true None later e = (refl, e)
step_turn s true (Some r) later e = absurd (let clash : ◌≡◌ {A = Option Breach} (Some (record { ticket = s.entries; rule = r })) None = e in cc)
step_turn s false o later e = absurd (let clash : ◌≡◌ {A = Option Breach} (Some (record { ticket = s.entries; rule = in_turn })) None = e in cc)

pub same_lists : (p : Profile) (s : State) (xs ys : List Entry) → Rising xs → Rising ys → Same xs ys → first_breach p s xs ≡ None → xs ≡ ys
same_lists p s [] [] g h same e = refl
same_lists p s [] (y ∷ ys) g h same e = absurd (empty_differs y ys same)
same_lists p s (x ∷ xs) [] g h same e = absurd (same.there x (inl refl))
same_lists p s (x ∷ xs) (y ∷ ys) g h same e =
    let parts = step_turn s (is_in_turn s x xs) (first_broken p s x.caller x.event) (first_breach p (after_entry p s x) xs) (sym (breach_step p s x xs) ∙ e) in
    let one = heads s x xs y ys g h same parts.0 in
    let more = same_lists p (after_entry p s x) xs ys g.1 h.1 (rest s x xs y ys g h same parts.0) parts.1 in
    ap (λ z. z ∷ xs) one ∙ ap (λ zs. y ∷ zs) more

-- ---- the definition's sort

insert_moves : (e : Entry) (es : List Entry) → IsPermutation (e ∷ es) (insert_by (λ d. d.ticket) e es)
unfolding insert_by
insert_moves e [] = IsPermutation-refl (e ∷ [])
insert_moves e (d ∷ ds) = elim (cases_Bool (nat_lt e.ticket d.ticket)) [
  | inl yes_ ↦ subst (IsPermutation (e ∷ d ∷ ds)) (sym (cond-true (nat_lt e.ticket d.ticket) (e ∷ d ∷ ds) (d ∷ insert_by (λ c. c.ticket) e ds) yes_)) (IsPermutation-refl (e ∷ d ∷ ds))
  | inr no_ ↦ subst (IsPermutation (e ∷ d ∷ ds)) (sym (cond-false (nat_lt e.ticket d.ticket) (e ∷ d ∷ ds) (d ∷ insert_by (λ c. c.ticket) e ds) no_))
      (IsPermutation-trans (e ∷ d ∷ ds) (d ∷ e ∷ ds) (d ∷ insert_by (λ c. c.ticket) e ds) (IsPermutation-middle (e ∷ []) d ds) (IsPermutation-cons d (e ∷ ds) (insert_by (λ c. c.ticket) e ds) (insert_moves e ds)))
]

pub sort_moves : (es : List Entry) → IsPermutation es (by_ticket es)
unfolding by_ticket
sort_moves [] = IsPermutation-refl []
sort_moves (e ∷ es) = IsPermutation-trans (e ∷ es) (e ∷ by_ticket es) (by_ticket (e ∷ es)) (IsPermutation-cons e es (by_ticket es) (sort_moves es)) (insert_moves e (by_ticket es))

insert_all : (t : ℕ) (e : Entry) (es : List Entry) → t ≤ e.ticket → All (λ d. t ≤ d.ticket) es → All (λ d. t ≤ d.ticket) (insert_by (λ d. d.ticket) e es)
insert_all t e es low all = All-permutation (λ d. t ≤ d.ticket) (e ∷ es) (insert_by (λ d. d.ticket) e es) (insert_moves e es) (All-cons (λ d. t ≤ d.ticket) e es low all)

all_lower : (t u : ℕ) (es : List Entry) → t ≤ u → All (λ d. u ≤ d.ticket) es → All (λ d. t ≤ d.ticket) es
all_lower t u [] less all = All-nil (λ d. t ≤ d.ticket)
all_lower t u (e ∷ es) less all = let low = All-head (λ d. u ≤ d.ticket) e es all in All-cons (λ d. t ≤ d.ticket) e es (omega arith) (all_lower t u es less (All-tail (λ d. u ≤ d.ticket) e es all))

insert_rises : (e : Entry) (es : List Entry) → Rising es → Rising (insert_by (λ d. d.ticket) e es)
unfolding insert_by
insert_rises e [] h = (All-nil (λ d. e.ticket ≤ d.ticket), tt)
insert_rises e (d ∷ ds) h = elim (cases_Bool (nat_lt e.ticket d.ticket)) [
  | inl yes_ ↦
      let less = ltb-true e.ticket d.ticket yes_ in
      subst Rising (sym (cond-true (nat_lt e.ticket d.ticket) (e ∷ d ∷ ds) (d ∷ insert_by (λ c. c.ticket) e ds) yes_)) (All-cons (λ c. e.ticket ≤ c.ticket) d ds (omega arith) (all_lower e.ticket d.ticket ds (omega arith) h.0), h)
  | inr no_ ↦
      let low : d.ticket ≤ e.ticket = elim (cases_lt e.ticket d.ticket) [ inl l ↦ absurd (false≢true (sym no_ ∙ lt-ltb e.ticket d.ticket l)) | inr g ↦ g ] in
      subst Rising (sym (cond-false (nat_lt e.ticket d.ticket) (e ∷ d ∷ ds) (d ∷ insert_by (λ c. c.ticket) e ds) no_)) (insert_all d.ticket e ds low h.0, insert_rises e ds h.1)
]

pub sort_rises : (es : List Entry) → Rising (by_ticket es)
unfolding by_ticket
sort_rises [] = tt
sort_rises (e ∷ es) = insert_rises e (by_ticket es) (sort_rises es)
