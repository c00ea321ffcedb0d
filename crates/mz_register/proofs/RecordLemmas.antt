-- Records of callers, one behind the other, by ticket.
use Rattle.std.proofs.Common.{◌≡◌, ⊎_elim, inl, inr, ℕ, zero, suc, ◌+◌, ◌<◌, ◌≤◌, ◌==◌, Bool, true, false, cond, List, [], ◌∷◌, ◌++◌, Some, refl, sym, ap, ◌∙◌, subst, arith, append_assoc}
use Rattle.std.specs.Prelude.{nat_lt, slice_get}
use Rattle.std.specs.List.{All}
use Rattle.std.proofs.lemmas.Bool.{cases_Bool, cases_eq, eq-eqb, ne_eqb, lt-ltb, le-ltb}
use Rattle.std.proofs.lemmas.List.Elements.{All-head, All-tail}
use Rattle.mz_base.specs.Lists.{insert_by}
use Rattle.mz_events.specs.declared.entry.Entry.{Entry}
use Rattle.mz_events.specs.History.{by_ticket}
use Rattle.mz_events.specs.Hands.{own}
use Rattle.mz_register.specs.Records.{records_from}

-- all tickets are above t
abbrev IsAbove : ℕ → List Entry → Type 0
IsAbove t [] = Unit {0}
IsAbove t (d ∷ ds) = (t < d.ticket) × IsAbove t ds

-- an entry of a lower ticket than all others

in_front : (e : Entry) (es : List Entry) → IsAbove e.ticket es → insert_by (λ d. d.ticket) e es ≡ e ∷ es
unfolding insert_by
in_front e [] h = refl
in_front e (x ∷ xs) h =
    let less : nat_lt e.ticket x.ticket ≡ true = lt-ltb e.ticket x.ticket h.0 in
    rw less refl

behind : (a e : Entry) (es : List Entry) → e.ticket < a.ticket → insert_by (λ d. d.ticket) a (e ∷ es) ≡ e ∷ insert_by (λ d. d.ticket) a es
unfolding insert_by
behind a e es l =
    let more : nat_lt a.ticket e.ticket ≡ false = le-ltb a.ticket e.ticket (omega arith) in
    rw more refl

above_insert : (t : ℕ) (e : Entry) (es : List Entry) → t < e.ticket → IsAbove t es → IsAbove t (insert_by (λ d. d.ticket) e es)
unfolding insert_by
above_insert t e [] l h = (l, tt)
above_insert t e (x ∷ xs) l h = elim (cases_Bool (nat_lt e.ticket x.ticket)) [
  | inl y ↦ rw y (l, h)
  | inr z ↦ rw z (h.0, above_insert t e xs l h.1)
]

above_sorted : (t : ℕ) (es : List Entry) → IsAbove t es → IsAbove t (by_ticket es)
unfolding by_ticket
above_sorted t [] h = tt
above_sorted t (e ∷ es) h = above_insert t e (by_ticket es) h.0 (above_sorted t es h.1)

least_first : (ds es : List Entry) (e : Entry) → IsAbove e.ticket ds → IsAbove e.ticket es → by_ticket (ds ++ e ∷ es) ≡ e ∷ by_ticket (ds ++ es)
unfolding by_ticket
least_first [] es e h k = in_front e (by_ticket es) (above_sorted e.ticket es k)
least_first (d ∷ ds) es e h k = ap (insert_by (λ (x : Entry). x.ticket) d) (least_first ds es e h.1 k) ∙ behind d e (by_ticket (ds ++ es)) h.0

-- where it stands in the records

own_here : (c : ℕ) (e : Entry) (es : List Entry) → e.caller ≡ c → own c (e ∷ es) ≡ e ∷ own c es
own_here c e es i = let o : (e.caller == c) ≡ true = eq-eqb e.caller c i in rw o refl

own_else : (c : ℕ) (e : Entry) (es : List Entry) → (e.caller ≡ c → ⊥) → own c (e ∷ es) ≡ own c es
own_else c e es n = let o : (e.caller == c) ≡ false = ne_eqb e.caller c n in rw o refl

not_there : (c n : ℕ) (e : Entry) (es : List Entry) → e.caller < c → records_from c n (e ∷ es) ≡ records_from c n es
not_there c zero e es l = refl
not_there c (suc n) e es l =
    ap (λ (xs : List Entry). xs ++ records_from (c + 1) n (e ∷ es)) (own_else c e es (λ i. omega arith))
    ∙ ap (λ (xs : List Entry). own c es ++ xs) (not_there (c + 1) n e es (omega arith))

record Stands (c n : ℕ) (e : Entry) (es : List Entry) : Type 0 where
  pub front : List Entry
  pub back : List Entry
  pub there : records_from c n (e ∷ es) ≡ front ++ e ∷ back
  pub away : records_from c n es ≡ front ++ back

stands : (c n : ℕ) (e : Entry) (es : List Entry) → c ≤ e.caller → e.caller < c + n → Stands c n e es
stands c zero e es l h = absurd (omega arith)
stands c (suc n) e es l h = ⊎_elim
    (λ (i : e.caller ≡ c). record {
      front = [];
      back = own c es ++ records_from (c + 1) n es;
      there = ap (λ (xs : List Entry). xs ++ records_from (c + 1) n (e ∷ es)) (own_here c e es i) ∙ ap (λ (xs : List Entry). e ∷ (own c es ++ xs)) (not_there (c + 1) n e es (omega arith));
      away = refl;
    })
    (λ (i : e.caller ≡ c → ⊥). let r = stands (c + 1) n e es (omega arith) (omega arith) in record {
      front = own c es ++ r.front;
      back = r.back;
      there = ap (λ (xs : List Entry). xs ++ records_from (c + 1) n (e ∷ es)) (own_else c e es i) ∙ (ap (λ (xs : List Entry). own c es ++ xs) r.there ∙ sym (append_assoc (own c es) r.front (e ∷ r.back)));
      away = ap (λ (xs : List Entry). own c es ++ xs) r.away ∙ sym (append_assoc (own c es) r.front r.back);
    })
    (cases_eq e.caller c)

-- tickets of records

above_case : (t : ℕ) (e : Entry) (es : List Entry) (b : Bool) → t < e.ticket → IsAbove t es → IsAbove t (cond b (e ∷ es) es)
above_case t e es true l h = (l, h)
above_case t e es false l h = h

above_own : (t c : ℕ) (es : List Entry) → IsAbove t es → IsAbove t (own c es)
above_own t c [] h = tt
above_own t c (e ∷ es) h = above_case t e (own c es) (e.caller == c) h.0 (above_own t c es h.1)

above_join : (t : ℕ) (xs ys : List Entry) → IsAbove t xs → IsAbove t ys → IsAbove t (xs ++ ys)
above_join t [] ys h k = k
above_join t (x ∷ xs) ys h k = (h.0, above_join t xs ys h.1 k)

above_parts : (t : ℕ) (xs ys : List Entry) → IsAbove t (xs ++ ys) → IsAbove t xs × IsAbove t ys
above_parts t [] ys h = (tt, h)
above_parts t (x ∷ xs) ys h = let r = above_parts t xs ys h.1 in ((h.0, r.0), r.1)

above_records : (t c n : ℕ) (es : List Entry) → IsAbove t es → IsAbove t (records_from c n es)
above_records t c zero es h = tt
above_records t c (suc n) es h = above_join t (own c es) (records_from (c + 1) n es) (above_own t c es h) (above_records t (c + 1) n es h)

above_of : (t u : ℕ) (es : List Entry) → t < u → ((i : ℕ) (e : Entry) → slice_get es i ≡ Some e → e.ticket ≡ u + i) → IsAbove t es
above_of t u [] l f = tt
above_of t u (e ∷ es) l f = (let n = f 0 e refl in omega arith, above_of t (u + 1) es (omega arith) (λ i d at. let n = f (suc i) d at in omega arith))

above_all : (t : ℕ) (es : List Entry) → All (λ d. t < d.ticket) es → IsAbove t es
above_all t [] h = tt
above_all t (e ∷ es) h = (All-head (λ (d : Entry). t < d.ticket) e es h, above_all t es (All-tail (λ (d : Entry). t < d.ticket) e es h))

none_noted : (c n : ℕ) → records_from c n [] ≡ []
none_noted c zero = refl
none_noted c (suc n) = none_noted (c + 1) n

-- all records by ticket are the entries
pub records_sorted : (n t : ℕ) (es : List Entry) → All (λ e. e.caller < n) es → ((i : ℕ) (e : Entry) → slice_get es i ≡ Some e → e.ticket ≡ t + i) → by_ticket (records_from 0 n es) ≡ es
unfolding by_ticket
records_sorted n t [] b f = ap by_ticket (none_noted 0 n)
records_sorted n t (e ∷ es) b f =
    let s = stands 0 n e es (omega arith) (let l = All-head (λ (d : Entry). d.caller < n) e es b in omega arith) in
    let a : IsAbove e.ticket es = above_of e.ticket (t + 1) es (let k = f 0 e refl in omega arith) (λ i d at. let k = f (suc i) d at in omega arith) in
    let h = above_parts e.ticket s.front s.back (subst (IsAbove e.ticket) s.away (above_records e.ticket 0 n es a)) in
    let rest : by_ticket (records_from 0 n es) ≡ es = records_sorted n (t + 1) es (All-tail (λ (d : Entry). d.caller < n) e es b) (λ i d at. let k = f (suc i) d at in omega arith) in
    ap by_ticket s.there ∙ (least_first s.front s.back e h.0 h.1 ∙ (ap (λ (xs : List Entry). e ∷ by_ticket xs) (sym s.away) ∙ ap (λ (xs : List Entry). e ∷ xs) rest))

-- entries whose tickets are below those of all behind them

insert_left : (x : Entry) (xs ys : List Entry) → IsAbove x.ticket ys → insert_by (λ d. d.ticket) x (xs ++ ys) ≡ insert_by (λ d. d.ticket) x xs ++ ys
unfolding insert_by
insert_left x [] ys h = in_front x ys h
insert_left x (z ∷ zs) ys h = elim (cases_Bool (nat_lt x.ticket z.ticket)) [
  | inl y ↦ rw y refl
  | inr n ↦ rw n (ap (λ (l : List Entry). z ∷ l) (insert_left x zs ys h))
]

pub sorted_join : (xs ys : List Entry) → All (λ x. All (λ y. x.ticket < y.ticket) ys) xs → by_ticket (xs ++ ys) ≡ by_ticket xs ++ by_ticket ys
unfolding by_ticket
sorted_join [] ys h = refl
sorted_join (x ∷ xs) ys h =
    ap (insert_by (λ (d : Entry). d.ticket) x) (sorted_join xs ys (All-tail (λ (d : Entry). All (λ (y : Entry). d.ticket < y.ticket) ys) x xs h))
    ∙ insert_left x (by_ticket xs) (by_ticket ys) (above_sorted x.ticket ys (above_all x.ticket ys (All-head (λ (d : Entry). All (λ (y : Entry). d.ticket < y.ticket) ys) x xs h)))
