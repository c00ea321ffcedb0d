-- The first breach, an entry at a time.
use Rattle.std.proofs.Common.{◌≡◌, ℕ, ◌+◌, ◌≤◌, ◌<◌, Bool, true, false, cond, List, [], ◌∷◌, length, drop, get_or, refl, sym, ap, ◌∙◌, subst, inl, inr, arith, not, suc, zero, add-one}
use Rattle.std.specs.Prelude.{◌&&◌, ◌||◌, ◌==◌, ◌↔◌, Option, Some, None}
use Rattle.std.specs.List.{list_any, All}
use Rattle.std.specs.List.Sorted.{IsPermutation, IsNonDecreasingBy}
use Rattle.std.proofs.lemmas.List.Sorted.{IsPermutation-sym, IsPermutation-trans}
use Rattle.std.specs.Option.{option_map}
use Rattle.std.proofs.lemmas.Bool.{cases_Bool, cases_lt, cond-true, cond-false, false≢true, eq-eqb, eqb-true, ne_eqb, or_from, and_left}
use Rattle.std.proofs.lemmas.List.Elements.{All-head, All-tail, All-cons, All-nil}
use Rattle.mz_base.specs.declared.profile.Profile.{Profile}
use Rattle.mz_events.specs.declared.entry.Entry.{Entry}
use Rattle.mz_events.specs.State.{State, opening}
use Rattle.mz_events.specs.Rules.{Rule, number_of, first_broken, in_turn, duty_first}
use Rattle.mz_events.specs.History.{IsLawful, Breach, first_breach, is_in_turn, after_entry, owes_nothing, after_all, by_ticket, breach_of, state_of, IsLawfulHistory}
use Rattle.std.proofs.lemmas.List.{at_drop_more, drop_all}
use Rattle.mz_history.proofs.AfterLemmas.{fits_unbroken}
use Rattle.mz_history.specs.Booked.{Booked}
use Rattle.mz_history.specs.Outcomes.{numbers_of, why_of_event, has_turn, heads_with}
use Rattle.mz_history.proofs.SortLemmas.{Rising, Same, breach_step, same_breach, same_lists, same_of_permutation, sort_moves, sort_rises}

some_same : {A : Type 0} {x y : A} → Some x ≡ Some y → x ≡ y
some_same e = cc

-- ---- no entry is left

pub ends_settled : (p : Profile) (s : State) → owes_nothing s ≡ true → option_map numbers_of (first_breach p s []) ≡ None
unfolding first_breach
ends_settled p s h = ap (option_map numbers_of) (cond-true (owes_nothing s) None (Some (record { ticket = s.entries; rule = duty_first })) h)

pub ends_owing : (p : Profile) (s : State) → owes_nothing s ≡ false → option_map numbers_of (first_breach p s []) ≡ Some (s.entries, 2)
unfolding first_breach
ends_owing p s h = ap (option_map numbers_of) (cond-false (owes_nothing s) None (Some (record { ticket = s.entries; rule = duty_first })) h)

-- ---- one more

abbrev step : State → Bool → Option Rule → Option Breach → Option Breach
step s b o later = cond b (elim o [ None ↦ later | Some rule ↦ Some (record { ticket = s.entries; rule = rule }) ]) (Some (record { ticket = s.entries; rule = in_turn }))

step_out : (s : State) (b : Bool) (o : Option Rule) (later : Option Breach) → b ≡ false → option_map numbers_of (step s b o later) ≡ Some (s.entries, 1)
step_out s false o later h = refl
step_out s true o later h = absurd (false≢true (sym h))

step_breaks : (s : State) (b : Bool) (o : Option Rule) (later : Option Breach) (w : ℕ) → b ≡ true → Some w ≡ option_map number_of o → option_map numbers_of (step s b o later) ≡ Some (s.entries, w)
step_breaks s true (Some r) later w h e = ap (λ n. Some (s.entries, n)) (sym (some_same e))
step_breaks s true None later w h e = let clash : ◌≡◌ {A = Option ℕ} (Some w) None = e in cc
step_breaks s false o later w h e = absurd (false≢true h)

step_on : (s : State) (b : Bool) (o : Option Rule) (later : Option Breach) → b ≡ true → None ≡ option_map number_of o → step s b o later ≡ later
step_on s true None later h e = refl
step_on s true (Some r) later h e = let clash : ◌≡◌ {A = Option ℕ} None (Some (number_of r)) = e in cc
step_on s false o later h e = absurd (false≢true h)

pub out_of_turn : (p : Profile) (s : State) (e : Entry) (es : List Entry) → has_turn s.entries e es ≡ false → option_map numbers_of (first_breach p s (e ∷ es)) ≡ Some (s.entries, 1)
out_of_turn p s e es h = ap (option_map numbers_of) (breach_step p s e es) ∙ step_out s (is_in_turn s e es) (first_broken p s e.caller e.event) (first_breach p (after_entry p s e) es) h

pub breaks : (p : Profile) (s : State) (e : Entry) (es : List Entry) (w : ℕ) → has_turn s.entries e es ≡ true → Some w ≡ why_of_event p s e → option_map numbers_of (first_breach p s (e ∷ es)) ≡ Some (s.entries, w)
breaks p s e es w h why = ap (option_map numbers_of) (breach_step p s e es) ∙ step_breaks s (is_in_turn s e es) (first_broken p s e.caller e.event) (first_breach p (after_entry p s e) es) w h why

pub goes_on : (p : Profile) (s : State) (e : Entry) (es : List Entry) → has_turn s.entries e es ≡ true → None ≡ why_of_event p s e → first_breach p s (e ∷ es) ≡ first_breach p (after_entry p s e) es
goes_on p s e es h why = breach_step p s e es ∙ step_on s (is_in_turn s e es) (first_broken p s e.caller e.event) (first_breach p (after_entry p s e) es) h why

pub no_numbers : (o : Option Breach) → None ≡ option_map numbers_of o → o ≡ None
no_numbers None e = refl
no_numbers (Some b) e = let clash : ◌≡◌ {A = Option (ℕ × ℕ)} None (Some (numbers_of b)) = e in cc

pub no_why : (o : Option Rule) → None ≡ option_map number_of o → o ≡ None
no_why None e = refl
no_why (Some r) e = let clash : ◌≡◌ {A = Option ℕ} None (Some (number_of r)) = e in cc

-- ---- rising lists by index

index_next : (x : Entry) (xs : List Entry) (n : ℕ) (d : Entry) → get_or (x ∷ xs) (n + 1) d ≡ get_or xs n d
index_next x xs n d = ap (λ m. get_or (x ∷ xs) m d) (add-one n)

first_least : (x : Entry) (ys : List Entry) → ((y : Entry) (zs : List Entry) → ys ≡ y ∷ zs → x.ticket ≤ y.ticket) → Rising ys → All (λ d. x.ticket ≤ d.ticket) ys
first_least x [] next h = All-nil (λ d. x.ticket ≤ d.ticket)
first_least x (y ∷ ys) next h =
    let low : x.ticket ≤ y.ticket = next y ys refl in
    All-cons (λ d. x.ticket ≤ d.ticket) y ys low (first_least x ys (λ z zs e. let more : y.ticket ≤ z.ticket = All-head (λ d. y.ticket ≤ d.ticket) z zs (subst (All (λ d. y.ticket ≤ d.ticket)) e h.0) in omega arith) h.1)

pub rising_of_sorted : (xs : List Entry) → IsNonDecreasingBy (λ e. e.ticket) xs → Rising xs
rising_of_sorted [] sorted = tt
rising_of_sorted (x ∷ xs) sorted =
    let later : IsNonDecreasingBy (λ e. e.ticket) xs = λ i j d low high.
    subst (λ (t : Entry). t.ticket ≤ (get_or xs j d).ticket) (index_next x xs i d)
    (subst (λ (t : Entry). (get_or (x ∷ xs) (i + 1) d).ticket ≤ t.ticket) (index_next x xs j d) (sorted (i + 1) (j + 1) d (omega arith) (omega arith))) in
    let rest = rising_of_sorted xs later in
    (first_least x xs (λ y ys e. subst (λ (l : List Entry). x.ticket ≤ (get_or (x ∷ l) 1 x).ticket) e (sorted 0 1 x (omega arith) (let more : length xs ≡ length (y ∷ ys) = ap length e in omega arith))) rest, rest)

pub rising_drop : (i : ℕ) (xs : List Entry) → Rising xs → Rising (drop i xs)
rising_drop zero xs h = h
rising_drop (suc i) [] h = tt
rising_drop (suc i) (x ∷ xs) h = rising_drop i xs h.1

-- an entry of a rising list stands once where the next has another ticket
none_higher : (t : ℕ) (es : List Entry) → All (λ d. t + 1 ≤ d.ticket) es → list_any (λ d. d.ticket == t) es ≡ false
none_higher t [] h = refl
none_higher t (e ∷ es) h =
    let high = All-head (λ d. t + 1 ≤ d.ticket) e es h in
    or_from (e.ticket == t) (list_any (λ d. d.ticket == t) es) (ne_eqb e.ticket t (λ same. omega arith)) (none_higher t es (All-tail (λ d. t + 1 ≤ d.ticket) e es h))

raised : (t u : ℕ) (es : List Entry) → t ≤ u → All (λ d. u ≤ d.ticket) es → All (λ d. t ≤ d.ticket) es
raised t u [] less all = All-nil (λ d. t ≤ d.ticket)
raised t u (e ∷ es) less all = let low = All-head (λ d. u ≤ d.ticket) e es all in All-cons (λ d. t ≤ d.ticket) e es (omega arith) (raised t u es less (All-tail (λ d. u ≤ d.ticket) e es all))

again_is_next : (t : ℕ) (es : List Entry) → All (λ d. t ≤ d.ticket) es → Rising es → list_any (λ d. d.ticket == t) es ≡ heads_with t es
again_is_next t [] all h = refl
again_is_next t (d ∷ ds) all h = elim (cases_Bool (d.ticket == t)) [
  | inl yes_ ↦ ap (λ b. b || list_any (λ c. c.ticket == t) ds) yes_ ∙ sym yes_
  | inr no_ ↦
      let low : t ≤ d.ticket = All-head (λ c. t ≤ c.ticket) d ds all in
      let more : t + 1 ≤ d.ticket = elim (cases_lt t d.ticket) [ inl l ↦ omega arith | inr g ↦ absurd (false≢true (sym no_ ∙ eq-eqb d.ticket t (omega arith))) ] in
      ap (λ b. b || list_any (λ c. c.ticket == t) ds) no_ ∙ none_higher t ds (raised (t + 1) d.ticket ds more h.0) ∙ sym no_
]

pub turn_is : (t : ℕ) (e : Entry) (es : List Entry) → Rising (e ∷ es) → has_turn t e es ≡ ((e.ticket == t) && not (heads_with t es))
turn_is t e es h = elim (cases_Bool (e.ticket == t)) [
  | inl yes_ ↦ let same : e.ticket ≡ t = eqb-true e.ticket t yes_ in ap (λ b. (e.ticket == t) && not b) (again_is_next e.ticket es h.0 h.1 ∙ ap (λ n. heads_with n es) same)
  | inr no_ ↦ and_left (e.ticket == t) (not (list_any (λ d. d.ticket == e.ticket) es)) no_ ∙ sym (and_left (e.ticket == t) (not (heads_with t es)) no_)
]

-- ---- an entry at an index

module _ (p : Profile) (s : State) (es : List Entry) (i t : ℕ) (d : Entry) (within : i < length es) (sorted : IsNonDecreasingBy (λ e. e.ticket) es) (ticket : t ≡ s.entries) where
  turn_here : has_turn s.entries (get_or es i d) (drop (i + 1) es) ≡ (((get_or es i d).ticket == t) && not (heads_with t (drop (i + 1) es)))
  turn_here =
      let rising : Rising (get_or es i d ∷ drop (i + 1) es) = subst Rising (at_drop_more (λ l. l) es i d within) (rising_drop i es (rising_of_sorted es sorted)) in
      ap (λ n. has_turn n (get_or es i d) (drop (i + 1) es)) (sym ticket) ∙ turn_is t (get_or es i d) (drop (i + 1) es) rising

  pub first_is_out : (((get_or es i d).ticket == t) && not (heads_with t (drop (i + 1) es))) ≡ false → option_map numbers_of (first_breach p s (drop i es)) ≡ Some (s.entries, 1)
  first_is_out h = ap (option_map numbers_of) (at_drop_more (first_breach p s) es i d within) ∙ out_of_turn p s (get_or es i d) (drop (i + 1) es) (turn_here ∙ h)

  breaks_here : (w : ℕ) → (((get_or es i d).ticket == t) && not (heads_with t (drop (i + 1) es))) ≡ true → Some w ≡ why_of_event p s (get_or es i d) → option_map numbers_of (first_breach p s (drop i es)) ≡ Some (s.entries, w)
  breaks_here w h why = ap (option_map numbers_of) (at_drop_more (first_breach p s) es i d within) ∙ breaks p s (get_or es i d) (drop (i + 1) es) w (turn_here ∙ h) why

  on_here : (((get_or es i d).ticket == t) && not (heads_with t (drop (i + 1) es))) ≡ true → None ≡ why_of_event p s (get_or es i d) → first_breach p s (drop i es) ≡ first_breach p (after_entry p s (get_or es i d)) (drop (i + 1) es)
  on_here h why = at_drop_more (first_breach p s) es i d within ∙ goes_on p s (get_or es i d) (drop (i + 1) es) (turn_here ∙ h) why

  after_here : after_all p s (drop i es) ≡ after_all p (after_entry p s (get_or es i d)) (drop (i + 1) es)
  unfolding after_all
  after_here = at_drop_more (after_all p s) es i d within

pub first_breaks : (p q : Profile) (s : State) (es : List Entry) (i t : ℕ) (d : Entry) (w : ℕ) → q ≡ p → i < length es → IsNonDecreasingBy (λ e. e.ticket) es → t ≡ s.entries → (((get_or es i d).ticket == t) && not (heads_with t (drop (i + 1) es))) ≡ true → Some w ≡ why_of_event q s (get_or es i d) → option_map numbers_of (first_breach p s (drop i es)) ≡ Some (s.entries, w)
first_breaks p q s es i t d w same within sorted ticket h why = breaks_here p s es i t d within sorted ticket w h (why ∙ ap (λ x. why_of_event x s (get_or es i d)) same)

pub first_goes_on : (p q : Profile) (s : State) (es : List Entry) (i t : ℕ) (d : Entry) → q ≡ p → i < length es → IsNonDecreasingBy (λ e. e.ticket) es → t ≡ s.entries → (((get_or es i d).ticket == t) && not (heads_with t (drop (i + 1) es))) ≡ true → None ≡ why_of_event q s (get_or es i d) → (first_breach p s (drop i es) ≡ first_breach p (after_entry q s (get_or es i d)) (drop (i + 1) es)) × (after_all p s (drop i es) ≡ after_all p (after_entry q s (get_or es i d)) (drop (i + 1) es))
first_goes_on p q s es i t d same within sorted ticket h why = (
  on_here p s es i t d within sorted ticket h (why ∙ ap (λ x. why_of_event x s (get_or es i d)) same) ∙ ap (λ x. first_breach p (after_entry x s (get_or es i d)) (drop (i + 1) es)) (sym same),
  after_here p s es i t d within sorted ticket ∙ ap (λ x. after_all p (after_entry x s (get_or es i d)) (drop (i + 1) es)) (sym same),
)

pub none_left : (p : Profile) (s : State) (es : List Entry) (i : ℕ) → length es ≤ i → owes_nothing s ≡ true → option_map numbers_of (first_breach p s (drop i es)) ≡ None
none_left p s es i over h = ap (λ l. option_map numbers_of (first_breach p s l)) (drop_all i es over) ∙ ends_settled p s h

pub one_owing : (p : Profile) (s : State) (es : List Entry) (i : ℕ) → length es ≤ i → owes_nothing s ≡ false → option_map numbers_of (first_breach p s (drop i es)) ≡ Some (s.entries, 2)
one_owing p s es i over h = ap (λ l. option_map numbers_of (first_breach p s l)) (drop_all i es over) ∙ ends_owing p s h

pub books_are : (p q : Profile) (s t : State) (es : List Entry) (i : ℕ) → length es ≤ i → q ≡ p → t ≡ after_all p s (drop i es) → ◌≡◌ {A = Booked} (record { profile = q; state = s }) (record { profile = p; state = t })
unfolding after_all
books_are p q s t es i over same left = ap (λ (x : Profile). record { profile = x; state = s }) same ∙ ap (λ (x : State). record { profile = p; state = x }) (sym (left ∙ ap (after_all p s) (drop_all i es over)))

-- ---- the whole list

abbrev pub Lawful : Type 0
Lawful = (p : Profile) (entries : List Entry) → (breach_of p entries ≡ None) ↔ IsLawfulHistory p entries

module _ (p : Profile) (es given xs ys : List Entry) (b : Booked) (same : given ≡ es) (moved : IsPermutation given xs) (sorted : IsNonDecreasingBy (λ e. e.ticket) xs) (read : ys ≡ xs) (opened : b ≡ record { profile = p; state = opening }) where
  moves : Same (by_ticket es) xs
  moves = same_of_permutation (by_ticket es) xs (IsPermutation-trans (by_ticket es) es xs (IsPermutation-sym es (by_ticket es) (sort_moves es)) (subst (λ (l : List Entry). IsPermutation l xs) same moved))

  breach_same : breach_of p es ≡ first_breach b.profile b.state ys
  breach_same = same_breach p opening (by_ticket es) xs (sort_rises es) (rising_of_sorted xs sorted) moves
      ∙ ap (first_breach p opening) (sym read) ∙ ap (λ (x : Booked). first_breach x.profile x.state ys) (sym opened)

  pub found_is : (o : Option (ℕ × ℕ)) → o ≡ option_map numbers_of (first_breach b.profile b.state ys) → option_map numbers_of (breach_of p es) ≡ o
  found_is o e = ap (option_map numbers_of) breach_same ∙ sym e

  pub lawful_is : Lawful → (o : Option (ℕ × ℕ)) (new : Booked) → o ≡ None → o ≡ option_map numbers_of (first_breach b.profile b.state ys) → (o ≡ None → new ≡ record { profile = b.profile; state = after_all b.profile b.state ys }) → IsLawfulHistory p es × (new ≡ record { profile = p; state = state_of p es })
  lawful_is law o new none e left =
      let free : breach_of p es ≡ None = breach_same ∙ no_numbers (first_breach b.profile b.state ys) (sym none ∙ e) in
      let one : by_ticket es ≡ xs = same_lists p opening (by_ticket es) xs (sort_rises es) (rising_of_sorted xs sorted) moves free in (
        (law p es).0 free,
        left none ∙ ap (λ (x : Booked). record { profile = x.profile; state = after_all x.profile x.state ys }) opened ∙ ap (λ (l : List Entry). record { profile = p; state = after_all p opening l }) (read ∙ sym one),
      )

-- a lawful entry is done on a copy of the books
pub stepped : (old now copy books made new : Booked) (e : Entry) → old ≡ now → e.ticket ≡ old.state.entries → None ≡ why_of_event old.profile old.state e → copy ≡ old
    → books ≡ record { profile = copy.profile; state = after_entry copy.profile copy.state e } → made ≡ books → new ≡ made
    → IsLawful now.profile now.state e × (new ≡ record { profile = now.profile; state = after_entry now.profile now.state e })
stepped old now copy books made new e is turn unbroken copied done listed put =
    subst (λ (b : Booked). IsLawful b.profile b.state e × (new ≡ record { profile = b.profile; state = after_entry b.profile b.state e })) is (
      record { in_turn = turn; fits = fits_unbroken old.profile old.state e.caller e.event (no_why _ unbroken) },
      put ∙ listed ∙ done ∙ ap (λ (b : Booked). record { profile = b.profile; state = after_entry b.profile b.state e }) copied,
    )
