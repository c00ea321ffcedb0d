-- Nobody else touches what a request has touched, as the entries tell that came meanwhile.
use Rattle.std.proofs.Common.{◌≡◌, ℕ, zero, suc, ◌+◌, ◌<◌, ◌≤◌, ◌==◌, Bool, true, false, not, List, [], ◌∷◌, ◌++◌, length, refl, ap, sym, subst, ◌∙◌, arith, inl, inr, ◌⊎◌, ⊎_elim, Some}
use Rattle.std.specs.Prelude.{◌&&◌, ◌||◌, slice_get, if◌then◌else◌}
use Rattle.std.specs.List.{Contains}
use Rattle.std.proofs.lemmas.Bool.{false≢true, and_parts, cases_Bool, eqb-true}
use Rattle.std.proofs.lemmas.List.Elements.{Contains-append_cases}
use Rattle.mz_base.specs.declared.profile.Profile.{Profile}
use Rattle.mz_events.specs.declared.entry.Entry.{Entry}
use Rattle.mz_events.specs.Places.{Spot, keeper_at, nano_page}
use Rattle.mz_events.specs.State.{opening}
use Rattle.mz_events.specs.Effect.{touches}
use Rattle.mz_events.specs.Hands.{own}
use Rattle.mz_events.specs.History.{AreLawful}
use Rattle.mz_record.specs.Served.{IsUndisturbed}
use Rattle.mz_book.specs.Account.{Account, holds_spot}
use Rattle.mz_book.specs.Growth.{Grows, is_own_touch, is_undisturbed}
use Rattle.mz_rack.specs.BookLaws.{BookLaws}
use Rattle.mz_rack.proofs.Steps.{or_elim}

-- tickets are indices, counted from b on
abbrev pub AreIndices : ℕ → List Entry → Type 0
AreIndices b h = (i : ℕ) (e : Entry) → slice_get h i ≡ Some e → e.ticket ≡ b + i

behind : (b : ℕ) (x : Entry) (h : List Entry) → AreIndices b (x ∷ h) → AreIndices (b + 1) h
behind b x h at i e y = let z : e.ticket ≡ b + suc i = at (suc i) e y in omega arith

pub indices_behind : (b : ℕ) (xs ys : List Entry) → AreIndices b (xs ++ ys) → AreIndices (b + length xs) ys
indices_behind b [] ys at i e y = let z = at i e y in omega arith
indices_behind b (x ∷ xs) ys at i e y = let z = indices_behind (b + 1) xs ys (behind b x (xs ++ ys) at) i e y in omega arith

one_of : (y : Entry) (ys : List Entry) (x : Entry) → Contains (y ∷ ys) x → (y ≡ x) ⊎ Contains ys x
one_of y ys x (zero, l, e) = inl e
one_of y ys x (suc k, l, e) = inr (k, omega arith, e)

pub not_below : (b : ℕ) (ys : List Entry) (x : Entry) → AreIndices b ys → Contains ys x → b ≤ x.ticket
not_below b [] x at (k, l, e) = absurd (omega arith)
not_below b (y ∷ ys) x at there =
    ⊎_elim (λ (e : y ≡ x). let z = at 0 y refl in let t = ap (λ (w : Entry). w.ticket) e in omega arith)
    (λ (r : Contains ys x). let z = not_below (b + 1) ys x (behind b y ys at) r in omega arith)
    (one_of y ys x there)

pub in_front : (b : ℕ) (xs ys : List Entry) (x : Entry) → AreIndices b (xs ++ ys) → Contains xs x → x.ticket < b + length xs
in_front b [] ys x at (k, l, e) = absurd (omega arith)
in_front b (y ∷ xs) ys x at there =
    ⊎_elim (λ (e : y ≡ x). let z = at 0 y refl in let t = ap (λ (w : Entry). w.ticket) e in omega arith)
    (λ (r : Contains xs x). let z = in_front (b + 1) xs ys x (behind b y (xs ++ ys) at) r in omega arith)
    (one_of y xs x there)

pub own_in : (c : ℕ) (es : List Entry) (e : Entry) → Contains (own c es) e → Contains es e × ((e.caller == c) ≡ true)
own_in c [] e (k, l, is) = absurd (omega arith)
own_in c (y ∷ ys) e there = elim (cases_Bool (y.caller == c)) [
  | inl t ↦ ⊎_elim (λ (is : y ≡ e). ((zero, omega arith, is), ap (λ (w : Entry). w.caller == c) (sym is) ∙ t))
      (λ (r : Contains (own c ys) e). let z = own_in c ys e r in (later z.0, z.1))
      (one_of y (own c ys) e (subst (λ b. Contains (if b then y ∷ own c ys else own c ys) e) t there))
  | inr n ↦ let z = own_in c ys e (subst (λ b. Contains (if b then y ∷ own c ys else own c ys) e) n there) in (later z.0, z.1)
]
  where
    later : Contains ys e → Contains (y ∷ ys) e
    later (k, l, is) = (suc k, omega arith, is)

module _ (p : Profile) (c : ℕ) (j : Spot) where
  -- once it has begun, only c touches the spot
  pub begun_alone : (more : List Entry) (x : Entry) → is_undisturbed p c j true more ≡ true → Contains more x → touches p x.event j ≡ true → x.caller ≡ c
  unfolding is_undisturbed
  begun_alone [] x h (k, l, e) y = absurd (omega arith)
  begun_alone (z ∷ zs) x h there y =
      let parts = and_parts ((z.caller == c) || not (true && touches p z.event j)) (is_undisturbed p c j (true || is_own_touch p c j z) zs) h in
      ⊎_elim (λ (e : z ≡ x). or_elim (z.caller == c) (not (true && touches p z.event j)) (λ t. ap (λ (w : Entry). w.caller) (sym e) ∙ eqb-true z.caller c t)
      (λ n. absurd (false≢true (sym (ap (λ b. not (true && b)) (ap (λ (w : Entry). touches p w.event j) e ∙ y)) ∙ n))) parts.0)
      (λ (r : Contains zs x). begun_alone zs x parts.1 r y)
      (one_of z zs x there)

  -- after an own entry that touches it, only c touches it
  pub then_alone : (b : ℕ) (begun : Bool) (more : List Entry) (e x : Entry) → AreIndices b more → is_undisturbed p c j begun more ≡ true → Contains more e → (e.caller == c) ≡ true → touches p e.event j ≡ true
      → Contains more x → e.ticket < x.ticket → touches p x.event j ≡ true → x.caller ≡ c
  unfolding is_undisturbed
  then_alone b begun [] e x at h (k, l, is) mine y there less z = absurd (omega arith)
  then_alone b begun (a ∷ more) e x at h here mine y there less z =
      let parts = and_parts ((a.caller == c) || not (begun && touches p a.event j)) (is_undisturbed p c j (begun || is_own_touch p c j a) more) h in
      ⊎_elim
      (λ (is : a ≡ e).
      let touch : is_own_touch p c j a ≡ true = ap (λ (w : Entry). is_own_touch p c j w) is ∙ (ap (λ t. t && touches p e.event j) mine ∙ y) in
      let has_begun : (begun || is_own_touch p c j a) ≡ true = ap (λ t. begun || t) touch ∙ always begun in
      ⊎_elim (λ (same : a ≡ x). let t = ap (λ (w : Entry). w.ticket) (sym is ∙ same) in absurd (omega arith))
      (λ (r : Contains more x). begun_alone more x (subst (λ t. is_undisturbed p c j t more ≡ true) has_begun parts.1) r z)
      (one_of a more x there))
      (λ (later : Contains more e).
      ⊎_elim (λ (same : a ≡ x).
      let t = ap (λ (w : Entry). w.ticket) same in
      let first = at 0 a refl in
      let above = not_below (b + 1) more e (behind b a more at) later in
      absurd (omega arith))
      (λ (r : Contains more x). then_alone (b + 1) (begun || is_own_touch p c j a) more e x (behind b a more at) parts.1 later mine y r less z)
      (one_of a more x there))
      (one_of a more e here)
    where
      always : (d : Bool) → (d || true) ≡ true
      always true = refl
      always false = refl

-- an entry of c is among c's own
pub among_own : (c : ℕ) (es : List Entry) (x : Entry) → Contains es x → (x.caller == c) ≡ true → Contains (own c es) x
among_own c [] x (k, l, is) mine = absurd (omega arith)
among_own c (y ∷ es) x (zero, l, is) mine =
    subst (λ b. Contains (if b then y ∷ own c es else own c es) x) (sym (ap (λ (w : Entry). w.caller == c) is ∙ mine)) (zero, omega arith, is)
among_own c (y ∷ es) x (suc k, l, is) mine =
    let rest = among_own c es x (k, omega arith, is) mine in
    elim (cases_Bool (y.caller == c)) [
      | inl t ↦ subst (λ b. Contains (if b then y ∷ own c es else own c es) x) (sym t) (suc rest.0, omega (arith, rest.1), rest.2)
      | inr n ↦ subst (λ b. Contains (if b then y ∷ own c es else own c es) x) (sym n) rest
    ]

-- So nobody disturbs a request of which no event touches a page of nano.
pub none_disturbs : BookLaws → (s t : Account) (mine : List Entry) (m : ℕ) → AreLawful t.profile opening t.seen → Grows s mine m t
    → ((e : Entry) → Contains mine e → (i : ℕ) → touches s.profile e.event (nano_page i) ≡ false) → IsUndisturbed s.profile t.seen s.caller mine
none_disturbs L s t mine m lawful grows off x (nano_page i) hx tx within = absurd (false≢true (sym (off within.earlier within.has_earlier i) ∙ within.touched))
none_disturbs L s t mine m lawful grows off x (keeper_at q) hx tx within =
    let e = within.earlier in
    let more = grows.adds.more in
    let all : AreIndices 0 (s.seen ++ more) = subst (λ h. AreIndices 0 h) grows.adds.seen (λ k y at. L.index t.profile opening t.seen lawful k y at) in
    let tail = indices_behind 0 s.seen more all in
    let here = own_in s.caller more e (subst (λ es. Contains es e) (sym grows.adds.own_is) within.has_earlier) in
    let later : Contains more x = ⊎_elim (λ (f : Contains s.seen x). let a = in_front 0 s.seen more x all f in let b = not_below (0 + length s.seen) more e tail here.0 in absurd (omega arith)) (λ (f : Contains more x). f)
    (Contains-append_cases s.seen more x (subst (λ h. Contains h x) grows.adds.seen hx)) in
    then_alone s.profile s.caller (keeper_at q) (0 + length s.seen) (holds_spot s (keeper_at q)) more e x tail (grows.undisturbed q) here.0 here.1 within.touched later within.behind tx
