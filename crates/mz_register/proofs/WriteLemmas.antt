-- What came since the opening can be written behind the former history.
use Rattle.std.proofs.Common.{◌≡◌, ℕ, ◌+◌, ◌<◌, ◌==◌, Bool, true, false, cond, List, [], ◌∷◌, ◌++◌, length, map, Some, Vec, sym, ap, ◌∙◌, subst, arith, eq-eqb, zero, suc, get_or, not, ◌≤◌}
use Rattle.std.specs.Prelude.{slice_get}
use Rattle.std.specs.List.{All}
use Rattle.std.specs.declared.alloc.Global.{Global}
use Rattle.std.proofs.lemmas.Bool.{and_parts, not-true}
use Rattle.std.proofs.lemmas.List.Elements.{All-head, All-tail, All-weaker}
use Rattle.mz_base.specs.declared.profile.Profile.{Profile}
use Rattle.mz_base.specs.Limits.{IsWithinLimits}
use Rattle.mz_events.specs.declared.entry.Entry.{Entry}
use Rattle.mz_events.specs.State.{opening}
use Rattle.mz_events.specs.Hands.{own}
use Rattle.mz_events.specs.Holding.{changes_zones}
use Rattle.mz_book.specs.Handed.{GoesOn}
use Rattle.mz_register.specs.declared.pass.Pass.{Pass}
use Rattle.mz_register.specs.Merged.{CanWrite}
use Rattle.mz_register.specs.Passes.{keeps_zones}
use Rattle.mz_register.proofs.MergeLemmas.{some_is, at_get, at_map, of_map}
use Rattle.mz_register.specs.HandIn.{passes_of}
use Rattle.mz_register.proofs.PassLists.{found_of}

own_in_by : (c : ℕ) (x : Entry) (xs : List Entry) (i : ℕ) (e : Entry) (b : Bool) → ((k : ℕ) → slice_get (own c xs) k ≡ Some e → (j : ℕ) × (slice_get xs j ≡ Some e)) → slice_get (cond b (x ∷ own c xs) (own c xs)) i ≡ Some e → (j : ℕ) × (slice_get (x ∷ xs) j ≡ Some e)
own_in_by c x xs zero e true f h = (0, h)
own_in_by c x xs (suc i) e true f h = let t = f i h in (suc t.0, t.1)
own_in_by c x xs i e false f h = let t = f i h in (suc t.0, t.1)

-- an own entry is one of the list
own_in : (c : ℕ) (xs : List Entry) (i : ℕ) (e : Entry) → slice_get (own c xs) i ≡ Some e → (j : ℕ) × (slice_get xs j ≡ Some e)
own_in c [] i e h = absurd (cc)
own_in c (x ∷ xs) i e h = own_in_by c x xs i e (x.caller == c) (λ k g. own_in c xs k e g) h

own_has_by : (x : Entry) (xs : List Entry) (e : Entry) (b : Bool) → (i : ℕ) × (slice_get (own e.caller xs) i ≡ Some e) → (i : ℕ) × (slice_get (cond b (x ∷ own e.caller xs) (own e.caller xs)) i ≡ Some e)
own_has_by x xs e true t = (suc t.0, t.1)
own_has_by x xs e false t = t

-- an entry is one of its caller's own
pub own_has : (xs : List Entry) (e : Entry) (i : ℕ) → slice_get xs i ≡ Some e → (k : ℕ) × (slice_get (own e.caller xs) k ≡ Some e)
own_has [] e i h = absurd (cc)
own_has (x ∷ xs) e zero h =
    let t : (x.caller == e.caller) ≡ true = eq-eqb x.caller e.caller (ap (λ (y : Entry). y.caller) (some_is x e h)) in
    (0, ap (λ b. slice_get (cond b (x ∷ own e.caller xs) (own e.caller xs)) 0) t ∙ h)
own_has (x ∷ xs) e (suc i) h = own_has_by x xs e (x.caller == e.caller) (own_has xs e i h)

pub below_at : (n : ℕ) (xs : List Entry) (i : ℕ) (e : Entry) → All (λ d. d.caller < n) xs → slice_get xs i ≡ Some e → e.caller < n
below_at n [] i e h t = absurd (cc)
below_at n (x ∷ xs) zero e h t = subst (λ (y : Entry). y.caller < n) (some_is x e t) (All-head (λ (d : Entry). d.caller < n) x xs h)
below_at n (x ∷ xs) (suc i) e h t = below_at n xs i e (All-tail (λ (d : Entry). d.caller < n) x xs h) t

abbrev noted_in : {V : Type 0} → List (Pass V) → List (Vec Entry Global)
noted_in passes = map (λ x. x.noted) passes

pub can_write : {V : Type 0} (p : Profile) (before later : List Entry) (quanta : List ℕ) (passes : List (Pass V)) (records : List (Vec Entry Global))
    → IsWithinLimits p → ((c : ℕ) → c < p.callers → passes_of c passes ≡ 1) → records ≡ noted_in passes → ((i : ℕ) (e : Entry) → slice_get (before ++ later) i ≡ Some e → e.ticket ≡ opening.entries + i) → All (λ e. e.caller < p.callers) later
    → ((i : ℕ) (x : Pass V) → slice_get passes i ≡ Some x → x.noted.items ≡ own x.seat.me.0.caller later) → GoesOn p quanta before later → CanWrite before quanta later records
can_write {V} p before later quanta passes records limits one are tickets below noted goes = record {
  tickets = λ i e at. let t = tickets i e at in omega arith;
  stands = λ k r at i e in_r.
      let t = of_map (λ (x : Pass V). x.noted) passes k r (ap (λ rs. slice_get rs k) (sym are) ∙ at) in
      own_in t.0.seat.me.0.caller later i e (ap (λ es. slice_get es i) (sym (ap (λ (v : Vec Entry Global). v.items) (sym t.1.1) ∙ noted k t.0 t.1.0)) ∙ in_r);
  each = λ i e at.
      let l = below_at p.callers later i e below at in
      let x = found_of e.caller passes (let n = one e.caller l in omega arith) in
      let q = own_has later e i at in
      record { index = x.0; noted = x.1.noted; at = ap (λ rs. slice_get rs x.0) are ∙ at_map (λ (y : Pass V). y.noted) passes x.0 x.1 x.2; place = q.0; here = ap (λ es. slice_get es q.0) (noted x.0 x.1 x.2 ∙ ap (λ (c : ℕ). own c later) x.3) ∙ q.1 };
  within = goes.within;
  callers = let n = limits.callers.1 in All-weaker (λ (e : Entry). e.caller < p.callers) (λ (e : Entry). e.caller < 256) (λ e l. omega arith) later below;
}

-- where no record opens or shuts a zone, no entry does

steady_at : (es : List Entry) (i : ℕ) (e : Entry) → keeps_zones es ≡ true → slice_get es i ≡ Some e → changes_zones e.event ≡ false
steady_at [] i e h t = absurd (cc)
steady_at (x ∷ xs) zero e h t = not-true (changes_zones e.event) (subst (λ (y : Entry). not (changes_zones y.event) ≡ true) (some_is x e t) (and_parts (not (changes_zones x.event)) (keeps_zones xs) h).0)
steady_at (x ∷ xs) (suc i) e h t = steady_at xs i e (and_parts (not (changes_zones x.event)) (keeps_zones xs) h).1 t

pub steady_all : {V : Type 0} (n : ℕ) (later : List Entry) (passes : List (Pass V)) → ((c : ℕ) → c < n → passes_of c passes ≡ 1) → All (λ e. e.caller < n) later
    → ((i : ℕ) (x : Pass V) → slice_get passes i ≡ Some x → x.noted.items ≡ own x.seat.me.0.caller later) → All (λ e. changes_zones e.event ≡ false) later
steady_all n later passes one below noted k d l =
    let e = get_or later k d in
    let at : slice_get later k ≡ Some e = at_get later k d l in
    let b = below_at n later k e below at in
    let x = found_of e.caller passes (let m = one e.caller b in omega arith) in
    let q = own_has later e k at in
    steady_at x.1.noted.items q.0 e x.1.zones (ap (λ es. slice_get es q.0) (noted x.0 x.1 x.2 ∙ ap (λ (c : ℕ). own c later) x.3) ∙ q.1)
