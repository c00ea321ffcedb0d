-- The two passes of a register of toys, before and after they note entries and take lights.
use Rattle.std.proofs.Common.{◌≡◌, ℕ, zero, suc, ◌+◌, ◌==◌, ◌<◌, refl, subst, List, [], ◌∷◌, ◌++◌, ap, sym, ◌∙◌, arith, length, length-append, Option, Some, None}
use Rattle.std.specs.Prelude.{slice_get}
use Rattle.std.proofs.lemmas.Option.{none-some}
use Rattle.mz_events.specs.Changes.{one_for}
use Rattle.mz_base.specs.declared.profile.Profile.{Profile}
use Rattle.mz_base.specs.Site.{Site}
use Rattle.mz_events.specs.State.{is_open, opening}
use Rattle.mz_events.specs.History.{after_all}
use Rattle.mz_events.specs.declared.entry.Entry.{Entry}
use Rattle.mz_book.specs.declared.pair.Pair.{Pair}
use Rattle.atomic_table.specs.Seated.{TableId}
use Rattle.mz_register.specs.Passes.{IsOf}
use Rattle.mz_register.specs.Opened.{IsFresh}
use Rattle.mz_events.specs.Standing.{Keeping}
use Rattle.mz_book.specs.Account.{Account}
use Rattle.mz_book.specs.Plain.{Reserves}
use Rattle.mz_register.specs.declared.pass.Pass.{Pass}
use Rattle.mz_register.specs.declared.register.Register.{Register}
use Rattle.mz_register.specs.Accounts.{pass_account}
use Rattle.mz_register.specs.HandIn.{IsIdleOf, AreAll, HandsIn, former}
use Rattle.mz_threads_tests.specs.Toys.{IsIdleAs, toy_profile, MayBeFull, HasLit, WereFull, IsIn, IsReady}
use Rattle.mz_threads_tests.proofs.FullCalls.{zone_at_first}

-- passes that sit at a register

of_at_first : (z : TableId) (q p : Profile) (x : Site) (es : List Entry) (hs : List Pair) (c n : ℕ) (s t : Account) → q ≡ p → IsFresh z p x es hs c s → Reserves s n t → IsOf z q t
of_at_first z q p x es hs c n s t e f r = record { name = ap (λ (a : Account). a.name) r.after ∙ f.name; profile = ap (λ (a : Account). a.profile) r.after ∙ (f.profile ∙ sym e) }

pub sits_full : (z : TableId) (p : Profile) (c n : ℕ) (s t : Account) → WereFull s n t → IsIdleAs z p c s → IsIdleAs z p c t
sits_full z p c n s t w i = record {
  of = record { name = w.name ∙ i.of.name; profile = w.profile ∙ i.of.profile };
  caller = w.caller ∙ i.caller;
  idle = record { keepers = w.nothing_held; lights = w.lights ∙ i.idle.lights };
}

pub sits_lit : (z : TableId) (p : Profile) (c : ℕ) (s t : Account) (got : Option ℕ) → HasLit s got t → IsIdleAs z p c s → IsIdleAs z p c t
sits_lit z p c s t None h i = record {
  of = record { name = ap (λ (a : Account). a.name) h ∙ i.of.name; profile = ap (λ (a : Account). a.profile) h ∙ i.of.profile };
  caller = ap (λ (a : Account). a.caller) h ∙ i.caller;
  idle = record { keepers = ap (λ (a : Account). a.held) h ∙ i.idle.keepers; lights = ap (λ (a : Account). a.lights) h ∙ i.idle.lights };
}
sits_lit z p c s t (Some n) h i = record {
  of = record { name = ap (λ (a : Account). a.name) h.same ∙ i.of.name; profile = ap (λ (a : Account). a.profile) h.same ∙ i.of.profile };
  caller = ap (λ (a : Account). a.caller) h.same ∙ i.caller;
  idle = record { keepers = ap (λ (a : Account). a.held) h.same ∙ i.idle.keepers; lights = ap (λ (a : Account). a.lights) h.same ∙ i.idle.lights };
}

pub ready : {V : Type 0} (r : Register V) (p : Profile) (x : Site) (hs : List Pair) (c n : ℕ) (s : Account) (y : Pass V) → r.opening.profile ≡ p → IsFresh r.table.shared.table_id p x [] hs c s → Reserves s n (pass_account y) → IsReady n r c y
ready r p x hs c n s y e f v = record {
  sits = record {
    of = of_at_first r.table.shared.table_id r.opening.profile p x [] hs c n s (pass_account y) e f v;
    caller = ap (λ (a : Account). a.caller) v.after ∙ f.caller;
    idle = record { keepers = ap (λ (a : Account). a.held) v.after ∙ f.held; lights = ap (λ (a : Account). a.lights) v.after ∙ f.lights };
  };
  room = v.room;
  seen = ap (λ (a : Account). a.seen) v.after ∙ f.seen;
}

pub may_when_ready : {V : Type 0} (r : Register V) (c n : ℕ) (x : Pass V) → r.opening.profile ≡ toy_profile → c < 2 → IsReady n r c x → MayBeFull (pass_account x) n
may_when_ready r c n x e l y = record {
  profile = y.sits.of.profile ∙ e;
  caller = let k = y.sits.caller in omega arith;
  nothing_held = y.sits.idle.keepers;
  room = y.room;
  zone_open = ap (λ es. is_open (after_all (pass_account x).profile opening es) 0) y.seen ∙ zone_at_first (pass_account x).profile;
}

-- the passes of callers 0 and 1 are all that there are

some-value : {A : Type 0} (x y : A) → ◌≡◌ {A = Option A} (Some x) (Some y) → x ≡ y
some-value x y same = cc

one_of_two : (c : ℕ) → c < 2 → one_for (0 == c) + (one_for (1 == c) + 0) ≡ 1
one_of_two zero l = refl
one_of_two (suc zero) l = refl
one_of_two (suc (suc c)) l = absurd (omega (arith, l))

module _ {V : Type 0} (z : TableId) (p : Profile) (x y : Pass V) (two : p.callers ≡ 2) (a : IsIdleAs z p 0 (pass_account x)) (b : IsIdleAs z p 1 (pass_account y)) where
  idle_at : (i : ℕ) (w : Pass V) → slice_get (x ∷ y ∷ []) i ≡ Some w → IsIdleOf z p (pass_account w)
  idle_at zero w at = subst (λ (v : Pass V). IsIdleOf z p (pass_account v)) (some-value x w at) (record { of = a.of; idle = a.idle })
  idle_at (suc zero) w at = subst (λ (v : Pass V). IsIdleOf z p (pass_account v)) (some-value y w at) (record { of = b.of; idle = b.idle })
  idle_at (suc (suc i)) w at = absurd (none-some w at)

  pub both_are_all : AreAll z p (x ∷ y ∷ [])
  both_are_all = record {
    each = idle_at;
    one = λ c l.
        ap (λ k. one_for (k == c) + (one_for ((pass_account y).caller == c) + 0)) a.caller ∙ ap (λ k. one_for (0 == c) + (one_for (k == c) + 0)) b.caller
        ∙ one_of_two c (let low = l in omega (arith, low, two));
  }

-- and the plain book that they were handed into

pub is_in : {V : Type 0} (keeping : V → Keeping) (r : Register V) (xs : List (Pass V)) (t : Account) → HandsIn (former keeping r) xs t → IsIn r t
is_in keeping r xs t h = record {
  profile = ap (λ (a : Account). a.profile) h.after;
  idle = record { keepers = ap (λ (a : Account). a.held) h.after; lights = ap (λ (a : Account). a.lights) h.after };
}

-- the two that were taken out of a list of two
pub two_taken : {A : Type 0} (all less none : List A) (x y : A) → all ≡ less ++ y ∷ [] → less ≡ none ++ x ∷ [] → length all ≡ 2 → (slice_get all 0 ≡ Some x) × (slice_get all 1 ≡ Some y)
two_taken all less [] x y e f n = let w : all ≡ x ∷ y ∷ [] = e ∙ ap (λ zs. zs ++ y ∷ []) f in (ap (λ zs. slice_get zs 0) w, ap (λ zs. slice_get zs 1) w)
two_taken all less (z ∷ zs) x y e f n =
    let a = ap length e in
    let b = length-append less (y ∷ []) in
    let c = ap length f in
    let d = length-append (z ∷ zs) (x ∷ []) in
    absurd (omega arith)
