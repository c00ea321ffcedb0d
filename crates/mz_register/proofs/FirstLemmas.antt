-- The first pass, and all passes once they are dealt.
use Rattle.std.proofs.Common.{◌≡◌, ℕ, ◌+◌, List, [], ◌∷◌, length, map, Option, Some, None, refl, sym, ap, ◌∙◌, subst, arith, inl, zero, suc}
use Rattle.std.specs.Prelude.{slice_get}
use Rattle.std.proofs.lemmas.List.{length-replicate}
use Rattle.atomic_table.specs.Seated.{TableId}
use Rattle.mz_events.specs.Hands.{own}
use Rattle.mz_events.specs.Standing.{Keeping}
use Rattle.mz_book.specs.declared.parts.Parts.{Parts}
use Rattle.mz_book.specs.Pairs.{block_of, hand_among}
use Rattle.mz_book.specs.Parts.{FitTogether, account_in}
use Rattle.mz_desk.specs.Views.{Opened, first_view, site_at}
use Rattle.mz_desk.specs.Keys.{opened_as}
use Rattle.mz_register.specs.declared.pass.Pass.{Pass}
use Rattle.mz_register.specs.Passes.{table_numbers, IsRested, IsKnowing}
use Rattle.mz_register.specs.Opened.{IsOpened, IsNew, IsGiver, IsFirst, AreNew, AreDealt}
use Rattle.mz_register.proofs.OpenLemmas.{none_left, all_zeros}

pub first_giver : (key : Opened) → IsGiver key 1 (first_view key)
first_giver key = record { live = refl; profile = refl; space = refl; start = refl; caller = refl; given = refl; held = refl; taking = refl; seen = refl; noted = refl; lights = refl; settled = refl; joined = refl; pairs = λ k o. refl }

pub first_rested : (key : Opened) → IsRested (first_view key) 0 [] []
first_rested key = record {
  live = refl;
  none_taking = refl;
  none_joined = refl;
  caller = refl;
  noted_is = refl;
  held_is = refl;
  ascending = refl;
  below = refl;
  sized = length-replicate key.profile.nano 0;
  classes = all_zeros key.profile.nano;
  lit = refl;
}

pub first_knowing : {V : Type 0} (keeping : V → Keeping) (x : Parts V) → FitTogether keeping x → IsKnowing (first_view (opened_as keeping (record { profile = x.profile; history = x.history; quanta = x.quanta; classes = x.classes; site = x.site })))
first_knowing keeping x fit = record {
  limits = fit.limits;
  caller = let c = fit.limits.callers.0 in omega arith;
  lawful = fit.lawful;
  recorded = none_left (own 0 x.history.items);
  counted = let a = fit.within in let b = fit.few in omega arith;
  owned = λ b. let e = fit.in_one_hand b in omega arith;
}

some_is : {A : Type 0} (x y : A) → Some x ≡ Some y → x ≡ y
some_is {A} x y e = ap (λ (o : Option A). value x o) e
  where
    value : A → Option A → A
    value d None = d
    value d (Some z) = z

-- the first pass is new too
first_new : {V : Type 0} (z : TableId) (key : Opened) (n : ℕ) (x : Pass V) → IsFirst z key n x → IsNew z key 0 x
first_new z key n x f =
    let g = f.giver in
    record {
      name = ap table_numbers f.table;
      profile = g.profile;
      caller = g.caller;
      site = ap site_at g.space;
      between = refl;
      held = g.held;
      seen = g.seen;
      noted = g.noted;
      hand = ap (λ (c : ℕ). hand_among c x.seat.me.0.pairs) g.caller ∙ ap (map block_of) (g.pairs 0 (inl refl));
      spare = let l = f.limit in omega arith;
      holds = f.holds;
      lights = g.lights;
      settled = g.settled;
      founds = f.founds;
      found = f.found;
    }

new_at : {V : Type 0} (z : TableId) (key : Opened) (c : ℕ) (xs : List (Pass V)) (i : ℕ) (x : Pass V) → AreNew z key c xs → slice_get xs i ≡ Some x → IsNew z key (c + i) x
new_at z key c [] i x h e = absurd (cc)
new_at z key c (y ∷ ys) zero x h e = subst (IsNew z key (c + 0)) (some_is y x e) (subst (λ (n : ℕ). IsNew z key n y) (omega arith) h.0)
new_at z key c (y ∷ ys) (suc i) x h e = subst (λ (n : ℕ). IsNew z key n x) (omega arith) (new_at z key (c + 1) ys i x h.1 e)

dealt_at : {V : Type 0} (z : TableId) (key : Opened) (n : ℕ) (first : Pass V) (others : List (Pass V)) (c : ℕ) (x : Pass V) → IsFirst z key n first → AreNew z key 1 others → slice_get (first ∷ others) c ≡ Some x → IsNew z key c x
dealt_at z key n first others zero x f h e = subst (IsNew z key 0) (some_is first x e) (first_new z key n first f)
dealt_at z key n first others (suc i) x f h e = subst (λ (k : ℕ). IsNew z key k x) (omega arith) (new_at z key 1 others i x h e)

pub all_opened : {V : Type 0} (keeping : V → Keeping) (x : Parts V) (z : TableId) (passes : List (Pass V)) → AreDealt z (opened_as keeping (record { profile = x.profile; history = x.history; quanta = x.quanta; classes = x.classes; site = x.site })) x.profile.callers passes → IsOpened (account_in keeping x) z x.profile passes
all_opened keeping x z passes d = record {
  profile = refl;
  count = let n = ap length d.all in let c = d.count in omega arith;
  each = λ c y e. dealt_at z (opened_as keeping (record { profile = x.profile; history = x.history; quanta = x.quanta; classes = x.classes; site = x.site })) x.profile.callers d.first d.others c y d.gives d.new (ap (λ ps. slice_get ps c) (sym d.all) ∙ e);
}
