-- Requests that nobody disturbs.
use Rattle.std.proofs.Common.{◌≡◌, ℕ, true, Bool, List, [], ◌∷◌, ap, sym, subst, ◌∙◌, inl, inr, arith}
use Rattle.std.specs.Prelude.{not, Contains}
use Rattle.std.specs.List.{list_all}
use Rattle.std.proofs.lemmas.Bool.{and_parts, false≢true}
use Rattle.std.proofs.lemmas.List.Elements.{Contains-append_cases, Contains-push_cases}
use Rattle.mz_base.specs.declared.profile.Profile.{Profile}
use Rattle.mz_events.specs.declared.entry.Entry.{Entry}
use Rattle.mz_record.specs.Served.{is_dry, IsUndisturbed}

-- what is tested of all is so of each
pub all_at : {A : Type 0} (test : A → Bool) (xs : List A) (x : A) → list_all test xs ≡ true → Contains xs x → test x ≡ true
all_at test [] x all contains = absurd (let low = contains.1 in omega (arith, low))
all_at {A = A} test (y ∷ ys) x all contains =
    let parts = and_parts (test y) (list_all test ys) all in
    elim (Contains-append_cases (y ∷ []) ys x contains) [
      | inl here ↦ elim (Contains-push_cases [] y x here) [
        | inl nowhere ↦ absurd (let low = nowhere.1 in omega (arith, low))
        | inr same ↦ subst (λ (z : A). test z ≡ true) same parts.0
      ]
      | inr there ↦ all_at test ys x parts.1 there
    ]

pub calm : (p : Profile) (h : List Entry) (c : ℕ) (es : List Entry) → list_all (λ e. not (is_dry e.event)) es ≡ true → IsUndisturbed p h c es
calm p h c es none x j at_x there within =
    absurd (false≢true (sym (ap not within.is_dry) ∙ all_at (λ (y : Entry). not (is_dry y.event)) es within.dry none within.has_dry))

pub alone : (p : Profile) (h : List Entry) (c : ℕ) (es : List Entry) → ((x : Entry) → Contains h x → x.caller ≡ c) → IsUndisturbed p h c es
alone p h c es mine x j at_x there within = mine x at_x
