-- Records in which no zone is opened or shut.
use Rattle.std.proofs.Common.{◌≡◌, Bool, true, false, List, [], ◌∷◌, ◌++◌, refl, sym, ap, ◌∙◌, inl, inr, not}
use Rattle.std.specs.Prelude.{◌&&◌}
use Rattle.std.proofs.lemmas.Bool.{cases_Bool, false≢true}
use Rattle.mz_events.specs.declared.entry.Entry.{Entry}
use Rattle.mz_events.specs.Holding.{changes_zones}
use Rattle.mz_register.specs.Passes.{keeps_zones}

one_steady : (b : Bool) → (b ≡ true → false ≡ true) → (not b && true) ≡ true
one_steady true h = absurd (false≢true (h refl))
one_steady false h = refl

and_then : (a b d : Bool) → (a && b) ≡ true → (b ≡ true → d ≡ true) → (a && d) ≡ true
and_then true b d h f = f h
and_then false b d h f = h

-- one entry more
pub steady_more : (es : List Entry) (e : Entry) → keeps_zones es ≡ true → (changes_zones e.event ≡ true → false ≡ true) → keeps_zones (es ++ e ∷ []) ≡ true
steady_more [] e h f = one_steady (changes_zones e.event) f
steady_more (x ∷ xs) e h f = and_then (not (changes_zones x.event)) (keeps_zones xs) (keeps_zones (xs ++ e ∷ [])) h (λ r. steady_more xs e r f)
