-- What keepers keep, as numbers and as lists. This project's own.
use Rattle.std.specs.Prelude.{◌≡◌, ℕ, List, Bool, ◌⊎◌, refl}
use Rattle.std.proofs.Common.{inl, inr}
use Rattle.std.specs.Coded.{Coded, code_by, coded×, coded⊎, coded_ℕ, coded_bool, coded_list}
use base.Stored.{coded_unit}
use Rattle.mz_base.specs.Site.{Site, site_code}
use Rattle.mz_events.specs.State.{Kept, nothing_kept}
use Rattle.mz_events.specs.Standing.{RegionsKept, LargeKept, PagesKept, Keeping, of_regions, of_large, of_pages, of_nothing}
use Rattle.mz_magazine.specs.Keeping.{keeping_code}
use Rattle.mz_large.specs.Large.{large_code}

-- free pages with blanks are stored as the tuple of their fields
abbrev pub stock_code : Coded PagesKept
stock_code =
    code_by (Site × (List Bool × (ℕ × ℕ))) (coded× site_code (coded× (coded_list coded_bool) (coded× coded_ℕ coded_ℕ)))
    (λ p. (p.space, (p.free, (p.tiny_blanks, p.small_blanks)))) (λ t. record { space = t.0; free = t.1.0; tiny_blanks = t.1.1.0; small_blanks = t.1.1.1 }) (λ _. refl)

abbrev Cases : Type 0
Cases = RegionsKept ⊎ (LargeKept ⊎ (PagesKept ⊎ Unit {0}))

abbrev cases_of : Keeping → Cases
cases_of (of_regions v) = inl v
cases_of (of_large v) = inr (inl v)
cases_of (of_pages v) = inr (inr (inl v))
cases_of of_nothing = inr (inr (inr tt))

abbrev keeping_by : Cases → Keeping
keeping_by (inl v) = of_regions v
keeping_by (inr (inl v)) = of_large v
keeping_by (inr (inr (inl v))) = of_pages v
keeping_by (inr (inr (inr u))) = of_nothing

abbrev back : (v : Keeping) → keeping_by (cases_of v) ≡ v
back (of_regions v) = refl
back (of_large v) = refl
back (of_pages v) = refl
back of_nothing = refl

-- what is kept is stored as one of the four
abbrev pub kept_code_of : Coded Keeping
kept_code_of = code_by Cases (coded⊎ keeping_code (coded⊎ large_code (coded⊎ stock_code coded_unit))) cases_of keeping_by back

-- the runs and the live blocks of a keeper; one of the free pages has neither
abbrev pub lists_of : Keeping → Kept
lists_of (of_regions v) = v.kept
lists_of (of_large v) = v.kept
lists_of (of_pages v) = nothing_kept
lists_of of_nothing = nothing_kept
