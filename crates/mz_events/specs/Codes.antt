-- What a place keeps, as numbers, so that a ghost field can store it; and that entries are lawful in one way.
use Rattle.std.specs.Prelude.{ℕ, ◌≡◌, List, [], ◌∷◌, Option, refl}
use Rattle.std.specs.Coded.{Coded, Coded-set, code_by, coded×, coded_ℕ, coded_bool, coded_option, coded_list, ×_prop, Π_prop, Unit-prop}
use Rattle.std.proofs.Common.{ap}
use Rattle.mz_base.specs.declared.profile.Profile.{Profile}
use Rattle.mz_base.specs.Space.{Block, Run}
use Rattle.mz_base.specs.Codes.{block_code, run_code}
use Rattle.mz_events.specs.declared.entry.Entry.{Entry}
use Rattle.mz_events.specs.declared.event.Event.{Event}
use Rattle.mz_events.specs.State.{Kept, State}
use Rattle.mz_events.specs.Rules.{Fits}
use Rattle.mz_events.specs.History.{IsLawful, AreLawful, after_entry}

-- the fields of what a place keeps, as a tuple
abbrev KeptParts : Type 0
KeptParts = List Run × (List Block × (Option Block × (List Run × (List Run × (ℕ × ℕ)))))

-- it is stored as that tuple
abbrev pub kept_code : Coded Kept
kept_code = code_by KeptParts
    (coded× (coded_list run_code) (coded× (coded_list block_code) (coded× (coded_option block_code) (coded× (coded_list run_code) (coded× (coded_list run_code) (coded× coded_ℕ coded_ℕ))))))
    (λ k. (k.runs, (k.live, (k.last_freed, (k.cached, (k.taken, (k.tiny_regions, k.small_regions)))))))
    (λ p. record { runs = p.0; live = p.1.0; last_freed = p.1.1.0; cached = p.1.1.1.0; taken = p.1.1.1.1.0; tiny_regions = p.1.1.1.1.1.0; small_regions = p.1.1.1.1.1.1 }) (λ _. refl)

-- two places keep the same in one way at most
pub kept_once : (k l : Kept) → IsProp (k ≡ l)
kept_once k l = Coded-set kept_code k l

-- an event fits in one way at most
pub fits_once : (p : Profile) (s : State) (c : ℕ) (e : Event) → IsProp (Fits p s c e)
fits_once p s c e = Π_prop (λ r. Coded-set coded_bool _ _)

abbrev lawful_of : (p : Profile) (s : State) (e : Entry) → (e.ticket ≡ s.entries) × Fits p s e.caller e.event → IsLawful p s e
lawful_of p s e h = record { in_turn = h.0; fits = h.1 }

-- an entry is lawful in one way at most
pub lawful_once : (p : Profile) (s : State) (e : Entry) → IsProp (IsLawful p s e)
lawful_once p s e = λ x y. ap (lawful_of p s e) (×_prop (Coded-set coded_ℕ e.ticket s.entries) (fits_once p s e.caller e.event) (x.in_turn, x.fits) (y.in_turn, y.fits))

-- and so are entries
pub all_lawful_once : (p : Profile) (s : State) (entries : List Entry) → IsProp (AreLawful p s entries)
unfolding AreLawful
all_lawful_once p s [] = Unit-prop
all_lawful_once p s (e ∷ es) = ×_prop (lawful_once p s e) (all_lawful_once p (after_entry p s e) es)
