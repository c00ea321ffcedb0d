-- The second line of a trace: `space P callers C magazines M nano N gen G zones Z`. This project's own.
use Rattle.std.specs.Prelude.{ℕ, Bool, nat_le, ◌&&◌, List, [], ◌∷◌, Option, None, Some, codes, if◌then◌else◌}
use Rattle.std.specs.Str.{bytes_eq}
use Rattle.std.specs.Fmt.{decimal}
use Rattle.mz_base.specs.declared.profile.Profile.{Profile}
use Rattle.mz_words.specs.Numbers.{is_from, number_of, ◌>>=◌}

-- how a profile is written
abbrev pub space_words : Profile → List (List ℕ)
space_words p =
    codes "space" ∷ decimal p.pages ∷ codes "callers" ∷ decimal p.callers ∷ codes "magazines" ∷ decimal p.magazines
    ∷ codes "nano" ∷ decimal p.nano ∷ codes "gen" ∷ decimal p.most_gen ∷ codes "zones" ∷ decimal p.zones ∷ []

-- each number of the profile is within its limits, as a test
abbrev pub is_within_limits : Profile → Bool
is_within_limits p =
    is_from 1 16384 p.pages && is_from 1 16 p.callers && is_from 1 16 p.magazines && nat_le p.nano 1024 && nat_le p.nano p.pages
    && is_from 1 68719476735 p.most_gen && is_from 1 4 p.zones

-- the profile, if it is within the limits
abbrev pub if_within_limits : Profile → Option Profile
if_within_limits p = if is_within_limits p then Some p else None

-- a label and a number in front, and the words behind them
abbrev pub field_of : List ℕ → List (List ℕ) → Option (ℕ × List (List ℕ))
field_of label [] = None
field_of label (w ∷ []) = None
field_of label (w ∷ n ∷ words) = if bytes_eq w label then (number_of n >>= λ value. Some (value, words)) else None

-- nothing more behind
abbrev pub if_last : List (List ℕ) → Option Profile → Option Profile
if_last [] p = p
if_last (word ∷ words) p = None

-- the profile that the words of the second line have, if they are of its form and within the limits
abbrev pub profile_in : List (List ℕ) → Option Profile
profile_in words = do
  p ← field_of (codes "space") words
  c ← field_of (codes "callers") p.1
  m ← field_of (codes "magazines") c.1
  n ← field_of (codes "nano") m.1
  g ← field_of (codes "gen") n.1
  z ← field_of (codes "zones") g.1
  if_last z.1 (if_within_limits (record { pages = p.0; callers = c.0; magazines = m.0; nano = n.0; most_gen = g.0; zones = z.0 }))
