-- Places of the space as words. This project's own.
use Rattle.std.specs.Prelude.{ℕ, ◌==◌, Bool, true, ◌&&◌, not, List, [], ◌∷◌, ◌++◌, Option, Some, None, length, position, take, drop, codes, if◌then◌else◌}
use Rattle.std.specs.Str.{bytes_eq}
use Rattle.std.specs.Fmt.{decimal}
use Rattle.mz_base.specs.Names.{is_digit}
use Rattle.mz_events.specs.declared.place.Place.{Place}
use Rattle.mz_events.specs.declared.place.Place.TheVariants as place
use Rattle.mz_words.specs.Numbers.{is_u32, small_number_of, ◌>>=◌}

-- the free pages, tiny and small magazines and depots, large, nano
abbrev pub place_word : Place → List ℕ
place_word place.Pages = codes "p"
place_word (place.Tiny z m) = decimal z ++ codes "t" ++ decimal m
place_word (place.TinyDepot z) = decimal z ++ codes "td"
place_word (place.Small z m) = decimal z ++ codes "s" ++ decimal m
place_word (place.SmallDepot z) = decimal z ++ codes "sd"
place_word (place.Large z) = decimal z ++ codes "l"
place_word place.Nano = codes "n"

-- a place that a line can have
abbrev pub place_fits : Place → Bool
place_fits place.Pages = true
place_fits (place.Tiny z m) = is_u32 z && is_u32 m
place_fits (place.TinyDepot z) = is_u32 z
place_fits (place.Small z m) = is_u32 z && is_u32 m
place_fits (place.SmallDepot z) = is_u32 z
place_fits (place.Large z) = is_u32 z
place_fits place.Nano = true

-- the place of a zone, by what stands behind the zone's number
abbrev pub place_in : ℕ → List ℕ → Option Place
place_in zone [] = None
place_in zone (c ∷ rest) =
    if c == 116 then (if bytes_eq rest (codes "d") then Some (place.TinyDepot zone) else (small_number_of rest >>= λ mag. Some (place.Tiny zone mag)))
    else if c == 115 then (if bytes_eq rest (codes "d") then Some (place.SmallDepot zone) else (small_number_of rest >>= λ mag. Some (place.Small zone mag)))
    else if (c == 108) && (length rest == 0) then Some (place.Large zone)
    else None

-- a place of a zone, whose number are the digits in front
abbrev pub zone_place_of : List ℕ → Option Place
zone_place_of word = do
  at ← position (λ c. not (is_digit c)) word
  zone ← small_number_of (take at word)
  place_in zone (drop at word)

-- the place that a word is
abbrev pub place_of : List ℕ → Option Place
place_of word =
    if bytes_eq word (codes "p") then Some place.Pages else if bytes_eq word (codes "n") then Some place.Nano else zone_place_of word
