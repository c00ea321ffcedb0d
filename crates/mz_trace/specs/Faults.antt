-- What can be wrong with a line, and the first bad line of a text. This project's own.
use Rattle.std.specs.Prelude.{ℕ, ◌≡◌, ◌+◌, ◌==◌, Bool, false, not, nat_le, ◌&&◌, ◌||◌, List, [], ◌∷◌, find, Option, None, Some, is_none, count_by, codes, if◌then◌else◌}
use Rattle.std.specs.List.{list_any, filter_map}
use Rattle.std.specs.Option.{option_map_or}
use Rattle.std.specs.Str.{bytes_eq}
use Rattle.mz_words.specs.Lines.{Cut, cuts, words_of, is_plain}
use Rattle.mz_lines.specs.declared.why.Why.{Why}
use Rattle.mz_lines.specs.declared.why.Why.TheVariants.{NotPlain, NotTrace, NotSpace, EmptyWord, UnknownCommand, WrongCount, NotNumber, NoSuchCaller, NotName, BeyondLimits, OutOfPlace, GivenBefore}
use Rattle.mz_lines.specs.Spaces.{profile_in}
use Rattle.mz_lines.specs.Whys.{why_number, is_callers, word_holds}
use Rattle.mz_trace.specs.declared.round.TheConstants.{MOST_ROUNDS}
use Rattle.mz_trace.specs.declared.fault.TraceFault.{TraceFault}
use Rattle.mz_trace.specs.declared.fault.TraceFault.TheVariants.{Bad, NoMemory}

-- Where a line stands: it is the first, the second, or a later one of a trace with so many callers, behind later lines
-- with these words, the nearest first.
pub data Position : Type 0 where
  first : Position
  second : Position
  later : ℕ → List (List (List ℕ)) → Position

-- the line begins a round
abbrev pub begins_round : List (List ℕ) → Bool
begins_round (word ∷ []) = bytes_eq word (codes "round")
begins_round _ = false

-- some caller's line stands in the round so far
abbrev pub has_callers_line : List (List (List ℕ)) → Bool
has_callers_line [] = false
has_callers_line (words ∷ before) = if begins_round words then false else is_callers words || has_callers_line before

-- a line before the first round, a round's line behind a caller's, or one round too many
abbrev pub is_out_of_place : List (List (List ℕ)) → List (List ℕ) → Bool
is_out_of_place before words =
    if begins_round words
    then nat_le MOST_ROUNDS (count_by begins_round before)
    else (count_by begins_round before == 0) || (not (is_callers words) && has_callers_line before)

-- the word under which a line gives a block
abbrev pub given_in : List (List ℕ) → Option (List ℕ)
given_in (caller ∷ command ∷ name ∷ to ∷ given ∷ []) = if bytes_eq command (codes "give") then Some given else None
given_in _ = None

-- the line gives a block under a word under which an earlier one does
abbrev pub is_given_before : List (List (List ℕ)) → List (List ℕ) → Bool
is_given_before before words = option_map_or (λ given. list_any (bytes_eq given) (filter_map given_in before)) (given_in words) false

-- whether a why holds of a line
abbrev pub holds : Why → Position → Cut → Bool
holds NotPlain position l = not (is_plain l)
holds NotTrace first l = not (bytes_eq l.text (codes "mzone-trace 1"))
holds NotSpace second l = is_none (profile_in (words_of l.text))
holds OutOfPlace (later callers before) l = is_out_of_place before (words_of l.text)
holds GivenBefore (later callers before) l = is_given_before before (words_of l.text)
holds y (later callers before) l = word_holds callers (words_of l.text) y
holds _ _ l = false

-- the whys in their order
abbrev pub whys : List Why
whys = NotPlain ∷ NotTrace ∷ NotSpace ∷ EmptyWord ∷ UnknownCommand ∷ WrongCount ∷ NotNumber ∷ NoSuchCaller ∷ NotName ∷ BeyondLimits ∷ OutOfPlace ∷ GivenBefore ∷ []

-- the first that holds of a line
abbrev pub why_of : Position → Cut → Option Why
why_of position l = find (λ y. holds y position l) whys

-- a line's number, with the first why that holds of it
abbrev pub BadLine : Type 0
BadLine = ℕ × Why

-- the first bad line among later ones, of which the first has this number
abbrev pub bad_later : ℕ → List (List (List ℕ)) → ℕ → List Cut → Option BadLine
bad_later callers before number [] = None
bad_later callers before number (l ∷ ls) =
    option_map_or (λ y. Some (number, y)) (why_of (later callers before) l) (bad_later callers (words_of l.text ∷ before) (number + 1) ls)

-- the callers of the profile in line 2
abbrev pub callers_in : Cut → ℕ
callers_in l = option_map_or (λ p. p.callers) (profile_in (words_of l.text)) 0

-- The first bad line of a text, and its first why. A first or second line that is missing is bad.
abbrev pub bad_line : List Cut → Option BadLine
bad_line [] = Some (1, NotTrace)
bad_line (l ∷ []) = option_map_or (λ y. Some (1, y)) (why_of first l) (Some (2, NotSpace))
bad_line (l ∷ m ∷ ls) =
    option_map_or (λ y. Some (1, y)) (why_of first l) (option_map_or (λ y. Some (2, y)) (why_of second m) (bad_later (callers_in m) [] 3 ls))

abbrev pub bad_line_of : List ℕ → Option BadLine
bad_line_of bytes = bad_line (cuts bytes)

-- The number of the bad line, and the number of its first why.
pub record TellsBadLine (bad : Option BadLine) (line why : ℕ) : Type 0 where
  pub first : Why
  pub bad_line : bad ≡ Some (line, first)
  pub number : why ≡ why_number first

-- the fault that is answered tells the first bad line with its why, or memory ran out
abbrev pub Fails : Option BadLine → TraceFault → Type 0
Fails bad NoMemory = Unit {0}
Fails bad (Bad line why) = TellsBadLine bad line why
